-- What the tally of a model answers is the lowest check broken. Assumes nothing.
use mathlib.Core.Path.{◌≡◌, refl, ◌∙◌, ap, ap₂}
use mathlib.Core.Bool.{Bool, true, not, ◌&&◌}
use mathlib.Core.List.{List}
use Prim.Native.Nat.{ℕ, ◌+◌, ◌≤◌, ◌<◌}
use native.Mathlib.Omega.{arith}
use lib.Dec.{eqb}
use lib.ListN.{get_or}
use Rattle.base_words.specs.Each.{total, each}
use Rattle.base_words.specs.Pick.{if◌then◌or_else◌}
use Rattle.base_words.specs.Sum.{sum, hit, one_if}
use Rattle.base_words.specs.Words.{at}
use Rattle.base_words.specs.Counts.{pool_numbers, names}
use Rattle.check_tally.specs.Tally.{no_region, one_region, apart, capped}
use Rattle.check_tally.proofs.TallyLaws.{eqb-capped}
use Rattle.check_tally.proofs.RegionLaws.{sum_one, tallied-at, once, once_in_lem, each_none}
use Rattle.check_summary.specs.Summary.{summary}
use Rattle.check_model.specs.Checks.{Pool, check1, check2, check3, check4, check5, pool_receives, not_sent_there, check6, check7, check8, one_start, start_receives, edges_meet, tasks_differ, names_apart, one_default, binds_differ, checks, lowest}
use Rattle.check_answers.specs.Answers.{receives_by, kept_by}
use Rattle.check_answers.proofs.AnswerLaws.{by_2, by_3, by_4, by_5, receives_by_lem, by_6, by_7, by_8}
use Rattle.check_verdict.specs.Verdict.{numbers_from, names_from, broken_from, model_words, name_if, names_region, broken_if, broken_region, summary_regions, pool_regions, model_tally, numbers_differ_in, kept_in, names_apart_in, lowest_in}

regions_apart : (p : Pool) → apart 0 (pool_regions p) ≡ true
unfolding apart pool_regions summary_regions one_region names_region broken_region
regions_apart p = refl

-- region i of a model's tally
module _ (i from most e : ℕ) (g : Pool → ℕ) where
  model_at : ((p : Pool) → (get_or (pool_regions p) i no_region).from ≡ from) → ((p : Pool) → (get_or (pool_regions p) i no_region).most ≡ most) →
      0 < e → e ≤ most → from + e < model_words →
      ((p : Pool) → sum (λ j. hit ((get_or (pool_regions p) i no_region).number j) e) (get_or (pool_regions p) i no_region).many ≡ g p) →
      (ps : List Pool) → at (model_tally ps) (from + e) ≡ capped (total g ps)
  unfolding model_tally
  model_at f m h l z q ps = tallied-at model_words pool_regions i from e g regions_apart f h (λ p. rw (m p) l) z q ps

numbers_at : (k : ℕ) → k < pool_numbers → (ps : List Pool) → at (model_tally ps) (numbers_from + (k + 1)) ≡ capped (total (λ p. hit p.number (k + 1)) ps)
unfolding pool_regions summary_regions one_region
numbers_at k h =
    model_at 0 numbers_from pool_numbers (k + 1) (λ p. hit p.number (k + 1)) (λ p. refl) (λ p. refl) (omega arith) (omega arith) (omega arith)
    (λ p. sum_one p.number (k + 1))

names_at : (m : ℕ) → m < names → (ps : List Pool) → at (model_tally ps) (names_from + (m + 1)) ≡ capped (total (λ p. one_if (pool_receives m p)) ps)
unfolding pool_regions summary_regions names_region name_if
names_at m h =
    model_at 1 names_from names (m + 1) (λ p. one_if (pool_receives m p)) (λ p. refl) (λ p. refl) (omega arith) (omega arith) (omega arith)
    (λ p. once (receives_by (summary p.elements)) m names h ∙ ap one_if (receives_by_lem p m h))

broken_at : (k : ℕ) → k < checks → (ps : List Pool) →
    at (model_tally ps) (broken_from + (k + 1)) ≡ capped (total (λ p. one_if (not (kept_by p.limit (summary p.elements) (k + 1)))) ps)
unfolding pool_regions summary_regions broken_region broken_if
broken_at k h =
    model_at 2 broken_from checks (k + 1) (λ p. one_if (not (kept_by p.limit (summary p.elements) (k + 1)))) (λ p. refl) (λ p. refl) (omega arith) (omega arith) (omega arith)
    (λ p. once (λ j. not (kept_by p.limit (summary p.elements) (j + 1))) k checks h)

-- a check that each pool keeps by itself
kept_by_lem : (k : ℕ) → k < checks → (f : Pool → Bool) → ((p : Pool) → kept_by p.limit (summary p.elements) (k + 1) ≡ f p) →
    (ps : List Pool) → kept_in (model_tally ps) (k + 1) ≡ each f ps
unfolding kept_in
kept_by_lem k h f same ps =
    ap (λ n. eqb n 0) (broken_at k h ps)
    ∙ eqb-capped (total (λ p. one_if (not (kept_by p.limit (summary p.elements) (k + 1)))) ps) 0 (omega arith)
    ∙ each_none f (λ p. one_if (not (kept_by p.limit (summary p.elements) (k + 1)))) ps (λ p. ap (λ b. one_if (not b)) (same p))

module _ (ps : List Pool) where
  abbrev t : List ℕ
  t = model_tally ps

  is_1 : numbers_differ_in t ≡ check1 ps
  unfolding numbers_differ_in check1
  is_1 = once_in_lem t numbers_from pool_numbers (λ k. total (λ p. hit p.number (k + 1)) ps) (λ k h. numbers_at k h ps)

  is_2 : kept_in t one_start ≡ each check2 ps
  unfolding kept_by if◌then◌or_else◌
  is_2 = kept_by_lem 1 (omega arith) check2 by_2 ps

  is_3 : kept_in t start_receives ≡ each check3 ps
  unfolding kept_by if◌then◌or_else◌
  is_3 = kept_by_lem 2 (omega arith) check3 by_3 ps

  is_4 : kept_in t edges_meet ≡ each check4 ps
  unfolding kept_by if◌then◌or_else◌
  is_4 = kept_by_lem 3 (omega arith) check4 by_4 ps

  is_5 : kept_in t tasks_differ ≡ each check5 ps
  unfolding kept_by if◌then◌or_else◌
  is_5 = kept_by_lem 4 (omega arith) check5 by_5 ps

  own_6 : kept_in t names_apart ≡ each not_sent_there ps
  unfolding kept_by if◌then◌or_else◌
  own_6 = kept_by_lem 5 (omega arith) not_sent_there by_6 ps

  is_6 : names_apart_in t ≡ check6 ps
  unfolding names_apart_in check6
  is_6 = ap₂ ◌&&◌ (once_in_lem t names_from names (λ m. total (λ p. one_if (pool_receives m p)) ps) (λ m h. names_at m h ps)) own_6

  is_7 : kept_in t one_default ≡ each check7 ps
  unfolding kept_by if◌then◌or_else◌
  is_7 = kept_by_lem 6 (omega arith) check7 by_7 ps

  is_8 : kept_in t binds_differ ≡ each check8 ps
  unfolding kept_by if◌then◌or_else◌
  is_8 = kept_by_lem 7 (omega arith) check8 by_8 ps

  pub lowest_by : lowest_in t ≡ lowest ps
  unfolding lowest_in lowest
  lowest_by = rw (is_1, is_2, is_3, is_4, is_5, is_6, is_7, is_8)
