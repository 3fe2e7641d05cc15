-- The bytes of an element by its kind and the numbers of its entries and exits, and of a pool's elements together: three bounds, by how many splits and joins there are. Assumes nothing.
use Prim.Native.Nat.{ℕ, zero, suc, ◌+◌, ◌*◌, ◌≤◌, ◌<◌}
use mathlib.Core.Path.{◌≡◌, refl, sym, ◌∙◌, ap}
use mathlib.Core.Bool.{Bool, true, not, ◌&&◌, false≢true}
use mathlib.Core.List.{List}
use native.Mathlib.Omega.{arith}
use lib.Dec.{eqb, leb, ltb}
use lib.ListN.{length, get_or-eq_default}
use borrow.Author.Tests.{leb-true, ltb-true, ltb-false}
use Rattle.std.proofs.lemmas.Bool.{and_from}
use Rattle.base_words.specs.All.{all}
use Rattle.base_words.specs.Pick.{if◌then◌or_else◌}
use Rattle.base_words.specs.Sum.{sum, hit}
use Rattle.base_words.specs.Words.{at}
use Rattle.base_words.specs.Counts.{branches}
use Rattle.base_words.proofs.AllLaws.{all_at, and_left, and_right}
use Rattle.base_kinds.specs.declared.Kind.{Kind}
use Rattle.base_kinds.specs.Kinds.{many, start, start_rcv, no_kind, kinds, kind_of}
use Rattle.base_table.specs.Places.{entries_place, exits_place}
use Rattle.base_table.specs.Table.{kind_in}
use Rattle.check_limits.specs.Limits.{count_fits, element_fits}
use Rattle.proof_steps.proofs.Choices.{by_test, chosen_true}
use Rattle.proof_lengths.proofs.FewParts.{entries_fit, exits_fit, entries_few, exits_few}
use Rattle.proof_lengths.proofs.ElementShort.{part_most, parts_most, plain_most}

-- of kind k: a start, a join, a split, a task
abbrev pub starts : ℕ → ℕ
starts k = hit k start + hit k start_rcv

abbrev pub joins : ℕ → ℕ
joins k = hit (kind_of k).entries many

abbrev pub splits : ℕ → ℕ
splits k = hit (kind_of k).exits many

abbrev pub works : ℕ → ℕ
works k = (kind_of k).task

-- its bytes, with one figure of each edge and of the task's number
abbrev pub weight : ℕ → ℕ → ℕ → ℕ
weight k m n = plain_most k m n + m + n + works k

-- Three bounds, linear in what is counted: where splits are few; where joins are few, so that exits are; and else. An interSnd weighs 107, a task 246, a split of 8 exits 790, 97 of them for each exit; a join of m entries 13 + 2 m, a startRcv 105.
few_splits : ℕ → ℕ → ℕ → Bool
few_splits k m n = leb (weight k m n) (107 + 139 * works k + 683 * splits k)

few_joins : ℕ → ℕ → ℕ → Bool
few_joins k m n = leb (weight k m n + 97 * m + 89 * splits k + 189 * starts k) (97 * n + 200 + 46 * works k + 508 * joins k)

many_both : ℕ → ℕ → ℕ → Bool
many_both k m n = leb (weight k m n + 185 * joins k + 89 * splits k + 93 * starts k) (97 * n + 2 * m + 101 + 46 * works k)

-- computed for each kind, and for each number of entries and exits that it may have
weighed : ℕ → ℕ → ℕ → Bool
weighed k m n = if count_fits (kind_of k).entries m && count_fits (kind_of k).exits n then few_splits k m n && (few_joins k m n && many_both k m n) or_else true

all_weighed : all (λ k. all (λ m. all (weighed k m) (suc branches)) (suc branches)) 16 ≡ true
unfolding weighed few_splits few_joins many_both kind_of all if◌then◌or_else◌ count_fits part_most parts_most
all_weighed = refl

-- AN ELEMENT
module _ (el : List ℕ) (fits : element_fits el ≡ true) where
  abbrev k : ℕ
  k = kind_in el

  abbrev m : ℕ
  m = at el entries_place

  abbrev n : ℕ
  n = at el exits_place

  -- its kind is one of the table
  kind_known : k < length kinds
  unfolding element_fits kind_of
  kind_known =
      by_test (ltb k (length kinds)) (ltb-true k (length kinds))
      (λ e.
      let out : kind_of k ≡ no_kind = get_or-eq_default kinds no_kind (ltb-false k (length kinds) e) in
      absurd (false≢true (sym (ap (λ (r : Kind). not (eqb r.letters 0)) out) ∙ and_left (not (eqb (kind_of k).letters 0)) _ fits)))

  all_three : few_splits k m n && (few_joins k m n && many_both k m n) ≡ true
  unfolding weighed
  all_three =
      let here = all_at (λ j. all (λ m. all (weighed j m) (suc branches)) (suc branches)) 16 all_weighed k kind_known in
      let there = all_at (λ m. all (weighed k m) (suc branches)) (suc branches) here m (omega (arith, entries_few el fits)) in
      chosen_true _ _ true (all_at (weighed k m) (suc branches) there n (omega (arith, exits_few el fits)))
      (and_from (count_fits (kind_of k).entries m) (count_fits (kind_of k).exits n) (entries_fit el fits) (exits_fit el fits))

  pub few_splits_lem : weight k m n ≤ 107 + 139 * works k + 683 * splits k
  unfolding few_splits
  few_splits_lem = leb-true _ _ (and_left (few_splits k m n) (few_joins k m n && many_both k m n) all_three)

  pub few_joins_lem : weight k m n + 97 * m + 89 * splits k + 189 * starts k ≤ 97 * n + 200 + 46 * works k + 508 * joins k
  unfolding few_joins
  few_joins_lem = leb-true _ _ (and_left (few_joins k m n) (many_both k m n) (and_right (few_splits k m n) (few_joins k m n && many_both k m n) all_three))

  pub both_many : weight k m n + 185 * joins k + 89 * splits k + 93 * starts k ≤ 97 * n + 2 * m + 101 + 46 * works k
  unfolding many_both
  both_many = leb-true _ _ (and_right (few_joins k m n) (many_both k m n) (and_right (few_splits k m n) (few_joins k m n && many_both k m n) all_three))

-- ELEMENTS TOGETHER: c of them, w their weights, m entries, n exits, t tasks, j joins, v splits, a starts
module _ (w m n t j v a : ℕ → ℕ) where
  pub together_splits : (c : ℕ) → ((e : ℕ) → e < c → w e ≤ 107 + 139 * t e + 683 * v e) → sum w c ≤ 107 * c + 139 * sum t c + 683 * sum v c
  unfolding sum
  together_splits zero h = omega arith
  together_splits (suc c) h = omega (arith, together_splits c (λ e l. h e (omega arith)), h c (omega arith))

  pub together_joins : (c : ℕ) → ((e : ℕ) → e < c → w e + 97 * m e + 89 * v e + 189 * a e ≤ 97 * n e + 200 + 46 * t e + 508 * j e) → sum w c + 97 * sum m c + 89 * sum v c + 189 * sum a c ≤ 97 * sum n c + 200 * c + 46 * sum t c + 508 * sum j c
  unfolding sum
  together_joins zero h = omega arith
  together_joins (suc c) h = omega (arith, together_joins c (λ e l. h e (omega arith)), h c (omega arith))

  pub together_both : (c : ℕ) → ((e : ℕ) → e < c → w e + 185 * j e + 89 * v e + 93 * a e ≤ 97 * n e + 2 * m e + 101 + 46 * t e) → sum w c + 185 * sum j c + 89 * sum v c + 93 * sum a c ≤ 97 * sum n c + 2 * sum m c + 101 * c + 46 * sum t c
  unfolding sum
  together_both zero h = omega arith
  together_both (suc c) h = omega (arith, together_both c (λ e l. h e (omega arith)), h c (omega arith))

-- THE WEIGHT OF A POOL: at most 32 elements, 48 entries, no more exits than entries, 16 tasks, and one start
abbrev pub weight_most : ℕ
weight_most = 7716

pub bounded : (w m n t j v a c : ℕ) → c ≤ 32 → m ≤ 48 → n ≤ m → t ≤ 16 → a ≡ 1
    → w ≤ 107 * c + 139 * t + 683 * v → w + 97 * m + 89 * v + 189 * a ≤ 97 * n + 200 * c + 46 * t + 508 * j → w + 185 * j + 89 * v + 93 * a ≤ 97 * n + 2 * m + 101 * c + 46 * t
    → w ≤ weight_most
bounded w m n t j v a c few-c few-m few-n few-t one-a splits-few joins-few both =
    by_test (ltb v 4)
    (λ e. let l = ltb-true v 4 e in omega arith)
    (λ e. let l = ltb-false v 4 e in by_test (ltb j 3) (λ f. let i = ltb-true j 3 f in omega arith) (λ f. let i = ltb-false j 3 f in omega arith))
