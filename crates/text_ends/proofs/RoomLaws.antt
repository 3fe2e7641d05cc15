-- The notes of a pool: they hold the counts, and say whether there is room. Assumes nothing.
use Prim.Native.Nat.{ℕ, zero, suc, ◌+◌, ◌≤◌, ◌<◌}
use mathlib.Core.Path.{◌≡◌, refl, sym, ◌∙◌, ap, ap₂}
use mathlib.Core.Bool.{Bool, true, false, ◌&&◌}
use mathlib.Core.List.{List, [], ◌∷◌, ◌++◌}
use native.Mathlib.Nat.{zero-add}
use native.Mathlib.Omega.{arith}
use lib.Dec.{eqb, leb, ltb}
use lib.ListN.{length, set, get_or, replicate, length-append, length-set, length-replicate}
use lib.Seq.{get_or-set_same, get_or-set_other}
use borrow.Author.Tests.{le-leb, lt-leb, lt-ltb, eq-eqb, ne_eqb}
use Rattle.base_words.specs.Counts.{elements, branches, edges}
use Rattle.base_words.specs.Each.{total, each}
use Rattle.base_words.specs.Pick.{if◌then◌or_else◌}
use Rattle.base_words.specs.Sum.{hit, one_if}
use Rattle.base_words.specs.Words.{at, greatest}
use Rattle.base_words.proofs.EachLaws.{total_append}
use Rattle.base_words.proofs.PickLaws.{and_yes, and_no, pick_yes}
use Rattle.base_words.proofs.SumLaws.{sum_ext}
use Rattle.base_table.specs.Places.{entries_place, exits_place}
use Rattle.check_tally.specs.Tally.{Region, marked, tally, region_marks, count, capped}
use Rattle.check_tally.proofs.TallyLaws.{tally_at, length_marked, eqb-capped}
use Rattle.check_tally.proofs.RegionLaws.{count_in_lem, count_out}
use Rattle.check_summary.specs.Summary.{edge_region}
use Rattle.text_ends.specs.Rewriting.{is_end_snd, times_in, mentioned, is_unused, end_sends, unused_count, room_for}
use Rattle.text_ends.specs.Room.{count_in, ends_in, used_from, noted_words, ends_with, count_noted, element_noted, free_by, room_by}
use Rattle.base_words.specs.Words.{one_more}

-- THE CODE: e, f, c are what calls say of the notes s
module _ (s : List ℕ) (e f : ℕ) (p : e ≡ at s ends_in) (q : f ≡ free_by s) where
  pub no_edges : f < e → leb e f ≡ room_by s
  unfolding room_by
  no_edges h = lt-leb e f h ∙ and_no _ _ (lt-leb (at s ends_in) (free_by s) (omega arith))

  pub room_whole : (c : ℕ) → c ≡ at s count_in → e ≤ f → leb (c + e) elements ≡ room_by s
  unfolding room_by
  room_whole c r h = and_yes _ _ _ (le-leb (at s ends_in) (free_by s) (omega arith)) (ap₂ (λ a b. leb (a + b) elements) r p)

-- THE COUNTS
pub untouched : (s ks : List ℕ) (k : ℕ) → count k ks ≡ 0 → at (tally s ks) k ≡ at s k
unfolding tally total marked
untouched s [] k h = refl
untouched s (j ∷ ks) k h =
    untouched (marked s j) ks k (omega arith)
    ∙ get_or-set_other s j k _ 0 (λ e. let z : hit j k ≡ 1 = ap one_if (eq-eqb j k (sym e)) in omega arith)

pub long_tally : (s ks : List ℕ) → length (tally s ks) ≡ length s
unfolding tally
long_tally s [] = refl
long_tally s (k ∷ ks) = long_tally (marked s k) ks ∙ length_marked s k

pub few_ends : (els : List (List ℕ)) → end_sends els ≤ length els
unfolding end_sends total
few_ends [] = omega arith
few_ends (x ∷ els) = go (is_end_snd x) (few_ends els)
  where
    go : (b : Bool) → total (λ el. one_if (is_end_snd el)) els ≤ length els → one_if b + total (λ el. one_if (is_end_snd el)) els ≤ suc (length els)
    go true h = omega arith
    go false h = omega arith

-- what the notes s say of the elements so far
pub record Noted (els : List (List ℕ)) (s : List ℕ) : Type 0 where
  pub long : noted_words ≤ length s
  pub counts : at s count_in ≡ length els
  pub ends : at s ends_in ≡ end_sends els
  pub used : (e : ℕ) → 0 < e → e ≤ edges → at s (used_from + e) ≡ capped (total (mentioned e) els)

pub noted_none : (n : ℕ) → noted_words ≤ n → Noted [] (replicate n 0)
unfolding end_sends total capped
noted_none n h = record { long = rw (length-replicate {A = ℕ}) h; counts = zeros n count_in; ends = zeros n ends_in; used = λ e a b. zeros n (used_from + e) }
  where
    zeros : (n k : ℕ) → ◌≡◌ {A = ℕ} (get_or (replicate n 0) k 0) 0
    zeros zero k = refl
    zeros (suc n) zero = refl
    zeros (suc n) (suc k) = zeros n k

module _ (els : List (List ℕ)) (x s : List ℕ) (h : Noted els s) (few : length els < greatest) where
  abbrev s₁ : List ℕ
  s₁ = count_noted (length els + 1) x s

  abbrev before : Region
  before = edge_region used_from x entries_place branches

  abbrev behind : Region
  behind = edge_region used_from x exits_place branches

  abbrev s₂ : List ℕ
  s₂ = tally s₁ (region_marks before)

  long₁ : length s₁ ≡ length s
  unfolding count_noted
  long₁ = length-set (set s count_in (length els + 1)) ends_in _ ∙ length-set s count_in _

  one_more_lem : (b : Bool) → (if b then one_more (at s ends_in) or_else at s ends_in) ≡ end_sends els + one_if b
  unfolding if◌then◌or_else◌ one_more
  one_more_lem true =
      let l : end_sends els < greatest = omega (arith, few_ends els) in
      sym (pick_yes (ltb (at s ends_in) greatest) _ _ _ (lt-ltb (at s ends_in) greatest (omega (arith, h.ends))) refl) ∙ ap (λ n. n + 1) h.ends
  one_more_lem false = h.ends ∙ (let z : end_sends els ≡ end_sends els + 0 = omega arith in z)

  plus_one : (f : List ℕ → ℕ) → total f (els ++ (x ∷ [])) ≡ total f els + f x
  unfolding total
  plus_one f = total_append f els (x ∷ []) ∙ (let z : total f els + (f x + 0) ≡ total f els + f x = omega arith in z)

  outside : (list k : ℕ) → k < used_from → count k (region_marks (edge_region used_from x list branches)) ≡ 0
  unfolding edge_region
  outside list k l = count_out (edge_region used_from x list branches) k (λ a b. omega arith)

  inside : (list e : ℕ) → 0 < e → e ≤ edges → count (used_from + e) (region_marks (edge_region used_from x list branches)) ≡ times_in x list e
  unfolding edge_region times_in
  inside list e a b = count_in_lem (edge_region used_from x list branches) e a b

  same : (k : ℕ) → k < used_from → at (element_noted (length els + 1) x s) k ≡ at s₁ k
  unfolding element_noted
  same k l = untouched s₂ (region_marks behind) k (outside exits_place k l) ∙ untouched s₁ (region_marks before) k (outside entries_place k l)

  kept : (k : ℕ) → ends_in < k → at s₁ k ≡ at s k
  unfolding count_noted
  kept k l = get_or-set_other (set s count_in (length els + 1)) ends_in k _ 0 (λ e. omega arith) ∙ get_or-set_other s count_in k _ 0 (λ e. omega arith)

  pub noted_more : Noted (els ++ (x ∷ [])) (element_noted (length els + 1) x s)
  noted_more =
      record {
        long = omega (arith, h.long, long₃);
        counts = same count_in (omega arith) ∙ first ∙ sym (length-append els (x ∷ []));
        ends = same ends_in (omega arith) ∙ second ∙ one_more_lem (is_end_snd x) ∙ sym (unfold end_sends in plus_one (λ el. one_if (is_end_snd el)));
        used = λ e a b. third e a b;
      }
    where
      long₃ : length (element_noted (length els + 1) x s) ≡ length s
      long₃ = unfold element_noted in long_tally s₂ (region_marks behind) ∙ long_tally s₁ (region_marks before) ∙ long₁

      first : at s₁ count_in ≡ length els + 1
      first =
          unfold count_noted in
          get_or-set_other (set s count_in (length els + 1)) ends_in count_in _ 0 (λ e. omega arith) ∙ get_or-set_same s count_in (length els + 1) 0 (omega (arith, h.long))

      second : at s₁ ends_in ≡ (if is_end_snd x then one_more (at s ends_in) or_else at s ends_in)
      second = unfold count_noted ends_with in get_or-set_same (set s count_in (length els + 1)) ends_in _ 0 (omega (arith, h.long, length-set s count_in (length els + 1)))

      third : (e : ℕ) → 0 < e → e ≤ edges → at (element_noted (length els + 1) x s) (used_from + e) ≡ capped (total (mentioned e) (els ++ (x ∷ [])))
      third e a b =
          unfold element_noted mentioned in
          tally_at s₂ (region_marks behind) (used_from + e) (total (mentioned e) els + times_in x entries_place e) (omega (arith, h.long, long₁, long_tally s₁ (region_marks before)))
          (tally_at s₁ (region_marks before) (used_from + e) (total (mentioned e) els) (omega (arith, h.long, long₁)) (kept (used_from + e) (omega arith) ∙ h.used e a b)
          ∙ ap (λ n. capped (total (mentioned e) els + n)) (inside entries_place e a b))
          ∙ ap capped
          (ap (λ n. total (mentioned e) els + times_in x entries_place e + n) (inside exits_place e a b)
          ∙ (let z : total (mentioned e) els + times_in x entries_place e + times_in x exits_place e ≡ total (mentioned e) els + (times_in x entries_place e + times_in x exits_place e) = omega arith in z)
          ∙ sym (plus_one (mentioned e)))

-- WHETHER THERE IS ROOM
pub total-zero : (f : List ℕ → ℕ) (els : List (List ℕ)) → eqb (total f els) 0 ≡ each (λ el. eqb (f el) 0) els
unfolding total each
total-zero f [] = refl
total-zero f (x ∷ els) = go (f x) (total-zero f els)
  where
    go : (n : ℕ) → eqb (total f els) 0 ≡ each (λ el. eqb (f el) 0) els → eqb (n + total f els) 0 ≡ eqb n 0 && each (λ el. eqb (f el) 0) els
    go zero e = ap (λ n. eqb n 0) (zero-add (total f els)) ∙ e
    go (suc n) e = ne_eqb (suc n + total f els) 0 (λ q. omega arith) ∙ ap (λ b. b && each (λ el. eqb (f el) 0) els) (sym (ne_eqb (suc n) 0 (λ q. omega arith)))

module _ (els : List (List ℕ)) (s : List ℕ) (h : Noted els s) where
  free_is : free_by s ≡ unused_count els
  unfolding free_by unused_count is_unused
  free_is =
      sum_ext _ _ edges (λ k l. ap one_if
      (ap (λ n. eqb n 0) (h.used (k + 1) (omega arith) (omega arith)) ∙ eqb-capped (total (mentioned (k + 1)) els) 0 (omega arith) ∙ total-zero (mentioned (k + 1)) els))

  pub room_is : room_by s ≡ room_for els
  unfolding room_by room_for
  room_is = ap₂ ◌&&◌ (ap₂ leb h.ends free_is) (ap₂ (λ a b. leb (a + b) elements) h.counts h.ends)
