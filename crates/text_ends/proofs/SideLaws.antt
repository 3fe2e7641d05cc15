-- A pool's summary with its notes behind it, and a model's tally with a word behind it: what is marked before leaves what stands behind, and the other way round. Assumes nothing.
use Prim.Native.Nat.{ℕ, zero, suc, ◌+◌, ◌≤◌, ◌<◌}
use mathlib.Core.Path.{◌≡◌, refl, sym, ◌∙◌, ap, ap₂}
use mathlib.Core.Bool.{Bool, true, false, ◌&&◌}
use mathlib.Core.List.{List, [], ◌∷◌, ◌++◌}
use native.Mathlib.Omega.{arith}
use lib.Dec.{eqb, leb, ltb}
use lib.ListN.{length, set, take, replicate, length-set, length-replicate}
use lib.Seq.{get_or-set_same, get_or-take, set_out, take-set-le, take-set-lt}
use borrow.Author.Tests.{ltb-true, ltb-false}
use Rattle.base_words.specs.Counts.{branches}
use Rattle.base_words.specs.Each.{total, each, tab}
use Rattle.base_words.specs.Pick.{if◌then◌or_else◌}
use Rattle.base_words.specs.Sum.{hit}
use Rattle.base_words.specs.Words.{at, greatest}
use Rattle.base_words.proofs.AllLaws.{and_left, and_right}
use Rattle.base_words.proofs.EachLaws.{total_append, each_append}
use Rattle.base_table.specs.Places.{entries_place, exits_place}
use Rattle.check_tally.specs.Tally.{Region, one_region, more, marked, tally, place, region_marks, marks_of, count}
use Rattle.check_tally.proofs.TallyLaws.{tally_none, tally-more, tallied_none, tallied-more}
use Rattle.check_tally.proofs.RegionLaws.{count_out}
use Rattle.check_summary.specs.Summary.{summary_words, edge_region, name_region, edge_regions, head_regions, name_regions, flag_regions, regions, summary}
use Rattle.check_model.specs.Checks.{Pool}
use Rattle.check_verdict.specs.Verdict.{model_words, names_region, broken_region, summary_regions, pool_regions, model_tally}
use Rattle.text_ends.specs.Rewriting.{has_room}
use Rattle.text_ends.specs.Room.{count_in, ends_in, used_from, noted_words, room_in, judged_words, count_noted, element_noted, room_by, room_noted}
use Rattle.text_ends.proofs.RoomLaws.{Noted, noted_none, noted_more, room_is, untouched, long_tally}

take_short : (n : ℕ) (s : List ℕ) → length (take n s) ≤ n
take_short zero s = omega arith
take_short (suc n) [] = omega arith
take_short (suc n) (x ∷ s) = omega (arith, take_short n s)

take_zeros : (n m : ℕ) → n ≤ m → take {A = ℕ} n (replicate m 0) ≡ replicate n 0
take_zeros zero m h = refl
take_zeros (suc n) zero h = absurd (omega arith)
take_zeros (suc n) (suc m) h = ap (λ l. 0 ∷ l) (take_zeros n m (omega arith))

-- the first n words are marked as they are by themselves
take-marked : (n : ℕ) (s : List ℕ) (k : ℕ) → take n (marked s k) ≡ marked (take n s) k
unfolding marked
take-marked n s k = go (ltb k n) refl
  where
    go : (b : Bool) → ltb k n ≡ b → take n (set s k (more (at s k))) ≡ set (take n s) k (more (at (take n s) k))
    go true e =
        let l = ltb-true k n e in
        take-set-lt n s k (more (at s k)) l ∙ ap (λ v. set (take n s) k (more v)) (sym (get_or-take n s k 0 l))
    go false e =
        let l = ltb-false k n e in
        take-set-le n s k (more (at s k)) l ∙ sym (set_out (take n s) k (more (at (take n s) k)) (omega (arith, take_short n s)))

take-tally : (n : ℕ) (s ks : List ℕ) → take n (tally s ks) ≡ tally (take n s) ks
unfolding tally
take-tally n s [] = refl
take-tally n s (k ∷ ks) = take-tally n (marked s k) ks ∙ ap (λ z. tally z ks) (take-marked n s k)

-- marks behind the end of a list are lost
place_from : (from most v : ℕ) → from ≤ place from most v
unfolding place
place_from from most v = go (leb v most)
  where
    go : (b : Bool) → from ≤ (if b then from + v or_else from)
    go true = unfold if◌then◌or_else◌ in omega arith
    go false = unfold if◌then◌or_else◌ in omega arith

out_tab : (s : List ℕ) (f : ℕ → ℕ) → ((j : ℕ) → length s ≤ f j) → (n : ℕ) → s ≡ tally s (tab f n)
unfolding marked
out_tab s f h zero = tally_none f s
out_tab s f h (suc n) = tally-more f s n (f n) s s (out_tab s f h n) refl (sym (set_out s (f n) (more (at s (f n))) (h n))) ∙ ap (λ k. tally s (tab f k)) (let z : n + 1 ≡ suc n = omega arith in z)

out_region : (s : List ℕ) (r : Region) → length s ≤ r.from → tally s (region_marks r) ≡ s
unfolding region_marks
out_region s r h = sym (out_tab s (λ j. place r.from r.most (r.number j)) (λ j. omega (arith, place_from r.from r.most (r.number j))) r.many)

-- marks of regions that end before a place leave it
beyond : (rs : List Region) (n k : ℕ) → each (λ r. ltb (r.from + r.most) n) rs ≡ true → n ≤ k → count k (marks_of rs) ≡ 0
unfolding each marks_of total
beyond [] n k e h = refl
beyond (r ∷ rs) n k e h =
    let l = ltb-true (r.from + r.most) n (and_left _ (each (λ r. ltb (r.from + r.most) n) rs) e) in
    total_append (λ x. hit x k) (region_marks r) (marks_of rs)
    ∙ ap₂ ◌+◌ (count_out r k (λ f t. omega arith)) (beyond rs n k (and_right (ltb (r.from + r.most) n) _ e) h)

-- A SUMMARY WITH ITS NOTES
take_noted : (n : ℕ) (x s : List ℕ) → take summary_words (element_noted n x s) ≡ take summary_words s
unfolding element_noted count_noted edge_region
take_noted n x s =
    let before : List ℕ = region_marks (edge_region used_from x entries_place branches) in
    let behind : List ℕ = region_marks (edge_region used_from x exits_place branches) in
    let y : List ℕ = take summary_words s in
    let short : length y ≤ summary_words = take_short summary_words s in
    take-tally summary_words (tally (count_noted n x s) before) behind
    ∙ ap (λ z. tally z behind)
    (take-tally summary_words (count_noted n x s) before
    ∙ ap (λ z. tally z before) (take-set-le summary_words (set s count_in n) ends_in _ (omega arith) ∙ take-set-le summary_words s count_in n (omega arith))
    ∙ out_region y (edge_region used_from x entries_place branches) (omega (arith, short)))
    ∙ out_region y (edge_region used_from x exits_place branches) (omega (arith, short))

-- what the first pass keeps of the elements so far
pub record Kept (els : List (List ℕ)) (s : List ℕ) : Type 0 where
  pub front : take summary_words s ≡ summary els
  pub notes : Noted els s

pub kept_none : Kept [] (replicate noted_words 0)
unfolding summary
kept_none = record { front = take_zeros summary_words noted_words (omega arith) ∙ tallied_none summary_words regions; notes = noted_none noted_words (omega arith) }

marks_before : (x : List ℕ) (k : ℕ) → summary_words ≤ k → count k (marks_of (regions x)) ≡ 0
unfolding each regions edge_regions head_regions name_regions flag_regions edge_region name_region one_region
marks_before x k h = beyond (regions x) summary_words k refl h

module _ (els : List (List ℕ)) (x s : List ℕ) (h : Kept els s) (few : length els < greatest) where
  abbrev marks : List ℕ
  marks = marks_of (regions x)

  still : Noted els (tally s marks)
  still =
      record {
        long = omega (arith, h.notes.long, long_tally s marks);
        counts = untouched s marks count_in (marks_before x count_in (omega arith)) ∙ h.notes.counts;
        ends = untouched s marks ends_in (marks_before x ends_in (omega arith)) ∙ h.notes.ends;
        used = λ e a b. untouched s marks (used_from + e) (marks_before x (used_from + e) (omega arith)) ∙ h.notes.used e a b;
      }

  pub kept_more : Kept (els ++ (x ∷ [])) (element_noted (length els + 1) x (tally s marks))
  unfolding summary
  kept_more =
      record {
        front = take_noted (length els + 1) x (tally s marks) ∙ take-tally summary_words s marks ∙ ap (λ z. tally z marks) h.front ∙ sym (tallied-more summary_words regions els x);
        notes = noted_more els x (tally s marks) still few;
      }

-- A MODEL'S TALLY WITH ITS WORD: what the first pass keeps of the pools so far
pub record Judged (ps : List Pool) (w : List ℕ) : Type 0 where
  pub long : length w ≡ judged_words
  pub front : take model_words w ≡ model_tally ps
  pub room : eqb (at w room_in) 0 ≡ each has_room ps

pub judged_none : Judged [] (replicate judged_words 0)
unfolding model_tally each
judged_none =
    record {
      long = length-replicate {A = ℕ} judged_words 0;
      front = take_zeros model_words judged_words (omega arith) ∙ tallied_none model_words pool_regions;
      room = refl;
    }

module _ (ps : List Pool) (p : Pool) (w s : List ℕ) (h : Judged ps w) (k : Kept p.elements s) where
  abbrev pool_marks : List ℕ
  pool_marks = marks_of (summary_regions p.number p.limit (take summary_words s))

  abbrev w₁ : List ℕ
  w₁ = tally w pool_marks

  marks_are : pool_marks ≡ marks_of (pool_regions p)
  unfolding pool_regions
  marks_are = ap (λ z. marks_of (summary_regions p.number p.limit z)) k.front

  before_room : count room_in pool_marks ≡ 0
  unfolding each summary_regions one_region names_region broken_region
  before_room = beyond (summary_regions p.number p.limit (take summary_words s)) model_words room_in refl (omega arith)

  front_is : take model_words w₁ ≡ model_tally (ps ++ (p ∷ []))
  unfolding model_tally
  front_is = take-tally model_words w pool_marks ∙ ap₂ tally h.front marks_are ∙ sym (tallied-more model_words pool_regions ps p)

  one_more_lem : (b : Bool) → has_room p ≡ b → each has_room (ps ++ (p ∷ [])) ≡ each has_room ps && b
  unfolding each
  one_more_lem b e = each_append has_room ps (p ∷ []) ∙ ap (λ c. each has_room ps && c) (ap (λ c. c && true) e ∙ and_so b)
    where
      and_so : (c : Bool) → c && true ≡ c
      and_so true = refl
      and_so false = refl

  pub judged_more : Judged (ps ++ (p ∷ [])) (room_noted s w₁)
  unfolding room_noted
  judged_more = go (room_by s) (unfold has_room in sym (room_is p.elements s k.notes))
    where
      none : (c : Bool) → c && false ≡ false
      none true = refl
      none false = refl

      all_so : (c : Bool) → c && true ≡ c
      all_so true = refl
      all_so false = refl

      go : (b : Bool) → has_room p ≡ b → Judged (ps ++ (p ∷ [])) (if b then w₁ or_else set w₁ room_in 1)
      go true e =
          unfold if◌then◌or_else◌ in
          record {
            long = long_tally w pool_marks ∙ h.long;
            front = front_is;
            room = ap (λ n. eqb n 0) (untouched w pool_marks room_in before_room) ∙ h.room ∙ sym (one_more_lem true e ∙ all_so (each has_room ps));
          }
      go false e =
          unfold if◌then◌or_else◌ in
          record {
            long = length-set w₁ room_in 1 ∙ long_tally w pool_marks ∙ h.long;
            front = take-set-le model_words w₁ room_in 1 (omega arith) ∙ front_is;
            room = ap (λ n. eqb n 0) (get_or-set_same w₁ room_in 1 0 (omega (arith, h.long, long_tally w pool_marks))) ∙ sym (one_more_lem false e ∙ none (each has_room ps));
          }
