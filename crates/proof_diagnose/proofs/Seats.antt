-- WHERE A CHECK IS BROKEN: with 4 and check 2 or 3 the thing told is a pool that breaks the check by itself. Assumes nothing.
use Prim.Native.Nat.{ℕ, zero, suc, ◌+◌, ◌<◌}
use mathlib.Core.Path.{◌≡◌, refl, sym, ◌∙◌, ap, ap₂}
use mathlib.Core.Bool.{Bool, true, false, not, ◌&&◌, false≢true}
use mathlib.Core.List.{List, [], ◌∷◌, ◌++◌}
use native.Mathlib.Omega.{arith}
use lib.Dec.{eqb, leb, ltb}
use lib.ListN.{length}
use borrow.Author.Tests.{eqb-true, ltb-true, lt-leb}
use Rattle.base_words.specs.Counts.{elements}
use Rattle.base_words.specs.Each.{joined, total, each}
use Rattle.base_words.specs.Pick.{if◌then◌or_else◌}
use Rattle.base_words.specs.Sum.{sum, hit, one_if}
use Rattle.base_words.proofs.EachLaws.{total_append}
use Rattle.base_words.proofs.PickLaws.{and_false_right}
use Rattle.base_kinds.specs.Kinds as kinds
use Rattle.base_table.specs.Table.{kind_in}
use Rattle.check_occurrences.specs.Occurrences.{of_kind}
use Rattle.check_model.specs.Checks.{Pool, check2, check3}
use Rattle.text_ends.specs.Rewriting.{is_end_snd, end_sends, unused_count, room_for, has_room}
use Rattle.draw_things.specs.Things.{is_node, sort, within, kind, branch, participant_multiplicity}
use Rattle.draw_kinds.specs.Counting.{within_in, first_with}
use Rattle.draw_numbers.specs.Who.{is_of_kind}
use Rattle.draw_numbers.specs.Numbers.{count_before, is_element, is_of, an_element, maximum_of}
use Rattle.draw_model.specs.Drawn.{element_drawn}
use Rattle.draw_model.specs.Content.{element_if, elements_of, limit_of, process_of, pool_drawn}
use Rattle.draw_diagnose.specs.Seats.{is_kind_in, count_kind, is_misstarted, is_many, is_unasked}
use Rattle.proof_map.proofs.Picked.{as_none, none_of, as_many}
use Rattle.proof_map.proofs.KindLaws.{kind_drawn}

not-not : (b : Bool) → b ≡ not (not b)
not-not true = refl
not-not false = refl

-- the elements of a kind are the nodes of that kind
module _ (t w : List ℕ) (n p c : ℕ) (plain : c < branch) where
  is_kind : (k : ℕ) → of_kind c (element_drawn t w n k) ≡ one_if (eqb (kind w k) c)
  unfolding of_kind
  is_kind k = ap (λ (v : ℕ). one_if (eqb v c)) (kind_drawn t w n k)

  one_kind : (k : ℕ) → total (of_kind c) (element_if t w n p k) ≡ one_if (is_kind_in c p w k)
  unfolding element_if is_element is_kind_in is_of_kind total if◌then◌or_else◌
  one_kind k = go (is_node (sort w k)) (eqb (within w k) p) (eqb (kind w k) c) refl (eqb (kind w k) branch) refl (is_kind k)
    where
      go : (a b e : Bool) → eqb (kind w k) c ≡ e → (d : Bool) → eqb (kind w k) branch ≡ d → of_kind c (element_drawn t w n k) ≡ one_if e
          → total (of_kind c) (if a && (b && not d) then element_drawn t w n k ∷ [] or_else []) ≡ one_if ((a && e) && b)
      go false b e q d r h = refl
      go true false e q d r h = as_none e
      go true true e q false r h = (let z : of_kind c (element_drawn t w n k) + 0 ≡ one_if (e && true) = with_true e h in z)
        where
          with_true : (e : Bool) → of_kind c (element_drawn t w n k) ≡ one_if e → of_kind c (element_drawn t w n k) + 0 ≡ one_if (e && true)
          with_true true h = omega (arith, h)
          with_true false h = omega (arith, h)
      go true true true q true r h = absurd (omega (arith, eqb-true (kind w k) c q, eqb-true (kind w k) branch r, plain))
      go true true false q true r h = refl

  kinds_of : (m : ℕ) → total (of_kind c) (joined (element_if t w n p) m) ≡ sum (λ k. one_if (is_kind_in c p w k)) m
  unfolding joined sum
  kinds_of zero = none_of (of_kind c)
  kinds_of (suc m) = total_append (of_kind c) (joined (element_if t w n p) m) (element_if t w n p m) ∙ ap₂ ◌+◌ (kinds_of m) (one_kind m)

  kinds_many : total (of_kind c) (elements_of t w n p) ≡ count_kind c p w n
  unfolding elements_of count_kind count_before
  kinds_many = kinds_of n

-- a pool is told for check 2 exactly where its model breaks it
pub start_told : (owned : Bool) (t w : List ℕ) (n k : ℕ) → check2 (pool_drawn owned t w n k) ≡ not (is_misstarted w n (process_of owned w k))
unfolding check2 pool_drawn is_misstarted
start_told owned t w n k =
    ap₂ (λ (a b : ℕ). eqb (a + b) 1) (kinds_many t w n (process_of owned w k) kinds.start (omega arith)) (kinds_many t w n (process_of owned w k) kinds.start_rcv (omega arith))
    ∙ not-not (eqb (count_kind kinds.start (process_of owned w k) w n + count_kind kinds.start_rcv (process_of owned w k) w n) 1)

-- a pool whose model breaks check 3 is told for it
pub many_told : (owned : Bool) (t w : List ℕ) (n k : ℕ) → check3 (pool_drawn owned t w n k) ≡ false → is_unasked w n (process_of owned w k) k ≡ true
unfolding check3 pool_drawn limit_of is_unasked is_many if◌then◌or_else◌
many_told owned t w n k = go (ltb (first_with participant_multiplicity within_in k w n) n) (eqb (maximum_of t w (first_with participant_multiplicity within_in k w n)) 0) refl
  where
    starts : total (of_kind kinds.start) (elements_of t w n (process_of owned w k)) ≡ count_kind kinds.start (process_of owned w k) w n
    starts = kinds_many t w n (process_of owned w k) kinds.start (omega arith)

    with_starts : eqb (total (of_kind kinds.start) (elements_of t w n (process_of owned w k))) 0 ≡ false → not (eqb (count_kind kinds.start (process_of owned w k) w n) 0) ≡ true
    with_starts h = ap not (ap (λ (v : ℕ). eqb v 0) (sym starts) ∙ h)

    go : (b z : Bool) → eqb (maximum_of t w (first_with participant_multiplicity within_in k w n)) 0 ≡ z
        → (if eqb (if b then maximum_of t w (first_with participant_multiplicity within_in k w n) or_else 0) 0 then true or_else eqb (total (of_kind kinds.start) (elements_of t w n (process_of owned w k))) 0) ≡ false
        → b && not (eqb (count_kind kinds.start (process_of owned w k) w n) 0) ≡ true
    go false z e h = absurd (false≢true (sym h))
    go true z e h = by z (rw e at h)
      where
        by : (z : Bool) → (if z then true or_else eqb (total (of_kind kinds.start) (elements_of t w n (process_of owned w k))) 0) ≡ false → not (eqb (count_kind kinds.start (process_of owned w k) w n) 0) ≡ true
        by true h = absurd (false≢true (sym h))
        by false h = with_starts h

-- a pool has too many elements for 28 exactly where its nodes and the ends of its message end events are more than 32; where it is told for that, its model has no room
module _ (t w : List ℕ) (n p : ℕ) where
  elements_many : length (elements_of t w n p) ≡ count_before (is_of an_element p w) n
  unfolding elements_of element_if is_of if◌then◌or_else◌
  elements_many = as_many (is_element p w) (element_drawn t w n) n

  ends_many : end_sends (elements_of t w n p) ≡ count_kind kinds.end_snd p w n
  unfolding end_sends is_end_snd of_kind
  ends_many = kinds_many t w n p kinds.end_snd (omega arith)

pub elements_told : (owned : Bool) (t w : List ℕ) (n k : ℕ)
    → ltb elements (count_before (is_of an_element (process_of owned w k) w) n + count_kind kinds.end_snd (process_of owned w k) w n) ≡ true → has_room (pool_drawn owned t w n k) ≡ false
unfolding has_room room_for pool_drawn
elements_told owned t w n k e =
    let p = process_of owned w k in
    let l = ltb-true elements (count_before (is_of an_element p w) n + count_kind kinds.end_snd p w n) e in
    and_false_right (leb (end_sends (elements_of t w n p)) (unused_count (elements_of t w n p))) _ (lt-leb (length (elements_of t w n p) + end_sends (elements_of t w n p)) elements (omega (arith, l, elements_many t w n p, ends_many t w n p)))
