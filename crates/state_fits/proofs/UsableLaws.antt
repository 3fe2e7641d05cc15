-- The places that a pool's elements use are marked: the first edge of its start is. Assumes nothing.
use Prim.Native.Nat.{ℕ, zero, suc, ◌≤◌, ◌<◌}
use mathlib.Core.Path.{◌≡◌, ◌∙◌, refl, sym, subst}
use mathlib.Core.Bool.{Bool, true, false}
use mathlib.Core.List.{List, [], ◌∷◌, ◌++◌}
use mathlib.Core.Logic.{⊎_elim}
use native.Mathlib.Nat.{not-suc-le-zero, le_of_suc-le-suc, eq-or-lt_of_le}
use native.Mathlib.Omega.{arith}
use lib.Dec.{eqb}
use lib.ListN.{length, set, replicate, length-set, length-replicate}
use lib.Seq.{get_or-set_same, get_or-set_other}
use borrow.Author.Tests.{eqb-true, eqb-false, ltb-true}
use Rattle.base_words.specs.Each.{tab}
use Rattle.base_words.specs.Iter.{iter}
use Rattle.base_words.specs.Pick.{if◌then◌or_else◌}
use Rattle.base_words.specs.Words.{at}
use Rattle.base_words.specs.Counts.{edges}
use Rattle.base_words.proofs.IterLaws.{iter_keeps}
use Rattle.base_words.proofs.SeekLaws.{sought}
use Rattle.base_kinds.specs.Kinds.{start, kind_of, used}
use Rattle.base_table.specs.Table.{element_count, element_at, kind_in, entry_count, exit_count, entry_at, exit_at}
use Rattle.base_state.specs.Places.{token_place, defined_place}
use Rattle.state_fits.specs.Fits.{is_start, start_place, has_start, count_places, places_of, all_marked, usable}
use Rattle.state_fits.specs.Fresh.{start_edge}

-- THE START of a pool that has one is one of its elements
module _ (t : List ℕ) (p : ℕ) (has : has_start t p ≡ true) where
  pub start_in : start_place t p < element_count t p
  unfolding has_start
  start_in = ltb-true (start_place t p) (element_count t p) has

  pub start_kind : kind_in (element_at t p (start_place t p)) ≡ start
  unfolding is_start start_place
  start_kind = eqb-true (kind_in (element_at t p (start_place t p))) start ((sought (is_start t p) (element_count t p)).1 start_in)

-- A PLACE MARKED stays marked
marked_length : (w ks : List ℕ) → length (all_marked w ks) ≡ length w
unfolding all_marked
marked_length w [] = refl
marked_length w (k ∷ ks) = marked_length (set w k 1) ks ∙ length-set w k 1

set_keeps : (w : List ℕ) (x k : ℕ) → k < length w → at w k ≡ 1 → at (set w x 1) k ≡ 1
set_keeps w x k l h = go (eqb k x) refl
  where
    go : (b : Bool) → eqb k x ≡ b → at (set w x 1) k ≡ 1
    go true e = let q : k ≡ x = eqb-true k x e in rw (sym q) (get_or-set_same w k 1 0 l)
    go false e = get_or-set_other w x k 1 0 (eqb-false k x e) ∙ h

marked_keeps : (w ks : List ℕ) (k : ℕ) → k < length w → at w k ≡ 1 → at (all_marked w ks) k ≡ 1
unfolding all_marked
marked_keeps w [] k l h = h
marked_keeps w (x ∷ xs) k l h = marked_keeps (set w x 1) xs k (omega (arith, length-set w x 1)) (set_keeps w x k l h)

-- AN ELEMENT of kind start marks its first edge
start_entries : (el : List ℕ) → kind_in el ≡ start → entry_count el ≡ 1
unfolding entry_count used kind_of if◌then◌or_else◌
start_entries el e = rw e

start_places : (el : List ℕ) → kind_in el ≡ start → places_of el ≡ token_place (entry_at el 0) ∷ (tab (λ j. token_place (exit_at el j)) (exit_count el) ++ count_places el)
unfolding places_of tab
start_places el e = rw (start_entries el e)

start_marks : (w el : List ℕ) → kind_in el ≡ start → token_place (entry_at el 0) < length w → at (all_marked w (places_of el)) (token_place (entry_at el 0)) ≡ 1
unfolding all_marked
start_marks w el e l =
    rw (start_places el e)
    (marked_keeps (set w (token_place (entry_at el 0)) 1) (tab (λ j. token_place (exit_at el j)) (exit_count el) ++ count_places el) (token_place (entry_at el 0))
    (omega (arith, length-set w (token_place (entry_at el 0)) 1)) (get_or-set_same w (token_place (entry_at el 0)) 1 0 l))

-- THE ELEMENTS, the first n of them
module _ (t : List ℕ) (p : ℕ) (has : has_start t p ≡ true) (first : start_edge t p ≤ edges) where
  abbrev Marks : ℕ → List ℕ
  Marks n = iter (λ e w. all_marked w (places_of (element_at t p e))) (replicate (defined_place 0) 0) n

  marks_long : (n : ℕ) → length (Marks n) ≡ defined_place 0
  marks_long n =
      iter_keeps (λ e w. all_marked w (places_of (element_at t p e))) (replicate (defined_place 0) 0) (λ w. length w ≡ defined_place 0) n
      (λ k w l e. marked_length w (places_of (element_at t p k)) ∙ e) (length-replicate {A = ℕ} (defined_place 0) 0)

  marks_first : (n : ℕ) → start_place t p < n → at (Marks n) (token_place (start_edge t p)) ≡ 1
  unfolding iter start_edge
  marks_first zero l = absurd (not-suc-le-zero l)
  marks_first (suc n) l =
      ⊎_elim
      (λ q. subst (λ m. at (all_marked (Marks m) (places_of (element_at t p m))) (token_place (start_edge t p)) ≡ 1) q
      (start_marks (Marks (start_place t p)) (element_at t p (start_place t p)) (start_kind t p has) (omega (arith, marks_long (start_place t p)))))
      (λ m. marked_keeps (Marks n) (places_of (element_at t p n)) (token_place (start_edge t p)) (omega (arith, marks_long n)) (marks_first n m))
      (eq-or-lt_of_le (le_of_suc-le-suc l))

  pub first_usable : at (usable t p) (token_place (start_edge t p)) ≡ 1
  unfolding usable
  first_usable = marks_first (element_count t p) (start_in t p has)
