-- The places that an element lets an instance use are marked with 1. Assumes nothing.
use Prim.Native.Nat.{ℕ, zero, suc, ◌+◌, ◌<◌}
use mathlib.Core.Path.{◌≡◌, refl, ◌∙◌, ap, subst}
use mathlib.Core.Bool.{Bool, true, false}
use mathlib.Core.List.{List, [], ◌∷◌, ◌++◌}
use mathlib.Core.Logic.{⊎_elim}
use native.Mathlib.Nat.{not-suc-le-zero, le_of_suc-le-suc, eq-or-lt_of_le}
use native.Mathlib.Omega.{arith}
use lib.Dec.{eqb}
use lib.ListN.{length, set, replicate, length-set, length-replicate}
use lib.Seq.{get_or-set_same, get_or-set_other}
use borrow.Author.Tests.{ne_eqb, lt-leb}
use Rattle.base_words.specs.Each.{tab}
use Rattle.base_words.specs.Iter.{iter}
use Rattle.base_words.specs.Pick.{if◌then◌or_else◌}
use Rattle.base_words.specs.Words.{at}
use Rattle.base_kinds.specs.Kinds.{kind_of}
use Rattle.base_kinds.specs.Moves.{a}
use Rattle.base_table.specs.Table.{element_count, element_at, kind_in, task_in, mode_in, entry_count, exit_count, entry_at, exit_at}
use Rattle.base_state.specs.Places.{token_place, active_place, ready_place, defined_place}
use Rattle.state_fits.specs.Fits.{count_places, places_of, all_marked, usable}
use Rattle.step_queues.proofs.SlotLaws.{by_order}

-- a loop's turn e reaches what the later turns keep
module _ {A : Type 0} (g : ℕ → A → A) (s : A) (Q P : A → Type 0) (start : Q s) (every : (k : ℕ) (t : A) → Q t → Q (g k t)) (e : ℕ) (turn : (t : A) → Q t → P (g e t)) (kept : (k : ℕ) (t : A) → Q t → P t → P (g k t)) where
  iter_every : (n : ℕ) → Q (iter g s n)
  unfolding iter
  iter_every zero = start
  iter_every (suc n) = every n (iter g s n) (iter_every n)

  iter_reaches : (n : ℕ) → e < n → P (iter g s n)
  unfolding iter
  iter_reaches zero h = absurd (not-suc-le-zero h)
  iter_reaches (suc n) h =
      ⊎_elim (λ q. subst (λ k. P (g k (iter g s n))) q (turn (iter g s n) (iter_every n)))
      (λ l. kept n (iter g s n) (iter_every n) (iter_reaches n l))
      (eq-or-lt_of_le (le_of_suc-le-suc h))

-- PLACES MARKED
length_marked : (w ks : List ℕ) → length (all_marked w ks) ≡ length w
unfolding all_marked
length_marked w [] = refl
length_marked w (k ∷ ks) = length_marked (set w k 1) ks ∙ length-set w k 1

marked_append : (w xs ys : List ℕ) → all_marked w (xs ++ ys) ≡ all_marked (all_marked w xs) ys
unfolding all_marked
marked_append w [] ys = refl
marked_append w (x ∷ xs) ys = marked_append (set w x 1) xs ys

module _ (k : ℕ) where
  marked_keeps : (w ks : List ℕ) → k < length w → at w k ≡ 1 → at (all_marked w ks) k ≡ 1
  unfolding all_marked
  marked_keeps w [] l h = h
  marked_keeps w (x ∷ xs) l h =
      marked_keeps (set w x 1) xs (omega (arith, length-set w x 1))
      (by_order x k (λ r. get_or-set_other w x k 1 0 (λ e. omega arith) ∙ h) (λ e. subst (λ y. at (set w y 1) k ≡ 1) e (get_or-set_same w k 1 0 l)) (λ r. get_or-set_other w x k 1 0 (λ e. omega arith) ∙ h))

  marked_first : (w ks : List ℕ) → k < length w → at (all_marked w (k ∷ ks)) k ≡ 1
  unfolding all_marked
  marked_first w ks l = marked_keeps (set w k 1) ks (omega (arith, length-set w k 1)) (get_or-set_same w k 1 0 l)

  marked_second : (w ks : List ℕ) (x : ℕ) → k < length w → at (all_marked w (x ∷ k ∷ ks)) k ≡ 1
  unfolding all_marked
  marked_second w ks x l = marked_first (set w x 1) ks (omega (arith, length-set w x 1))

marked_tab : (w : List ℕ) (f : ℕ → ℕ) (n j : ℕ) → j < n → f j < length w → at (all_marked w (tab f n)) (f j) ≡ 1
unfolding tab
marked_tab w f zero j h l = absurd (not-suc-le-zero h)
marked_tab w f (suc n) j h l =
    ap (λ y. at y (f j)) (marked_append w (tab f n) (f n ∷ []))
    ∙ ⊎_elim (λ q. subst (λ y. at (all_marked (all_marked w (tab f n)) (y ∷ [])) (f j) ≡ 1) (ap f q) (marked_first (f j) (all_marked w (tab f n)) [] (omega (arith, length_marked w (tab f n)))))
    (λ r. marked_keeps (f j) (all_marked w (tab f n)) (f n ∷ []) (omega (arith, length_marked w (tab f n))) (marked_tab w f n j r l))
    (eq-or-lt_of_le (le_of_suc-le-suc h))

-- THE PLACES OF AN ELEMENT
module _ (el w : List ℕ) where
  abbrev entries : List ℕ
  entries = tab (λ j. token_place (entry_at el j)) (entry_count el)

  abbrev exits : List ℕ
  exits = tab (λ j. token_place (exit_at el j)) (exit_count el)

  in_parts : all_marked w (places_of el) ≡ all_marked (all_marked (all_marked w entries) exits) (count_places el)
  unfolding places_of
  in_parts = marked_append w entries (exits ++ count_places el) ∙ marked_append (all_marked w entries) exits (count_places el)

  entry_marked : (j : ℕ) → j < entry_count el → token_place (entry_at el j) < length w → at (all_marked w (places_of el)) (token_place (entry_at el j)) ≡ 1
  entry_marked j h l =
      rw in_parts
      (marked_keeps (token_place (entry_at el j)) (all_marked (all_marked w entries) exits) (count_places el) (omega (arith, length_marked (all_marked w entries) exits, length_marked w entries))
      (marked_keeps (token_place (entry_at el j)) (all_marked w entries) exits (omega (arith, length_marked w entries))
      (marked_tab w (λ j. token_place (entry_at el j)) (entry_count el) j h l)))

  exit_marked : (j : ℕ) → j < exit_count el → token_place (exit_at el j) < length w → at (all_marked w (places_of el)) (token_place (exit_at el j)) ≡ 1
  exit_marked j h l =
      rw in_parts
      (marked_keeps (token_place (exit_at el j)) (all_marked (all_marked w entries) exits) (count_places el) (omega (arith, length_marked (all_marked w entries) exits, length_marked w entries))
      (marked_tab (all_marked w entries) (λ j. token_place (exit_at el j)) (exit_count el) j h (omega (arith, length_marked w entries))))

  counts_marked : (k : ℕ) → ((v : List ℕ) → k < length v → at (all_marked v (count_places el)) k ≡ 1) → k < length w → at (all_marked w (places_of el)) k ≡ 1
  counts_marked k f l = rw in_parts (f (all_marked (all_marked w entries) exits) (omega (arith, length_marked (all_marked w entries) exits, length_marked w entries)))

  module _ (lasting : a < mode_in el) where
    count_active : (v : List ℕ) → active_place (task_in el) < length v → at (all_marked v (count_places el)) (active_place (task_in el)) ≡ 1
    unfolding count_places if◌then◌or_else◌
    count_active v l = rw (lt-leb (mode_in el) a lasting) (go (eqb ((kind_of (kind_in el)).receives + (kind_of (kind_in el)).sends) 0))
      where
        go : (b : Bool) → at (all_marked v (if b then active_place (task_in el) ∷ [] or_else active_place (task_in el) ∷ ready_place (task_in el) ∷ [])) (active_place (task_in el)) ≡ 1
        go true = marked_first (active_place (task_in el)) v [] l
        go false = marked_first (active_place (task_in el)) v (ready_place (task_in el) ∷ []) l

    active_marked : active_place (task_in el) < length w → at (all_marked w (places_of el)) (active_place (task_in el)) ≡ 1
    active_marked = counts_marked (active_place (task_in el)) count_active

    module _ (speaks : 0 < (kind_of (kind_in el)).receives + (kind_of (kind_in el)).sends) where
      count_ready : (v : List ℕ) → ready_place (task_in el) < length v → at (all_marked v (count_places el)) (ready_place (task_in el)) ≡ 1
      unfolding count_places if◌then◌or_else◌
      count_ready v l =
          rw (lt-leb (mode_in el) a lasting, ne_eqb ((kind_of (kind_in el)).receives + (kind_of (kind_in el)).sends) 0 (λ e. omega arith))
          (marked_second (ready_place (task_in el)) v [] (active_place (task_in el)) l)

      ready_marked : ready_place (task_in el) < length w → at (all_marked w (places_of el)) (ready_place (task_in el)) ≡ 1
      ready_marked = counts_marked (ready_place (task_in el)) count_ready

-- THE PLACES OF A POOL
module _ (t : List ℕ) (p e : ℕ) (there : e < element_count t p) where
  abbrev el : List ℕ
  el = element_at t p e

  place_usable : (k : ℕ) → k < defined_place 0 → ((w : List ℕ) → k < length w → at (all_marked w (places_of el)) k ≡ 1) → at (usable t p) k ≡ 1
  unfolding usable
  place_usable k l f =
      iter_reaches (λ e w. all_marked w (places_of (element_at t p e))) (replicate (defined_place 0) 0) (λ w. length w ≡ defined_place 0) (λ w. at w k ≡ 1)
      (length-replicate {A = ℕ} (defined_place 0) 0)
      (λ j w h. length_marked w (places_of (element_at t p j)) ∙ h)
      e
      (λ w h. f w (omega arith))
      (λ j w h g. marked_keeps k w (places_of (element_at t p j)) (omega arith) g)
      (element_count t p)
      there

  pub entry_usable : (j : ℕ) → j < entry_count el → token_place (entry_at el j) < defined_place 0 → at (usable t p) (token_place (entry_at el j)) ≡ 1
  entry_usable j h l = place_usable (token_place (entry_at el j)) l (λ w. entry_marked el w j h)

  pub exit_usable : (j : ℕ) → j < exit_count el → token_place (exit_at el j) < defined_place 0 → at (usable t p) (token_place (exit_at el j)) ≡ 1
  exit_usable j h l = place_usable (token_place (exit_at el j)) l (λ w. exit_marked el w j h)

  pub active_usable : a < mode_in el → active_place (task_in el) < defined_place 0 → at (usable t p) (active_place (task_in el)) ≡ 1
  active_usable h l = place_usable (active_place (task_in el)) l (λ w. active_marked el w h)

  pub ready_usable : a < mode_in el → 0 < (kind_of (kind_in el)).receives + (kind_of (kind_in el)).sends → ready_place (task_in el) < defined_place 0 → at (usable t p) (ready_place (task_in el)) ≡ 1
  ready_usable h r l = place_usable (ready_place (task_in el)) l (λ w. ready_marked el w h r)
