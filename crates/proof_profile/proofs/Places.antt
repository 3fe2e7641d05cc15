-- WHICH PLACES of tokens and counts an instance may use: of the edges and the counts of its pool's elements, and no other. Assumes nothing.
use Prim.Native.Nat.{ℕ, zero, suc, ◌+◌, ◌<◌}
use mathlib.Core.Path.{◌≡◌, refl, sym, ◌∙◌, ap}
use mathlib.Core.Bool.{Bool, true, false}
use mathlib.Core.List.{List, [], ◌∷◌, ◌++◌}
use mathlib.Core.Logic.{◌⊎◌, inl, inr, ⊎_elim}
use native.Mathlib.Omega.{arith}
use lib.Dec.{eqb, leb}
use lib.ListN.{set, replicate}
use lib.Seq.{get_or-set_other}
use borrow.Author.Tests.{eqb-true, eqb-false, leb-false}
use Rattle.base_words.specs.Each.{total, tab}
use Rattle.base_words.specs.Iter.{iter}
use Rattle.base_words.specs.Pick.{if◌then◌or_else◌}
use Rattle.base_words.specs.Sum.{hit, one_if}
use Rattle.base_words.specs.Words.{at}
use Rattle.base_words.proofs.EachLaws.{total_append, total-tab, total_one}
use Rattle.base_kinds.specs.Kinds.{kind_of}
use Rattle.base_kinds.specs.Moves.{a}
use Rattle.base_table.specs.Table.{element_count, element_at, kind_in, task_in, mode_in, entry_count, exit_count, entry_at, exit_at}
use Rattle.base_state.specs.Places.{token_place, active_place, ready_place, defined_place}
use Rattle.state_fits.specs.Fits.{count_places, places_of, all_marked, usable}
use Rattle.state_fits.proofs.FreshLaws.{blank_at}
use Rattle.proof_steps.proofs.Choices.{by_test}
use Rattle.proof_listing.proofs.Counting.{sum_some, hit_same, same_hit}

-- how an element uses a place
pub data Uses (el : List ℕ) (k : ℕ) : Type 0 where
  entry : (j : ℕ) → j < entry_count el → k ≡ token_place (entry_at el j) → Uses el k
  exit : (j : ℕ) → j < exit_count el → k ≡ token_place (exit_at el j) → Uses el k
  active : a < mode_in el → k ≡ active_place (task_in el) → Uses el k
  ready : a < mode_in el → ((kind_of (kind_in el)).receives + (kind_of (kind_in el)).sends ≡ 0 → ⊥) → k ≡ ready_place (task_in el) → Uses el k

module _ (el : List ℕ) (k : ℕ) where
  listed : (f : ℕ → ℕ) (n : ℕ) → 0 < total (hit k) (tab f n) → (j : ℕ) × (j < n) × (k ≡ f j)
  listed f n l =
      let s = sum_some (λ j. hit k (f j)) n (let q = total-tab (hit k) f n in omega arith) in
      (s.0, s.1, same_hit k (f s.0) s.2)

  only : (x : ℕ) → 0 < total (hit k) (x ∷ []) → k ≡ x
  only x l = same_hit k x (let q = total_one (hit k) x in omega arith)

  counts_from : 0 < total (hit k) (count_places el) → Uses el k
  unfolding count_places total if◌then◌or_else◌
  counts_from l = go (leb (mode_in el) a) refl (eqb ((kind_of (kind_in el)).receives + (kind_of (kind_in el)).sends) 0) refl l
    where
      x : ℕ
      x = active_place (task_in el)

      y : ℕ
      y = ready_place (task_in el)

      go : (b : Bool) → leb (mode_in el) a ≡ b → (o : Bool) → eqb ((kind_of (kind_in el)).receives + (kind_of (kind_in el)).sends) 0 ≡ o
          → 0 < total (hit k) (if b then [] or_else (if o then x ∷ [] or_else x ∷ y ∷ [])) → Uses el k
      go true e o f l = absurd (omega (arith, l))
      go false e true f l = active (leb-false (mode_in el) a e) (only x l)
      go false e false f l =
          by_test (eqb k x) (λ g. active (leb-false (mode_in el) a e) (eqb-true k x g))
          (λ g. ready (leb-false (mode_in el) a e) (eqb-false _ 0 f) (only y (let o : hit k x ≡ 0 = ap one_if g in omega (arith, o, l))))

  places_from : 0 < total (hit k) (places_of el) → Uses el k
  unfolding places_of
  places_from l =
      let ins : List ℕ = tab (λ j. token_place (entry_at el j)) (entry_count el) in
      let outs : List ℕ = tab (λ j. token_place (exit_at el j)) (exit_count el) in
      let q = total_append (hit k) ins (outs ++ count_places el) in
      let r = total_append (hit k) outs (count_places el) in
      by_test (eqb (total (hit k) ins) 0)
      (λ e.
      let x = eqb-true (total (hit k) ins) 0 e in
      by_test (eqb (total (hit k) outs) 0)
      (λ f. let y = eqb-true (total (hit k) outs) 0 f in counts_from (omega (arith, q, r, x, y, l)))
      (λ f. let y = eqb-false (total (hit k) outs) 0 f in let s = listed (λ j. token_place (exit_at el j)) (exit_count el) (omega (arith, y)) in exit s.0 s.1 s.2))
      (λ e. let x = eqb-false (total (hit k) ins) 0 e in let s = listed (λ j. token_place (entry_at el j)) (entry_count el) (omega (arith, x)) in entry s.0 s.1 s.2)

-- A PLACE that is marked was marked before, or is among those
marked_from : (w ks : List ℕ) (k : ℕ) → at (all_marked w ks) k ≡ 1 → (at w k ≡ 1) ⊎ (0 < total (hit k) ks)
unfolding all_marked total
marked_from w [] k h = inl h
marked_from w (x ∷ xs) k h =
    by_test (eqb k x)
    (λ e. inr (omega (arith, hit_same k x (eqb-true k x e))))
    (λ e. ⊎_elim (λ b. inl (sym (get_or-set_other w x k 1 0 (eqb-false k x e)) ∙ b)) (λ b. inr (omega (arith, b))) (marked_from (set w x 1) xs k h))

module _ (t : List ℕ) (p k : ℕ) where
  abbrev marks : ℕ → List ℕ
  marks n = iter (λ e w. all_marked w (places_of (element_at t p e))) (replicate (defined_place 0) 0) n

  marks_from : (n : ℕ) → at (marks n) k ≡ 1 → (e : ℕ) × (e < n) × Uses (element_at t p e) k
  unfolding iter
  marks_from zero h = absurd (let q = blank_at (defined_place 0) k in omega (arith, q, h))
  marks_from (suc n) h =
      ⊎_elim
      (λ b. let r = marks_from n b in (r.0, (let l = r.1 in omega arith), r.2))
      (λ b. (n, omega arith, places_from (element_at t p n) k b))
      (marked_from (marks n) (places_of (element_at t p n)) k h)

  pub usable_from : at (usable t p) k ≡ 1 → (e : ℕ) × (e < element_count t p) × Uses (element_at t p e) k
  unfolding usable
  usable_from h = marks_from (element_count t p) h
