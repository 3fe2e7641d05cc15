-- In a table that breaks no check each pool has exactly one element that is a `start` or a `startRcv`. Assumes nothing.
use Prim.Native.Nat.{ℕ, ◌+◌, ◌≤◌, ◌<◌}
use mathlib.Core.Path.{◌≡◌, refl, sym, ◌∙◌, ap, ap₂}
use mathlib.Core.Bool.{Bool, true, false}
use mathlib.Core.Logic.{◌⊎◌, inl, inr, ⊎_elim}
use mathlib.Core.List.{List}
use native.Mathlib.Omega.{arith}
use lib.Dec.{eqb}
use borrow.Author.Tests.{eqb-true, eqb-false, ltb-true}
use Rattle.base_words.specs.Sum.{sum, hit, one_if}
use Rattle.base_words.proofs.EachLaws.{total-tab}
use Rattle.base_words.proofs.SeekLaws.{sought}
use Rattle.base_words.proofs.SumLaws.{sum_add}
use Rattle.base_kinds.specs.Kinds.{start, start_rcv}
use Rattle.base_table.specs.Table.{pool_count, element_count, element_at, kind_in}
use Rattle.check_occurrences.specs.Occurrences.{of_kind}
use Rattle.check_model.specs.Checks.{check2, lowest}
use Rattle.check_lowest.specs.Model.{pool_at, model_of}
use Rattle.state_fits.specs.Fits.{is_start, start_place, has_start}
use Rattle.proof_steps.proofs.MadeAfter.{StartsOnce}
use Rattle.proof_listing.proofs.Counting.{sum_two, sum_some, hit_same, same_hit}
use Rattle.proof_listing.proofs.ChecksHold.{pool_checked}

-- an element that is a `start` or a `startRcv`
abbrev pub Begins : List ℕ → Type 0
Begins el = (kind_in el ≡ start) ⊎ (kind_in el ≡ start_rcv)

module _ (t : List ℕ) (v : lowest (model_of t) ≡ 0) (p : ℕ) (there : p < pool_count t) where
  abbrev starts : ℕ → ℕ
  starts e = hit (kind_in (element_at t p e)) start + hit (kind_in (element_at t p e)) start_rcv

  counted_once : sum starts (element_count t p) ≡ 1
  unfolding check2 pool_at of_kind
  counted_once =
      sum_add (λ e. hit (kind_in (element_at t p e)) start) (λ e. hit (kind_in (element_at t p e)) start_rcv) (element_count t p)
      ∙ ap₂ ◌+◌ (sym (total-tab (of_kind start) (element_at t p) (element_count t p))) (sym (total-tab (of_kind start_rcv) (element_at t p) (element_count t p)))
      ∙ eqb-true _ 1 (pool_checked t v p there).second

  begins_counted : (e : ℕ) → Begins (element_at t p e) → 1 ≤ starts e
  begins_counted e b =
      ⊎_elim (λ s. omega (arith, hit_same (kind_in (element_at t p e)) start s))
      (λ s. omega (arith, hit_same (kind_in (element_at t p e)) start_rcv s)) b

  counted_begins : (e : ℕ) → 0 < starts e → Begins (element_at t p e)
  counted_begins e h = go (eqb (kind_in (element_at t p e)) start) refl
    where
      go : (b : Bool) → eqb (kind_in (element_at t p e)) start ≡ b → Begins (element_at t p e)
      go true s = inl (eqb-true (kind_in (element_at t p e)) start s)
      go false s = let z : hit (kind_in (element_at t p e)) start ≡ 0 = ap one_if s in inr (same_hit (kind_in (element_at t p e)) start_rcv (omega arith))

  -- there is one
  pub start_there : (e : ℕ) × (e < element_count t p) × Begins (element_at t p e)
  start_there =
      let s = sum_some starts (element_count t p) (omega (arith, counted_once)) in
      (s.0, s.1, counted_begins s.0 s.2)

  -- and no other
  pub start_unique : (e f : ℕ) → e < element_count t p → f < element_count t p → Begins (element_at t p e) → Begins (element_at t p f) → e ≡ f
  start_unique e f l r b c = go (eqb e f) refl
    where
      go : (d : Bool) → eqb e f ≡ d → e ≡ f
      go true s = eqb-true e f s
      go false s = absurd (omega (arith, sum_two starts (element_count t p) e f l r (eqb-false e f s), counted_once, begins_counted e b, begins_counted f c))

  -- the place that `hasStart` finds holds a `start`
  start_found : has_start t p ≡ true → (start_place t p < element_count t p) × (kind_in (element_at t p (start_place t p)) ≡ start)
  unfolding has_start start_place is_start
  start_found h =
      let l : start_place t p < element_count t p = ltb-true (start_place t p) (element_count t p) h in
      (l, eqb-true (kind_in (element_at t p (start_place t p))) start ((sought (is_start t p) (element_count t p)).1 l))

  no_start_rcv : has_start t p ≡ true → (e : ℕ) → e < element_count t p → kind_in (element_at t p e) ≡ start_rcv → ⊥
  no_start_rcv h e l k =
      let s = start_found h in
      let same : start_place t p ≡ e = start_unique (start_place t p) e s.0 l (inl s.1) (inr k) in
      let both : kind_in (element_at t p e) ≡ start = ap (λ y. kind_in (element_at t p y)) (sym same) ∙ s.1 in
      omega arith

-- a pool with `start` has no startRcv
pub starts_once : (t : List ℕ) → lowest (model_of t) ≡ 0 → StartsOnce t
starts_once t v p l h e r k = no_start_rcv t v p l h e r k
