-- Instances s of which one instance of one pool is changed to r: its pool fits if the new words do, and so do the other pools. Assumes nothing.
use Prim.Native.Nat.{ℕ, ◌+◌, ◌-◌, ◌*◌, ◌≤◌, ◌<◌}
use mathlib.Core.Path.{◌≡◌, sym, ◌∙◌, ap, subst}
use mathlib.Core.Bool.{true}
use mathlib.Core.List.{List}
use mathlib.Core.Logic.{◌⊎◌, inl, inr}
use native.Mathlib.Omega.{arith}
use lib.Seq.{get_or-drop}
use Rattle.base_words.specs.Words.{at}
use Rattle.base_words.specs.Counts.{pools, instances}
use Rattle.base_state.specs.Places.{instance_words, instance_place, made_place, shared_place}
use Rattle.base_state.specs.Instances.{made_count, instance_at}
use Rattle.state_fits.specs.Fits.{usable, instance_fits}
use Rattle.step_queues.proofs.SlotLaws.{by_order}
use Rattle.proof_steps.proofs.InstanceFits.{Fit, fit_back, instance_same}
use Rattle.proof_steps.proofs.PoolFits.{PoolFit, pool_same}
use Rattle.proof_steps.proofs.MadeAfter.{Makes}

module _ (t s r : List ℕ) (p i : ℕ) (few : p < pools) (other : (k : ℕ) → k < shared_place → (k < instance_place p i) ⊎ (instance_place p i + instance_words ≤ k) → (k ≡ made_place p → ⊥) → at r k ≡ at s k) where
  -- the words of another instance of the pool
  another : (j : ℕ) → j < instances → (j ≡ i → ⊥) → (k : ℕ) → k < instance_words → at r (instance_place p j + k) ≡ at s (instance_place p j + k)
  another j r d k h =
      by_order j i (λ l. other (instance_place p j + k) (omega arith) (inl (omega arith)) (λ e. omega arith)) (λ e. absurd (d (sym e)))
      (λ l. other (instance_place p j + k) (omega arith) (inr (omega arith)) (λ e. omega arith))

  module _ (h : List ℕ) (own : (k : ℕ) → k < instance_words → at r (instance_place p i + k) ≡ at h k) (fit : Fit (usable t p) h) (makes : Makes t p i (made_count s p) (made_count r p)) (room : made_count r p ≤ instances) (before : PoolFit t s p) where
    each_after : (j : ℕ) → j < made_count r p → instance_fits (usable t p) (instance_at r p j) ≡ true
    each_after j l =
        by_order j i (λ o. later (λ e. omega arith))
        (λ e. subst (λ y. instance_fits (usable t p) (instance_at r p y) ≡ true) e
        (fit_back (usable t p) h (instance_at r p i) (λ k o. get_or-drop (instance_place p i) r k 0 ∙ own k o) fit))
        (λ o. later (λ e. omega arith))
      where
        later : (j ≡ i → ⊥) → instance_fits (usable t p) (instance_at r p j) ≡ true
        later d =
            instance_same (usable t p) (instance_at s p j) (instance_at r p j)
            (λ k o. get_or-drop (instance_place p j) r k 0 ∙ another j (omega arith) d k o ∙ sym (get_or-drop (instance_place p j) s k 0))
            (before.each j (makes.others j l d))

    rest_after : (k : ℕ) → k < instance_words * (instances - made_count r p) → at r (instance_place p (made_count r p) + k) ≡ 0
    rest_after k l =
        let a : made_count s p ≤ made_count r p = makes.least in
        let b : i < made_count r p = makes.named in
        let e : instance_place p (made_count r p) + k ≡ instance_place p (made_count s p) + (instance_words * (made_count r p - made_count s p) + k) = omega arith in
        other (instance_place p (made_count r p) + k) (omega arith) (inr (omega arith)) (λ z. omega arith)
        ∙ ap (at s) e
        ∙ before.rest (instance_words * (made_count r p - made_count s p) + k) (omega arith)

    pub own_pool : PoolFit t r p
    own_pool = record { made = makes.fits; each = each_after; rest = rest_after }

  -- another pool
  pub other_pool : (o : ℕ) → o < pools → (o ≡ p → ⊥) → i < instances → made_count s o ≤ instances → PoolFit t s o → PoolFit t r o
  other_pool o l d named room f =
      pool_same t s r o room (other o (omega arith) (inl (omega arith)) d)
      (λ k h.
      by_order o p (λ y. other (instance_place o 0 + k) (omega arith) (inl (omega arith)) (λ e. omega arith)) (λ e. absurd (d (sym e)))
      (λ y. other (instance_place o 0 + k) (omega arith) (inr (omega arith)) (λ e. omega arith)))
      f
