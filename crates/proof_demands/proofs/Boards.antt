-- A STEP AND ONE BOARD FOR THE JUNCTION: what an accepted step leaves of the other instances and of the stores, and that two runs of the third demand have equal stores. t is a
-- table, z a valid state. Assumes nothing.
use Prim.Native.Nat.{ℕ, ◌+◌, ◌*◌, ◌<◌}
use mathlib.Core.Path.{◌≡◌, ◌∙◌, sym, ap}
use mathlib.Core.Bool.{true}
use mathlib.Core.List.{List}
use mathlib.Core.Logic.{inl, inr}
use native.Mathlib.Omega.{arith}
use Rattle.base_words.specs.Words.{at}
use Rattle.base_words.specs.Counts.{pools, instances, fields, stores}
use Rattle.base_state.specs.Places.{instance_words, instance_place, shared_place}
use Rattle.base_state.specs.Instances.{instances_of, queues_of}
use Rattle.check_limits.specs.Limits.{table_fits}
use Rattle.meaning.specs.declared.Name.{Name}
use Rattle.meaning.specs.declared.Tuple.{Tuple}
use Rattle.meaning.specs.Refusals.{first_refusal}
use Rattle.meaning.specs.Step.{pool_named, element_named, move_named, shared_of, refusals, instances_after}
use Rattle.step_queues.proofs.SlotLaws.{by_order}
use Rattle.proof_steps.proofs.Elements.{pools_few}
use Rattle.proof_steps.proofs.Found.{Found}
use Rattle.proof_steps.proofs.KeepsFits.{instance_few}
use Rattle.proof_steps.proofs.OnlyOwn.{only_own}
use Rattle.proof_steps.proofs.StoresKept.{Leaves, store_kept}
use Rattle.proof_steps.proofs.Traffic.{here}
use Rattle.proof_listing.proofs.StartUnique.{starts_once}
use Rattle.engine.specs.Calls.{a_step, did, Valid}
use Rattle.engine.proofs.CallLaws.{table_fits_lem, checks_hold, state_fits_lem, long_instances}
use Rattle.proof_demands.specs.Demands.{Further}
use Rattle.proof_demands.proofs.StatesLeft.{step_number, step_instances}

module _ (t z : List ℕ) (v : Valid t z) (n : Name) (accepted : (did t (a_step n) z).number ≡ 0) where
  abbrev s : List ℕ
  s = instances_of z

  abbrev y : List ℕ
  y = instances_of (did t (a_step n) z).state

  fits : table_fits t ≡ true
  fits = table_fits_lem t z v.fits

  allowed : first_refusal (refusals t s (queues_of z) n) ≡ 0
  allowed = sym (step_number t z v n) ∙ accepted

  found : Found t s n
  found = here t s (queues_of z) n fits allowed

  few : pool_named t n < pools
  few = omega (arith, found.pool, pools_few t fits)

  low : n.instance < instances
  low = instance_few t s (queues_of z) n fits (starts_once t (checks_hold t z v.fits)) (long_instances z v.long) (state_fits_lem t z v.fits) allowed

  -- "the claim that other instances are untouched is for their tokens, counts and own fields": which are exactly their words
  pub others_untouched : (o i : ℕ) → o < pools → i < instances → (o ≡ pool_named t n → i ≡ n.instance → ⊥) → (k : ℕ) → k < instance_words
      → at y (instance_place o i + k) ≡ at s (instance_place o i + k)
  others_untouched o i lo li other k l =
      ap (λ (x : List ℕ). at x (instance_place o i + k)) (step_instances t z v n accepted)
      ∙ only_own t s n (instance_place o i + k) (omega arith)
      (let a = low in
      by_order o (pool_named t n)
      (λ d. inl (omega arith))
      (λ d. by_order i n.instance (λ e. inl (omega arith)) (λ e. absurd (other (sym d) (sym e))) (λ e. inr (omega arith)))
      (λ d. inr (omega arith)))
      (let b = few in λ e. omega arith)

  -- "only steps with a store in a bind or an assignment change one": flag (i = 0) and value (i = 1) of a store that the step's element neither binds nor assigns
  pub stores_kept : (d : ℕ) → d < stores → Leaves (element_named t n) (move_named t n) n.branch (fields + d) → (i : ℕ) → i < 2
      → at y (shared_place + (2 * d + i)) ≡ at s (shared_place + (2 * d + i))
  stores_kept d l leaves i two =
      ap (λ (x : List ℕ). at x (shared_place + (2 * d + i))) (step_instances t z v n accepted) ∙ store_kept t s n fits found d l leaves i two (long_instances z v.long)

-- "In the third demand the stores agree at the start and at the end": they stand with the instances, which `Further` has equal at both
pub stores_agree : (e : ℕ → List Tuple) (z₁ z₂ : List ℕ) → Further e z₁ z₂ → shared_of (instances_of z₁) ≡ shared_of (instances_of z₂)
stores_agree e z₁ z₂ f = ap shared_of f.alike
