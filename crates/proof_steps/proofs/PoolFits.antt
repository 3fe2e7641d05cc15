-- The instances of a pool: what their fitting says of each word, and back. Assumes nothing.
use Prim.Native.Nat.{ℕ, ◌+◌, ◌-◌, ◌*◌, ◌≤◌, ◌<◌}
use mathlib.Core.Path.{◌≡◌, sym, ◌∙◌, ap, subst}
use mathlib.Core.Bool.{Bool, true, ◌&&◌}
use mathlib.Core.List.{List}
use native.Mathlib.Omega.{arith}
use lib.Dec.{eqb, leb}
use lib.Seq.{get_or-drop}
use borrow.Author.Tests.{eqb-true, leb-true, leb-false, eq-eqb}
use Rattle.base_words.specs.All.{all}
use Rattle.base_words.specs.Words.{at}
use Rattle.base_words.specs.Counts.{instances}
use Rattle.base_words.proofs.AllLaws.{and_left, and_right, all_at, all_of}
use Rattle.base_words.proofs.PickLaws.{and_true}
use Rattle.base_table.specs.Table.{pool_count, limit_of}
use Rattle.base_state.specs.Places.{instance_words, instance_place}
use Rattle.base_state.specs.Instances.{made_count, instance_at}
use Rattle.check_limits.specs.Limits.{zeros, table_fits}
use Rattle.state_fits.specs.Fits.{has_start, made_fits, usable, instance_fits, instances_fit}
use Rattle.proof_steps.proofs.Choices.{by_test, chosen_true, passed_true}
use Rattle.proof_steps.proofs.Elements.{limit_few}
use Rattle.proof_steps.proofs.InstanceFits.{instance_same}

pub record PoolFit (t s : List ℕ) (p : ℕ) : Type 0 where
  pub made : made_fits t p (made_count s p) ≡ true
  pub each : (i : ℕ) → i < made_count s p → instance_fits (usable t p) (instance_at s p i) ≡ true
  pub rest : (k : ℕ) → k < instance_words * (instances - made_count s p) → at s (instance_place p (made_count s p) + k) ≡ 0

module _ (t s : List ℕ) (p : ℕ) where
  abbrev made_part : Bool
  made_part = made_fits t p (made_count s p)

  abbrev each_part : Bool
  each_part = all (λ i. instance_fits (usable t p) (instance_at s p i)) (made_count s p)

  abbrev rest_part : Bool
  rest_part = zeros (instance_at s p (made_count s p)) (instance_words * (instances - made_count s p))

  pub pool_parts : instances_fit t s p ≡ true → PoolFit t s p
  unfolding instances_fit zeros
  pool_parts h = record {
    made = and_left made_part each_part (and_left (made_part && each_part) rest_part h);
    each = all_at (λ i. instance_fits (usable t p) (instance_at s p i)) (made_count s p) (and_right made_part each_part (and_left (made_part && each_part) rest_part h));
    rest = λ k l.
        sym (get_or-drop (instance_place p (made_count s p)) s k 0)
        ∙ eqb-true _ 0
        (all_at (λ k. eqb (at (instance_at s p (made_count s p)) k) 0) (instance_words * (instances - made_count s p)) (and_right (made_part && each_part) rest_part h) k l);
  }

  pub pool_back : PoolFit t s p → instances_fit t s p ≡ true
  unfolding instances_fit zeros
  pool_back f =
      and_true (made_part && each_part) rest_part
      (and_true made_part each_part f.made (all_of (λ i. instance_fits (usable t p) (instance_at s p i)) (made_count s p) f.each))
      (all_of (λ k. eqb (at (instance_at s p (made_count s p)) k) 0) (instance_words * (instances - made_count s p))
      (λ k l. eq-eqb _ 0 (get_or-drop (instance_place p (made_count s p)) s k 0 ∙ f.rest k l)))

-- how many are made: at most 16, of a table within the limits
pub made_few : (t : List ℕ) → table_fits t ≡ true → (p made : ℕ) → made_fits t p made ≡ true → made ≤ instances
unfolding made_fits
made_few t fits p made h =
    by_test (leb (pool_count t) p) (λ e. let z = eqb-true made 0 (chosen_true (leb (pool_count t) p) (eqb made 0) _ h e) in omega arith)
    (λ e.
    let g = passed_true (leb (pool_count t) p) (eqb made 0) _ h e in
    by_test (has_start t p) (λ d. let z = eqb-true made 1 (chosen_true (has_start t p) (eqb made 1) (leb made (limit_of t p)) g d) in omega arith)
    (λ d.
    let z = leb-true made (limit_of t p) (passed_true (has_start t p) (eqb made 1) (leb made (limit_of t p)) g d) in
    let l = limit_few t fits p (leb-false (pool_count t) p e) in
    omega arith))

-- a pool whose words are as they were
pub pool_same : (t s r : List ℕ) (p : ℕ) → made_count s p ≤ instances → made_count r p ≡ made_count s p
    → ((k : ℕ) → k < instance_words * instances → at r (instance_place p 0 + k) ≡ at s (instance_place p 0 + k)) → PoolFit t s p → PoolFit t r p
pool_same t s r p few e same f = record {
  made = subst (λ k. made_fits t p k ≡ true) (sym e) f.made;
  each = λ i l.
      instance_same (usable t p) (instance_at s p i) (instance_at r p i)
      (λ k h.
      let o : instance_place p 0 + (instance_words * i + k) ≡ instance_place p i + k = omega arith in
      let i16 : i < instances = omega arith in
      get_or-drop (instance_place p i) r k 0
      ∙ subst (λ j. at r j ≡ at s j) o (same (instance_words * i + k) (omega arith))
      ∙ sym (get_or-drop (instance_place p i) s k 0))
      (f.each i (omega arith));
  rest = λ k l.
      let o : instance_place p 0 + (instance_words * made_count s p + k) ≡ instance_place p (made_count s p) + k = omega arith in
      let d : instance_place p (made_count r p) + k ≡ instance_place p (made_count s p) + k = omega arith in
      let b : k < instance_words * (instances - made_count s p) = omega arith in
      ap (at r) d ∙ subst (λ j. at r j ≡ at s j) o (same (instance_words * made_count s p + k) (omega arith)) ∙ f.rest k b;
}
