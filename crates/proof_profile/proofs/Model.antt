-- A NESTED MODEL, over whatever the engine made of a fresh state: what is said of its pools, and that no step and no item of a poll is refused with 18. Assumes nothing.
use Prim.Native.Nat.{ℕ, ◌<◌}
use mathlib.Core.Path.{◌≡◌, refl, sym, ◌∙◌, ap}
use mathlib.Core.Bool.{Bool, false, not, ◌&&◌, false≢true}
use mathlib.Core.List.{List, [], ◌∷◌}
use native.Mathlib.Omega.{arith}
use lib.Dec.{eqb, ltb}
use borrow.Author.Tests.{ltb-true}
use Rattle.base_words.specs.Pick.{if◌then◌or_else◌}
use Rattle.base_words.proofs.PickLaws.{and_false_left}
use Rattle.base_table.specs.Table.{pool_count, element_count}
use Rattle.base_state.specs.Instances.{instances_of, queues_of}
use Rattle.meaning.specs.declared.Name.{Name}
use Rattle.meaning.specs.declared.Tuple.{Tuple}
use Rattle.meaning.specs.Refusals.{Refusal, ◌unless◌, first_refusal}
use Rattle.meaning.specs.Requirements.{branch_count}
use Rattle.meaning.specs.Step.{site_of, pool_named, element_named, move_named, exists, refusals_at, refusals}
use Rattle.step_poll.specs.Items.{items_most, acts_in}
use Rattle.step_poll.specs.Poll.{Polling, one_before, polled_by, polled_from}
use Rattle.proof_steps.proofs.Choices.{by_test, by_choice}
use Rattle.engine.specs.Engine.{lent_number, stepped, posted_to}
use Rattle.engine.specs.Calls.{Act, a_step, a_post, did, polled_to}
use Rattle.engine.specs.Profile.{nested_of}
use Rattle.engine.proofs.CallLaws.{by_lent}
use Rattle.proof_demands.specs.Demands.{is_one_of, post_numbers, Made, by_act}
use Rattle.proof_demands.proofs.Numbers.{post_numbers_lem}
use Rattle.proof_demands.proofs.NeverBad.{made_valid}
use Rattle.proof_demands.proofs.PollSteps.{by_first}
use Rattle.proof_demands.proofs.StatesLeft.{step_number}
use Rattle.proof_profile.specs.Profile.{Safe}
use Rattle.proof_profile.proofs.Theorems.{pool_safe}
use Rattle.proof_profile.proofs.Named.{zero_nested}

-- the first of a list does not hold
first_of : (k : ℕ) (b : Bool) (rs : List Refusal) → b ≡ false → first_refusal (k unless b ∷ rs) ≡ k
unfolding first_refusal if◌then◌or_else◌
first_of k b rs e = rw e

module _ (t : List ℕ) (yes : (nested_of t).number ≡ 0) where
  pub model_safe : (z : List ℕ) → Made t z → (p : ℕ) → p < pool_count t → Safe t z p
  model_safe z m p there = let n = zero_nested t yes in pool_safe t n.0 p there (n.1 p there) z m

  -- no such pool: 11
  no_pool : (s q : List ℕ) (n : Name) → ltb (pool_named t n) (pool_count t) ≡ false → first_refusal (refusals t s q n) ≡ 11
  unfolding refusals exists
  no_pool s q n e =
      let a : Bool = ltb (pool_named t n) (pool_count t) in
      let b : Bool = ltb n.element (element_count t (pool_named t n)) in
      let c : Bool = not (eqb (move_named t n).kind 0) in
      let d : Bool = ltb n.branch (branch_count (element_named t n) (move_named t n)) in
      first_of 11 (exists t s n) (refusals_at (site_of t s n) q) (and_false_left (a && b && c && d) _ (and_false_left (a && b && c) d (and_false_left (a && b) c (and_false_left a b e))))

  -- "refusal 18 never occurs"
  pub never_18 : (z : List ℕ) → Made t z → (n : Name) → (stepped t z n).answer.number ≡ 18 → ⊥
  unfolding did
  never_18 z m n e =
      by_test (ltb (pool_named t n) (pool_count t))
      (λ l. (model_safe z m (pool_named t n) (ltb-true _ _ l)).never_18 n refl e)
      (λ l. let q = step_number t z (made_valid t (zero_nested t yes).0 z m) n in let r = no_pool (instances_of z) (queues_of z) n l in omega (arith, e, q, r))

  post_18 : (z : List ℕ) (name : ℕ) (g : Tuple) → (posted_to t z name g).number ≡ 18 → ⊥
  unfolding is_one_of if◌then◌or_else◌
  post_18 z name g e = false≢true (ap (is_one_of post_numbers) (sym e) ∙ post_numbers_lem t z name g)

  act_18 : (z : List ℕ) → Made t z → (a : Act) → (did t a z).number ≡ 18 → ⊥
  unfolding did
  act_18 z m (a_step n) = never_18 z m n
  act_18 z m (a_post name g) = post_18 z name g

  polled_18 : (acts : List Act) (z : List ℕ) → Made t z → (polled_by (did t) acts z).number ≡ 18 → ⊥
  unfolding polled_by one_before
  polled_18 [] z m e = omega (arith, e)
  polled_18 (a ∷ rest) z m e =
      by_first t (λ (r : Polling). r.number ≡ 18 → ⊥) a rest z (λ ok. polled_18 rest (did t a z).state (by_act a m)) (λ no. act_18 z m a) e

  pub never_in_poll : (z : List ℕ) → Made t z → (w : List ℕ) (count : ℕ) → (polled_to t z w count).number ≡ 18 → ⊥
  unfolding polled_to polled_from
  never_in_poll z m w count =
      by_choice (λ (r : Polling). r.number ≡ 18 → ⊥) (ltb items_most count) (record { number = 22; accepted = 0; state = z }) _ (λ b e. omega (arith, e))
      (λ b.
      by_choice (λ (r : Polling). r.number ≡ 18 → ⊥) (eqb (lent_number t z) 0) (polled_by (did t) (acts_in w count) z) (record { number = lent_number t z; accepted = 0; state = z })
      (λ e. polled_18 (acts_in w count) z m) (λ e. by_lent (λ k. k ≡ 18 → ⊥) t z (λ q. omega (arith, q)) (λ q. omega (arith, q)) (λ q. omega (arith, q))))
