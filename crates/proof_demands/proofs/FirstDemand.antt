-- DEMAND 1: "Each call ends for all texts, tables, states and step names. Bad ones are refused with the number document 01 gives .. and a refused call
-- changes no byte it was lent." That a call ends is proved of every function by the gate; a table is lent to be read only, but to `read`, of which and
-- of `write` ReadAndWrite tells. Of each other call by name: which numbers can come, exactly when each comes, what is left of the state. r is what is
-- returned and y what is left of the state z that was lent, as the call's promise has them. Assumes nothing.
use Prim.Native.Nat.{ℕ}
use mathlib.Core.Path.{◌≡◌, refl, sym, ◌∙◌, ap, subst}
use mathlib.Core.Bool.{true, false}
use mathlib.Core.List.{List}
use native.Mathlib.Omega.{arith}
use lib.Dec.{eqb}
use borrow.Author.Tests.{eq-eqb, ne_eqb}
use Rattle.base_words.specs.Pick.{if◌then◌or_else◌}
use Rattle.base_state.specs.Instances.{instances_of, queues_of}
use Rattle.base_state.specs.Versions.{is_version}
use Rattle.meaning.specs.declared.Name.{Name}
use Rattle.meaning.specs.declared.Answer.{Answer}
use Rattle.meaning.specs.declared.Tuple.{Tuple}
use Rattle.meaning.specs.declared.Traffic.TheVariants.{Nothing}
use Rattle.meaning.specs.Tuples.{empty}
use Rattle.meaning.specs.Refusals.{first_refusal}
use Rattle.meaning.specs.Post.{post_refusals}
use Rattle.meaning.specs.Step.{refusals}
use Rattle.check_limits.specs.Limits.{table_fits}
use Rattle.check_model.specs.Checks.{lowest}
use Rattle.check_lowest.specs.Model.{model_of}
use Rattle.state_fits.specs.Fresh.{fresh}
use Rattle.proof_steps.proofs.Choices.{by_choice, chosen, passed}
use Rattle.engine.specs.Engine.{Left, valid, version_number, asked_number, lent_number, verdict_of, freshened, fitting, Stepped, stepped, posted_to}
use Rattle.engine.specs.Calls.{Act, a_step, a_post, did}
use Rattle.engine.specs.Profile.{nested_of}
use Rattle.proof_demands.specs.Promises.{Freshens, StepsOn, Posts}
use Rattle.proof_demands.specs.Demands.{is_one_of, check_numbers, nested_numbers, fresh_numbers, step_numbers, post_numbers, permitted, after_act, state_given}
use Rattle.engine.proofs.CallLaws.{asked_invalid, asked_valid, asked_known}
use Rattle.proof_valid.proofs.NumberGiven.{stepped_number, posted_number}
use Rattle.proof_demands.proofs.Numbers.{Plain, stepped_plain, fresh_number, check_numbers_lem, nested_numbers_lem, fresh_numbers_lem, step_numbers_lem, post_numbers_lem}
use Rattle.proof_demands.proofs.Exactly.{accepted_exactly, state_exactly}

-- a step or a post with a number other than 0 leaves the state as it was
pub act_refused : (t : List ℕ) (a : Act) (z : List ℕ) → ((did t a z).number ≡ 0 → ⊥) → (did t a z).state ≡ z
unfolding state_given
act_refused t a z n =
    state_exactly t a z
    ∙ passed (permitted t a z) (after_act t a z) z (sym (accepted_exactly t a z) ∙ ne_eqb (did t a z).number 0 n)

-- CHECK changes nothing. 10, then 4; beside 4 the lowest check broken, beside the others 0
module _ (t : List ℕ) where
  pub check_bad : table_fits t ≡ false → verdict_of t ≡ record { number = 10; beside = 0 }
  unfolding verdict_of
  check_bad e = passed (table_fits t) _ (record { number = 10; beside = 0 }) e

  pub check_broken : table_fits t ≡ true → (lowest (model_of t) ≡ 0 → ⊥) → verdict_of t ≡ record { number = 4; beside = lowest (model_of t) }
  unfolding verdict_of if◌then◌or_else◌
  check_broken e n = rw (e, ne_eqb (lowest (model_of t)) 0 n)

  pub check_passed : table_fits t ≡ true → lowest (model_of t) ≡ 0 → verdict_of t ≡ record { number = 0; beside = 0 }
  unfolding verdict_of if◌then◌or_else◌
  check_passed e n = rw (e, eq-eqb (lowest (model_of t)) 0 n)

  pub check_number_is : is_one_of check_numbers (verdict_of t).number ≡ true
  check_number_is = check_numbers_lem t

-- NESTED changes nothing. 10, then 29; beside 29 the number of the first pool that is not nested, beside the others 0 (`proof_profile` has what nested is)
module _ (t : List ℕ) where
  pub nested_bad : valid t ≡ false → nested_of t ≡ record { number = 10; beside = 0 }
  unfolding nested_of
  nested_bad e = passed (valid t) _ (record { number = 10; beside = 0 }) e

  pub nested_number_is : is_one_of nested_numbers (nested_of t).number ≡ true
  nested_number_is = nested_numbers_lem t

-- FRESH
module _ (t : List ℕ) (v : ℕ) (z : List ℕ) (r : ℕ) (y : List ℕ) (promise : Freshens t v z r y) where
  fresh_is : r ≡ (freshened t v z).number
  fresh_is = ap (λ (o : Left). o.number) promise

  pub fresh_number_is : (r ≡ asked_number t v) × (is_one_of fresh_numbers r ≡ true)
  fresh_number_is = (fresh_is ∙ fresh_number t v z, subst (λ (k : ℕ). is_one_of fresh_numbers k ≡ true) (sym fresh_is) (fresh_numbers_lem t v z))

  -- "10, then 25 for a version that is not 10 or 20"
  pub fresh_bad : valid t ≡ false → r ≡ 10
  fresh_bad h = fresh_number_is.0 ∙ sym (asked_invalid t v h)

  pub fresh_other : valid t ≡ true → is_version v ≡ false → r ≡ 25
  unfolding asked_number version_number if◌then◌or_else◌
  fresh_other h k = fresh_number_is.0 ∙ rw (h, k)

  pub fresh_refused : (r ≡ 0 → ⊥) → y ≡ z
  unfolding freshened
  fresh_refused n =
      ap (λ (o : Left). o.state) promise
      ∙ by_choice (λ (o : Left). (o.number ≡ 0 → ⊥) → o.state ≡ z) (eqb (asked_number t v) 0) (record { number = 0; state = fresh t v })
      (record { number = asked_number t v; state = z })
      (λ e k. absurd (k refl))
      (λ e k. refl)
      (λ e. n (fresh_is ∙ e))

  pub fresh_made : r ≡ 0 → (valid t ≡ true) × (is_version v ≡ true) × (y ≡ fresh t v)
  unfolding freshened
  fresh_made n =
      let asked : asked_number t v ≡ 0 = sym fresh_number_is.0 ∙ n in
      (asked_valid t v asked, asked_known t v asked, ap (λ (o : Left). o.state) (promise ∙ chosen (eqb (asked_number t v) 0) _ _ (eq-eqb (asked_number t v) 0 asked)))

-- STEP
module _ (t z : List ℕ) (n : Name) (r : Answer) (y : List ℕ) (promise : StepsOn t z n r y) where
  step_is : r.number ≡ (stepped t z n).answer.number
  step_is = ap (λ (o : Stepped). o.answer.number) promise

  pub step_number_is : (r.number ≡ (if fitting t z then first_refusal (refusals t (instances_of z) (queues_of z) n) or_else lent_number t z)) × (is_one_of step_numbers r.number ≡ true)
  step_number_is = (step_is ∙ stepped_number t z n, subst (λ (k : ℕ). is_one_of step_numbers k ≡ true) (sym step_is) (step_numbers_lem t z n))

  pub step_refused : (r.number ≡ 0 → ⊥) → (y ≡ z) × (r ≡ record { number = r.number; traffic = Nothing; name = 0; tuple = empty })
  unfolding did
  step_refused k = (
    ap (λ (o : Stepped). o.state) promise ∙ act_refused t (a_step n) z (λ e. k (step_is ∙ e)),
    subst (λ (o : Stepped). Plain o.answer) (sym promise) (stepped_plain t z n) k,
  )

-- POST
module _ (t z : List ℕ) (name : ℕ) (g : Tuple) (r : ℕ) (y : List ℕ) (promise : Posts t z name g r y) where
  post_is : r ≡ (posted_to t z name g).number
  post_is = ap (λ (o : Left). o.number) promise

  pub post_number_is : (r ≡ (if fitting t z then first_refusal (post_refusals (queues_of z) name g) or_else lent_number t z)) × (is_one_of post_numbers r ≡ true)
  post_number_is = (post_is ∙ posted_number t z name g, subst (λ (k : ℕ). is_one_of post_numbers k ≡ true) (sym post_is) (post_numbers_lem t z name g))

  pub post_refused : (r ≡ 0 → ⊥) → y ≡ z
  unfolding did
  post_refused n = ap (λ (o : Left). o.state) promise ∙ act_refused t (a_post name g) z (λ e. n (post_is ∙ e))
