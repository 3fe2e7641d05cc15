-- DEMAND 2: "A step is accepted exactly when the rules permit it, and the state afterwards is the one they give." r is what a call returns and y the
-- state that it leaves, as its promise has them, a step's with records that agree (AtDesk.antt). Assumes nothing.
use Prim.Native.Nat.{ℕ}
use mathlib.Core.Path.{◌≡◌, refl, sym, ◌∙◌, ap, ap₂}
use mathlib.Core.Bool.{Bool, true, false, ◌&&◌}
use mathlib.Core.List.{List, [], ◌∷◌, ◌++◌}
use native.Mathlib.Omega.{arith}
use lib.Dec.{eqb}
use Rattle.base_words.specs.Pick.{if◌then◌or_else◌}
use Rattle.base_state.specs.Instances.{instances_of, queues_of}
use Rattle.meaning.specs.declared.Name.{Name}
use Rattle.meaning.specs.declared.Answer.{Answer}
use Rattle.meaning.specs.declared.Tuple.{Tuple}
use Rattle.meaning.specs.Queues.{sending}
use Rattle.meaning.specs.Refusals.{first_refusal}
use Rattle.meaning.specs.Post.{post_refusals}
use Rattle.meaning.specs.Step.{site_of, exists, traffic, instances_after, queues_after, refusals}
use Rattle.proof_steps.proofs.AcceptedParts.{Accepted, accepted_parts, parts_accepted}
use Rattle.proof_steps.proofs.Choices.{chosen}
use Rattle.engine.specs.Engine.{Left, lent_number, fitting, Stepped, stepped, posted_to}
use Rattle.engine.specs.Calls.{Act, a_step, a_post, did, numbers, all_accepted, after}
use Rattle.proof_demands.specs.Promises.{StepsOn, Posts}
use Rattle.proof_demands.specs.Demands.{all_hold, permitted, after_act, state_given, all_permitted, numbers_given, given_after, Agrees, AllAllowed}
use Rattle.proof_valid.proofs.NumberGiven.{stepped_number}
use Rattle.proof_demands.proofs.Numbers.{stepped-traffic, unfit_number}
use Rattle.proof_demands.proofs.Exactly.{accepted_exactly, state_exactly, number_exactly, accepted_gives}
use Rattle.proof_demands.proofs.Firmness.{all_allowed_is}

number_fits : (b : Bool) (j k : ℕ) → (b ≡ false → j ≡ 0 → ⊥) → (if b then k or_else j) ≡ 0 → b ≡ true
unfolding if◌then◌or_else◌
number_fits true j k bad e = refl
number_fits false j k bad e = absurd (bad refl e)

module _ (t z : List ℕ) where
  -- A STEP: accepted exactly when table and state are right and every condition of its refusals holds; then it says what was consumed or sent, and the
  -- state is the one that the rules give
  module _ (n : Name) where
    abbrev s : List ℕ
    s = instances_of z

    abbrev q : List ℕ
    q = queues_of z

    module _ (r : Answer) (y : List ℕ) (promise : StepsOn t z n r y) where
      step_is : r.number ≡ (stepped t z n).answer.number
      step_is = ap (λ (o : Stepped). o.answer.number) promise

      pub step_exactly : eqb r.number 0 ≡ fitting t z && all_hold (refusals t s q n)
      unfolding did permitted
      step_exactly = ap (λ (k : ℕ). eqb k 0) step_is ∙ accepted_exactly t (a_step n) z

      pub step_gives : r.number ≡ 0 → (r ≡ traffic (site_of t s n)) × (y ≡ instances_after t s n ++ queues_after (site_of t s n) q)
      unfolding did after_act
      step_gives e = (
        ap (λ (o : Stepped). o.answer) promise ∙ stepped-traffic t z n (sym step_is ∙ e),
        ap (λ (o : Stepped). o.state) promise ∙ accepted_gives t (a_step n) z (sym step_is ∙ e),
      )

      -- the conditions by name: such a pool, instance, element, phase and branch exist, and all that `Accepted` lists
      pub step_permits : r.number ≡ 0 → (fitting t z ≡ true) × (exists t s n ≡ true) × Accepted (site_of t s n) q
      step_permits e =
          let k = sym (stepped_number t z n) ∙ sym step_is ∙ e in
          let f : fitting t z ≡ true = number_fits (fitting t z) (lent_number t z) (first_refusal (refusals t s q n)) (unfit_number t z) k in
          let p = accepted_parts t s q n (sym (chosen (fitting t z) (first_refusal (refusals t s q n)) (lent_number t z) f) ∙ k) in
          (f, p.0, p.1)

      pub step_accepts : fitting t z ≡ true → exists t s n ≡ true → Accepted (site_of t s n) q → r.number ≡ 0
      step_accepts f e a =
          step_is
          ∙ stepped_number t z n
          ∙ chosen (fitting t z) (first_refusal (refusals t s q n)) (lent_number t z) f
          ∙ parts_accepted t s q n e a

  -- A POST
  module _ (name : ℕ) (g : Tuple) (r : ℕ) (y : List ℕ) (promise : Posts t z name g r y) where
    post_is : r ≡ (posted_to t z name g).number
    post_is = ap (λ (o : Left). o.number) promise

    pub post_exactly : eqb r 0 ≡ fitting t z && all_hold (post_refusals (queues_of z) name g)
    unfolding did permitted
    post_exactly = ap (λ (k : ℕ). eqb k 0) post_is ∙ accepted_exactly t (a_post name g) z

    pub post_gives : r ≡ 0 → y ≡ instances_of z ++ sending (queues_of z) name g
    unfolding did after_act
    post_gives e = ap (λ (o : Left). o.state) promise ∙ accepted_gives t (a_post name g) z (sym post_is ∙ e)

-- CALLS ONE AFTER THE OTHER, each judged in the state that the earlier ones left
module _ (t : List ℕ) where
  -- all are accepted exactly when all are permitted
  pub steps_exactly : (acts : List Act) (z : List ℕ) → all_accepted t acts z ≡ all_permitted t acts z
  unfolding all_accepted all_permitted state_given
  steps_exactly [] z = refl
  steps_exactly (a ∷ rest) z = rw (accepted_exactly t a z) (go (permitted t a z) refl (steps_exactly rest (after_act t a z)))
    where
      go : (b : Bool) → permitted t a z ≡ b → all_accepted t rest (after_act t a z) ≡ all_permitted t rest (after_act t a z) → b && all_accepted t rest (did t a z).state ≡ b && all_permitted t rest (after_act t a z)
      go true e next = ap (all_accepted t rest) (state_exactly t a z ∙ chosen (permitted t a z) (after_act t a z) z e) ∙ next
      go false e next = refl

  -- accepted or not, their numbers and the state after them are those that the rules give
  pub numbers_exactly : (acts : List Act) (z : List ℕ) → numbers t acts z ≡ numbers_given t acts z
  unfolding numbers numbers_given
  numbers_exactly [] z = refl
  numbers_exactly (a ∷ rest) z = ap₂ ◌∷◌ (number_exactly t a z) (numbers_exactly rest (did t a z).state ∙ ap (numbers_given t rest) (state_exactly t a z))

  pub after_exactly : (acts : List Act) (z : List ℕ) → after t acts z ≡ given_after t acts z
  unfolding after given_after
  after_exactly [] z = refl
  after_exactly (a ∷ rest) z = after_exactly rest (did t a z).state ∙ ap (given_after t rest) (state_exactly t a z)

  -- so too of what their promises allow them to return, ks, and to leave, y, where the desk's records agree: none does its step in name only
  pub calls_exactly : (acts : List Act) (z : List ℕ) (rs : List (List ℕ)) → Agrees t z rs → (ks y : List ℕ) (ys : List (List ℕ)) → AllAllowed t acts z rs ks y ys → (ks ≡ numbers_given t acts z) × (y ≡ given_after t acts z)
  calls_exactly acts z rs a ks y ys h =
      let w = all_allowed_is t acts z rs a ks y ys h in
      (w.0 ∙ numbers_exactly acts z, w.1 ∙ after_exactly acts z)
