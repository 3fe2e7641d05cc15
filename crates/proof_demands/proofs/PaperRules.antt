-- DEMAND 2 BY THE PAPER: "A step is accepted exactly when the rules of the paper permit it, and the state afterwards is the one they give." The rules are
-- the relation of crate paper. r is what a call returns and y the state that it leaves, as its promise has them. Assumes that table and state are valid.
use Prim.Native.Nat.{ℕ}
use mathlib.Core.Path.{◌≡◌, sym, ◌∙◌, ap, subst}
use mathlib.Core.List.{List}
use Rattle.meaning.specs.declared.Name.{Name}
use Rattle.meaning.specs.declared.Answer.{Answer}
use Rattle.meaning.specs.declared.Tuple.{Tuple}
use Rattle.engine.specs.Engine.{Left, Stepped, stepped, posted_to}
use Rattle.base_state.specs.Instances.{instances_of, version_of}
use Rattle.engine.specs.Calls.{a_step, a_post, did, Valid}
use Rattle.paper.specs.States.{Configuration}
use Rattle.paper.specs.Collaborations.{Seen, Steps as Transition, Posts as Delivery}
use Rattle.proof_paper.specs.Decoders.{collaboration_of, named_of, values_of, seen_as, told_of}
use Rattle.proof_paper.specs.Calls.{state_of}
use Rattle.proof_paper.proofs.Theorems.{step-sound, step-complete, post-sound, post-complete}
use Rattle.proof_demands.specs.Promises.{StepsOn, Posts}

module _ (t z : List ℕ) (valid : Valid t z) where
  -- A STEP
  module _ (n : Name) (r : Answer) (y : List ℕ) (promise : StepsOn t z n r y) where
    answer_is : r ≡ (stepped t z n).answer
    answer_is = ap (λ (o : Stepped). o.answer) promise

    state_is : y ≡ (stepped t z n).state
    state_is = ap (λ (o : Stepped). o.state) promise

    -- what is accepted is a transition of that pool, instance, element, phase, branch and message, to the state left, and its label is what was told
    pub accepted_by_rules : r.number ≡ 0 → (l : Seen) × Transition (version_of (instances_of z)) (collaboration_of t) (named_of n) (state_of t z) l (state_of t y) × (seen_as l ≡ told_of r)
    unfolding did
    accepted_by_rules e =
        let (l, w, told) = step-sound t z valid n (sym (ap (λ (a : Answer). a.number) answer_is) ∙ e) in
        (l, subst (λ (x : List ℕ). Transition (version_of (instances_of z)) (collaboration_of t) (named_of n) (state_of t z) l (state_of t x)) (sym state_is) w, told ∙ sym (ap told_of answer_is))

    -- what the rules permit is accepted, and leaves that state
    pub permitted_by_rules : {l : Seen} {κ : Configuration} → Transition (version_of (instances_of z)) (collaboration_of t) (named_of n) (state_of t z) l κ
        → (r.number ≡ 0) × (κ ≡ state_of t y) × (seen_as l ≡ told_of r)
    unfolding did
    permitted_by_rules w =
        let (e, k, told) = step-complete t z valid n w in
        (ap (λ (a : Answer). a.number) answer_is ∙ e, k ∙ ap (state_of t) (sym state_is), told ∙ sym (ap told_of answer_is))

  -- A POST
  module _ (name : ℕ) (g : Tuple) (r : ℕ) (y : List ℕ) (promise : Posts t z name g r y) where
    pub posted_by_rules : r ≡ 0 → Delivery (state_of t z) name (values_of g) (state_of t y)
    unfolding did
    posted_by_rules e =
        subst (λ (x : List ℕ). Delivery (state_of t z) name (values_of g) (state_of t x)) (sym (ap (λ (o : Left). o.state) promise))
        (post-sound t z valid name g (sym (ap (λ (o : Left). o.number) promise) ∙ e))

    pub delivery_accepted : {κ : Configuration} → Delivery (state_of t z) name (values_of g) κ → (r ≡ 0) × (κ ≡ state_of t y)
    unfolding did
    delivery_accepted w =
        let (e, k) = post-complete t z valid name g w in
        (ap (λ (o : Left). o.number) promise ∙ e, k ∙ ap (state_of t) (sym (ap (λ (o : Left). o.state) promise)))
