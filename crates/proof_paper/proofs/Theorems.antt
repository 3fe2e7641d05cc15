-- THE ENGINE AND THE PAPER'S RULES AGREE, for every table and state that pass the engine's own checks (Valid: as long as the type of a lent state says,
-- and `fitting`) and every step name: what is accepted is a transition (soundness), every transition is accepted (completeness), and state, label and
-- what is told are the same; so there is one transition for one name. The same of a post, and of calls one after the other. Assumes nothing.
use Prim.Native.Nat.{ℕ, ◌<◌, ◌≤◌}
use mathlib.Core.Path.{◌≡◌, refl, sym, ◌∙◌, ap, ap₂, subst}
use mathlib.Core.Bool.{true, ◌&&◌}
use mathlib.Core.List.{List, [], ◌∷◌, ◌++◌, map}
use lib.Dec.{eqb, leb, ltb}
use lib.ListN.{length}
use lib.Seq.{take_at, drop_at}
use borrow.Author.Tests.{eqb-true, eq-eqb, lt-ltb, le-leb}
use Rattle.base_words.specs.Pick.{if◌then◌or_else◌}
use Rattle.base_words.specs.Counts.{names, values, messages}
use Rattle.base_words.proofs.AllLaws.{and_left, and_right}
use Rattle.base_words.proofs.PickLaws.{and_true}
use Rattle.base_state.specs.Places.{instances_words}
use Rattle.base_state.specs.Instances.{instances_of, queues_of, version_of}
use Rattle.meaning.specs.declared.Name.{Name}
use Rattle.meaning.specs.declared.Answer.{Answer}
use Rattle.meaning.specs.declared.Tuple.{Tuple}
use Rattle.meaning.specs.Queues.{messages_of, sending}
use Rattle.meaning.specs.Refusals.{first_refusal}
use Rattle.meaning.specs.Step.{Outcome, site_of, receives, sends, refusals, instances_after, queues_after, traffic, refused, step}
use Rattle.meaning.specs.Post.{post_refusals, Posted, post}
use Rattle.engine.specs.Engine.{Left, valid, fitting, Stepped, leaving, stepped, posted_to}
use Rattle.engine.specs.Calls.{Act, a_step, a_post, did, all_accepted, after, Valid}
use Rattle.proof_steps.proofs.Choices.{by_test, by_choice, chosen, passed}
use Rattle.proof_steps.proofs.EveryStep.{Fitting}
use Rattle.proof_steps.proofs.OnlyOwn.{length_after}
use Rattle.proof_steps.proofs.QueueFits.{fits_tidy}
use Rattle.proof_steps.proofs.Traffic.{state_queues}
use Rattle.proof_steps.proofs.KeepsFits.{posted_right}
use Rattle.engine.proofs.CallLaws.{fitting_table, lent_fits}
use Rattle.engine.proofs.KeepsValid.{did-valid, did_version}
use Rattle.paper.specs.States.{Configuration, Multiset, add}
use Rattle.paper.specs.Collaborations.{Seen, Steps, Posts, posted}
use Rattle.proof_paper.specs.Decoders.{collaboration_of, configuration_of, named_of, values_of, seen_as, told_of}
use Rattle.proof_paper.specs.Calls.{state_of, told, Trace}
use Rattle.proof_paper.proofs.Mail.{mail_sent, length-values}
use Rattle.proof_paper.proofs.Steps.{label, sound, complete}

-- what is accepted, by its number
first_none : (k : ℕ) (o : Outcome) (w : Outcome) → o.answer.number ≡ k → (if eqb k 0 then w or_else o).answer.number ≡ 0 → k ≡ 0
first_none k o w e h = by_test (eqb k 0) (λ y. eqb-true k 0 y) (λ y. sym e ∙ sym (ap (λ (u : Outcome). u.answer.number) (passed (eqb k 0) w o y)) ∙ h)

post_accepted : (q : List ℕ) (name : ℕ) (g : Tuple) → name < names → g.length ≤ values → length (messages_of q name) < messages → first_refusal (post_refusals q name g) ≡ 0
unfolding post_refusals first_refusal
post_accepted q name g l r w =
    chosen (ltb name names && leb g.length values) _ _ (and_true (ltb name names) (leb g.length values) (lt-ltb name names l) (le-leb g.length values r))
    ∙ chosen (ltb (length (messages_of q name)) messages) _ _ (lt-ltb (length (messages_of q name)) messages w)

module _ (t z : List ℕ) (s : Valid t z) where
  abbrev instances : List ℕ
  instances = instances_of z

  abbrev queues : List ℕ
  queues = queues_of z

  v : valid t ≡ true
  v = fitting_table t z s.fits

  fit : Fitting t instances queues
  fit = lent_fits t z s.long s.fits

  -- the version that the state was made for
  abbrev version : ℕ
  version = version_of instances

  -- A STEP
  module _ (n : Name) where
    stepped_is : stepped t z n ≡ leaving (step t instances queues n)
    unfolding stepped
    stepped_is = chosen (fitting t z) _ _ s.fits

    none_refused : (did t (a_step n) z).number ≡ 0 → first_refusal (refusals t instances queues n) ≡ 0
    unfolding did leaving step
    none_refused e =
        first_none (first_refusal (refusals t instances queues n)) (refused (first_refusal (refusals t instances queues n)) instances queues) _ refl (ap (λ (o : Stepped). o.answer.number) (sym stepped_is) ∙ e)

    step_is : first_refusal (refusals t instances queues n) ≡ 0
        → stepped t z n ≡ record { answer = traffic (site_of t instances n); state = instances_after t instances n ++ queues_after (site_of t instances n) queues }
    unfolding leaving step
    step_is e = stepped_is ∙ ap leaving (chosen (eqb (first_refusal (refusals t instances queues n)) 0) _ _ (eq-eqb (first_refusal (refusals t instances queues n)) 0 e))

    number_none : (traffic (site_of t instances n)).number ≡ 0
    unfolding traffic
    number_none = by_choice (λ (a : Answer). a.number ≡ 0) (receives (site_of t instances n)) _ _ (λ e. refl) (λ e. by_choice (λ (a : Answer). a.number ≡ 0) (sends (site_of t instances n)) _ _ (λ e. refl) (λ e. refl))

    left_is : first_refusal (refusals t instances queues n) ≡ 0 → state_of t (did t (a_step n) z).state ≡ configuration_of t (instances_after t instances n) (queues_after (site_of t instances n) queues)
    unfolding did
    left_is e =
        let a : List ℕ = instances_after t instances n in
        let c : List ℕ = queues_after (site_of t instances n) queues in
        let l : length a ≡ instances_words = length_after t instances n ∙ fit.long in
        ap (λ (o : Stepped). state_of t o.state) (step_is e) ∙ (λ i. configuration_of t (take_at a c instances_words l i) (drop_at a c instances_words l i))

    -- SOUNDNESS: a step that is accepted is a transition of that pool, instance, element, phase, branch and message; the state afterwards is the
    -- transition's, and what was sent or consumed is its label
    pub step-sound : (did t (a_step n) z).number ≡ 0
        → (l : Seen) × Steps version (collaboration_of t) (named_of n) (state_of t z) l (state_of t (did t (a_step n) z).state) × (seen_as l ≡ told_of (stepped t z n).answer)
    unfolding did
    step-sound e =
        let k = none_refused e in
        let r = sound t instances queues v fit n k in
        (label t instances queues v fit n, subst (Steps version (collaboration_of t) (named_of n) (state_of t z) (label t instances queues v fit n)) (sym (left_is k)) r.0, r.1 ∙ ap (λ (o : Stepped). told_of o.answer) (sym (step_is k)))

    -- COMPLETENESS: a transition is accepted, and gives this state and this traffic
    pub step-complete : {l : Seen} {κ : Configuration} → Steps version (collaboration_of t) (named_of n) (state_of t z) l κ
        → ((did t (a_step n) z).number ≡ 0) × (κ ≡ state_of t (did t (a_step n) z).state) × (seen_as l ≡ told_of (stepped t z n).answer)
    unfolding did
    step-complete y =
        let r = complete t instances queues v fit n y in
        let k = r.0 in
        (ap (λ (o : Stepped). o.answer.number) (step_is k) ∙ number_none, r.1 ∙ sym (left_is k), ap seen_as r.2 ∙ (sound t instances queues v fit n k).1 ∙ ap (λ (o : Stepped). told_of o.answer) (sym (step_is k)))

    -- ACCEPTED EXACTLY WHERE THERE IS A TRANSITION
    pub step_exactly : ((did t (a_step n) z).number ≡ 0 → (l : Seen) × ((κ : Configuration) × Steps version (collaboration_of t) (named_of n) (state_of t z) l κ))
        × ((l : Seen) (κ : Configuration) → Steps version (collaboration_of t) (named_of n) (state_of t z) l κ → (did t (a_step n) z).number ≡ 0)
    step_exactly = ((λ e. let r = step-sound e in (r.0, (state_of t (did t (a_step n) z).state, r.1))), (λ l κ y. (step-complete y).0))

    -- ONE TRANSITION: once pool, instance, element, phase, branch and message are named, label and configuration are determined
    pub step_one : {l l' : Seen} {κ κ' : Configuration} → Steps version (collaboration_of t) (named_of n) (state_of t z) l κ → Steps version (collaboration_of t) (named_of n) (state_of t z) l' κ' → (l ≡ l') × (κ ≡ κ')
    step_one y y' =
        let r = complete t instances queues v fit n y in
        let r' = complete t instances queues v fit n y' in
        (r.2 ∙ sym r'.2, r.1 ∙ sym r'.1)

  -- A POST
  module _ (name : ℕ) (g : Tuple) where
    posted_to_is : posted_to t z name g ≡ record { number = (post queues name g).number; state = instances ++ (post queues name g).queues }
    unfolding posted_to
    posted_to_is = chosen (fitting t z) _ _ s.fits

    posted_number : (did t (a_post name g) z).number ≡ (post queues name g).number
    unfolding did
    posted_number = ap (λ (o : Left). o.number) posted_to_is

    not_refused : (did t (a_post name g) z).number ≡ 0 → first_refusal (post_refusals queues name g) ≡ 0
    unfolding post
    not_refused e =
        by_test (eqb (first_refusal (post_refusals queues name g)) 0) (λ y. eqb-true (first_refusal (post_refusals queues name g)) 0 y)
        (λ y. sym (ap (λ (o : Posted). o.number) (passed (eqb (first_refusal (post_refusals queues name g)) 0) _ _ y)) ∙ sym posted_number ∙ e)

    post_is : first_refusal (post_refusals queues name g) ≡ 0 → post queues name g ≡ record { number = 0; queues = sending queues name g }
    unfolding post
    post_is e = chosen (eqb (first_refusal (post_refusals queues name g)) 0) _ _ (eq-eqb (first_refusal (post_refusals queues name g)) 0 e)

    posted_is : first_refusal (post_refusals queues name g) ≡ 0 → state_of t (did t (a_post name g) z).state ≡ add (state_of t z) name (values_of g)
    unfolding did add
    posted_is e =
        let h = posted_right queues name g e in
        let tidy = fits_tidy queues name (state_queues t instances queues fit.fits name h.0) in
        let w = mail_sent queues name fit.wide h.0 tidy (λ k l. (fits_tidy queues k (state_queues t instances queues fit.fits k l)).room) g h.2 h.1 in
        let c : List ℕ = sending queues name g in
        ap (λ (o : Left). state_of t o.state) posted_to_is
        ∙ ap (λ (o : Posted). state_of t (instances ++ o.queues)) (post_is e)
        ∙ (λ i. configuration_of t (take_at instances c instances_words fit.long i) (drop_at instances c instances_words fit.long i))
        ∙ (λ i. record { σi = (state_of t z).σi; made = (state_of t z).made; σm = w i; σds = (state_of t z).σds })

    size_is : name < names → ((state_of t z).σm name).size ≡ length (messages_of queues name)
    size_is l = ap (λ (M : Multiset). M.size) (chosen (ltb name names) _ _ (lt-ltb name names l))

    pub post-sound : (did t (a_post name g) z).number ≡ 0 → Posts (state_of t z) name (values_of g) (state_of t (did t (a_post name g) z).state)
    post-sound e =
        let k = not_refused e in
        let h = posted_right queues name g k in
        subst (Posts (state_of t z) name (values_of g)) (sym (posted_is k)) (posted h.0 (subst (λ y. y ≤ values) (sym (length-values g)) h.1) (subst (λ y. y < messages) (sym (size_is h.0)) h.2))

    pub post-complete : {κ : Configuration} → Posts (state_of t z) name (values_of g) κ → ((did t (a_post name g) z).number ≡ 0) × (κ ≡ state_of t (did t (a_post name g) z).state)
    post-complete (posted l r w) =
        let k = post_accepted queues name g l (subst (λ y. y ≤ values) (length-values g) r) (subst (λ y. y < messages) (size_is l) w) in
        (posted_number ∙ ap (λ (o : Posted). o.number) (post_is k), sym (posted_is k))

-- CALLS ONE AFTER THE OTHER: the traces of the engine are the traces of the relation, under the version of the state that they begin in
module _ (t : List ℕ) where
  traced : (v : ℕ) (acts : List Act) (z : List ℕ) → Valid t z → version_of (instances_of z) ≡ v → all_accepted t acts z ≡ true
      → (ls : List Seen) × Trace v (collaboration_of t) acts (state_of t z) ls (state_of t (after t acts z)) × (map seen_as ls ≡ told t acts z)
  unfolding all_accepted after told
  traced v [] z s is e = ([], Trace.none, refl)
  traced v (a_step n ∷ rest) z s is e =
      let k = eqb-true (did t (a_step n) z).number 0 (and_left (eqb (did t (a_step n) z).number 0) (all_accepted t rest (did t (a_step n) z).state) e) in
      let (l, y, w) = step-sound t z s n k in
      let (ls, r, u) = traced v rest (did t (a_step n) z).state (did-valid t (a_step n) z s) (did_version t (a_step n) z s ∙ is) (and_right (eqb (did t (a_step n) z).number 0) (all_accepted t rest (did t (a_step n) z).state) e) in
      (l ∷ ls, Trace.step (subst (λ k. Steps k (collaboration_of t) (named_of n) (state_of t z) l (state_of t (did t (a_step n) z).state)) is y) r, ap₂ ◌∷◌ w u)
  traced v (a_post name g ∷ rest) z s is e =
      let k = eqb-true (did t (a_post name g) z).number 0 (and_left (eqb (did t (a_post name g) z).number 0) (all_accepted t rest (did t (a_post name g) z).state) e) in
      let (ls, r, u) = traced v rest (did t (a_post name g) z).state (did-valid t (a_post name g) z s) (did_version t (a_post name g) z s ∙ is) (and_right (eqb (did t (a_post name g) z).number 0) (all_accepted t rest (did t (a_post name g) z).state) e) in
      (ls, Trace.post (post-sound t z s name g k) r, u)

  pub trace_sound : (acts : List Act) (z : List ℕ) → Valid t z → all_accepted t acts z ≡ true
      → (ls : List Seen) × Trace (version_of (instances_of z)) (collaboration_of t) acts (state_of t z) ls (state_of t (after t acts z)) × (map seen_as ls ≡ told t acts z)
  trace_sound acts z s e = traced (version_of (instances_of z)) acts z s refl e

  followed : (v : ℕ) (acts : List Act) (z : List ℕ) → Valid t z → version_of (instances_of z) ≡ v → {ls : List Seen} {κ : Configuration} → Trace v (collaboration_of t) acts (state_of t z) ls κ
      → (all_accepted t acts z ≡ true) × (κ ≡ state_of t (after t acts z)) × (map seen_as ls ≡ told t acts z)
  unfolding all_accepted after told
  followed v [] z s is Trace.none = (refl, refl, refl)
  followed v (a_step n ∷ rest) z s is {κ = κ} (Trace.step {κ' = κ'} {l = l} {ls = ls} y r) =
      let (k, p, w) = step-complete t z s n (subst (λ k. Steps k (collaboration_of t) (named_of n) (state_of t z) l κ') (sym is) y) in
      let (e, q, u) = followed v rest (did t (a_step n) z).state (did-valid t (a_step n) z s) (did_version t (a_step n) z s ∙ is) (subst (λ c. Trace v (collaboration_of t) rest c ls κ) p r) in
      (and_true (eqb (did t (a_step n) z).number 0) (all_accepted t rest (did t (a_step n) z).state) (eq-eqb (did t (a_step n) z).number 0 k) e, q, ap₂ ◌∷◌ w u)
  followed v (a_post name g ∷ rest) z s is {ls = ls} {κ = κ} (Trace.post y r) =
      let (k, p) = post-complete t z s name g y in
      let (e, q, u) = followed v rest (did t (a_post name g) z).state (did-valid t (a_post name g) z s) (did_version t (a_post name g) z s ∙ is) (subst (λ c. Trace v (collaboration_of t) rest c ls κ) p r) in
      (and_true (eqb (did t (a_post name g) z).number 0) (all_accepted t rest (did t (a_post name g) z).state) (eq-eqb (did t (a_post name g) z).number 0 k) e, q, u)

  pub trace_complete : (acts : List Act) (z : List ℕ) → Valid t z → {ls : List Seen} {κ : Configuration} → Trace (version_of (instances_of z)) (collaboration_of t) acts (state_of t z) ls κ
      → (all_accepted t acts z ≡ true) × (κ ≡ state_of t (after t acts z)) × (map seen_as ls ≡ told t acts z)
  trace_complete acts z s y = followed (version_of (instances_of z)) acts z s refl y
