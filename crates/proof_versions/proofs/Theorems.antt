-- STEPS AND POSTS THAT ARE ACCEPTED IN TURN UNDER 10 ARE ACCEPTED UNDER 20, tell the same of what was consumed and sent, and give states that are equal but for the version: for every valid
-- table and state. The other way it is not so: under 10 an `na_c` task waits. Assumes nothing.
use Prim.Native.Nat.{ℕ, ◌+◌, ◌*◌, ◌<◌}
use mathlib.Core.Path.{◌≡◌, refl, sym, ◌∙◌, ap, ap₂, subst}
use mathlib.Core.Bool.{true, ◌&&◌}
use mathlib.Core.List.{List, [], ◌∷◌, ◌++◌}
use native.Mathlib.Omega.{arith}
use lib.Dec.{eqb}
use lib.ListN.{length, drop, replicate, length-set}
use lib.Seq.{get_or-take, get_or-drop, get_or-set_same, get_or-set_other, set-set, set-append_left, take-set-lt, drop-set-lt}
use borrow.Author.Tests.{eqb-true, eq-eqb}
use Rattle.base_words.specs.All.{all}
use Rattle.base_words.specs.Iter.{iter}
use Rattle.base_words.specs.Pick.{if◌then◌or_else◌}
use Rattle.base_words.specs.Words.{at}
use Rattle.base_words.specs.Counts.{pools, names, fields}
use Rattle.base_words.proofs.AllLaws.{and_left, and_right, all_of}
use Rattle.base_words.proofs.PickLaws.{and_true}
use Rattle.base_table.specs.Table.{pool_count}
use Rattle.base_state.specs.Places.{instance_place, store_words, shared_place, version_at, instances_words, state_words}
use Rattle.base_state.specs.Instances.{instances_of, queues_of, version_of, made_count}
use Rattle.base_state.specs.Versions.{former, present, is_version}
use Rattle.meaning.specs.declared.Name.{Name}
use Rattle.meaning.specs.declared.Tuple.{Tuple}
use Rattle.meaning.specs.Refusals.{first_refusal}
use Rattle.meaning.specs.Step.{Outcome, site_of, refusals, instances_after, queues_after, traffic, refused, step}
use Rattle.meaning.specs.Post.{post}
use Rattle.state_fits.specs.Fits.{field_fits, fields_fit, instances_fit, shared_fits, queue_fits, state_fits}
use Rattle.state_fits.specs.Fresh.{pool_begun, fresh}
use Rattle.engine.specs.Engine.{Left, valid, fitting, Stepped, leaving, stepped, posted_to}
use Rattle.engine.specs.Calls.{Act, a_step, a_post, did, all_accepted, after, Valid}
use Rattle.engine.proofs.CallLaws.{fitting_table, fitting_of, lent_fits, asked_good}
use Rattle.engine.proofs.KeepsValid.{did-valid, fresh-valid}
use Rattle.proof_steps.proofs.Choices.{by_test, chosen, passed}
use Rattle.proof_steps.proofs.EveryStep.{Fitting}
use Rattle.proof_steps.proofs.OnlyOwn.{length_after}
use Rattle.proof_steps.proofs.InstanceFits.{field_alike}
use Rattle.proof_steps.proofs.PoolFits.{PoolFit, pool_parts, pool_back, pool_same, made_few}
use Rattle.proof_steps.proofs.Traffic.{state_instances, state_stores, state_queues}
use Rattle.proof_valid.proofs.ChecksHold.{valid_fits}
use Rattle.proof_paper.specs.Decoders.{told_of}
use Rattle.proof_paper.specs.Calls.{told}
use Rattle.proof_versions.specs.Versions.{under, Follows}
use Rattle.proof_versions.proofs.Steps.{step_along}

-- the parts of the state
instances_along : (v : ℕ) (z : List ℕ) → instances_of (under v z) ≡ under v (instances_of z)
instances_along v z = take-set-lt instances_words z version_at v (omega arith)

queues_same : (v : ℕ) (z : List ℕ) → queues_of (under v z) ≡ queues_of z
queues_same v z = drop-set-lt instances_words z version_at v (omega arith)

-- what is accepted, by its number
first_none : (k : ℕ) (o w : Outcome) → o.answer.number ≡ k → (if eqb k 0 then w or_else o).answer.number ≡ 0 → k ≡ 0
first_none k o w e h = by_test (eqb k 0) (λ y. eqb-true k 0 y) (λ y. sym e ∙ sym (ap (λ (u : Outcome). u.answer.number) (passed (eqb k 0) w o y)) ∙ h)

module _ (t z : List ℕ) (s : Valid t z) where
  abbrev instances : List ℕ
  instances = instances_of z

  abbrev queues : List ℕ
  queues = queues_of z

  good : valid t ≡ true
  good = fitting_table t z s.fits

  fit : Fitting t instances queues
  fit = lent_fits t z s.long s.fits

  module _ (v : ℕ) (known : is_version v ≡ true) where
    abbrev r : List ℕ
    r = under v instances

    -- IT FITS under every version that there is
    pool_along : (p : ℕ) → p < pools → instances_fit t r p ≡ true
    pool_along p l =
        let f : PoolFit t instances p = pool_parts t instances p (state_instances t instances queues fit.fits p l) in
        pool_back t r p
        (pool_same t instances r p (made_few t (valid_fits t good) p (made_count instances p) f.made) (get_or-set_other instances version_at p v 0 (λ e. omega (arith, l)))
        (λ k h. get_or-set_other instances version_at (instance_place p 0 + k) v 0 (λ e. omega (arith, l, h))) f)

    store_along : (j : ℕ) → j < store_words → at (drop shared_place r) j ≡ at (drop shared_place instances) j
    store_along j l =
        get_or-drop shared_place r j 0
        ∙ get_or-set_other instances version_at (shared_place + j) v 0 (λ e. omega (arith, l))
        ∙ sym (get_or-drop shared_place instances j 0)

    shared_along : shared_fits r ≡ true
    unfolding shared_fits fields_fit
    shared_along = all_of (field_fits (drop shared_place r)) fields (λ d l.
        field_alike (drop shared_place instances) (drop shared_place r) d d (store_along (2 * d) (omega arith)) (store_along (2 * d + 1) (omega arith))
        (state_stores t instances queues fit.fits d l))

    fits_along : state_fits t r queues ≡ true
    unfolding state_fits
    fits_along =
        and_true (all (instances_fit t r) pools && shared_fits r) (all (queue_fits queues) names)
        (and_true (all (instances_fit t r) pools) (shared_fits r) (all_of (instances_fit t r) pools pool_along) shared_along)
        (all_of (queue_fits queues) names (state_queues t instances queues fit.fits))

    pub valid_along : Valid t (under v z)
    valid_along =
        let is : version_of (instances_of (under v z)) ≡ v = get_or-take instances_words (under v z) version_at 0 (omega arith) ∙ get_or-set_same z version_at v 0 (omega (arith, s.long)) in
        record {
          long = length-set z version_at v ∙ s.long;
          fits = fitting_of t (under v z) good ((λ i. state_fits t (instances_along v z i) (queues_same v z i)) ∙ fits_along) (ap is_version is ∙ known);
        }

    -- A STEP
    module _ (n : Name) (later : v ≡ former → ⊥) where
      none_refused : (stepped t z n).answer.number ≡ 0 → first_refusal (refusals t instances queues n) ≡ 0
      unfolding stepped leaving step
      none_refused e =
          first_none (first_refusal (refusals t instances queues n)) (refused (first_refusal (refusals t instances queues n)) instances queues) _ refl
          (ap (λ (o : Stepped). o.answer.number) (sym (chosen (fitting t z) _ _ s.fits)) ∙ e)

      pub step-under : (stepped t z n).answer.number ≡ 0 → stepped t (under v z) n ≡ record { answer = (stepped t z n).answer; state = under v (stepped t z n).state }
      unfolding stepped leaving step
      step-under e =
          let k = none_refused e in
          let a : List ℕ = instances_after t instances n in
          let c : List ℕ = queues_after (site_of t instances n) queues in
          let long : length a ≡ instances_words = length_after t instances n ∙ fit.long in
          let is : stepped t z n ≡ record { answer = traffic (site_of t instances n); state = a ++ c } =
          chosen (fitting t z) _ _ s.fits ∙ ap leaving (chosen (eqb (first_refusal (refusals t instances queues n)) 0) _ _ (eq-eqb (first_refusal (refusals t instances queues n)) 0 k)) in
          chosen (fitting t (under v z)) (leaving (step t (instances_of (under v z)) (queues_of (under v z)) n)) _ valid_along.fits
          ∙ (λ i. leaving (step t (instances_along v z i) (queues_same v z i) n))
          ∙ ap leaving (step_along t instances queues good fit v n k later)
          ∙ (λ i. record { answer = traffic (site_of t instances n); state = sym (set-append_left a c version_at v (omega (arith, long))) i })
          ∙ ap (λ (o : Stepped). record { answer = o.answer; state = under v o.state }) (sym is)

    -- A POST, accepted or not
    pub post-under : (name : ℕ) (g : Tuple) → posted_to t (under v z) name g ≡ record { number = (posted_to t z name g).number; state = under v (posted_to t z name g).state }
    unfolding posted_to
    post-under name g =
        let c : List ℕ = (post queues name g).queues in
        let is : posted_to t z name g ≡ record { number = (post queues name g).number; state = instances ++ c } = chosen (fitting t z) _ _ s.fits in
        chosen {A = Left} (fitting t (under v z)) (record { number = (post (queues_of (under v z)) name g).number; state = instances_of (under v z) ++ (post (queues_of (under v z)) name g).queues }) _ valid_along.fits
        ∙ (λ i. record { number = (post (queues_same v z i) name g).number; state = instances_along v z i ++ (post (queues_same v z i) name g).queues })
        ∙ (λ i. record { number = (post queues name g).number; state = sym (set-append_left instances c version_at v (omega (arith, fit.long))) i })
        ∙ ap (λ (o : Left). record { number = o.number; state = under v o.state }) (sym is)

-- CALLS ONE AFTER THE OTHER
module _ (t : List ℕ) where
  is_present : is_version present ≡ true
  unfolding is_version
  is_present = refl

  is_former : is_version former ≡ true
  unfolding is_version
  is_former = refl

  pub accepted_under-present : (acts : List Act) (z : List ℕ) → Valid t z → all_accepted t acts z ≡ true → Follows t present acts z (under present z)
  unfolding all_accepted after told did
  accepted_under-present [] z s e = record { accepted = refl; same = refl; tells = refl }
  accepted_under-present (a_step n ∷ rest) z s e =
      let k = eqb-true (stepped t z n).answer.number 0 (and_left (eqb (stepped t z n).answer.number 0) (all_accepted t rest (stepped t z n).state) e) in
      let y = step-under t z s present is_present n (λ e. omega arith) k in
      let w : (stepped t (under present z) n).state ≡ under present (stepped t z n).state = ap (λ (o : Stepped). o.state) y in
      let f = accepted_under-present rest (stepped t z n).state (did-valid t (a_step n) z s) (and_right (eqb (stepped t z n).answer.number 0) (all_accepted t rest (stepped t z n).state) e) in
      record {
        accepted = and_true (eqb (stepped t (under present z) n).answer.number 0) (all_accepted t rest (stepped t (under present z) n).state) (eq-eqb _ 0 (ap (λ (o : Stepped). o.answer.number) y ∙ k)) (ap (all_accepted t rest) w ∙ f.accepted);
        same = ap (after t rest) w ∙ f.same;
        tells = ap₂ ◌∷◌ (ap (λ (o : Stepped). told_of o.answer) y) (ap (told t rest) w ∙ f.tells);
      }
  accepted_under-present (a_post name g ∷ rest) z s e =
      let k = eqb-true (posted_to t z name g).number 0 (and_left (eqb (posted_to t z name g).number 0) (all_accepted t rest (posted_to t z name g).state) e) in
      let y = post-under t z s present is_present name g in
      let w : (posted_to t (under present z) name g).state ≡ under present (posted_to t z name g).state = ap (λ (o : Left). o.state) y in
      let f = accepted_under-present rest (posted_to t z name g).state (did-valid t (a_post name g) z s) (and_right (eqb (posted_to t z name g).number 0) (all_accepted t rest (posted_to t z name g).state) e) in
      record {
        accepted = and_true (eqb (posted_to t (under present z) name g).number 0) (all_accepted t rest (posted_to t (under present z) name g).state) (eq-eqb _ 0 (ap (λ (o : Left). o.number) y ∙ k)) (ap (all_accepted t rest) w ∙ f.accepted);
        same = ap (after t rest) w ∙ f.same;
        tells = ap (told t rest) w ∙ f.tells;
      }

  -- FROM THE FRESH STATES
  fresh_along : (v w : ℕ) → under w (fresh t v) ≡ fresh t w
  unfolding fresh
  fresh_along v w = set-set (iter (pool_begun t) (replicate state_words 0) (pool_count t)) version_at v w

  pub fresh-under-present : valid t ≡ true → (acts : List Act) → all_accepted t acts (fresh t former) ≡ true → Follows t present acts (fresh t former) (fresh t present)
  fresh-under-present v acts e =
      subst (Follows t present acts (fresh t former)) (fresh_along former present) (accepted_under-present acts (fresh t former) (fresh-valid t former (asked_good t former v is_former)) e)
