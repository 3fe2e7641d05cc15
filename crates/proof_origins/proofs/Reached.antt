-- WHAT THE ENGINE MAKES AND WHAT THE RULES REACH are the same: a state that it made, by fresh and then by any steps, posts, runs and polls, refused ones among them, stands for a configuration
-- that a trace of the paper's rules reaches from the initial one; and what such a trace reaches the engine makes. t is a valid table. Assumes nothing.
use Prim.Native.Nat.{ℕ, ◌≤◌}
use mathlib.Core.Path.{◌≡◌, refl, sym, ◌∙◌, ap, subst}
use mathlib.Core.Bool.{true}
use mathlib.Core.List.{List, [], ◌∷◌, ◌++◌}
use lib.Dec.{eqb, ltb}
use lib.ListN.{take}
use borrow.Author.Tests.{eqb-false, ltb-true, ltb-false}
use Rattle.base_words.proofs.PickLaws.{and_true}
use Rattle.base_state.specs.Instances.{instances_of, version_of}
use Rattle.state_fits.specs.Fresh.{fresh}
use Rattle.step_poll.specs.Items.{items_most, acts_in}
use Rattle.step_poll.specs.Poll.{Polling}
use Rattle.engine.specs.Engine.{valid, asked_number, freshened, ran_to}
use Rattle.engine.specs.Calls.{Act, did, all_accepted, after, Valid, polled_to}
use Rattle.engine.proofs.CallLaws.{asked_known, asked_good}
use Rattle.engine.proofs.KeepsValid.{fresh-valid, did_version, did-valid, after-valid}
use Rattle.proof_steps.proofs.Choices.{by_test}
use Rattle.proof_demands.specs.Demands.{Made, afresh, by_act, by_run, by_poll, run_steps}
use Rattle.proof_demands.proofs.FirstDemand.{act_refused}
use Rattle.proof_demands.proofs.Polls.{poll_many}
use Rattle.proof_demands.proofs.RunSteps.{run_accepted}
use Rattle.paper.specs.Syntax.{Pool}
use Rattle.paper.specs.States.{Configuration}
use Rattle.paper.specs.Collaborations.{Seen}
use Rattle.proof_paper.specs.Decoders.{collaboration_of}
use Rattle.proof_paper.specs.Calls.{state_of, Trace}
use Rattle.proof_paper.proofs.Theorems.{trace_sound}
use Rattle.proof_origins.specs.Initial.{initial}
use Rattle.proof_origins.proofs.Starts.{fresh_under, freshened_is, freshened-initial}
use Rattle.proof_origins.proofs.Traces.{calls_complete, poll_after, run_after}

-- two traces, the second from where the first ends
traces : (v : ℕ) (C : List Pool) {xs ys : List Act} {ls ms : List Seen} {κ κ' κ'' : Configuration} → Trace v C xs κ ls κ' → Trace v C ys κ' ms κ'' → Trace v C (xs ++ ys) κ (ls ++ ms) κ''
traces v C Trace.none y = y
traces v C (Trace.step w rest) y = Trace.step w (traces v C rest y)
traces v C (Trace.post w rest) y = Trace.post w (traces v C rest y)

module _ (t : List ℕ) (good : valid t ≡ true) where
  abbrev C : List Pool
  C = collaboration_of t

  -- a valid state, made for version v, that a trace from the initial configuration reaches
  record Reached (z : List ℕ) : Type 0 where
    stands : Valid t z
    acts : List Act
    labels : List Seen
    trace : Trace (version_of (instances_of z)) C acts (initial C) labels (state_of t z)

  after_version : (acts : List Act) (z : List ℕ) → Valid t z → version_of (instances_of (after t acts z)) ≡ version_of (instances_of z)
  unfolding after
  after_version [] z s = refl
  after_version (a ∷ rest) z s = after_version rest (did t a z).state (did-valid t a z s) ∙ did_version t a z s

  -- accepted calls lead on
  on : (z : List ℕ) → Reached z → (more : List Act) → all_accepted t more z ≡ true → Reached (after t more z)
  on z r more e =
      let (ls, w, u) = trace_sound t more z r.stands e in
      record {
        stands = after-valid t more z r.stands;
        acts = r.acts ++ more;
        labels = r.labels ++ ls;
        trace = subst (λ k. Trace k C (r.acts ++ more) (initial C) (r.labels ++ ls) (state_of t (after t more z))) (sym (after_version more z r.stands)) (traces (version_of (instances_of z)) C r.trace w);
      }

  act_reached : (a : Act) (z : List ℕ) → Reached z → Reached (did t a z).state
  unfolding all_accepted after
  act_reached a z r =
      by_test (eqb (did t a z).number 0)
      (λ e. on z r (a ∷ []) (and_true (eqb (did t a z).number 0) true e refl))
      (λ e. subst Reached (sym (act_refused t a z (eqb-false (did t a z).number 0 e))) r)

  run_reached : (limit : ℕ) (z : List ℕ) → Reached z → Reached (ran_to t z limit).state
  run_reached limit z r = subst Reached (sym (run_after t z r.stands limit).0) (on z r (run_steps t limit z) (run_accepted t limit z r.stands))

  poll_reached : (w : List ℕ) (count : ℕ) (z : List ℕ) → Reached z → Reached (polled_to t z w count).state
  poll_reached w count z r =
      by_test (ltb items_most count)
      (λ e. subst Reached (sym (ap (λ (p : Polling). p.state) (poll_many t z w count (ltb-true items_most count e)))) r)
      (λ e.
      let few : count ≤ items_most = ltb-false items_most count e in
      let (state, accepted) = poll_after t z r.stands w count few in
      subst Reached (sym state) (on z r (take (polled_to t z w count).accepted (acts_in w count)) accepted))

  fresh_reached : (v : ℕ) → asked_number t v ≡ 0 → (y : List ℕ) → Reached (freshened t v y).state
  fresh_reached v asked y =
      let is = freshened_is t v asked y in
      record {
        stands = subst (Valid t) (sym is) (fresh-valid t v asked);
        acts = [];
        labels = [];
        trace = subst (λ κ. Trace (version_of (instances_of (freshened t v y).state)) C [] κ [] (state_of t (freshened t v y).state)) (freshened-initial t v asked y) Trace.none;
      }

  reached : (z : List ℕ) → Made t z → Reached z
  reached _ (afresh v known y) = fresh_reached v (asked_good t v good known) y
  reached _ (by_act {z} a m) = act_reached a z (reached z m)
  reached _ (by_run {z} limit m) = run_reached limit z (reached z m)
  reached _ (by_poll {z} w count m) = poll_reached w count z (reached z m)

  -- WHAT WAS MADE IS REACHED
  pub made_reached : (z : List ℕ) → Made t z → (acts : List Act) × ((ls : List Seen) × Trace (version_of (instances_of z)) (collaboration_of t) acts (initial (collaboration_of t)) ls (state_of t z))
  made_reached z m = let r = reached z m in (r.acts, (r.labels, r.trace))

  -- WHAT IS REACHED IS MADE
  made_after_lem : (acts : List Act) (z : List ℕ) → Made t z → Made t (after t acts z)
  unfolding after
  made_after_lem [] z m = m
  made_after_lem (a ∷ rest) z m = made_after_lem rest (did t a z).state (by_act a m)

  pub reached_made : (v : ℕ) → asked_number t v ≡ 0 → (acts : List Act) {ls : List Seen} {κ : Configuration} → Trace v (collaboration_of t) acts (initial (collaboration_of t)) ls κ
      → (z : List ℕ) × Made t z × (version_of (instances_of z) ≡ v) × (κ ≡ state_of t z)
  reached_made v asked acts w =
      let m : Made t (fresh t v) = subst (Made t) (freshened_is t v asked []) (afresh v (asked_known t v asked) []) in
      (after t acts (fresh t v), made_after_lem acts (fresh t v) m, after_version acts (fresh t v) (fresh-valid t v asked) ∙ fresh_under t v good, (calls_complete t v asked acts w).1)
