-- CALLS, POLLS AND RUNS BY THE RULES: what is accepted of them is a trace of the paper's rules, from the initial configuration where they begin at a fresh state; and what is a trace is
-- accepted. t is a table, z a valid state of it, C the collaboration that it stands for. Assumes nothing.
use Prim.Native.Nat.{ℕ, ◌≤◌}
use mathlib.Core.Path.{◌≡◌, sym, ◌∙◌, ap, subst}
use mathlib.Core.Bool.{true}
use mathlib.Core.List.{List, map}
use lib.ListN.{length, take}
use Rattle.base_state.specs.Instances.{instances_of, queues_of, version_of}
use Rattle.state_fits.specs.Fresh.{fresh}
use Rattle.step_poll.specs.Items.{items_most, acts_in}
use Rattle.step_poll.specs.Poll.{Polling, polled_by}
use Rattle.step_run.specs.Run.{ran}
use Rattle.engine.specs.Engine.{lent_number, asked_number, fitting, RanTo, ended, ran_to}
use Rattle.engine.specs.Calls.{Act, did, all_accepted, after, Valid, polled_to}
use Rattle.engine.proofs.CallLaws.{asked_valid}
use Rattle.engine.proofs.KeepsValid.{fresh-valid}
use Rattle.proof_steps.proofs.Choices.{chosen}
use Rattle.proof_demands.specs.Demands.{run_steps, run_left, ran_given}
use Rattle.proof_demands.proofs.PollSteps.{state_after, accepted_part, as_far, acts_length}
use Rattle.proof_demands.proofs.Polls.{poll_is}
use Rattle.proof_demands.proofs.RunSteps.{run_accepted, run_is_steps}
use Rattle.paper.specs.Syntax.{Pool}
use Rattle.paper.specs.States.{Configuration}
use Rattle.paper.specs.Collaborations.{Seen}
use Rattle.proof_paper.specs.Decoders.{collaboration_of, seen_as}
use Rattle.proof_paper.specs.Calls.{state_of, told, Trace}
use Rattle.proof_paper.proofs.Theorems.{trace_sound, trace_complete}
use Rattle.proof_origins.specs.Initial.{initial}
use Rattle.proof_origins.proofs.Starts.{fresh-initial, fresh_under}

module _ (t : List ℕ) where
  abbrev C : List Pool
  C = collaboration_of t

  -- CALLS FROM A FRESH STATE ON, made for version v
  module _ (v : ℕ) (asked : asked_number t v ≡ 0) where
    abbrev z₀ : List ℕ
    z₀ = fresh t v

    begins : state_of t z₀ ≡ initial C
    begins = fresh-initial t v (asked_valid t v asked)

    under : version_of (instances_of z₀) ≡ v
    under = fresh_under t v (asked_valid t v asked)

    pub calls_sound : (acts : List Act) → all_accepted t acts z₀ ≡ true → (ls : List Seen) × Trace v C acts (initial C) ls (state_of t (after t acts z₀)) × (map seen_as ls ≡ told t acts z₀)
    calls_sound acts e =
        let (ls, w, u) = trace_sound t acts z₀ (fresh-valid t v asked) e in
        let y : Trace v C acts (state_of t z₀) ls (state_of t (after t acts z₀)) = subst (λ k. Trace k C acts (state_of t z₀) ls (state_of t (after t acts z₀))) under w in
        (ls, subst (λ κ. Trace v C acts κ ls (state_of t (after t acts z₀))) begins y, u)

    pub calls_complete : (acts : List Act) {ls : List Seen} {κ : Configuration} → Trace v C acts (initial C) ls κ
        → (all_accepted t acts z₀ ≡ true) × (κ ≡ state_of t (after t acts z₀)) × (map seen_as ls ≡ told t acts z₀)
    calls_complete acts {ls} {κ} w =
        let y : Trace v C acts (state_of t z₀) ls κ = subst (λ c. Trace v C acts c ls κ) (sym begins) w in
        trace_complete t acts z₀ (fresh-valid t v asked) (subst (λ k. Trace k C acts (state_of t z₀) ls κ) (sym under) y)

  module _ (z : List ℕ) (s : Valid t z) where
    abbrev version : ℕ
    version = version_of (instances_of z)

    -- A POLL of at most 64 items: the accepted ones are a trace, to the state that it leaves, and no longer part of its items is one
    module _ (w : List ℕ) (count : ℕ) (few : count ≤ items_most) where
      abbrev p : Polling
      p = polled_to t z w count

      abbrev taken : List Act
      taken = take p.accepted (acts_in w count)

      is : p ≡ polled_by (did t) (acts_in w count) z
      is = poll_is t z w count few s.fits

      pub poll_after : (p.state ≡ after t taken z) × (all_accepted t taken z ≡ true)
      poll_after = (
        ap (λ (q : Polling). q.state) is ∙ state_after t (acts_in w count) z ∙ ap (λ (q : Polling). after t (take q.accepted (acts_in w count)) z) (sym is),
        ap (λ (q : Polling). all_accepted t (take q.accepted (acts_in w count)) z) is ∙ accepted_part t (acts_in w count) z,
      )

      pub poll_sound : (ls : List Seen) × Trace version C taken (state_of t z) ls (state_of t p.state) × (map seen_as ls ≡ told t taken z)
      poll_sound =
          let (ls, y, u) = trace_sound t taken z s poll_after.1 in
          (ls, subst (λ x. Trace version C taken (state_of t z) ls (state_of t x)) (sym poll_after.0) y, u)

      pub poll_complete : (k : ℕ) → k ≤ count → {ls : List Seen} {κ : Configuration} → Trace version C (take k (acts_in w count)) (state_of t z) ls κ → k ≤ p.accepted
      poll_complete k l y =
          let f = as_far t (acts_in w count) z k (subst (λ n. k ≤ n) (sym (acts_length count w)) l) (trace_complete t (take k (acts_in w count)) z s y).0 in
          subst (λ (q : Polling). k ≤ q.accepted) (sym is) f

    -- A RUN: its steps, each the first listed one, are a trace, to the state that it leaves
    module _ (limit : ℕ) where
      abbrev r : RanTo
      r = ran_to t z limit

      abbrev ran_steps : List Act
      ran_steps = run_steps t limit z

      run_is : r ≡ ran_given t limit z
      unfolding ran_to
      run_is =
          chosen (fitting t z) (ended (ran t limit (instances_of z) (queues_of z))) (record { number = lent_number t z; steps = 0; left = 0; state = z }) s.fits
          ∙ run_is_steps t limit z s

      pub run_after : (r.state ≡ after t ran_steps z) × (r.steps ≡ length ran_steps) × (r.left ≡ run_left t r.state)
      unfolding ran_given
      run_after =
          let e : r.state ≡ after t ran_steps z = ap (λ (o : RanTo). o.state) run_is in
          (e, ap (λ (o : RanTo). o.steps) run_is, ap (λ (o : RanTo). o.left) run_is ∙ ap (run_left t) (sym e))

      pub run_sound : (ls : List Seen) × Trace version C ran_steps (state_of t z) ls (state_of t r.state) × (map seen_as ls ≡ told t ran_steps z)
      run_sound =
          let (ls, y, u) = trace_sound t ran_steps z s (run_accepted t limit z s) in
          (ls, subst (λ x. Trace version C ran_steps (state_of t z) ls (state_of t x)) (sym run_after.0) y, u)
