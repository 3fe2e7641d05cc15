-- RUNS AND POLLS: what calls in turn tell, runs as their steps and polls as their items up to the first refused one, is a history given by steps and posts, and its last state is the one that the calls leave. So all
-- that is claimed of a history holds of theirs. t is a table, z a valid state. Assumes nothing.
use Prim.Native.Nat.{ℕ, ◌+◌}
use mathlib.Core.Path.{◌≡◌, refl, sym, ◌∙◌, ap, subst}
use mathlib.Core.Bool.{true, false}
use mathlib.Core.List.{List, [], ◌∷◌}
use native.Mathlib.Numerals.{add-one}
use lib.Dec.{eqb, ltb}
use lib.ListN.{take}
use borrow.Author.Tests.{eq-eqb}
use Rattle.base_state.specs.Versions.{is_version}
use Rattle.base_state.specs.Instances.{instances_of, queues_of}
use Rattle.state_fits.specs.Fresh.{fresh}
use Rattle.proof_steps.proofs.Choices.{by_test, chosen, passed}
use Rattle.step_run.specs.Run.{ran}
use Rattle.step_poll.specs.Items.{items_most, acts_in}
use Rattle.step_poll.specs.Poll.{Polling, one_before, polled_by, polled_from}
use Rattle.step_history.specs.History.{GivenBy, state_by, told_by, left_by}
use Rattle.step_history.proofs.HistoryLaws.{told_given, given_join}
use Rattle.engine.specs.Engine.{valid, lent_number, fitting, stepped, posted_to, RanTo, ended, ran_to}
use Rattle.engine.specs.Calls.{Act, a_step, a_post, did, after, Valid, polled_to}
use Rattle.engine.proofs.CallLaws.{lent_zero, asked_good}
use Rattle.engine.proofs.KeepsValid.{did-valid, fresh-valid}
use Rattle.proof_valid.proofs.KeepsFitting.{run_valid}
use Rattle.proof_demands.specs.Demands.{run_steps, ran_given}
use Rattle.proof_demands.proofs.PollSteps.{by_first, poll_valid}
use Rattle.proof_demands.proofs.RunSteps.{run_is_steps}
use Rattle.proof_accounts.specs.Accounts.{Given, FromFresh, Accounted}
use Rattle.proof_accounts.specs.Calls.{Call, an_act, a_run, a_poll, state_after, acts_of, history_of, last_state}
use Rattle.proof_accounts.proofs.Histories.{accounted}

module _ (t : List ℕ) where
  left_after : (acts : List Act) (z : List ℕ) → left_by (stepped t) (posted_to t) acts z ≡ after t acts z
  unfolding left_by state_by after did
  left_after [] z = refl
  left_after (a_step n ∷ rest) z = left_after rest (stepped t z n).state
  left_after (a_post m g ∷ rest) z = left_after rest (posted_to t z m g).state

  none_after : (z : List ℕ) → after t [] z ≡ z
  unfolding after
  none_after z = refl

  -- A POLL: the state that the items up to the first refused one leave
  up_to_refused : (acts : List Act) (z : List ℕ) → after t (take ((polled_by (did t) acts z).accepted + 1) acts) z ≡ (polled_by (did t) acts z).state
  unfolding polled_by after one_before
  up_to_refused [] z = refl
  up_to_refused (a ∷ rest) z =
      by_first t (λ (p : Polling). after t (take (p.accepted + 1) (a ∷ rest)) z ≡ p.state) a rest z
      (λ e. rw (add-one ((polled_by (did t) rest (did t a z).state).accepted + 1)) (up_to_refused rest (did t a z).state))
      (λ e. refl)

  module _ (w : List ℕ) (count : ℕ) (z : List ℕ) (v : Valid t z) where
    too_many_lem : ltb items_most count ≡ true → polled_to t z w count ≡ record { number = 22; accepted = 0; state = z }
    unfolding polled_to polled_from
    too_many_lem e = chosen (ltb items_most count) _ _ e

    one_by_one : ltb items_most count ≡ false → polled_to t z w count ≡ polled_by (did t) (acts_in w count) z
    unfolding polled_to polled_from
    one_by_one e = passed (ltb items_most count) _ _ e ∙ chosen (eqb (lent_number t z) 0) _ _ (eq-eqb (lent_number t z) 0 (lent_zero t z v.fits))

    poll_after : after t (acts_of t (a_poll w count) z) z ≡ (polled_to t z w count).state
    unfolding acts_of
    poll_after =
        by_test (ltb items_most count)
        (λ e. ap (λ (acts : List Act). after t acts z) (chosen (ltb items_most count) [] _ e) ∙ none_after z ∙ sym (ap (λ (p : Polling). p.state) (too_many_lem e)))
        (λ e.
        ap (λ (acts : List Act). after t acts z) (passed (ltb items_most count) [] _ e)
        ∙ ap (λ (p : Polling). after t (take (p.accepted + 1) (acts_in w count)) z) (one_by_one e)
        ∙ up_to_refused (acts_in w count) z
        ∙ sym (ap (λ (p : Polling). p.state) (one_by_one e)))

    poll_keeps : Valid t (polled_to t z w count).state
    poll_keeps =
        by_test (ltb items_most count)
        (λ e. subst (λ (p : Polling). Valid t p.state) (sym (too_many_lem e)) v)
        (λ e. subst (λ (p : Polling). Valid t p.state) (sym (one_by_one e)) (poll_valid t (acts_in w count) z v))

  -- A RUN
  run_after : (limit : ℕ) (z : List ℕ) → Valid t z → after t (run_steps t limit z) z ≡ (ran_to t z limit).state
  unfolding ran_to ran_given
  run_after limit z v =
      sym (ap (λ (r : RanTo). r.state)
      (chosen (fitting t z) (ended (ran t limit (instances_of z) (queues_of z))) _ v.fits ∙ run_is_steps t limit z v))

  -- EACH CALL leaves what its steps and posts leave
  call_after : (c : Call) (z : List ℕ) → Valid t z → after t (acts_of t c z) z ≡ state_after t c z
  unfolding acts_of state_after after
  call_after (an_act a) z v = refl
  call_after (a_run limit) z v = run_after limit z v
  call_after (a_poll w count) z v = poll_after w count z v

  call_valid : (c : Call) (z : List ℕ) → Valid t z → Valid t (state_after t c z)
  unfolding state_after
  call_valid (an_act a) z v = did-valid t a z v
  call_valid (a_run limit) z v = run_valid t z v limit
  call_valid (a_poll w count) z v = poll_keeps w count z v

  -- CALLS IN TURN
  pub calls_given : (calls : List Call) (z : List ℕ) → Valid t z → Given t z (history_of t calls z) (last_state t calls z)
  unfolding history_of last_state GivenBy
  calls_given [] z v = refl
  calls_given (c ∷ rest) z v =
      let acts : List Act = acts_of t c z in
      given_join (stepped t) (posted_to t) (told_by (stepped t) (posted_to t) acts z) (history_of t rest (state_after t c z)) z (state_after t c z) (last_state t rest (state_after t c z))
      (subst (λ (x : List ℕ). Given t z (told_by (stepped t) (posted_to t) acts z) x) (left_after acts z ∙ call_after c z v) (told_given (stepped t) (posted_to t) acts z))
      (calls_given rest (state_after t c z) (call_valid c z v))

  -- so that every request of steps, posts, runs and polls is accounted for
  module _ (right : valid t ≡ true) (v : ℕ) (known : is_version v ≡ true) (calls : List Call) where
    pub calls_fresh : FromFresh t v (history_of t calls (fresh t v)) (last_state t calls (fresh t v))
    calls_fresh = record { table = right; version = known; given = calls_given calls (fresh t v) (fresh-valid t v (asked_good t v right known)) }

    pub calls_accounted : Accounted t (history_of t calls (fresh t v)) (last_state t calls (fresh t v))
    calls_accounted = accounted t v (history_of t calls (fresh t v)) (last_state t calls (fresh t v)) calls_fresh
