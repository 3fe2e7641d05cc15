-- A poll as the code makes it is the poll of the public calls: the first state is checked, and every later one is valid. Assumes nothing.
use Prim.Native.Nat.{ℕ}
use mathlib.Core.Path.{◌≡◌, refl, ◌∙◌, ap}
use mathlib.Core.List.{List, [], ◌∷◌, ◌++◌}
use lib.Dec.{eqb}
use lib.ListN.{length}
use Rattle.base_words.specs.Pick.{if◌then◌or_else◌}
use Rattle.base_state.specs.Places.{state_words}
use Rattle.base_state.specs.Instances.{instances_of, queues_of}
use Rattle.meaning.specs.declared.Name.{Name}
use Rattle.meaning.specs.declared.Tuple.{Tuple}
use Rattle.meaning.specs.Post.{Posted}
use Rattle.meaning.specs.Step.{Outcome}
use Rattle.step_take.specs.Settled.{Done, settled, posted}
use Rattle.step_poll.specs.Items.{acts_in}
use Rattle.step_poll.specs.Poll.{Polling, one_before, polled_by, polled_from, settled_step, settled_post, settled_act}
use Rattle.step_poll.proofs.PollLaws.{same_poll}
use Rattle.engine.specs.Engine.{Left, Stepped, lent_number, stepped, posted_to}
use Rattle.engine.specs.Calls.{Act, a_step, a_post, did, Valid, polled_to}
use Rattle.engine.proofs.CallLaws.{step_done, settled_post_lem, lent_good}
use Rattle.engine.proofs.KeepsValid.{did-valid}

module _ (t : List ℕ) where
  module _ (z : List ℕ) (v : Valid t z) where
    pub same_step : (n : Name) → settled_step t z n ≡ stepped t z n
    unfolding settled_step
    same_step n =
        let o : Outcome = settled t (instances_of z) (queues_of z) n in
        step_done t z v.long v.fits n o.answer (o.instances ++ o.queues) (record { answer = refl; state = refl })

    pub same_post : (name : ℕ) (g : Tuple) → settled_post z name g ≡ posted_to t z name g
    unfolding settled_post posted_to if◌then◌or_else◌
    same_post name g = rw (v.fits, settled_post_lem t z v.long v.fits name g)

  settled-did : (a : Act) (z : List ℕ) → Valid t z → settled_act t a z ≡ did t a z
  unfolding settled_act did
  settled-did (a_step n) z v = ap (λ (x : Stepped). record { number = x.answer.number; state = x.state }) (same_step z v n)
  settled-did (a_post name g) z v = same_post z v name g

  polled_did : (acts : List Act) (z : List ℕ) → Valid t z → polled_by (settled_act t) acts z ≡ polled_by (did t) acts z
  unfolding polled_by
  polled_did [] z v = refl
  polled_did (a ∷ rest) z v =
      let later : polled_by (settled_act t) rest (did t a z).state ≡ polled_by (did t) rest (did t a z).state = polled_did rest (did t a z).state (did-valid t a z v) in
      rw (settled-did a z v, later)

  -- THE POLL: k is the number that table and state are refused with
  pub poll_done : (z w : List ℕ) (count k : ℕ) → k ≡ lent_number t z → (k ≡ 0 → length z ≡ state_words) → polled_from (settled_act t) k w count z ≡ polled_to t z w count
  unfolding polled_to
  poll_done z w count k e l =
      rw (← e)
      (same_poll (settled_act t) (did t) k w count z (λ (h : k ≡ 0). polled_did (acts_in w count) z (record { long = l h; fits = lent_good t z k e h })))
