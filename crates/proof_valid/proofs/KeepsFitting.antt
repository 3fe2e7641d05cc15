-- A fresh state of a valid table is valid, and a valid state still is after every run. Assumes nothing.
use Prim.Native.Nat.{ℕ}
use mathlib.Core.Path.{◌≡◌}
use mathlib.Core.Bool.{true}
use mathlib.Core.List.{List}
use lib.Dec.{eqb}
use borrow.Author.Tests.{eq-eqb}
use Rattle.base_state.specs.Versions.{is_version}
use Rattle.base_state.specs.Instances.{instances_of, queues_of}
use Rattle.state_fits.specs.Fresh.{fresh}
use Rattle.proof_steps.proofs.Choices.{chosen}
use Rattle.step_run.specs.Run.{ran}
use Rattle.proof_listing.proofs.RunLaws.{run_keeps_fits}
use Rattle.engine.specs.Engine.{valid, Left, asked_number, freshened, fitting, ended, ran_to}
use Rattle.engine.specs.Calls.{Valid}
use Rattle.engine.proofs.CallLaws.{table_fits_lem, checks_hold, asked_good}
use Rattle.engine.proofs.KeepsValid.{joined, table_valid, parts, fresh-valid}

module _ (t : List ℕ) where
  module _ (z : List ℕ) (valid-state : Valid t z) where
    -- AFTER A RUN
    pub run_valid : (limit : ℕ) → Valid t (ran_to t z limit).state
    unfolding ran_to ended
    run_valid limit =
        rw (chosen (fitting t z) (ended (ran t limit (instances_of z) (queues_of z))) _ valid-state.fits)
        (joined t (ran t limit (instances_of z) (queues_of z)).instances (ran t limit (instances_of z) (queues_of z)).queues (table_valid t z valid-state)
        (run_keeps_fits t (table_fits_lem t z valid-state.fits) (checks_hold t z valid-state.fits) limit (instances_of z) (queues_of z) (parts t z valid-state)))

  pub freshened-valid : valid t ≡ true → (v : ℕ) → is_version v ≡ true → (z : List ℕ) → Valid t (freshened t v z).state
  unfolding freshened
  freshened-valid right v known z =
      let asked : asked_number t v ≡ 0 = asked_good t v right known in
      rw (chosen {A = Left} (eqb (asked_number t v) 0) (record { number = 0; state = fresh t v }) (record { number = asked_number t v; state = z }) (eq-eqb (asked_number t v) 0 asked))
      (fresh-valid t v asked)
