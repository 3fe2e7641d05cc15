-- The run as the code makes it is the run: t is a table within the limits that breaks no check, (s, q) a state that fits it. Assumes nothing.
use Prim.Native.Nat.{ℕ, zero, suc}
use mathlib.Core.Path.{◌≡◌, refl, sym, ◌∙◌, ap}
use mathlib.Core.Bool.{true}
use mathlib.Core.List.{List, [], ◌∷◌}
use Rattle.check_limits.specs.Limits.{table_fits}
use Rattle.check_model.specs.Checks.{lowest}
use Rattle.check_lowest.specs.Model.{model_of}
use Rattle.meaning.specs.declared.Name.{Name}
use Rattle.meaning.specs.Step.{Outcome, step}
use Rattle.state_fits.proofs.FitsLaws.{queue_tidy}
use Rattle.step_take.specs.Settled.{settled}
use Rattle.step_take.proofs.StepLaws.{settled_is}
use Rattle.step_list.specs.Listing.{listed}
use Rattle.step_list.specs.Scanned.{scanned}
use Rattle.step_run.specs.Run.{whether, one_step, ran_by, ran}
use Rattle.step_run.proofs.RunLaws.{none_listed, first_listed}
use Rattle.proof_steps.proofs.EveryStep.{Fitting, step_keeps_fits}
use Rattle.proof_steps.proofs.Traffic.{state_queues, received_name, sent_name}
use Rattle.proof_listing.proofs.ScannedIs.{scanned_is}
use Rattle.proof_listing.proofs.StartUnique.{starts_once}

module _ (t : List ℕ) (fits : table_fits t ≡ true) where
  -- A STEP as the code makes it
  pub settled-step : (s q : List ℕ) → Fitting t s q → (n : Name) → settled t s q n ≡ step t s q n
  settled-step s q f n =
      settled_is q f.wide (λ m l. queue_tidy q m (state_queues t s q f.fits m l)) t s n
      (λ e. received_name t s q n fits e)
      (λ e. sent_name t s q n fits e)

  module _ (sound : lowest (model_of t) ≡ 0) where
    limit_none : (s q : List ℕ) → ran_by (scanned t) (settled t) zero s q ≡ ran_by (listed t) (step t) zero s q
    unfolding ran_by
    limit_none s q = ap (λ (ns : List Name). record { steps = 0; left = whether ns; instances = s; queues = q }) (scanned_is t s q fits sound)

    -- THE RUN
    pub run_is : (limit : ℕ) (s q : List ℕ) → Fitting t s q → ran_by (scanned t) (settled t) limit s q ≡ ran t limit s q
    unfolding ran
    run_is zero s q f = limit_none s q
    run_is (suc limit) s q f =
        go (listed t s q) refl
        (λ n. run_is limit (step t s q n).instances (step t s q n).queues (step_keeps_fits t s q fits f (starts_once t sound) n))
      where
        go : (ns : List Name) → listed t s q ≡ ns
            → ((n : Name) → ran_by (scanned t) (settled t) limit (step t s q n).instances (step t s q n).queues ≡ ran_by (listed t) (step t) limit (step t s q n).instances (step t s q n).queues)
            → ran_by (scanned t) (settled t) (suc limit) s q ≡ ran_by (listed t) (step t) (suc limit) s q
        go [] e next = none_listed (scanned t) (settled t) limit s q (scanned_is t s q fits sound ∙ e) ∙ sym (none_listed (listed t) (step t) limit s q e)
        go (n ∷ ns) e next =
            first_listed (scanned t) (settled t) limit s q n ns (scanned_is t s q fits sound ∙ e)
            ∙ ap (λ (o : Outcome). one_step (ran_by (scanned t) (settled t) limit o.instances o.queues)) (settled-step s q f n)
            ∙ ap one_step (next n)
            ∙ sym (first_listed (listed t) (step t) limit s q n ns e)
