-- THE LISTING AND THE RUN, by demands 1 and 2: a refusal changes nothing; the listing gives the steps that the public step accepts, each once; the run takes
-- the first listed step again and again, its number of steps is theirs and its state the one they leave. r is what a call returns and y what is left
-- of the state z that was lent, as its promise has them; the listing is lent a state to be read only. Assumes nothing.
use Prim.Native.Nat.{ℕ, zero, suc}
use mathlib.Core.Path.{◌≡◌, refl, sym, ◌∙◌, ap, subst}
use mathlib.Core.Bool.{true, false}
use mathlib.Core.List.{List, [], ◌∷◌}
use native.Mathlib.Omega.{arith}
use lib.Dec.{ltb}
use lib.ListN.{length}
use borrow.Author.Tests.{eq-eqb, lt-ltb, le-ltb, ltb-true, ltb-false}
use Rattle.base_words.specs.Pick.{if◌then◌or_else◌}
use Rattle.base_state.specs.Instances.{instances_of, queues_of}
use Rattle.meaning.specs.declared.Name.{Name}
use Rattle.meaning.specs.Queues.{tidied}
use Rattle.meaning.specs.Refusals.{first_refusal}
use Rattle.meaning.specs.Step.{refusals}
use Rattle.proof_steps.proofs.Choices.{by_test, by_choice, passed, chosen as picked}
use Rattle.step_list.specs.declared.Listed.{Listed}
use Rattle.step_names.specs.Names.{blank_name, accepted}
use Rattle.step_list.specs.Listing.{listed, chosen}
use Rattle.step_run.specs.Run.{ran}
use Rattle.proof_listing.proofs.SameValues.{with_given}
use Rattle.proof_listing.proofs.ListedAll.{listed-all}
use Rattle.proof_listing.proofs.ListedOnce.{listed-once}
use Rattle.engine.specs.declared.Ran.{Ran}
use Rattle.engine.specs.Engine.{lent_number, fitting, listed_at, RanTo, ended, ran_to}
use Rattle.engine.proofs.CallLaws.{table_fits_lem, checks_hold, state_fits_lem, by_lent, lent_zero}
use Rattle.engine.specs.Calls.{Act, a_step, did, all_accepted, after, Valid}
use Rattle.proof_demands.specs.Promises.{Lists, RunsOn}
use Rattle.proof_demands.specs.Demands.{is_one_of, list_numbers, run_numbers, accepted_steps, run_steps, run_left, ran_given}
use Rattle.proof_demands.proofs.StatesLeft.{step_number}
use Rattle.proof_demands.proofs.RunSteps.{listed_is, listed_accepts, run_accepted, run_is_steps, steps_again}

-- what a listing gives: a step, or 6 and a blank name
chosen_or : (P : Listed → Type 0) → ((n : Name) → P (record { number = 0; name = n })) → P (record { number = 6; name = blank_name }) → (ns : List Name) (k : ℕ) → P (chosen ns k)
unfolding chosen
chosen_or P f g [] k = g
chosen_or P f g (n ∷ ns) zero = f n
chosen_or P f g (n ∷ ns) (suc k) = chosen_or P f g ns k

ltb_next : (k m : ℕ) → ltb k m ≡ ltb (suc k) (suc m)
ltb_next k m =
    by_test (ltb k m)
    (λ e. e ∙ sym (lt-ltb (suc k) (suc m) (omega (arith, ltb-true k m e))))
    (λ e. e ∙ sym (le-ltb (suc k) (suc m) (omega (arith, ltb-false k m e))))

chosen_number : (ns : List Name) (k : ℕ) → (chosen ns k).number ≡ (if ltb k (length ns) then 0 or_else 6)
unfolding chosen if◌then◌or_else◌
chosen_number [] k = rw (le-ltb k 0 (omega arith))
chosen_number (n ∷ ns) zero = rw (lt-ltb 0 (length (n ∷ ns)) (omega arith))
chosen_number (n ∷ ns) (suc k) = chosen_number ns k ∙ ap (λ b. if b then 0 or_else 6) (ltb_next k (length ns))

-- LIST: refusals
module _ (t z : List ℕ) (k : ℕ) where
  by_listed : (P : Listed → Type 0) → ((n : Name) → P (record { number = 0; name = n })) → P (record { number = 6; name = blank_name }) → P (record { number = lent_number t z; name = blank_name }) → P (listed_at t z k)
  unfolding listed_at
  by_listed P f g h =
      by_choice P (fitting t z) (chosen (listed t (instances_of z) (queues_of z)) k) (record { number = lent_number t z; name = blank_name })
      (λ e. chosen_or P f g (listed t (instances_of z) (queues_of z)) k)
      (λ e. h)

  module _ (r : Listed) (promise : Lists t z k r) where
    pub list_number_is : is_one_of list_numbers r.number ≡ true
    unfolding is_one_of if◌then◌or_else◌
    list_number_is = rw promise (by_listed (λ (y : Listed). is_one_of list_numbers y.number ≡ true) (λ n. refl) refl (by_lent (λ k. is_one_of list_numbers k ≡ true) t z refl refl refl))

    pub list_refused : (r.number ≡ 0 → ⊥) → r ≡ record { number = r.number; name = blank_name }
    list_refused =
        rw promise
        (by_listed (λ (y : Listed). (y.number ≡ 0 → ⊥) → y ≡ record { number = y.number; name = blank_name }) (λ n e. absurd (e refl)) (λ e. refl) (λ e. refl))

    pub list_bad : fitting t z ≡ false → r ≡ record { number = lent_number t z; name = blank_name }
    unfolding listed_at
    list_bad e = promise ∙ passed (fitting t z) (chosen (listed t (instances_of z) (queues_of z)) k) (record { number = lent_number t z; name = blank_name }) e

-- LIST: the steps that the public step accepts
module _ (t z : List ℕ) (v : Valid t z) where
  -- nothing else is listed,
  pub list_accepted : (k : ℕ) (r : Listed) → Lists t z k r → r.number ≡ 0 → (did t (a_step r.name) z).number ≡ 0
  list_accepted k r p = rw p (listed_accepts t z v k)

  -- every one is listed, with 0 behind its values,
  pub list_all : (n : Name) → (did t (a_step n) z).number ≡ 0 → (k : ℕ) × (listed_at t z k ≡ record { number = 0; name = with_given n (tidied n.given) })
  unfolding accepted
  list_all n e =
      let a = eq-eqb (first_refusal (refusals t (instances_of z) (queues_of z) n)) 0 (sym (step_number t z v n) ∙ e) in
      let w = listed-all t (instances_of z) (queues_of z) (table_fits_lem t z v.fits) (state_fits_lem t z v.fits) n a in
      (w.0, listed_is t z v w.0 ∙ w.1)

  -- 6 exactly from their number on,
  pub list_number : (k : ℕ) → (listed_at t z k).number ≡ (if ltb k (accepted_steps t z) then 0 or_else 6)
  unfolding accepted_steps
  list_number k = ap (λ (y : Listed). y.number) (listed_is t z v k) ∙ chosen_number (listed t (instances_of z) (queues_of z)) k

  -- and none twice
  pub list_once : (j k : ℕ) → (listed_at t z j).number ≡ 0 → listed_at t z j ≡ listed_at t z k → j ≡ k
  list_once j k e same =
      listed-once t (instances_of z) (queues_of z) (table_fits_lem t z v.fits) (checks_hold t z v.fits) j k
      (sym (ap (λ (y : Listed). y.number) (listed_is t z v j)) ∙ e)
      (sym (listed_is t z v j) ∙ same ∙ listed_is t z v k)

-- RUN
module _ (t z : List ℕ) (limit : ℕ) (r : Ran) (y : List ℕ) (promise : RunsOn t z limit r y) where
  by_ran : (P : RanTo → Type 0) → (fitting t z ≡ true → P (ended (ran t limit (instances_of z) (queues_of z)))) → (fitting t z ≡ false → P (record { number = lent_number t z; steps = 0; left = 0; state = z }))
      → P (record { number = r.number; steps = r.steps; left = r.left; state = y })
  unfolding ran_to
  by_ran P f g = subst P (sym promise) (by_choice P (fitting t z) (ended (ran t limit (instances_of z) (queues_of z))) (record { number = lent_number t z; steps = 0; left = 0; state = z }) f g)

  pub run_number_is : (r.number ≡ lent_number t z) × (is_one_of run_numbers r.number ≡ true)
  unfolding is_one_of if◌then◌or_else◌ ended
  run_number_is = by_ran (λ (o : RanTo). (o.number ≡ lent_number t z) × (is_one_of run_numbers o.number ≡ true)) (λ e. (sym (lent_zero t z e), refl))
      (λ e. (refl, by_lent (λ k. is_one_of run_numbers k ≡ true) t z refl refl refl))

  pub run_refused : (r.number ≡ 0 → ⊥) → (y ≡ z) × (r.steps ≡ 0) × (r.left ≡ 0)
  unfolding ended
  run_refused = by_ran (λ (o : RanTo). (o.number ≡ 0 → ⊥) → (o.state ≡ z) × (o.steps ≡ 0) × (o.left ≡ 0)) (λ e k. absurd (k refl)) (λ e k. (refl, refl, refl))

  -- the steps are named steps, all accepted, each the first listed
  module _ (v : Valid t z) where
    abbrev acts : List Act
    acts = run_steps t limit z

    pub run_exactly : ◌≡◌ {A = RanTo} (record { number = r.number; steps = r.steps; left = r.left; state = y }) (ran_given t limit z)
    unfolding ran_to
    run_exactly =
        promise
        ∙ picked (fitting t z) (ended (ran t limit (instances_of z) (queues_of z))) (record { number = lent_number t z; steps = 0; left = 0; state = z }) v.fits
        ∙ run_is_steps t limit z v

    pub run_steps_lem : (r.steps ≡ length acts) × (y ≡ after t acts z) × (r.left ≡ run_left t y) × (all_accepted t acts z ≡ true)
    unfolding ran_given
    run_steps_lem =
        let state : y ≡ after t acts z = ap (λ (o : RanTo). o.state) run_exactly in (
          ap (λ (o : RanTo). o.steps) run_exactly,
          state,
          ap (λ (o : RanTo). o.left) run_exactly ∙ ap (run_left t) (sym state),
          run_accepted t limit z v,
        )

    -- so that who takes the first listed step as often as the run says takes the run's own steps
    pub run_again : run_steps t r.steps z ≡ acts
    run_again = ap (λ (k : ℕ). run_steps t k z) run_steps_lem.0 ∙ steps_again t limit z
