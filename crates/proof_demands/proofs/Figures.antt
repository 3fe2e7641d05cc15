-- FIGURES FOR THE ROUTE DESK, over the public calls: "they are brought up to date by each accepted step .. they always equal what a count over the state gives, and a step alters only the record of its own pool". rs are the
-- records lent and ys those left, r and y what is returned and the state left, as the call's promise has them. Assumes nothing.
use Prim.Native.Nat.{ℕ, ◌<◌}
use mathlib.Core.Path.{◌≡◌, refl, sym, ◌∙◌, ap, subst}
use mathlib.Core.Bool.{true}
use mathlib.Core.List.{List}
use native.Mathlib.Omega.{arith}
use borrow.Author.Tests.{eqb-true, eqb-false}
use lib.Dec.{eqb, ltb}
use Rattle.base_words.specs.Pick.{if◌then◌or_else◌}
use Rattle.base_table.specs.Table.{pool_count}
use Rattle.base_state.specs.Instances.{instances_of, queues_of, made_count, instance_at}
use Rattle.meaning.specs.declared.Name.{Name}
use Rattle.meaning.specs.declared.Answer.{Answer}
use Rattle.meaning.specs.Refusals.{first_refusal}
use Rattle.meaning.specs.Step.{pool_named, refusals}
use Rattle.state_figures.specs.Figures.{is_finished, record_of, counted, record_at}
use Rattle.step_poll.specs.declared.Polled.{Polled}
use Rattle.step_poll.specs.Items.{items_most}
use Rattle.step_poll.specs.Poll.{Polling}
use Rattle.proof_steps.proofs.Choices.{by_test, by_choice}
use Rattle.proof_steps.proofs.Elements.{pools_few}
use Rattle.proof_steps.proofs.Found.{Found}
use Rattle.proof_steps.proofs.Traffic.{here}
use Rattle.proof_listing.proofs.StartUnique.{starts_once}
use Rattle.proof_figures.specs.Changes.{changed}
use Rattle.proof_figures.proofs.Leaves.{finished_rests}
use Rattle.proof_figures.proofs.OwnRecord.{other_records, own_record}
use Rattle.engine.specs.declared.Ran.{Ran}
use Rattle.engine.specs.Engine.{Stepped}
use Rattle.engine.specs.Calls.{a_step, did, Valid}
use Rattle.engine.specs.Desk.{records_number, poll_number}
use Rattle.engine.proofs.CallLaws.{lent_zero, table_fits_lem, checks_hold, state_fits_lem, long_instances}
use Rattle.proof_demands.specs.Promises.{Steps, Runs, Polls}
use Rattle.proof_demands.specs.Polls.{poll_numbers}
use Rattle.proof_demands.specs.Demands.{is_one_of, step_numbers, run_numbers, RecordsOfThree}
use Rattle.proof_demands.proofs.Counted.{record_counted, agree-counted}
use Rattle.proof_demands.proofs.AtDesk.{number_fits, number_agrees, by_records, step_taken, step_refused_lent, run_taken, run_refused_lent, poll_taken, poll_refused_lent}
use Rattle.proof_demands.proofs.FirstDemand.{step_number_is, step_refused}
use Rattle.proof_demands.proofs.ListAndRun.{run_number_is}
use Rattle.proof_demands.proofs.Polls.{poll_numbers_lem}
use Rattle.proof_demands.proofs.StatesLeft.{step_number, step_instances}

-- A STEP
module _ (t z : List ℕ) (rs : List (List ℕ)) (n : Name) (r : Answer) (y : List ℕ) (ys : List (List ℕ)) (promise : Steps t z rs n r y ys) where
  abbrev s : List ℕ
  s = instances_of z

  -- "26 .. after 10", and after 25, then 11 to 18
  pub step_number_at : (r.number ≡ (if eqb (records_number t z rs) 0 then first_refusal (refusals t s (queues_of z) n) or_else records_number t z rs)) × (is_one_of step_numbers r.number ≡ true)
  unfolding is_one_of if◌then◌or_else◌
  step_number_at =
      by_test (eqb (records_number t z rs) 0)
      (λ e.
      let p = step_taken t z rs n r y ys promise (eqb-true (records_number t z rs) 0 e) in
      let k = step_number_is t z n r y p.0 in
      (k.0 ∙ rw (number_fits t z rs (eqb-true (records_number t z rs) 0 e), e), k.1))
      (λ e.
      let k : r.number ≡ records_number t z rs = ap (λ (a : Answer). a.number) (step_refused_lent t z rs n r y ys promise (eqb-false (records_number t z rs) 0 e)).0 in
      (k ∙ rw e, subst (λ j. is_one_of step_numbers j ≡ true) (sym k) (by_records t z rs (λ j. is_one_of step_numbers j ≡ true) refl refl refl refl)))

  -- ACCEPTED
  module _ (accepted : r.number ≡ 0) where
    pub step_lent : records_number t z rs ≡ 0
    step_lent =
        by_test (eqb (records_number t z rs) 0) (eqb-true (records_number t z rs) 0)
        (λ e. sym (ap (λ (a : Answer). a.number) (step_refused_lent t z rs n r y ys promise (eqb-false (records_number t z rs) 0 e)).0) ∙ accepted)

    -- "they always equal what a count over the state gives"
    pub step_counted : ys ≡ counted t (instances_of y)
    step_counted = (step_taken t z rs n r y ys promise step_lent).1

    -- what the types of a lent state and of lent records say
    module _ (v : Valid t z) (three : RecordsOfThree rs) where
      did_it : (did t (a_step n) z).number ≡ 0
      unfolding did
      did_it = sym (ap (λ (o : Stepped). o.answer.number) (step_taken t z rs n r y ys promise step_lent).0) ∙ accepted

      allowed : first_refusal (refusals t s (queues_of z) n) ≡ 0
      allowed = sym (step_number t z v n) ∙ did_it

      found : Found t s n
      found = here t s (queues_of z) n (table_fits_lem t z v.fits) allowed

      before : (p : ℕ) → p < pool_count t → record_at rs p ≡ record_of s p
      before p l = ap (λ (x : List (List ℕ)). record_at x p) (agree-counted t s rs three (number_agrees t z rs step_lent)) ∙ record_counted t s p l

      after : (p : ℕ) → p < pool_count t → record_at ys p ≡ record_of (instances_of (did t (a_step n) z).state) p
      unfolding did
      after p l =
          ap (λ (x : List (List ℕ)). record_at x p) (step_counted ∙ ap (λ (o : Stepped). counted t (instances_of o.state)) (step_taken t z rs n r y ys promise step_lent).0)
          ∙ record_counted t (instances_of (did t (a_step n) z).state) p l

      -- "a step alters only the record of its own pool"
      pub step_other_records : (p : ℕ) → p < pool_count t → (p ≡ pool_named t n → ⊥) → record_at ys p ≡ record_at rs p
      step_other_records p l d =
          after p l
          ∙ ap (λ (x : List ℕ). record_of x p) (step_instances t z v n did_it)
          ∙ other_records t s (queues_of z) n (table_fits_lem t z v.fits) (starts_once t (checks_hold t z v.fits)) (long_instances z v.long) (state_fits_lem t z v.fits) allowed p (omega (arith, l, pools_few t (table_fits_lem t z v.fits))) d
          ∙ sym (before p l)

      -- and there only by 'made and unfinished one more', of a startRcv, or 'unfinished one less, finished one more', where it leaves its instance with nothing
      pub step_own_record : record_at ys (pool_named t n) ≡ changed t s n (record_at rs (pool_named t n))
      step_own_record =
          after (pool_named t n) found.pool
          ∙ ap (λ (x : List ℕ). record_of x (pool_named t n)) (step_instances t z v n did_it)
          ∙ own_record t s (queues_of z) n (table_fits_lem t z v.fits) (starts_once t (checks_hold t z v.fits)) (long_instances z v.long) (state_fits_lem t z v.fits) allowed
          ∙ ap (changed t s n) (sym (before (pool_named t n) found.pool))

      -- a finished instance takes no further step
      pub step_not_finished : n.instance < made_count s (pool_named t n) → is_finished (instance_at s (pool_named t n) n.instance) ≡ true → ⊥
      step_not_finished = finished_rests t s (queues_of z) n (table_fits_lem t z v.fits) allowed

  -- REFUSED: no word of the state and no record changes
  pub step_refused_records : RecordsOfThree rs → (r.number ≡ 0 → ⊥) → (y ≡ z) × (ys ≡ rs)
  step_refused_records three k =
      by_test (eqb (records_number t z rs) 0)
      (λ e.
      let h = eqb-true (records_number t z rs) 0 e in
      let p = step_taken t z rs n r y ys promise h in
      let w : y ≡ z = (step_refused t z n r y p.0 k).0 in
      (w, p.1 ∙ ap (λ (x : List ℕ). counted t (instances_of x)) w ∙ sym (agree-counted t s rs three (number_agrees t z rs h))))
      (λ e. let p = step_refused_lent t z rs n r y ys promise (eqb-false (records_number t z rs) 0 e) in (p.1, p.2))

-- A RUN
module _ (t z : List ℕ) (rs : List (List ℕ)) (limit : ℕ) (r : Ran) (y : List ℕ) (ys : List (List ℕ)) (promise : Runs t z rs limit r y ys) where
  pub run_number_at : (r.number ≡ records_number t z rs) × (is_one_of run_numbers r.number ≡ true)
  unfolding is_one_of if◌then◌or_else◌
  run_number_at = (k, subst (λ j. is_one_of run_numbers j ≡ true) (sym k) (by_records t z rs (λ j. is_one_of run_numbers j ≡ true) refl refl refl refl))
    where
      k : r.number ≡ records_number t z rs
      k =
          by_test (eqb (records_number t z rs) 0)
          (λ e.
          let h = eqb-true (records_number t z rs) 0 e in
          (run_number_is t z limit r y (run_taken t z rs limit r y ys promise h).0).0 ∙ lent_zero t z (number_fits t z rs h) ∙ sym h)
          (λ e. (run_refused_lent t z rs limit r y ys promise (eqb-false (records_number t z rs) 0 e)).0)

  pub run_counted : r.number ≡ 0 → ys ≡ counted t (instances_of y)
  run_counted e = (run_taken t z rs limit r y ys promise (sym run_number_at.0 ∙ e)).1

  pub run_refused_records : (r.number ≡ 0 → ⊥) → (y ≡ z) × (ys ≡ rs)
  run_refused_records k = let p = run_refused_lent t z rs limit r y ys promise (λ e. k (run_number_at.0 ∙ e)) in (p.3, p.4)

-- A POLL: 22, 10, 25, 26, then its items, and the records are those of the accepted part
module _ (t z : List ℕ) (rs : List (List ℕ)) (w : List ℕ) (count : ℕ) (r : Polled) (y : List ℕ) (ys : List (List ℕ)) (promise : Polls t z rs w count r y ys) where
  pub poll_number_at : is_one_of poll_numbers r.number ≡ true
  unfolding is_one_of poll_number if◌then◌or_else◌
  poll_number_at =
      by_test (eqb (poll_number t z rs count) 0)
      (λ e. ap (λ (p : Polling). is_one_of poll_numbers p.number) (poll_taken t z rs w count r y ys promise (eqb-true (poll_number t z rs count) 0 e)).0 ∙ poll_numbers_lem t z w count)
      (λ e.
      ap (is_one_of poll_numbers) (poll_refused_lent t z rs w count r y ys promise (eqb-false (poll_number t z rs count) 0 e)).0
      ∙ by_choice (λ j. is_one_of poll_numbers j ≡ true) (ltb items_most count) 22 (records_number t z rs) (λ d. refl) (λ d. by_records t z rs (λ j. is_one_of poll_numbers j ≡ true) refl refl refl refl))

  pub poll_counted : poll_number t z rs count ≡ 0 → ys ≡ counted t (instances_of y)
  poll_counted h = (poll_taken t z rs w count r y ys promise h).1
