-- THE CALLS WITH THE DESK'S RECORDS beside those on table and state alone: with records that agree a step, a run and a poll are the same, and leave records that agree; with others they are 26, and
-- nothing changes. rs are the records lent and ys those left. Assumes nothing.
use Prim.Native.Nat.{ℕ}
use mathlib.Core.Path.{◌≡◌, refl, sym, ◌∙◌, ap, subst}
use mathlib.Core.Bool.{true, false, false≢true}
use mathlib.Core.List.{List, ◌++◌}
use native.Mathlib.Omega.{arith}
use borrow.Author.Tests.{eqb-true, eqb-false, eq-eqb, ne_eqb, ltb-true, ltb-false}
use lib.Dec.{eqb, ltb}
use lib.ListN.{length}
use lib.Seq.{take_at}
use Rattle.base_words.specs.Pick.{if◌then◌or_else◌}
use Rattle.base_table.specs.Table.{pool_count}
use Rattle.base_state.specs.Places.{instances_words}
use Rattle.base_state.specs.Instances.{instances_of, queues_of}
use Rattle.meaning.specs.declared.Name.{Name}
use Rattle.meaning.specs.declared.Answer.{Answer}
use Rattle.meaning.specs.declared.Tuple.{Tuple}
use Rattle.meaning.specs.declared.Traffic.TheVariants.{Nothing}
use Rattle.meaning.specs.Tuples.{empty}
use Rattle.meaning.specs.Post.{post}
use Rattle.state_figures.specs.Figures.{counted, agree, desk_number, Figured, figured}
use Rattle.step_poll.specs.declared.Polled.{Polled}
use Rattle.step_poll.specs.Items.{items_most}
use Rattle.step_poll.specs.Poll.{Polling}
use Rattle.step_poll.proofs.PollLaws.{too_many_lem, not_right}
use Rattle.proof_steps.proofs.Choices.{by_test, by_choice, chosen, passed}
use Rattle.engine.specs.declared.Ran.{Ran}
use Rattle.engine.specs.Engine.{Left, lent_number, fitting, Stepped, stepped, posted_to, RanTo, ran_to}
use Rattle.engine.specs.Calls.{did, Valid, polled_to}
use Rattle.engine.specs.Desk.{AtDesk, records_number, at_desk, stepped_at, ran_at, poll_number, polled_at, figured_to}
use Rattle.engine.proofs.CallLaws.{by_lent, lent_zero, lent_good, long_instances, step_bad, run_bad}
use Rattle.engine.proofs.DeskLaws.{number_lent}
use Rattle.engine.proofs.KeepsValid.{step-valid, post-valid}
use Rattle.proof_valid.proofs.KeepsFitting.{run_valid}
use Rattle.proof_demands.specs.Promises.{Steps, Posts, Runs, Polls, Figures, StepsOn, RunsOn, PollsOn}
use Rattle.proof_demands.specs.Demands.{is_one_of, figures_numbers, Agrees}
use Rattle.proof_demands.proofs.Numbers.{unfit_number}
use Rattle.proof_demands.proofs.PollSteps.{polled_valid}
use Rattle.proof_demands.proofs.Counted.{counted_agrees}

-- ANY CALL, o and ys what its promise allows
module _ {A : Type 0} (k : ℕ) (t : List ℕ) (x : A) (w : List ℕ) (r : A) (rs : List (List ℕ)) (o : A) (ys : List (List ℕ)) (promise : ◌≡◌ {A = AtDesk A} (record { done = o; records = ys }) (at_desk k t x w r rs)) where
  taken : k ≡ 0 → (o ≡ x) × (ys ≡ counted t (instances_of w))
  unfolding at_desk
  taken h =
      let p = promise ∙ chosen (eqb k 0) (record { done = x; records = counted t (instances_of w) }) (record { done = r; records = rs }) (eq-eqb k 0 h) in
      (ap (λ (d : AtDesk A). d.done) p, ap (λ (d : AtDesk A). d.records) p)

  refused : (k ≡ 0 → ⊥) → (o ≡ r) × (ys ≡ rs)
  unfolding at_desk
  refused h =
      let p = promise ∙ passed (eqb k 0) (record { done = x; records = counted t (instances_of w) }) (record { done = r; records = rs }) (ne_eqb k 0 h) in
      (ap (λ (d : AtDesk A). d.done) p, ap (λ (d : AtDesk A). d.records) p)

-- THE NUMBER of what is lent: 10, 25, 26 or 0
module _ (t z : List ℕ) (rs : List (List ℕ)) where
  pub number_fits : records_number t z rs ≡ 0 → fitting t z ≡ true
  unfolding records_number
  number_fits h = lent_good t z 0 (sym (number_lent (lent_number t z) rs t (instances_of z) h)) refl

  pub number_agrees : records_number t z rs ≡ 0 → agree rs t (instances_of z) ≡ true
  unfolding records_number desk_number
  number_agrees h =
      by_test (agree rs t (instances_of z)) (λ e. e)
      (λ e.
      absurd (omega (arith, sym h ∙ chosen (eqb (lent_number t z) 0) (if agree rs t (instances_of z) then 0 or_else 26) (lent_number t z) (eq-eqb (lent_number t z) 0 (number_lent (lent_number t z) rs t (instances_of z) h)) ∙ passed (agree rs t (instances_of z)) 0 26 e)))

  -- "26 .. they don't agree with the state at entry, after 10"
  pub number_other : fitting t z ≡ true → agree rs t (instances_of z) ≡ false → records_number t z rs ≡ 26
  unfolding records_number desk_number if◌then◌or_else◌
  number_other f e = rw (lent_zero t z f, e)

  pub number_bad : fitting t z ≡ false → records_number t z rs ≡ lent_number t z
  unfolding records_number desk_number fitting
  number_bad f = passed (eqb (lent_number t z) 0) (if agree rs t (instances_of z) then 0 or_else 26) (lent_number t z) f

  pub number_good : fitting t z ≡ true → agree rs t (instances_of z) ≡ true → records_number t z rs ≡ 0
  unfolding records_number desk_number if◌then◌or_else◌
  number_good f e = rw (lent_zero t z f, e)

  pub number_right : rs ≡ counted t (instances_of z) → records_number t z rs ≡ lent_number t z
  number_right e =
      by_test (fitting t z) (λ f. number_good f (rw e (counted_agrees t (instances_of z))) ∙ sym (lent_zero t z f)) number_bad

  pub by_records : (P : ℕ → Type 0) → P 0 → P 25 → P 10 → P 26 → P (records_number t z rs)
  unfolding records_number desk_number
  by_records P right other bad wrong =
      by_choice P (eqb (lent_number t z) 0) (if agree rs t (instances_of z) then 0 or_else 26) (lent_number t z)
      (λ e. by_choice P (agree rs t (instances_of z)) 0 26 (λ d. right) (λ d. wrong)) (λ e. by_lent P t z right other bad)

-- A STEP
module _ (t z : List ℕ) (rs : List (List ℕ)) (n : Name) (r : Answer) (y : List ℕ) (ys : List (List ℕ)) (promise : Steps t z rs n r y ys) where
  pub step_taken : records_number t z rs ≡ 0 → StepsOn t z n r y × (ys ≡ counted t (instances_of y))
  unfolding stepped_at
  step_taken h =
      let p = taken (records_number t z rs) t (stepped t z n) (stepped t z n).state _ rs (record { answer = r; state = y }) ys promise h in
      (p.0, p.1 ∙ ap (λ (o : Stepped). counted t (instances_of o.state)) (sym p.0))

  pub step_refused_lent : (records_number t z rs ≡ 0 → ⊥) → (r ≡ record { number = records_number t z rs; traffic = Nothing; name = 0; tuple = empty }) × (y ≡ z) × (ys ≡ rs)
  unfolding stepped_at
  step_refused_lent h =
      let p = refused (records_number t z rs) t (stepped t z n) (stepped t z n).state _ rs (record { answer = r; state = y }) ys promise h in
      (ap (λ (o : Stepped). o.answer) p.0, ap (λ (o : Stepped). o.state) p.0, p.1)

-- A RUN
module _ (t z : List ℕ) (rs : List (List ℕ)) (limit : ℕ) (r : Ran) (y : List ℕ) (ys : List (List ℕ)) (promise : Runs t z rs limit r y ys) where
  pub run_taken : records_number t z rs ≡ 0 → RunsOn t z limit r y × (ys ≡ counted t (instances_of y))
  unfolding ran_at
  run_taken h =
      let p = taken (records_number t z rs) t (ran_to t z limit) (ran_to t z limit).state _ rs (record { number = r.number; steps = r.steps; left = r.left; state = y }) ys promise h in
      (p.0, p.1 ∙ ap (λ (o : RanTo). counted t (instances_of o.state)) (sym p.0))

  pub run_refused_lent : (records_number t z rs ≡ 0 → ⊥) → (r.number ≡ records_number t z rs) × (r.steps ≡ 0) × (r.left ≡ 0) × (y ≡ z) × (ys ≡ rs)
  unfolding ran_at
  run_refused_lent h =
      let p = refused (records_number t z rs) t (ran_to t z limit) (ran_to t z limit).state _ rs (record { number = r.number; steps = r.steps; left = r.left; state = y }) ys promise h in
      (ap (λ (o : RanTo). o.number) p.0, ap (λ (o : RanTo). o.steps) p.0, ap (λ (o : RanTo). o.left) p.0, ap (λ (o : RanTo). o.state) p.0, p.1)

-- A POLL, of which 22 is looked at first
module _ (t z : List ℕ) (rs : List (List ℕ)) (w : List ℕ) (count : ℕ) (r : Polled) (y : List ℕ) (ys : List (List ℕ)) (promise : Polls t z rs w count r y ys) where
  pub poll_taken : poll_number t z rs count ≡ 0 → PollsOn t z w count r y × (ys ≡ counted t (instances_of y))
  unfolding polled_at
  poll_taken h =
      let p = taken (poll_number t z rs count) t (polled_to t z w count) (polled_to t z w count).state _ rs (record { number = r.number; accepted = r.accepted; state = y }) ys promise h in
      (p.0, p.1 ∙ ap (λ (o : Polling). counted t (instances_of o.state)) (sym p.0))

  pub poll_refused_lent : (poll_number t z rs count ≡ 0 → ⊥) → (r.number ≡ poll_number t z rs count) × (r.accepted ≡ 0) × (y ≡ z) × (ys ≡ rs)
  unfolding polled_at
  poll_refused_lent h =
      let p = refused (poll_number t z rs count) t (polled_to t z w count) (polled_to t z w count).state _ rs (record { number = r.number; accepted = r.accepted; state = y }) ys promise h in
      (ap (λ (o : Polling). o.number) p.0, ap (λ (o : Polling). o.accepted) p.0, ap (λ (o : Polling). o.state) p.0, p.1)

-- RECORDS THAT AGREE: the call is the one on table and state alone, and the records agree again, whatever it answers
module _ (t z : List ℕ) (rs : List (List ℕ)) (a : Agrees t z rs) where
  number_is : records_number t z rs ≡ lent_number t z
  number_is = number_right t z rs a.same

  valid : fitting t z ≡ true → Valid t z
  valid f = record { long = a.long; fits = f }

  good : fitting t z ≡ true → records_number t z rs ≡ 0
  good f = number_is ∙ lent_zero t z f

  bad : fitting t z ≡ false → records_number t z rs ≡ 0 → ⊥
  unfolding fitting
  bad f h = eqb-false (lent_number t z) 0 f (sym number_is ∙ h)

  -- nothing was done
  stays : (y : List ℕ) (ys : List (List ℕ)) → y ≡ z → ys ≡ rs → Agrees t y ys
  stays y ys e d = rw (e, d) a

  pub step_agrees : (n : Name) (r : Answer) (y : List ℕ) (ys : List (List ℕ)) → Steps t z rs n r y ys → StepsOn t z n r y × Agrees t y ys
  step_agrees n r y ys promise =
      by_test (fitting t z)
      (λ f.
      let p = step_taken t z rs n r y ys promise (good f) in
      (p.0, record { long = ap (λ (o : Stepped). length o.state) p.0 ∙ (step-valid t z (valid f) n).long; same = p.1 }))
      (λ f.
      let p = step_refused_lent t z rs n r y ys promise (bad f) in
      (ap (λ (x : List ℕ). record { answer = r; state = x }) p.1 ∙ step_bad t z (records_number t z rs) number_is (bad f) n r p.0, stays y ys p.1 p.2))

  pub run_agrees : (limit : ℕ) (r : Ran) (y : List ℕ) (ys : List (List ℕ)) → Runs t z rs limit r y ys → RunsOn t z limit r y × Agrees t y ys
  run_agrees limit r y ys promise =
      by_test (fitting t z)
      (λ f.
      let p = run_taken t z rs limit r y ys promise (good f) in
      (p.0, record { long = ap (λ (o : RanTo). length o.state) p.0 ∙ (run_valid t z (valid f) limit).long; same = p.1 }))
      (λ f.
      let p = run_refused_lent t z rs limit r y ys promise (bad f) in
      ((λ i. record { number = p.0 i; steps = p.1 i; left = p.2 i; state = p.3 i }) ∙ run_bad t z (records_number t z rs) number_is (bad f) limit, stays y ys p.3 p.4))

  -- a post is lent none, and leaves the instances as they were
  pub post_agrees : (name : ℕ) (g : Tuple) (r : ℕ) (y : List ℕ) (ys : List (List ℕ)) → Posts t z name g r y → ys ≡ rs → Agrees t y ys
  unfolding posted_to
  post_agrees name g r y ys promise e =
      let d : y ≡ (posted_to t z name g).state = ap (λ (o : Left). o.state) promise in
      rw (d, e)
      (by_test (fitting t z)
      (λ f.
      record {
        long = (post-valid t z (valid f) name g).long;
        same =
            a.same
            ∙ ap (counted t) (sym (ap (λ (o : Left). instances_of o.state) (chosen {A = Left} (fitting t z) (record { number = (post (queues_of z) name g).number; state = instances_of z ++ (post (queues_of z) name g).queues }) _ f) ∙ take_at (instances_of z) (post (queues_of z) name g).queues instances_words (long_instances z a.long)));
      })
      (λ f. stays (posted_to t z name g).state rs (ap (λ (o : Left). o.state) (passed {A = Left} (fitting t z) (record { number = (post (queues_of z) name g).number; state = instances_of z ++ (post (queues_of z) name g).queues }) _ f)) refl))

  pub poll_agrees : (w : List ℕ) (count : ℕ) (r : Polled) (y : List ℕ) (ys : List (List ℕ)) → Polls t z rs w count r y ys → PollsOn t z w count r y × Agrees t y ys
  unfolding polled_to poll_number
  poll_agrees w count r y ys promise =
      by_test (ltb items_most count)
      (λ many.
      let k : poll_number t z rs count ≡ 22 = chosen (ltb items_most count) 22 (records_number t z rs) many in
      alone k (λ e. omega (arith, k, e)) (too_many_lem (did t) (lent_number t z) w count z (ltb-true items_most count many)))
      (λ few.
      let k : poll_number t z rs count ≡ records_number t z rs = passed (ltb items_most count) 22 (records_number t z rs) few in
      by_test (fitting t z)
      (λ f.
      let p = poll_taken t z rs w count r y ys promise (k ∙ good f) in
      (p.0, record { long = ap (λ (o : Polling). length o.state) p.0 ∙ (polled_valid t z (valid f) w count).long; same = p.1 }))
      (λ f.
      alone (k ∙ number_is) (λ e. bad f (sym k ∙ e))
      (not_right (did t) (lent_number t z) w count z (ltb-false items_most count few) (λ e. bad f (number_is ∙ e)))))
    where
      -- nothing was done
      alone : {j : ℕ} → poll_number t z rs count ≡ j → (poll_number t z rs count ≡ 0 → ⊥) → record { number = j; accepted = 0; state = z } ≡ polled_to t z w count → PollsOn t z w count r y × Agrees t y ys
      alone k n e =
          let p = poll_refused_lent t z rs w count r y ys promise n in
          ((λ i. record { number = (p.0 ∙ k) i; accepted = p.1 i; state = p.2 i }) ∙ e, stays y ys p.2 p.3)

-- THE COUNT ITSELF: 10, 25, then 26 for a wrong number of records
module _ (t z : List ℕ) (rs : List (List ℕ)) where
  by_figured : (P : Figured → Type 0) → (fitting t z ≡ true → length rs ≡ pool_count t → P (record { number = 0; records = counted t (instances_of z) }))
      → (fitting t z ≡ true → (length rs ≡ pool_count t → ⊥) → P (record { number = 26; records = rs }))
      → (fitting t z ≡ false → P (record { number = lent_number t z; records = rs })) → P (figured_to t z rs)
  unfolding figured_to figured fitting
  by_figured P right wrong bad =
      by_choice P (eqb (lent_number t z) 0) _ (record { number = lent_number t z; records = rs })
      (λ f.
      by_choice P (eqb (length rs) (pool_count t)) (record { number = 0; records = counted t (instances_of z) }) (record { number = 26; records = rs })
      (λ e. right f (eqb-true (length rs) (pool_count t) e)) (λ e. wrong f (eqb-false (length rs) (pool_count t) e)))
      bad

  pub figured_zero : fitting t z ≡ true → length rs ≡ pool_count t → (figured_to t z rs).number ≡ 0
  figured_zero f l = by_figured (λ (o : Figured). o.number ≡ 0) (λ g e. refl) (λ g e. absurd (e l)) (λ g. absurd (false≢true (sym g ∙ f)))

  module _ (r : ℕ) (ys : List (List ℕ)) (promise : Figures t z rs r ys) where
    pub figures_number_is : is_one_of figures_numbers r ≡ true
    unfolding is_one_of if◌then◌or_else◌
    figures_number_is =
        ap (λ (o : Figured). is_one_of figures_numbers o.number) promise
        ∙ by_figured (λ (o : Figured). is_one_of figures_numbers o.number ≡ true) (λ f e. refl) (λ f e. refl) (λ f. by_lent (λ k. is_one_of figures_numbers k ≡ true) t z refl refl refl)

    -- set by counting
    pub figures_counted : r ≡ 0 → (fitting t z ≡ true) × (length rs ≡ pool_count t) × (ys ≡ counted t (instances_of z))
    figures_counted e =
        subst (λ (o : Figured). o.number ≡ 0 → (fitting t z ≡ true) × (length rs ≡ pool_count t) × (o.records ≡ counted t (instances_of z))) (sym promise)
        (by_figured (λ (o : Figured). o.number ≡ 0 → (fitting t z ≡ true) × (length rs ≡ pool_count t) × (o.records ≡ counted t (instances_of z)))
        (λ f l d. (f, l, refl)) (λ f l d. absurd (omega (arith, d))) (λ f d. absurd (lost f d)))
        e
      where
        lost : fitting t z ≡ false → lent_number t z ≡ 0 → ⊥
        lost f = unfit_number t z f

    pub figures_refused : (r ≡ 0 → ⊥) → ys ≡ rs
    figures_refused n =
        subst (λ (o : Figured). (o.number ≡ 0 → ⊥) → o.records ≡ rs) (sym promise)
        (by_figured (λ (o : Figured). (o.number ≡ 0 → ⊥) → o.records ≡ rs) (λ f l d. absurd (d refl)) (λ f l d. refl) (λ f d. refl))
        n

    -- "26 the number of records isn't the number of pools"
    pub figures_wrong : fitting t z ≡ true → (length rs ≡ pool_count t → ⊥) → r ≡ 26
    figures_wrong f n =
        ap (λ (o : Figured). o.number) promise
        ∙ by_figured (λ (o : Figured). o.number ≡ 26) (λ g e. absurd (n e)) (λ g e. refl) (λ g. absurd (false≢true (sym g ∙ f)))
