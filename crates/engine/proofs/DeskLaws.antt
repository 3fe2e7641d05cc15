-- The calls that are lent the desk's records: what they do with them is a count over the state that they leave. Assumes nothing.
use Prim.Native.Nat.{ℕ}
use mathlib.Core.Path.{◌≡◌, refl, sym, ◌∙◌, ap, subst}
use mathlib.Core.Bool.{true, false}
use mathlib.Core.List.{List, ◌++◌}
use native.Mathlib.Omega.{arith}
use borrow.Author.Tests.{eqb-true, eqb-false, eq-eqb, ne_eqb, ltb-true, ltb-false}
use lib.Dec.{eqb, ltb}
use lib.ListN.{length}
use lib.Seq.{take_at}
use Rattle.base_words.specs.Pick.{if◌then◌or_else◌}
use Rattle.base_words.proofs.ListLaws.{length-tab}
use Rattle.base_table.specs.Table.{pool_count, pool_of}
use Rattle.base_state.specs.Places.{instances_words, state_words}
use Rattle.base_state.specs.Instances.{instances_of, queues_of}
use Rattle.meaning.specs.declared.Name.{Name}
use Rattle.meaning.specs.declared.Answer.{Answer}
use Rattle.meaning.specs.declared.Traffic.TheVariants.{Nothing}
use Rattle.meaning.specs.Tuples.{empty}
use Rattle.meaning.specs.Step.{Outcome, pool_named, step}
use Rattle.state_figures.specs.Figures.{record_of, counted, agree, followed, desk_number, records_left}
use Rattle.step_take.specs.Settled.{Done, settled}
use Rattle.step_run.specs.Run.{Run, ran_by}
use Rattle.step_list.specs.Scanned.{scanned}
use Rattle.step_poll.specs.Items.{items_most}
use Rattle.step_poll.specs.Poll.{Polling, polled_from, settled_act}
use Rattle.step_poll.proofs.PollLaws.{too_many_lem, not_right}
use Rattle.proof_steps.proofs.Choices.{by_test, by_choice, chosen, passed}
use Rattle.proof_steps.proofs.EveryStep.{step_keeps_fits}
use Rattle.proof_listing.proofs.StartUnique.{starts_once}
use Rattle.proof_figures.proofs.EveryStep.{followed-counted}
use Rattle.engine.specs.Engine.{lent_number, fitting, Stepped, leaving, stepped, RanTo, ran_to}
use Rattle.engine.specs.Calls.{polled_to}
use Rattle.engine.specs.Desk.{AtDesk, records_number, at_desk, stepped_at, ran_at, poll_number, polled_at}
use Rattle.engine.proofs.CallLaws.{table_fits_lem, checks_hold, lent_fits, lent_good, step_done, run_done}
use Rattle.engine.proofs.PollLaws.{poll_done}

-- records refused with 0 are refused with nothing before them
pub number_lent : (k : ℕ) (rs : List (List ℕ)) (t s : List ℕ) → desk_number k rs t s ≡ 0 → k ≡ 0
unfolding desk_number
number_lent k rs t s e =
    by_test (eqb k 0) (λ d. eqb-true k 0 d)
    (λ d. sym (passed (eqb k 0) (if agree rs t s then 0 or_else 26) k d) ∙ e)

-- THE NUMBER r of what is lent, by that of table and state, k
pub number_done : (t z : List ℕ) (rs : List (List ℕ)) (k r : ℕ)
    → (k ≡ lent_number t z) × (k ≡ 0 → length z ≡ state_words)
    → (r ≡ desk_number k rs t (instances_of z)) × (r ≡ 0 → rs ≡ counted t (instances_of z))
    → (r ≡ records_number t z rs) × (r ≡ 0 → length z ≡ state_words) × (r ≡ 0 → rs ≡ counted t (instances_of z))
unfolding records_number
number_done t z rs k r e d =
    (d.0 ∙ ap (λ j. desk_number j rs t (instances_of z)) e.0, λ h. e.1 (number_lent k rs t (instances_of z) (sym d.0 ∙ h)), d.1)

pub counted_long : (t s : List ℕ) → length (counted t s) ≡ pool_count t
unfolding counted
counted_long t s = length-tab (record_of s) (pool_count t)

-- A STEP of a table and a state that fit leaves what is followed counted
stepped-followed : (t z : List ℕ) → length z ≡ state_words → fitting t z ≡ true → (n : Name)
    → followed (stepped t z n).answer.number (counted t (instances_of z)) (instances_of (stepped t z n).state) (pool_named t n) n.instance ≡ counted t (instances_of (stepped t z n).state)
unfolding stepped leaving
stepped-followed t z l h n =
    let o : Outcome = step t (instances_of z) (queues_of z) n in
    let once = starts_once t (checks_hold t z h) in
    let long = (step_keeps_fits t (instances_of z) (queues_of z) (table_fits_lem t z h) (lent_fits t z l h) once n).long in
    rw (chosen (fitting t z) (leaving o) _ h, take_at o.instances o.queues instances_words long)
    (followed-counted t (instances_of z) (queues_of z) n (table_fits_lem t z h) once (lent_fits t z l h))

module _ (t z : List ℕ) (rs : List (List ℕ)) (k : ℕ) (e : k ≡ records_number t z rs) where
  -- REFUSED
  module _ (h : k ≡ 0 → ⊥) where
    refused : eqb (records_number t z rs) 0 ≡ false
    refused = ne_eqb (records_number t z rs) 0 (λ d. h (e ∙ d))

    pub step_refused : (n : Name) (r : Answer) → r ≡ record { number = k; traffic = Nothing; name = 0; tuple = empty }
        → ◌≡◌ {A = AtDesk Stepped} (record { done = record { answer = r; state = z }; records = rs }) (stepped_at t z rs n)
    unfolding stepped_at at_desk if◌then◌or_else◌
    step_refused n r d = rw (refused, d, e)

    pub run_refused : (limit : ℕ) → ◌≡◌ {A = AtDesk RanTo} (record { done = record { number = k; steps = 0; left = 0; state = z }; records = rs }) (ran_at t z rs limit)
    unfolding ran_at at_desk if◌then◌or_else◌
    run_refused limit = rw (refused, e)

  lent : k ≡ 0 → lent_number t z ≡ 0
  unfolding records_number
  lent h = number_lent (lent_number t z) rs t (instances_of z) (sym e ∙ h)

  -- TAKEN
  module _ (l : k ≡ 0 → length z ≡ state_words) (c : k ≡ 0 → rs ≡ counted t (instances_of z)) where
    pub records_long : k ≡ 0 → length rs ≡ pool_count t
    records_long h = ap (λ (x : List (List ℕ)). length x) (c h) ∙ counted_long t (instances_of z)

    module _ (h : k ≡ 0) where
      taken : eqb (records_number t z rs) 0 ≡ true
      taken = eq-eqb (records_number t z rs) 0 (sym e ∙ h)

      fits : fitting t z ≡ true
      fits = lent_good t z 0 (sym (lent h)) refl

      pub step_taken : (n : Name) (r : Answer) (y : List ℕ) (ys : List (List ℕ)) → Done (settled t (instances_of z) (queues_of z) n) r y
          → ys ≡ followed r.number rs (instances_of y) (pool_of t n.pool) n.instance
          → ◌≡◌ {A = AtDesk Stepped} (record { done = record { answer = r; state = y }; records = ys }) (stepped_at t z rs n)
      unfolding stepped_at at_desk if◌then◌or_else◌
      step_taken n r y ys d f =
          let o : ◌≡◌ {A = Stepped} (record { answer = r; state = y }) (stepped t z n) = step_done t z (l h) fits n r y d in
          let w : ys ≡ counted t (instances_of (stepped t z n).state)
          = f
          ∙ ap (λ (x : List (List ℕ)). followed r.number x (instances_of y) (pool_of t n.pool) n.instance) (c h)
          ∙ ap (λ (x : Stepped). followed x.answer.number (counted t (instances_of z)) (instances_of x.state) (pool_of t n.pool) n.instance) o
          ∙ stepped-followed t z (l h) fits n in
          rw taken (λ i. record { done = o i; records = w i })

      pub run_taken : (limit steps left : ℕ) (y : List ℕ) (ys : List (List ℕ))
          → ◌≡◌ {A = Run} (record { steps = steps; left = left; instances = instances_of y; queues = queues_of y }) (ran_by (scanned t) (settled t) limit (instances_of z) (queues_of z))
          → ys ≡ records_left k rs t (instances_of y)
          → ◌≡◌ {A = AtDesk RanTo} (record { done = record { number = 0; steps = steps; left = left; state = y }; records = ys }) (ran_at t z rs limit)
      unfolding ran_at at_desk records_left if◌then◌or_else◌
      run_taken limit steps left y ys d f =
          let o : ◌≡◌ {A = RanTo} (record { number = 0; steps = steps; left = left; state = y }) (ran_to t z limit) = run_done t z (l h) fits limit steps left y d in
          let w : ys ≡ counted t (instances_of (ran_to t z limit).state)
          = f ∙ chosen (eqb k 0) (counted t (instances_of y)) rs (eq-eqb k 0 h) ∙ ap (λ (x : RanTo). counted t (instances_of x.state)) o in
          rw taken (λ i. record { done = o i; records = w i })

    -- records that are left where nothing is done
    left_alone : records_left k rs t (instances_of z) ≡ rs
    unfolding records_left
    left_alone = by_choice (λ (x : List (List ℕ)). x ≡ rs) (eqb k 0) (counted t (instances_of z)) rs (λ d. sym (c (eqb-true k 0 d))) (λ d. refl)

    -- A POLL, by whether it has too many items and whether anything is refused
    module _ (w : List ℕ) (count : ℕ) (r : Polling) (ys : List (List ℕ)) (d : r ≡ polled_from (settled_act t) k w count z) (f : ys ≡ records_left k rs t (instances_of r.state)) where
      abbrev Taken : Type 0
      Taken = ◌≡◌ {A = AtDesk Polling} (record { done = r; records = ys }) (polled_at t z rs w count)

      -- nothing is done, j is the number
      untouched : (j : ℕ) → (j ≡ 0 → ⊥) → j ≡ poll_number t z rs count → record { number = j; accepted = 0; state = z } ≡ polled_from (settled_act t) k w count z → Taken
      unfolding polled_at at_desk if◌then◌or_else◌
      untouched j n m p =
          let o : r ≡ record { number = j; accepted = 0; state = z } = d ∙ sym p in
          let u : ys ≡ rs = f ∙ ap (λ (x : Polling). records_left k rs t (instances_of x.state)) o ∙ left_alone in
          rw (← m, ne_eqb j 0 n) (λ i. record { done = o i; records = u i })

      all_few : ltb items_most count ≡ false → k ≡ 0 → Taken
      unfolding polled_at poll_number at_desk records_left if◌then◌or_else◌
      all_few few h =
          let o : r ≡ polled_to t z w count = d ∙ poll_done t z w count k (h ∙ sym (lent h)) l in
          let u : ys ≡ counted t (instances_of (polled_to t z w count).state)
          = f ∙ chosen (eqb k 0) (counted t (instances_of r.state)) rs (eq-eqb k 0 h) ∙ ap (λ (x : Polling). counted t (instances_of x.state)) o in
          rw (few, taken h) (λ i. record { done = o i; records = u i })

      pub poll_taken : Taken
      unfolding poll_number if◌then◌or_else◌
      poll_taken =
          by_test (ltb items_most count)
          (λ many. untouched 22 (λ n. omega (arith, n)) (rw many) (too_many_lem (settled_act t) k w count z (ltb-true items_most count many)))
          (λ few.
          by_test (eqb k 0) (λ h. all_few few (eqb-true k 0 h))
          (λ h. untouched k (eqb-false k 0 h) (rw few e) (not_right (settled_act t) k w count z (ltb-false items_most count few) (eqb-false k 0 h))))
