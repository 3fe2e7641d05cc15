-- The run is the first listed step, taken by the public step, again and again: from a valid state. Assumes nothing.
use Prim.Native.Nat.{ℕ, zero, suc, ◌+◌}
use mathlib.Core.Path.{◌≡◌, refl, sym, ◌∙◌, ap, ap₂}
use mathlib.Core.Bool.{true, false}
use mathlib.Core.List.{List, [], ◌∷◌, ◌++◌}
use native.Mathlib.Omega.{arith}
use lib.Dec.{eqb}
use lib.ListN.{length, take-append-drop}
use borrow.Author.Tests.{eq-eqb, eqb-true}
use Rattle.base_words.specs.Pick.{if◌then◌or_else◌}
use Rattle.base_words.specs.Sum.{one_if}
use Rattle.base_words.proofs.PickLaws.{and_true}
use Rattle.base_state.specs.Places.{instances_words}
use Rattle.base_state.specs.Instances.{instances_of, queues_of}
use Rattle.meaning.specs.declared.Name.{Name}
use Rattle.meaning.specs.Refusals.{first_refusal}
use Rattle.meaning.specs.Step.{site_of, queues_after, refusals, step}
use Rattle.proof_steps.proofs.Choices.{by_test, by_choice, chosen as picked, passed}
use Rattle.proof_steps.proofs.Independence.{accepted_instances}
use Rattle.step_list.specs.declared.Listed.{Listed}
use Rattle.step_names.specs.Names.{blank_name, accepted}
use Rattle.step_list.specs.Listing.{listed, chosen}
use Rattle.step_run.specs.Run.{Run, whether, one_step, ran_by, ran}
use Rattle.step_run.proofs.RunLaws.{none_listed, first_listed}
use Rattle.proof_listing.proofs.ListedAll.{listed-accepted}
use Rattle.engine.specs.Engine.{lent_number, fitting, listed_at, RanTo, ended}
use Rattle.engine.proofs.KeepsValid.{did-valid}
use Rattle.engine.specs.Calls.{Act, a_step, did, all_accepted, after, Valid}
use Rattle.proof_demands.specs.Demands.{run_steps, run_left, ran_given}
use Rattle.proof_demands.proofs.StatesLeft.{step_number, step_instances, step_queues}

whether_is : (ns : List Name) → whether ns ≡ one_if (eqb (chosen ns 0).number 0)
unfolding whether chosen
whether_is [] = refl
whether_is (n ∷ ns) = refl

ended_none : (s q : List ℕ) → ended (record { steps = 0; left = 0; instances = s; queues = q }) ≡ record { number = 0; steps = 0; left = 0; state = s ++ q }
unfolding ended
ended_none s q = refl

module _ (t : List ℕ) where
  module _ (z : List ℕ) (v : Valid t z) where
    abbrev s : List ℕ
    s = instances_of z

    abbrev q : List ℕ
    q = queues_of z

    -- THE FIRST LISTED STEP
    pub listed_is : (k : ℕ) → listed_at t z k ≡ chosen (listed t s q) k
    unfolding listed_at
    listed_is k = picked (fitting t z) (chosen (listed t s q) k) (record { number = lent_number t z; name = blank_name }) v.fits

    first_none : listed t s q ≡ [] → listed_at t z 0 ≡ record { number = 6; name = blank_name }
    unfolding chosen
    first_none e = listed_is 0 ∙ ap (λ (ns : List Name). chosen ns 0) e

    first_some : (n : Name) (ns : List Name) → listed t s q ≡ n ∷ ns → listed_at t z 0 ≡ record { number = 0; name = n }
    unfolding chosen
    first_some n ns e = listed_is 0 ∙ ap (λ (ns : List Name). chosen ns 0) e

    -- the k-th listed step is accepted by the public step
    pub listed_accepts : (k : ℕ) → (listed_at t z k).number ≡ 0 → (did t (a_step (listed_at t z k).name) z).number ≡ 0
    unfolding accepted
    listed_accepts k e =
        let h = listed-accepted t s q k (sym (ap (λ (y : Listed). y.number) (listed_is k)) ∙ e) in
        rw (listed_is k) (step_number t z v (chosen (listed t s q) k).name ∙ eqb-true (first_refusal (refusals t s q (chosen (listed t s q) k).name)) 0 h)

    -- what an accepted step leaves
    module _ (n : Name) (e : (did t (a_step n) z).number ≡ 0) where
      first : first_refusal (refusals t s q n) ≡ 0
      first = sym (step_number t z v n) ∙ e

      queues_is : (step t s q n).queues ≡ queues_after (site_of t s n) q
      unfolding step if◌then◌or_else◌
      queues_is = rw (eq-eqb (first_refusal (refusals t s q n)) 0 first)

      left_instances : instances_of (did t (a_step n) z).state ≡ (step t s q n).instances
      left_instances = step_instances t z v n e ∙ sym (accepted_instances t s n q first)

      left_queues : queues_of (did t (a_step n) z).state ≡ (step t s q n).queues
      left_queues = step_queues t z v n e ∙ sym queues_is

  -- ALL STEPS OF A RUN ARE ACCEPTED
  pub run_accepted : (limit : ℕ) (z : List ℕ) → Valid t z → all_accepted t (run_steps t limit z) z ≡ true
  unfolding run_steps all_accepted
  run_accepted zero z v = refl
  run_accepted (suc limit) z v =
      by_choice (λ (acts : List Act). all_accepted t acts z ≡ true) (eqb (listed_at t z 0).number 0)
      (a_step (listed_at t z 0).name ∷ run_steps t limit (did t (a_step (listed_at t z 0).name) z).state) []
      (λ e.
      let a = listed_accepts z v 0 (eqb-true (listed_at t z 0).number 0 e) in
      and_true (eqb (did t (a_step (listed_at t z 0).name) z).number 0) (all_accepted t (run_steps t limit (did t (a_step (listed_at t z 0).name) z).state) (did t (a_step (listed_at t z 0).name) z).state)
      (eq-eqb (did t (a_step (listed_at t z 0).name) z).number 0 a)
      (run_accepted limit (did t (a_step (listed_at t z 0).name) z).state (did-valid t (a_step (listed_at t z 0).name) z v)))
      (λ e. refl)

  -- one step before a run
  unfoldable one_more : RanTo → RanTo
  one_more o = record { number = 0; steps = o.steps + 1; left = o.left; state = o.state }

  ended-step : (r : Run) → ended (one_step r) ≡ one_more (ended r)
  unfolding ended one_step one_more
  ended-step r = refl

  given_step : (limit : ℕ) (z : List ℕ) (n : Name) → listed_at t z 0 ≡ record { number = 0; name = n } → ran_given t (suc limit) z ≡ one_more (ran_given t limit (did t (a_step n) z).state)
  unfolding ran_given run_steps one_more after if◌then◌or_else◌
  given_step limit z n e =
      let y : List ℕ = (did t (a_step n) z).state in
      let k : suc (length (run_steps t limit y)) ≡ length (run_steps t limit y) + 1 = omega arith in
      rw e (λ i. record { number = 0; steps = k i; left = run_left t (after t (run_steps t limit y) y); state = after t (run_steps t limit y) y })

  given_none : (limit : ℕ) (z : List ℕ) → listed_at t z 0 ≡ record { number = 6; name = blank_name } → record { number = 0; steps = 0; left = 0; state = z } ≡ ran_given t (suc limit) z
  unfolding ran_given run_steps run_left after if◌then◌or_else◌
  given_none limit z e =
      let none : run_steps t (suc limit) z ≡ [] = rw e in
      let l : 0 ≡ run_left t z = rw e in
      (λ i. record { number = 0; steps = 0; left = l i; state = z })
      ∙ ap (λ (acts : List Act). record { number = 0; steps = length acts; left = run_left t (after t acts z); state = after t acts z }) (sym none)

  -- the limit is used up
  left_is : (z : List ℕ) → Valid t z → whether (listed t (instances_of z) (queues_of z)) ≡ run_left t z
  unfolding run_left
  left_is z v = rw (listed_is z v 0) (whether_is (listed t (instances_of z) (queues_of z)))

  run_none : (z : List ℕ) → Valid t z → ended (ran t zero (instances_of z) (queues_of z)) ≡ ran_given t zero z
  unfolding ended ran ran_by ran_given run_steps after
  run_none z v =
      let a : instances_of z ++ queues_of z ≡ z = take-append-drop instances_words z in
      λ i. record { number = 0; steps = 0; left = left_is z v i; state = a i }

  -- THE RUN
  pub run_is_steps : (limit : ℕ) (z : List ℕ) → Valid t z → ended (ran t limit (instances_of z) (queues_of z)) ≡ ran_given t limit z
  unfolding ran
  run_is_steps zero z v = run_none z v
  run_is_steps (suc limit) z v = go (listed t (instances_of z) (queues_of z)) refl (λ n. run_is_steps limit (did t (a_step n) z).state (did-valid t (a_step n) z v))
    where
      go : (ns : List Name) → listed t (instances_of z) (queues_of z) ≡ ns
          → ((n : Name) → ended (ran t limit (instances_of (did t (a_step n) z).state) (queues_of (did t (a_step n) z).state)) ≡ ran_given t limit (did t (a_step n) z).state)
          → ended (ran t (suc limit) (instances_of z) (queues_of z)) ≡ ran_given t (suc limit) z
      go [] e next =
          ap ended (none_listed (listed t) (step t) limit (instances_of z) (queues_of z) e)
          ∙ ended_none (instances_of z) (queues_of z)
          ∙ ap (λ (y : List ℕ). record { number = 0; steps = 0; left = 0; state = y }) (take-append-drop instances_words z)
          ∙ given_none limit z (first_none z v e)
      go (n ∷ ns) e next =
          let f = first_some z v n ns e in
          let a : (did t (a_step n) z).number ≡ 0 = rw f at (listed_accepts z v 0 (ap (λ (y : Listed). y.number) f)) in
          ap ended (first_listed (listed t) (step t) limit (instances_of z) (queues_of z) n ns e)
          ∙ ended-step (ran t limit (step t (instances_of z) (queues_of z) n).instances (step t (instances_of z) (queues_of z) n).queues)
          ∙ ap one_more (ap₂ (λ (x y : List ℕ). ended (ran t limit x y)) (sym (left_instances z v n a)) (sym (left_queues z v n a)) ∙ next n)
          ∙ sym (given_step limit z n f)

-- as many steps again as a run took, each the first listed one, are the run's
module _ (t : List ℕ) where
  abbrev next : List ℕ → Act
  next z = a_step (listed_at t z 0).name

  going : (limit : ℕ) (z : List ℕ) → eqb (listed_at t z 0).number 0 ≡ true → run_steps t (suc limit) z ≡ next z ∷ run_steps t limit (did t (next z) z).state
  unfolding run_steps
  going limit z e = picked (eqb (listed_at t z 0).number 0) (next z ∷ run_steps t limit (did t (next z) z).state) [] e

  stuck : (limit : ℕ) (z : List ℕ) → eqb (listed_at t z 0).number 0 ≡ false → run_steps t (suc limit) z ≡ []
  unfolding run_steps
  stuck limit z e = passed (eqb (listed_at t z 0).number 0) (next z ∷ run_steps t limit (did t (next z) z).state) [] e

  pub steps_again : (limit : ℕ) (z : List ℕ) → run_steps t (length (run_steps t limit z)) z ≡ run_steps t limit z
  unfolding run_steps
  steps_again zero z = refl
  steps_again (suc limit) z =
      by_test (eqb (listed_at t z 0).number 0)
      (λ e.
      let w = going limit z e in
      let y : List ℕ = (did t (next z) z).state in
      ap (λ (acts : List Act). run_steps t (length acts) z) w
      ∙ going (length (run_steps t limit y)) z e
      ∙ ap (λ (acts : List Act). next z ∷ acts) (steps_again limit y)
      ∙ sym w)
      (λ e. let w = stuck limit z e in ap (λ (acts : List Act). run_steps t (length acts) z) w ∙ sym w)
