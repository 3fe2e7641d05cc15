-- A WHOLE POLL: w are the words lent, count the number of items, r is what the call returns and y the state that it leaves, as its promise has them.
-- Assumes nothing.
use Prim.Native.Nat.{ℕ, ◌+◌, ◌*◌, ◌≤◌, ◌<◌}
use mathlib.Core.Path.{◌≡◌, refl, sym, ◌∙◌, ap}
use mathlib.Core.Bool.{true, false}
use mathlib.Core.List.{List, [], ◌∷◌}
use native.Mathlib.Omega.{arith}
use lib.Dec.{eqb, ltb}
use lib.ListN.{length, take, drop}
use Rattle.base_words.specs.Each.{each}
use Rattle.base_words.specs.Pick.{if◌then◌or_else◌}
use Rattle.base_words.specs.Words.{at}
use Rattle.proof_steps.proofs.Choices.{by_choice, chosen}
use Rattle.base_state.specs.Instances.{instances_of, queues_of}
use Rattle.meaning.specs.declared.Tuple.{Tuple}
use Rattle.meaning.specs.Refusals.{first_refusal}
use Rattle.meaning.specs.Post.{post_refusals}
use Rattle.meaning.specs.Step.{refusals_at, refusals}
use Rattle.step_poll.specs.declared.Polled.{Polled}
use Rattle.step_poll.specs.Items.{item_words, items_most, acts_in}
use Rattle.step_poll.specs.Poll.{Polling, one_before, polled_by, polled_from}
use Rattle.step_poll.proofs.PollLaws.{too_many_lem, not_right, all_right_lem}
use Rattle.engine.specs.Engine.{fitting, lent_number}
use Rattle.engine.proofs.CallLaws.{by_lent, lent_zero}
use Rattle.engine.specs.Calls.{Act, a_step, a_post, did, numbers, all_accepted, after, Valid, polled_to}
use Rattle.proof_valid.proofs.NumberGiven.{stepped_number, posted_number}
use Rattle.proof_demands.specs.Promises.{PollsOn}
use Rattle.proof_demands.specs.Polls.{until_refused, then_poll, poll_numbers}
use Rattle.proof_demands.specs.Demands.{is_one_of, all_permitted, numbers_given, given_after, Further, never_passes, Agrees, AllAllowed}
use Rattle.proof_demands.proofs.Numbers.{first_among, unfit_number}
use Rattle.proof_demands.proofs.Firmness.{all_allowed_is}
use Rattle.proof_demands.proofs.SecondDemand.{steps_exactly, numbers_exactly, after_exactly}
use Rattle.proof_demands.proofs.ThirdDemand.{more_messages}
use Rattle.proof_demands.proofs.PollSteps.{by_first, accepted_count, number_at, state_after, accepted_part, whole_poll, poll_valid, two_polls, two_lists}

module _ (t z w : List ℕ) (count : ℕ) where
  -- "22 more than 64 items, checked first, nothing done; then 10, with no items too", then 25
  pub poll_many : items_most < count → polled_to t z w count ≡ record { number = 22; accepted = 0; state = z }
  unfolding polled_to
  poll_many h = sym (too_many_lem (did t) (lent_number t z) w count z h)

  pub poll_bad : count ≤ items_most → fitting t z ≡ false → polled_to t z w count ≡ record { number = lent_number t z; accepted = 0; state = z }
  unfolding polled_to
  poll_bad few h = sym (not_right (did t) (lent_number t z) w count z few (unfit_number t z h))

  -- else the items, one by one
  pub poll_is : count ≤ items_most → fitting t z ≡ true → polled_to t z w count ≡ polled_by (did t) (acts_in w count) z
  unfolding polled_to
  poll_is few h = sym (all_right_lem (did t) (lent_number t z) w count z few (lent_zero t z h))

-- WHICH NUMBERS CAN COME
abbrev Known : ℕ → Type 0
Known k = is_one_of poll_numbers k ≡ true

act_known : (t : List ℕ) (a : Act) (z : List ℕ) → Known (did t a z).number
unfolding did is_one_of refusals refusals_at post_refusals each if◌then◌or_else◌
act_known t (a_step n) z =
    rw (stepped_number t z n)
    (by_choice Known (fitting t z) (first_refusal (refusals t (instances_of z) (queues_of z) n)) (lent_number t z)
    (λ e. first_among (is_one_of poll_numbers) (refusals t (instances_of z) (queues_of z) n) refl refl)
    (λ e. by_lent Known t z refl refl refl))
act_known t (a_post name g) z =
    rw (posted_number t z name g)
    (by_choice Known (fitting t z) (first_refusal (post_refusals (queues_of z) name g)) (lent_number t z)
    (λ e. first_among (is_one_of poll_numbers) (post_refusals (queues_of z) name g) refl refl)
    (λ e. by_lent Known t z refl refl refl))

polled_known : (t : List ℕ) (acts : List Act) (z : List ℕ) → Known (polled_by (did t) acts z).number
unfolding polled_by one_before is_one_of if◌then◌or_else◌
polled_known t [] z = refl
polled_known t (a ∷ rest) z =
    by_first t (λ (p : Polling). Known p.number) a rest z (λ e. polled_known t rest (did t a z).state) (λ e. act_known t a z)

pub poll_numbers_lem : (t z w : List ℕ) (count : ℕ) → is_one_of poll_numbers (polled_to t z w count).number ≡ true
unfolding polled_to polled_from is_one_of if◌then◌or_else◌
poll_numbers_lem t z w count =
    by_choice (λ (p : Polling). Known p.number) (ltb items_most count) (record { number = 22; accepted = 0; state = z }) _ (λ b. refl)
    (λ b.
    by_choice (λ (p : Polling). Known p.number) (eqb (lent_number t z) 0) (polled_by (did t) (acts_in w count) z)
    (record { number = lent_number t z; accepted = 0; state = z })
    (λ b. polled_known t (acts_in w count) z)
    (λ b. by_lent Known t z refl refl refl))

-- A POLL EQUALS THE CALLS ONE BY ONE
module _ (t z w : List ℕ) (count : ℕ) (few : count ≤ items_most) (fits : fitting t z ≡ true) (r : Polled) (y : List ℕ) (promise : PollsOn t z w count r y) where
  abbrev acts : List Act
  acts = acts_in w count

  is : ◌≡◌ {A = Polling} (record { number = r.number; accepted = r.accepted; state = y }) (polled_by (did t) (acts_in w count) z)
  is = promise ∙ poll_is t z w count few fits

  pub poll_accepted : r.accepted ≡ until_refused (numbers t acts z)
  poll_accepted = ap (λ (p : Polling). p.accepted) is ∙ accepted_count t acts z

  pub poll_number : r.number ≡ at (numbers t acts z) r.accepted
  poll_number =
      ap (λ (p : Polling). p.number) is
      ∙ number_at t acts z
      ∙ ap (λ (p : Polling). at (numbers t acts z) p.accepted) (sym is)

  pub poll_state : y ≡ after t (take r.accepted acts) z
  poll_state =
      ap (λ (p : Polling). p.state) is
      ∙ state_after t acts z
      ∙ ap (λ (p : Polling). after t (take p.accepted acts) z) (sym is)

  pub poll_part : all_accepted t (take r.accepted acts) z ≡ true
  poll_part = ap (λ (p : Polling). all_accepted t (take p.accepted acts) z) is ∙ accepted_part t acts z

  -- ks are the numbers that the promises of the single calls allow them to return, with records that agree; the accepted ones leave the poll's state
  pub poll_called : (rs : List (List ℕ)) → Agrees t z rs → (ks x : List ℕ) (xs : List (List ℕ)) → AllAllowed t acts z rs ks x xs → (r.accepted ≡ until_refused ks) × (r.number ≡ at ks r.accepted)
  poll_called rs a ks x xs c =
      let e = (all_allowed_is t acts z rs a ks x xs c).0 in
      (poll_accepted ∙ ap until_refused (sym e), poll_number ∙ ap (λ (ks : List ℕ). at ks r.accepted) (sym e))

  pub poll_left : (rs : List (List ℕ)) → Agrees t z rs → (ks x : List ℕ) (xs : List (List ℕ)) → AllAllowed t (take r.accepted acts) z rs ks x xs → y ≡ x
  poll_left rs a ks x xs c = poll_state ∙ sym (all_allowed_is t (take r.accepted acts) z rs a ks x xs c).1

  -- DEMAND 2 for the accepted part, and the numbers of all as the rules give them
  pub poll_permitted : (all_permitted t (take r.accepted acts) z ≡ true) × (y ≡ given_after t (take r.accepted acts) z)
  poll_permitted = (
    sym (steps_exactly t (take r.accepted acts) z) ∙ poll_part,
    poll_state ∙ after_exactly t (take r.accepted acts) z,
  )

  pub poll_given : (r.accepted ≡ until_refused (numbers_given t acts z)) × (r.number ≡ at (numbers_given t acts z) r.accepted)
  poll_given =
      let e = numbers_exactly t acts z in
      (poll_accepted ∙ ap until_refused e, poll_number ∙ ap (λ (ks : List ℕ). at ks r.accepted) e)

  -- DEMAND 3 for the accepted part: from a state with further messages a poll of it takes it whole
  pub poll_more : (e : ℕ → List Tuple) (z₂ : List ℕ) → Valid t z → Valid t z₂ → Further e z z₂ → never_passes t e (take r.accepted acts) z ≡ true
      → (polled_by (did t) (take r.accepted acts) z₂ ≡ record { number = 0; accepted = length (take r.accepted acts); state = after t (take r.accepted acts) z₂ })
      × Further e y (after t (take r.accepted acts) z₂)
  poll_more e z₂ v₁ v₂ f n =
      let d = more_messages t e (take r.accepted acts) z z₂ v₁ v₂ f poll_part n in
      (whole_poll t (take r.accepted acts) z₂ d.0, rw poll_state d.1)

-- A POLL OF XS AND YS is the poll of xs and then, if all of xs were accepted, that of ys, which may stand in a block v of their own
pub poll_both : (t z w v : List ℕ) (n m : ℕ) → Valid t z → n + m ≤ items_most → acts_in v m ≡ acts_in (drop (item_words * n) w) m
    → polled_to t z w (n + m) ≡ then_poll (polled_to t z w n) (polled_to t (polled_to t z w n).state v m)
poll_both t z w v n m s few same =
    let first : polled_to t z w n ≡ polled_by (did t) (acts_in w n) z = poll_is t z w n (omega (arith, few)) s.fits in
    let later : Valid t (polled_by (did t) (acts_in w n) z).state = poll_valid t (acts_in w n) z s in
    poll_is t z w (n + m) few s.fits
    ∙ ap (λ (acts : List Act). polled_by (did t) acts z) (two_lists n m w)
    ∙ two_polls (did t) (acts_in (drop (item_words * n) w) m) (acts_in w n) z
    ∙ rw (first, poll_is t (polled_by (did t) (acts_in w n) z).state v m (omega (arith, few)) later.fits, same) refl
