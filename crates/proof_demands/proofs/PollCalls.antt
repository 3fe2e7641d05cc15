-- A WHOLE POLL, OVER THE PUBLIC CALL: z is the state and rs are the records lent to it, w the words of its items and count their number; r is what it returns, y the state and ys the records that it leaves, by its
-- promise. Assumes nothing.
use Prim.Native.Nat.{ℕ, ◌≤◌, ◌<◌}
use mathlib.Core.Path.{◌≡◌, refl, sym, ◌∙◌, ap, subst}
use mathlib.Core.Bool.{true}
use mathlib.Core.List.{List}
use native.Mathlib.Omega.{arith}
use borrow.Author.Tests.{eqb-true, eqb-false, ltb-true, ltb-false}
use lib.Dec.{eqb, ltb}
use lib.ListN.{length, take}
use Rattle.base_state.specs.Instances.{instances_of}
use Rattle.meaning.specs.declared.Tuple.{Tuple}
use Rattle.state_figures.specs.Figures.{counted}
use Rattle.step_poll.specs.declared.Polled.{Polled}
use Rattle.step_poll.specs.Items.{items_most, acts_in}
use Rattle.step_poll.specs.Poll.{Polling, polled_by}
use Rattle.proof_steps.proofs.Choices.{by_test, chosen, passed}
use Rattle.engine.specs.Calls.{Act, did, all_accepted, after, Valid}
use Rattle.engine.specs.Desk.{records_number, poll_number}
use Rattle.proof_demands.specs.Promises.{Polls}
use Rattle.proof_demands.specs.Demands.{Further, never_passes, Agrees}
use Rattle.proof_demands.proofs.AtDesk.{number_fits, poll_taken, poll_refused_lent, poll_agrees}
use Rattle.proof_demands.proofs.ThirdDemand.{more_messages}
use Rattle.proof_demands.proofs.Polls.{poll_is}
use Rattle.proof_demands.proofs.PollSteps.{state_after, accepted_part, whole_poll, as_far, no_further, zero_whole, whole_zero, acts_length, first_items}

module _ (t z : List ℕ) (rs : List (List ℕ)) (w : List ℕ) (count : ℕ) (r : Polled) (y : List ℕ) (ys : List (List ℕ)) (promise : Polls t z rs w count r y ys) where
  abbrev acts : List Act
  acts = acts_in w count

  abbrev out : Polling
  out = record { number = r.number; accepted = r.accepted; state = y }

  -- what was lent is right, and the items are taken one by one
  one_by_one : poll_number t z rs count ≡ 0 → (count ≤ items_most) × (out ≡ polled_by (did t) acts z)
  unfolding poll_number
  one_by_one h =
      let few : count ≤ items_most = by_test (ltb items_most count) (λ e. absurd (omega (arith, sym h ∙ chosen (ltb items_most count) 22 (records_number t z rs) e))) (λ e. ltb-false items_most count e) in
      let right : records_number t z rs ≡ 0 = by_test (ltb items_most count) (λ e. absurd (omega (arith, few, ltb-true items_most count e))) (λ e. sym (passed (ltb items_most count) 22 (records_number t z rs) e) ∙ h) in
      (few, (poll_taken t z rs w count r y ys promise h).0 ∙ poll_is t z w count few (number_fits t z rs right))

  -- or it is not, and nothing is done
  by_poll : (P : Polling → Type 0) → ((k : ℕ) → (k ≡ 0 → ⊥) → P (record { number = k; accepted = 0; state = z })) → (count ≤ items_most → P (polled_by (did t) acts z)) → P out
  by_poll P bad right =
      by_test (eqb (poll_number t z rs count) 0)
      (λ e. let o = one_by_one (eqb-true (poll_number t z rs count) 0 e) in subst P (sym o.1) (right o.0))
      (λ e.
      let n : poll_number t z rs count ≡ 0 → ⊥ = eqb-false (poll_number t z rs count) 0 e in
      let p = poll_refused_lent t z rs w count r y ys promise n in
      let same : out ≡ record { number = poll_number t z rs count; accepted = 0; state = z } = λ i. record { number = p.0 i; accepted = p.1 i; state = p.2 i } in
      subst P (sym same) (bad (poll_number t z rs count) n))

  -- NO MORE ARE ACCEPTED THAN THERE ARE
  pub poll_at_most : r.accepted ≤ count
  poll_at_most = by_poll (λ p. p.accepted ≤ count) (λ k n. omega arith) (λ few. subst (λ n. (polled_by (did t) acts z).accepted ≤ n) (acts_length count w) (no_further t acts z))

  -- THE NUMBER IS 0 EXACTLY WHERE ALL WERE ACCEPTED; of a poll of no items, where what was lent is right
  pub poll_zero_all : r.number ≡ 0 → r.accepted ≡ count
  poll_zero_all = by_poll (λ p. p.number ≡ 0 → p.accepted ≡ count) (λ k n e. absurd (n e)) (λ few e. zero_whole t acts z e ∙ acts_length count w)

  pub poll_all_zero : 0 < count → r.accepted ≡ count → r.number ≡ 0
  poll_all_zero some =
      by_poll (λ p. p.accepted ≡ count → p.number ≡ 0) (λ k n e. absurd (omega (arith, e))) (λ few e. whole_zero t acts z (e ∙ sym (acts_length count w)))

  pub poll_right_zero : poll_number t z rs count ≡ 0 → r.accepted ≡ count → r.number ≡ 0
  poll_right_zero h e =
      let o = (one_by_one h).1 in
      ap (λ (p : Polling). p.number) o ∙ whole_zero t acts z (sym (ap (λ (p : Polling). p.accepted) o) ∙ e ∙ sym (acts_length count w))

  -- the accepted items, one by one
  pub poll_accepts : all_accepted t (take r.accepted acts) z ≡ true
  unfolding all_accepted
  poll_accepts = by_poll (λ p. all_accepted t (take p.accepted acts) z ≡ true) (λ k n. refl) (λ few. accepted_part t acts z)

  pub poll_leaves : y ≡ after t (take r.accepted acts) z
  unfolding after
  poll_leaves = by_poll (λ p. p.state ≡ after t (take p.accepted acts) z) (λ k n. refl) (λ few. state_after t acts z)

  pub poll_few : r.accepted ≤ items_most
  poll_few = by_poll (λ p. p.accepted ≤ items_most) (λ k n. omega arith) (λ few. omega (arith, few, no_further t acts z, acts_length count w))

-- DEMAND 3: "more messages take nothing away", of two polls of the same items, the second lent a state with the further messages e more
module _ (t : List ℕ) (e : ℕ → List Tuple) (z₁ z₂ : List ℕ) (v₁ : Valid t z₁) (v₂ : Valid t z₂) (f : Further e z₁ z₂) (rs₁ rs₂ : List (List ℕ)) (a₁ : rs₁ ≡ counted t (instances_of z₁)) (a₂ : rs₂ ≡ counted t (instances_of z₂)) (w : List ℕ) (count : ℕ) (r₁ : Polled) (y₁ : List ℕ) (ys₁ : List (List ℕ)) (p₁ : Polls t z₁ rs₁ w count r₁ y₁ ys₁) (never : never_passes t e (take r₁.accepted (acts_in w count)) z₁ ≡ true) where
  abbrev first : List Act
  first = take r₁.accepted (acts_in w count)

  more : (all_accepted t first z₂ ≡ true) × Further e (after t first z₁) (after t first z₂)
  more = more_messages t e first z₁ z₂ v₁ v₂ f (poll_accepts t z₁ rs₁ w count r₁ y₁ ys₁ p₁) never

  agrees₁ : Agrees t y₁ ys₁
  agrees₁ = (poll_agrees t z₁ rs₁ (record { long = v₁.long; same = a₁ }) w count r₁ y₁ ys₁ p₁).1

  -- what the first accepted the second accepts, polled alone
  pub poll_part_more : (r₂ : Polled) (y₂ : List ℕ) (ys₂ : List (List ℕ)) → Polls t z₂ rs₂ w r₁.accepted r₂ y₂ ys₂
      → (r₂.number ≡ 0) × (r₂.accepted ≡ r₁.accepted) × Further e y₁ y₂ × (ys₁ ≡ ys₂)
  poll_part_more r₂ y₂ ys₂ p₂ =
      let o = poll_agrees t z₂ rs₂ (record { long = v₂.long; same = a₂ }) w r₁.accepted r₂ y₂ ys₂ p₂ in
      let items : first ≡ acts_in w r₁.accepted = first_items r₁.accepted count w (poll_at_most t z₁ rs₁ w count r₁ y₁ ys₁ p₁) in
      let is : ◌≡◌ {A = Polling} (record { number = r₂.number; accepted = r₂.accepted; state = y₂ }) (record { number = 0; accepted = length first; state = after t first z₂ })
      = o.0 ∙ poll_is t z₂ w r₁.accepted (poll_few t z₁ rs₁ w count r₁ y₁ ys₁ p₁) v₂.fits ∙ ap (λ (xs : List Act). polled_by (did t) xs z₂) (sym items) ∙ whole_poll t first z₂ more.0 in
      let further : Further e y₁ y₂ = rw (poll_leaves t z₁ rs₁ w count r₁ y₁ ys₁ p₁, ap (λ (p : Polling). p.state) is) more.1 in (
        ap (λ (p : Polling). p.number) is,
        ap (λ (p : Polling). p.accepted) is ∙ ap (λ (xs : List Act). length xs) items ∙ acts_length r₁.accepted w,
        further,
        agrees₁.same ∙ ap (counted t) further.alike ∙ sym o.1.same,
      )

  -- where the first accepted all, so does the second
  pub poll_whole_more : r₁.number ≡ 0 → (r₂ : Polled) (y₂ : List ℕ) (ys₂ : List (List ℕ)) → Polls t z₂ rs₂ w count r₂ y₂ ys₂
      → (r₂.number ≡ 0) × (r₂.accepted ≡ count) × Further e y₁ y₂ × (ys₁ ≡ ys₂)
  poll_whole_more h r₂ y₂ ys₂ p₂ =
      let k : r₁.accepted ≡ count = poll_zero_all t z₁ rs₁ w count r₁ y₁ ys₁ p₁ h in
      let o = poll_part_more r₂ y₂ ys₂ (subst (λ n. Polls t z₂ rs₂ w n r₂ y₂ ys₂) (sym k) p₂) in
      (o.0, o.1 ∙ k, o.2, o.3)

  -- and it never accepts fewer
  pub poll_no_fewer : (r₂ : Polled) (y₂ : List ℕ) (ys₂ : List (List ℕ)) → Polls t z₂ rs₂ w count r₂ y₂ ys₂ → r₁.accepted ≤ r₂.accepted
  poll_no_fewer r₂ y₂ ys₂ p₂ =
      by_poll t z₁ rs₁ w count r₁ y₁ ys₁ p₁ (λ p. p.accepted ≡ r₁.accepted → r₁.accepted ≤ r₂.accepted) (λ k n h. omega (arith, h))
      (λ few h.
      let o = (poll_agrees t z₂ rs₂ (record { long = v₂.long; same = a₂ }) w count r₂ y₂ ys₂ p₂).0 ∙ poll_is t z₂ w count few v₂.fits in
      subst (λ (p : Polling). r₁.accepted ≤ p.accepted) (sym o)
      (as_far t (acts_in w count) z₂ r₁.accepted (omega (arith, acts_length count w, poll_at_most t z₁ rs₁ w count r₁ y₁ ys₁ p₁)) more.0))
      refl
