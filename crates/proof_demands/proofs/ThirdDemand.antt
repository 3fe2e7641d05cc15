-- DEMAND 3: "More messages take nothing away. Take two valid states of one model, alike but for further messages in the second's queues, and named
-- steps and posts all accepted in turn from the first. If no queue of the first run, with the further messages added, ever passes 64, all are accepted
-- from the second too, and it ends with equal instances and in each queue exactly the further messages more, equal ones counted singly."
-- Assumes nothing.
use Prim.Native.Nat.{ℕ}
use mathlib.Core.Path.{◌≡◌, refl, sym, ◌∙◌, ap}
use mathlib.Core.Bool.{true, ◌&&◌, false≢true}
use mathlib.Core.List.{List, [], ◌∷◌}
use lib.Dec.{eqb}
use borrow.Author.Tests.{eqb-true, eq-eqb}
use Rattle.base_words.specs.Each.{each}
use Rattle.base_words.proofs.AllLaws.{and_left, and_right}
use Rattle.base_words.proofs.PickLaws.{and_true}
use Rattle.proof_steps.proofs.Choices.{by_test}
use Rattle.base_state.specs.Instances.{instances_of}
use Rattle.meaning.specs.declared.Tuple.{Tuple}
use Rattle.state_figures.specs.Figures.{counted}
use Rattle.engine.specs.Calls.{Act, did, numbers, all_accepted, after, Valid}
use Rattle.proof_demands.specs.Demands.{Further, room_for_more, never_passes, Agrees, AllAllowed}
use Rattle.engine.proofs.KeepsValid.{did-valid}
use Rattle.proof_demands.proofs.OneMore.{one_more_lem}
use Rattle.proof_demands.proofs.Firmness.{all_allowed_is}

module _ (t : List ℕ) (e : ℕ → List Tuple) where
  -- whatever else is asked
  room_now : (acts : List Act) (z : List ℕ) → never_passes t e acts z ≡ true → room_for_more e z ≡ true
  unfolding never_passes
  room_now [] z h = h
  room_now (a ∷ rest) z h = by_test (room_for_more e z) (λ r. r) (λ r. absurd (false≢true (rw r at h)))

  -- MORE MESSAGES TAKE NOTHING AWAY
  pub more_messages : (acts : List Act) (z₁ z₂ : List ℕ)
      → Valid t z₁
      → Valid t z₂
      → Further e z₁ z₂
      → all_accepted t acts z₁ ≡ true
      → never_passes t e acts z₁ ≡ true
      → (all_accepted t acts z₂ ≡ true) × Further e (after t acts z₁) (after t acts z₂)
  unfolding all_accepted after never_passes
  more_messages [] z₁ z₂ v₁ v₂ f h r = (refl, f)
  more_messages (a ∷ rest) z₁ z₂ v₁ v₂ f h r =
      let k : (did t a z₁).number ≡ 0 = eqb-true (did t a z₁).number 0 (and_left (eqb (did t a z₁).number 0) (all_accepted t rest (did t a z₁).state) h) in
      let never : never_passes t e rest (did t a z₁).state ≡ true = and_right (room_for_more e z₁) (never_passes t e rest (did t a z₁).state) r in
      let o = one_more_lem t e z₁ z₂ v₁ v₂ f a k (room_now rest (did t a z₁).state never) in
      let w =
      more_messages rest (did t a z₁).state (did t a z₂).state (did-valid t a z₁ v₁) (did-valid t a z₂ v₂) o.1
      (and_right (eqb (did t a z₁).number 0) (all_accepted t rest (did t a z₁).state) h) never in
      (and_true (eqb (did t a z₂).number 0) (all_accepted t rest (did t a z₂).state) (eq-eqb (did t a z₂).number 0 o.0) w.0, w.1)

  -- THE SAME OF THE CALLS: ks the numbers that their promises allow them to return, y the state and ys the records that they leave; "in the third demand each run's records agree with its state at the start, and both runs end with equal records"
  accepted_zero : (acts : List Act) (z : List ℕ) → all_accepted t acts z ≡ each (λ (k : ℕ). eqb k 0) (numbers t acts z)
  unfolding all_accepted numbers each
  accepted_zero [] z = refl
  accepted_zero (a ∷ rest) z = ap (λ b. eqb (did t a z).number 0 && b) (accepted_zero rest (did t a z).state)

  pub more_messages_called : (acts : List Act) (z₁ z₂ : List ℕ) (rs₁ rs₂ : List (List ℕ)) (ks₁ ks₂ y₁ y₂ : List ℕ) (ys₁ ys₂ : List (List ℕ))
      → Valid t z₁
      → Valid t z₂
      → Further e z₁ z₂
      → rs₁ ≡ counted t (instances_of z₁)
      → rs₂ ≡ counted t (instances_of z₂)
      → AllAllowed t acts z₁ rs₁ ks₁ y₁ ys₁
      → AllAllowed t acts z₂ rs₂ ks₂ y₂ ys₂
      → each (λ (k : ℕ). eqb k 0) ks₁ ≡ true
      → never_passes t e acts z₁ ≡ true
      → (each (λ (k : ℕ). eqb k 0) ks₂ ≡ true) × Further e y₁ y₂ × (ys₁ ≡ ys₂)
  more_messages_called acts z₁ z₂ rs₁ rs₂ ks₁ ks₂ y₁ y₂ ys₁ ys₂ v₁ v₂ f a₁ a₂ c₁ c₂ h r =
      let w₁ = all_allowed_is t acts z₁ rs₁ (record { long = v₁.long; same = a₁ }) ks₁ y₁ ys₁ c₁ in
      let w₂ = all_allowed_is t acts z₂ rs₂ (record { long = v₂.long; same = a₂ }) ks₂ y₂ ys₂ c₂ in
      let d = more_messages acts z₁ z₂ v₁ v₂ f (accepted_zero acts z₁ ∙ ap (λ (ks : List ℕ). each (λ (k : ℕ). eqb k 0) ks) (sym w₁.0) ∙ h) r in
      let more : Further e y₁ y₂ = rw (w₁.1, w₂.1) d.1 in (
        rw (w₂.0, ← accepted_zero acts z₂) d.0,
        more,
        w₁.2.same ∙ ap (counted t) more.alike ∙ sym w₂.2.same,
      )
