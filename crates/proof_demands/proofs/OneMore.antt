-- One call from two states, in the second the further messages e more: accepted from the first and with room for e after it, it is accepted from the
-- second, and e is still what the second has more. Assumes nothing.
use Prim.Native.Nat.{ℕ, ◌+◌, ◌≤◌, ◌<◌}
use mathlib.Core.Path.{◌≡◌, sym, ◌∙◌, ap, subst}
use mathlib.Core.Bool.{true}
use mathlib.Core.List.{List}
use lib.Dec.{leb}
use lib.ListN.{length}
use borrow.Author.Tests.{leb-true}
use Rattle.base_words.specs.Counts.{names, messages}
use Rattle.base_words.proofs.AllLaws.{all_at}
use Rattle.base_state.specs.Instances.{instances_of, queues_of}
use Rattle.meaning.specs.declared.Name.{Name}
use Rattle.meaning.specs.declared.Tuple.{Tuple}
use Rattle.meaning.specs.Queues.{messages_of, sending}
use Rattle.meaning.specs.Refusals.{first_refusal}
use Rattle.meaning.specs.Post.{post_refusals}
use Rattle.meaning.specs.Step.{site_of, refusals, instances_after, queues_after}
use Rattle.engine.proofs.CallLaws.{table_fits_lem}
use Rattle.engine.specs.Calls.{Act, a_step, a_post, did, Valid}
use Rattle.proof_demands.specs.Demands.{Further, room_for_more}
use Rattle.proof_demands.proofs.StepMore.{step_accepted_too, step_more, post_accepted_too, post_more}
use Rattle.proof_demands.proofs.StatesLeft.{queues_fit, step_number, post_number, step_instances, step_queues, post_instances, post_queues}

module _ (t : List ℕ) (e : ℕ → List Tuple) where
  room_at : (z : List ℕ) → room_for_more e z ≡ true → (m : ℕ) → m < names → length (messages_of (queues_of z) m) + length (e m) ≤ messages
  unfolding room_for_more
  room_at z h m l =
      leb-true (length (messages_of (queues_of z) m) + length (e m)) messages
      (all_at (λ m. leb (length (messages_of (queues_of z) m) + length (e m)) messages) names h m l)

  module _ (z₁ z₂ : List ℕ) (v₁ : Valid t z₁) (v₂ : Valid t z₂) (further : Further e z₁ z₂) where
    abbrev s : List ℕ
    s = instances_of z₁

    abbrev q₁ : List ℕ
    q₁ = queues_of z₁

    abbrev q₂ : List ℕ
    q₂ = queues_of z₂

    -- ONE STEP
    module _ (n : Name) (accepted : (did t (a_step n) z₁).number ≡ 0) (room : room_for_more e (did t (a_step n) z₁).state ≡ true) where
      within : (m : ℕ) → m < names → length (messages_of (queues_after (site_of t s n) q₁) m) + length (e m) ≤ messages
      within m l = subst (λ (q : List ℕ). length (messages_of q m) + length (e m) ≤ messages) (step_queues t z₁ v₁ n accepted) (room_at (did t (a_step n) z₁).state room m l)

      first : first_refusal (refusals t s q₁ n) ≡ 0
      first = sym (step_number t z₁ v₁ n) ∙ accepted

      step_too : (did t (a_step n) z₂).number ≡ 0
      step_too =
          step_number t z₂ v₂ n
          ∙ ap (λ (y : List ℕ). first_refusal (refusals t y q₂ n)) (sym further.alike)
          ∙ step_accepted_too e q₁ q₂ (queues_fit t z₁ v₁) (queues_fit t z₂ v₂) further.more t s n (table_fits_lem t z₁ v₁.fits) first within

      step_further : Further e (did t (a_step n) z₁).state (did t (a_step n) z₂).state
      step_further = record {
        alike = step_instances t z₁ v₁ n accepted ∙ ap (λ (y : List ℕ). instances_after t y n) further.alike ∙ sym (step_instances t z₂ v₂ n step_too);
        more =
            rw (step_queues t z₁ v₁ n accepted, step_queues t z₂ v₂ n step_too, ← further.alike)
            (step_more e q₁ q₂ (queues_fit t z₁ v₁) (queues_fit t z₂ v₂) further.more t s n (table_fits_lem t z₁ v₁.fits) first within);
      }

    -- ONE POST
    module _ (name : ℕ) (g : Tuple) (accepted : (did t (a_post name g) z₁).number ≡ 0) (room : room_for_more e (did t (a_post name g) z₁).state ≡ true) where
      posted_within : (m : ℕ) → m < names → length (messages_of (sending q₁ name g) m) + length (e m) ≤ messages
      posted_within m l = subst (λ (q : List ℕ). length (messages_of q m) + length (e m) ≤ messages) (post_queues t z₁ v₁ name g accepted) (room_at (did t (a_post name g) z₁).state room m l)

      posted_first : first_refusal (post_refusals q₁ name g) ≡ 0
      posted_first = sym (post_number t z₁ v₁ name g) ∙ accepted

      post_too : (did t (a_post name g) z₂).number ≡ 0
      post_too = post_number t z₂ v₂ name g ∙ post_accepted_too e q₁ q₂ (queues_fit t z₁ v₁) (queues_fit t z₂ v₂) further.more name g posted_first posted_within

      post_further : Further e (did t (a_post name g) z₁).state (did t (a_post name g) z₂).state
      post_further = record {
        alike = post_instances t z₁ v₁ name g accepted ∙ further.alike ∙ sym (post_instances t z₂ v₂ name g post_too);
        more =
            rw (post_queues t z₁ v₁ name g accepted, post_queues t z₂ v₂ name g post_too)
            (post_more e q₁ q₂ (queues_fit t z₁ v₁) (queues_fit t z₂ v₂) further.more name g posted_first posted_within);
      }

    -- ONE ACT
    pub one_more_lem : (a : Act) → (did t a z₁).number ≡ 0 → room_for_more e (did t a z₁).state ≡ true → ((did t a z₂).number ≡ 0) × Further e (did t a z₁).state (did t a z₂).state
    one_more_lem (a_step n) h r = (step_too n h r, step_further n h r)
    one_more_lem (a_post name g) h r = (post_too name g h r, post_further name g h r)
