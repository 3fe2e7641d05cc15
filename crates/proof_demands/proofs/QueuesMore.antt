-- Two sets of queues, in the second the further messages e more: what is consumed from the first is in the second, what finds room in the first with the
-- further messages finds room in the second, and e is still what the second has more. Assumes nothing.
use Prim.Native.Nat.{ℕ, ◌+◌, ◌*◌, ◌≤◌, ◌<◌}
use mathlib.Core.Path.{◌≡◌, ◌∙◌, ap, subst}
use mathlib.Core.Bool.{true}
use mathlib.Core.List.{List, [], ◌∷◌}
use native.Mathlib.Omega.{arith}
use lib.ListN.{length, length-append}
use Rattle.base_words.specs.Sum.{one_if}
use Rattle.base_words.specs.Counts.{names, values, messages}
use Rattle.base_state.specs.Places.{queue_words}
use Rattle.meaning.specs.declared.Tuple.{Tuple}
use Rattle.meaning.specs.Messages.{has, appended, without, times}
use Rattle.meaning.specs.Queues.{messages_of, with_messages, sending, consuming, tidied, Tidy}
use Rattle.step_queues.proofs.SlotLaws.{by_order}
use Rattle.step_queues.proofs.QueueLaws.{count_is}
use Rattle.step_queues.proofs.ReadLaws.{messages_other}
use Rattle.step_queues.proofs.ChangeLaws.{messages-sending, times-sending, times-consuming}
use Rattle.state_fits.specs.Fits.{queue_fits}
use Rattle.proof_steps.proofs.QueueFits.{fits_tidy}
use Rattle.proof_demands.proofs.Counts.{has-times, times-has, times_lengths}

-- queues of a state that fits
pub record QueuesFit (q : List ℕ) : Type 0 where
  pub wide : length q ≡ queue_words * names
  pub fits : (m : ℕ) → m < names → queue_fits q m ≡ true

module _ (q : List ℕ) (f : QueuesFit q) (m : ℕ) (name : m < names) where
  pub queue_tidy : Tidy q m
  queue_tidy = fits_tidy q m (f.fits m name)

  -- one message more
  pub length-sending : (g : Tuple) → length (messages_of q m) < messages → length (messages_of (sending q m g) m) ≡ length (messages_of q m) + 1
  length-sending g room =
      ap (λ (l : List Tuple). length l) (messages-sending q m f.wide name queue_tidy g (omega (arith, count_is q m)))
      ∙ length-append (messages_of q m) (tidied g ∷ [])

module _ (e : ℕ → List Tuple) where
  -- in each queue exactly the further messages more
  abbrev pub Holds : List ℕ → List ℕ → ℕ → Type 0
  Holds q₁ q₂ m = (g : Tuple) → times g (messages_of q₂ m) ≡ times g (messages_of q₁ m) + times g (e m)

  abbrev pub More : List ℕ → List ℕ → Type 0
  More q₁ q₂ = (m : ℕ) → m < names → Holds q₁ q₂ m

  module _ (q₁ q₂ : List ℕ) (f₁ : QueuesFit q₁) (f₂ : QueuesFit q₂) (more : More q₁ q₂) where
    pub lengths : (m : ℕ) → m < names → length (messages_of q₂ m) ≡ length (messages_of q₁ m) + length (e m)
    lengths m l = times_lengths (messages_of q₂ m) (messages_of q₁ m) (e m) (more m l)

    -- one queue written in both
    written : (m : ℕ) (a b : List Tuple) → Holds (with_messages q₁ m a) (with_messages q₂ m b) m → More (with_messages q₁ m a) (with_messages q₂ m b)
    written m a b h o l = by_order o m (λ r. other (λ e. omega arith)) (λ r. subst (Holds (with_messages q₁ m a) (with_messages q₂ m b)) r h) (λ r. other (λ e. omega arith))
      where
        other : (o ≡ m → ⊥) → Holds (with_messages q₁ m a) (with_messages q₂ m b) o
        other d g =
            rw (messages_other q₁ m a o d (queue_tidy q₁ f₁ o l).room, messages_other q₂ m b o d (queue_tidy q₂ f₂ o l).room)
            (more o l g)

    module _ (m : ℕ) (name : m < names) (g : Tuple) where
      -- CONSUMED
      module _ (there : has g (messages_of q₁ m) ≡ true) where
        pub there_too : has g (messages_of q₂ m) ≡ true
        there_too = times-has g (messages_of q₂ m) (omega (arith, has-times g (messages_of q₁ m) there, more m name g))

        pub consumed_more : More (consuming q₁ m g) (consuming q₂ m g)
        consumed_more =
            written m (without g (messages_of q₁ m)) (without g (messages_of q₂ m))
            (λ v.
            omega (
              arith,
              more m name v,
              times-consuming q₁ m f₁.wide name (queue_tidy q₁ f₁ m name) g v there,
              times-consuming q₂ m f₂.wide name (queue_tidy q₂ f₂ m name) g v there_too,
            ))

      -- SENT
      module _ (short : g.length ≤ values) (room : length (messages_of q₁ m) < messages) (within : length (messages_of (sending q₁ m g) m) + length (e m) ≤ messages) where
        pub room_too : length (messages_of q₂ m) < messages
        room_too = omega (arith, lengths m name, length-sending q₁ f₁ m name g room)

        pub sent_more : More (sending q₁ m g) (sending q₂ m g)
        sent_more =
            written m (appended (messages_of q₁ m) g) (appended (messages_of q₂ m) g)
            (λ v.
            omega (
              arith,
              more m name v,
              times-sending q₁ m f₁.wide name (queue_tidy q₁ f₁ m name) g (omega (arith, count_is q₁ m)) v short,
              times-sending q₂ m f₂.wide name (queue_tidy q₂ f₂ m name) g (omega (arith, count_is q₂ m, room_too)) v short,
            ))
