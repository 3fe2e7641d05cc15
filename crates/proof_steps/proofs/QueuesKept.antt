-- Sending and consuming keep every queue fit. Assumes nothing.
use Prim.Native.Nat.{ℕ, ◌*◌, ◌≤◌, ◌<◌}
use mathlib.Core.Path.{◌≡◌, sym, subst}
use mathlib.Core.Bool.{true}
use mathlib.Core.List.{List}
use native.Mathlib.Omega.{arith}
use lib.ListN.{length}
use Rattle.base_words.specs.Counts.{names, values, messages}
use Rattle.base_state.specs.Places.{queue_words}
use Rattle.meaning.specs.declared.Tuple.{Tuple}
use Rattle.meaning.specs.Messages.{appended, without}
use Rattle.meaning.specs.Queues.{message_count, messages_of, with_messages, sending, consuming, tidied, Tidy}
use Rattle.step_queues.proofs.SlotLaws.{by_order}
use Rattle.step_queues.proofs.QueueLaws.{count_is}
use Rattle.step_queues.proofs.ReadLaws.{messages_other, tidy_other}
use Rattle.step_queues.proofs.ChangeLaws.{tidy_sending, messages-sending, tidy_consuming, messages-consuming}
use Rattle.state_fits.specs.Fits.{queue_fits}
use Rattle.proof_steps.proofs.QueueFits.{Short, short_append, short_without, fits_tidy, fits_short, tidy_fits}

-- another queue
other_fits : (q : List ℕ) (m : ℕ) (ms : List Tuple) (o : ℕ) → (o ≡ m → ⊥) → queue_fits q o ≡ true → queue_fits (with_messages q m ms) o ≡ true
other_fits q m ms o d f =
    let y : Tidy q o = fits_tidy q o f in
    tidy_fits (with_messages q m ms) o (tidy_other q m ms o d y) (subst Short (sym (messages_other q m ms o d y.room)) (fits_short q o f))

-- what is true of the queue written and of the others is true of all
every_queue : (q : List ℕ) (m : ℕ) (ms : List Tuple) → ((o : ℕ) → o < names → queue_fits q o ≡ true) → queue_fits (with_messages q m ms) m ≡ true → (o : ℕ) → o < names → queue_fits (with_messages q m ms) o ≡ true
every_queue q m ms f g o l =
    by_order o m (λ y. other_fits q m ms o (λ e. omega arith) (f o l)) (λ e. subst (λ k. queue_fits (with_messages q m ms) k ≡ true) e g)
    (λ y. other_fits q m ms o (λ e. omega arith) (f o l))

module _ (q : List ℕ) (m : ℕ) (long : length q ≡ queue_words * names) (name : m < names) (fits : (o : ℕ) → o < names → queue_fits q o ≡ true) (g : Tuple) where
  pub consuming_fits : (o : ℕ) → o < names → queue_fits (consuming q m g) o ≡ true
  consuming_fits =
      let y : Tidy q m = fits_tidy q m (fits m name) in
      every_queue q m (without g (messages_of q m)) fits
      (tidy_fits (consuming q m g) m (tidy_consuming q m long name y g)
      (subst Short (sym (messages-consuming q m long name y g)) (short_without g (messages_of q m) (fits_short q m (fits m name)))))

  pub sending_fits : length (messages_of q m) < messages → g.length ≤ values → (o : ℕ) → o < names → queue_fits (sending q m g) o ≡ true
  unfolding tidied
  sending_fits room few =
      let y : Tidy q m = fits_tidy q m (fits m name) in
      let r : message_count q m < messages = omega (arith, count_is q m) in
      every_queue q m (appended (messages_of q m) g) fits
      (tidy_fits (sending q m g) m (tidy_sending q m long name y g r)
      (subst Short (sym (messages-sending q m long name y g r)) (short_append (messages_of q m) (tidied g) (fits_short q m (fits m name)) few)))
