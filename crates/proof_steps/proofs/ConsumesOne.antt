-- An accepted step that receives takes one message equal to the given one out of its queue, and no other; one that sends puts its message there
-- once. Assumes nothing.
use Prim.Native.Nat.{ℕ, ◌+◌, ◌*◌, ◌<◌}
use mathlib.Core.Path.{◌≡◌}
use mathlib.Core.Bool.{true}
use mathlib.Core.List.{List}
use native.Mathlib.Omega.{arith}
use lib.ListN.{length}
use Rattle.base_words.specs.Sum.{one_if}
use Rattle.base_words.specs.Counts.{names}
use Rattle.base_state.specs.Places.{queue_words}
use Rattle.check_limits.specs.Limits.{table_fits}
use Rattle.meaning.specs.declared.Name.{Name}
use Rattle.meaning.specs.declared.Tuple.{Tuple}
use Rattle.meaning.specs.Tuples.{same_tuple}
use Rattle.meaning.specs.Messages.{times}
use Rattle.meaning.specs.Queues.{messages_of}
use Rattle.meaning.specs.Refusals.{first_refusal}
use Rattle.meaning.specs.Step.{Site, site_of, receives, sends, message_named, sent, refusals, queues_after}
use Rattle.step_queues.proofs.QueueLaws.{count_is}
use Rattle.step_queues.proofs.ChangeLaws.{times-consuming, times-sending}
use Rattle.state_fits.specs.Fits.{state_fits}
use Rattle.proof_steps.proofs.QueuesAfter.{after_receiving, after_sending}
use Rattle.proof_steps.proofs.QueueFits.{fits_tidy}
use Rattle.proof_steps.proofs.Traffic.{state_queues, received_name, received_there, sent_alone, sent_name, sent-space, sent_short}

module _ (t s q : List ℕ) (n : Name) (fits : table_fits t ≡ true) (long : length q ≡ queue_words * names) (state : state_fits t s q ≡ true) (accepted : first_refusal (refusals t s q n) ≡ 0) where
  abbrev x : Site
  x = site_of t s n

  pub consumes_one : receives x ≡ true → (v : Tuple) → times v (messages_of (queues_after x q) (message_named x)) + one_if (same_tuple x.given v) ≡ times v (messages_of q (message_named x))
  consumes_one e v =
      let l : message_named x < names = received_name t s q n fits accepted e in
      rw (after_receiving x q e)
      (times-consuming q (message_named x) long l (fits_tidy q (message_named x) (state_queues t s q state (message_named x) l)) x.given v (received_there t s q n fits accepted e))

  pub sends_one : sends x ≡ true → (v : Tuple) → times v (messages_of (queues_after x q) (message_named x)) ≡ times v (messages_of q (message_named x)) + one_if (same_tuple (sent x).tuple v)
  sends_one e v =
      let l : message_named x < names = sent_name t s q n fits accepted e in
      let r = sent-space t s q n fits accepted e in
      rw (after_sending x q (sent_alone t s q n fits accepted e) e)
      (times-sending q (message_named x) long l (fits_tidy q (message_named x) (state_queues t s q state (message_named x) l)) (sent x).tuple (omega (arith, r, count_is q (message_named x))) v
      (sent_short t s q n fits accepted e))
