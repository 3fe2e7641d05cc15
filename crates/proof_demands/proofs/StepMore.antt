-- One step and one post from two sets of queues, in the second the further messages e more: accepted from the first, it is accepted from the second, and
-- e is still what the second has more. By the shape of the definition: 15 and 17 alone look at the queues. Assumes nothing.
use Prim.Native.Nat.{ℕ, ◌+◌, ◌≤◌, ◌<◌}
use mathlib.Core.Path.{◌≡◌, refl, subst}
use mathlib.Core.Bool.{true, false, ◌&&◌}
use mathlib.Core.List.{List, [], ◌∷◌}
use native.Mathlib.Omega.{arith}
use lib.Dec.{leb, ltb}
use lib.ListN.{length}
use borrow.Author.Tests.{ltb-true, leb-true, lt-ltb}
use Rattle.base_words.specs.Pick.{if◌then◌or_else◌}
use Rattle.base_words.specs.Counts.{names, values, messages}
use Rattle.base_words.proofs.AllLaws.{and_left, and_right}
use Rattle.check_limits.specs.Limits.{table_fits}
use Rattle.meaning.specs.declared.Name.{Name}
use Rattle.meaning.specs.declared.Tuple.{Tuple}
use Rattle.meaning.specs.Messages.{has}
use Rattle.meaning.specs.Queues.{messages_of, sending}
use Rattle.meaning.specs.Refusals.{◌unless◌, first_refusal}
use Rattle.meaning.specs.Post.{post_refusals}
use Rattle.meaning.specs.Step.{Site, site_of, receives, sends, message_named, sent, queued, space, refusals, queues_after}
use Rattle.proof_steps.proofs.AcceptedParts.{first_holds}
use Rattle.proof_steps.proofs.Choices.{by_test, by_choice}
use Rattle.proof_steps.proofs.Independence.{accepted_too}
use Rattle.proof_steps.proofs.QueuesAfter.{after_receiving, after_sending}
use Rattle.proof_steps.proofs.Traffic.{received_name, received_there, sent_alone, sent_name, sent-space, sent_short}
use Rattle.proof_demands.proofs.QueuesMore.{QueuesFit, More, there_too, consumed_more, room_too, sent_more}

after_neither : (x : Site) (q : List ℕ) → receives x ≡ false → sends x ≡ false → queues_after x q ≡ q
unfolding queues_after if◌then◌or_else◌
after_neither x q e f = rw (e, f)

-- what an accepted post knows
module _ (q : List ℕ) (name : ℕ) (g : Tuple) (accepted : first_refusal (post_refusals q name g) ≡ 0) where
  post_parts : (ltb name names && leb g.length values ≡ true) × (first_refusal (17 unless ltb (length (messages_of q name)) messages ∷ []) ≡ 0)
  unfolding post_refusals
  post_parts = first_holds 19 (ltb name names && leb g.length values) _ (λ z. omega arith) accepted

  pub post_named : name < names
  post_named = ltb-true name names (and_left (ltb name names) (leb g.length values) post_parts.0)

  pub post_short : g.length ≤ values
  post_short = leb-true g.length values (and_right (ltb name names) (leb g.length values) post_parts.0)

  pub post_room : length (messages_of q name) < messages
  post_room = ltb-true (length (messages_of q name)) messages (first_holds 17 (ltb (length (messages_of q name)) messages) [] (λ z. omega arith) post_parts.1).0

module _ (e : ℕ → List Tuple) (q₁ q₂ : List ℕ) (f₁ : QueuesFit q₁) (f₂ : QueuesFit q₂) (more : More e q₁ q₂) where
  -- A STEP
  module _ (t s : List ℕ) (n : Name) (fits : table_fits t ≡ true) (accepted : first_refusal (refusals t s q₁ n) ≡ 0) (within : (m : ℕ) → m < names → length (messages_of (queues_after (site_of t s n) q₁) m) + length (e m) ≤ messages) where
    abbrev x : Site
    x = site_of t s n

    within_sent : (k : sends x ≡ true) → length (messages_of (sending q₁ (message_named x) (sent x).tuple) (message_named x)) + length (e (message_named x)) ≤ messages
    within_sent k =
        subst (λ (q : List ℕ). length (messages_of q (message_named x)) + length (e (message_named x)) ≤ messages)
        (after_sending x q₁ (sent_alone t s q₁ n fits accepted k) k)
        (within (message_named x) (sent_name t s q₁ n fits accepted k))

    queued_too : queued x q₂ ≡ true
    unfolding queued
    queued_too =
        by_choice (λ b. b ≡ true) (receives x) (has x.given (messages_of q₂ (message_named x))) true
        (λ r. there_too e q₁ q₂ f₁ f₂ more (message_named x) (received_name t s q₁ n fits accepted r) x.given (received_there t s q₁ n fits accepted r))
        (λ r. refl)

    space_too : space x q₂ ≡ true
    unfolding space
    space_too =
        by_choice (λ b. b ≡ true) (sends x) (ltb (length (messages_of q₂ (message_named x))) messages) true
        (λ k.
        lt-ltb (length (messages_of q₂ (message_named x))) messages
        (room_too e q₁ q₂ f₁ f₂ more (message_named x) (sent_name t s q₁ n fits accepted k) (sent x).tuple (sent_short t s q₁ n fits accepted k) (sent-space t s q₁ n fits accepted k) (within_sent k)))
        (λ k. refl)

    pub step_accepted_too : first_refusal (refusals t s q₂ n) ≡ 0
    step_accepted_too = accepted_too t s n q₁ q₂ accepted queued_too space_too

    pub step_more : More e (queues_after x q₁) (queues_after x q₂)
    step_more =
        by_test (receives x)
        (λ r.
        rw (after_receiving x q₁ r, after_receiving x q₂ r)
        (consumed_more e q₁ q₂ f₁ f₂ more (message_named x) (received_name t s q₁ n fits accepted r) x.given (received_there t s q₁ n fits accepted r)))
        (λ r.
        by_test (sends x)
        (λ k.
        rw (after_sending x q₁ r k, after_sending x q₂ r k)
        (sent_more e q₁ q₂ f₁ f₂ more (message_named x) (sent_name t s q₁ n fits accepted k) (sent x).tuple (sent_short t s q₁ n fits accepted k) (sent-space t s q₁ n fits accepted k) (within_sent k)))
        (λ k. rw (after_neither x q₁ r k, after_neither x q₂ r k) more))

  -- A POST
  module _ (name : ℕ) (g : Tuple) (accepted : first_refusal (post_refusals q₁ name g) ≡ 0) (within : (m : ℕ) → m < names → length (messages_of (sending q₁ name g) m) + length (e m) ≤ messages) where
    pub post_accepted_too : first_refusal (post_refusals q₂ name g) ≡ 0
    unfolding post_refusals first_refusal if◌then◌or_else◌
    post_accepted_too =
        let named = post_named q₁ name g accepted in
        let r : length (messages_of q₂ name) < messages = room_too e q₁ q₂ f₁ f₂ more name named g (post_short q₁ name g accepted) (post_room q₁ name g accepted) (within name named) in
        rw ((post_parts q₁ name g accepted).0, lt-ltb (length (messages_of q₂ name)) messages r)

    pub post_more : More e (sending q₁ name g) (sending q₂ name g)
    post_more =
        let named = post_named q₁ name g accepted in
        sent_more e q₁ q₂ f₁ f₂ more name named g (post_short q₁ name g accepted) (post_room q₁ name g accepted) (within name named)
