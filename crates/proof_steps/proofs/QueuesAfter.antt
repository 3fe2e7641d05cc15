-- The queues after a step by its three cases: it consumes, it sends, or it leaves them as they are. Assumes nothing.
use mathlib.Core.Path.{◌≡◌}
use mathlib.Core.Bool.{true, false}
use mathlib.Core.List.{List}
use Prim.Native.Nat.{ℕ}
use Rattle.base_words.specs.Pick.{if◌then◌or_else◌}
use Rattle.meaning.specs.Queues.{sending, consuming}
use Rattle.meaning.specs.Step.{Site, receives, sends, message_named, sent, queues_after}
use Rattle.proof_steps.proofs.Choices.{by_choice, chosen}

module _ (x : Site) (q : List ℕ) where
  pub by_queues : (P : List ℕ → Type 0)
      → (receives x ≡ true → P (consuming q (message_named x) x.given))
      → (sends x ≡ true → P (sending q (message_named x) (sent x).tuple))
      → P q
      → P (queues_after x q)
  unfolding queues_after
  by_queues P f g h = by_choice P (receives x) _ _ f (λ n. by_choice P (sends x) _ _ g (λ k. h))

  pub after_receiving : receives x ≡ true → queues_after x q ≡ consuming q (message_named x) x.given
  unfolding queues_after
  after_receiving e = chosen (receives x) _ _ e

  pub after_sending : receives x ≡ false → sends x ≡ true → queues_after x q ≡ sending q (message_named x) (sent x).tuple
  unfolding queues_after if◌then◌or_else◌
  after_sending e f = rw (e, f)
