use Rattle.step_history.specs.History.{queued}
use Rattle.meaning.specs.Queues.{messages_of}
use Rattle.meaning.specs.Messages.{times}
use mathlib.Core.List.{List}
use mathlib.Core.Path.{◌∙◌, ap}
use Prim.Native.Nat.{ℕ}
use Rattle.step_history.proofs.queued_of.Goals as goal

pub returns : goal.returns
unfolding queued
returns c = c.times_in.ensures ∙ ap (λ (q : List ℕ). times c.args.g (messages_of q c.args.m)) c.tail.ensures
