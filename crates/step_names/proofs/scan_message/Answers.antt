use Rattle.step_names.proofs.NameLaws.{message_again, message_oldest}
use Rattle.step_names.proofs.RefusedLaws.{message_unsuited}
use borrow.Author.Tests.{not-true}
use mathlib.Core.Path.{ap}
use mathlib.Core.Bool.{not}
use Rattle.step_names.proofs.scan_message.Goals as goal

pub returns-then-not-suits : goal.returns-then-not-suits
returns-then-not-suits c = message_unsuited _ _ _ _ _ _ _ _ c.passed.ensures _ _ _ _ _ c.queues_in-q.ensures c.message_at-g.ensures c.requires.1 c.requires.2 c.suits.ensures (not-true _ (ap not c.if-not-suits.true))

pub returns-then-oldest_of-place : goal.returns-then-oldest_of-place
returns-then-oldest_of-place c = message_again _ _ _ c.requires.0 _ _ _ c.queues_in-q.ensures c.message_at-g.ensures c.oldest_of.ensures _ _ _ _ c.if-oldest_of-place.true c.passed-then-oldest_of-place.ensures

pub returns : goal.returns
returns c = message_oldest _ _ _ c.requires.0 _ _ _ c.queues_in-q.ensures c.message_at-g.ensures c.oldest_of.ensures _ _ _ _ _ c.if-oldest_of-place.false c.with_values.ensures c.scan_name.ensures
