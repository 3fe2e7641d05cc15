use Rattle.step_queues.specs.Changes.{message_is}
use Rattle.step_queues.proofs.EqualLaws.{message_other, message_same}
use Rattle.step_queues.proofs.message_is.Goals as goal

pub returns-then-word-n : goal.returns-then-word-n
unfolding message_is
returns-then-word-n c = message_other c.args.q.now c.args.m c.args.k c.args.g _ _ c.slot_place-i.ensures c.word.ensures c.if-word-n.true

pub returns-then-n-gt-VALUES : goal.returns-then-n-gt-VALUES
unfolding message_is
returns-then-n-gt-VALUES c = rw c.message_at.ensures at c.same_tuple.ensures

pub returns : goal.returns
unfolding message_is
returns c = message_same c.args.q.now c.args.m c.args.k c.args.g _ _ c.slot_place-i.ensures c.word.ensures _ c.if-word-n.false c.if-n-gt-VALUES.false c.words_are.ensures
