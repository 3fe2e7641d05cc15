use Rattle.draw_kinds.proofs.KindLaws.{kinds_on, kinds_stop, kinds_end}
use Rattle.base_words.proofs.IterLaws.{iter_more, iter_none}
use Rattle.base_words.proofs.SeekLaws.{seek_none}
use Rattle.draw_kinds.proofs.settle_kinds.Goals as goal

pub loop-k-init : goal.loop-k-init
loop-k-init c = (iter_none _ _, seek_none _)

pub returns-then-is_unsettled : goal.returns-then-is_unsettled
returns-then-is_unsettled c = kinds_stop _ _ _ _ _ c.loop-k-test.true c.loop-k.invariant.0 c.settle.ensures c.loop-k.invariant.1 _ c.is_unsettled.ensures c.if-is_unsettled.true

pub loop-k-preserved : goal.loop-k-preserved
loop-k-preserved c = (iter_more _ _ _ _ _ c.loop-k.invariant.0 c.settle.ensures, kinds_on _ _ _ _ _ c.loop-k-test.true c.loop-k.invariant.0 c.settle.ensures c.loop-k.invariant.1 _ c.is_unsettled.ensures c.if-is_unsettled.false)

pub returns : goal.returns
returns c = kinds_end _ _ _ _ c.loop-k.invariant.0 c.loop-k.invariant.1 c.loop-k-test.false c.loop-k.auto.k-end
