use Rattle.step_names.proofs.RefusedLaws.{queue_above, queue_unready, worked_by}
use borrow.Author.Tests.{not-true}
use mathlib.Core.Path.{ap}
use mathlib.Core.Bool.{not}
use Rattle.step_names.proofs.scan_queue.Goals as goal

pub returns-then-not-is_below : goal.returns-then-not-is_below
returns-then-not-is_below c = queue_above _ _ _ _ _ _ _ c.passed.ensures _ c.is_below.ensures (not-true _ (ap not c.if-not-is_below.true))

pub returns-then-not-is_ready : goal.returns-then-not-is_ready
returns-then-not-is_ready c = queue_unready _ _ _ _ _ _ _ c.passed-then-not-is_ready.ensures _ _ c.instance_for-h.ensures c.is_ready.ensures (not-true _ (ap not c.if-not-is_ready.true))

pub scan_messages-requires : goal.scan_messages-requires
scan_messages-requires c = worked_by _ _ _ _ _ c.instance_for-h.ensures c.worked_for-w.ensures

pub returns : goal.returns
returns c = c.scan_messages.ensures
