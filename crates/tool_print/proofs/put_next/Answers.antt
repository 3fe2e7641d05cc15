use mathlib.Core.Path.{refl}
use borrow.Author.Tests.{leb-true}
use Rattle.write_buffer.proofs.OverLaws.{after, put_as, put_within, put_nothing}
use Rattle.tool_print.proofs.JudgedLaws.{beside_none, beside_some}
use mathlib.Core.Path.{ap}
use mathlib.Core.Bool.{not}
use Rattle.tool_print.proofs.put_next.Goals as goal

pub returns-then-not-told : goal.returns-then-not-told
returns-then-not-told c = put_as _ (beside_none _ _ (ap not c.if-not-told.true)) (put_within (put_nothing _ _) (leb-true _ _ refl))

pub returns : goal.returns
returns c = put_as _ (beside_some _ _ (ap not c.if-not-told.false)) (after c.put_byte-blank.ensures c.put_beside.ensures)
