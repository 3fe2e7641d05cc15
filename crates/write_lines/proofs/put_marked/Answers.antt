use Rattle.write_buffer.proofs.OverLaws.{after, put_as, put_within}
use Rattle.write_lines.proofs.LineLaws.{marked_one, marked_more}
use borrow.Author.Tests.{leb-true}
use mathlib.Core.Path.{refl}
use Rattle.write_lines.proofs.put_marked.Goals as goal

pub returns-then-j-eq0 : goal.returns-then-j-eq0
returns-then-j-eq0 c = put_within (put_as _ (marked_one _ _ _ c.if-j-eq0.true) c.put_number.ensures) (leb-true _ _ refl)

pub returns : goal.returns
returns c = put_as _ (marked_more _ _ _ c.if-j-eq0.false) (after c.put_byte-first.ensures c.put_number-2.ensures)
