use mathlib.Core.Path.{◌∙◌}
use native.Mathlib.Omega.{arith}
use Rattle.xml_markup.proofs.ShelfLaws.{alike_on, by_lengths, by_bytes}
use Rattle.xml_markup.proofs.shelf.is_before.Goals as goal

pub returns-then-a-b : goal.returns-then-a-b
returns-then-a-b c = by_lengths _ _ c.if-a-b.true

pub returns-then-a-i : goal.returns-then-a-i
returns-then-a-i c = c.is_less.ensures.0 ∙ by_bytes _ _ _ c.loop-i-test.true c.if-a-b.false c.if-a-i.true c.is_less.ensures.1 c.is_less.ensures.2 c.loop-i.invariant

pub loop-i-preserved : goal.loop-i-preserved
loop-i-preserved c = alike_on _ _ _ c.loop-i-test.true (omega arith) c.if-a-i.false c.loop-i.invariant
