use Rattle.draw_things.proofs.SortLaws.{named_nothing, named_elsewhere, named_here}
use Rattle.draw_things.proofs.names.named_at.Goals as goal

pub returns-then-s-eq-NOTHING : goal.returns-then-s-eq-NOTHING
returns-then-s-eq-NOTHING c = named_nothing _ _ _ _ c.row_at-i.ensures _ c.row_sort-s.ensures c.if-s-eq-NOTHING.true

pub returns-then-row_parent-family : goal.returns-then-row_parent-family
returns-then-row_parent-family c = named_elsewhere _ _ _ _ c.row_at-i.ensures _ c.row_sort-s.ensures c.if-s-eq-NOTHING.false _ c.row_parent.ensures _ c.family.ensures c.if-row_parent-family.true

pub returns : goal.returns
returns c = named_here _ _ _ _ c.row_at-i.ensures _ c.row_sort-s.ensures c.if-s-eq-NOTHING.false _ c.row_parent.ensures _ c.family.ensures c.if-row_parent-family.false
