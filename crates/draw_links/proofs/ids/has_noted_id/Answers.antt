use Rattle.draw_links.proofs.NoteLaws.{has_none, has_told}
use mathlib.Core.Path.{◌∙◌}
use borrow.Author.Tests.{le-ltb}
use Rattle.draw_links.proofs.ids.has_noted_id.Goals as goal

pub returns-then-w-j : goal.returns-then-w-j
returns-then-w-j c h = c.has_id.ensures

pub returns-else-w-j : goal.returns-else-w-j
returns-else-w-j c h = le-ltb _ _ c.if-w-j.false ∙ has_none _ _ _ _ h c.if-w-j.false _ c.target_of-a.ensures c.if-a-eq0.true

pub returns-then-a : goal.returns-then-a
returns-then-a c h = c.has_id-then-a.ensures

pub returns-then-begins_otherwise : goal.returns-then-begins_otherwise
returns-then-begins_otherwise c h = has_told _ _ _ _ h _ _ c.target_of-a.ensures c.if-a-eq0.false c.if-a.false (c.begins_otherwise.ensures c.if-begins_otherwise.true _)

pub returns : goal.returns
returns c h = has_told _ _ _ _ h _ _ c.target_of-a.ensures c.if-a-eq0.false c.if-a.false c.stands_at.ensures
