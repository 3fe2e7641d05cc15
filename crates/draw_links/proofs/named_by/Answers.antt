use Rattle.draw_links.proofs.LinkLaws.{if_absent, if_is_lem}
use Rattle.draw_links.specs.Links.{named}
use Rattle.draw_links.proofs.named_by.Goals as goal

pub returns-in_default : goal.returns-in_default
unfolding named
returns-in_default c h = if_absent _ _ _ _ c.attribute_of-a.ensures c.in_default.is

pub returns : goal.returns
unfolding named
returns c h = if_is_lem _ _ _ _ _ _ _ c.attribute_of-a.ensures c.in-Some.is (rw (← c.piece.ensures, ← c.local_of.ensures) (c.meant_by.ensures h))
