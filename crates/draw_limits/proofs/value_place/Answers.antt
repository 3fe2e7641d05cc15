use Rattle.draw_limits.specs.Excess.{value_place}
use Rattle.draw_links.proofs.LinkLaws.{if_absent, if_is_lem}
use mathlib.Core.Path.{refl}
use borrow.Author.Rules.{rules}
use Rattle.draw_limits.proofs.value_place.Goals as goal

pub attribute_of-a-requires : goal.attribute_of-a-requires
unfolding value_place
attribute_of-a-requires c = search rules

pub returns-in_default : goal.returns-in_default
unfolding value_place
returns-in_default c = if_absent _ _ _ _ c.attribute_of-a.ensures c.in_default.is

pub returns : goal.returns
unfolding value_place
returns c = if_is_lem _ _ _ _ _ _ _ c.attribute_of-a.ensures c.in-Some.is refl
