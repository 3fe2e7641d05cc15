use Rattle.draw_numbers.specs.Numbers.{maximum_of}
use Rattle.draw_links.proofs.LinkLaws.{if_absent, if_is_lem}
use borrow.Author.Rules.{rules}
use Rattle.draw_numbers.proofs.numbers.maximum_of.Goals as goal

pub attribute_of-a-requires : goal.attribute_of-a-requires
unfolding maximum_of
attribute_of-a-requires c = search rules

pub returns-in_default : goal.returns-in_default
unfolding maximum_of
returns-in_default c = if_absent _ _ _ _ c.attribute_of-a.ensures c.in_default.is

pub piece-requires : goal.piece-requires
unfolding maximum_of
piece-requires c = search rules

pub value_of-requires : goal.value_of-requires
unfolding maximum_of
value_of-requires c = search rules

pub returns : goal.returns
unfolding maximum_of
returns c = if_is_lem _ _ _ _ _ _ _ c.attribute_of-a.ensures c.in-Some.is (rw c.piece.ensures at c.value_of.ensures)
