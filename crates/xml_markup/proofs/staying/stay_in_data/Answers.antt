use Rattle.xml_markup.proofs.StayLaws.{past_none}
use Rattle.xml_markup.specs.Staying.{stays_in_data}
use borrow.Author.Rules.{rules}
use Rattle.xml_markup.proofs.staying.stay_in_data.Goals as goal

pub plain_from-requires : goal.plain_from-requires
unfolding stays_in_data
plain_from-requires c = search rules

pub returns-in-Inside : goal.returns-in-Inside
unfolding stays_in_data
returns-in-Inside c = rw c.in-Inside.is c.plain_from.ensures

pub returns-in-Bracket : goal.returns-in-Bracket
unfolding stays_in_data
returns-in-Bracket c = rw c.in-Bracket.is (past_none _ _)

pub returns-in-Brackets : goal.returns-in-Brackets
unfolding stays_in_data
returns-in-Brackets c = rw c.in-Brackets.is (past_none _ _)
