use Rattle.xml_markup.proofs.StayLaws.{past_none}
use Rattle.xml_markup.specs.Staying.{stays_in_comment}
use borrow.Author.Rules.{rules}
use Rattle.xml_markup.proofs.staying.stay_in_comment.Goals as goal

pub plain_from-requires : goal.plain_from-requires
unfolding stays_in_comment
plain_from-requires c = search rules

pub returns-in-Inside : goal.returns-in-Inside
unfolding stays_in_comment
returns-in-Inside c = rw c.in-Inside.is c.plain_from.ensures

pub returns-in-Dash : goal.returns-in-Dash
unfolding stays_in_comment
returns-in-Dash c = rw c.in-Dash.is (past_none _ _)

pub returns-in-Dashes : goal.returns-in-Dashes
unfolding stays_in_comment
returns-in-Dashes c = rw c.in-Dashes.is (past_none _ _)
