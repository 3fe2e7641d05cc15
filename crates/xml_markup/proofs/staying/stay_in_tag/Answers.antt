use Rattle.xml_markup.specs.Spans.{is_of, run}
use Rattle.xml_markup.proofs.StayLaws.{past_none}
use Rattle.xml_markup.specs.Staying.{stays_in_tag}
use borrow.Author.Rules.{rules}
use Rattle.xml_markup.proofs.staying.stay_in_tag.Goals as goal

pub run-requires : goal.run-requires
unfolding stays_in_tag is_of run
run-requires c = search rules

pub run-requires-in-Blank : goal.run-requires-in-Blank
unfolding stays_in_tag is_of run
run-requires-in-Blank c = search rules

pub run-requires-in-Attribute : goal.run-requires-in-Attribute
unfolding stays_in_tag is_of run
run-requires-in-Attribute c = search rules

pub plain_from-requires : goal.plain_from-requires
unfolding stays_in_tag is_of run
plain_from-requires c = search rules

pub returns-in-Name : goal.returns-in-Name
unfolding stays_in_tag is_of run
returns-in-Name c = rw c.in-Name.is c.run.ensures

pub returns-in-Blank : goal.returns-in-Blank
unfolding stays_in_tag is_of run
returns-in-Blank c = rw c.in-Blank.is c.run-in-Blank.ensures

pub returns-in-Attribute : goal.returns-in-Attribute
unfolding stays_in_tag is_of run
returns-in-Attribute c = rw c.in-Attribute.is c.run-in-Attribute.ensures

pub returns-in-Named : goal.returns-in-Named
unfolding stays_in_tag is_of run
returns-in-Named c = rw c.in-Named.is (past_none _ _)

pub returns-in-Equals : goal.returns-in-Equals
unfolding stays_in_tag is_of run
returns-in-Equals c = rw c.in-Equals.is (past_none _ _)

pub returns-in-Value : goal.returns-in-Value
unfolding stays_in_tag is_of run
returns-in-Value c = rw c.in-Value.is c.plain_from.ensures

pub returns-in-Reference : goal.returns-in-Reference
unfolding stays_in_tag is_of run
returns-in-Reference c = rw c.in-Reference.is (past_none _ _)

pub returns-in-Behind : goal.returns-in-Behind
unfolding stays_in_tag is_of run
returns-in-Behind c = rw c.in-Behind.is (past_none _ _)

pub returns-in-Slash : goal.returns-in-Slash
unfolding stays_in_tag is_of run
returns-in-Slash c = rw c.in-Slash.is (past_none _ _)
