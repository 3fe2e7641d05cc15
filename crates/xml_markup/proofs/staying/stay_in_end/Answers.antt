use Rattle.xml_markup.specs.Spans.{is_of, run}
use Rattle.xml_markup.proofs.StayLaws.{past_none}
use Rattle.xml_markup.specs.Staying.{stays_in_end}
use borrow.Author.Rules.{rules}
use Rattle.xml_markup.proofs.staying.stay_in_end.Goals as goal

pub run-requires : goal.run-requires
unfolding stays_in_end is_of run
run-requires c = search rules

pub returns-in-Opened : goal.returns-in-Opened
unfolding stays_in_end is_of run
returns-in-Opened c = rw c.in-Opened.is (past_none _ _)

pub returns-in-Name : goal.returns-in-Name
unfolding stays_in_end is_of run
returns-in-Name c = rw c.in-Name.is c.run.ensures

pub returns-in-Behind : goal.returns-in-Behind
unfolding stays_in_end is_of run
returns-in-Behind c = rw c.in-Behind.is (past_none _ _)
