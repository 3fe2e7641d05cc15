use Rattle.xml_markup.proofs.StayLaws.{past_none}
use Rattle.xml_markup.specs.Staying.{stays_in_instruction}
use borrow.Author.Rules.{rules}
use Rattle.xml_markup.proofs.staying.stay_in_instruction.Goals as goal

pub plain_from-requires : goal.plain_from-requires
unfolding stays_in_instruction
plain_from-requires c = search rules

pub returns-in-Opened : goal.returns-in-Opened
unfolding stays_in_instruction
returns-in-Opened c = rw c.in-Opened.is (past_none _ _)

pub returns-in-Target : goal.returns-in-Target
unfolding stays_in_instruction
returns-in-Target c = rw c.in-Target.is (past_none _ _)

pub returns-in-TargetMark : goal.returns-in-TargetMark
unfolding stays_in_instruction
returns-in-TargetMark c = rw c.in-TargetMark.is (past_none _ _)

pub returns-in-Inside : goal.returns-in-Inside
unfolding stays_in_instruction
returns-in-Inside c = rw c.in-Inside.is c.plain_from.ensures

pub returns-in-Mark : goal.returns-in-Mark
unfolding stays_in_instruction
returns-in-Mark c = rw c.in-Mark.is (past_none _ _)
