use Rattle.xml_markup.proofs.StayLaws.{past_none}
use Rattle.xml_markup.specs.Staying.{stays}
use borrow.Author.Rules.{rules}
use Rattle.xml_markup.proofs.staying.stay.Goals as goal

pub stay_in_comment-requires : goal.stay_in_comment-requires
unfolding stays
stay_in_comment-requires c = search rules

pub stay_in_data-requires : goal.stay_in_data-requires
unfolding stays
stay_in_data-requires c = search rules

pub stay_in_instruction-requires : goal.stay_in_instruction-requires
unfolding stays
stay_in_instruction-requires c = search rules

pub stay_in_tag-requires : goal.stay_in_tag-requires
unfolding stays
stay_in_tag-requires c = search rules

pub stay_in_end-requires : goal.stay_in_end-requires
unfolding stays
stay_in_end-requires c = search rules

pub returns-in-Begin : goal.returns-in-Begin
unfolding stays
returns-in-Begin c = rw c.in-Begin.is (past_none _ _)

pub returns-in-Opening : goal.returns-in-Opening
unfolding stays
returns-in-Opening c = rw c.in-Opening.is (past_none _ _)

pub returns-in-Comment : goal.returns-in-Comment
unfolding stays
returns-in-Comment c = rw c.in-Comment.is c.stay_in_comment.ensures

pub returns-in-Data : goal.returns-in-Data
unfolding stays
returns-in-Data c = rw c.in-Data.is c.stay_in_data.ensures

pub returns-in-Instruction : goal.returns-in-Instruction
unfolding stays
returns-in-Instruction c = rw c.in-Instruction.is c.stay_in_instruction.ensures

pub returns-in-Tag : goal.returns-in-Tag
unfolding stays
returns-in-Tag c = rw c.in-Tag.is c.stay_in_tag.ensures

pub returns-in-EndTag : goal.returns-in-EndTag
unfolding stays
returns-in-EndTag c = rw c.in-EndTag.is c.stay_in_end.ensures

pub returns-in-Reference : goal.returns-in-Reference
unfolding stays
returns-in-Reference c = rw c.in-Reference.is (past_none _ _)
