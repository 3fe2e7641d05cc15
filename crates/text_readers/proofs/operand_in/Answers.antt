use Rattle.text_readers.proofs.WordLaws.{operand_read}
use Rattle.text_readers.proofs.operand_in.Goals as goal

pub returns : goal.returns
returns c = operand_read _ _ _ c.past_blanks-p.ensures _ c.operand_at-term.ensures _ _ _ c.keep_operand.ensures
