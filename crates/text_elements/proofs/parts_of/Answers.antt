use Rattle.text_elements.proofs.ElementLaws.{row_stopped, row_closed}
use Rattle.text_elements.proofs.parts_of.Goals as goal

pub returns-in_err-q : goal.returns-in_err-q
returns-in_err-q c = row_stopped _ _ _ _ _ c.parts_of-codes.ensures _ _ c.parts_from.ensures _ _ c.in_err-q.was c.from_residual.ensures.1

pub returns : goal.returns
returns c = row_closed _ _ _ _ _ c.parts_of-codes.ensures _ _ c.parts_from.ensures _ _ c.in_ok-q.was c.sign_at.ensures
