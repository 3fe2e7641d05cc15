use Rattle.text_readers.proofs.ReadingLaws.{sign_passed, sign_stopped}
use Rattle.text_elements.proofs.part_behind.Goals as goal

pub returns-in_err-q : goal.returns-in_err-q
returns-in_err-q c = sign_stopped _ _ _ _ _ _ c.sign_at.ensures _ _ c.in_err-q.was c.from_residual.ensures.1

pub returns : goal.returns
returns c = sign_passed _ _ _ _ _ _ c.sign_at.ensures _ _ c.in_ok-q.was c.part_of.ensures
