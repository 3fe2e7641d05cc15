use Rattle.text_readers.proofs.ReadingLaws.{then_stopped, then_passed, sign_last}
use Rattle.text_parts.proofs.lists.items_to_close.Goals as goal

pub returns-in_err-q : goal.returns-in_err-q
returns-in_err-q c = then_stopped _ _ _ _ _ _ _ c.items.ensures _ _ c.in_err-q.was c.from_residual.ensures.1

pub returns : goal.returns
returns c = then_passed _ _ _ _ _ _ _ c.items.ensures _ _ c.in_ok-q.was (sign_last _ _ _ _ _ c.sign_at.ensures)
