use Rattle.text_parts.specs.Parts.{message}
use Rattle.text_readers.proofs.ReadingLaws.{then_stopped, then_passed, sign_stopped, sign_passed}
use Rattle.text_parts.proofs.ListLaws.{series_by}
use Rattle.text_parts.proofs.message.Goals as goal

pub returns-in_err-q : goal.returns-in_err-q
unfolding message
returns-in_err-q c = then_stopped _ _ _ _ _ _ _ c.number_in.ensures _ _ c.in_err-q.was c.from_residual.ensures.1

pub returns-in_err-a : goal.returns-in_err-a
unfolding message
returns-in_err-a c = then_passed _ _ _ _ _ _ _ c.number_in.ensures _ _ c.in_ok-q.was (sign_stopped _ _ _ _ _ _ c.sign_at.ensures _ _ c.in_err-a.was c.from_residual-in_err-a.ensures.1)

pub returns : goal.returns
unfolding message
returns c = then_passed _ _ _ _ _ _ _ c.number_in.ensures _ _ c.in_ok-q.was (sign_passed _ _ _ _ _ _ c.sign_at.ensures _ _ c.in_ok-a.was (series_by _ _ _ _ _ _ c.tuple.ensures.0 c.series.ensures))
