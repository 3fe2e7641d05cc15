use Rattle.text_parts.specs.Parts.{series}
use Rattle.text_readers.proofs.ReadingLaws.{sign_stopped, sign_passed}
use Rattle.text_parts.proofs.lists.series.Goals as goal

pub returns-in_err-q : goal.returns-in_err-q
unfolding series
returns-in_err-q c = sign_stopped _ _ _ _ _ _ c.sign_at.ensures _ _ c.in_err-q.was c.from_residual.ensures.1

pub returns : goal.returns
unfolding series
returns c = sign_passed _ _ _ _ _ _ c.sign_at.ensures _ _ c.in_ok-q.was c.inside.ensures
