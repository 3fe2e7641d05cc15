use Rattle.text_terms.specs.Terms.{comparison}
use Rattle.text_readers.proofs.ReadingLaws.{sign_stopped, if_stopped, sign_passed, if_passed}
use Rattle.text_terms.proofs.comparison.Goals as goal

pub returns-in-Ok : goal.returns-in-Ok
unfolding comparison
returns-in-Ok c = if_passed _ _ c.sign_at.ensures _ _ _ _ c.in-Ok.is c.joined.ensures

pub returns-in_err-q : goal.returns-in_err-q
unfolding comparison
returns-in_err-q c = if_stopped _ _ c.sign_at.ensures _ _ _ _ c.in_default.is (sign_stopped _ _ _ _ _ _ c.sign_at-2.ensures _ _ c.in_err-q.was c.from_residual.ensures.1)

pub returns : goal.returns
unfolding comparison
returns c = if_stopped _ _ c.sign_at.ensures _ _ _ _ c.in_default.is (sign_passed _ _ _ _ _ _ c.sign_at-2.ensures _ _ c.in_ok-q.was c.joined-2.ensures)
