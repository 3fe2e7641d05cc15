use Rattle.text_terms.specs.Terms.{joint}
use Rattle.text_readers.proofs.ReadingLaws.{if_stopped, if_passed}
use Rattle.text_readers.proofs.KeepLaws.{stored}
use Rattle.text_terms.proofs.joint.Goals as goal

pub returns-in-Ok : goal.returns-in-Ok
unfolding joint
returns-in-Ok c = if_passed _ _ c.sign_at.ensures _ _ _ _ c.in-Ok.is c.joined.ensures

pub returns-in-Ok-sign_at : goal.returns-in-Ok-sign_at
unfolding joint
returns-in-Ok-sign_at c = if_stopped _ _ c.sign_at.ensures _ _ _ _ c.in_default.is (if_passed _ _ c.sign_at-2.ensures _ _ _ _ c.in-Ok-sign_at.is c.joined-in-Ok-sign_at.ensures)

pub returns : goal.returns
unfolding joint
returns c = if_stopped _ _ c.sign_at.ensures _ _ _ _ c.in_default.is (if_stopped _ _ c.sign_at-2.ensures _ _ _ _ c.in_default-sign_at.is (stored _ _ _ c.put.ensures))
