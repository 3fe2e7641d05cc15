use Rattle.text_passes.proofs.TurnLaws.{text_refused, text_ended}
use Rattle.text_passes.proofs.pass.Goals as goal

pub returns-in_err-q : goal.returns-in_err-q
returns-in_err-q c = text_refused _ _ _ _ _ c.pools_at.ensures _ _ c.in_err-q.was c.from_residual.ensures.1

pub returns : goal.returns
returns c = text_ended _ _ _ _ _ c.pools_at.ensures _ _ c.in_ok-q.was c.end_at.ensures
