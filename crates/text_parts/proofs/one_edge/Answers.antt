use Rattle.text_parts.specs.Parts.{one_edge}
use Rattle.text_readers.proofs.ReadingLaws.{then_stopped, then_passed}
use Rattle.text_readers.proofs.KeepLaws.{stored}
use Rattle.text_parts.proofs.one_edge.Goals as goal

pub returns-in_err-q : goal.returns-in_err-q
unfolding one_edge
returns-in_err-q c = then_stopped _ _ _ _ _ _ _ c.number_in.ensures _ _ c.in_err-q.was c.from_residual.ensures.1

pub returns : goal.returns
unfolding one_edge
returns c = then_passed _ _ _ _ _ _ _ c.number_in.ensures _ _ c.in_ok-q.was (stored _ _ _ c.put.ensures)
