use Rattle.text_bounds.proofs.BoundLaws.{many_yes, many_no}
use Rattle.text_bounds.proofs.too_many.Goals as goal
use Rattle.text_bounds.proofs.too_many.Goals.{then-item, else-item}

pub returns : goal.returns
returns c = elim c.if-item.branch [ then-item w ↦ rw w.number-is (many_yes _ _ _ c.token_at.ensures _ w.if-item.true) | else-item w ↦ rw w.number-is (many_no _ _ _ c.token_at.ensures _ w.if-item.false) ]
