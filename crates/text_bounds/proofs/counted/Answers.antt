use Rattle.text_bounds.proofs.BoundLaws.{too_few, enough}
use Rattle.text_bounds.proofs.counted.Goals as goal

pub returns-then-k-least : goal.returns-then-k-least
returns-then-k-least c = too_few _ _ _ c.token_at.ensures _ _ _ _ c.if-k-least.true

pub returns : goal.returns
returns c = enough _ _ _ _ _ _ _ c.if-k-least.false c.put.ensures
