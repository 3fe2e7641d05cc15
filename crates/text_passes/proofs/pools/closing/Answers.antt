use Rattle.text_passes.proofs.PoolLaws.{closed-multiple, closed-plain}
use Rattle.text_passes.proofs.pools.closing.Goals as goal

pub returns-then-k-eq-PLAIN : goal.returns-then-k-eq-PLAIN
returns-then-k-eq-PLAIN c = closed-plain _ _ _ _ _ c.if-k-eq-PLAIN.true c.sign_at.ensures

pub returns : goal.returns
returns c = closed-multiple _ _ _ _ _ c.if-k-eq-PLAIN.false c.number_between.ensures
