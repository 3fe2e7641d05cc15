use Rattle.text_passes.proofs.PoolLaws.{closing_passed, closing-stopped, elements_stopped}
use Rattle.text_passes.proofs.pools.pool_inside.Goals as goal

pub returns-in_err-q : goal.returns-in_err-q
returns-in_err-q c = elements_stopped _ _ _ _ _ _ _ _ _ _ c.elements_of.ensures.passed c.elements_of.ensures.passed_2 _ _ c.in_err-q.was c.from_residual.ensures.1

pub returns-in_err-end : goal.returns-in_err-end
returns-in_err-end c = closing-stopped _ _ _ _ _ _ _ _ _ _ c.elements_of.ensures.passed c.elements_of.ensures.passed_2 _ c.in_ok-q.was _ _ c.closing.ensures _ _ c.in_err-end.was c.from_residual-in_err-end.ensures.1

pub returns : goal.returns
returns c = closing_passed _ _ _ _ _ _ _ _ _ _ c.elements_of.ensures.passed c.elements_of.ensures.passed_2 _ c.in_ok-q.was _ _ c.closing.ensures _ _ _ _ c.in_ok-end.was c.word.ensures c.word-2.ensures c.keep_head.ensures
