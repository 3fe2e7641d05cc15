use Rattle.base_state.proofs.put_ready.Goals as goal

pub returns : goal.returns
returns c = rw (c.wide.ensures, c.less_one.ensures) at c.put.ensures
