use Rattle.base_state.proofs.ready_count.Goals as goal

pub returns : goal.returns
returns c = rw (c.wide.ensures, c.less_one.ensures) at c.word.ensures
