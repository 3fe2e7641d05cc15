use Rattle.base_state.proofs.tokens_on.Goals as goal

pub returns : goal.returns
returns c = rw (c.wide.ensures, c.less_one.ensures) at c.word.ensures
