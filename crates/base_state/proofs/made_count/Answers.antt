use Rattle.base_state.proofs.made_count.Goals as goal

pub returns : goal.returns
returns c = rw c.wide.ensures at c.word.ensures
