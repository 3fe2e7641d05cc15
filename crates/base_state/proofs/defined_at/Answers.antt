use Rattle.base_state.proofs.defined_at.Goals as goal

pub returns : goal.returns
returns c = cc
