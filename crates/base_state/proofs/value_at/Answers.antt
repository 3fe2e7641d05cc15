use Rattle.base_state.proofs.value_at.Goals as goal

pub returns : goal.returns
returns c = cc
