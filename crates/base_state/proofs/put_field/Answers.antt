use Rattle.base_state.proofs.put_field.Goals as goal

pub returns : goal.returns
returns c = cc
