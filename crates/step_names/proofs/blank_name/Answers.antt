use Rattle.step_names.proofs.blank_name.Goals as goal

pub returns : goal.returns
returns c = rw c.empty_tuple.ensures
