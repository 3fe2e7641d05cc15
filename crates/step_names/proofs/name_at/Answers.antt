use Rattle.step_names.specs.Names.{step_name}
use Rattle.step_names.proofs.name_at.Goals as goal

pub returns : goal.returns
unfolding step_name
returns c = rw (c.word.ensures, c.empty_tuple.ensures)
