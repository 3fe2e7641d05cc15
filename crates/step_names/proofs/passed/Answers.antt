use Rattle.step_names.specs.Parts.{scan}
use Rattle.step_names.proofs.passed.Goals as goal

pub returns : goal.returns
unfolding scan
returns c = rw c.blank_name.ensures
