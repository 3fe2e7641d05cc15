use Rattle.step_names.specs.Parts.{ready_for}
use Rattle.step_names.proofs.is_ready.Goals as goal

pub returns : goal.returns
unfolding ready_for
returns c = rw (c.number_before.ensures, c.move_for-v.ensures, c.element_for-el.ensures)
