use Rattle.step_names.specs.Parts.{worked_for}
use Rattle.step_names.proofs.worked_for.Goals as goal

pub returns : goal.returns
unfolding worked_for
returns c = rw (c.expect-worked.ensures, c.empty_tuple.ensures, c.move_for-v.ensures, c.element_for-el.ensures)
