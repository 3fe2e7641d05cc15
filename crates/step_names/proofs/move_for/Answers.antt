use Rattle.meaning.specs.Step.{move_named}
use Rattle.step_names.proofs.move_for.Goals as goal

pub returns : goal.returns
unfolding move_named
returns c = rw (c.mode_in.ensures, c.kind_in.ensures, c.element_for-el.ensures) at c.move_of.ensures
