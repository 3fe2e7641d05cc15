use Rattle.engine.specs.Desk.{figured_to}
use Rattle.engine.proofs.figures.Goals as goal

pub returns : goal.returns
unfolding figured_to
returns c = rw (← c.lent_number.ensures.0) c.figure_in.ensures
