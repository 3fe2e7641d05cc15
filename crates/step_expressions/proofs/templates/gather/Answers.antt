use Rattle.meaning.specs.Templates.{gathered}
use Rattle.step_expressions.proofs.templates.gather.Goals as goal

pub returns : goal.returns
unfolding gathered
returns c = rw (c.all_defined.ensures, c.number_in.ensures, c.number_in-2.ensures, c.number_in-3.ensures, c.number_in-4.ensures)
