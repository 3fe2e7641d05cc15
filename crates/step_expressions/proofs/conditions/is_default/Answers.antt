use Rattle.meaning.specs.Conditions.{default_at}
use Rattle.step_expressions.proofs.conditions.is_default.Goals as goal

pub returns : goal.returns
unfolding default_at
returns c = rw (c.word.ensures, c.condition_at-x.ensures)
