use Rattle.meaning.specs.Templates.{evaluated}
use Rattle.step_expressions.proofs.templates.evaluate.Goals as goal

pub returns : goal.returns
unfolding evaluated
returns c = rw (c.message_length-n.ensures, c.item_value-u.ensures, c.item_value-v.ensures, c.item_value-w.ensures, c.item_value-x.ensures) at c.gather.ensures
