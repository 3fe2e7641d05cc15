use Rattle.draw_model.specs.Drawn.{with_form}
use borrow.Author.Rules.{rules}
use Rattle.draw_model.proofs.element.put_form.Goals as goal

pub put-requires : goal.put-requires
unfolding with_form
put-requires c = search rules

pub returns : goal.returns
unfolding with_form
returns c = c.put.ensures
