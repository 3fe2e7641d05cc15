use Rattle.draw_model.specs.Drawn.{with_condition}
use Rattle.base_words.specs.Words.{at}
use borrow.Author.Rules.{rules}
use Rattle.draw_model.proofs.element.put_condition.Goals as goal

pub put_form-requires : goal.put_form-requires
unfolding with_condition
put_form-requires c = search rules

pub put_term-requires : goal.put_term-requires
unfolding with_condition
put_term-requires c = search rules

pub put_term-requires-2 : goal.put_term-requires-2
unfolding with_condition
put_term-requires-2 c = search rules

pub returns : goal.returns
unfolding with_condition
returns c = rw (c.put_term.ensures, c.put_form.ensures) at c.put_term-2.ensures
