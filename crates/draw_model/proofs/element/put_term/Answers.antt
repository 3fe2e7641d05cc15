use Rattle.draw_model.specs.Drawn.{with_term}
use Rattle.base_words.specs.Words.{at}
use borrow.Author.Rules.{rules}
use Rattle.draw_model.proofs.element.put_term.Goals as goal

pub put-requires : goal.put-requires
unfolding with_term
put-requires c = search rules

pub put-requires-2 : goal.put-requires-2
unfolding with_term
put-requires-2 c = search rules

pub returns : goal.returns
unfolding with_term
returns c = rw c.put.ensures at c.put-2.ensures
