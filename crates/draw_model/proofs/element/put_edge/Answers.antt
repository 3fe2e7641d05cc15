use Rattle.draw_model.specs.Drawn.{with_edge}
use mathlib.Core.Path.{refl}
use borrow.Author.Rules.{rules}
use Rattle.draw_model.proofs.element.put_edge.Goals as goal

pub word-count-requires : goal.word-count-requires
unfolding with_edge
word-count-requires c = search rules

pub put-requires : goal.put-requires
unfolding with_edge
put-requires c = search rules

pub next_number-requires : goal.next_number-requires
unfolding with_edge
next_number-requires c = search rules

pub put-requires-2 : goal.put-requires-2
unfolding with_edge
put-requires-2 c = search rules

pub returns : goal.returns
unfolding with_edge
returns c = rw (c.put-2.ensures, c.put.ensures, c.next_number.ensures, c.word-count.ensures) refl
