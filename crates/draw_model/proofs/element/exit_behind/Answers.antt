use Rattle.draw_model.specs.Drawn.{exit_behind}
use Rattle.base_words.specs.Words.{at}
use borrow.Author.Rules.{rules}
use Rattle.draw_model.proofs.element.exit_behind.Goals as goal

pub target_of-requires : goal.target_of-requires
unfolding exit_behind
target_of-requires c = search rules

pub first_with-requires : goal.first_with-requires
unfolding exit_behind
first_with-requires c = search rules

pub edge_of-requires : goal.edge_of-requires
unfolding exit_behind
edge_of-requires c = search rules

pub returns : goal.returns
unfolding exit_behind
returns c = rw (c.first_with.ensures, c.target_of.ensures) at c.edge_of.ensures
