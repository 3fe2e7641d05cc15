use Rattle.draw_model.specs.Drawn.{received_by}
use Rattle.base_words.specs.Words.{at}
use borrow.Author.Rules.{rules}
use Rattle.draw_model.proofs.element.received_by.Goals as goal

pub first_with-requires : goal.first_with-requires
unfolding received_by
first_with-requires c = search rules

pub message_of-requires : goal.message_of-requires
unfolding received_by
message_of-requires c = search rules

pub returns : goal.returns
unfolding received_by
returns c = rw c.first_with.ensures at c.message_of.ensures
