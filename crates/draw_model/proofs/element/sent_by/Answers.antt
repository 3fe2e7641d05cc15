use Rattle.draw_model.specs.Drawn.{sent_by}
use Rattle.base_words.specs.Words.{at}
use borrow.Author.Rules.{rules}
use Rattle.draw_model.proofs.element.sent_by.Goals as goal

pub first_with-requires : goal.first_with-requires
unfolding sent_by
first_with-requires c = search rules

pub message_of-requires : goal.message_of-requires
unfolding sent_by
message_of-requires c = search rules

pub returns : goal.returns
unfolding sent_by
returns c = rw c.first_with.ensures at c.message_of.ensures
