use Rattle.draw_model.specs.Drawn.{with_branch}
use Rattle.base_words.specs.Words.{at}
use borrow.Author.Rules.{rules}
use Rattle.draw_model.proofs.element.put_branch.Goals as goal

pub word-b-requires : goal.word-b-requires
unfolding with_branch
word-b-requires c = search rules

pub target_of-requires : goal.target_of-requires
unfolding with_branch
target_of-requires c = search rules

pub received_by-message-requires : goal.received_by-message-requires
unfolding with_branch
received_by-message-requires c = search rules

pub put-requires : goal.put-requires
unfolding with_branch
put-requires c = search rules

pub exit_behind-requires : goal.exit_behind-requires
unfolding with_branch
exit_behind-requires c = search rules

pub put_edge-requires : goal.put_edge-requires
unfolding with_branch
put_edge-requires c = search rules

pub returns : goal.returns
unfolding with_branch
returns c = rw (c.put.ensures, c.exit_behind.ensures, c.received_by-message.ensures, c.target_of.ensures, c.word-b.ensures) at c.put_edge.ensures
