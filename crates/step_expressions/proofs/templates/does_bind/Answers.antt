use borrow.Author.Tests.{le-ltb}
use Rattle.base_words.proofs.PickLaws.{and_yes}
use Rattle.meaning.specs.Templates.{binds}
use Rattle.step_expressions.proofs.OrderLaws.{below_yes}
use Rattle.step_expressions.proofs.templates.does_bind.Goals as goal

pub returns-then-j-message_length : goal.returns-then-j-message_length
unfolding binds
returns-then-j-message_length c = and_yes _ _ _ (below_yes _ _ _ c.message_length.ensures c.if-j-message_length.true) (rw (c.word.ensures, c.item_at.ensures))

pub returns-else-j-message_length : goal.returns-else-j-message_length
unfolding binds
returns-else-j-message_length c = rw (← c.message_length.ensures, le-ltb _ _ c.if-j-message_length.false)
