use mathlib.Core.Path.{◌∙◌}
use borrow.Author.Tests.{lt-leb}
use Rattle.state_check.proofs.CallLaws.{message_no, message_yes}
use Rattle.state_check.proofs.messages.message_fits.Goals as goal

pub returns-then-n-le-VALUES : goal.returns-then-n-le-VALUES
returns-then-n-le-VALUES c = message_yes _ _ _ _ c.length_at-n.ensures c.if-n-le-VALUES.true _ c.values_fit.ensures

pub returns-else-n-le-VALUES : goal.returns-else-n-le-VALUES
returns-else-n-le-VALUES c = lt-leb _ _ c.if-n-le-VALUES.false ∙ message_no _ _ _ _ c.length_at-n.ensures c.if-n-le-VALUES.false
