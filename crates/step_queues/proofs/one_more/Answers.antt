use Rattle.std.proofs.Common.{refl}
use borrow.Author.Tests.{lt-ltb, le-ltb}
use Rattle.base_words.proofs.PickLaws.{pick_yes, pick_no}
use Rattle.step_queues.specs.Changes.{one_more}
use Rattle.step_queues.proofs.one_more.Goals as goal

pub returns-then-n-lt-MESSAGES : goal.returns-then-n-lt-MESSAGES
unfolding one_more
returns-then-n-lt-MESSAGES c = pick_yes _ _ _ _ (lt-ltb _ _ c.if-n-lt-MESSAGES.true) refl

pub returns-else-n-lt-MESSAGES : goal.returns-else-n-lt-MESSAGES
unfolding one_more
returns-else-n-lt-MESSAGES c = pick_no _ _ _ _ (le-ltb _ _ c.if-n-lt-MESSAGES.false) refl
