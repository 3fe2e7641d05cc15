use Rattle.draw_limits.specs.Excess.{is_limit}
use Rattle.draw_links.proofs.TestLaws.{and_told}
use Rattle.base_words.proofs.PickLaws.{and_yes}
use borrow.Author.Tests.{le-leb, lt-leb}
use mathlib.Core.Path.{refl}
use Rattle.draw_limits.proofs.is_limit.Goals as goal

pub returns-then-v-ge1 : goal.returns-then-v-ge1
unfolding is_limit
returns-then-v-ge1 c = and_yes _ _ _ (le-leb _ _ c.if-v-ge1.true) refl

pub returns-else-v-ge1 : goal.returns-else-v-ge1
unfolding is_limit
returns-else-v-ge1 c = and_told _ _ _ refl (lt-leb _ _ c.if-v-ge1.false)
