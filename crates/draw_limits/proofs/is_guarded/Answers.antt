use Rattle.draw_limits.specs.Excess.{is_guarded}
use Rattle.draw_links.proofs.TestLaws.{and_told}
use Rattle.base_words.proofs.PickLaws.{and_yes, eqb_same, flag_is}
use Rattle.base_words.specs.Words.{at}
use mathlib.Core.Bool.{not}
use mathlib.Core.Path.{ap}
use borrow.Author.Rules.{rules}
use Rattle.draw_limits.proofs.is_guarded.Goals as goal

pub source_of-gateway-requires : goal.source_of-gateway-requires
unfolding is_guarded
source_of-gateway-requires c = search rules

pub is_split-requires : goal.is_split-requires
unfolding is_guarded
is_split-requires c = search rules

pub default_of-requires : goal.default_of-requires
unfolding is_guarded
default_of-requires c = search rules

pub returns-then-is_split : goal.returns-then-is_split
unfolding is_guarded
returns-then-is_split c = and_yes _ _ _ (flag_is _ _ _ (rw c.source_of-gateway.ensures at c.is_split.ensures) c.if-is_split.true) (ap not (eqb_same _ _ _ (rw c.source_of-gateway.ensures at c.default_of.ensures)))

pub returns-else-is_split : goal.returns-else-is_split
unfolding is_guarded
returns-else-is_split c = and_told _ _ _ (rw c.source_of-gateway.ensures at c.is_split.ensures) c.if-is_split.false
