use Rattle.draw_limits.specs.Excess.{is_maximum_beyond}
use Rattle.draw_links.proofs.TestLaws.{and_told}
use Rattle.base_words.proofs.PickLaws.{and_yes, flag_is}
use Rattle.base_words.specs.Words.{at}
use mathlib.Core.Bool.{not}
use mathlib.Core.Path.{ap}
use borrow.Author.Rules.{rules}
use Rattle.draw_limits.proofs.is_maximum_beyond.Goals as goal

pub of_sort-requires : goal.of_sort-requires
unfolding is_maximum_beyond
of_sort-requires c = search rules

pub is_owned-requires : goal.is_owned-requires
unfolding is_maximum_beyond
is_owned-requires c = search rules

pub maximum_of-requires : goal.maximum_of-requires
unfolding is_maximum_beyond
maximum_of-requires c = search rules

pub is_limit-requires : goal.is_limit-requires
unfolding is_maximum_beyond
is_limit-requires c = search rules

pub returns-then-is_owned : goal.returns-then-is_owned
unfolding is_maximum_beyond
returns-then-is_owned c = and_yes _ _ _ (flag_is _ _ _ c.of_sort.ensures c.if-of_sort.true) (and_yes _ _ _ (flag_is _ _ _ c.is_owned.ensures c.if-is_owned.true) (ap not (rw c.maximum_of.ensures at c.is_limit.ensures)))

pub returns-else-is_owned : goal.returns-else-is_owned
unfolding is_maximum_beyond
returns-else-is_owned c = and_yes _ _ _ (flag_is _ _ _ c.of_sort.ensures c.if-of_sort.true) (and_told _ _ _ c.is_owned.ensures c.if-is_owned.false)

pub returns-else-of_sort : goal.returns-else-of_sort
unfolding is_maximum_beyond
returns-else-of_sort c = and_told _ _ _ c.of_sort.ensures c.if-of_sort.false
