use Rattle.draw_limits.specs.Excess.{is_message_beyond}
use Rattle.draw_links.proofs.TestLaws.{and_told}
use Rattle.base_words.proofs.PickLaws.{and_yes, flag_is}
use lib.Dec.{leb}
use mathlib.Core.Path.{ap}
use borrow.Author.Rules.{rules}
use Rattle.draw_limits.proofs.is_message_beyond.Goals as goal

pub of_sort-requires : goal.of_sort-requires
unfolding is_message_beyond
of_sort-requires c = search rules

pub is_used-requires : goal.is_used-requires
unfolding is_message_beyond
is_used-requires c = search rules

pub message_of-requires : goal.message_of-requires
unfolding is_message_beyond
message_of-requires c = search rules

pub returns-then-is_used : goal.returns-then-is_used
unfolding is_message_beyond
returns-then-is_used c = and_yes _ _ _ (flag_is _ _ _ c.of_sort.ensures c.if-of_sort.true) (and_yes _ _ _ (flag_is _ _ _ c.is_used.ensures c.if-is_used.true) (ap (leb 16) c.message_of.ensures))

pub returns-else-is_used : goal.returns-else-is_used
unfolding is_message_beyond
returns-else-is_used c = and_yes _ _ _ (flag_is _ _ _ c.of_sort.ensures c.if-of_sort.true) (and_told _ _ _ c.is_used.ensures c.if-is_used.false)

pub returns-else-of_sort : goal.returns-else-of_sort
unfolding is_message_beyond
returns-else-of_sort c = and_told _ _ _ c.of_sort.ensures c.if-of_sort.false
