use Rattle.base_words.proofs.PickLaws.{and_yes}
use Rattle.base_words.proofs.PickLaws.{flag_is}
use Rattle.base_words.specs.Words.{at}
use Rattle.draw_diagnose.specs.Seats.{is_own_message}
use Rattle.draw_links.proofs.TestLaws.{and_told}
use borrow.Author.Rules.{rules}
use Rattle.draw_diagnose.proofs.seats.is_own_message.Goals as goal

pub of_sort-requires : goal.of_sort-requires
unfolding is_own_message
of_sort-requires c = search rules

pub source_of-requires : goal.source_of-requires
unfolding is_own_message
source_of-requires c = search rules

pub target_of-requires : goal.target_of-requires
unfolding is_own_message
target_of-requires c = search rules

pub joins_own-requires : goal.joins_own-requires
unfolding is_own_message
joins_own-requires c = search rules

pub returns-then-of_sort : goal.returns-then-of_sort
unfolding is_own_message
returns-then-of_sort c = and_yes _ _ _ (flag_is _ _ _ c.of_sort.ensures c.if-of_sort.true) (rw (c.source_of.ensures, c.target_of.ensures) at c.joins_own.ensures)

pub returns-else-of_sort : goal.returns-else-of_sort
unfolding is_own_message
returns-else-of_sort c = and_told _ _ _ c.of_sort.ensures c.if-of_sort.false
