use Rattle.draw_limits.specs.Excess.{is_start_beyond}
use Rattle.draw_links.proofs.TestLaws.{and_told}
use Rattle.base_words.proofs.PickLaws.{and_yes, flag_is}
use Rattle.base_words.specs.Words.{at}
use lib.Dec.{ltb}
use mathlib.Core.Path.{ap}
use borrow.Author.Rules.{rules}
use Rattle.draw_limits.proofs.is_start_beyond.Goals as goal

pub within_of-requires : goal.within_of-requires
unfolding is_start_beyond
within_of-requires c = search rules

pub is_start-requires : goal.is_start-requires
unfolding is_start_beyond
is_start-requires c = search rules

pub first_edge_of-requires : goal.first_edge_of-requires
unfolding is_start_beyond
first_edge_of-requires c = search rules

pub returns-then-is_start : goal.returns-then-is_start
unfolding is_start_beyond
returns-then-is_start c = and_yes _ _ _ (flag_is _ _ _ (rw c.within_of.ensures at c.is_start.ensures) c.if-is_start.true) (ap (ltb 48) c.first_edge_of.ensures)

pub returns-else-is_start : goal.returns-else-is_start
unfolding is_start_beyond
returns-else-is_start c = and_told _ _ _ (rw c.within_of.ensures at c.is_start.ensures) c.if-is_start.false
