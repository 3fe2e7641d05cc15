use Rattle.draw_limits.specs.Excess.{is_ninth}
use Rattle.base_bytes.proofs.OrLaws.{or_no, or_told}
use Rattle.base_words.proofs.AllLaws.{lt_leb_by'}
use Rattle.base_words.specs.Words.{at}
use borrow.Author.Tests.{le-leb}
use lib.Dec.{leb}
use mathlib.Core.Path.{ap}
use borrow.Author.Rules.{rules}
use Rattle.draw_limits.proofs.is_ninth.Goals as goal

pub source_of-requires : goal.source_of-requires
unfolding is_ninth
source_of-requires c = search rules

pub count_with-requires : goal.count_with-requires
unfolding is_ninth
count_with-requires c = search rules

pub target_of-requires : goal.target_of-requires
unfolding is_ninth
target_of-requires c = search rules

pub count_with-requires-else-count_with-ge-BRANCHES : goal.count_with-requires-else-count_with-ge-BRANCHES
unfolding is_ninth
count_with-requires-else-count_with-ge-BRANCHES c = search rules

pub returns-then-count_with-ge-BRANCHES : goal.returns-then-count_with-ge-BRANCHES
unfolding is_ninth
returns-then-count_with-ge-BRANCHES c = or_told _ _ _ (ap (leb 8) (rw c.source_of.ensures at c.count_with.ensures)) (le-leb _ _ c.if-count_with-ge-BRANCHES.true)

pub returns-else-count_with-ge-BRANCHES : goal.returns-else-count_with-ge-BRANCHES
unfolding is_ninth
returns-else-count_with-ge-BRANCHES c = or_no _ _ _ (lt_leb_by' _ _ _ (rw c.source_of.ensures at c.count_with.ensures) c.if-count_with-ge-BRANCHES.false) (ap (leb 8) (rw c.target_of.ensures at c.count_with-else-count_with-ge-BRANCHES.ensures))
