use Rattle.draw_limits.specs.Excess.{is_one_too_many}
use Rattle.draw_links.proofs.TestLaws.{and_told}
use Rattle.base_words.proofs.PickLaws.{and_yes, flag_is}
use Rattle.base_words.specs.Words.{at}
use lib.Dec.{leb}
use mathlib.Core.Path.{ap}
use borrow.Author.Rules.{rules}
use Rattle.draw_limits.proofs.is_one_too_many.Goals as goal

pub within_of-p-requires : goal.within_of-p-requires
unfolding is_one_too_many
within_of-p-requires c = search rules

pub is_of-requires : goal.is_of-requires
unfolding is_one_too_many
is_of-requires c = search rules

pub count_of-requires : goal.count_of-requires
unfolding is_one_too_many
count_of-requires c = search rules

pub returns-then-is_of : goal.returns-then-is_of
unfolding is_one_too_many
returns-then-is_of c = and_yes _ _ _ (flag_is _ _ _ (rw c.within_of-p.ensures at c.is_of.ensures) c.if-is_of.true) (ap (leb _) (rw c.within_of-p.ensures at c.count_of.ensures))

pub returns-else-is_of : goal.returns-else-is_of
unfolding is_one_too_many
returns-else-is_of c = and_told _ _ _ (rw c.within_of-p.ensures at c.is_of.ensures) c.if-is_of.false
