use Rattle.draw_limits.specs.Excess.{is_condition_beyond}
use Rattle.draw_links.proofs.TestLaws.{and_told}
use Rattle.base_words.proofs.AllLaws.{ne_eqb_by}
use Rattle.base_words.proofs.PickLaws.{and_yes, eqb_same, flag_is}
use Rattle.base_words.specs.Words.{at}
use borrow.Author.Tests.{eq-eqb}
use mathlib.Core.Bool.{not}
use mathlib.Core.Path.{ap}
use borrow.Author.Rules.{rules}
use Rattle.draw_limits.proofs.is_condition_beyond.Goals as goal

pub of_sort-requires : goal.of_sort-requires
unfolding is_condition_beyond
of_sort-requires c = search rules

pub condition_beyond-requires : goal.condition_beyond-requires
unfolding is_condition_beyond
condition_beyond-requires c = search rules

pub within_of-requires : goal.within_of-requires
unfolding is_condition_beyond
within_of-requires c = search rules

pub is_guarded-requires : goal.is_guarded-requires
unfolding is_condition_beyond
is_guarded-requires c = search rules

pub returns-then-condition_beyond-ne0 : goal.returns-then-condition_beyond-ne0
unfolding is_condition_beyond
returns-then-condition_beyond-ne0 c = and_yes _ _ _ (flag_is _ _ _ c.of_sort.ensures c.if-of_sort.true) (and_yes _ _ _ (ap not (ne_eqb_by _ _ _ c.condition_beyond.ensures c.if-condition_beyond-ne0.true)) (rw c.within_of.ensures at c.is_guarded.ensures))

pub returns-else-condition_beyond-ne0 : goal.returns-else-condition_beyond-ne0
unfolding is_condition_beyond
returns-else-condition_beyond-ne0 c = and_yes _ _ _ (flag_is _ _ _ c.of_sort.ensures c.if-of_sort.true) (and_told _ _ _ (ap not (eqb_same _ _ _ c.condition_beyond.ensures)) (ap not (eq-eqb _ _ c.if-condition_beyond-ne0.false)))

pub returns-else-of_sort : goal.returns-else-of_sort
unfolding is_condition_beyond
returns-else-of_sort c = and_told _ _ _ c.of_sort.ensures c.if-of_sort.false
