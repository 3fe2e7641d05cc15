use Rattle.draw_faults.specs.Amiss.{is_outside}
use Rattle.draw_links.proofs.TestLaws.{and_told}
use Rattle.draw_faults.proofs.OnceLaws.{outside_plain}
use Rattle.base_words.proofs.PickLaws.{and_yes, eqb_same, flag_is}
use borrow.Author.Tests.{not-false}
use mathlib.Core.Path.{◌∙◌}
use borrow.Author.Rules.{rules}
use mathlib.Core.Path.{ap}
use mathlib.Core.Bool.{not}
use Rattle.draw_faults.proofs.pools.is_outside_by.Goals as goal

pub is_outside-requires : goal.is_outside-requires
unfolding is_outside
is_outside-requires c = search rules

pub returns-then-not-plain : goal.returns-then-not-plain
unfolding is_outside
returns-then-not-plain c h = c.is_outside.ensures

pub is_outside-requires-then-n-j : goal.is_outside-requires-then-n-j
unfolding is_outside
is_outside-requires-then-n-j c = search rules

pub returns-then-n-j : goal.returns-then-n-j
unfolding is_outside
returns-then-n-j c h = c.is_outside-then-n-j.ensures

pub of_sort-requires : goal.of_sort-requires
unfolding is_outside
of_sort-requires c = search rules

pub source_of-requires : goal.source_of-requires
unfolding is_outside
source_of-requires c = search rules

pub returns-then-of_sort : goal.returns-then-of_sort
unfolding is_outside
returns-then-of_sort c h = and_yes _ _ _ (flag_is _ _ _ c.of_sort.ensures c.if-of_sort.true) (eqb_same _ _ _ c.source_of.ensures ∙ outside_plain _ _ _ (h (not-false _ (ap not c.if-not-plain.false)) _ c.if-n-j.false) (flag_is _ _ _ c.of_sort.ensures c.if-of_sort.true))

pub returns-else-of_sort : goal.returns-else-of_sort
unfolding is_outside
returns-else-of_sort c h = and_told _ _ _ c.of_sort.ensures c.if-of_sort.false
