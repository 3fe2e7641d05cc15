use Rattle.draw_numbers.proofs.FoundLaws.{or_on}
use Rattle.draw_limits.specs.Excess.{is_flow_beyond}
use Rattle.base_bytes.proofs.OrLaws.{or_told}
use Rattle.draw_links.proofs.TestLaws.{and_told}
use Rattle.base_words.proofs.PickLaws.{and_yes, flag_is}
use borrow.Author.Rules.{rules}
use Rattle.draw_limits.proofs.is_flow_beyond.Goals as goal

pub of_sort-requires : goal.of_sort-requires
unfolding is_flow_beyond
of_sort-requires c = search rules

pub is_one_too_many-requires : goal.is_one_too_many-requires
unfolding is_flow_beyond
is_one_too_many-requires c = search rules

pub is_ninth-requires : goal.is_ninth-requires
unfolding is_flow_beyond
is_ninth-requires c = search rules

pub returns-then-is_one_too_many : goal.returns-then-is_one_too_many
unfolding is_flow_beyond
returns-then-is_one_too_many c = and_yes _ _ _ (flag_is _ _ _ c.of_sort.ensures c.if-of_sort.true) (or_told _ _ _ c.is_one_too_many.ensures c.if-is_one_too_many.true)

pub returns-else-is_one_too_many : goal.returns-else-is_one_too_many
unfolding is_flow_beyond
returns-else-is_one_too_many c = and_yes _ _ _ (flag_is _ _ _ c.of_sort.ensures c.if-of_sort.true) (or_on _ _ _ _ c.is_one_too_many.ensures c.if-is_one_too_many.false c.is_ninth.ensures)

pub returns-else-of_sort : goal.returns-else-of_sort
unfolding is_flow_beyond
returns-else-of_sort c = and_told _ _ _ c.of_sort.ensures c.if-of_sort.false
