use Rattle.draw_limits.specs.Excess.{beyond_at}
use Rattle.base_words.proofs.PickLaws.{flag_is, pick_no, pick_yes}
use borrow.Author.Rules.{rules}
use Rattle.draw_limits.proofs.beyond_at.Goals as goal

pub of_sort-requires : goal.of_sort-requires
unfolding beyond_at
of_sort-requires c = search rules

pub value_place-requires : goal.value_place-requires
unfolding beyond_at
value_place-requires c = search rules

pub returns-then-of_sort : goal.returns-then-of_sort
unfolding beyond_at
returns-then-of_sort c = pick_yes _ _ _ _ (flag_is _ _ _ c.of_sort.ensures c.if-of_sort.true) c.value_place.ensures

pub of_sort-requires-2 : goal.of_sort-requires-2
unfolding beyond_at
of_sort-requires-2 c = search rules

pub condition_beyond-requires : goal.condition_beyond-requires
unfolding beyond_at
condition_beyond-requires c = search rules

pub returns-then-of_sort-2 : goal.returns-then-of_sort-2
unfolding beyond_at
returns-then-of_sort-2 c = pick_no _ _ _ _ (flag_is _ _ _ c.of_sort.ensures c.if-of_sort.false) (pick_yes _ _ _ _ (flag_is _ _ _ c.of_sort-2.ensures c.if-of_sort-2.true) c.condition_beyond.ensures)

pub place_of-requires : goal.place_of-requires
unfolding beyond_at
place_of-requires c = search rules

pub returns : goal.returns
unfolding beyond_at
returns c = pick_no _ _ _ _ (flag_is _ _ _ c.of_sort.ensures c.if-of_sort.false) (pick_no _ _ _ _ (flag_is _ _ _ c.of_sort-2.ensures c.if-of_sort-2.false) c.place_of.ensures)
