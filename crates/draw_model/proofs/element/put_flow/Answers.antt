use Rattle.draw_model.specs.Drawn.{by_flow}
use Rattle.base_words.proofs.PickLaws.{flag_is, pick_no, pick_yes}
use Rattle.base_words.specs.Words.{at}
use mathlib.Core.Path.{refl}
use borrow.Author.Rules.{rules}
use Rattle.draw_model.proofs.element.put_flow.Goals as goal

pub of_sort-requires : goal.of_sort-requires
unfolding by_flow
of_sort-requires c = search rules

pub put_entry-requires : goal.put_entry-requires
unfolding by_flow
put_entry-requires c = search rules

pub put_leaving-requires : goal.put_leaving-requires
unfolding by_flow
put_leaving-requires c = search rules

pub returns-then-of_sort : goal.returns-then-of_sort
unfolding by_flow
returns-then-of_sort c = pick_yes _ _ _ _ (flag_is _ _ _ c.of_sort.ensures c.if-of_sort.true) (rw c.put_entry.ensures at c.put_leaving.ensures)

pub returns-else-of_sort : goal.returns-else-of_sort
unfolding by_flow
returns-else-of_sort c = pick_no _ _ _ _ (flag_is _ _ _ c.of_sort.ensures c.if-of_sort.false) refl
