use Rattle.draw_model.specs.Drawn.{with_first}
use Rattle.base_words.proofs.PickLaws.{flag_is, pick_no, pick_yes}
use Rattle.base_words.specs.Words.{at}
use mathlib.Core.Path.{refl}
use borrow.Author.Rules.{rules}
use Rattle.draw_model.proofs.element.put_first.Goals as goal

pub within_of-p-requires : goal.within_of-p-requires
unfolding with_first
within_of-p-requires c = search rules

pub is_task-requires : goal.is_task-requires
unfolding with_first
is_task-requires c = search rules

pub put_task-requires : goal.put_task-requires
unfolding with_first
put_task-requires c = search rules

pub returns-then-is_task : goal.returns-then-is_task
unfolding with_first
returns-then-is_task c = pick_yes _ _ _ _ (flag_is _ _ _ (rw c.within_of-p.ensures at c.is_task.ensures) c.if-is_task.true) c.put_task.ensures

pub is_start-requires : goal.is_start-requires
unfolding with_first
is_start-requires c = search rules

pub first_edge_of-requires : goal.first_edge_of-requires
unfolding with_first
first_edge_of-requires c = search rules

pub put_edge-requires : goal.put_edge-requires
unfolding with_first
put_edge-requires c = search rules

pub returns-then-is_start : goal.returns-then-is_start
unfolding with_first
returns-then-is_start c = pick_no _ _ _ _ (flag_is _ _ _ (rw c.within_of-p.ensures at c.is_task.ensures) c.if-is_task.false) (pick_yes _ _ _ _ (flag_is _ _ _ (rw c.within_of-p.ensures at c.is_start.ensures) c.if-is_start.true) (rw c.first_edge_of.ensures at c.put_edge.ensures))

pub returns-else-is_start : goal.returns-else-is_start
unfolding with_first
returns-else-is_start c = pick_no _ _ _ _ (flag_is _ _ _ (rw c.within_of-p.ensures at c.is_task.ensures) c.if-is_task.false) (pick_no _ _ _ _ (flag_is _ _ _ (rw c.within_of-p.ensures at c.is_start.ensures) c.if-is_start.false) refl)
