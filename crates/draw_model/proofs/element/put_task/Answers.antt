use Rattle.draw_model.specs.Drawn.{with_task}
use Rattle.base_words.specs.Words.{at}
use borrow.Author.Rules.{rules}
use Rattle.draw_model.proofs.element.put_task.Goals as goal

pub task_of-requires : goal.task_of-requires
unfolding with_task
task_of-requires c = search rules

pub put-requires : goal.put-requires
unfolding with_task
put-requires c = search rules

pub put-requires-2 : goal.put-requires-2
unfolding with_task
put-requires-2 c = search rules

pub put_form-requires : goal.put_form-requires
unfolding with_task
put_form-requires c = search rules

pub returns : goal.returns
unfolding with_task
returns c = rw (c.put-2.ensures, c.put.ensures, c.task_of.ensures) at c.put_form.ensures
