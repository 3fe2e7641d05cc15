use Rattle.write_buffer.proofs.OverLaws.{after, put_as}
use Rattle.write_shown.specs.Shown.{shown_task}
use Rattle.write_phrases.proofs.put_task.Goals as goal

pub returns : goal.returns
unfolding shown_task
returns c = put_as _ (rw (c.task_in.ensures, c.mode_in.ensures)) (after c.put_number-number.ensures (after c.put_byte-comma.ensures (after c.put_mode-mode.ensures (after c.put_byte-last.ensures c.put_work.ensures))))
