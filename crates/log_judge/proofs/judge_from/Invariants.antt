use Prim.Native.Nat.{◌-◌, ◌≤◌}
use mathlib.Core.Path.{◌≡◌}
use lib.ListN.{length}
use Rattle.log_text.specs.Logs.{lines_in, lines_from}
use Rattle.step_poll.specs.Poll.{settled_step, settled_post}
use Rattle.log_judge.specs.Judge.{line_taken, judged_by, left_by_lines}
use Rattle.log_judge.proofs.judge_from.Given as goal

abbrev pub invariant-loop-step : goal.invariant-loop-step
invariant-loop-step l = (l.ordinal ≤ l._step)
    × (judged_by (line_taken (settled_step l.t) settled_post) (lines_in (length l.text - l._step) l.text l.c) l.ordinal l.z ≡ judged_by (line_taken (settled_step l.t) settled_post) (lines_from l.text l.initial.c) 0 l.initial.z)
    × (left_by_lines (line_taken (settled_step l.t) settled_post) (lines_in (length l.text - l._step) l.text l.c) l.z ≡ left_by_lines (line_taken (settled_step l.t) settled_post) (lines_from l.text l.initial.c) l.initial.z)
