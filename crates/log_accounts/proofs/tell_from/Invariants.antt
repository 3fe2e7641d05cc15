use Prim.Native.Nat.{◌-◌}
use lib.ListN.{length}
use Rattle.step_poll.specs.Poll.{settled_step, settled_post}
use Rattle.step_history.specs.History.{told_by, left_by}
use Rattle.log_text.specs.Logs.{lines_in, lines_from}
use Rattle.log_accounts.specs.Told.{acts_of, onward, nothing_told}
use Rattle.log_accounts.proofs.TellLaws.{Low, Comes}
use Rattle.log_accounts.proofs.tell_from.Given as goal

abbrev pub invariant-loop-step : goal.invariant-loop-step
invariant-loop-step l = Low l.b (length l.text - l._step) (length l.text)
    × Comes (settled_step l.t) settled_post l.m l.g (lines_in (length l.text - l._step) l.text l.c) l.b l.z (onward l.m l.g (nothing_told l.most) (told_by (settled_step l.t) settled_post (acts_of (lines_from l.text l.initial.c) l.most) l.initial.z)) (left_by (settled_step l.t) settled_post (acts_of (lines_from l.text l.initial.c) l.most) l.initial.z)
