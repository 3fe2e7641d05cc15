use Prim.Native.Nat.{◌-◌}
use Rattle.step_poll.specs.Items.{acts_in}
use Rattle.step_poll.specs.Poll.{polled_by, settled_act}
use Rattle.step_poll.proofs.PollLaws.{Given}
use Rattle.step_poll.proofs.poll_on.Given as goal

abbrev pub invariant-loop-accepted : goal.invariant-loop-accepted
invariant-loop-accepted l = Given (settled_act l.t) l.items l.count l.accepted l.z (polled_by (settled_act l.t) (acts_in l.items l.count) l.initial.z)
