use Rattle.step_run.proofs.RunLaws.{Taken}
use Rattle.step_run.specs.Run.{ran_by}
use Rattle.step_list.specs.Scanned.{scanned}
use Rattle.step_take.specs.Settled.{settled}
use Rattle.base_state.specs.Instances.{instances_of, queues_of}
use Prim.Native.Nat.{◌-◌}
use Rattle.step_run.proofs.run_on.Given as goal

abbrev pub invariant-loop-steps : goal.invariant-loop-steps
invariant-loop-steps l = Taken (scanned l.t) (settled l.t) l.limit l.steps (instances_of l.z) (queues_of l.z) (ran_by (scanned l.t) (settled l.t) l.limit (instances_of l.initial.z) (queues_of l.initial.z))
