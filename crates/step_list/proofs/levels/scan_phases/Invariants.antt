use Rattle.step_names.proofs.ScanLaws.{Passed}
use Rattle.step_list.specs.Scanned.{scan_phase}
use Rattle.base_state.specs.Instances.{instances_of, queues_of}
use Prim.Native.Nat.{◌-◌}
use Rattle.step_list.proofs.levels.scan_phases.Given as goal

abbrev pub invariant-loop-f : goal.invariant-loop-f
invariant-loop-f l = Passed (scan_phase l.t (instances_of l.z) (queues_of l.z) l.p l.i l.e) l.f l.k l.left
