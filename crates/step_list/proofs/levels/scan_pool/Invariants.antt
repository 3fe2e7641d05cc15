use Rattle.step_names.proofs.ScanLaws.{Passed}
use Rattle.step_list.specs.Scanned.{scan_made}
use Rattle.base_state.specs.Instances.{instances_of, queues_of}
use Prim.Native.Nat.{◌-◌}
use Rattle.step_list.proofs.levels.scan_pool.Given as goal

abbrev pub invariant-loop-i : goal.invariant-loop-i
invariant-loop-i l = Passed (scan_made l.t (instances_of l.z) (queues_of l.z) l.p) l.i l.k l.left
