use Rattle.step_names.proofs.ScanLaws.{Passed}
use Rattle.step_list.specs.Scanned.{scan_pool}
use Rattle.base_state.specs.Instances.{instances_of, queues_of}
use Prim.Native.Nat.{◌-◌}
use Rattle.step_list.proofs.levels.scan_pools.Given as goal

abbrev pub invariant-loop-p : goal.invariant-loop-p
invariant-loop-p l = Passed (scan_pool l.t (instances_of l.z) (queues_of l.z)) l.p l.k l.left
