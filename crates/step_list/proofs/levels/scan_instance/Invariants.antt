use Rattle.step_names.proofs.ScanLaws.{Passed}
use Rattle.step_list.specs.Scanned.{scan_element}
use Rattle.base_state.specs.Instances.{instances_of, queues_of}
use Prim.Native.Nat.{◌-◌}
use Rattle.step_list.proofs.levels.scan_instance.Given as goal

abbrev pub invariant-loop-e : goal.invariant-loop-e
invariant-loop-e l = Passed (scan_element l.t (instances_of l.z) (queues_of l.z) l.p l.i) l.e l.k l.left
