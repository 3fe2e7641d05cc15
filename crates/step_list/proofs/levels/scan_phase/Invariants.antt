use Rattle.step_names.proofs.ScanLaws.{Passed}
use Rattle.step_names.specs.Parts.{accepted_on}
use Rattle.step_list.specs.Listing.{by_branch}
use Rattle.base_state.specs.Instances.{queues_of}
use Prim.Native.Nat.{◌-◌}
use Rattle.step_list.proofs.levels.scan_phase.Given as goal

abbrev pub invariant-loop-b : goal.invariant-loop-b
invariant-loop-b l = Passed (λ j. accepted_on l.t l.z (by_branch l.t (queues_of l.z) l.p l.i l.e l.f j)) l.b l.k l.left
