use Rattle.step_names.proofs.ScanLaws.{Passed}
use Rattle.step_names.specs.Parts.{accepted_on, by_message}
use Rattle.base_state.specs.Instances.{queues_of}
use Prim.Native.Nat.{◌-◌}
use Rattle.step_names.proofs.scan_messages.Given as goal

abbrev pub invariant-loop-place : goal.invariant-loop-place
invariant-loop-place l = Passed (λ j. accepted_on l.t l.z (by_message (queues_of l.z) l.n l.m j)) l.place l.k l.left
