use Prim.Native.Nat.{◌≤◌}
use lib.ListN.{length}
use Rattle.draw_faults.specs.Once.{Shelved}
use Rattle.draw_faults.proofs.repeats.are_shelved.Given as goal

abbrev pub invariant-loop-k : goal.invariant-loop-k
invariant-loop-k l = (l.m ≤ length l.v) × Shelved l.text l.w l.b l.k l.v l.m
