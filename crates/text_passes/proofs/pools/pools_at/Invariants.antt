use Prim.Native.Nat.{◌-◌, ◌≤◌}
use mathlib.Core.Path.{◌≡◌}
use lib.ListN.{length}
use Rattle.base_words.specs.Counts.{pools}
use Rattle.text_passes.specs.Model.{pools_at}
use Rattle.text_passes.specs.Passes.{kept_pool, kept_all, Passed}
use Rattle.text_passes.proofs.TurnLaws.{Pools}
use Rattle.text_passes.proofs.pools.pools_at.Given as goal

abbrev pub invariant-loop-i : goal.invariant-loop-i
invariant-loop-i l = Pools l.fills l.text l.at l.i l.w (Passed (kept_all (kept_pool l.fills) 0) (pools_at l.text l.start) l.initial.w)
