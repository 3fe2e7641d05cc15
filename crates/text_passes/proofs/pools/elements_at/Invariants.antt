use Prim.Native.Nat.{◌-◌, ◌≤◌}
use mathlib.Core.Path.{◌≡◌}
use lib.ListN.{length}
use Rattle.base_words.specs.Counts.{elements}
use Rattle.text_passes.specs.Model.{elements_at}
use Rattle.text_passes.specs.Passes.{kept_element, kept_all, Passed}
use Rattle.text_passes.proofs.TurnLaws.{Elements}
use Rattle.text_passes.proofs.pools.elements_at.Given as goal

abbrev pub invariant-loop-n : goal.invariant-loop-n
invariant-loop-n l = Elements l.fills l.i l.text l.at l.n l.w (Passed (kept_all (kept_element l.fills l.i) 0) (elements_at l.text l.start) l.initial.w)
