use Rattle.std.proofs.Common.{◌≡◌, List, ℕ, Bool, Bor}
use Rattle.check_table.proofs.ThingsLaws.{Right}
use Rattle.check_table.proofs.things.things_fit.Given as goal

abbrev pub invariant-loop-j : goal.invariant-loop-j
invariant-loop-j g l = (p : List ℕ → Bool) → ((y : Bor (List ℕ)) (r : Bool) → goal.F-post g l.fits y r → r ≡ p y.now) → Right p l.x l.width l.j
