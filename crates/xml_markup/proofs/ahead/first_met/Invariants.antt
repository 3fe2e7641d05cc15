use mathlib.Core.Path.{◌≡◌}
use mathlib.Core.List.{List}
use Prim.Native.Nat.{ℕ, ◌-◌, ◌≤◌}
use lib.ListN.{length, drop}
use Rattle.xml_markup.specs.Tokens.{found_from, found}
use Rattle.xml_markup.specs.Ahead.{key_of, key_at, Rising, Kept}
use Rattle.xml_markup.proofs.ahead.first_met.Given as goal

abbrev pub invariant-loop-i : goal.invariant-loop-i
invariant-loop-i l = (l.first ≤ 4294967296) × (l.first ≡ 4294967296 → Rising (key_at l.all) l.v l.n → (name : List ℕ) → Kept (key_at l.all) l.v l.n (key_of name) → found_from l.text name l.c (drop l.i l.text) l.i ≡ found l.text name l.start)

abbrev pub decreases-loop-i : goal.decreases-loop-i
decreases-loop-i l = length l.text - l.i
