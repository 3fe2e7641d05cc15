use Prim.Native.Nat.{ℕ, ◌<◌}
use mathlib.Core.List.{List}
use Rattle.xml_markup.specs.Ahead.{key_at, key_of, Kept, Rising}
use Rattle.draw_faults.specs.Once.{IdIs}
use Rattle.draw_faults.proofs.repeats.none_kept.Given as goal

abbrev pub invariant-loop-y : goal.invariant-loop-y
invariant-loop-y l = Rising (key_at l.text) l.v l.m → (x : ℕ) → x < l.y → (u : List ℕ) → IdIs l.text l.w x u → Kept (key_at l.text) l.v l.m (key_of u) → ⊥
