-- In a valid table the exits of an element differ. Assumes nothing.
use Prim.Native.Nat.{ℕ, ◌<◌}
use mathlib.Core.Path.{◌≡◌}
use mathlib.Core.Bool.{true}
use mathlib.Core.List.{List}
use Rattle.base_table.specs.Table.{pool_count, element_count, element_at}
use Rattle.proof_steps.proofs.NoSaturation.{ExitsApart}
use Rattle.engine.specs.Engine.{valid}
use Rattle.proof_lengths.proofs.ExitsOnce.{exits_apart as apart_by}
use Rattle.proof_valid.proofs.ChecksHold.{valid_fits, valid_sound}

module _ (t : List ℕ) (v : valid t ≡ true) (p : ℕ) (there : p < pool_count t) where
  pub exits_apart : (e : ℕ) → e < element_count t p → ExitsApart (element_at t p e)
  exits_apart = apart_by t (valid_fits t v) (valid_sound t v) p there
