-- What a kind receives and sends, and an element cut out. Assumes nothing.
use mathlib.Core.Path.{◌≡◌, ◌∙◌}
use mathlib.Core.Bool.{Bool}
use mathlib.Core.List.{List}
use Prim.Native.Nat.{ℕ, ◌≤◌}
use native.Mathlib.Omega.{arith}
use lib.ListN.{take}
use Rattle.base_kinds.specs.Kinds.{many, kind_of}
use Rattle.base_kinds.proofs.TableLaws.{receives_few, sends_few}
use lib.Seq.{get_or-take}
use Rattle.base_table.specs.Places.{element_words}
use Rattle.check_limits.proofs.SameLaws.{element_same}
use Rattle.check_limits.specs.Limits.{element_fits}

-- what a kind receives and sends is few, by what calls gave
pub few : (k r s : ℕ) → r ≡ (kind_of k).receives → s ≡ (kind_of k).sends → (r ≤ many) × (s ≤ many)
few k r s p q = (omega (arith, p, receives_few k), omega (arith, q, sends_few k))

-- its words cut out of what stands behind them
pub element_cut : (el : List ℕ) (r : Bool) → r ≡ element_fits (take element_words el) → r ≡ element_fits el
element_cut el r h = h ∙ element_same el (take element_words el) (λ i l. get_or-take element_words el i 0 l)
