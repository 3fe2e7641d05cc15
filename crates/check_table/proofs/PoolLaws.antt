-- What a call says of a range, the words from a pool's first element on, and an element cut out of a table. Assumes nothing.
use mathlib.Core.Path.{◌≡◌, ◌∙◌}
use mathlib.Core.Bool.{Bool, false, not}
use mathlib.Core.List.{List}
use Prim.Native.Nat.{ℕ, ◌+◌, ◌-◌, ◌*◌, ◌≤◌, ◌<◌}
use native.Mathlib.Omega.{arith}
use lib.Dec.{leb}
use lib.ListN.{length, drop, length-drop}
use borrow.Author.Tests.{leb-true}
use Rattle.base_words.specs.Words.{part}
use Rattle.base_words.specs.Counts.{pools, elements}
use Rattle.base_words.proofs.AllLaws.{and_right}
use Rattle.base_words.proofs.PickLaws.{flag_yes}
use Rattle.base_table.specs.Places.{element_words, element_place, table_words}
use Rattle.base_table.specs.Table.{element_at}
use Rattle.check_limits.specs.Limits.{within, held_fits}
use Rattle.check_limits.proofs.SameLaws.{held_cut}

-- what a call says of a range
pub top : (b : Bool) (low high n : ℕ) → b ≡ within low high n → not b ≡ false → n ≤ high
top b low high n e h = leb-true n high (and_right (leb low n) (leb n high) (flag_yes b (within low high n) e h))

-- the words from a pool's first element on
pub room : (t y : List ℕ) (p : ℕ) → y ≡ element_at t p 0 → p < pools → table_words ≤ length t → element_words * elements ≤ length y
room t y p e l h = rw (e, length-drop (element_place p 0) t) (omega arith)

-- an element cut out
pub cut_out : (x : List ℕ) (j : ℕ) (r : Bool) → r ≡ held_fits (part x (element_words * j) (element_words * j + element_words)) → r ≡ held_fits (drop (element_words * j) x)
cut_out x j r h = h ∙ held_cut (element_words * j + element_words - element_words * j) (drop (element_words * j) x) (omega arith)
