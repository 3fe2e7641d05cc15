-- What is said of a log, piece by piece. Assumes nothing.
use Prim.Native.Nat.{ℕ}
use mathlib.Core.Path.{◌≡◌, refl, sym}
use mathlib.Core.Bool.{Bool, true, false, not, false≢true}
use mathlib.Core.List.{List, [], ◌++◌}
use lib.Dec.{eqb}
use lib.ListN.{length}
use borrow.Author.Tests.{eq-eqb, ne_eqb}
use Rattle.base_words.specs.Pick.{if◌then◌or_else◌}
use Rattle.base_words.specs.Text.{bytes}
use Rattle.write_decimals.specs.Decimals.{shown}
use Rattle.tool_print.specs.Judged.{beside_line, unlawful_line, judged_line}

pub beside_none : (b : Bool) (n : ℕ) → not b ≡ true → [] ≡ beside_line b n
unfolding beside_line if◌then◌or_else◌
beside_none true n h = absurd (false≢true h)
beside_none false n h = refl

pub beside_some : (b : Bool) (n : ℕ) → not b ≡ false → bytes " " ++ shown n ≡ beside_line b n
unfolding beside_line if◌then◌or_else◌
beside_some true n h = refl
beside_some false n h = absurd (false≢true (sym h))

pub lawful_said : (n beside own : ℕ) → n ≡ 0 → bytes "lawful\n" ≡ judged_line n beside own
unfolding judged_line if◌then◌or_else◌
lawful_said n beside own h = rw (eq-eqb n 0 h) refl

pub unlawful_said : (n beside own : ℕ) → (n ≡ 0 → ⊥) → unlawful_line n beside own ≡ judged_line n beside own
unfolding judged_line if◌then◌or_else◌
unlawful_said n beside own h = rw (ne_eqb n 0 h) refl
