-- Tests that fail, and one more of a number. Assumes nothing.
use Prim.Native.Nat.{ℕ, ◌+◌, ◌≤◌, ◌<◌}
use mathlib.Core.Path.{◌≡◌, refl, sym}
use mathlib.Core.Bool.{Bool, true, false, not, ◌&&◌, ◌||◌, false≢true}
use native.Mathlib.Omega.{arith}
use lib.Dec.{ltb}
use borrow.Author.Tests.{ltb-false}
use Rattle.base_words.specs.Pick.{if◌then◌or_else◌}
use Rattle.draw_things.specs.Things.{room, greatest_note, one_more}

pub and_then : (a b : Bool) → a ≡ true → a && b ≡ false → b ≡ false
and_then true b h e = e
and_then false b h e = absurd (false≢true h)

pub or_left : (a b : Bool) → a || b ≡ false → a ≡ false
or_left true b e = absurd (false≢true (sym e))
or_left false b e = refl

pub or_right : (a b : Bool) → a || b ≡ false → b ≡ false
or_right true b e = absurd (false≢true (sym e))
or_right false b e = e

pub more_low : (n : ℕ) → 1 ≤ one_more n
unfolding one_more
more_low n = go (ltb n greatest_note)
  where
    go : (b : Bool) → 1 ≤ (if b then n + 1 or_else greatest_note)
    go true = unfold if◌then◌or_else◌ in omega arith
    go false = unfold if◌then◌or_else◌ in omega arith

pub more_high : (n : ℕ) → one_more n ≤ n + 1
unfolding one_more
more_high n = go (ltb n greatest_note) refl
  where
    go : (b : Bool) → ltb n greatest_note ≡ b → (if b then n + 1 or_else greatest_note) ≤ n + 1
    go true e = unfold if◌then◌or_else◌ in omega arith
    go false e = unfold if◌then◌or_else◌ in let l = ltb-false n greatest_note e in omega (arith, l)

pub more_is : (n : ℕ) → n < room → one_more n ≡ n + 1
unfolding one_more
more_is n h = go (ltb n greatest_note) refl
  where
    go : (b : Bool) → ltb n greatest_note ≡ b → (if b then n + 1 or_else greatest_note) ≡ n + 1
    go true e = unfold if◌then◌or_else◌ in refl
    go false e = absurd (let l = ltb-false n greatest_note e in omega (arith, l, h))
