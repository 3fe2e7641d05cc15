use mathlib.Core.Path.{◌∙◌, sym}
use Prim.Native.Nat.{◌-◌}
use native.Mathlib.Omega.{arith}
use borrow.Author.Tests.{ltb-true, ltb-false}
use borrow.Author.Rules.{rules}
use Rattle.xml_markup.specs.Ahead.{key_of, key_at}
use Rattle.xml_markup.proofs.ShelfLaws.{word_less, word_not_less, last_below, before_last, between_end}
use Rattle.xml_markup.proofs.shelf.place_of.Goals as goal

pub returns-then-is_before : goal.returns-then-is_before
returns-then-is_before c = last_below _ _ _ _ (omega arith) (word_less _ _ _ _ c.kept_name.ensures _ c.is_before.ensures c.if-is_before.true)

pub loop-b-init : goal.loop-b-init
loop-b-init c = record { order = omega arith; within = omega arith; below = λ up j h. absurd (omega arith); above = λ up j h l. absurd (omega arith) }

pub halve-b-requires : goal.halve-b-requires
halve-b-requires c = (search rules, omega (arith, c.requires), c.loop-b.invariant)

pub loop-b-smaller : goal.loop-b-smaller
loop-b-smaller c = c.halve-b.ensures.0

pub loop-b-preserved : goal.loop-b-preserved
loop-b-preserved c = c.halve-b.ensures.1

pub returns : goal.returns
returns c =
    before_last _ _ _ _ _ _ (omega arith) (word_not_less _ _ _ _ c.kept_name.ensures _ c.is_before.ensures c.if-is_before.false)
    (between_end _ _ _ _ _ _ c.loop-b.invariant c.loop-b-test.false)
