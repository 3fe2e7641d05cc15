use mathlib.Core.Path.{◌∙◌, refl, sym}
use native.Mathlib.Nat.{le_antisymm}
use Rattle.draw_things.specs.Names.{row_named}
use Rattle.draw_things.proofs.NameLaws.{row_here, row_on, row_end}
use Rattle.draw_things.proofs.names.row_named.Goals as goal

pub loop-i-init : goal.loop-i-init
unfolding row_named
loop-i-init c = refl

pub returns-then-is_row : goal.returns-then-is_row
returns-then-is_row c = sym (row_here _ _ c.loop-i-test.true (sym c.is_row.ensures ∙ c.if-is_row.true)) ∙ c.loop-i.invariant

pub loop-i-preserved : goal.loop-i-preserved
loop-i-preserved c = sym (row_on _ _ c.loop-i-test.true (sym c.is_row.ensures ∙ c.if-is_row.false)) ∙ c.loop-i.invariant

pub returns : goal.returns
returns c = le_antisymm c.loop-i-test.false c.loop-i.auto.i-end ∙ sym (row_end _ _ c.loop-i-test.false) ∙ c.loop-i.invariant
