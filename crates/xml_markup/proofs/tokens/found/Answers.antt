use mathlib.Core.Path.{◌∙◌, sym}
use Rattle.xml_markup.specs.Tokens.{found}
use Rattle.xml_markup.proofs.LeapLaws.{on_leap, found_leap}
use native.Mathlib.Omega.{arith}
use Rattle.xml_markup.proofs.TokenLaws.{found_here, found_on, found_stops, found_end}
use Rattle.xml_markup.proofs.tokens.found.Goals as goal

pub loop-i-init : goal.loop-i-init
unfolding found
loop-i-init c = sym (found_leap _ _ c.leap_begin-b.ensures)

pub returns-then-is_named : goal.returns-then-is_named
returns-then-is_named c = sym (found_here _ _ _ _ c.loop-i-test.true (sym c.is_named.ensures ∙ c.if-is_named.true)) ∙ c.loop-i.invariant

pub returns-in_default : goal.returns-in_default
returns-in_default c = sym (found_stops _ _ _ _ c.loop-i-test.true (sym c.is_named.ensures ∙ c.if-is_named.false) _ c.byte.ensures _ c.moved-a.ensures c.in_default.not-On) ∙ c.loop-i.invariant

pub loop-i-smaller : goal.loop-i-smaller
loop-i-smaller c = omega (arith, on_leap _ c.leap-l.ensures)

pub loop-i-preserved : goal.loop-i-preserved
loop-i-preserved c = sym (found_on _ _ _ _ c.loop-i-test.true (sym c.is_named.ensures ∙ c.if-is_named.false) _ c.byte.ensures _ c.moved-a.ensures _ c.in-On.is ∙ found_leap _ _ c.leap-l.ensures) ∙ c.loop-i.invariant

pub returns : goal.returns
returns c = sym (found_end _ _ _ _ c.loop-i-test.false) ∙ c.loop-i.invariant
