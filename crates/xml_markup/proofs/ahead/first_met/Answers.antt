use mathlib.Core.Path.{◌∙◌, sym}
use native.Mathlib.Omega.{arith}
use Rattle.xml_markup.specs.Tokens.{found}
use Rattle.xml_markup.proofs.LeapLaws.{on_leap, found_leap}
use Rattle.xml_markup.proofs.TokenLaws.{found_on, found_stops, found_end}
use borrow.Author.Rules.{rules}
use Rattle.xml_markup.proofs.ahead.first_met.Goals as goal

pub loop-i-init : goal.loop-i-init
unfolding found
loop-i-init c = (search rules, λ e up name k. sym (found_leap _ name c.leap_begin-b.ensures))

pub returns-in_default : goal.returns-in_default
returns-in_default c e up name k = sym (c.loop-i.invariant.1 (omega (arith, e, c.loop-i.invariant.0)) up name k) ∙ found_stops _ _ _ _ c.loop-i-test.true (c.met_at.ensures.1 (omega (arith, e, c.met_at.ensures.0)) up name k) _ c.byte.ensures _ c.moved-a.ensures c.in_default.not-On

pub loop-i-smaller : goal.loop-i-smaller
loop-i-smaller c = omega (arith, on_leap _ c.leap-l.ensures)

pub loop-i-preserved : goal.loop-i-preserved
loop-i-preserved c = (omega (arith, c.loop-i.invariant.0), λ e up name k. sym (found_on _ _ _ _ c.loop-i-test.true (c.met_at.ensures.1 (omega (arith, e, c.met_at.ensures.0)) up name k) _ c.byte.ensures _ c.moved-a.ensures _ c.in-On.is ∙ found_leap _ name c.leap-l.ensures) ∙ c.loop-i.invariant.1 (omega (arith, e, c.loop-i.invariant.0)) up name k)

pub returns : goal.returns
returns c e up name k = sym (c.loop-i.invariant.1 e up name k) ∙ found_end _ _ _ _ c.loop-i-test.false
