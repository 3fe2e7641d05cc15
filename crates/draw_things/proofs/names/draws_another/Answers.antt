use mathlib.Core.Path.{◌∙◌, sym}
use Rattle.draw_things.specs.Names.{draws_another}
use Rattle.draw_things.proofs.AttributeLaws.{another_here, another_on, another_stops, another_leap, another_end}
use Rattle.xml_markup.proofs.LeapLaws.{on_leap}
use native.Mathlib.Omega.{arith}
use borrow.Author.Rules.{rules}
use Rattle.draw_things.proofs.names.draws_another.Goals as goal

pub leap_begin-b-requires : goal.leap_begin-b-requires
unfolding draws_another
leap_begin-b-requires c = search rules

pub loop-i-init : goal.loop-i-init
unfolding draws_another
loop-i-init c = sym (another_leap _ c.leap_begin-b.ensures)

pub differs_at-requires : goal.differs_at-requires
unfolding draws_another
differs_at-requires c = search rules

pub returns-then-differs_at : goal.returns-then-differs_at
unfolding draws_another
returns-then-differs_at c = sym (another_here _ _ _ c.loop-i-test.true (sym c.differs_at.ensures ∙ c.if-differs_at.true)) ∙ c.loop-i.invariant

pub byte-requires : goal.byte-requires
unfolding draws_another
byte-requires c = search rules

pub moved-a-requires : goal.moved-a-requires
unfolding draws_another
moved-a-requires c = search rules

pub returns-in_default : goal.returns-in_default
unfolding draws_another
returns-in_default c = sym (another_stops _ _ _ c.loop-i-test.true (sym c.differs_at.ensures ∙ c.if-differs_at.false) _ c.byte.ensures _ c.moved-a.ensures c.in_default.not-On) ∙ c.loop-i.invariant

pub leap-l-requires : goal.leap-l-requires
unfolding draws_another
leap-l-requires c = search rules

pub loop-i-smaller : goal.loop-i-smaller
unfolding draws_another
loop-i-smaller c = omega (arith, on_leap _ c.leap-l.ensures)

pub loop-i-preserved : goal.loop-i-preserved
unfolding draws_another
loop-i-preserved c = sym (another_on _ _ _ c.loop-i-test.true (sym c.differs_at.ensures ∙ c.if-differs_at.false) _ c.byte.ensures _ c.moved-a.ensures _ c.in-On.is ∙ another_leap _ c.leap-l.ensures) ∙ c.loop-i.invariant

pub returns : goal.returns
unfolding draws_another
returns c = sym (another_end _ _ _ c.loop-i-test.false) ∙ c.loop-i.invariant
