use mathlib.Core.Path.{◌∙◌, refl, sym}
use native.Mathlib.Omega.{arith}
use Rattle.xml_markup.proofs.AheadLaws.{ahead_none, ahead_byte}
use Rattle.xml_markup.proofs.LeapLaws.{on_leap, ahead_leap}
use borrow.Author.Rules.{rules}
use Rattle.xml_markup.proofs.ahead.read_ahead.Goals as goal

pub loop-i-init : goal.loop-i-init
loop-i-init c = (refl, ahead_none _ _ _ _ _ c.requires)

pub returns-in_default : goal.returns-in_default
returns-in_default c = c.loop-i.invariant.1

pub take_name-t-requires : goal.take_name-t-requires
take_name-t-requires c = omega (arith, c.loop-i.invariant.1.fits)

pub returns-in_default-t : goal.returns-in_default-t
returns-in_default-t c = rw (c.take_name-t.ensures.1 c.in_default-t.is) c.loop-i.invariant.1

pub loop-i-smaller : goal.loop-i-smaller
loop-i-smaller c = omega (arith, on_leap _ c.leap-l.ensures)

pub loop-i-preserved : goal.loop-i-preserved
loop-i-preserved c = let taken = c.take_name-t.ensures.0 _ c.in-Some.is c.loop-i.invariant.1.rising in
    (search rules, ahead_leap _ _ _ _ _ _ c.leap-l.ensures (ahead_byte _ _ _ _ _ _ _ _ c.loop-i.invariant.1 c.loop-i-test.true _ (sym c.tried-a.ensures ∙ c.in-On.is) _ _ taken.0 taken.1))

pub returns : goal.returns
returns c = c.loop-i.invariant.1
