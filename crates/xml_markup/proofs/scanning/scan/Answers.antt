use mathlib.Core.Path.{◌∙◌, sym}
use native.Mathlib.Omega.{arith}
use Rattle.xml_markup.specs.Markup.{scan}
use Rattle.xml_markup.proofs.ScanLaws.{scan_on, scan_stops, scan_end}
use Rattle.xml_markup.proofs.AheadLaws.{advance-moved, reached_begun, reached_byte}
use Rattle.xml_markup.proofs.LeapLaws.{on_leap, scan_leap, reached_leap}
use Rattle.xml_markup.proofs.scanning.scan.Goals as goal

pub read_new-f-requires : goal.read_new-f-requires
read_new-f-requires c = reached_leap _ _ c.leap_begin-b.ensures (reached_begun _ _)

pub loop-i-init : goal.loop-i-init
unfolding scan
loop-i-init c = (sym (scan_leap _ _ c.leap_begin-b.ensures ∙ c.read_new-f.ensures.same), c.read_new-f.ensures.reached)

pub returns-in_default : goal.returns-in_default
returns-in_default c = sym (scan_stops _ _ _ _ c.loop-i-test.true _ c.advance-a.ensures c.in_default.not-On) ∙ c.loop-i.invariant.0

pub read_new-r-requires : goal.read_new-r-requires
read_new-r-requires c = reached_leap _ _ c.leap-l.ensures
    (reached_byte c.args.text.now c.args.p c.loop-i.c c.loop-i.i c.loop-i-test.true c.loop-i.invariant.1 _ (advance-moved _ _ _ _ _ (sym c.advance-a.ensures ∙ c.in-On.is)))

pub loop-i-smaller : goal.loop-i-smaller
loop-i-smaller c = omega (arith, c.read_new-r.ensures.on, on_leap _ c.leap-l.ensures)

pub loop-i-preserved : goal.loop-i-preserved
loop-i-preserved c = (sym (scan_on _ _ _ _ c.loop-i-test.true _ c.advance-a.ensures _ c.in-On.is ∙ scan_leap _ _ c.leap-l.ensures ∙ c.read_new-r.ensures.same) ∙ c.loop-i.invariant.0, c.read_new-r.ensures.reached)

pub returns : goal.returns
returns c = sym (scan_end _ _ _ _ c.loop-i-test.false) ∙ c.loop-i.invariant.0
