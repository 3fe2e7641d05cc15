use Rattle.check_table.proofs.ThingsLaws.{right_none, right_more, right_fails, right_done}
use Rattle.check_table.proofs.things.things_fit.Goals as goal

pub loop-j-init : goal.loop-j-init
loop-j-init g c = λ p h. right_none p _ _

pub returns-then-not-fits : goal.returns-then-not-fits
returns-then-not-fits g c = λ p h. right_fails p _ _ _ _ _ _ _ c.loop-j-test.true c.tail.ensures (h _ _ c.fits.ensures) c.if-not-fits.true

pub loop-j-preserved : goal.loop-j-preserved
loop-j-preserved g c = λ p h. right_more p _ _ _ _ _ (c.loop-j.invariant p h) c.tail.ensures (h _ _ c.fits.ensures) c.if-not-fits.false

pub returns : goal.returns
returns g c = λ p h. right_done p _ _ _ _ _ _ c.loop-j-test.false c.loop-j.auto.j-end (c.loop-j.invariant p h) c.zeros_behind.ensures
