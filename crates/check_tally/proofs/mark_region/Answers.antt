use Rattle.std.proofs.Common.{ap}
use Rattle.check_tally.specs.Tally.{region_marks, place}
use Rattle.check_tally.proofs.TallyLaws.{tally_none, tally-more, tally_done}
use Rattle.check_tally.proofs.mark_region.Goals as goal

pub loop-j-init : goal.loop-j-init
loop-j-init g c = λ f h. tally_none (λ i. place c.args.from c.args.most (f i)) _

pub loop-j-preserved : goal.loop-j-preserved
loop-j-preserved g c = λ f h.
    tally-more (λ i. place c.args.from c.args.most (f i)) _ _ _ _ _ (c.loop-j.invariant f h)
    (ap (place c.args.from c.args.most) (h _ _ c.loop-j-test.true c.number.ensures)) c.mark.ensures

pub returns : goal.returns
unfolding region_marks
returns g c = λ f h. tally_done (λ i. place c.args.from c.args.most (f i)) _ _ _ _ c.loop-j-test.false c.loop-j.auto.j-end (c.loop-j.invariant f h)
