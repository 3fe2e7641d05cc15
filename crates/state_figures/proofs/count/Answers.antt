use mathlib.Core.Path.{refl}
use native.Mathlib.Omega.{arith}
use Rattle.state_figures.specs.Figures.{record_of}
use Rattle.state_figures.proofs.RecordLaws.{fill_none, fill_more, counted_by}
use Rattle.state_figures.proofs.count.Goals as goal

pub loop-p-init : goal.loop-p-init
loop-p-init c = fill_none (record_of c.args.s.now) _

pub loop-p-preserved : goal.loop-p-preserved
loop-p-preserved c = fill_more (record_of c.args.s.now) _ _ _ _ _ (omega arith) c.record_of.ensures refl c.loop-p.invariant

pub returns : goal.returns
returns c = counted_by _ _ _ _ _ _ c.pool_count-p-end.ensures (omega arith) c.loop-p-test.false c.loop-p.auto.p-end c.loop-p.invariant
