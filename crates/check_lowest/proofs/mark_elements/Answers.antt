use Rattle.base_table.specs.Table.{element_at}
use Rattle.check_summary.specs.Summary.{regions}
use Rattle.check_tally.proofs.TallyLaws.{fold_none, fold_more, fold_done}
use Rattle.check_lowest.proofs.mark_elements.Goals as goal

pub loop-e-init : goal.loop-e-init
loop-e-init c = fold_none regions (element_at c.args.t.now c.args.p) _

pub loop-e-preserved : goal.loop-e-preserved
loop-e-preserved c = fold_more regions (element_at c.args.t.now c.args.p) _ _ _ _ c.mark_at.ensures c.loop-e.invariant

pub returns : goal.returns
returns c = fold_done regions (element_at c.args.t.now c.args.p) _ _ _ _ c.loop-e-test.false c.loop-e.auto.e-end c.loop-e.invariant
