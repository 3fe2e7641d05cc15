use Rattle.base_table.specs.Table.{element_count, element_at}
use Rattle.check_nested.proofs.PoolLaws.{met_is}
use borrow.Author.Rules.{rules}
use Rattle.check_nested.proofs.mark_met.Goals as goal

ruleset L = (rules)

pub mark_one-requires : goal.mark_one-requires
mark_one-requires c = search L

pub mark_one-requires-2 : goal.mark_one-requires-2
mark_one-requires-2 c = search L

pub exit_at-requires : goal.exit_at-requires
exit_at-requires c = search L

pub mark_way-requires : goal.mark_way-requires
mark_way-requires c = search L

pub shape_of-m : goal.shape_of-m
shape_of-m c = search L

pub returns : goal.returns
returns c = met_is (element_at c.args.t.now c.args.p) (element_count c.args.t.now c.args.p) _ _ _ _ _ _ _ c.mark_one.ensures c.mark_one-2.ensures c.exit_at.ensures c.mark_way.ensures
