use Rattle.base_table.specs.Table.{element_count, element_at}
use Rattle.check_nested.proofs.PoolLaws.{meets_is}
use borrow.Author.Rules.{rules}
use Rattle.check_nested.proofs.meets_all.Goals as goal

ruleset L = (rules)

pub slice_bounds-mark_met-end : goal.slice_bounds-mark_met-end
slice_bounds-mark_met-end c = search L

pub mark_met-requires : goal.mark_met-requires
mark_met-requires c = search L

pub slice_bounds-all_once-end : goal.slice_bounds-all_once-end
slice_bounds-all_once-end c = search L

pub element_count-requires : goal.element_count-requires
element_count-requires c = search L

pub all_once-requires : goal.all_once-requires
all_once-requires c = search L

pub returns : goal.returns
returns c = meets_is (element_at c.args.t.now c.args.p) (element_count c.args.t.now c.args.p) _ _ _ _ c.mark_met.ensures c.element_count.ensures _ c.all_once.ensures
