use Rattle.base_table.specs.Table.{element_count, element_at, exit_at}
use Rattle.check_nesting.specs.Deciding.{sequence_walk}
use Rattle.check_nested.proofs.WalkLaws.{way_nothing, way_halted, way_ahead, way_passed, way_block, way_open, way_none, way_more, way_done, way_through}
use Rattle.check_nested.proofs.walks.+mark.Goals as goal

pub mark_ahead-returns-then-passes_at : goal.mark_ahead-returns-then-passes_at
mark_ahead-returns-then-passes_at t c = way_passed (element_at c.args.t.now c.args.p) (element_count c.args.t.now c.args.p) (sequence_walk (element_at c.args.t.now c.args.p) (element_count c.args.t.now c.args.p) c.args.n) _ _ _ c.passes_at.ensures c.if-passes_at.true _ _ _ _ c.exit_at.ensures c.mark_one.ensures c.mark_way.ensures

pub mark_ahead-returns-then-j-element_count : goal.mark_ahead-returns-then-j-element_count
mark_ahead-returns-then-j-element_count t c = way_block (element_at c.args.t.now c.args.p) (element_count c.args.t.now c.args.p) (sequence_walk (element_at c.args.t.now c.args.p) (element_count c.args.t.now c.args.p) c.args.n) _ _ _ c.passes_at.ensures _ _ c.join_of-j.ensures c.element_count.ensures c.if-passes_at.false c.if-j-element_count.true _ _ c.mark_block.ensures

pub mark_ahead-returns-else-j-element_count : goal.mark_ahead-returns-else-j-element_count
mark_ahead-returns-else-j-element_count t c = way_open (element_at c.args.t.now c.args.p) (element_count c.args.t.now c.args.p) (sequence_walk (element_at c.args.t.now c.args.p) (element_count c.args.t.now c.args.p) c.args.n) _ _ _ c.passes_at.ensures _ _ c.join_of-j.ensures c.element_count.ensures c.if-passes_at.false c.if-j-element_count.false _

pub mark_block-returns : goal.mark_block-returns
mark_block-returns t c = way_through (sequence_walk (element_at c.args.t.now c.args.p) (element_count c.args.t.now c.args.p) c.args.n) _ _ _ _ _ _ _ _ _ _ c.exit_at.ensures c.mark_one.ensures c.mark_one-2.ensures c.mark_branches.ensures c.mark_way.ensures

pub mark_branches-loop-j-init : goal.mark_branches-loop-j-init
mark_branches-loop-j-init t c = way_none (sequence_walk (element_at c.args.t.now c.args.p) (element_count c.args.t.now c.args.p) c.args.n) (exit_at (element_at c.args.t.now c.args.p c.args.k)) _

pub mark_branches-loop-j-preserved : goal.mark_branches-loop-j-preserved
mark_branches-loop-j-preserved t c = way_more (sequence_walk (element_at c.args.t.now c.args.p) (element_count c.args.t.now c.args.p) c.args.n) (exit_at (element_at c.args.t.now c.args.p c.args.k)) _ _ _ _ c.loop-j.invariant (rw c.exit_at.ensures at c.mark_way.ensures)

pub mark_branches-returns : goal.mark_branches-returns
mark_branches-returns t c = way_done (sequence_walk (element_at c.args.t.now c.args.p) (element_count c.args.t.now c.args.p) c.args.n) (exit_at (element_at c.args.t.now c.args.p c.args.k)) _ _ _ c.exits_at-most.ensures c.loop-j-test.false c.loop-j.auto.j-end _ _ c.loop-j.invariant

pub mark_way-returns-then-n-eq0 : goal.mark_way-returns-then-n-eq0
mark_way-returns-then-n-eq0 t c = way_nothing (element_at c.args.t.now c.args.p) (element_count c.args.t.now c.args.p) _ _ _ c.if-n-eq0.true

pub mark_way-returns-then-k-element_count : goal.mark_way-returns-then-k-element_count
mark_way-returns-then-k-element_count t c = way_halted (element_at c.args.t.now c.args.p) (element_count c.args.t.now c.args.p) _ _ _ _ c.if-n-eq0.false c.taker-k.ensures c.element_count.ensures _ c.if-k-element_count.true

pub mark_way-returns : goal.mark_way-returns
mark_way-returns t c = way_ahead (element_at c.args.t.now c.args.p) (element_count c.args.t.now c.args.p) _ _ _ _ c.if-n-eq0.false c.taker-k.ensures c.element_count.ensures _ _ c.if-k-element_count.false c.mark_ahead.ensures
