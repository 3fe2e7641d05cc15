use Rattle.std.proofs.Common.{ap, not}
use Rattle.base_table.specs.Table.{element_count, element_at, exit_at}
use Rattle.check_nesting.specs.Deciding.{sequence_walk}
use Rattle.check_nested.proofs.WalkLaws.{stop_none, stop_halted, stop_ahead, stop_passed, stop_block, stop_open, no_join, join_is, last_none, last_more, last_done, marked_none, marked_more, marked_done}
use Rattle.check_nested.proofs.walks.+stop.Goals as goal

pub join_of-returns-then-not-splits_at : goal.join_of-returns-then-not-splits_at
join_of-returns-then-not-splits_at t c = no_join (element_at c.args.t.now c.args.p) (element_count c.args.t.now c.args.p) (sequence_walk (element_at c.args.t.now c.args.p) (element_count c.args.t.now c.args.p) c.args.n) _ _ _ c.splits_at.ensures (ap not c.if-not-splits_at.true) c.element_count.ensures

pub join_of-returns : goal.join_of-returns
join_of-returns t c = join_is (element_at c.args.t.now c.args.p) (element_count c.args.t.now c.args.p) (sequence_walk (element_at c.args.t.now c.args.p) (element_count c.args.t.now c.args.p) c.args.n) _ _ _ _ c.walk_branches-a.ensures.0 c.walk_branches-a.ensures.1 c.closing.ensures

pub stop_ahead-returns-then-passes_at : goal.stop_ahead-returns-then-passes_at
stop_ahead-returns-then-passes_at t c = stop_passed (element_at c.args.t.now c.args.p) (element_count c.args.t.now c.args.p) (sequence_walk (element_at c.args.t.now c.args.p) (element_count c.args.t.now c.args.p) c.args.n) _ _ _ c.passes_at.ensures c.if-passes_at.true _ _ c.exit_at.ensures c.stop_of.ensures

pub stop_ahead-returns-then-j-element_count : goal.stop_ahead-returns-then-j-element_count
stop_ahead-returns-then-j-element_count t c = stop_block (element_at c.args.t.now c.args.p) (element_count c.args.t.now c.args.p) (sequence_walk (element_at c.args.t.now c.args.p) (element_count c.args.t.now c.args.p) c.args.n) _ _ _ c.passes_at.ensures _ _ c.join_of-j.ensures c.element_count.ensures c.if-passes_at.false c.if-j-element_count.true _ _ c.exit_at-then-j-element_count.ensures c.stop_of-then-j-element_count.ensures

pub stop_ahead-returns : goal.stop_ahead-returns
stop_ahead-returns t c = stop_open (element_at c.args.t.now c.args.p) (element_count c.args.t.now c.args.p) (sequence_walk (element_at c.args.t.now c.args.p) (element_count c.args.t.now c.args.p) c.args.n) _ _ _ c.passes_at.ensures _ _ c.join_of-j.ensures c.element_count.ensures c.if-passes_at.false c.if-j-element_count.false

pub stop_of-returns-then-n-eq0 : goal.stop_of-returns-then-n-eq0
stop_of-returns-then-n-eq0 t c = stop_none (element_at c.args.t.now c.args.p) (element_count c.args.t.now c.args.p) _ _ c.if-n-eq0.true

pub stop_of-returns-then-k-element_count : goal.stop_of-returns-then-k-element_count
stop_of-returns-then-k-element_count t c = stop_halted (element_at c.args.t.now c.args.p) (element_count c.args.t.now c.args.p) _ _ _ _ c.if-n-eq0.false c.taker-k.ensures c.element_count.ensures c.if-k-element_count.true

pub stop_of-returns : goal.stop_of-returns
stop_of-returns t c = stop_ahead (element_at c.args.t.now c.args.p) (element_count c.args.t.now c.args.p) _ _ _ _ c.if-n-eq0.false c.taker-k.ensures c.element_count.ensures c.if-k-element_count.false _ c.stop_ahead.ensures

pub walk_branches-loop-j-init : goal.walk_branches-loop-j-init
walk_branches-loop-j-init t c = (last_none (sequence_walk (element_at c.args.t.now c.args.p) (element_count c.args.t.now c.args.p) c.args.n) (exit_at (element_at c.args.t.now c.args.p c.args.k)), marked_none (sequence_walk (element_at c.args.t.now c.args.p) (element_count c.args.t.now c.args.p) c.args.n) (exit_at (element_at c.args.t.now c.args.p c.args.k)) _)

pub walk_branches-loop-j-preserved : goal.walk_branches-loop-j-preserved
walk_branches-loop-j-preserved t c = (last_more (sequence_walk (element_at c.args.t.now c.args.p) (element_count c.args.t.now c.args.p) c.args.n) (exit_at (element_at c.args.t.now c.args.p c.args.k)) _ _ (rw c.exit_at.ensures at c.stop_of-a.ensures), marked_more (sequence_walk (element_at c.args.t.now c.args.p) (element_count c.args.t.now c.args.p) c.args.n) (exit_at (element_at c.args.t.now c.args.p c.args.k)) _ _ _ _ _ c.loop-j.invariant.1 (rw c.exit_at.ensures at c.stop_of-a.ensures) c.mark_one.ensures)

pub walk_branches-returns : goal.walk_branches-returns
walk_branches-returns t c = (last_done (sequence_walk (element_at c.args.t.now c.args.p) (element_count c.args.t.now c.args.p) c.args.n) (exit_at (element_at c.args.t.now c.args.p c.args.k)) _ _ _ c.exits_at-m.ensures c.loop-j-test.false c.loop-j.auto.j-end _ c.loop-j.invariant.0, marked_done (sequence_walk (element_at c.args.t.now c.args.p) (element_count c.args.t.now c.args.p) c.args.n) (exit_at (element_at c.args.t.now c.args.p c.args.k)) _ _ _ c.exits_at-m.ensures c.loop-j-test.false c.loop-j.auto.j-end _ _ c.loop-j.invariant.1)
