use mathlib.Core.Path.{◌≡◌}
use Prim.Native.Nat.{◌+◌, ◌-◌}
use lib.ListN.{length}
use native.Mathlib.Omega.{arith}
use Rattle.log_text.specs.Logs.{lines_from}
use Rattle.log_accounts.proofs.TellLaws.{low_begin, low_pass, low_more, low_room, tell_begin, tell_end, tell_full, tell_stop, tell_pass, tell_more}
use mathlib.Core.Path.{ap}
use mathlib.Core.Bool.{not}
use Rattle.log_accounts.proofs.tell_from.Goals as goal

pub loop-step-init : goal.loop-step-init
unfolding lines_from
loop-step-init c = let e : length c.args.text.now - 0 ≡ length c.args.text.now = omega arith in rw e (low_begin _ _ _ c.nothing_told-b.ensures (omega arith), tell_begin _ _ _ _ c.args.text.now c.args.first _ _ _ c.nothing_told-b.ensures)

pub returns-in_default : goal.returns-in_default
returns-in_default c = tell_stop _ _ _ _ _ _ _ _ _ _ _ c.loop-step.invariant.1 (omega arith) _ c.advance-next.ensures c.in_default.not-On

pub loop-step-preserved-then-not-closes_event : goal.loop-step-preserved-then-not-closes_event
loop-step-preserved-then-not-closes_event c =
    let e : length c.args.text.now - (c.loop-step._step + 1) ≡ length c.args.text.now - c.loop-step._step - 1 = omega arith in
    rw e (low_pass _ _ _ c.loop-step.invariant.0, tell_pass _ _ _ _ _ _ _ _ _ _ _ c.loop-step.invariant.1 (omega arith) _ c.advance-next.ensures _ c.in-On.is _ c.closes_event.ensures (ap not c.if-not-closes_event.true))

pub returns-then-b-eq0 : goal.returns-then-b-eq0
returns-then-b-eq0 c = tell_full _ _ _ _ _ _ _ _ _ _ _ c.loop-step.invariant.1 c.if-b-eq0.true

pub and_noted-more-requires : goal.and_noted-more-requires
and_noted-more-requires c = low_room _ _ _ c.loop-step.invariant.0 (omega arith) c.note_line-one.result c.note_line-one.ensures.2 c.note_line-one.ensures.3 c.note_line-one.ensures.4 c.if-b-eq0.false

pub loop-step-preserved : goal.loop-step-preserved
loop-step-preserved c =
    let e : length c.args.text.now - (c.loop-step._step + 1) ≡ length c.args.text.now - c.loop-step._step - 1 = omega arith in
    rw e (low_more _ _ _ c.loop-step.invariant.0 (omega arith) _ c.note_line-one.ensures.2 c.note_line-one.ensures.3 c.note_line-one.ensures.4 _ c.and_noted-more.ensures, tell_more _ _ _ _ _ _ _ _ _ _ _ c.loop-step.invariant.1 (omega arith) _ c.advance-next.ensures _ c.in-On.is _ c.closes_event.ensures (ap not c.if-not-closes_event.false) _ c.piece.ensures c.if-b-eq0.false _ _ c.note_line-one.ensures.0 c.note_line-one.ensures.1 _ c.and_noted-more.ensures)

pub returns : goal.returns
returns c = tell_end _ _ _ _ _ _ _ _ _ _ _ c.loop-step.invariant.1 (omega arith)
