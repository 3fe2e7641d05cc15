use mathlib.Core.Path.{◌≡◌, refl, ◌∙◌}
use Prim.Native.Nat.{◌+◌, ◌-◌}
use lib.ListN.{length}
use native.Mathlib.Omega.{arith}
use Rattle.log_text.specs.Logs.{lines_from}
use Rattle.log_judge.proofs.JudgeLaws.{none_left, none_behind, not_lawful, judged_stop, left_stop, judged_pass, left_pass, judged_refused, judged_untrue, judged_more, left_more}
use borrow.Author.Rules.{rules}
use mathlib.Core.Path.{ap}
use mathlib.Core.Bool.{not}
use Rattle.log_judge.proofs.judge_from.Goals as goal

pub loop-step-init : goal.loop-step-init
unfolding lines_from
loop-step-init c = let e : length c.args.text.now - 0 ≡ length c.args.text.now = omega arith in rw e (omega arith, refl, refl)

pub returns-in_default : goal.returns-in_default
unfolding lines_from
returns-in_default c = (c.lawful.ensures ∙ judged_stop _ _ _ _ _ _ _ c.loop-step.invariant.1 (omega arith) _ c.advance-m.ensures c.in_default.not-On, λ h. left_stop _ _ _ _ _ _ _ c.loop-step.invariant.1 (omega arith) _ c.advance-m.ensures _ c.loop-step.invariant.2 c.in_default.not-On)

pub loop-step-preserved-then-not-closes_event : goal.loop-step-preserved-then-not-closes_event
unfolding lines_from
loop-step-preserved-then-not-closes_event c =
    let e : length c.args.text.now - (c.loop-step._step + 1) ≡ length c.args.text.now - c.loop-step._step - 1 = omega arith in
    rw e (omega arith, judged_pass _ _ _ _ _ _ _ c.loop-step.invariant.1 (omega arith) _ c.advance-m.ensures _ c.in-On.is _ c.closes_event.ensures (ap not c.if-not-closes_event.true), left_pass _ _ _ _ _ _ _ c.loop-step.invariant.1 (omega arith) _ c.advance-m.ensures _ c.in-On.is _ c.closes_event.ensures _ c.loop-step.invariant.2 (ap not c.if-not-closes_event.true))

pub returns-then-taken-ne-ACCEPTED : goal.returns-then-taken-ne-ACCEPTED
unfolding lines_from
returns-then-taken-ne-ACCEPTED c = (c.at_fault.ensures ∙ judged_refused _ _ _ _ _ _ _ c.loop-step.invariant.1 (omega arith) _ c.advance-m.ensures _ c.in-On.is _ c.closes_event.ensures (ap not c.if-not-closes_event.false) _ c.piece.ensures _ _ _ c.take_line-taken.ensures c.if-taken-ne-ACCEPTED.true, not_lawful _ _ _ c.at_fault.ensures)

pub returns-then-not-taken : goal.returns-then-not-taken
unfolding lines_from
returns-then-not-taken c = (c.at_fault-then-not-taken.ensures ∙ judged_untrue _ _ _ _ _ _ _ c.loop-step.invariant.1 (omega arith) _ c.advance-m.ensures _ c.in-On.is _ c.closes_event.ensures (ap not c.if-not-closes_event.false) _ c.piece.ensures _ _ _ c.take_line-taken.ensures c.if-taken-ne-ACCEPTED.false c.if-not-taken.true, not_lawful _ _ _ c.at_fault-then-not-taken.ensures)

pub overflow_add-ordinal : goal.overflow_add-ordinal
unfolding lines_from
overflow_add-ordinal c = omega (arith, c.loop-step.invariant.0)

pub loop-step-preserved : goal.loop-step-preserved
unfolding lines_from
loop-step-preserved c =
    let e : length c.args.text.now - (c.loop-step._step + 1) ≡ length c.args.text.now - c.loop-step._step - 1 = omega arith in
    rw e (omega arith, judged_more _ _ _ _ _ _ _ c.loop-step.invariant.1 (omega arith) _ c.advance-m.ensures _ c.in-On.is _ c.closes_event.ensures (ap not c.if-not-closes_event.false) _ c.piece.ensures _ _ _ c.take_line-taken.ensures c.if-taken-ne-ACCEPTED.false c.if-not-taken.false, left_more _ _ _ _ _ _ _ c.loop-step.invariant.1 (omega arith) _ c.advance-m.ensures _ c.in-On.is _ c.closes_event.ensures (ap not c.if-not-closes_event.false) _ c.piece.ensures _ _ _ c.take_line-taken.ensures _ c.loop-step.invariant.2)

pub returns : goal.returns
unfolding lines_from
returns c = (c.lawful-2.ensures ∙ none_left _ _ _ _ _ _ _ c.loop-step.invariant.1 (omega arith), λ h. none_behind _ _ _ _ _ _ c.loop-step.invariant.2 (omega arith))
