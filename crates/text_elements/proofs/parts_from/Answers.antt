use mathlib.Core.Path.{refl}
use Rattle.text_elements.proofs.ElementLaws.{parts_end, parts_blank, parts_stopped, parts_more}
use Rattle.text_elements.proofs.parts_from.Goals as goal

pub loop-c-init : goal.loop-c-init
loop-c-init c = refl

pub returns-then-c-eq32 : goal.returns-then-c-eq32
returns-then-c-eq32 c = parts_blank _ c.args.codes.now _ _ _ _ _ c.loop-c.invariant c.loop-c-test.true c.if-c-eq32.true

pub returns-in_err-at : goal.returns-in_err-at
returns-in_err-at c = parts_stopped _ c.args.codes.now _ _ _ _ _ c.loop-c.invariant c.loop-c-test.true c.if-c-eq32.false _ _ c.part_behind.ensures _ _ c.in_err-at.was c.from_residual.ensures.1

pub loop-c-preserved : goal.loop-c-preserved
loop-c-preserved c = parts_more _ c.args.codes.now _ _ _ _ _ c.loop-c.invariant c.loop-c-test.true c.if-c-eq32.false _ _ c.part_behind.ensures _ c.in_ok-at.was

pub returns : goal.returns
returns c = parts_end _ c.args.codes.now _ _ _ _ _ c.loop-c.invariant c.loop-c-test.false
