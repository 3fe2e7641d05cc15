use Prim.Native.Nat.{◌-◌}
use mathlib.Core.Path.{◌∙◌}
use Rattle.step_poll.proofs.PollLaws.{given_none, given_more, given_stop, given_full, too_many_lem, not_right, all_right_lem}
use Rattle.step_poll.proofs.poll_on.Goals as goal

pub returns-then-count-gt-ITEMS : goal.returns-then-count-gt-ITEMS
returns-then-count-gt-ITEMS c = too_many_lem _ _ _ _ _ c.if-count-gt-ITEMS.true

pub returns-then-right-ne0 : goal.returns-then-right-ne0
returns-then-right-ne0 c = not_right _ _ _ _ _ c.if-count-gt-ITEMS.false c.if-right-ne0.true

pub loop-accepted-init : goal.loop-accepted-init
loop-accepted-init c = given_none _ _ _ _

pub returns-then-number-ne0 : goal.returns-then-number-ne0
returns-then-number-ne0 c = given_stop _ _ _ _ _ _ c.loop-accepted.invariant c.loop-accepted-test.true _ c.tail.ensures _ _ c.take_item-number.ensures c.if-number-ne0.true ∙ all_right_lem _ _ _ _ _ c.if-count-gt-ITEMS.false c.if-right-ne0.false

pub loop-accepted-preserved : goal.loop-accepted-preserved
loop-accepted-preserved c = given_more _ _ _ _ _ _ c.loop-accepted.invariant c.loop-accepted-test.true _ c.tail.ensures _ _ c.take_item-number.ensures c.if-number-ne0.false

pub returns : goal.returns
returns c = given_full _ _ _ _ _ _ c.loop-accepted.invariant c.loop-accepted-test.false c.loop-accepted.auto.accepted-end ∙ all_right_lem _ _ _ _ _ c.if-count-gt-ITEMS.false c.if-right-ne0.false
