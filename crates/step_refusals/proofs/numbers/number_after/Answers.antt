use mathlib.Core.Path.{refl}
use Rattle.base_words.proofs.PickLaws.{pick_yes, pick_no, flag_is}
use borrow.Author.Tests.{not-true, not-false}
use Rattle.step_refusals.specs.Chain.{number_at, listed, of_queues}
use Rattle.step_refusals.proofs.NumberLaws.{none_after}
use Rattle.meaning.specs.Refusals.{first_refusal}
use Rattle.meaning.specs.Step.{refusals_at}
use mathlib.Core.Path.{ap}
use mathlib.Core.Bool.{not}
use Rattle.step_refusals.proofs.numbers.number_after.Goals as goal

pub returns-then-not-is_queued : goal.returns-then-not-is_queued
unfolding first_refusal refusals_at number_at listed of_queues
returns-then-not-is_queued c = rw (← c.message_name-name.ensures) (pick_no _ _ _ _ (flag_is _ _ _ c.is_queued.ensures (not-true _ (ap not c.if-not-is_queued.true))) refl)

pub returns-then-not-below : goal.returns-then-not-below
unfolding first_refusal refusals_at number_at listed of_queues
returns-then-not-below c = rw (← c.message_name-name.ensures) (pick_yes _ _ _ _ (flag_is _ _ _ c.is_queued.ensures (not-false _ (ap not c.if-not-is_queued.false))) (pick_no _ _ _ _ ((not-true _ (ap not c.if-not-below.true))) refl))

pub returns-then-not-has_space : goal.returns-then-not-has_space
unfolding first_refusal refusals_at number_at listed of_queues
returns-then-not-has_space c = rw (← c.message_name-name.ensures) (pick_yes _ _ _ _ (flag_is _ _ _ c.is_queued.ensures (not-false _ (ap not c.if-not-is_queued.false))) (pick_yes _ _ _ _ ((not-false _ (ap not c.if-not-below.false))) (pick_no _ _ _ _ (flag_is _ _ _ c.has_space.ensures (not-true _ (ap not c.if-not-has_space.true))) refl)))

pub returns-then-not-is_roomy : goal.returns-then-not-is_roomy
unfolding first_refusal refusals_at number_at listed of_queues
returns-then-not-is_roomy c = rw (← c.message_name-name.ensures) (pick_yes _ _ _ _ (flag_is _ _ _ c.is_queued.ensures (not-false _ (ap not c.if-not-is_queued.false))) (pick_yes _ _ _ _ ((not-false _ (ap not c.if-not-below.false))) (pick_yes _ _ _ _ (flag_is _ _ _ c.has_space.ensures (not-false _ (ap not c.if-not-has_space.false))) (pick_no _ _ _ _ (flag_is _ _ _ c.is_roomy.ensures (not-true _ (ap not c.if-not-is_roomy.true))) refl))))

pub returns : goal.returns
unfolding first_refusal refusals_at number_at listed of_queues
returns c = rw (← c.message_name-name.ensures) (none_after _ _ _ _ _ _ _ (flag_is _ _ _ c.is_queued.ensures (not-false _ (ap not c.if-not-is_queued.false))) (not-false _ (ap not c.if-not-below.false)) (flag_is _ _ _ c.has_space.ensures (not-false _ (ap not c.if-not-has_space.false))) (flag_is _ _ _ c.is_roomy.ensures (not-false _ (ap not c.if-not-is_roomy.false))))
