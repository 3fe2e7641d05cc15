use mathlib.Core.Path.{refl}
use Rattle.base_words.proofs.PickLaws.{pick_yes, pick_no, flag_is}
use borrow.Author.Tests.{not-true, not-false}
use Rattle.step_refusals.specs.Chain.{number_at, listed, before_fields}
use Rattle.meaning.specs.Refusals.{first_refusal}
use Rattle.meaning.specs.Step.{refusals_at}
use mathlib.Core.Path.{ap}
use mathlib.Core.Bool.{not}
use Rattle.step_refusals.proofs.numbers.number_before.Goals as goal

pub returns-then-not-permits : goal.returns-then-not-permits
unfolding first_refusal refusals_at number_at listed before_fields
returns-then-not-permits c = pick_no _ _ _ _ (flag_is _ _ _ c.permits.ensures (not-true _ (ap not c.if-not-permits.true))) refl

pub returns-then-not-grants : goal.returns-then-not-grants
unfolding first_refusal refusals_at number_at listed before_fields
returns-then-not-grants c = pick_yes _ _ _ _ (flag_is _ _ _ c.permits.ensures (not-false _ (ap not c.if-not-permits.false))) (pick_no _ _ _ _ (flag_is _ _ _ c.grants.ensures (not-true _ (ap not c.if-not-grants.true))) refl)

pub returns : goal.returns
unfolding first_refusal refusals_at number_at listed before_fields
returns c = pick_yes _ _ _ _ (flag_is _ _ _ c.permits.ensures (not-false _ (ap not c.if-not-permits.false))) (pick_yes _ _ _ _ (flag_is _ _ _ c.grants.ensures (not-false _ (ap not c.if-not-grants.false))) refl)
