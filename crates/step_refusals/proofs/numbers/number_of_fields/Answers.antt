use mathlib.Core.Path.{refl}
use Rattle.base_words.proofs.PickLaws.{pick_yes, pick_no, flag_is}
use borrow.Author.Tests.{not-true, not-false}
use Rattle.step_refusals.specs.Chain.{number_at, listed, of_fields}
use Rattle.meaning.specs.Refusals.{first_refusal}
use Rattle.meaning.specs.Step.{refusals_at}
use mathlib.Core.Path.{ap}
use mathlib.Core.Bool.{not}
use Rattle.step_refusals.proofs.numbers.number_of_fields.Goals as goal

pub returns-then-not-receives_or : goal.returns-then-not-receives_or
unfolding first_refusal refusals_at number_at listed of_fields
returns-then-not-receives_or c = pick_no _ _ _ _ (flag_is _ _ _ c.receives_or.ensures (not-true _ (ap not c.if-not-receives_or.true))) refl

pub returns-then-not-matches : goal.returns-then-not-matches
unfolding first_refusal refusals_at number_at listed of_fields
returns-then-not-matches c = pick_yes _ _ _ _ (flag_is _ _ _ c.receives_or.ensures (not-false _ (ap not c.if-not-receives_or.false))) (pick_no _ _ _ _ ((not-true _ (ap not c.if-not-matches.true))) refl)

pub returns-then-not-defined : goal.returns-then-not-defined
unfolding first_refusal refusals_at number_at listed of_fields
returns-then-not-defined c = pick_yes _ _ _ _ (flag_is _ _ _ c.receives_or.ensures (not-false _ (ap not c.if-not-receives_or.false))) (pick_yes _ _ _ _ ((not-false _ (ap not c.if-not-matches.false))) (pick_no _ _ _ _ ((not-true _ (ap not c.if-not-defined.true))) refl))

pub returns : goal.returns
unfolding first_refusal refusals_at number_at listed of_fields
returns c = pick_yes _ _ _ _ (flag_is _ _ _ c.receives_or.ensures (not-false _ (ap not c.if-not-receives_or.false))) (pick_yes _ _ _ _ ((not-false _ (ap not c.if-not-matches.false))) (pick_yes _ _ _ _ ((not-false _ (ap not c.if-not-defined.false))) refl))
