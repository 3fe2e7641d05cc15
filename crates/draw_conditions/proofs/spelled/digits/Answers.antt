use mathlib.Core.Path.{◌∙◌, refl, sym}
use Rattle.base_words.proofs.PickLaws.{flag_yes, flag_no}
use Rattle.draw_conditions.proofs.SpelledLaws.{no_letter, a_letter, fewer, value_end, value_none, value_on}
use mathlib.Core.Path.{ap}
use mathlib.Core.Bool.{not}
use Rattle.draw_conditions.proofs.spelled.digits.Goals as goal

pub loop-x-init : goal.loop-x-init
loop-x-init c = refl

pub returns-in_default : goal.returns-in_default
returns-in_default c = c.value_of.ensures ∙ sym (value_end _ _ (no_letter _ _ _ c.letter.ensures c.in_default.is)) ∙ c.loop-x.invariant

pub returns-then-not-is_digit : goal.returns-then-not-is_digit
returns-then-not-is_digit c = sym (value_none _ _ _ _ (a_letter _ _ _ c.letter.ensures _ c.in-Some.is) (flag_no _ _ c.is_digit.ensures (ap not c.if-not-is_digit.true))) ∙ c.loop-x.invariant

pub loop-x-smaller : goal.loop-x-smaller
loop-x-smaller c = fewer _ _ _ (a_letter _ _ _ c.letter.ensures _ c.in-Some.is)

pub loop-x-preserved : goal.loop-x-preserved
loop-x-preserved c = sym (value_on _ _ _ _ (a_letter _ _ _ c.letter.ensures _ c.in-Some.is) (flag_yes _ _ c.is_digit.ensures (ap not c.if-not-is_digit.false)) _ c.grown-v.ensures) ∙ c.loop-x.invariant
