use mathlib.Core.Path.{◌∙◌, refl, sym, ap}
use mathlib.Core.Bool.{not}
use Rattle.draw_conditions.proofs.SpelledLaws.{no_letter, a_letter, same_short, same_end, same_on, same_other}
use Rattle.draw_conditions.proofs.spelled.spells.Goals as goal

pub loop-b-init : goal.loop-b-init
loop-b-init c = refl

pub returns-in_default : goal.returns-in_default
returns-in_default c = sym (same_short _ _ _ c.loop-b-test.true (no_letter _ _ _ c.letter.ensures c.in_default.is)) ∙ c.loop-b.invariant

pub returns-then-v-b : goal.returns-then-v-b
returns-then-v-b c = sym (same_other _ _ _ _ _ (a_letter _ _ _ c.letter.ensures _ c.in-Some.is) c.loop-b-test.true c.if-v-b.true) ∙ c.loop-b.invariant

pub loop-b-preserved : goal.loop-b-preserved
loop-b-preserved c = sym (same_on _ _ _ _ _ (a_letter _ _ _ c.letter.ensures _ c.in-Some.is) c.loop-b-test.true c.if-v-b.false) ∙ c.loop-b.invariant

pub returns : goal.returns
returns c = ap not c.goes_on.ensures ∙ sym (same_end _ _ _ c.loop-b-test.false) ∙ c.loop-b.invariant
