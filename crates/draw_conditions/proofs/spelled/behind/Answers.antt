use mathlib.Core.Path.{◌∙◌, refl, sym}
use Rattle.base_words.proofs.PickLaws.{flag_yes, flag_no}
use Rattle.draw_conditions.proofs.SpelledLaws.{behind_over, behind_here, behind_on, shorter}
use mathlib.Core.Path.{ap}
use mathlib.Core.Bool.{not}
use Rattle.draw_conditions.proofs.spelled.behind.Goals as goal

pub loop-v-init : goal.loop-v-init
loop-v-init c = refl

pub returns-in_default : goal.returns-in_default
returns-in_default c = behind_over _ _ _ c.look.ensures _ c.in_default.is ∙ c.loop-v.invariant

pub returns-then-not-is_of : goal.returns-then-not-is_of
returns-then-not-is_of c = c.arrive.ensures ∙ behind_here _ _ _ c.look.ensures _ c.in-Some.is _ (flag_no _ _ c.is_of.ensures (ap not c.if-not-is_of.true)) ∙ c.loop-v.invariant

pub loop-v-smaller : goal.loop-v-smaller
loop-v-smaller c = shorter _ _ _ c.look.ensures _ c.in-Some.is

pub loop-v-preserved : goal.loop-v-preserved
loop-v-preserved c = sym (behind_on _ _ _ c.look.ensures _ c.in-Some.is _ (flag_yes _ _ c.is_of.ensures (ap not c.if-not-is_of.false))) ∙ c.loop-v.invariant
