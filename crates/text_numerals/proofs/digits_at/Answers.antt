use mathlib.Core.Path.{refl}
use Rattle.base_words.proofs.PickLaws.{flag_yes, flag_no}
use Rattle.text_numerals.proofs.NumeralLaws.{digits_farthest, digits_stop, digits_more}
use mathlib.Core.Path.{ap}
use mathlib.Core.Bool.{not}
use Rattle.text_numerals.proofs.digits_at.Goals as goal

pub loop-i-init : goal.loop-i-init
loop-i-init c = refl

pub returns-then-not-is_digit : goal.returns-then-not-is_digit
returns-then-not-is_digit c = digits_stop _ _ _ _ c.loop-i.invariant c.loop-i-test.true (flag_no _ _ c.is_digit.ensures (ap not c.if-not-is_digit.true))

pub grown-v-requires : goal.grown-v-requires
grown-v-requires c = flag_yes _ _ c.is_digit.ensures (ap not c.if-not-is_digit.false)

pub loop-i-preserved : goal.loop-i-preserved
loop-i-preserved c = digits_more _ _ _ _ c.loop-i.invariant _ c.loop-i-test.true (flag_yes _ _ c.is_digit.ensures (ap not c.if-not-is_digit.false)) c.grown-v.ensures

pub returns : goal.returns
returns c = digits_farthest _ _ _ _ _ c.loop-i.invariant c.loop-i-test.false c.loop-i.auto.i-end c.max.ensures
