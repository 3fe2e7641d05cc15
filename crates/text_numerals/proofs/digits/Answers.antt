use mathlib.Core.Path.{◌∙◌, refl, sym, ap}
use mathlib.Core.Bool.{not}
use native.Mathlib.Omega.{arith}
use Rattle.base_words.proofs.PickLaws.{flag_yes, flag_no}
use Rattle.text_numerals.proofs.NumberLaws.{value_none, value_within, value_above, value_on, grown_cases}
use Rattle.text_numerals.proofs.digits.Goals as goal

pub loop-d-init : goal.loop-d-init
loop-d-init c = (omega arith, refl)

pub returns-then-not-is_digit : goal.returns-then-not-is_digit
returns-then-not-is_digit c = sym (value_none c.args.word.now c.loop-d.v c.loop-d.d-index (omega arith) (flag_no _ _ c.is_digit.ensures (ap not c.if-not-is_digit.true))) ∙ c.loop-d.invariant.1

pub grown-v-requires : goal.grown-v-requires
grown-v-requires c = flag_yes _ _ c.is_digit.ensures (ap not c.if-not-is_digit.false)

pub loop-d-preserved : goal.loop-d-preserved
loop-d-preserved c = value_on c.args.word.now c.loop-d.v c.loop-d.d-index (omega arith) (flag_yes _ _ c.is_digit.ensures (ap not c.if-not-is_digit.false)) _ c.loop-d.invariant.0 c.loop-d.invariant.1 _ (grown_cases _ _ _ c.grown-v.ensures)

pub returns-then-v : goal.returns-then-v
returns-then-v c = sym (value_within c.args.word.now c.loop-d.v c.loop-d.d-index (omega arith) c.if-v.true) ∙ c.loop-d.invariant.1

pub returns : goal.returns
returns c = sym (value_above c.args.word.now c.loop-d.v c.loop-d.d-index (omega arith) c.if-v.false) ∙ c.loop-d.invariant.1
