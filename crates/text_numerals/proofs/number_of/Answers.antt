use mathlib.Core.Path.{refl}
use borrow.Author.Tests.{eq-eqb, ne_eqb}
use Rattle.base_words.proofs.PickLaws.{pick_yes, pick_no, flag_is}
use Rattle.text_numerals.specs.Numerals.{number_of}
use Rattle.text_numerals.proofs.number_of.Goals as goal

pub returns-then-word-eq0 : goal.returns-then-word-eq0
unfolding number_of
returns-then-word-eq0 c = pick_yes _ _ _ _ (eq-eqb _ 0 c.if-word-eq0.true) refl

pub returns-then-leading_zero : goal.returns-then-leading_zero
unfolding number_of
returns-then-leading_zero c = pick_no _ _ _ _ (ne_eqb _ 0 c.if-word-eq0.false) (pick_yes _ _ _ _ (flag_is _ _ _ c.leading_zero.ensures c.if-leading_zero.true) refl)

pub returns : goal.returns
unfolding number_of
returns c = pick_no _ _ _ _ (ne_eqb _ 0 c.if-word-eq0.false) (pick_no _ _ _ _ (flag_is _ _ _ c.leading_zero.ensures c.if-leading_zero.false) c.digits.ensures)
