use Rattle.text_numerals.specs.Numerals.{value_from, number_by}
use Rattle.base_words.proofs.PickLaws.{pick_yes, pick_no, flag_is}
use borrow.Author.Tests.{eq-eqb, ne_eqb, le-leb, lt-leb}
use mathlib.Core.Path.{refl}
use Rattle.text_numerals.proofs.number_by.Goals as goal

pub returns-then-word-eq0 : goal.returns-then-word-eq0
unfolding number_by
returns-then-word-eq0 c = pick_yes _ _ _ _ (eq-eqb _ 0 c.if-word-eq0.true) refl

pub returns-then-leading_zero : goal.returns-then-leading_zero
unfolding number_by
returns-then-leading_zero c = pick_no _ _ _ _ (ne_eqb _ 0 c.if-word-eq0.false) (pick_yes _ _ _ _ (flag_is _ _ _ c.leading_zero.ensures c.if-leading_zero.true) refl)

pub returns-then-v : goal.returns-then-v
unfolding number_by value_from
returns-then-v c = pick_no _ _ _ _ (ne_eqb _ 0 c.if-word-eq0.false) (pick_no _ _ _ _ (flag_is _ _ _ c.leading_zero.ensures c.if-leading_zero.false) (pick_yes _ _ _ _ (le-leb _ _ c.if-v.true) refl))

pub returns : goal.returns
unfolding number_by value_from
returns c = pick_no _ _ _ _ (ne_eqb _ 0 c.if-word-eq0.false) (pick_no _ _ _ _ (flag_is _ _ _ c.leading_zero.ensures c.if-leading_zero.false) (pick_no _ _ _ _ (lt-leb _ _ c.if-v.false) refl))
