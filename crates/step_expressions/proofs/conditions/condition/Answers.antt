use mathlib.Core.Path.{refl}
use Rattle.base_words.proofs.PickLaws.{pick_no, pick_yes}
use Rattle.base_words.proofs.AllLaws.{eq_eqb_by, ne_eqb_by}
use Rattle.meaning.specs.Conditions.{condition_of}
use Rattle.step_expressions.proofs.conditions.condition.Goals as goal

pub returns-then-form-eq-ALWAYS : goal.returns-then-form-eq-ALWAYS
unfolding condition_of
returns-then-form-eq-ALWAYS c = pick_yes _ _ _ _ (eq_eqb_by _ _ _ c.word-form.ensures c.if-form-eq-ALWAYS.true) refl

pub returns-then-form-eq-EQUALS : goal.returns-then-form-eq-EQUALS
unfolding condition_of
returns-then-form-eq-EQUALS c = pick_no _ _ _ _ (ne_eqb_by _ _ _ c.word-form.ensures c.if-form-eq-ALWAYS.false) (pick_yes _ _ _ _ (eq_eqb_by _ _ _ c.word-form.ensures c.if-form-eq-EQUALS.true) (rw (c.operand-a.ensures, c.operand-b.ensures) at c.equal.ensures))

pub returns-then-form-eq-BELOW : goal.returns-then-form-eq-BELOW
unfolding condition_of
returns-then-form-eq-BELOW c = pick_no _ _ _ _ (ne_eqb_by _ _ _ c.word-form.ensures c.if-form-eq-ALWAYS.false) (pick_no _ _ _ _ (ne_eqb_by _ _ _ c.word-form.ensures c.if-form-eq-EQUALS.false) (pick_yes _ _ _ _ (eq_eqb_by _ _ _ c.word-form.ensures c.if-form-eq-BELOW.true) (rw (c.operand-a.ensures, c.operand-b.ensures) at c.less.ensures)))

pub returns : goal.returns
unfolding condition_of
returns c = pick_no _ _ _ _ (ne_eqb_by _ _ _ c.word-form.ensures c.if-form-eq-ALWAYS.false) (pick_no _ _ _ _ (ne_eqb_by _ _ _ c.word-form.ensures c.if-form-eq-EQUALS.false) (pick_no _ _ _ _ (ne_eqb_by _ _ _ c.word-form.ensures c.if-form-eq-BELOW.false) refl))
