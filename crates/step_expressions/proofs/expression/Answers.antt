use Rattle.base_words.proofs.PickLaws.{pick_no, pick_yes}
use Rattle.base_words.proofs.AllLaws.{eq_eqb_by, ne_eqb_by}
use Rattle.meaning.specs.Expressions.{expression_of}
use Rattle.step_expressions.proofs.expression.Goals as goal

pub returns-then-form-eq-PLUS : goal.returns-then-form-eq-PLUS
unfolding expression_of
returns-then-form-eq-PLUS c = pick_yes _ _ _ _ (eq_eqb_by _ _ _ c.word-form.ensures c.if-form-eq-PLUS.true) (rw (c.operand-a.ensures, c.operand.ensures) at c.sum.ensures)

pub returns-then-form-eq-MINUS : goal.returns-then-form-eq-MINUS
unfolding expression_of
returns-then-form-eq-MINUS c = pick_no _ _ _ _ (ne_eqb_by _ _ _ c.word-form.ensures c.if-form-eq-PLUS.false) (pick_yes _ _ _ _ (eq_eqb_by _ _ _ c.word-form.ensures c.if-form-eq-MINUS.true) (rw (c.operand-a.ensures, c.operand-then-form-eq-MINUS.ensures) at c.difference.ensures))

pub returns : goal.returns
unfolding expression_of
returns c = pick_no _ _ _ _ (ne_eqb_by _ _ _ c.word-form.ensures c.if-form-eq-PLUS.false) (pick_no _ _ _ _ (ne_eqb_by _ _ _ c.word-form.ensures c.if-form-eq-MINUS.false) c.operand-a.ensures)
