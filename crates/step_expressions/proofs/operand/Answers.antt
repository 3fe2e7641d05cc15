use Rattle.base_words.proofs.PickLaws.{pick_no, pick_yes}
use Rattle.base_words.proofs.AllLaws.{eq_eqb_by, ne_eqb_by}
use Rattle.meaning.specs.Expressions.{operand_of}
use Rattle.step_expressions.proofs.operand.Goals as goal

pub returns-then-word-eq0 : goal.returns-then-word-eq0
unfolding operand_of
returns-then-word-eq0 c = pick_yes _ _ _ _ (eq_eqb_by _ _ _ c.word.ensures c.if-word-eq0.true) (rw c.word-n.ensures)

pub returns : goal.returns
unfolding operand_of
returns c = pick_no _ _ _ _ (ne_eqb_by _ _ _ c.word.ensures c.if-word-eq0.false) (rw c.word-n.ensures at c.field_of.ensures)
