use Rattle.std.proofs.Common.{◌∙◌, refl}
use Rattle.base_words.proofs.PickLaws.{flag_is, pick_no, pick_yes}
use Rattle.meaning.specs.Conditions.{other_false}
use Rattle.step_expressions.proofs.conditions.other_false.Goals as goal

pub returns-then-is_left_out : goal.returns-then-is_left_out
unfolding other_false
returns-then-is_left_out c = c.if-is_left_out.true ∙ pick_yes _ _ _ _ (flag_is _ _ _ c.is_left_out.ensures c.if-is_left_out.true) refl

pub returns-else-is_left_out : goal.returns-else-is_left_out
unfolding other_false
returns-else-is_left_out c = pick_no _ _ _ _ (flag_is _ _ _ c.is_left_out.ensures c.if-is_left_out.false) (rw c.condition_of.ensures at c.is_false.ensures)
