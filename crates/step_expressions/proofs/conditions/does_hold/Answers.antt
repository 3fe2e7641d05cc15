use Rattle.std.proofs.Common.{◌∙◌}
use Rattle.base_words.proofs.PickLaws.{and_no, and_yes, flag_is, pick_no, pick_yes}
use Rattle.meaning.specs.Conditions.{holds}
use Rattle.step_expressions.proofs.conditions.does_hold.Goals as goal

pub returns-then-is_default : goal.returns-then-is_default
unfolding holds
returns-then-is_default c = pick_yes _ _ _ _ (flag_is _ _ _ c.is_default.ensures c.if-is_default.true) (rw c.exit_count.ensures at c.others_false.ensures)

pub returns-then-is_true : goal.returns-then-is_true
unfolding holds
returns-then-is_true c = pick_no _ _ _ _ (flag_is _ _ _ c.is_default.ensures c.if-is_default.false) (and_yes _ _ _ (flag_is _ _ _ (rw c.condition_of.ensures at c.is_true.ensures) c.if-is_true.true) c.others_false-then-is_true.ensures)

pub returns-else-is_true : goal.returns-else-is_true
unfolding holds
returns-else-is_true c = pick_no _ _ _ _ (flag_is _ _ _ c.is_default.ensures c.if-is_default.false) (c.if-is_true.false ∙ and_no _ _ (flag_is _ _ _ (rw c.condition_of.ensures at c.is_true.ensures) c.if-is_true.false))
