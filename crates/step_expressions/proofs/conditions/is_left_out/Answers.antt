use mathlib.Core.Path.{refl}
use Rattle.base_words.proofs.PickLaws.{flag_is, pick_no, pick_yes}
use Rattle.meaning.specs.Conditions.{left_out}
use Rattle.step_expressions.proofs.conditions.is_left_out.Goals as goal

pub returns-then-is_default : goal.returns-then-is_default
unfolding left_out
returns-then-is_default c = pick_yes _ _ _ _ (flag_is _ _ _ c.is_default.ensures c.if-is_default.true) refl

pub returns : goal.returns
unfolding left_out
returns c = pick_no _ _ _ _ (flag_is _ _ _ c.is_default.ensures c.if-is_default.false) c.is_default-2.ensures
