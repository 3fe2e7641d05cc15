use mathlib.Core.Path.{refl}
use Rattle.base_words.proofs.AllLaws.{eq_eqb_by, ne_eqb_by}
use Rattle.base_words.proofs.PickLaws.{pick_yes, pick_no}
use Rattle.meaning.specs.Expressions.{field_of}
use Rattle.step_expressions.proofs.field_of.Goals as goal

pub returns-then-defined_at-eq0 : goal.returns-then-defined_at-eq0
unfolding field_of
returns-then-defined_at-eq0 c = pick_yes _ _ _ _ (eq_eqb_by _ _ _ c.defined_at.ensures c.if-defined_at-eq0.true) refl

pub returns-else-defined_at-eq0 : goal.returns-else-defined_at-eq0
unfolding field_of
returns-else-defined_at-eq0 c = pick_no _ _ _ _ (ne_eqb_by _ _ _ c.defined_at.ensures c.if-defined_at-eq0.false) (rw c.value_at.ensures)
