use mathlib.Core.Path.{refl}
use Rattle.base_words.proofs.PickLaws.{flag_is, pick_no, pick_yes}
use Rattle.meaning.specs.Templates.{bind_one}
use Rattle.step_expressions.proofs.templates.bind_one.Goals as goal

pub returns-then-does_bind : goal.returns-then-does_bind
unfolding bind_one
returns-then-does_bind c = pick_yes _ _ _ _ (flag_is _ _ _ c.does_bind.ensures c.if-does_bind.true) (rw c.item_at-x.ensures at rw (c.word.ensures, c.value_of.ensures) at c.put_field.ensures)

pub returns-else-does_bind : goal.returns-else-does_bind
unfolding bind_one
returns-else-does_bind c = pick_no _ _ _ _ (flag_is _ _ _ c.does_bind.ensures c.if-does_bind.false) refl
