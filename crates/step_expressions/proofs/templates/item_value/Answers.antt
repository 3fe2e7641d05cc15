use mathlib.Core.Path.{refl}
use Rattle.base_words.proofs.PickLaws.{flag_is, pick_no, pick_yes}
use Rattle.base_words.proofs.AllLaws.{le_leb_by, lt_leb_by}
use Rattle.meaning.specs.Templates.{item_value}
use Rattle.step_expressions.proofs.templates.item_value.Goals as goal

pub returns-then-message_length-j : goal.returns-then-message_length-j
unfolding item_value
returns-then-message_length-j c = pick_yes _ _ _ _ (le_leb_by _ _ _ c.message_length.ensures c.if-message_length-j.true) refl

pub returns-then-does_bind : goal.returns-then-does_bind
unfolding item_value
returns-then-does_bind c = pick_no _ _ _ _ (lt_leb_by _ _ _ c.message_length.ensures c.if-message_length-j.false) (pick_yes _ _ _ _ (flag_is _ _ _ c.does_bind.ensures c.if-does_bind.true) (rw c.value_of.ensures))

pub returns : goal.returns
unfolding item_value
returns c = pick_no _ _ _ _ (lt_leb_by _ _ _ c.message_length.ensures c.if-message_length-j.false) (pick_no _ _ _ _ (flag_is _ _ _ c.does_bind.ensures c.if-does_bind.false) (rw c.item_at.ensures at c.expression.ensures))
