use Rattle.write_buffer.proofs.OverLaws.{after, put_as, put_within}
use Rattle.write_shown.specs.Shown.{shown_item}
use Rattle.base_words.proofs.AllLaws.{eq_eqb_by, ne_eqb_by}
use Rattle.base_words.proofs.PickLaws.{pick_yes, pick_no}
use borrow.Author.Tests.{leb-true}
use mathlib.Core.Path.{refl}
use Rattle.write_shown.proofs.put_item.Goals as goal

pub returns-then-word-eq-BINDING : goal.returns-then-word-eq-BINDING
unfolding shown_item
returns-then-word-eq-BINDING c = put_within (put_as _ (pick_yes _ _ _ _ (eq_eqb_by _ _ _ c.word.ensures c.if-word-eq-BINDING.true) (rw c.word-then-word-eq-BINDING.ensures)) (after c.put_byte-mark.ensures c.put_field.ensures)) (leb-true _ _ refl)

pub returns : goal.returns
unfolding shown_item
returns c = put_as _ (pick_no _ _ _ _ (ne_eqb_by _ _ _ c.word.ensures c.if-word-eq-BINDING.false) refl) c.put_expression.ensures
