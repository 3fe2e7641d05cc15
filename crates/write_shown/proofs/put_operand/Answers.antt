use Rattle.write_buffer.proofs.OverLaws.{put_as, put_within}
use Rattle.write_decimals.specs.Decimals.{shown}
use Rattle.write_shown.specs.Shown.{shown_field, shown_operand}
use Rattle.base_words.proofs.AllLaws.{eq_eqb_by, ne_eqb_by}
use Rattle.base_words.proofs.PickLaws.{pick_yes, pick_no}
use borrow.Author.Tests.{leb-true}
use mathlib.Core.Path.{refl, ap}
use Rattle.write_shown.proofs.put_operand.Goals as goal

pub returns-then-word-eq-A_FIELD : goal.returns-then-word-eq-A_FIELD
unfolding shown_operand
returns-then-word-eq-A_FIELD c = put_as _ (pick_yes _ _ _ _ (eq_eqb_by _ _ _ c.word.ensures c.if-word-eq-A_FIELD.true) (ap shown_field c.word-number.ensures)) c.put_field.ensures

pub returns : goal.returns
unfolding shown_operand
returns c = put_within (put_as _ (pick_no _ _ _ _ (ne_eqb_by _ _ _ c.word.ensures c.if-word-eq-A_FIELD.false) (ap shown c.word-number.ensures)) c.put_number.ensures) (leb-true _ _ refl)
