use Rattle.write_buffer.proofs.OverLaws.{put_as, put_within}
use Rattle.write_shown.specs.Shown.{shown_operand, shown_expression}
use Rattle.base_words.proofs.AllLaws.{eq_eqb_by, ne_eqb_by}
use Rattle.base_words.proofs.PickLaws.{pick_yes, pick_no}
use borrow.Author.Tests.{leb-true}
use mathlib.Core.Path.{refl, ap}
use native.Mathlib.Omega.{arith}
use Rattle.write_shown.proofs.put_expression.Goals as goal

pub returns-in-2 : goal.returns-in-2
unfolding shown_expression
returns-in-2 c = put_as _ (pick_yes _ _ _ _ (eq_eqb_by _ _ _ c.word.ensures c.in-2.is) refl) c.put_pair.ensures

pub returns-in-3 : goal.returns-in-3
unfolding shown_expression
returns-in-3 c = put_as _ (pick_no _ _ _ _ (ne_eqb_by _ _ _ c.word.ensures (λ q. omega arith)) (pick_yes _ _ _ _ (eq_eqb_by _ _ _ c.word.ensures c.in-3.is) refl)) c.put_pair-in-3.ensures

pub returns-in_default : goal.returns-in_default
unfolding shown_expression
returns-in_default c = put_within (put_as _ (pick_no _ _ _ _ (ne_eqb_by _ _ _ c.word.ensures (λ q. omega arith)) (pick_no _ _ _ _ (ne_eqb_by _ _ _ c.word.ensures (λ q. omega arith)) (ap shown_operand c.tail.ensures))) c.put_operand.ensures) (leb-true _ _ refl)
