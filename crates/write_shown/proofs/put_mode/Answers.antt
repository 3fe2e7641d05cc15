use Rattle.write_buffer.proofs.OverLaws.{put_as, put_within}
use Rattle.write_shown.specs.Shown.{shown_mode}
use Rattle.base_words.proofs.PickLaws.{pick_yes, pick_no}
use borrow.Author.Tests.{leb-true, eq-eqb, ne_eqb}
use mathlib.Core.Path.{refl}
use native.Mathlib.Omega.{arith}
use Rattle.write_shown.proofs.put_mode.Goals as goal

pub returns-in-1 : goal.returns-in-1
unfolding shown_mode
returns-in-1 c = put_within (put_as _ (pick_yes _ _ _ _ (eq-eqb _ _ c.in-1.is) refl) c.put_bytes.ensures) (leb-true _ _ refl)

pub returns-in-2 : goal.returns-in-2
unfolding shown_mode
returns-in-2 c = put_within (put_as _ (pick_no _ _ _ _ (ne_eqb _ _ (λ q. omega arith)) (pick_yes _ _ _ _ (eq-eqb _ _ c.in-2.is) refl)) c.put_bytes-in-2.ensures) (leb-true _ _ refl)

pub returns-in_default : goal.returns-in_default
unfolding shown_mode
returns-in_default c = put_within (put_as _ (pick_no _ _ _ _ (ne_eqb _ _ (λ q. omega arith)) (pick_no _ _ _ _ (ne_eqb _ _ (λ q. omega arith)) refl)) c.put_bytes-in_default.ensures) (leb-true _ _ refl)
