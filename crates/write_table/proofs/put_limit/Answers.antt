use Rattle.write_buffer.proofs.OverLaws.{after, put_as, put_within, put_nothing}
use Rattle.write_shown.specs.Shown.{shown_limit}
use Rattle.base_words.proofs.PickLaws.{pick_yes, pick_no}
use borrow.Author.Tests.{leb-true, eq-eqb, ne_eqb}
use mathlib.Core.Path.{refl}
use Rattle.write_table.proofs.put_limit.Goals as goal

pub returns-then-n-eq0 : goal.returns-then-n-eq0
unfolding shown_limit
returns-then-n-eq0 c = put_within (put_as _ (pick_yes _ _ _ _ (eq-eqb _ _ c.if-n-eq0.true) refl) (put_nothing _ _)) (leb-true _ _ refl)

pub returns : goal.returns
unfolding shown_limit
returns c = put_as _ (pick_no _ _ _ _ (ne_eqb _ _ c.if-n-eq0.false) refl) (after c.put_byte-comma.ensures c.put_number.ensures)
