use Rattle.text_parts.specs.Parts.{inside}
use Rattle.text_readers.proofs.ReadingLaws.{if_stopped, if_passed}
use Rattle.text_readers.proofs.KeepLaws.{stored}
use Rattle.base_words.proofs.PickLaws.{pick_yes, pick_no}
use borrow.Author.Tests.{eq-eqb, ne_eqb}
use Rattle.text_parts.proofs.lists.inside.Goals as goal
use Rattle.text_parts.proofs.lists.inside.Goals.{then-s-eq0+in_default, else-s-eq0}

pub returns-in-Ok : goal.returns-in-Ok
unfolding inside
returns-in-Ok c = pick_yes _ _ _ _ (eq-eqb _ _ c.if-s-eq0.true) (if_passed _ _ c.sign_at.ensures _ _ _ _ c.in-Ok.is (stored _ _ _ c.put.ensures))

pub returns : goal.returns
unfolding inside
returns c = elim c.if-s-eq0.branch [
  | then-s-eq0+in_default w ↦ pick_yes _ _ _ _ (eq-eqb _ _ w.if-s-eq0.true) (if_stopped _ _ w.sign_at.ensures _ _ _ _ w.in_default.is c.items_to_close.ensures)
  | else-s-eq0 w ↦ pick_no _ _ _ _ (ne_eqb _ _ w.if-s-eq0.false) c.items_to_close.ensures
]
