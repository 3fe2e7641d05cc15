use Rattle.draw_model.specs.Content.{limit_of}
use Rattle.base_words.proofs.AllLaws.{le_ltb_by, lt_ltb_by}
use Rattle.base_words.proofs.PickLaws.{pick_no, pick_yes}
use Rattle.base_words.specs.Words.{at}
use mathlib.Core.Path.{refl}
use borrow.Author.Rules.{rules}
use Rattle.draw_model.proofs.limit_of.Goals as goal

pub first_with-i-requires : goal.first_with-i-requires
unfolding limit_of
first_with-i-requires c = search rules

pub maximum_of-requires : goal.maximum_of-requires
unfolding limit_of
maximum_of-requires c = search rules

pub returns-then-i-n : goal.returns-then-i-n
unfolding limit_of
returns-then-i-n c = pick_yes _ _ _ _ (lt_ltb_by _ _ _ c.first_with-i.ensures c.if-i-n.true) (rw c.first_with-i.ensures at c.maximum_of.ensures)

pub returns : goal.returns
unfolding limit_of
returns c = pick_no _ _ _ _ (le_ltb_by _ _ _ c.first_with-i.ensures c.if-i-n.false) refl
