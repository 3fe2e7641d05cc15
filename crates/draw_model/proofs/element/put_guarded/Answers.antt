use Rattle.draw_model.specs.Drawn.{guarded_by}
use Rattle.base_words.proofs.AllLaws.{le_ltb_by, lt_ltb_by}
use Rattle.base_words.proofs.PickLaws.{pick_no, pick_yes}
use Rattle.base_words.specs.Words.{at}
use borrow.Author.Rules.{rules}
use Rattle.draw_model.proofs.element.put_guarded.Goals as goal

pub first_with-i-requires : goal.first_with-i-requires
unfolding guarded_by
first_with-i-requires c = search rules

pub place_of-requires : goal.place_of-requires
unfolding guarded_by
place_of-requires c = search rules

pub condition_at-said-requires : goal.condition_at-said-requires
unfolding guarded_by
condition_at-said-requires c = search rules

pub put_said-requires : goal.put_said-requires
unfolding guarded_by
put_said-requires c = search rules

pub returns-then-i-n : goal.returns-then-i-n
unfolding guarded_by
returns-then-i-n c = pick_yes _ _ _ _ (lt_ltb_by _ _ _ c.first_with-i.ensures c.if-i-n.true) (rw (c.condition_at-said.ensures, c.place_of.ensures, c.first_with-i.ensures) at c.put_said.ensures)

pub put_form-requires : goal.put_form-requires
unfolding guarded_by
put_form-requires c = search rules

pub returns : goal.returns
unfolding guarded_by
returns c = pick_no _ _ _ _ (le_ltb_by _ _ _ c.first_with-i.ensures c.if-i-n.false) c.put_form.ensures
