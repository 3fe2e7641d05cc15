use Rattle.draw_model.specs.Drawn.{with_guard}
use Rattle.base_words.proofs.AllLaws.{eq_eqb_by, ne_eqb_by}
use Rattle.base_words.proofs.PickLaws.{pick_no, pick_yes}
use borrow.Author.Rules.{rules}
use Rattle.draw_model.proofs.element.put_guard.Goals as goal

pub default_of-requires : goal.default_of-requires
unfolding with_guard
default_of-requires c = search rules

pub put_form-requires : goal.put_form-requires
unfolding with_guard
put_form-requires c = search rules

pub returns-then-default_of-j : goal.returns-then-default_of-j
unfolding with_guard
returns-then-default_of-j c = pick_yes _ _ _ _ (eq_eqb_by _ _ _ c.default_of.ensures c.if-default_of-j.true) c.put_form.ensures

pub put_guarded-requires : goal.put_guarded-requires
unfolding with_guard
put_guarded-requires c = search rules

pub returns : goal.returns
unfolding with_guard
returns c = pick_no _ _ _ _ (ne_eqb_by _ _ _ c.default_of.ensures c.if-default_of-j.false) c.put_guarded.ensures
