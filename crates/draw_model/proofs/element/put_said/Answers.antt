use Rattle.draw_model.specs.Drawn.{said_or_true}
use Rattle.base_words.proofs.PickLaws.{pick_no, pick_yes}
use borrow.Author.Tests.{eq-eqb, ne_eqb}
use borrow.Author.Rules.{rules}
use Rattle.draw_model.proofs.element.put_said.Goals as goal

pub put_form-requires : goal.put_form-requires
unfolding said_or_true
put_form-requires c = search rules

pub returns-then-c-eq-ABSENT : goal.returns-then-c-eq-ABSENT
unfolding said_or_true
returns-then-c-eq-ABSENT c = pick_yes _ _ _ _ (eq-eqb _ _ c.if-c-eq-ABSENT.true) c.put_form.ensures

pub put_condition-requires : goal.put_condition-requires
unfolding said_or_true
put_condition-requires c = search rules

pub returns : goal.returns
unfolding said_or_true
returns c = pick_no _ _ _ _ (ne_eqb _ _ c.if-c-eq-ABSENT.false) c.put_condition.ensures
