use mathlib.Core.Path.{refl}
use borrow.Author.Tests.{not-false, not-true}
use Rattle.base_words.proofs.PickLaws.{pick_no, pick_yes}
use Rattle.base_words.proofs.AllLaws.{le_leb_by, lt_leb_by}
use Rattle.meaning.specs.Assignments.{assign_one}
use Rattle.step_expressions.proofs.OrderLaws.{undefined_stays}
use mathlib.Core.Path.{ap}
use mathlib.Core.Bool.{not}
use Rattle.step_expressions.proofs.assignments.assign_one.Goals as goal

pub returns-then-assignment_count-j : goal.returns-then-assignment_count-j
unfolding assign_one
returns-then-assignment_count-j c = pick_yes _ _ _ _ (le_leb_by _ _ _ c.assignment_count.ensures c.if-assignment_count-j.true) refl

pub returns-then-not-defined : goal.returns-then-not-defined
unfolding assign_one
returns-then-not-defined c = pick_no _ _ _ _ (lt_leb_by _ _ _ c.assignment_count.ensures c.if-assignment_count-j.false) (pick_no _ _ _ _ (not-true _ (ap not c.if-not-defined.true)) (undefined_stays _ _ (not-true _ (ap not c.if-not-defined.true))))

pub returns : goal.returns
unfolding assign_one
returns c = pick_no _ _ _ _ (lt_leb_by _ _ _ c.assignment_count.ensures c.if-assignment_count-j.false) (pick_yes _ _ _ _ (not-false _ (ap not c.if-not-defined.false)) (rw (c.word.ensures, c.expression-x.ensures, c.tail.ensures, c.assignment_at-a.ensures) at c.assign_value.ensures))
