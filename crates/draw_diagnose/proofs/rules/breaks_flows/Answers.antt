use Rattle.base_words.proofs.PickLaws.{pick_no}
use Rattle.base_words.proofs.PickLaws.{pick_yes}
use Rattle.draw_diagnose.specs.Rules.{breaks_flows}
use Rattle.draw_faults.specs.Amiss.{is_second_condition}
use borrow.Author.Tests.{eq-eqb}
use borrow.Author.Tests.{ne_eqb}
use borrow.Author.Rules.{rules}
use Rattle.draw_diagnose.proofs.rules.breaks_flows.Goals as goal

pub is_unheard-requires : goal.is_unheard-requires
unfolding breaks_flows is_second_condition
is_unheard-requires c = search rules

pub returns-then-rule-eq-UNHEARD : goal.returns-then-rule-eq-UNHEARD
unfolding breaks_flows is_second_condition
returns-then-rule-eq-UNHEARD c = pick_yes _ _ _ _ (eq-eqb _ _ c.if-rule-eq-UNHEARD.true) c.is_unheard.ensures

pub is_untold-requires : goal.is_untold-requires
unfolding breaks_flows is_second_condition
is_untold-requires c = search rules

pub returns-then-rule-eq-UNTOLD : goal.returns-then-rule-eq-UNTOLD
unfolding breaks_flows is_second_condition
returns-then-rule-eq-UNTOLD c = pick_no _ _ _ _ (ne_eqb _ _ c.if-rule-eq-UNHEARD.false) (pick_yes _ _ _ _ (eq-eqb _ _ c.if-rule-eq-UNTOLD.true) c.is_untold.ensures)

pub is_wrong_branch-requires : goal.is_wrong_branch-requires
unfolding breaks_flows is_second_condition
is_wrong_branch-requires c = search rules

pub returns-then-rule-eq-WRONG_BRANCH : goal.returns-then-rule-eq-WRONG_BRANCH
unfolding breaks_flows is_second_condition
returns-then-rule-eq-WRONG_BRANCH c = pick_no _ _ _ _ (ne_eqb _ _ c.if-rule-eq-UNHEARD.false) (pick_no _ _ _ _ (ne_eqb _ _ c.if-rule-eq-UNTOLD.false) (pick_yes _ _ _ _ (eq-eqb _ _ c.if-rule-eq-WRONG_BRANCH.true) c.is_wrong_branch.ensures))

pub is_second-requires : goal.is_second-requires
unfolding breaks_flows is_second_condition
is_second-requires c = search rules

pub returns-then-rule-eq-SECOND_CONDITION : goal.returns-then-rule-eq-SECOND_CONDITION
unfolding breaks_flows is_second_condition
returns-then-rule-eq-SECOND_CONDITION c = pick_no _ _ _ _ (ne_eqb _ _ c.if-rule-eq-UNHEARD.false) (pick_no _ _ _ _ (ne_eqb _ _ c.if-rule-eq-UNTOLD.false) (pick_no _ _ _ _ (ne_eqb _ _ c.if-rule-eq-WRONG_BRANCH.false) (pick_yes _ _ _ _ (eq-eqb _ _ c.if-rule-eq-SECOND_CONDITION.true) c.is_second.ensures)))

pub is_wrong_condition-requires : goal.is_wrong_condition-requires
unfolding breaks_flows is_second_condition
is_wrong_condition-requires c = search rules

pub returns : goal.returns
unfolding breaks_flows is_second_condition
returns c = pick_no _ _ _ _ (ne_eqb _ _ c.if-rule-eq-UNHEARD.false) (pick_no _ _ _ _ (ne_eqb _ _ c.if-rule-eq-UNTOLD.false) (pick_no _ _ _ _ (ne_eqb _ _ c.if-rule-eq-WRONG_BRANCH.false) (pick_no _ _ _ _ (ne_eqb _ _ c.if-rule-eq-SECOND_CONDITION.false) c.is_wrong_condition.ensures)))
