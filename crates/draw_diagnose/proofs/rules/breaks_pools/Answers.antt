use Rattle.base_words.proofs.PickLaws.{pick_no}
use Rattle.base_words.proofs.PickLaws.{pick_yes}
use Rattle.draw_diagnose.specs.Rules.{breaks_pools}
use Rattle.draw_faults.specs.Amiss.{is_second_multiplicity}
use Rattle.draw_faults.specs.Amiss.{is_strange}
use borrow.Author.Tests.{eq-eqb}
use borrow.Author.Tests.{ne_eqb}
use borrow.Author.Rules.{rules}
use Rattle.draw_diagnose.proofs.rules.breaks_pools.Goals as goal

pub of_sort-requires : goal.of_sort-requires
unfolding breaks_pools is_strange is_second_multiplicity
of_sort-requires c = search rules

pub returns-then-rule-eq-A_STRANGER : goal.returns-then-rule-eq-A_STRANGER
unfolding breaks_pools is_strange is_second_multiplicity
returns-then-rule-eq-A_STRANGER c = pick_yes _ _ _ _ (eq-eqb _ _ c.if-rule-eq-A_STRANGER.true) c.of_sort.ensures

pub is_repeated-requires : goal.is_repeated-requires
unfolding breaks_pools is_strange is_second_multiplicity
is_repeated-requires c = search rules

pub returns-then-rule-eq-REPEATED : goal.returns-then-rule-eq-REPEATED
unfolding breaks_pools is_strange is_second_multiplicity
returns-then-rule-eq-REPEATED c = pick_no _ _ _ _ (ne_eqb _ _ c.if-rule-eq-A_STRANGER.false) (pick_yes _ _ _ _ (eq-eqb _ _ c.if-rule-eq-REPEATED.true) c.is_repeated.ensures)

pub is_second_collaboration-requires : goal.is_second_collaboration-requires
unfolding breaks_pools is_strange is_second_multiplicity
is_second_collaboration-requires c = search rules

pub returns-then-rule-eq-SECOND_COLLABORATION : goal.returns-then-rule-eq-SECOND_COLLABORATION
unfolding breaks_pools is_strange is_second_multiplicity
returns-then-rule-eq-SECOND_COLLABORATION c = pick_no _ _ _ _ (ne_eqb _ _ c.if-rule-eq-A_STRANGER.false) (pick_no _ _ _ _ (ne_eqb _ _ c.if-rule-eq-REPEATED.false) (pick_yes _ _ _ _ (eq-eqb _ _ c.if-rule-eq-SECOND_COLLABORATION.true) c.is_second_collaboration.ensures))

pub is_lost-requires : goal.is_lost-requires
unfolding breaks_pools is_strange is_second_multiplicity
is_lost-requires c = search rules

pub returns-then-rule-eq-LOST : goal.returns-then-rule-eq-LOST
unfolding breaks_pools is_strange is_second_multiplicity
returns-then-rule-eq-LOST c = pick_no _ _ _ _ (ne_eqb _ _ c.if-rule-eq-A_STRANGER.false) (pick_no _ _ _ _ (ne_eqb _ _ c.if-rule-eq-REPEATED.false) (pick_no _ _ _ _ (ne_eqb _ _ c.if-rule-eq-SECOND_COLLABORATION.false) (pick_yes _ _ _ _ (eq-eqb _ _ c.if-rule-eq-LOST.true) c.is_lost.ensures)))

pub is_unowned-requires : goal.is_unowned-requires
unfolding breaks_pools is_strange is_second_multiplicity
is_unowned-requires c = search rules

pub returns-then-rule-eq-UNOWNED : goal.returns-then-rule-eq-UNOWNED
unfolding breaks_pools is_strange is_second_multiplicity
returns-then-rule-eq-UNOWNED c = pick_no _ _ _ _ (ne_eqb _ _ c.if-rule-eq-A_STRANGER.false) (pick_no _ _ _ _ (ne_eqb _ _ c.if-rule-eq-REPEATED.false) (pick_no _ _ _ _ (ne_eqb _ _ c.if-rule-eq-SECOND_COLLABORATION.false) (pick_no _ _ _ _ (ne_eqb _ _ c.if-rule-eq-LOST.false) (pick_yes _ _ _ _ (eq-eqb _ _ c.if-rule-eq-UNOWNED.true) c.is_unowned.ensures))))

pub is_second-requires : goal.is_second-requires
unfolding breaks_pools is_strange is_second_multiplicity
is_second-requires c = search rules

pub returns : goal.returns
unfolding breaks_pools is_strange is_second_multiplicity
returns c = pick_no _ _ _ _ (ne_eqb _ _ c.if-rule-eq-A_STRANGER.false) (pick_no _ _ _ _ (ne_eqb _ _ c.if-rule-eq-REPEATED.false) (pick_no _ _ _ _ (ne_eqb _ _ c.if-rule-eq-SECOND_COLLABORATION.false) (pick_no _ _ _ _ (ne_eqb _ _ c.if-rule-eq-LOST.false) (pick_no _ _ _ _ (ne_eqb _ _ c.if-rule-eq-UNOWNED.false) c.is_second.ensures))))
