use Rattle.base_words.proofs.PickLaws.{pick_no}
use Rattle.base_words.proofs.PickLaws.{pick_yes}
use Rattle.draw_diagnose.specs.Rules.{breaks_nodes}
use Rattle.draw_faults.specs.Amiss.{is_of_no_kind}
use borrow.Author.Tests.{eq-eqb}
use borrow.Author.Tests.{ne_eqb}
use borrow.Author.Rules.{rules}
use Rattle.draw_diagnose.proofs.rules.breaks_nodes.Goals as goal

pub is_loose-requires : goal.is_loose-requires
unfolding breaks_nodes is_of_no_kind
is_loose-requires c = search rules

pub returns-then-rule-eq-LOOSE : goal.returns-then-rule-eq-LOOSE
unfolding breaks_nodes is_of_no_kind
returns-then-rule-eq-LOOSE c = pick_yes _ _ _ _ (eq-eqb _ _ c.if-rule-eq-LOOSE.true) c.is_loose.ensures

pub is_adrift-requires : goal.is_adrift-requires
unfolding breaks_nodes is_of_no_kind
is_adrift-requires c = search rules

pub returns-then-rule-eq-ADRIFT : goal.returns-then-rule-eq-ADRIFT
unfolding breaks_nodes is_of_no_kind
returns-then-rule-eq-ADRIFT c = pick_no _ _ _ _ (ne_eqb _ _ c.if-rule-eq-LOOSE.false) (pick_yes _ _ _ _ (eq-eqb _ _ c.if-rule-eq-ADRIFT.true) c.is_adrift.ensures)

pub is_of_kind-requires : goal.is_of_kind-requires
unfolding breaks_nodes is_of_no_kind
is_of_kind-requires c = search rules

pub returns-then-rule-eq-OF_NO_KIND : goal.returns-then-rule-eq-OF_NO_KIND
unfolding breaks_nodes is_of_no_kind
returns-then-rule-eq-OF_NO_KIND c = pick_no _ _ _ _ (ne_eqb _ _ c.if-rule-eq-LOOSE.false) (pick_no _ _ _ _ (ne_eqb _ _ c.if-rule-eq-ADRIFT.false) (pick_yes _ _ _ _ (eq-eqb _ _ c.if-rule-eq-OF_NO_KIND.true) c.is_of_kind.ensures))

pub has_wrong_default-requires : goal.has_wrong_default-requires
unfolding breaks_nodes is_of_no_kind
has_wrong_default-requires c = search rules

pub returns-then-rule-eq-WRONG_DEFAULT : goal.returns-then-rule-eq-WRONG_DEFAULT
unfolding breaks_nodes is_of_no_kind
returns-then-rule-eq-WRONG_DEFAULT c = pick_no _ _ _ _ (ne_eqb _ _ c.if-rule-eq-LOOSE.false) (pick_no _ _ _ _ (ne_eqb _ _ c.if-rule-eq-ADRIFT.false) (pick_no _ _ _ _ (ne_eqb _ _ c.if-rule-eq-OF_NO_KIND.false) (pick_yes _ _ _ _ (eq-eqb _ _ c.if-rule-eq-WRONG_DEFAULT.true) c.has_wrong_default.ensures)))

pub is_wrong_message-requires : goal.is_wrong_message-requires
unfolding breaks_nodes is_of_no_kind
is_wrong_message-requires c = search rules

pub returns : goal.returns
unfolding breaks_nodes is_of_no_kind
returns c = pick_no _ _ _ _ (ne_eqb _ _ c.if-rule-eq-LOOSE.false) (pick_no _ _ _ _ (ne_eqb _ _ c.if-rule-eq-ADRIFT.false) (pick_no _ _ _ _ (ne_eqb _ _ c.if-rule-eq-OF_NO_KIND.false) (pick_no _ _ _ _ (ne_eqb _ _ c.if-rule-eq-WRONG_DEFAULT.false) c.is_wrong_message.ensures)))
