use Rattle.text_bounds.specs.Bounds.{starts}
use Rattle.base_words.proofs.PickLaws.{pick_yes, pick_no, flag_is}
use borrow.Author.Tests.{eq-eqb, ne_eqb}
use Rattle.base_bytes.proofs.OrLaws.{or_told, or_no}
use borrow.Author.Rules.{rules}
use Rattle.text_bounds.proofs.starts.Goals as goal

pub starts_number-requires : goal.starts_number-requires
unfolding starts
starts_number-requires c = search rules

pub returns-then-item-eq-AN_EDGE : goal.returns-then-item-eq-AN_EDGE
unfolding starts
returns-then-item-eq-AN_EDGE c = pick_yes _ _ _ _ (eq-eqb _ _ c.if-item-eq-AN_EDGE.true) c.starts_number.ensures

pub starts_sign-requires : goal.starts_sign-requires
unfolding starts
starts_sign-requires c = search rules

pub starts_operand-requires : goal.starts_operand-requires
unfolding starts
starts_operand-requires c = search rules

pub returns-then-starts_sign : goal.returns-then-starts_sign
unfolding starts
returns-then-starts_sign c = pick_no _ _ _ _ (ne_eqb _ _ c.if-item-eq-AN_EDGE.false) (pick_yes _ _ _ _ (eq-eqb _ _ c.if-item-eq-A_TEMPLATE_ITEM.true) (or_told _ _ _ c.starts_sign.ensures c.if-starts_sign.true))

pub returns-else-starts_sign : goal.returns-else-starts_sign
unfolding starts
returns-else-starts_sign c = pick_no _ _ _ _ (ne_eqb _ _ c.if-item-eq-AN_EDGE.false) (pick_yes _ _ _ _ (eq-eqb _ _ c.if-item-eq-A_TEMPLATE_ITEM.true) (or_no _ _ _ (flag_is _ _ _ c.starts_sign.ensures c.if-starts_sign.false) c.starts_operand.ensures))

pub starts_operand-requires-then-item-eq-A_MESSAGE_ITEM : goal.starts_operand-requires-then-item-eq-A_MESSAGE_ITEM
unfolding starts
starts_operand-requires-then-item-eq-A_MESSAGE_ITEM c = search rules

pub returns-then-item-eq-A_MESSAGE_ITEM : goal.returns-then-item-eq-A_MESSAGE_ITEM
unfolding starts
returns-then-item-eq-A_MESSAGE_ITEM c = pick_no _ _ _ _ (ne_eqb _ _ c.if-item-eq-AN_EDGE.false) (pick_no _ _ _ _ (ne_eqb _ _ c.if-item-eq-A_TEMPLATE_ITEM.false) (pick_yes _ _ _ _ (eq-eqb _ _ c.if-item-eq-A_MESSAGE_ITEM.true) c.starts_operand-then-item-eq-A_MESSAGE_ITEM.ensures))

pub starts_field-requires : goal.starts_field-requires
unfolding starts
starts_field-requires c = search rules

pub returns-then-item-eq-AN_ASSIGNMENT : goal.returns-then-item-eq-AN_ASSIGNMENT
unfolding starts
returns-then-item-eq-AN_ASSIGNMENT c = pick_no _ _ _ _ (ne_eqb _ _ c.if-item-eq-AN_EDGE.false) (pick_no _ _ _ _ (ne_eqb _ _ c.if-item-eq-A_TEMPLATE_ITEM.false) (pick_no _ _ _ _ (ne_eqb _ _ c.if-item-eq-A_MESSAGE_ITEM.false) (pick_yes _ _ _ _ (eq-eqb _ _ c.if-item-eq-AN_ASSIGNMENT.true) c.starts_field.ensures)))

pub starts_sign-requires-2 : goal.starts_sign-requires-2
unfolding starts
starts_sign-requires-2 c = search rules

pub returns : goal.returns
unfolding starts
returns c = pick_no _ _ _ _ (ne_eqb _ _ c.if-item-eq-AN_EDGE.false) (pick_no _ _ _ _ (ne_eqb _ _ c.if-item-eq-A_TEMPLATE_ITEM.false) (pick_no _ _ _ _ (ne_eqb _ _ c.if-item-eq-A_MESSAGE_ITEM.false) (pick_no _ _ _ _ (ne_eqb _ _ c.if-item-eq-AN_ASSIGNMENT.false) c.starts_sign-2.ensures)))
