use Rattle.text_parts.specs.Parts.{item_of}
use Rattle.text_terms.proofs.ReaderLaws.{reads_yes, reads_no}
use borrow.Author.Tests.{eq-eqb, ne_eqb}
use Rattle.text_parts.proofs.lists.item_of.Goals as goal

pub returns-then-s-eq-AN_EDGE : goal.returns-then-s-eq-AN_EDGE
unfolding item_of
returns-then-s-eq-AN_EDGE c = reads_yes _ _ _ _ _ _ _ (eq-eqb _ _ c.if-s-eq-AN_EDGE.true) c.number_in.ensures

pub returns-then-s-eq-A_TEMPLATE_ITEM : goal.returns-then-s-eq-A_TEMPLATE_ITEM
unfolding item_of
returns-then-s-eq-A_TEMPLATE_ITEM c = reads_no _ _ _ _ _ _ _ (ne_eqb _ _ c.if-s-eq-AN_EDGE.false) (reads_yes _ _ _ _ _ _ _ (eq-eqb _ _ c.if-s-eq-A_TEMPLATE_ITEM.true) c.item_of_template.ensures)

pub returns-then-s-eq-A_MESSAGE_ITEM : goal.returns-then-s-eq-A_MESSAGE_ITEM
unfolding item_of
returns-then-s-eq-A_MESSAGE_ITEM c = reads_no _ _ _ _ _ _ _ (ne_eqb _ _ c.if-s-eq-AN_EDGE.false) (reads_no _ _ _ _ _ _ _ (ne_eqb _ _ c.if-s-eq-A_TEMPLATE_ITEM.false) (reads_yes _ _ _ _ _ _ _ (eq-eqb _ _ c.if-s-eq-A_MESSAGE_ITEM.true) c.item_of_message.ensures))

pub returns-then-s-eq-AN_ASSIGNMENT : goal.returns-then-s-eq-AN_ASSIGNMENT
unfolding item_of
returns-then-s-eq-AN_ASSIGNMENT c = reads_no _ _ _ _ _ _ _ (ne_eqb _ _ c.if-s-eq-AN_EDGE.false) (reads_no _ _ _ _ _ _ _ (ne_eqb _ _ c.if-s-eq-A_TEMPLATE_ITEM.false) (reads_no _ _ _ _ _ _ _ (ne_eqb _ _ c.if-s-eq-A_MESSAGE_ITEM.false) (reads_yes _ _ _ _ _ _ _ (eq-eqb _ _ c.if-s-eq-AN_ASSIGNMENT.true) c.assignment.ensures)))

pub returns : goal.returns
unfolding item_of
returns c = reads_no _ _ _ _ _ _ _ (ne_eqb _ _ c.if-s-eq-AN_EDGE.false) (reads_no _ _ _ _ _ _ _ (ne_eqb _ _ c.if-s-eq-A_TEMPLATE_ITEM.false) (reads_no _ _ _ _ _ _ _ (ne_eqb _ _ c.if-s-eq-A_MESSAGE_ITEM.false) (reads_no _ _ _ _ _ _ _ (ne_eqb _ _ c.if-s-eq-AN_ASSIGNMENT.false) c.guarded.ensures)))
