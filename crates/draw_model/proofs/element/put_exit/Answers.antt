use Rattle.draw_model.specs.Drawn.{exit_by}
use Rattle.base_words.proofs.AllLaws.{eq_eqb_by, ne_eqb_by}
use Rattle.base_words.proofs.PickLaws.{pick_no, pick_yes}
use Rattle.base_words.specs.Words.{at}
use borrow.Author.Rules.{rules}
use Rattle.draw_model.proofs.element.put_exit.Goals as goal

pub kind_of_thing-kind-requires : goal.kind_of_thing-kind-requires
unfolding exit_by
kind_of_thing-kind-requires c = search rules

pub put_branch-requires : goal.put_branch-requires
unfolding exit_by
put_branch-requires c = search rules

pub returns-then-kind-eq-EVENT_BASED : goal.returns-then-kind-eq-EVENT_BASED
unfolding exit_by
returns-then-kind-eq-EVENT_BASED c = pick_yes _ _ _ _ (eq_eqb_by _ _ _ c.kind_of_thing-kind.ensures c.if-kind-eq-EVENT_BASED.true) c.put_branch.ensures

pub put_guarded_exit-requires : goal.put_guarded_exit-requires
unfolding exit_by
put_guarded_exit-requires c = search rules

pub returns-then-kind-eq-XOR_SPLIT : goal.returns-then-kind-eq-XOR_SPLIT
unfolding exit_by
returns-then-kind-eq-XOR_SPLIT c = pick_no _ _ _ _ (ne_eqb_by _ _ _ c.kind_of_thing-kind.ensures c.if-kind-eq-EVENT_BASED.false) (pick_yes _ _ _ _ (eq_eqb_by _ _ _ c.kind_of_thing-kind.ensures c.if-kind-eq-XOR_SPLIT.true) c.put_guarded_exit.ensures)

pub edge_of-requires : goal.edge_of-requires
unfolding exit_by
edge_of-requires c = search rules

pub put_edge-requires : goal.put_edge-requires
unfolding exit_by
put_edge-requires c = search rules

pub returns : goal.returns
unfolding exit_by
returns c = pick_no _ _ _ _ (ne_eqb_by _ _ _ c.kind_of_thing-kind.ensures c.if-kind-eq-EVENT_BASED.false) (pick_no _ _ _ _ (ne_eqb_by _ _ _ c.kind_of_thing-kind.ensures c.if-kind-eq-XOR_SPLIT.false) (rw c.edge_of.ensures at c.put_edge.ensures))
