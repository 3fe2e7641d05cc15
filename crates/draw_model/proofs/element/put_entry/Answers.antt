use Rattle.draw_model.specs.Drawn.{entering_by}
use Rattle.base_words.proofs.AllLaws.{eq_eqb_by, ne_eqb_by}
use Rattle.base_words.proofs.PickLaws.{pick_no, pick_yes}
use Rattle.base_words.specs.Words.{at}
use mathlib.Core.Path.{refl}
use borrow.Author.Rules.{rules}
use Rattle.draw_model.proofs.element.put_entry.Goals as goal

pub target_of-requires : goal.target_of-requires
unfolding entering_by
target_of-requires c = search rules

pub edge_of-requires : goal.edge_of-requires
unfolding entering_by
edge_of-requires c = search rules

pub put_edge-requires : goal.put_edge-requires
unfolding entering_by
put_edge-requires c = search rules

pub returns-then-target_of-k : goal.returns-then-target_of-k
unfolding entering_by
returns-then-target_of-k c = pick_yes _ _ _ _ (eq_eqb_by _ _ _ c.target_of.ensures c.if-target_of-k.true) (rw c.edge_of.ensures at c.put_edge.ensures)

pub returns-else-target_of-k : goal.returns-else-target_of-k
unfolding entering_by
returns-else-target_of-k c = pick_no _ _ _ _ (ne_eqb_by _ _ _ c.target_of.ensures c.if-target_of-k.false) refl
