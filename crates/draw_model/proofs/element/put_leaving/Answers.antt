use Rattle.draw_model.specs.Drawn.{leaving_by}
use Rattle.base_words.proofs.AllLaws.{eq_eqb_by, ne_eqb_by}
use Rattle.base_words.proofs.PickLaws.{pick_no, pick_yes}
use mathlib.Core.Path.{refl}
use borrow.Author.Rules.{rules}
use Rattle.draw_model.proofs.element.put_leaving.Goals as goal

pub source_of-requires : goal.source_of-requires
unfolding leaving_by
source_of-requires c = search rules

pub put_exit-requires : goal.put_exit-requires
unfolding leaving_by
put_exit-requires c = search rules

pub returns-then-source_of-k : goal.returns-then-source_of-k
unfolding leaving_by
returns-then-source_of-k c = pick_yes _ _ _ _ (eq_eqb_by _ _ _ c.source_of.ensures c.if-source_of-k.true) c.put_exit.ensures

pub returns-else-source_of-k : goal.returns-else-source_of-k
unfolding leaving_by
returns-else-source_of-k c = pick_no _ _ _ _ (ne_eqb_by _ _ _ c.source_of.ensures c.if-source_of-k.false) refl
