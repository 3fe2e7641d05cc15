use Rattle.base_words.proofs.PickLaws.{pick_no}
use Rattle.base_words.proofs.PickLaws.{pick_yes}
use Rattle.draw_chart.proofs.PutLaws.{puts_as}
use Rattle.draw_map.specs.Map.{lines_of}
use borrow.Author.Tests.{eq-eqb}
use borrow.Author.Tests.{ne_eqb}
use mathlib.Core.Path.{refl}
use borrow.Author.Rules.{rules}
use Rattle.draw_chart.proofs.pools.put_lines_of.Goals as goal

pub put_element_lines-requires : goal.put_element_lines-requires
unfolding lines_of
put_element_lines-requires c = search rules

pub returns-then-class-eq-THE_ELEMENTS : goal.returns-then-class-eq-THE_ELEMENTS
unfolding lines_of
returns-then-class-eq-THE_ELEMENTS c = puts_as _ (pick_yes _ _ _ _ (eq-eqb _ _ c.if-class-eq-THE_ELEMENTS.true) refl) c.put_element_lines.ensures

pub put_end_lines-requires : goal.put_end_lines-requires
unfolding lines_of
put_end_lines-requires c = search rules

pub returns-then-class-eq-THE_ENDS : goal.returns-then-class-eq-THE_ENDS
unfolding lines_of
returns-then-class-eq-THE_ENDS c = puts_as _ (pick_no _ _ _ _ (ne_eqb _ _ c.if-class-eq-THE_ELEMENTS.false) (pick_yes _ _ _ _ (eq-eqb _ _ c.if-class-eq-THE_ENDS.true) refl)) c.put_end_lines.ensures

pub put_edge-requires : goal.put_edge-requires
unfolding lines_of
put_edge-requires c = search rules

pub returns : goal.returns
unfolding lines_of
returns c = puts_as _ (pick_no _ _ _ _ (ne_eqb _ _ c.if-class-eq-THE_ELEMENTS.false) (pick_no _ _ _ _ (ne_eqb _ _ c.if-class-eq-THE_ENDS.false) refl)) c.put_edge.ensures
