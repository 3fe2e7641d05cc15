use Rattle.base_words.proofs.PickLaws.{pick_no}
use Rattle.base_words.proofs.PickLaws.{pick_yes}
use Rattle.draw_chart.proofs.PutLaws.{puts_as}
use Rattle.draw_map.specs.Map.{part_of}
use borrow.Author.Tests.{eq-eqb}
use borrow.Author.Tests.{ne_eqb}
use mathlib.Core.Path.{refl}
use borrow.Author.Rules.{rules}
use Rattle.draw_chart.proofs.put_part.Goals as goal

pub put_pool_lines-requires : goal.put_pool_lines-requires
unfolding part_of
put_pool_lines-requires c = search rules

pub returns-then-class-eq-THE_POOLS : goal.returns-then-class-eq-THE_POOLS
unfolding part_of
returns-then-class-eq-THE_POOLS c = puts_as _ (pick_yes _ _ _ _ (eq-eqb _ _ c.if-class-eq-THE_POOLS.true) refl) c.put_pool_lines.ensures

pub put_outside-requires : goal.put_outside-requires
unfolding part_of
put_outside-requires c = search rules

pub returns-then-class-eq-THE_OUTSIDERS : goal.returns-then-class-eq-THE_OUTSIDERS
unfolding part_of
returns-then-class-eq-THE_OUTSIDERS c = puts_as _ (pick_no _ _ _ _ (ne_eqb _ _ c.if-class-eq-THE_POOLS.false) (pick_yes _ _ _ _ (eq-eqb _ _ c.if-class-eq-THE_OUTSIDERS.true) refl)) c.put_outside.ensures

pub put_message-requires : goal.put_message-requires
unfolding part_of
put_message-requires c = search rules

pub returns : goal.returns
unfolding part_of
returns c = puts_as _ (pick_no _ _ _ _ (ne_eqb _ _ c.if-class-eq-THE_POOLS.false) (pick_no _ _ _ _ (ne_eqb _ _ c.if-class-eq-THE_OUTSIDERS.false) refl)) c.put_message.ensures
