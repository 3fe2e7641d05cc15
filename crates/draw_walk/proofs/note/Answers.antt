use mathlib.Core.Path.{refl}
use borrow.Author.Tests.{eq-eqb, ne_eqb}
use Rattle.base_words.proofs.PickLaws.{pick_yes, pick_no}
use Rattle.draw_walk.specs.Walk.{noted}
use borrow.Author.Rules.{rules}
use Rattle.draw_walk.proofs.note.Goals as goal

pub add_thing-requires : goal.add_thing-requires
unfolding noted
add_thing-requires c = search rules

pub returns-then-s-ne-NOTHING : goal.returns-then-s-ne-NOTHING
unfolding noted
returns-then-s-ne-NOTHING c = pick_no _ _ _ _ (ne_eqb _ _ c.if-s-ne-NOTHING.true) c.add_thing.ensures

pub returns-else-s-ne-NOTHING : goal.returns-else-s-ne-NOTHING
unfolding noted
returns-else-s-ne-NOTHING c = pick_yes _ _ _ _ (eq-eqb _ _ c.if-s-ne-NOTHING.false) refl
