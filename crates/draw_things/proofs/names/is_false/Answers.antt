use mathlib.Core.Path.{refl, sym, ◌∙◌}
use Rattle.base_words.proofs.PickLaws.{pick_yes, pick_no}
use Rattle.draw_things.specs.Names.{is_false}
use borrow.Author.Rules.{rules}
use Rattle.draw_things.proofs.names.is_false.Goals as goal

pub same-requires : goal.same-requires
unfolding is_false
same-requires c = search rules

pub returns-then-same : goal.returns-then-same
unfolding is_false
returns-then-same c = pick_yes _ _ _ _ (sym c.same.ensures ∙ c.if-same.true) refl

pub same-requires-2 : goal.same-requires-2
unfolding is_false
same-requires-2 c = search rules

pub returns-then-same-2 : goal.returns-then-same-2
unfolding is_false
returns-then-same-2 c = pick_no _ _ _ _ (sym c.same.ensures ∙ c.if-same.false) (pick_yes _ _ _ _ (sym c.same-2.ensures ∙ c.if-same-2.true) refl)

pub same-requires-3 : goal.same-requires-3
unfolding is_false
same-requires-3 c = search rules

pub returns : goal.returns
unfolding is_false
returns c = pick_no _ _ _ _ (sym c.same.ensures ∙ c.if-same.false) (pick_no _ _ _ _ (sym c.same-2.ensures ∙ c.if-same-2.false) c.same-3.ensures)
