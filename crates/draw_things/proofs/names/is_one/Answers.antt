use mathlib.Core.Path.{refl, sym, ◌∙◌}
use Rattle.base_words.proofs.PickLaws.{pick_yes, pick_no}
use Rattle.draw_things.specs.Names.{is_one}
use borrow.Author.Rules.{rules}
use Rattle.draw_things.proofs.names.is_one.Goals as goal

pub same-requires : goal.same-requires
unfolding is_one
same-requires c = search rules

pub returns-then-same : goal.returns-then-same
unfolding is_one
returns-then-same c = pick_yes _ _ _ _ (sym c.same.ensures ∙ c.if-same.true) refl

pub same-requires-2 : goal.same-requires-2
unfolding is_one
same-requires-2 c = search rules

pub returns : goal.returns
unfolding is_one
returns c = pick_no _ _ _ _ (sym c.same.ensures ∙ c.if-same.false) c.same-2.ensures
