use mathlib.Core.Path.{refl, sym, ◌∙◌}
use Rattle.base_words.proofs.PickLaws.{pick_yes, pick_no}
use Rattle.text_readers.specs.Reading.{mode_named}
use Rattle.text_readers.proofs.mode_named.Goals as goal

pub returns-then-same : goal.returns-then-same
unfolding mode_named
returns-then-same c = pick_yes _ _ _ _ (sym c.same.ensures ∙ c.if-same.true) refl

pub returns-then-same-2 : goal.returns-then-same-2
unfolding mode_named
returns-then-same-2 c = pick_no _ _ _ _ (sym c.same.ensures ∙ c.if-same.false) (pick_yes _ _ _ _ (sym c.same-2.ensures ∙ c.if-same-2.true) refl)

pub returns-then-same-3 : goal.returns-then-same-3
unfolding mode_named
returns-then-same-3 c = pick_no _ _ _ _ (sym c.same.ensures ∙ c.if-same.false) (pick_no _ _ _ _ (sym c.same-2.ensures ∙ c.if-same-2.false) (pick_yes _ _ _ _ (sym c.same-3.ensures ∙ c.if-same-3.true) refl))

pub returns : goal.returns
unfolding mode_named
returns c = pick_no _ _ _ _ (sym c.same.ensures ∙ c.if-same.false) (pick_no _ _ _ _ (sym c.same-2.ensures ∙ c.if-same-2.false) (pick_no _ _ _ _ (sym c.same-3.ensures ∙ c.if-same-3.false) refl))
