use borrow.Author.Tests.{eq-eqb, ne_eqb}
use Rattle.base_words.proofs.PickLaws.{pick_no, pick_yes}
use Rattle.draw_conditions.specs.Conditions.{joined}
use Rattle.draw_conditions.proofs.SpelledLaws.{over, byte}
use borrow.Author.Rules.{rules}
use Rattle.draw_conditions.proofs.joined.Goals as goal

pub look-requires : goal.look-requires
unfolding joined
look-requires c = search rules

pub bare-requires : goal.bare-requires
unfolding joined
bare-requires c = search rules

pub returns-in_default : goal.returns-in_default
unfolding joined
returns-in_default c = rw (over _ _ _ c.look.ensures c.in_default.is) c.bare.ensures

pub form_of-form-requires : goal.form_of-form-requires
unfolding joined
form_of-form-requires c = search rules

pub bare-requires-then-form-eq-FOREIGN : goal.bare-requires-then-form-eq-FOREIGN
unfolding joined
bare-requires-then-form-eq-FOREIGN c = search rules

pub returns-then-form-eq-FOREIGN : goal.returns-then-form-eq-FOREIGN
unfolding joined
returns-then-form-eq-FOREIGN c = rw (byte _ _ _ c.look.ensures _ c.in-Some.is, ← c.form_of-form.ensures) (pick_yes _ _ _ _ (eq-eqb _ _ c.if-form-eq-FOREIGN.true) c.bare-then-form-eq-FOREIGN.ensures)

pub behind-requires : goal.behind-requires
unfolding joined
behind-requires c = search rules

pub second-requires : goal.second-requires
unfolding joined
second-requires c = search rules

pub returns : goal.returns
unfolding joined
returns c = rw (byte _ _ _ c.look.ensures _ c.in-Some.is, ← c.form_of-form.ensures, ← c.behind.ensures) (pick_no _ _ _ _ (ne_eqb _ _ c.if-form-eq-FOREIGN.false) c.second.ensures)
