use mathlib.Core.Path.{refl}
use borrow.Author.Tests.{eq-eqb, ne_eqb, leb-true}
use Rattle.base_words.proofs.PickLaws.{pick_yes, pick_no}
use Rattle.text_numerals.specs.Numerals.{field_from}
use Rattle.text_numerals.proofs.field_from.Goals as goal

pub field_behind-requires : goal.field_behind-requires
field_behind-requires c = leb-true _ _ refl

pub returns-then-letter-eq100 : goal.returns-then-letter-eq100
unfolding field_from
returns-then-letter-eq100 c = pick_yes _ _ _ _ (eq-eqb _ _ c.if-letter-eq100.true) c.field_behind.ensures

pub field_behind-requires-then-letter-eq115 : goal.field_behind-requires-then-letter-eq115
field_behind-requires-then-letter-eq115 c = leb-true _ _ refl

pub returns-then-letter-eq115 : goal.returns-then-letter-eq115
unfolding field_from
returns-then-letter-eq115 c = pick_no _ _ _ _ (ne_eqb _ _ c.if-letter-eq100.false) (pick_yes _ _ _ _ (eq-eqb _ _ c.if-letter-eq115.true) c.field_behind-then-letter-eq115.ensures)

pub returns : goal.returns
unfolding field_from
returns c = pick_no _ _ _ _ (ne_eqb _ _ c.if-letter-eq100.false) (pick_no _ _ _ _ (ne_eqb _ _ c.if-letter-eq115.false) refl)
