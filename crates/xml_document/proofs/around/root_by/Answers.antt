use mathlib.Core.Path.{refl, sym, ◌∙◌}
use Rattle.base_words.proofs.PickLaws.{pick_yes, pick_no}
use Rattle.xml_document.specs.Around.{root_by}
use borrow.Author.Rules.{rules}
use Rattle.xml_document.proofs.around.root_by.Goals as goal

pub is_called-requires : goal.is_called-requires
unfolding root_by
is_called-requires c = search rules

pub returns-then-is_called : goal.returns-then-is_called
unfolding root_by
returns-then-is_called c = rw c.in-Element.is (pick_yes _ _ _ _ (sym c.is_called.ensures ∙ c.if-is_called.true) refl)

pub returns-else-is_called : goal.returns-else-is_called
unfolding root_by
returns-else-is_called c = rw c.in-Element.is (pick_no _ _ _ _ (sym c.is_called.ensures ∙ c.if-is_called.false) refl)

pub returns-in-On : goal.returns-in-On
unfolding root_by
returns-in-On c = rw c.in-On.is refl

pub returns-in-Nothing : goal.returns-in-Nothing
unfolding root_by
returns-in-Nothing c = rw c.in-Nothing.is refl

pub returns-in-Fault : goal.returns-in-Fault
unfolding root_by
returns-in-Fault c = rw c.in-Fault.is refl
