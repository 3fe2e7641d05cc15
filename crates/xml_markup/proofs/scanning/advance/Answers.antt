use mathlib.Core.Path.{◌∙◌, refl, sym}
use borrow.Author.Tests.{le-leb}
use Rattle.base_words.proofs.PickLaws.{pick_yes}
use Rattle.xml_markup.specs.Markup.{advance}
use Rattle.xml_markup.proofs.AheadLaws.{second_fault, second_not}
use Rattle.xml_markup.proofs.scanning.advance.Goals as goal

pub returns-then-text-i : goal.returns-then-text-i
unfolding advance
returns-then-text-i c = pick_yes _ _ _ _ (le-leb _ _ c.if-text-i.true) refl

pub returns-then-is_second : goal.returns-then-is_second
returns-then-is_second c = second_fault _ _ _ _ c.if-text-i.false (sym c.is_second.ensures ∙ c.if-is_second.true)

pub returns : goal.returns
returns c = c.tried.ensures ∙ sym (second_not _ _ _ _ (sym c.is_second.ensures ∙ c.if-is_second.false))
