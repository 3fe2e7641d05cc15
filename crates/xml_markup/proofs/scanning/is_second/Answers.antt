use mathlib.Core.Path.{◌∙◌, sym}
use Rattle.xml_markup.proofs.TokenLaws.{is_attribute, not_attribute}
use Rattle.xml_markup.proofs.scanning.is_second.Goals as goal

pub returns-in_default : goal.returns-in_default
returns-in_default c = rw (← c.byte.ensures, ← c.whole-w.ensures) (sym (not_attribute _ _ _ c.in_default.not-Attribute))

pub returns : goal.returns
returns c = rw (← c.byte.ensures, ← c.whole-w.ensures, ← c.piece.ensures) (c.twice.ensures ∙ sym (is_attribute _ _ _ c.in-Attribute.is))
