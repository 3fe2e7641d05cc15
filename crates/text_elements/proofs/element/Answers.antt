use Rattle.text_elements.proofs.ElementLaws.{element_no, element_yes}
use Rattle.text_elements.proofs.element.Goals as goal

pub returns-in_default : goal.returns-in_default
returns-in_default c = element_no _ _ _ c.token_at-token.ensures _ _ c.in_default.not-Word c.blank.ensures

pub returns : goal.returns
returns c = element_yes _ _ _ c.token_at-token.ensures _ _ _ _ c.in-Word.is c.piece.ensures c.kind_named.ensures c.element_of.ensures
