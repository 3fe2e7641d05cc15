use Rattle.text_elements.proofs.ElementLaws.{starts_no, starts_yes}
use Rattle.text_elements.proofs.starts_element.Goals as goal

pub returns-in_default : goal.returns-in_default
returns-in_default c = starts_no _ _ _ c.token_at-token.ensures c.in_default.not-Word

pub returns : goal.returns
returns c = starts_yes _ _ _ c.token_at-token.ensures _ _ c.in-Word.is c.piece.ensures c.kind_named.ensures
