use Rattle.text_elements.proofs.ElementLaws.{keyword_other, keyword_is}
use Rattle.text_elements.proofs.is_keyword.Goals as goal

pub returns-then-word-letters : goal.returns-then-word-letters
returns-then-word-letters c = keyword_other _ _ _ _ c.letters_of.ensures c.wide-letters.ensures c.if-word-letters.true

pub returns : goal.returns
returns c = keyword_is _ _ _ _ _ _ _ c.letters_of.ensures c.wide-letters.ensures c.keyword_of-keyword.ensures c.piece.ensures c.same.ensures
