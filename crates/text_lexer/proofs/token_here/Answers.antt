use mathlib.Core.Path.{◌∙◌, sym}
use Rattle.base_words.proofs.PickLaws.{flag_is}
use Rattle.text_lexer.proofs.TokenLaws.{here_some, here_none, here_assign, here_colon, of_word, of_sign, of_other}
use Rattle.text_lexer.proofs.token_here.Goals as goal

pub returns-then-text-i : goal.returns-then-text-i
returns-then-text-i c = c.placed.ensures ∙ sym (here_none _ _ c.if-text-i.true)

pub returns-then-is_word : goal.returns-then-is_word
returns-then-is_word c = c.placed-then-is_word.ensures ∙ rw c.past_word.ensures (sym (here_some _ _ c.if-text-i.false ∙ of_word _ _ _ (flag_is _ _ _ c.is_word.ensures c.if-is_word.true)))

pub returns-then-is_sign : goal.returns-then-is_sign
returns-then-is_sign c = c.placed-then-is_sign.ensures ∙ sym (here_some _ _ c.if-text-i.false ∙ of_sign _ _ _ (flag_is _ _ _ c.is_sign.ensures c.if-is_sign.true))

pub returns-then-b-ne58 : goal.returns-then-b-ne58
returns-then-b-ne58 c = c.placed-then-b-ne58.ensures ∙ sym (here_some _ _ c.if-text-i.false ∙ of_other _ _ _ (flag_is _ _ _ c.is_word.ensures c.if-is_word.false) (flag_is _ _ _ c.is_sign.ensures c.if-is_sign.false) c.if-b-ne58.true)

pub returns-then-byte-eq61 : goal.returns-then-byte-eq61
returns-then-byte-eq61 c = c.placed-then-byte-eq61.ensures ∙ sym (here_assign _ _ _ c.if-text-i.false c.if-b-ne58.false c.byte.ensures c.if-byte-eq61.true)

pub returns : goal.returns
returns c = c.placed-2.ensures ∙ sym (here_colon _ _ _ c.if-text-i.false c.if-b-ne58.false c.byte.ensures c.if-byte-eq61.false)
