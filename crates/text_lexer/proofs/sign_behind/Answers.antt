use Rattle.text_lexer.proofs.PlaceLaws.{behind_end, behind_other, behind_sign, behind_none, behind_assign, behind_colon}
use Rattle.base_words.proofs.PickLaws.{flag_is}
use Rattle.text_lexer.proofs.sign_behind.Goals as goal

pub returns-then-text-p : goal.returns-then-text-p
returns-then-text-p c = behind_end _ _ _ c.if-text-p.true

pub returns-then-text-p-2 : goal.returns-then-text-p-2
returns-then-text-p-2 c = behind_other _ _ _ c.if-text-p.false c.if-text-p-2.true

pub returns-then-is_sign : goal.returns-then-is_sign
returns-then-is_sign c = behind_sign _ _ _ c.if-text-p.false c.if-text-p-2.false (flag_is _ _ _ c.is_sign.ensures c.if-is_sign.true)

pub returns-then-s-ne58 : goal.returns-then-s-ne58
returns-then-s-ne58 c = behind_none _ _ _ c.if-text-p.false c.if-text-p-2.false (flag_is _ _ _ c.is_sign.ensures c.if-is_sign.false) c.if-s-ne58.true

pub returns-then-byte-eq61 : goal.returns-then-byte-eq61
returns-then-byte-eq61 c = behind_assign _ _ _ c.if-text-p.false c.if-text-p-2.false _ c.if-s-ne58.false c.byte.ensures c.if-byte-eq61.true

pub returns : goal.returns
returns c = behind_colon _ _ _ c.if-text-p.false c.if-text-p-2.false _ c.if-s-ne58.false c.byte.ensures c.if-byte-eq61.false
