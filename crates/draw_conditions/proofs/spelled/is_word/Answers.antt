use Rattle.base_words.proofs.PickLaws.{flag_is}
use Rattle.draw_conditions.proofs.ByteLaws.{word_colon, word_above, word_digit, word_letter}
use borrow.Author.Rules.{rules}
use Rattle.draw_conditions.proofs.spelled.is_word.Goals as goal

pub returns-then-b-eq58 : goal.returns-then-b-eq58
returns-then-b-eq58 c = word_colon _ (search rules) c.if-b-eq58.true

pub returns-then-b-ge128 : goal.returns-then-b-ge128
returns-then-b-ge128 c = word_above _ (search rules) c.if-b-eq58.false c.if-b-ge128.true

pub returns-then-is_digit : goal.returns-then-is_digit
returns-then-is_digit c = word_digit _ (search rules) c.if-b-eq58.false c.if-b-ge128.false (flag_is _ _ _ c.is_digit.ensures c.if-is_digit.true)

pub returns : goal.returns
returns c = word_letter _ (search rules) c.if-b-eq58.false c.if-b-ge128.false (flag_is _ _ _ c.is_digit.ensures c.if-is_digit.false) _ c.begins_name.ensures
