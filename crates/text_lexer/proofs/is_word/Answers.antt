use Rattle.base_words.proofs.AllLaws.{tests}
use Rattle.base_words.proofs.PickLaws.{flag_is}
use Rattle.text_lexer.specs.Lexer.{is_word}
use Rattle.base_bytes.proofs.OrLaws.{or_second, or_third, or_told}
use borrow.Author.Rules.{rules}
use Rattle.text_lexer.proofs.is_word.Goals as goal

ruleset L = (rules, or_second, or_third, or_told, flag_is, tests)

pub is_digit-requires : goal.is_digit-requires
unfolding is_word
is_digit-requires c = search L

pub returns-then-is_digit : goal.returns-then-is_digit
unfolding is_word
returns-then-is_digit c = search L

pub is_letter-requires : goal.is_letter-requires
unfolding is_word
is_letter-requires c = search L

pub returns-then-is_letter : goal.returns-then-is_letter
unfolding is_word
returns-then-is_letter c = search L

pub returns-else-is_letter : goal.returns-else-is_letter
unfolding is_word
returns-else-is_letter c = search L
