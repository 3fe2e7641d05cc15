use Rattle.base_words.proofs.AllLaws.{tests}
use Rattle.base_bytes.proofs.OrLaws.{ors}
use Rattle.text_numerals.specs.Numerals.{is_field_letter}
use borrow.Author.Rules.{rules}
use Rattle.text_numerals.proofs.is_field_letter.Goals as goal

ruleset L = (rules, ors, tests)

pub returns-then-letter-eq100 : goal.returns-then-letter-eq100
unfolding is_field_letter
returns-then-letter-eq100 c = search L

pub returns-else-letter-eq100 : goal.returns-else-letter-eq100
unfolding is_field_letter
returns-else-letter-eq100 c = search L
