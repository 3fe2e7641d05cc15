use Rattle.base_words.proofs.AllLaws.{tests}
use Rattle.base_words.proofs.PickLaws.{ands, eqb_same}
use Rattle.text_numerals.specs.Numerals.{leading_zero}
use borrow.Author.Rules.{rules}
use Rattle.text_numerals.proofs.leading_zero.Goals as goal

ruleset L = (rules, ands, eqb_same, tests)

pub byte-requires : goal.byte-requires
unfolding leading_zero
byte-requires c = search L

pub returns-then-word-gt1 : goal.returns-then-word-gt1
unfolding leading_zero
returns-then-word-gt1 c = search L

pub returns-else-word-gt1 : goal.returns-else-word-gt1
unfolding leading_zero
returns-else-word-gt1 c = search L
