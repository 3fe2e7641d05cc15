use Rattle.base_words.proofs.AllLaws.{tests}
use Rattle.text_lexer.specs.Lexer.{is_blank}
use Rattle.base_bytes.specs.Bytes.{among}
use Rattle.base_bytes.proofs.OrLaws.{ors}
use borrow.Author.Rules.{rules}
use Rattle.text_lexer.proofs.is_blank.Goals as goal

ruleset L = (rules, ors, tests)

pub returns-then-b-eq32 : goal.returns-then-b-eq32
unfolding among is_blank
returns-then-b-eq32 c = search L

pub returns-then-b-eq9 : goal.returns-then-b-eq9
unfolding among is_blank
returns-then-b-eq9 c = search L

pub returns-else-b-eq9 : goal.returns-else-b-eq9
unfolding among is_blank
returns-else-b-eq9 c = search L
