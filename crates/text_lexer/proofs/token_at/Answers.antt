use Rattle.text_lexer.specs.Lexer.{token_at}
use borrow.Author.Rules.{rules}
use Rattle.text_lexer.proofs.token_at.Goals as goal

pub past_blanks-requires : goal.past_blanks-requires
unfolding token_at
past_blanks-requires c = search rules

pub token_here-requires : goal.token_here-requires
unfolding token_at
token_here-requires c = search rules

pub returns : goal.returns
unfolding token_at
returns c = rw c.past_blanks.ensures at c.token_here.ensures
