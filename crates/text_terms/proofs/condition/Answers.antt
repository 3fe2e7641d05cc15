use Rattle.text_readers.proofs.WordLaws.{word_unknown, place_known, word_known}
use Rattle.text_terms.specs.Terms.{condition}
use Rattle.text_lexer.specs.declared.Token.{Token}
use mathlib.Core.Path.{ap}
use Rattle.text_terms.proofs.condition.Goals as goal

pub returns-in_default : goal.returns-in_default
unfolding condition
returns-in_default c = word_unknown _ _ _ c.token_at-token.ensures _ _ _ c.in_default.not-Word (place_known _ _ _ c.token_at-token.ensures _ _)

pub condition_word-requires : goal.condition_word-requires
condition_word-requires c = (ap (λ (t : Token). t.at) c.token_at-token.ensures, ap (λ (t : Token). t.next) c.token_at-token.ensures, c.requires)

pub returns : goal.returns
unfolding condition
returns c = word_known _ _ _ c.token_at-token.ensures _ _ _ c.in-Word.is c.condition_word.ensures
