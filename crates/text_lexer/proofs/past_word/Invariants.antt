use mathlib.Core.Path.{◌≡◌}
use lib.ListN.{drop}
use Rattle.text_lexer.specs.Lexer.{is_word}
use Rattle.base_bytes.specs.Bytes.{past}
use Rattle.text_lexer.proofs.past_word.Given as goal

abbrev pub invariant-loop-i : goal.invariant-loop-i
invariant-loop-i l = past is_word (drop l.i l.text) l.i ≡ past is_word (drop l.from l.text) l.from
