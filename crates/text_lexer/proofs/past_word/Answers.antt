use mathlib.Core.Path.{refl, ap, ◌∙◌}
use mathlib.Core.Bool.{not}
use Rattle.base_words.proofs.PickLaws.{flag_yes, flag_no}
use Rattle.base_bytes.proofs.PastLaws.{past_on, past_here}
use Rattle.text_lexer.proofs.PlaceLaws.{past_farthest}
use Rattle.text_lexer.specs.Lexer.{is_word}
use Rattle.text_lexer.proofs.past_word.Goals as goal

pub loop-i-init : goal.loop-i-init
loop-i-init c = refl

pub returns-then-not-is_word : goal.returns-then-not-is_word
returns-then-not-is_word c = past_here is_word _ _ _ c.loop-i.invariant c.loop-i-test.true (flag_no _ _ c.is_word.ensures (ap not c.if-not-is_word.true))

pub loop-i-preserved : goal.loop-i-preserved
loop-i-preserved c = past_on is_word _ _ _ c.loop-i.invariant c.loop-i-test.true (flag_yes _ _ c.is_word.ensures (ap not c.if-not-is_word.false))

pub returns : goal.returns
returns c = c.max.ensures ∙ past_farthest is_word _ _ _ c.loop-i.invariant c.loop-i-test.false c.loop-i.auto.i-end
