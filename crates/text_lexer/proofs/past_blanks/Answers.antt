use mathlib.Core.Path.{refl, ap, ◌∙◌}
use mathlib.Core.Bool.{not}
use Rattle.base_words.proofs.PickLaws.{flag_yes, flag_no}
use Rattle.base_bytes.proofs.PastLaws.{past_on, past_here}
use Rattle.text_lexer.proofs.PlaceLaws.{past_farthest}
use Rattle.text_lexer.specs.Lexer.{is_blank}
use Rattle.text_lexer.proofs.past_blanks.Goals as goal

pub loop-i-init : goal.loop-i-init
loop-i-init c = refl

pub returns-then-not-is_blank : goal.returns-then-not-is_blank
returns-then-not-is_blank c = past_here is_blank _ _ _ c.loop-i.invariant c.loop-i-test.true (flag_no _ _ c.is_blank.ensures (ap not c.if-not-is_blank.true))

pub loop-i-preserved : goal.loop-i-preserved
loop-i-preserved c = past_on is_blank _ _ _ c.loop-i.invariant c.loop-i-test.true (flag_yes _ _ c.is_blank.ensures (ap not c.if-not-is_blank.false))

pub returns : goal.returns
returns c = c.max.ensures ∙ past_farthest is_blank _ _ _ c.loop-i.invariant c.loop-i-test.false c.loop-i.auto.i-end
