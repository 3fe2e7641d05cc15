use mathlib.Core.Path.{◌∙◌, ap, sym}
use Rattle.base_words.proofs.PickLaws.{flag_is}
use Rattle.draw_conditions.proofs.SpelledLaws.{letter_over, letter_yes, letter_no}
use Rattle.draw_conditions.specs.Words.{spelt}
use Rattle.draw_conditions.proofs.spelled.letter.Goals as goal

pub returns-in_err-v : goal.returns-in_err-v
returns-in_err-v c = letter_over _ _ _ c.look.ensures c.in_err-v.was ∙ ap (spelt c.args.text.now) (sym c.from_residual.ensures)

pub returns-then-is_word : goal.returns-then-is_word
returns-then-is_word c = letter_yes _ _ _ c.look.ensures _ c.in_ok-v.was (flag_is _ _ _ c.is_word.ensures c.if-is_word.true)

pub returns-else-is_word : goal.returns-else-is_word
returns-else-is_word c = letter_no _ _ _ c.look.ensures _ c.in_ok-v.was (flag_is _ _ _ c.is_word.ensures c.if-is_word.false)
