-- A DRAWING DIAGNOSED: the number that `draw` gives; with 21 the rule that is broken, with 4 the check; and the place of the first thing that breaks it, with 28 that of the pool without room, with 3 and 20 the place that `draw` gives.
use Rattle.std.specs.Prelude.{ℕ, List, eqb}
use Rattle.base_words.specs.Blocks.{Bytes, Drawing}
use Rattle.base_words.specs.Pick.{if◌then◌or_else◌}
use Rattle.text_read.specs.declared.Reading.{Reading}
use Rattle.draw_walk.specs.Walk.{Walk}
use Rattle.draw_read.specs.Drawings.{not_run, things_of, walked_text, answered}
use Rattle.draw_diagnose.specs.declared.Broken.{Broken}
use Rattle.draw_diagnose.specs.declared.Diagnosis.{Diagnosis}
use Rattle.draw_diagnose.specs.Rules.{broken_in}
use Rattle.draw_diagnose.specs.Seats.{seat_at}

abbrev pub check_broken : ℕ
check_broken = 4

abbrev pub none_free : ℕ
none_free = 28

abbrev pub told : ℕ → ℕ → ℕ → Diagnosis
told number rule at = record { number = number; rule = rule; place = at }

unfoldable pub diagnosed_by : Reading → Bytes → Drawing → ℕ → Diagnosis
diagnosed_by a t w n =
    if eqb a.number not_run then told a.number (broken_in t w n).rule (broken_in t w n).place
    or_else if eqb a.number check_broken then told a.number a.beside (seat_at a.beside t w n)
    or_else if eqb a.number none_free then told a.number 0 (seat_at 0 t w n)
    or_else told a.number 0 a.beside

unfoldable pub diagnosed : Bytes → Diagnosis
diagnosed text = diagnosed_by (answered text) text (things_of text) (walked_text text).count
