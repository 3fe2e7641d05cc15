use Rattle.base_words.specs.Seek.{seek}
use Rattle.draw_diagnose.specs.Rules.{is_broken}
use mathlib.Core.Path.{◌≡◌}
use Rattle.draw_diagnose.proofs.found.first_broken.Given as goal

abbrev pub invariant-loop-r : goal.invariant-loop-r
invariant-loop-r l = seek (is_broken l.text l.w l.n) l.r ≡ l.r
