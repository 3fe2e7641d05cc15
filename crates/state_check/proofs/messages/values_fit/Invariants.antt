use mathlib.Core.Path.{◌≡◌}
use mathlib.Core.Bool.{true}
use Rattle.base_words.specs.All.{all}
use Rattle.state_check.specs.Places.{shown_by}
use Rattle.state_check.proofs.messages.values_fit.Given as goal

abbrev pub invariant-loop-j : goal.invariant-loop-j
invariant-loop-j l = all (shown_by l.q l.m l.k l.n) l.j ≡ true
