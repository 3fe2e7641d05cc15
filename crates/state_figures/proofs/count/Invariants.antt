use mathlib.Core.Path.{◌≡◌}
use mathlib.Core.List.{◌++◌}
use lib.ListN.{drop}
use Rattle.base_words.specs.Each.{tab}
use Rattle.state_figures.specs.Figures.{record_of}
use Rattle.state_figures.proofs.count.Given as goal

abbrev pub invariant-loop-p : goal.invariant-loop-p
invariant-loop-p l = l.rs ≡ tab (record_of l.s) l.p ++ drop l.p l.initial.rs
