use mathlib.Core.Path.{◌≡◌}
use mathlib.Core.Bool.{true}
use lib.ListN.{take}
use Rattle.base_words.specs.All.{all}
use Rattle.base_words.specs.Each.{tab}
use Rattle.state_figures.specs.Figures.{record_of, record_at, same_record}
use Rattle.state_figures.proofs.records_agree.Given as goal

abbrev pub invariant-loop-p : goal.invariant-loop-p
invariant-loop-p l = (all (λ k. same_record (record_at l.rs k) (record_of l.s k)) l.p ≡ true) × (take l.p l.rs ≡ tab (record_of l.s) l.p)
