use Rattle.check_tally.specs.Tally.{all_marks, tally}
use Rattle.check_lowest.specs.Model.{pool_at}
use Rattle.check_verdict.specs.Verdict.{pool_regions}
use Rattle.base_words.specs.Each.{tab}
use mathlib.Core.Path.{◌≡◌}
use Rattle.check_lowest.proofs.mark_pools.Given as goal

abbrev pub invariant-loop-p : goal.invariant-loop-p
invariant-loop-p l = l.m ≡ tally l.initial.m (all_marks pool_regions (tab (pool_at l.t) l.p))
