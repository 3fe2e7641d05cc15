use mathlib.Core.Path.{◌≡◌}
use Rattle.base_words.specs.Iter.{iter}
use Rattle.state_fits.specs.Fresh.{pool_begun}
use Rattle.state_fresh.proofs.begin_pools.Given as goal

abbrev pub invariant-loop-p : goal.invariant-loop-p
invariant-loop-p l = l.z ≡ iter (pool_begun l.t) l.initial.z l.p
