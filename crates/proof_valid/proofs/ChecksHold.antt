-- In a valid table every check holds, of the model and of each of its pools. Assumes nothing.
use Prim.Native.Nat.{ℕ, ◌<◌}
use mathlib.Core.Path.{◌≡◌}
use mathlib.Core.Bool.{true}
use mathlib.Core.List.{List}
use lib.Dec.{eqb}
use borrow.Author.Tests.{eqb-true}
use Rattle.base_words.proofs.AllLaws.{and_left, and_right}
use Rattle.base_table.specs.Table.{pool_count}
use Rattle.check_limits.specs.Limits.{table_fits}
use Rattle.check_model.specs.Checks.{lowest}
use Rattle.check_lowest.specs.Model.{pool_at, model_of}
use Rattle.engine.specs.Engine.{valid}
use Rattle.proof_steps.proofs.MadeAfter.{StartsOnce}
use Rattle.proof_listing.proofs.ChecksHold.{PoolChecked, pool_checked as checked-by}
use Rattle.proof_listing.proofs.StartUnique.{starts_once as once_by}

module _ (t : List ℕ) (v : valid t ≡ true) where
  pub valid_fits : table_fits t ≡ true
  unfolding valid
  valid_fits = and_left (table_fits t) (eqb (lowest (model_of t)) 0) v

  pub valid_sound : lowest (model_of t) ≡ 0
  unfolding valid
  valid_sound = eqb-true (lowest (model_of t)) 0 (and_right (table_fits t) (eqb (lowest (model_of t)) 0) v)

  pub pool_checked : (p : ℕ) → p < pool_count t → PoolChecked (pool_at t p)
  pool_checked = checked-by t valid_sound

  pub starts_once : StartsOnce t
  starts_once = once_by t valid_sound
