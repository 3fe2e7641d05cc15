-- ONE STATE UNDER TWO VERSIONS, and calls one after the other from both: t is a table, z and y are states.
use Rattle.std.specs.Prelude.{ℕ, ◌≡◌, true, List, set}
use Rattle.base_state.specs.Places.{version_at}
use Rattle.engine.specs.Calls.{Act, all_accepted, after}
use Rattle.proof_paper.specs.Calls.{told}

-- the state for another version, every other word as it was
abbrev pub under : ℕ → List ℕ → List ℕ
under v z = set z version_at v

-- from y all are accepted, what was consumed and sent is told as from z, and the states that they give are equal but for the version v
pub record Follows (t : List ℕ) (v : ℕ) (acts : List Act) (z y : List ℕ) : Type 0 where
  pub accepted : all_accepted t acts y ≡ true
  pub same : after t acts y ≡ under v (after t acts z)
  pub tells : told t acts y ≡ told t acts z
