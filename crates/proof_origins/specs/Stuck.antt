-- A CONFIGURATION WITH NO TRANSITION, by the paper's rules alone: no name whatever has one, under version v.
use Rattle.std.specs.Prelude.{ℕ, List}
use Rattle.paper.specs.Syntax.{Pool}
use Rattle.paper.specs.States.{Configuration}
use Rattle.paper.specs.Collaborations.{Named, Seen, Steps}

abbrev pub Stuck : ℕ → List Pool → Configuration → Type 0
Stuck v C κ = (n : Named) (l : Seen) (κ' : Configuration) → Steps v C n κ l κ' → ⊥
