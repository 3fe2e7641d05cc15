-- A MODEL WITHIN THE LIMITS: what is said of its elements, of its pools and of it. Assumes nothing.
use Prim.Native.Nat.{ℕ, zero, suc, ◌≤◌, ◌<◌}
use mathlib.Core.Path.{◌≡◌}
use mathlib.Core.Bool.{true}
use mathlib.Core.List.{List, [], ◌∷◌, ◌++◌}
use native.Mathlib.Omega.{arith}
use lib.ListN.{length, set, get_or}
use Rattle.base_words.specs.Counts.{pools, elements, pool_numbers, instances}
use Rattle.base_words.specs.Words.{at, greatest}
use Rattle.base_table.specs.Places.{element_words}
use Rattle.check_limits.specs.Limits.{element_fits}
use Rattle.check_model.specs.Checks.{Pool}

-- a property of each thing of a list
abbrev pub Every : {A : Type 0} → (A → Type 0) → List A → Type 0
Every P [] = 0 ≤ 0
Every P (x ∷ xs) = P x × Every P xs

module _ {A : Type 0} (P : A → Type 0) where
  pub every_in : (xs : List A) (d : A) (j : ℕ) → Every P xs → j < length xs → P (get_or xs j d)
  every_in [] d j e l = absurd (omega (arith, l))
  every_in (x ∷ xs) d zero e l = e.0
  every_in (x ∷ xs) d (suc j) e l = every_in xs d j e.1 (omega (arith, l))

  pub every_set : (xs : List A) (j : ℕ) (y : A) → Every P xs → P y → Every P (set xs j y)
  every_set [] j y e h = e
  every_set (x ∷ xs) zero y e h = (h, e.1)
  every_set (x ∷ xs) (suc j) y e h = (e.0, every_set xs j y e.1 h)

  pub every_last : (xs : List A) (y : A) → Every P xs → P y → Every P (xs ++ (y ∷ []))
  every_last [] y e h = (h, e)
  every_last (x ∷ xs) y e h = (e.0, every_last xs y e.1 h)

-- AN ELEMENT, A POOL, A MODEL
pub record Right (y : List ℕ) : Type 0 where
  pub fits : element_fits y ≡ true
  pub long : length y ≡ element_words
  pub small : (i : ℕ) → at y i ≤ greatest

pub record Fit (p : Pool) : Type 0 where
  pub number_low : 1 ≤ p.number
  pub number_high : p.number ≤ pool_numbers
  pub limit_high : p.limit ≤ instances
  pub low : 0 < length p.elements
  pub high : length p.elements ≤ elements
  pub every : Every Right p.elements

pub record Model (ps : List Pool) : Type 0 where
  pub low : 0 < length ps
  pub high : length ps ≤ pools
  pub every : Every Fit ps
