-- Refusals: conditions in the order they are looked at, each with the number that is given back where it does not hold.
use Rattle.std.specs.Prelude.{ℕ, Bool, List, [], ◌∷◌}
use Rattle.base_words.specs.Pick.{if◌then◌or_else◌}

infix 70 ◌unless◌
pub record Refusal : Type 0 where
  pub number : ℕ
  pub holds : Bool

abbrev pub ◌unless◌ : ℕ → Bool → Refusal
number unless test = record { number = number; holds = test }

-- the number of the first that does not hold; 0 where all hold
unfoldable pub first_refusal : List Refusal → ℕ
first_refusal [] = 0
first_refusal (r ∷ rs) = if r.holds then first_refusal rs or_else r.number
