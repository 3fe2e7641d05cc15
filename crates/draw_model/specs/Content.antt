-- THE MODEL THAT A DRAWING MEANS: its pools, as participants stand, with their elements as nodes stand.
-- t is the text, w the things of a drawing in which nothing is amiss or beyond, n their count, k a thing.
use Rattle.std.specs.Prelude.{ℕ, Bool, List, [], ◌∷◌, ltb}
use Rattle.base_words.specs.Blocks.{Bytes, Element, Drawing}
use Rattle.base_words.specs.Each.{joined}
use Rattle.base_words.specs.Pick.{if◌then◌or_else◌}
use Rattle.check_model.specs.Checks.{Pool}
use Rattle.draw_things.specs.Things.{one_more, source, participant_multiplicity}
use Rattle.draw_kinds.specs.Counting.{within_in, first_with}
use Rattle.draw_numbers.specs.Who.{has_participants, is_pool}
use Rattle.draw_numbers.specs.Numbers.{count_before, is_element, maximum_of}
use Rattle.draw_model.specs.Drawn.{element_drawn}

unfoldable pub element_if : Bytes → Drawing → ℕ → ℕ → ℕ → List Element
element_if t w n p k = if is_element p w k then element_drawn t w n k ∷ [] or_else []

unfoldable pub elements_of : Bytes → Drawing → ℕ → ℕ → List Element
elements_of t w n p = joined (element_if t w n p) n

-- "participantMultiplicity makes a miPool, n its maximum; none makes a `pool`" (R20) (RULES: drawn)
unfoldable pub limit_of : Bytes → Drawing → ℕ → ℕ → ℕ
limit_of t w n k =
    if ltb (first_with participant_multiplicity within_in k w n) n then maximum_of t w (first_with participant_multiplicity within_in k w n) or_else 0

unfoldable pub process_of : Bool → Drawing → ℕ → ℕ
process_of owned w k = if owned then source w k or_else k

unfoldable pub number_of : Bool → Drawing → ℕ → ℕ
number_of owned w k = one_more (count_before (is_pool owned w) k)

unfoldable pub pool_drawn : Bool → Bytes → Drawing → ℕ → ℕ → Pool
pool_drawn owned t w n k = record { number = number_of owned w k; limit = limit_of t w n k; elements = elements_of t w n (process_of owned w k) }

unfoldable pub pool_if : Bool → Bytes → Drawing → ℕ → ℕ → List Pool
pool_if owned t w n k = if is_pool owned w k then pool_drawn owned t w n k ∷ [] or_else []

unfoldable pub content : Bytes → Drawing → ℕ → List Pool
content t w n = joined (pool_if (has_participants w n) t w n) n
