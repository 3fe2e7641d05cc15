-- WHAT IT IS FOR A READER TO READ A TEXT BACK. el is an element's words, from which the text was written; x is words to which reading gives them back.
use Prim.Native.Char.{code}
use Rattle.std.specs.Prelude.{ℕ, ◌+◌, ◌≤◌, ◌<◌, Bool, true, false, not, ◌&&◌, ◌||◌, ◌≡◌, List, [], ◌∷◌, ◌++◌, ◌⊎◌, eqb, leb, ltb, length, drop}
use Rattle.base_words.specs.Pick.{if◌then◌or_else◌}
use Rattle.base_words.specs.Words.{at}
use Rattle.base_table.specs.Places.{task_place, mode_place, entries_place, exits_place, condition_place, message_place, assignments_place, element_words}
use Rattle.text_lexer.specs.Lexer.{is_word}
use Rattle.text_readers.specs.Reading.{Parsed, Reader, passed_to}

-- What may follow: nothing that goes on with a word; a comma or a closing sign; the end of an element's parts.
unfoldable pub may_follow : List ℕ → Bool
may_follow [] = true
may_follow (b ∷ rest) = not (is_word b)

unfoldable pub may_close : List ℕ → Bool
may_close [] = false
may_close (b ∷ rest) = eqb b (code ",") || (eqb b (code ")") || (eqb b (code "}") || eqb b (code ">")))

unfoldable pub ends : List ℕ → Bool
ends [] = false
ends (b ∷ rest) = eqb b (code ")")

-- behind the part with a code: branches that receive have no closing sign of their own
unfoldable pub behind_part : ℕ → List ℕ → Bool
behind_part c rest = if eqb c (code "B") then ends rest or_else may_close rest

-- the places from one up to another; those that the part with a code stores
unfoldable pub spans : ℕ → ℕ → ℕ → Bool
spans from to i = leb from i && ltb i to

unfoldable pub region_of : ℕ → ℕ → Bool
region_of c i =
    if eqb c (code "E") || eqb c (code "F") then spans entries_place exits_place i
    or_else if eqb c (code "X") || eqb c (code "Y") then spans exits_place (condition_place 0) i
    or_else if eqb c (code "N") then eqb i task_place || (eqb i mode_place || (spans (condition_place 0) (condition_place 1) i || spans assignments_place element_words i))
    or_else if eqb c (code "T") || eqb c (code "S") then spans (message_place 0) (message_place 1) i
    or_else if eqb c (code "G") then spans exits_place (message_place 0) i
    or_else spans exits_place (condition_place 0) i || spans (message_place 0) assignments_place i

-- each word of x is 0 or el's
pub record Below (el x : List ℕ) : Type 0 where
  pub each : (i : ℕ) → (at x i ≡ 0) ⊎ (at x i ≡ at el i)

-- from x to y: the words of a region become el's, and no word of el is lost
pub record Back (el x y : List ℕ) (region : ℕ → Bool) : Type 0 where
  pub same_length : length y ≡ length x
  pub below : Below el y
  pub keeps : (i : ℕ) → at x i ≡ at el i → at y i ≡ at el i
  pub reaches : (i : ℕ) → region i ≡ true → at y i ≡ at el i

-- wherever w stands in a text, f reads it whole, and the words of the region
pub record Trip (el : List ℕ) (f : Reader) (w : List ℕ) (follows : List ℕ → Bool) (region : ℕ → Bool) : Type 0 where
  pub trip : (text rest x : List ℕ) (from : ℕ) → drop from text ≡ w ++ rest → follows rest ≡ true → length x ≡ element_words → Below el x → (y : List ℕ) × (f text from x ≡ passed_to (from + length w) y) × Back el x y region
