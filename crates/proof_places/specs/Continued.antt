-- HOW A TEXT GOES ON: what may stand behind the bytes before a place, in the stead of what does stand there.
use Prim.Native.Char.{code}
use Rattle.std.specs.Prelude.{ℕ, ◌+◌, ◌≡◌, Bool, true, ◌||◌, List, ◌∷◌, ◌++◌, length, take}
use Rattle.std.specs.declared.result.Result.TheVariants.{Ok}
use Rattle.text_readers.specs.Reading.{Refused, misplaced, excessive, place_of, starts_number, starts_field, starts_sign}
use Rattle.text_elements.specs.Elements.{starts_element}
use Rattle.text_read.specs.Notation.{model, starts_pool}
use Rattle.proof_places.specs.Places.{Agree}

-- the bytes of t before p, a blank, and w
abbrev pub resumed : List ℕ → ℕ → List ℕ → List ℕ
resumed t p w = take p t ++ (code " " ∷ w)

-- nothing goes on: whatever stands behind the blank is refused at its first token
abbrev pub Nowhere : List ℕ → ℕ → Type 0
Nowhere t p = (w : List ℕ) → (n : ℕ) × ((model (resumed t p w)).end ≡ Refused n (place_of (resumed t p w) p))

-- "2: the token at this place (or the text's end) continues no text of the notation", but what stands before it does go on: to a text that is read
-- whole; or, where a count is full, to nothing but the first item too many (RULES: places)
pub data GoesOn (t : List ℕ) (p : ℕ) : Type 0 where
  whole : (w : List ℕ) → (model (resumed t p w)).end ≡ Ok (length (resumed t p w)) → GoesOn t p
  too_many : (w : List ℕ) → (model (resumed t p w)).end ≡ Refused excessive (p + 1) → Nowhere t p → GoesOn t p

-- and with the token at p it goes on to none
pub record Misplaced (t : List ℕ) (p : ℕ) : Type 0 where
  pub before : GoesOn t p
  pub with : (u : List ℕ) → Agree t u p → (model u).end ≡ Refused misplaced p

-- a number or a field, of any size; whatever there may be too many of
unfoldable pub is_numeral : List ℕ → ℕ → Bool
is_numeral t p = starts_number t p || starts_field t p

unfoldable pub starts_item : List ℕ → ℕ → Bool
starts_item t p = is_numeral t p || (starts_sign (code "?") t p || (starts_sign (code "(") t p || (starts_element t p || starts_pool t p)))

-- "3: a number is outside its range or a count above it": with another number or field the text goes on; or the token starts an item, and nothing goes on (RULES: places)
pub data Exceeds (t : List ℕ) (p : ℕ) : Type 0 where
  range : is_numeral t p ≡ true → (w : List ℕ) → is_numeral (resumed t p w) p ≡ true → (model (resumed t p w)).end ≡ Ok (length (resumed t p w)) → Exceeds t p
  count : starts_item t p ≡ true → Nowhere t p → Exceeds t p

pub record Excessive (t : List ℕ) (p : ℕ) : Type 0 where
  pub cause : Exceeds t p
  pub with : (u : List ℕ) → Agree t u p → (model u).end ≡ Refused excessive p
