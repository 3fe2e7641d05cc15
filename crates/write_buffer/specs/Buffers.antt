-- A text written into a lent buffer from a place on, as far as the buffer goes.
use Rattle.std.specs.Prelude.{◌≡◌, List, [], ◌∷◌, ℕ, ◌+◌, ◌≤◌, min, ltb, length, set}
use Rattle.base_words.specs.Blocks.{Bytes}
use Rattle.base_words.specs.Pick.{if◌then◌or_else◌}

-- a text written at a buffer's start, as far as the buffer goes: the later bytes stay
unfoldable pub over : List ℕ → Bytes → Bytes
over [] out = out
over (b ∷ w) [] = []
over (b ∷ w) (o ∷ out) = b ∷ over w out

-- the lesser of two numbers; shut, so that no proof goes by cases where it is not asked
unfoldable pub lesser : ℕ → ℕ → ℕ
lesser a b = min a b

-- the greatest `usize`, behind which there is no place
abbrev pub last_place : ℕ
last_place = 18446744073709551615

unfoldable pub next : ℕ → ℕ
next p = if ltb p last_place then p + 1 or_else p

-- the place behind a text that starts at p
unfoldable pub end_written : ℕ → List ℕ → ℕ
end_written p [] = p
end_written p (b ∷ w) = end_written (next p) w

-- a text written from p on, byte after byte; a byte beyond the buffer's end is not written
unfoldable pub over_from : ℕ → List ℕ → Bytes → Bytes
over_from p [] out = out
over_from p (b ∷ w) out = over_from (next p) w (set out p b)

-- The promise of a writer of the text w: it stands in the buffer from `from` on, the place behind it is returned, and it has at most `most` bytes.
pub record Put (w : List ℕ) (most from : ℕ) (out : List ℕ) (r : ℕ) (now : List ℕ) : Type 0 where
  pub short : length w ≤ most
  pub place : r ≡ end_written from w
  pub text : now ≡ over_from from w out
