-- WHERE IDS STAND, noted once for every thing that is no flow, so that no tag is gone through again for its id: in its target, which flows alone have. t is the text, w the things drawn, n their count.
use Rattle.std.specs.Prelude.{ℕ, ◌+◌, ◌*◌, ◌≤◌, ◌<◌, ◌≡◌, Bool, true, false, not, ◌&&◌, ◌||◌, [], ◌∷◌, eqb, ltb, length, Option, Some, None}
use Rattle.base_words.specs.Blocks.{Bytes, Drawing}
use Rattle.base_words.specs.Iter.{iter}
use Rattle.base_words.specs.Pick.{if◌then◌or_else◌}
use Rattle.base_words.specs.Text.{bytes}
use Rattle.xml_markup.specs.Tokens.{found}
use Rattle.xml_markup.specs.Spans.{quote_at}
use Rattle.draw_things.specs.Things.{thing_words, sort, place, target, with_target, message_flow, sequence_flow}

-- the greatest note: the id stands further, where it is looked for in the tag
abbrev pub far : ℕ
far = 65535

-- an id is noted by the place behind its first quote; 0 for none
unfoldable pub behind_quote : ℕ → ℕ
behind_quote q = if ltb q 65534 then q + 1 or_else far

unfoldable pub note_by : Bytes → Option ℕ → ℕ
note_by t (Some i) = behind_quote (quote_at t i)
note_by t None = 0

unfoldable pub note_of : Bytes → Drawing → ℕ → ℕ
note_of t w j = note_by t (found t (bytes "id") (place w j))

abbrev pub is_flow : Drawing → ℕ → Bool
is_flow w k = eqb (sort w k) sequence_flow || eqb (sort w k) message_flow

-- thing k with a note as its target, where it is no flow
unfoldable pub retargeted : (Drawing → ℕ → ℕ) → ℕ → Drawing → Drawing
retargeted f k w = if is_flow w k then w or_else with_target w k (f w k)

abbrev pub no_note : Drawing → ℕ → ℕ
no_note w k = 0

-- the first n things with the notes of their ids, and with none
unfoldable pub noted : Bytes → ℕ → Drawing → Drawing
noted t n w = iter (retargeted (note_of t)) w n

unfoldable pub bared : ℕ → Drawing → Drawing
bared n w = iter (retargeted no_note) w n

-- a note of thing k can be taken away again: its target is 0, unless it is a flow
unfoldable pub is_free : Drawing → ℕ → Bool
is_free w k = is_flow w k || eqb (target w k) 0

-- what is noted of a thing that the block holds, of each that is no flow, and of all where it is said that ids are noted, is so
abbrev pub IdNoted : Bytes → Drawing → ℕ → Type 0
IdNoted t w j = thing_words * (j + 1) ≤ length w → target w j ≡ note_of t w j

abbrev pub NotedAt : Bytes → Drawing → ℕ → Type 0
NotedAt t w j = is_flow w j ≡ false → IdNoted t w j

abbrev pub Noted : Bytes → Drawing → ℕ → Type 0
Noted t w n = (j : ℕ) → j < n → NotedAt t w j

abbrev pub NotedIf : Bool → Bytes → Drawing → ℕ → Type 0
NotedIf b t w n = b ≡ true → Noted t w n

-- the bytes v stand at the beginning of s, up to the quote q or the end
unfoldable pub is_up_to : ℕ → Bytes → Bytes → Bool
is_up_to q [] [] = true
is_up_to q [] (b ∷ s) = eqb b q
is_up_to q (x ∷ v) [] = false
is_up_to q (x ∷ v) (b ∷ s) = eqb b x && (not (eqb b q) && is_up_to q v s)
