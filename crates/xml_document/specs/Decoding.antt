-- "Character data, CDATA and references together": the bytes that a text says, one by one, with the place where the next one comes from. "A CR standing in the text is a line end" (R21), with
-- an LF behind it one line end; the character that a reference says is its number, and 128 for every number from 128 on: such bytes are alike in what is read here. (RULES: flows)
use Prim.Native.Char.{code}
use Rattle.std.specs.Prelude.{ℕ, ◌-◌, ltb, eqb}
use Rattle.base_words.specs.Blocks.{Bytes}
use Rattle.base_words.specs.Pick.{if◌then◌or_else◌}
use Rattle.base_words.specs.Words.{at, part}
use Rattle.xml_characters.specs.References.{character_of}
use Rattle.xml_markup.specs.Markup.{markup}
use Rattle.xml_markup.specs.Spans.{after}
use Rattle.xml_document.specs.declared.decoding.Decoded.{Decoded}

unfoldable pub narrow : ℕ → ℕ
narrow n = if ltb n 128 then n or_else 128

-- an LF at i, behind a CR, is passed
unfoldable pub behind_line : Bytes → ℕ → ℕ
behind_line t i = if eqb (at t i) (code "\n") then after t i or_else i

abbrev pub decoded : ℕ → ℕ → Decoded
decoded b q = record { byte = b; next = q }

unfoldable pub plain_at : Bytes → ℕ → Decoded
plain_at t i = if eqb (at t i) (code "\r") then decoded (code "\n") (behind_line t (after t i)) or_else decoded (at t i) (after t i)

-- a reference from i to q, its `;` last
unfoldable pub referred_at : Bytes → ℕ → ℕ → Decoded
referred_at t i q = decoded (narrow (character_of (part t i (q - 1)))) q

unfoldable pub decoded_at : Bytes → ℕ → Decoded
decoded_at t i = if eqb (at t i) (code "&") then referred_at t i (markup t i).next or_else plain_at t i
