-- The token that opens a markup (R5): "`<`name, `</`name, `<!--`, `<![CDATA[`, `<?`target .. are each one token, at their first byte. So: `< a`, `<1`, `<!x`, `<?1`,
-- `</ a` .. at the `<`." "`<!DOCTYPE` is 20 at its `<`" (R3). (RULES: xml)
use Prim.Native.Char.{code}
use Rattle.std.specs.Prelude.{ℕ, ◌+◌, ltb, eqb}
use Rattle.base_words.specs.Pick.{if◌then◌or_else◌}
use Rattle.base_words.specs.Text.{bytes}
use Rattle.base_words.specs.Words.{at}
use Rattle.xml_scanner.specs.declared.InOpening.{InOpening}
use Rattle.xml_scanner.specs.declared.InOpening.TheVariants.{Less, Bang, Dash, Bracket}
use Rattle.xml_scanner.specs.declared.InComment.TheVariants.{Inside as InsideComment}
use Rattle.xml_scanner.specs.declared.InData.TheVariants.{Inside as InsideData}
use Rattle.xml_scanner.specs.declared.InInstruction.TheVariants.{Opened as InstructionOpened}
use Rattle.xml_scanner.specs.declared.InTag.TheVariants.{Name}
use Rattle.xml_scanner.specs.declared.InEnd.TheVariants.{Opened as EndOpened}
use Rattle.xml_scanner.specs.declared.State.TheVariants.{Opening, Comment, Data, Instruction, Tag, EndTag}
use Rattle.xml_scanner.specs.declared.Move.{Move}
use Rattle.xml_scanner.specs.declared.Move.TheVariants.{On, Back}
use Rattle.xml_characters.specs.Names.{begins_name}

unfoldable pub behind_less : ℕ → Move
behind_less b =
    if eqb b (code "/") then On (EndTag EndOpened)
    or_else if eqb b (code "!") then On (Opening Bang)
    or_else if eqb b (code "?") then On (Instruction InstructionOpened)
    or_else if begins_name b then On (Tag Name)
    or_else Back

-- k bytes of `[CDATA[` are read
unfoldable pub behind_bracket : ℕ → ℕ → Move
behind_bracket k b =
    if eqb b (at (bytes "[CDATA[") k) then (if ltb k 6 then On (Opening (Bracket (k + 1))) or_else On (Data InsideData))
    or_else Back

unfoldable pub in_opening : InOpening → ℕ → Move
in_opening Less b = behind_less b
in_opening Bang b =
    if eqb b (code "-") then On (Opening Dash)
    or_else if eqb b (code "[") then On (Opening (Bracket 1))
    or_else Back
in_opening Dash b = if eqb b (code "-") then On (Comment InsideComment) or_else Back
in_opening (Bracket k) b = behind_bracket k b
