-- A markup is read byte by byte from its first; what the next byte does is said by where it stands.
use Prim.Native.Char.{code}
use Rattle.std.specs.Prelude.{ℕ, eqb}
use Rattle.base_words.specs.Pick.{if◌then◌or_else◌}
use Rattle.xml_scanner.specs.declared.InOpening.TheVariants.{Less}
use Rattle.xml_scanner.specs.declared.State.{State}
use Rattle.xml_scanner.specs.declared.State.TheVariants.{Begin, Opening, Comment, Data, Instruction, Tag, EndTag, Reference}
use Rattle.xml_scanner.specs.declared.Move.{Move}
use Rattle.xml_scanner.specs.declared.Move.TheVariants.{On, Here}
use Rattle.xml_scanner.specs.Openings.{in_opening}
use Rattle.xml_scanner.specs.Passages.{in_comment, in_data, in_instruction}
use Rattle.xml_scanner.specs.Tags.{in_tag, in_end, in_reference}

-- its first byte
unfoldable pub at_begin : ℕ → Move
at_begin b = if eqb b (code "<") then On (Opening Less) or_else if eqb b (code "&") then On Reference or_else Here

unfoldable pub step : State → ℕ → Move
step Begin b = at_begin b
step (Opening s) b = in_opening s b
step (Comment s) b = in_comment s b
step (Data s) b = in_data s b
step (Instruction s) b = in_instruction s b
step (Tag s) b = in_tag s b
step (EndTag s) b = in_end s b
step Reference b = in_reference b
