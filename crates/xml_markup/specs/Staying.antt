-- Bytes that leave a markup where it is: those of a name, blanks behind a blank of a tag, and of a value, a comment, a section or an instruction those from 32 on that are not `&`, `<` or
-- what may end it. To pass them together is to pass them one by one.
use Prim.Native.Char.{code}
use Rattle.std.specs.Prelude.{ℕ, Bool, false, not, ltb, eqb}
use Rattle.base_words.specs.Pick.{if◌then◌or_else◌}
use Rattle.xml_scanner.specs.declared.InComment.{InComment}
use Rattle.xml_scanner.specs.declared.InComment.TheVariants.{Inside, Dash, Dashes}
use Rattle.xml_scanner.specs.declared.InData.{InData}
use Rattle.xml_scanner.specs.declared.InData.TheVariants.{Inside as InsideData, Bracket, Brackets}
use Rattle.xml_scanner.specs.declared.InInstruction.{InInstruction}
use Rattle.xml_scanner.specs.declared.InInstruction.TheVariants.{Opened as InstructionOpened, Target, TargetMark, Inside as InsideInstruction, Mark}
use Rattle.xml_scanner.specs.declared.InEnd.{InEnd}
use Rattle.xml_scanner.specs.declared.InEnd.TheVariants.{Opened, Name as EndName, Behind as EndBehind}
use Rattle.xml_scanner.specs.declared.InTag.{InTag}
use Rattle.xml_scanner.specs.declared.InTag.TheVariants.{Name, Blank, Attribute, Named, Equals, Value, Reference, Behind, Slash}
use Rattle.xml_scanner.specs.declared.State.{State}
use Rattle.xml_scanner.specs.declared.State.TheVariants.{Begin, Opening, Comment, Data, Instruction, Tag, EndTag, Reference as AtReference}
use Rattle.xml_characters.specs.Names.{is_blank, is_name}

unfoldable pub is_plain : ℕ → ℕ → Bool
is_plain q b = if ltb b 32 then false or_else if eqb b q then false or_else if eqb b (code "&") then false or_else not (eqb b (code "<"))

unfoldable pub stays_in_comment : InComment → ℕ → Bool
stays_in_comment Inside b = is_plain (code "-") b
stays_in_comment Dash b = false
stays_in_comment Dashes b = false

unfoldable pub stays_in_data : InData → ℕ → Bool
stays_in_data InsideData b = is_plain (code "]") b
stays_in_data Bracket b = false
stays_in_data Brackets b = false

unfoldable pub stays_in_instruction : InInstruction → ℕ → Bool
stays_in_instruction InstructionOpened b = false
stays_in_instruction Target b = false
stays_in_instruction TargetMark b = false
stays_in_instruction InsideInstruction b = is_plain (code "?") b
stays_in_instruction Mark b = false

unfoldable pub stays_in_tag : InTag → ℕ → Bool
stays_in_tag Name b = is_name b
stays_in_tag Blank b = is_blank b
stays_in_tag Attribute b = is_name b
stays_in_tag Named b = false
stays_in_tag Equals b = false
stays_in_tag (Value q) b = is_plain q b
stays_in_tag (Reference q) b = false
stays_in_tag Behind b = false
stays_in_tag Slash b = false

unfoldable pub stays_in_end : InEnd → ℕ → Bool
stays_in_end Opened b = false
stays_in_end EndName b = is_name b
stays_in_end EndBehind b = false

unfoldable pub stays : State → ℕ → Bool
stays Begin b = false
stays (Opening s) b = false
stays (Comment s) b = stays_in_comment s b
stays (Data s) b = stays_in_data s b
stays (Instruction s) b = stays_in_instruction s b
stays (Tag s) b = stays_in_tag s b
stays (EndTag s) b = stays_in_end s b
stays AtReference b = false
