-- Comments, CDATA sections and instructions. "`--` in a comment not followed by `>`: at the first `-`" (R5). "Behind a target comes a blank or `?>`" (R8). (RULES: xml)
use Prim.Native.Char.{code}
use Rattle.std.specs.Prelude.{ℕ, eqb}
use Rattle.base_words.specs.Pick.{if◌then◌or_else◌}
use Rattle.xml_scanner.specs.declared.InComment.{InComment}
use Rattle.xml_scanner.specs.declared.InComment.TheVariants.{Inside, Dash, Dashes}
use Rattle.xml_scanner.specs.declared.InData.{InData}
use Rattle.xml_scanner.specs.declared.InData.TheVariants.{Inside as InsideData, Bracket, Brackets}
use Rattle.xml_scanner.specs.declared.InInstruction.{InInstruction}
use Rattle.xml_scanner.specs.declared.InInstruction.TheVariants.{Opened, Target, TargetMark, Inside as InsideInstruction, Mark}
use Rattle.xml_scanner.specs.declared.Sort.TheVariants.{Comment as aComment, Data as aSection, Instruction as anInstruction}
use Rattle.xml_scanner.specs.declared.State.TheVariants.{Comment, Data, Instruction}
use Rattle.xml_scanner.specs.declared.Move.{Move}
use Rattle.xml_scanner.specs.declared.Move.TheVariants.{On, Next, Close, Here, Back}
use Rattle.xml_characters.specs.Names.{is_blank, begins_name, is_name}

unfoldable pub in_comment : InComment → ℕ → Move
in_comment Inside b = if eqb b (code "-") then Next (Comment Dash) or_else On (Comment Inside)
in_comment Dash b = if eqb b (code "-") then On (Comment Dashes) or_else On (Comment Inside)
in_comment Dashes b = if eqb b (code ">") then Close aComment or_else Back

unfoldable pub in_data : InData → ℕ → Move
in_data InsideData b = if eqb b (code "]") then On (Data Bracket) or_else On (Data InsideData)
in_data Bracket b = if eqb b (code "]") then On (Data Brackets) or_else On (Data InsideData)
in_data Brackets b =
    if eqb b (code ">") then Close aSection
    or_else if eqb b (code "]") then On (Data Brackets)
    or_else On (Data InsideData)

unfoldable pub in_target : ℕ → Move
in_target b =
    if is_name b then On (Instruction Target)
    or_else if is_blank b then On (Instruction InsideInstruction)
    or_else if eqb b (code "?") then Next (Instruction TargetMark)
    or_else Here

unfoldable pub in_instruction : InInstruction → ℕ → Move
in_instruction Opened b = if begins_name b then On (Instruction Target) or_else Back
in_instruction Target b = in_target b
in_instruction TargetMark b = if eqb b (code ">") then Close anInstruction or_else Back
in_instruction InsideInstruction b = if eqb b (code "?") then On (Instruction Mark) or_else On (Instruction InsideInstruction)
in_instruction Mark b =
    if eqb b (code ">") then Close anInstruction
    or_else if eqb b (code "?") then On (Instruction Mark)
    or_else On (Instruction InsideInstruction)
