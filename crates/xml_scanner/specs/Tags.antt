-- Tags with their attributes (R5): "inside a tag an attribute's name, `=`, a value's bytes, `/>`, `>` stand for themselves. Missing blank before an attribute,
-- missing `=` or quote, stray byte in a tag, `/` without `>`: at that byte. `<` in a value: there." (RULES: xml)
use Prim.Native.Char.{code}
use Rattle.std.specs.Prelude.{ℕ, Bool, ◌||◌, eqb}
use Rattle.base_words.specs.Pick.{if◌then◌or_else◌}
use Rattle.xml_scanner.specs.declared.InTag.{InTag}
use Rattle.xml_scanner.specs.declared.InTag.TheVariants.{Name, Blank, Attribute, Named, Equals, Value, Reference, Behind, Slash}
use Rattle.xml_scanner.specs.declared.InEnd.{InEnd}
use Rattle.xml_scanner.specs.declared.InEnd.TheVariants.{Opened, Name as EndName, Behind as EndBehind}
use Rattle.xml_scanner.specs.declared.Sort.TheVariants.{StartTag, EmptyTag, EndTag as anEndTag, Reference as aReference}
use Rattle.xml_scanner.specs.declared.State.TheVariants.{Tag, EndTag, Reference as InReference}
use Rattle.xml_scanner.specs.declared.Move.{Move}
use Rattle.xml_scanner.specs.declared.Move.TheVariants.{On, Next, Close, Here, Back}
use Rattle.xml_characters.specs.Names.{is_blank, begins_name, is_name}

-- `/>` or `>`
unfoldable pub closing : ℕ → Move
closing b = if eqb b (code "/") then Next (Tag Slash) or_else if eqb b (code ">") then Close StartTag or_else Here

-- behind the tag's name, or behind a value
unfoldable pub behind : ℕ → Move
behind b = if is_blank b then On (Tag Blank) or_else closing b

-- behind an attribute's name
unfoldable pub named : ℕ → Move
named b = if is_blank b then On (Tag Named) or_else if eqb b (code "=") then On (Tag Equals) or_else Here

-- behind a blank
unfoldable pub behind_blank : ℕ → Move
behind_blank b = if is_blank b then On (Tag Blank) or_else if begins_name b then Next (Tag Attribute) or_else closing b

unfoldable pub is_quote : ℕ → Bool
is_quote b = eqb b (code "\"") || eqb b (code "'")

-- behind `=`
unfoldable pub equals : ℕ → Move
equals b = if is_blank b then On (Tag Equals) or_else if is_quote b then On (Tag (Value b)) or_else Here

-- a byte of a reference, between its `&` and its `;`
unfoldable pub is_reference : ℕ → Bool
is_reference b = is_name b || eqb b (code "#")

-- in a value whose quote is q
unfoldable pub in_value : ℕ → ℕ → Move
in_value q b =
    if eqb b q then On (Tag Behind)
    or_else if eqb b (code "&") then Next (Tag (Reference q))
    or_else if eqb b (code "<") then Here
    or_else On (Tag (Value q))

-- in a reference there
unfoldable pub in_value_reference : ℕ → ℕ → Move
in_value_reference q b =
    if eqb b (code ";") then On (Tag (Value q))
    or_else if is_reference b then On (Tag (Reference q))
    or_else Back

unfoldable pub in_tag : InTag → ℕ → Move
in_tag Name b = if is_name b then On (Tag Name) or_else behind b
in_tag Blank b = behind_blank b
in_tag Attribute b = if is_name b then On (Tag Attribute) or_else named b
in_tag Named b = named b
in_tag Equals b = equals b
in_tag (Value q) b = in_value q b
in_tag (Reference q) b = in_value_reference q b
in_tag Behind b = behind b
in_tag Slash b = if eqb b (code ">") then Close EmptyTag or_else Back

-- an end tag: a name, blanks, `>`
unfoldable pub behind_end : ℕ → Move
behind_end b = if is_blank b then On (EndTag EndBehind) or_else if eqb b (code ">") then Close anEndTag or_else Here

unfoldable pub in_end : InEnd → ℕ → Move
in_end Opened b = if begins_name b then On (EndTag EndName) or_else Back
in_end EndName b = if is_name b then On (EndTag EndName) or_else behind_end b
in_end EndBehind b = behind_end b

-- a reference in character data: `&..;` is one token
unfoldable pub in_reference : ℕ → Move
in_reference b = if eqb b (code ";") then Close aReference or_else if is_reference b then On InReference or_else Back
