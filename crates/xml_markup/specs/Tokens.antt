-- Tokens that are judged when they are whole, that is, when the byte behind them shows where they end; one at fault is a fault at its first byte. What the end of the
-- text cuts off is not judged (R4). u is the text up to the token's end, `start` the place of the markup, `mark` that of the token. (RULES: xml)
use Prim.Native.Char.{code}
use Rattle.std.specs.Prelude.{ℕ, ◌+◌, Bool, true, false, not, List, [], ◌∷◌, ltb, eqb, length, drop, Option, Some, None}
use Rattle.base_words.specs.Blocks.{Bytes}
use Rattle.base_words.specs.Pick.{if◌then◌or_else◌}
use Rattle.base_words.specs.Text.{bytes}
use Rattle.base_words.specs.Words.{at, part}
use Rattle.base_bytes.specs.Bytes.{same_bytes}
use Rattle.xml_scanner.specs.declared.InInstruction.{InInstruction}
use Rattle.xml_scanner.specs.declared.InInstruction.TheVariants.{Opened, Target as InTarget, TargetMark, Inside, Mark}
use Rattle.xml_scanner.specs.declared.InTag.{InTag}
use Rattle.xml_scanner.specs.declared.InTag.TheVariants.{Name, Blank, Attribute as InAttribute, Named, Equals, Value, Reference as InReference, Behind as BehindValue, Slash}
use Rattle.xml_scanner.specs.declared.State.{State}
use Rattle.xml_scanner.specs.declared.State.TheVariants.{Begin, Opening, Comment, Data, Instruction, Tag, EndTag, Reference as AtReference}
use Rattle.xml_markup.specs.declared.Whole.{Whole}
use Rattle.xml_markup.specs.declared.Whole.TheVariants.{Nothing, Attribute, Target, Reference}
use Rattle.xml_scanner.specs.declared.Move.{Move}
use Rattle.xml_scanner.specs.declared.Move.TheVariants.{On as Onward, Next, Close, Here, Back}
use Rattle.xml_markup.specs.declared.Cursor.{Cursor}
use Rattle.xml_markup.specs.declared.Scan.{Scan}
use Rattle.xml_markup.specs.declared.Scan.TheVariants.{On, Past, Fault}
use Rattle.xml_characters.specs.Names.{is_name}
use Rattle.xml_characters.specs.References.{character_of, is_character}
use Rattle.xml_scanner.specs.Moves.{step}

-- the token that the byte b shows to be whole
unfoldable pub end_of : Whole → Bool → Whole
end_of w ended = if ended then w or_else Nothing

unfoldable pub whole_in_tag : InTag → ℕ → Whole
whole_in_tag Name b = Nothing
whole_in_tag Blank b = Nothing
whole_in_tag InAttribute b = end_of Attribute (not (is_name b))
whole_in_tag Named b = Nothing
whole_in_tag Equals b = Nothing
whole_in_tag (Value q) b = Nothing
whole_in_tag (InReference q) b = end_of Reference (eqb b (code ";"))
whole_in_tag BehindValue b = Nothing
whole_in_tag Slash b = Nothing

unfoldable pub whole_in_instruction : InInstruction → ℕ → Whole
whole_in_instruction Opened b = Nothing
whole_in_instruction InTarget b = end_of Target (not (is_name b))
whole_in_instruction TargetMark b = Nothing
whole_in_instruction Inside b = Nothing
whole_in_instruction Mark b = Nothing

unfoldable pub whole : State → ℕ → Whole
whole Begin b = Nothing
whole (Opening s) b = Nothing
whole (Comment s) b = Nothing
whole (Data s) b = Nothing
whole (Instruction s) b = whole_in_instruction s b
whole (Tag s) b = whole_in_tag s b
whole (EndTag s) b = Nothing
whole AtReference b = end_of Reference (eqb b (code ";"))

-- where the byte b at the place i, with q behind it, leads
unfoldable pub move_to : Move → ℕ → ℕ → ℕ → Scan
move_to (Onward s) mark i q = On (record { state = s; mark = mark })
move_to (Next s) mark i q = On (record { state = s; mark = i })
move_to (Close sort) mark i q = Past sort q
move_to Here mark i q = Fault i
move_to Back mark i q = Fault mark

unfoldable pub moved : Cursor → ℕ → ℕ → ℕ → Scan
moved c b i q = move_to (step c.state b) c.mark i q

unfoldable pub if_on : {A : Type 0} → Scan → (Cursor → A) → A → A
if_on (On c) f a = f c
if_on (Past sort q) f a = a
if_on (Fault q) f a = a

unfoldable pub if_attribute : {A : Type 0} → Whole → A → A → A
if_attribute Nothing a b = b
if_attribute Attribute a b = a
if_attribute Target a b = b
if_attribute Reference a b = b

-- the byte at i shows an attribute's name to be whole, and it is this one
unfoldable pub is_named : Bytes → Bytes → Cursor → ℕ → Bool
is_named t name c i = if_attribute (whole c.state (at t i)) (same_bytes (part t c.mark i) name) false

-- the first attribute of that name, in the tag that is read so far, with the bytes s from the place i on
unfoldable pub found_from : Bytes → Bytes → Cursor → List ℕ → ℕ → Option ℕ
found_from t name c [] i = None
found_from t name c (b ∷ s) i =
    if is_named t name c i then Some i
    or_else if_on (moved c (at t i) i (i + 1)) (λ next. found_from t name next s (i + 1)) None

abbrev pub begun : ℕ → Cursor
begun p = record { state = Begin; mark = p }

unfoldable pub found : Bytes → Bytes → ℕ → Option ℕ
found t name start = found_from t name (begun start) (drop start t) start

unfoldable pub is_found : Option ℕ → Bool
is_found (Some i) = true
is_found None = false

-- "a second attribute of the same name (compared whole, with prefix): at its name" (R5) (RULES: xml)
unfoldable pub twice : Bytes → ℕ → ℕ → Bool
twice u start mark = is_found (found (part u 0 mark) (part u mark (length u)) start)

-- "a UTF-8 BOM may stand first" (R7); the end behind one that it cuts off (R4) (RULES: xml)
abbrev pub byte_order_mark : Bytes
byte_order_mark = 239 ∷ 187 ∷ 191 ∷ []

unfoldable pub first : Bytes → ℕ
first t = if same_bytes (part t 0 3) (part byte_order_mark 0 (length t)) then length (part t 0 3) or_else 0

unfoldable pub lower : ℕ → ℕ
lower b = if ltb b (code "a") then b + 32 or_else b

-- `<?` and xml in any letter case
unfoldable pub says_xml : Bytes → Bool
says_xml w =
    if eqb (length w) 5 then (if eqb (lower (at w 2)) (code "x") then (if eqb (lower (at w 3)) (code "m") then eqb (lower (at w 4)) (code "l") or_else false) or_else false)
    or_else false

-- "`<?xml` (those letters) only at the first byte or behind the BOM .. any other instruction whose target is xml in any letter case is 20 at its `<`" (R8) (RULES: xml)
unfoldable pub is_declaration : Bytes → Bool
is_declaration w = same_bytes w (bytes "<?xml")

unfoldable pub reserved : Bytes → ℕ → ℕ → Bool
reserved u start mark =
    if not (says_xml (part u mark (length u))) then false
    or_else if not (is_declaration (part u mark (length u))) then true
    or_else not (eqb start (first u))

-- a token that is whole, from mark to the end of u, is at fault
unfoldable pub is_faulty : Whole → Bytes → ℕ → ℕ → Bool
is_faulty Nothing u start mark = false
is_faulty Attribute u start mark = twice u start mark
is_faulty Target u start mark = reserved u start mark
is_faulty Reference u start mark = not (is_character (character_of (part u mark (length u))))
