-- What an element says: "character data, CDATA and references together, comments and instructions left out; a CR standing in the text is a line end, `&#13;` is not blank" (R21). Each byte has the
-- place where it stands, a reference's byte that of the `&`. documentation and extensionElements in it are skipped whole, as everywhere (R13); another element is said as a byte 0, which no token of
-- document 01 holds; the first end tag that is its own ends it, or a fault, or the text. (RULES: flows)
use Prim.Native.Char.{code}
use Rattle.std.specs.Prelude.{ℕ, zero, suc, ◌+◌, ◌-◌, min, Bool, true, false, ◌||◌, List, [], ◌∷◌, leb, ltb, eqb, length, Option, Some, None}
use Rattle.base_words.specs.Blocks.{Bytes}
use Rattle.base_words.specs.Pick.{if◌then◌or_else◌}
use Rattle.base_words.specs.Text.{bytes}
use Rattle.base_words.specs.Words.{at}
use Rattle.xml_scanner.specs.declared.Sort.{Sort}
use Rattle.xml_scanner.specs.declared.Sort.TheVariants.{StartTag, EmptyTag, EndTag, Text, Reference, Comment, Data, Instruction, End as TheEnd, Fault}
use Rattle.xml_markup.specs.Markup.{begins_at}
use Rattle.xml_markup.specs.Spans.{is_called}
use Rattle.xml_skip.specs.Skipping.{depth}
use Rattle.xml_document.specs.Decoding.{plain_at, decoded_at}
use Rattle.draw_conditions.specs.Outline.{outline, if_past}
use Rattle.draw_conditions.specs.declared.saying.Spot.{Spot}
use Rattle.draw_conditions.specs.declared.saying.Step.{Step}
use Rattle.draw_conditions.specs.declared.saying.Step.TheVariants.{Byte, On, End}
use Rattle.draw_conditions.specs.declared.saying.Seen.{Seen}

-- a byte that is said, and its place in the text
pub record Said : Type 0 where
  pub byte : ℕ
  pub place : ℕ

abbrev pub says : ℕ → ℕ → Said
says b i = record { byte = b; place = i }

-- at a place, in a CDATA section or not
abbrev pub spot : Bool → ℕ → Spot
spot section i = record { section = section; deep = 0; at = i }

-- at a place inside what is skipped, so many elements deep; 0: behind it
abbrev pub inside : ℕ → ℕ → Spot
inside d i = record { section = false; deep = d; at = i }

-- n bytes on, in the text
unfoldable pub forward : Bytes → ℕ → ℕ → ℕ
forward t i n = min (i + n) (length t)

-- a byte that stands for itself
unfoldable pub plain_step : Bytes → Bool → ℕ → Step
plain_step t section i = Byte (plain_at t i).byte i (spot section (plain_at t i).next)

-- "documentation, extensionElements: skipped whole wherever they stand, since they say nothing about the run" (R13) (RULES: drawn)
unfoldable pub is_skipped : Bytes → ℕ → Bool
is_skipped t i = is_called t i (bytes "documentation") || is_called t i (bytes "extensionElements")

-- a tag at i with q behind it, where an element that is skipped is d deep
unfoldable pub tag_step : Bytes → ℕ → ℕ → ℕ → Step
tag_step t d i q = if is_skipped t i then On (inside d q) or_else Byte 0 i (spot false q)

-- a markup at i, with q behind it; a section's text begins behind `<![CDATA[`
unfoldable pub step_by : Sort → Bytes → ℕ → ℕ → Step
step_by StartTag t i q = tag_step t 1 i q
step_by EmptyTag t i q = tag_step t 0 i q
step_by EndTag t i q = End
step_by Text t i q = End
step_by Reference t i q = Byte (decoded_at t i).byte i (spot false q)
step_by Comment t i q = On (spot false q)
step_by Data t i q = On (spot true (forward t i 9))
step_by Instruction t i q = On (spot false q)
step_by TheEnd t i q = End
step_by Fault t i q = End

unfoldable pub markup_step : Bytes → ℕ → Step
markup_step t i = if_past (outline t i) (λ s q. step_by s t i q) End

unfoldable pub text_step : Bytes → ℕ → Step
text_step t i =
    if eqb (at t i) (code "<") then markup_step t i
    or_else if eqb (at t i) (code "&") then markup_step t i
    or_else plain_step t false i

-- a section goes up to `]]>`
unfoldable pub section_step : Bytes → ℕ → Step
section_step t i = if begins_at t i (bytes "]]>") then On (spot false (forward t i 3)) or_else plain_step t true i

-- inside what is skipped, d deep, a markup with q behind it; "up to 16 deep" (RULES: skipping)
unfoldable pub skip_by : Sort → ℕ → ℕ → Step
skip_by StartTag d q = if ltb d depth then On (inside (d + 1) q) or_else End
skip_by EmptyTag d q = On (inside d q)
skip_by EndTag d q = On (inside (d - 1) q)
skip_by Text d q = On (inside d q)
skip_by Reference d q = On (inside d q)
skip_by Comment d q = On (inside d q)
skip_by Data d q = On (inside d q)
skip_by Instruction d q = On (inside d q)
skip_by TheEnd d q = End
skip_by Fault d q = End

unfoldable pub skip_markup : Bytes → ℕ → ℕ → Step
skip_markup t d i = if_past (outline t i) (λ s q. skip_by s d q) End

-- its text is passed byte by byte
unfoldable pub skip_step : Bytes → ℕ → ℕ → Step
skip_step t d i = if eqb (at t i) (code "<") then skip_markup t d i or_else On (inside d (forward t i 1))

unfoldable pub step_at : Bytes → Spot → Step
step_at t s =
    if leb (length t) s.at then End
    or_else if s.section then section_step t s.at
    or_else if ltb 0 s.deep then skip_step t s.deep s.at
    or_else text_step t s.at

unfoldable pub further : Step → (Spot → List Said) → List Said
further (Byte b i s) on = says b i ∷ on s
further (On s) on = on s
further End on = []

-- from s on, in n steps at most; each passes a byte, so the text's length is enough
unfoldable pub said_in : ℕ → Bytes → Spot → List Said
said_in zero t s = []
said_in (suc n) t s = further (step_at t s) (said_in n t)

unfoldable pub said : Bytes → Spot → List Said
said t s = said_in (length t) t s

-- the next byte that is said, and all behind it
unfoldable pub seen : Bytes → Option Seen → List Said
seen t (Some v) = says v.byte v.place ∷ said t v.next
seen t None = []

-- what the element whose tag is at p says; an empty tag says nothing
unfoldable pub said_by : Sort → Bytes → ℕ → List Said
said_by StartTag t q = said t (spot false q)
said_by EmptyTag t q = []
said_by EndTag t q = []
said_by Text t q = []
said_by Reference t q = []
said_by Comment t q = []
said_by Data t q = []
said_by Instruction t q = []
said_by TheEnd t q = []
said_by Fault t q = []

unfoldable pub said_at : Bytes → ℕ → List Said
said_at t p = if_past (outline t p) (λ s q. said_by s t q) []
