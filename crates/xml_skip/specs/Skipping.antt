-- "An element inside an element, up to 16 deep, is skipped whole." "It is 1 deep, an element in it 2, and so on; the 17th is 20 at its `<`, an empty tag too" (R11a). "An end tag
-- repeats the start tag's name byte for byte" (R6), "an end tag with another name: at the `<`" (R5). (RULES: skipping)
use Rattle.std.specs.Prelude.{ℕ, zero, suc, ◌-◌, leb, eqb, length, Ok, Err, Result}
use Rattle.base_words.specs.Blocks.{Bytes}
use Rattle.base_words.specs.Pick.{if◌then◌or_else◌}
use Rattle.xml_scanner.specs.declared.Sort.{Sort}
use Rattle.xml_scanner.specs.declared.Sort.TheVariants.{StartTag, EmptyTag, EndTag, Text, Reference, Comment, Data, Instruction, End, Fault as AFault}
use Rattle.xml_markup.specs.declared.Markup.{Markup}
use Rattle.xml_markup.specs.declared.Opener.{Opener}
use Rattle.xml_markup.specs.declared.Opener.TheVariants.{Start, End as EndOpener, Other}
use Rattle.xml_markup.specs.Markup.{markup}
use Rattle.xml_markup.specs.Spans.{opener, same_name}
use Rattle.xml_skip.specs.declared.Fault.{Fault}
use Rattle.xml_skip.specs.declared.Part.{Part}
use Rattle.xml_skip.specs.declared.Part.TheVariants.{Element, Close, On, Fault as PartFault}
use Rattle.xml_skip.specs.declared.Tag.{Tag}
use Rattle.xml_skip.specs.declared.Tag.TheVariants.{Open, Empty, Fault as TagFault}

-- the place behind an element, or where the fault is
abbrev pub Reached : Type 0
Reached = Result ℕ Fault

abbrev pub fault_at : ℕ → Reached
fault_at q = Err (record { place = q })

-- how deep an element may be
abbrev pub depth : ℕ
depth = 16

-- what is passed in content, what ends it, and what is a fault
unfoldable pub part_by : Sort → ℕ → Part
part_by StartTag q = On q
part_by EmptyTag q = On q
part_by EndTag q = Close q
part_by Text q = On q
part_by Reference q = On q
part_by Comment q = On q
part_by Data q = On q
part_by Instruction q = On q
part_by End q = PartFault q
part_by AFault q = PartFault q

unfoldable pub part_of : Markup → Part
part_of m = part_by m.sort m.next

-- at p, in the element whose tag is at `outer`: a whole `<`name is an element, whatever follows; a whole `</`name must be that element's name
unfoldable pub part_for : Opener → Bytes → ℕ → ℕ → Part
part_for Start t outer p = Element
part_for EndOpener t outer p = if same_name t outer p then part_of (markup t p) or_else PartFault p
part_for Other t outer p = part_of (markup t p)

unfoldable pub part_at : Bytes → ℕ → ℕ → Part
part_at t outer p = part_for (opener t p) t outer p

-- the tag at p of an element
unfoldable pub tag_by : Sort → ℕ → ℕ → Tag
tag_by StartTag q p = Open q
tag_by EmptyTag q p = Empty q
tag_by EndTag q p = TagFault p
tag_by Text q p = TagFault p
tag_by Reference q p = TagFault p
tag_by Comment q p = TagFault p
tag_by Data q p = TagFault p
tag_by Instruction q p = TagFault p
tag_by End q p = TagFault q
tag_by AFault q p = TagFault q

unfoldable pub tag_of : Markup → ℕ → Tag
tag_of m p = tag_by m.sort m.next p

-- goes on from the place that was reached; a fault stays
unfoldable pub go_on : Reached → (ℕ → Reached) → Reached
go_on (Ok q) on = on q
go_on (Err q) on = Err q

unfoldable pub by_tag : Tag → (ℕ → Reached) → Reached
by_tag (Open q) content = content q
by_tag (Empty q) content = Ok q
by_tag (TagFault q) content = fault_at q

-- an element at p, where `content` skips the content of the element at a place, from a place on, at a depth
unfoldable pub element_by : (ℕ → ℕ → ℕ → Reached) → Bytes → ℕ → ℕ → Reached
element_by content t p d = if eqb d 0 then fault_at p or_else by_tag (tag_of (markup t p) p) (λ q. content p q (d - 1))

unfoldable pub by_part : Part → Reached → (ℕ → Reached) → Reached
by_part Element element content = go_on element content
by_part (Close q) element content = Ok q
by_part (On q) element content = content q
by_part (PartFault q) element content = fault_at q

-- content from p on, of the element at `outer`
unfoldable pub content_by : (ℕ → ℕ → ℕ → Reached) → Bytes → ℕ → ℕ → ℕ → Reached
content_by content t outer p d =
    if leb (length t) p then fault_at (length t)
    or_else by_part (part_at t outer p) (element_by content t p d) (λ q. content outer q d)

-- the same, in n steps at most
unfoldable pub content_in : ℕ → Bytes → ℕ → ℕ → ℕ → Reached
content_in zero t outer p d = fault_at (length t)
content_in (suc n) t outer p d = content_by (content_in n t) t outer p d

-- each step passes a byte, so the text's length is enough steps
unfoldable pub content_at : Bytes → ℕ → ℕ → ℕ → Reached
content_at t outer p d = content_in (length t) t outer p d

unfoldable pub element_at : Bytes → ℕ → ℕ → Reached
element_at t p d = element_by (content_at t) t p d

unfoldable pub skipped : Bytes → ℕ → Reached
skipped t p = element_at t p depth
