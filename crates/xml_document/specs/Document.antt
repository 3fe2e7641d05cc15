-- "Outside the root only blanks (space, tab, CR, LF), comments, instructions; anything else is 20 there" (R9). A whole `</`name or `<![CDATA[` is at fault whatever follows it. (RULES: xml)
use Prim.Native.Char.{code}
use Rattle.std.specs.Prelude.{ℕ, zero, suc, Bool, leb, eqb, length}
use Rattle.base_words.specs.Blocks.{Bytes}
use Rattle.base_words.specs.Pick.{if◌then◌or_else◌}
use Rattle.base_words.specs.Text.{bytes}
use Rattle.base_words.specs.Words.{at}
use Rattle.xml_scanner.specs.declared.Sort.{Sort}
use Rattle.xml_scanner.specs.declared.Sort.TheVariants.{StartTag, EmptyTag, EndTag, Text, Reference, Comment, Data, Instruction, End, Fault as AFault}
use Rattle.xml_markup.specs.declared.Class.TheVariants.{Blanks}
use Rattle.xml_markup.specs.declared.Markup.{Markup}
use Rattle.xml_markup.specs.declared.Opener.{Opener}
use Rattle.xml_markup.specs.declared.Opener.TheVariants.{Start, End as EndOpener, Other}
use Rattle.xml_markup.specs.Markup.{begins_at, markup}
use Rattle.xml_markup.specs.Spans.{run, opener}
use Rattle.xml_document.specs.declared.Outside.{Outside}
use Rattle.xml_document.specs.declared.Outside.TheVariants.{Element, On, Nothing, Fault}

-- what is no tag: comments and instructions are passed
unfoldable pub other_by : Sort → ℕ → ℕ → Outside
other_by StartTag q p = Fault p
other_by EmptyTag q p = Fault p
other_by EndTag q p = Fault p
other_by Text q p = Fault p
other_by Reference q p = Fault p
other_by Comment q p = On q
other_by Data q p = Fault p
other_by Instruction q p = On q
other_by End q p = Fault p
other_by AFault q p = Fault q

unfoldable pub other_of : Markup → ℕ → Outside
other_of m p = other_by m.sort m.next p

unfoldable pub opens_data : Bytes → ℕ → Bool
opens_data t p = begins_at t p (bytes "<![CDATA[")

unfoldable pub tag_for : Opener → Bytes → ℕ → Outside
tag_for Start t p = Element p
tag_for EndOpener t p = Fault p
tag_for Other t p = if opens_data t p then Fault p or_else other_of (markup t p) p

unfoldable pub tag_at : Bytes → ℕ → Outside
tag_at t p = tag_for (opener t p) t p

-- at p, no blank first
unfoldable pub outside_at : Bytes → ℕ → Outside
outside_at t p =
    if leb (length t) p then Nothing
    or_else if eqb (at t p) (code "<") then tag_at t p
    or_else if eqb (at t p) (code "&") then other_of (markup t p) p
    or_else Fault p

unfoldable pub further : Outside → (ℕ → Outside) → Outside
further (Element p) on = Element p
further (On q) on = on q
further Nothing on = Nothing
further (Fault q) on = Fault q

-- from p on, in n steps at most; each passes a byte, so the text's length is enough
unfoldable pub outside_in : ℕ → Bytes → ℕ → Outside
outside_in zero t p = Nothing
outside_in (suc n) t p = further (outside_at t (run Blanks t p)) (outside_in n t)

unfoldable pub outside : Bytes → ℕ → Outside
outside t p = outside_in (length t) t p
