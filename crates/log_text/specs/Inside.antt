-- "Directly in log, trace and event only blanks, comments and instructions may stand between elements (no text, references or CDATA), as outside the root." (RULES: logs)
use Rattle.std.specs.Prelude.{ℕ, Bool, true, false, List, length}
use Rattle.base_words.specs.Blocks.{Bytes}
use Rattle.base_words.specs.Pick.{if◌then◌or_else◌}
use Rattle.xml_markup.specs.declared.Opener.{Opener}
use Rattle.xml_markup.specs.declared.Opener.TheVariants.{Start, End, Other}
use Rattle.xml_markup.specs.Spans.{opener}
use Rattle.xml_skip.specs.declared.Part.{Part}
use Rattle.xml_skip.specs.declared.Part.TheVariants.{Element as PartElement, Close as PartClose, On as PartOn, Fault as PartFault}
use Rattle.xml_skip.specs.Skipping.{part_at}
use Rattle.xml_document.specs.declared.Outside.{Outside}
use Rattle.xml_document.specs.declared.Outside.TheVariants.{Element as OutsideElement, On as Onward, Nothing, Fault as OutsideFault}
use Rattle.xml_document.specs.Document.{outside_at}
use Rattle.log_text.specs.declared.Inside.{Inside}
use Rattle.log_text.specs.declared.Inside.TheVariants.{Element, Close, On, Fault}

unfoldable pub ends_at : Opener → Bool
ends_at Start = false
ends_at End = true
ends_at Other = false

-- a whole `</`name: the end tag of the element whose tag is at `outer`, or a fault
unfoldable pub closing : Part → ℕ → Inside
closing PartElement p = Fault p
closing (PartClose q) p = Close q
closing (PartOn q) p = Fault p
closing (PartFault q) p = Fault q

unfoldable pub between : Outside → ℕ → Inside
between (OutsideElement p) e = Element p
between (Onward q) e = On q
between Nothing e = Fault e
between (OutsideFault q) e = Fault q

-- at p, no blank first, in the element whose tag is at `outer`; "an event or a log that ends without what it needs: the `<` of its end tag" (RULES: logs)
unfoldable pub inside_at : Bool → Bytes → ℕ → ℕ → Inside
inside_at lacking t outer p =
    if ends_at (opener t p) then (if lacking then Fault p or_else closing (part_at t outer p) p)
    or_else between (outside_at t p) (length t)
