-- ONE WALK THROUGH A DRAWING, from left to right, that stops at the first fault of the XML text (20) and notes what is drawn on the way. "An element that is not read into is skipped whole" (R11a). (RULES: skipping)
use Rattle.std.specs.Prelude.{ℕ, zero, suc, Bool, true, false, ◌&&◌, List, ltb, leb, eqb, length, Option, Some, None, Ok, Err}
use Rattle.base_words.specs.Blocks.{Bytes, Drawing}
use Rattle.base_words.specs.Pick.{if◌then◌or_else◌}
use Rattle.base_words.specs.Text.{bytes}
use Rattle.base_words.specs.Words.{part}
use Rattle.text_numerals.specs.declared.Number.{Number}
use Rattle.text_numerals.specs.declared.Number.TheVariants.{Value, TooLarge, NotANumber}
use Rattle.text_numerals.specs.Numerals.{number_of}
use Rattle.xml_markup.specs.Markup.{markup}
use Rattle.xml_markup.specs.Spans.{attribute}
use Rattle.xml_skip.specs.declared.Part.{Part}
use Rattle.xml_skip.specs.declared.Part.TheVariants.{Element, Close, On, Fault as PartFault}
use Rattle.xml_skip.specs.declared.Tag.{Tag}
use Rattle.xml_skip.specs.declared.Tag.TheVariants.{Open, Empty, Fault as TagFault}
use Rattle.xml_skip.specs.Skipping.{part_at, tag_of, skipped, Reached, fault_at}
use Rattle.xml_document.specs.Around.{root_at, last_from}
use Rattle.draw_things.specs.Things.{nothing, definitions, participant_multiplicity, condition_expression, stranger, one_more, added}
use Rattle.draw_things.specs.Names.{named_at, drawn_as}
use Rattle.draw_walk.specs.declared.Walked.{Walked}
use Rattle.draw_walk.specs.declared.Outer.{Outer}

-- where a walk is: the place reached, or that of the fault; how many things it has met; their words
pub record Walk : Type 0 where
  pub end : Reached
  pub count : ℕ
  pub words : List ℕ

unfoldable pub walk_told : Walked → Drawing → Walk
walk_told r w = record { end = r.end; count = r.count; words = w }

abbrev pub walked : Reached → ℕ → Walked
walked e n = record { end = e; count = n }

-- "`maximum` of a participant's participantMultiplicity is a number of 01's notation (no sign, blank, leading zero, reference), else 20 at the value's first byte, judged when the value is whole" (R11):
-- when the markup is not at fault up to the value's end (RULES: xml)
unfoldable pub is_number : Number → Bool
is_number (Value v) = true
is_number TooLarge = true
is_number NotANumber = false

unfoldable pub judged : Bytes → ℕ → ℕ → ℕ → Reached
judged t p from to =
    if is_number (number_of (part t from to)) then skipped t p
    or_else if leb (markup t p).next to then skipped t p
    or_else fault_at from

unfoldable pub multiplicity_by : Option (ℕ × ℕ) → Bytes → ℕ → Reached
multiplicity_by (Some (from, to)) t p = judged t p from to
multiplicity_by None t p = skipped t p

unfoldable pub multiplicity : Bytes → ℕ → Reached
multiplicity t p = multiplicity_by (attribute t p (bytes "maximum")) t p

-- "The same holds for elements of 21 and for the four read from their tag or text alone (participantMultiplicity, the two event definitions, conditionExpression)" (R11a) (RULES: skipping)
unfoldable pub is_passed : ℕ → Bool
is_passed s = if eqb s participant_multiplicity then true or_else leb condition_expression s && leb s stranger

unfoldable pub passed : ℕ → Bytes → ℕ → Reached
passed s t p = if eqb s participant_multiplicity then multiplicity t p or_else skipped t p

unfoldable pub tag_from : Reached → Tag
tag_from (Ok q) = Empty q
tag_from (Err q) = TagFault q.place

-- an element of the sort s at p: where its content begins, or the place behind it
unfoldable pub entered : ℕ → Bytes → ℕ → Tag
entered s t p =
    if eqb s nothing then tag_from (skipped t p)
    or_else if is_passed s then tag_from (passed s t p)
    or_else tag_of (markup t p) p

-- it is noted where it is a thing: at p, within thing k, after n things
unfoldable pub noted : ℕ → ℕ → ℕ → Drawing → ℕ → Drawing
noted s p k w n = if eqb s nothing then w or_else added s p k w n

unfoldable pub counted : ℕ → ℕ → ℕ
counted s n = if eqb s nothing then n or_else one_more n

abbrev pub outer : ℕ → ℕ → ℕ → Outer
outer s k p = record { sort = s; thing = k; tag = p }

-- what walks content: of an element, from a place on, with the words and the count so far
abbrev pub Content : Type 0
Content = Outer → ℕ → List ℕ → ℕ → Walk

unfoldable pub by_tag : Tag → (ℕ → Walk) → Drawing → ℕ → Walk
by_tag (Open q) content w n = content q
by_tag (Empty q) content w n = walk_told (walked (Ok q) n) w
by_tag (TagFault q) content w n = walk_told (walked (fault_at q) n) w

-- How an element is walked depends on its name and where it stands, s, not on its attributes: by them it may draw another one, d, and that is noted. (RULES: skipping)
unfoldable pub thing_by : Content → ℕ → ℕ → Bytes → ℕ → ℕ → Drawing → ℕ → Walk
thing_by content s d t k p w n = by_tag (entered s t p) (λ q. content (outer s n p) q (noted d p k w n) (counted d n)) (noted d p k w n) (counted d n)

-- goes on from the place that was reached; a fault stays
unfoldable pub by_end : {A : Type 0} → Reached → (ℕ → A) → A → A
by_end (Ok q) on r = on q
by_end (Err q) on r = r

unfoldable pub walk_on : Walk → (ℕ → Drawing → ℕ → Walk) → Walk
walk_on r on = by_end r.end (λ q. on q r.words r.count) r

unfoldable pub by_part : Part → Walk → (ℕ → Drawing → ℕ → Walk) → Drawing → ℕ → Walk
by_part Element element content w n = walk_on element content
by_part (Close q) element content w n = walk_told (walked (Ok q) n) w
by_part (On q) element content w n = content q w n
by_part (PartFault q) element content w n = walk_told (walked (fault_at q) n) w

-- content of the element o, from p on
unfoldable pub content_by : Content → Bytes → Outer → ℕ → Drawing → ℕ → Walk
content_by content t o p w n =
    if leb (length t) p then walk_told (walked (fault_at (length t)) n) w
    or_else by_part (part_at t o.tag p) (thing_by content (named_at o.sort t p) (drawn_as (named_at o.sort t p) o.sort t p) t o.thing p w n) (content o) w n

-- the same, in m steps at most
unfoldable pub content_in : ℕ → Bytes → Content
content_in zero t o p w n = walk_told (walked (fault_at (length t)) n) w
content_in (suc m) t o p w n = content_by (content_in m t) t o p w n

-- each step passes a byte, so the text's length is enough steps
unfoldable pub content_at : Bytes → Content
content_at t o p w n = content_in (length t) t o p w n

unfoldable pub thing_at : ℕ → ℕ → Bytes → ℕ → ℕ → Drawing → ℕ → Walk
thing_at s d t k p w n = thing_by (content_at t) s d t k p w n

unfoldable pub walk : Bytes → Drawing → Walk
walk t w =
    by_end (root_at (bytes "definitions") t)
    (λ p. walk_on (thing_at definitions definitions t 0 p w 0) (λ q v n. walk_told (walked (last_from t q) n) v))
    (walk_told (walked (root_at (bytes "definitions") t) 0) w)
