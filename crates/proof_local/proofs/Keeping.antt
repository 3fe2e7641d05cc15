-- A READER OF A LOG KEEPS STANDING: what the law of one move asks of its cursor holds again behind a move, at any n that the move's place is not behind. Assumes nothing.
use Rattle.std.specs.Prelude.{Option, Some, None, Ok, Err}
use mathlib.Core.Path.{◌≡◌, ◌∙◌, refl, sym, subst}
use mathlib.Core.Bool.{Bool, true, false}
use mathlib.Core.List.{List}
use Prim.Native.Nat.{ℕ, ◌+◌, ◌-◌, ◌<◌, ◌≤◌}
use native.Mathlib.Omega.{arith}
use lib.Dec.{eqb, leb}
use lib.ListN.{length, take}
use borrow.Author.Tests.{lt-ltb, le-ltb}
use Rattle.base_words.specs.Pick.{if◌then◌or_else◌}
use Rattle.base_words.specs.Text.{bytes}
use Rattle.base_words.specs.Words.{at, part}
use Rattle.base_bytes.proofs.PieceLaws.{by_order}
use Rattle.base_bytes.specs.Bytes.{same_bytes}
use Rattle.log_lines.specs.Entries.{entry_of}
use Rattle.xml_markup.specs.declared.Class.TheVariants.{Blanks}
use Rattle.xml_markup.specs.declared.Opener.{Opener}
use Rattle.xml_markup.specs.declared.Opener.TheVariants.{Start, End as EndOpener, Other}
use Rattle.xml_markup.specs.Markup.{markup}
use Rattle.xml_markup.specs.Spans.{run, after, is_called, attribute, opener, name_at}
use Rattle.xml_skip.specs.declared.Tag.{Tag}
use Rattle.xml_skip.specs.declared.Tag.TheVariants.{Open, Empty, Fault as TagFault}
use Rattle.xml_skip.specs.Skipping.{tag_of, skipped, Reached}
use Rattle.xml_skip.proofs.Laws.{Behind, tag_behind, Within, tag_within}
use Rattle.log_text.specs.declared.Inside.{Inside}
use Rattle.log_text.specs.declared.Inside.TheVariants.{Element, Close, On as Onward, Fault as InsideFault}
use Rattle.log_text.specs.declared.Level.{Level}
use Rattle.log_text.specs.declared.Level.TheVariants.{Log, Trace, Event}
use Rattle.log_text.specs.declared.Cursor.{Cursor}
use Rattle.log_text.specs.declared.Move.{Move}
use Rattle.log_text.specs.declared.Move.TheVariants.{On, Done, Fault}
use Rattle.log_text.specs.Inside.{ends_at, closing, between, inside_at}
use Rattle.log_text.specs.Cursors.{reached, named, tag_by, lacks_by}
use Rattle.log_text.specs.Logs.{over, over_named, line_by, name_by, string_by, string_at, trace_by, event_by, is_of_log, other_at, entered_by, left_by, by_inside, advance}
use Rattle.log_text.proofs.Laws.{Beyond, advance_beyond}
use Rattle.xml_skip.specs.declared.Part.{Part}
use Rattle.xml_skip.specs.declared.Part.TheVariants.{Element as PartElement, Close as PartClose, On as PartOn, Fault as PartFault}
use Rattle.xml_skip.specs.Skipping.{part_at}
use Rattle.xml_scanner.specs.declared.Sort.{Sort}
use Rattle.xml_scanner.specs.declared.Sort.TheVariants.{StartTag, EmptyTag, EndTag, Text, Reference, Comment, Data, Instruction, End, Fault as AFault}
use Rattle.xml_document.specs.declared.Outside.{Outside}
use Rattle.xml_document.specs.declared.Outside.TheVariants.{Element as OutsideElement, On as OutsideOn, Nothing, Fault as OutsideFault}
use Rattle.xml_document.specs.Document.{other_by, other_of, opens_data, tag_for, tag_at, outside_at}
use Rattle.proof_local.proofs.SameMoves.{Stands}
use Rattle.proof_local.proofs.Markups.{late_of, markup_cut}
use Rattle.proof_local.proofs.BrokenNames.{broken_name, start_opens}
use Rattle.proof_local.proofs.Parts.{EarlyTag, LateTag, tag_late, tag_inside}
use Rattle.proof_local.proofs.Skips.{Late as LateSkip, skipped_late}
use Rattle.proof_local.proofs.Attributes.{Short, WholeTag, attribute_alike}

-- A TAG'S NAME ends before the tag does
name_in : (t : List ℕ) (p q : ℕ) → opener t p ≡ Start → p < q → q ≤ length t → (LateTag q (tag_of (markup t p) p) → ⊥) → (name_at t p).to < q
name_in t p q o h k late =
    by_order q (name_at t p).to
    (λ c. absurd (late (tag_late t q p (late_of q (markup t p) (markup (take q t) p) (markup_cut t q k p h) (broken_name t q k p h c (rw o refl))))))
    (λ c. c)

-- the tag at o is open: it is before q, and so is the end of its name
pub record OpenTag (t : List ℕ) (o q : ℕ) : Type 0 where
  pub stands : o < q
  pub name : (name_at t o).to < q
  pub opens : opener t o ≡ Start

further : (t : List ℕ) (o p q : ℕ) → p ≤ q → OpenTag t o p → OpenTag t o q
further t o p q h k = record { stands = omega (arith, h, k.stands); name = omega (arith, h, k.name); opens = k.opens }

-- the tags that are open at a level
abbrev pub OpenTags : List ℕ → Cursor → Level → ℕ → Type 0
OpenTags t c Log q = OpenTag t c.log q
OpenTags t c Trace q = OpenTag t c.log q × OpenTag t c.trace q
OpenTags t c Event q = OpenTag t c.log q × (OpenTag t c.trace q × OpenTag t c.event q)

-- what holds of a reader that has come to its place
pub record Kept (t : List ℕ) (c : Cursor) : Type 0 where
  pub few : c.events < c.at
  pub line : c.to ≤ c.at
  pub tags : OpenTags t c c.level c.at

-- THE INNERMOST ONE is what the law of one move asks of
pub innermost : (t : List ℕ) (c : Cursor) (l : Level) (q : ℕ) → OpenTags t c l q → OpenTag t (tag_by l c) q
unfolding tag_by
innermost t c Log q k = k
innermost t c Trace q k = k.1
innermost t c Event q k = k.1.1

-- a start tag that is whole opens its element
pub opened_tag : (t : List ℕ) (p q : ℕ) (g : Tag) → g ≡ tag_of (markup t p) p → opener t p ≡ Start → g ≡ Open q → OpenTag t p q
opened_tag t p q g eg o e = record { stands = ahead; name = name_in t p q o ahead within (λ l. omega (arith, subst (LateTag q) (sym eg ∙ e) l)); opens = o }
  where
    ahead : p < q
    ahead = subst (Behind p) (sym eg ∙ e) (tag_behind t p)

    within : q ≤ length t
    within = subst (Within (length t)) (sym eg ∙ e) (tag_within t p)

-- WHAT A VALUE IS IN ends no earlier than the value
abbrev EndsBy : ℕ → Reached → Type 0
EndsBy n (Ok q) = n ≤ q
EndsBy n (Err q) = Unit {0}

abbrev ValueBy : Option (ℕ × ℕ) → Reached → Type 0
ValueBy (Some (from, to)) r = EndsBy to r
ValueBy None r = Unit {0}

abbrev end_of : Tag → ℕ
end_of (Open q) = q
end_of (Empty q) = q
end_of (TagFault q) = 0

late_end : (q : ℕ) (g : Tag) → 0 < q → end_of g ≡ q → LateTag (q - 1) g
late_end q (Open r) h e = omega (arith, e)
late_end q (Empty r) h e = omega (arith, e)
late_end q (TagFault r) h e = tt

ahead_of : (p q : ℕ) (g : Tag) → WholeTag q g → end_of g ≡ q → Behind p g → p < q
ahead_of p q (Open r) w e b = omega (arith, e, b)
ahead_of p q (Empty r) w e b = omega (arith, e, b)
ahead_of p q (TagFault r) w e b = absurd w

inside_of : (n q : ℕ) (g : Tag) → WholeTag q g → end_of g ≡ q → EarlyTag n g → q ≤ n
inside_of n q (Open r) w e b = omega (arith, e, b)
inside_of n q (Empty r) w e b = omega (arith, e, b)
inside_of n q (TagFault r) w e b = absurd w

ends_by : (q : ℕ) (r : Reached) → LateSkip (q - 1) r → EndsBy q r
ends_by q (Ok x) l = omega (arith, l)
ends_by q (Err x) l = tt

value_by : (q : ℕ) (a : Option (ℕ × ℕ)) (r : Reached) → Short q a → EndsBy q r → ValueBy a r
value_by q (Some (from, to)) (Ok x) s e = omega (arith, s, e)
value_by q (Some (from, to)) (Err x) s e = tt
value_by q None r s e = tt

value_ends : (t : List ℕ) (p : ℕ) → opener t p ≡ Start → (q : ℕ) (g : Tag) → g ≡ tag_of (markup t p) p → WholeTag q g → end_of g ≡ q → ValueBy (attribute t p (bytes "value")) (skipped t p)
value_ends t p o q g eg w e =
    value_by q (attribute t p (bytes "value")) (skipped t p) (attribute_alike t q within p ahead (start_opens t p o) (subst (WholeTag q) eg w) (bytes "value")).short
    (ends_by q (skipped t p) (skipped_late t (q - 1) (omega (arith, within)) p (subst (LateTag (q - 1)) eg (late_end q g (omega (arith, ahead)) e))))
  where
    ahead : p < q
    ahead = ahead_of p q g w e (subst (Behind p) (sym eg) (tag_behind t p))

    within : q ≤ length t
    within = inside_of (length t) q g w e (subst (EarlyTag (length t)) (sym eg) (tag_inside t p))

-- ONLY A START TAG is an element
abbrev pub Begins : List ℕ → Outside → Type 0
Begins t (OutsideElement p) = opener t p ≡ Start
Begins t (OutsideOn q) = Unit {0}
Begins t Nothing = Unit {0}
Begins t (OutsideFault q) = Unit {0}

abbrev Starts : List ℕ → Inside → Type 0
Starts t (Element p) = opener t p ≡ Start
Starts t (Close q) = Unit {0}
Starts t (Onward q) = Unit {0}
Starts t (InsideFault q) = Unit {0}

begins_if : (t : List ℕ) (b : Bool) (x y : Outside) → Begins t x → Begins t y → Begins t (if b then x or_else y)
unfolding if◌then◌or_else◌
begins_if t true x y h k = h
begins_if t false x y h k = k

starts_if : (t : List ℕ) (b : Bool) (x y : Inside) → Starts t x → Starts t y → Starts t (if b then x or_else y)
unfolding if◌then◌or_else◌
starts_if t true x y h k = h
starts_if t false x y h k = k

other_begins : (t : List ℕ) (s : Sort) (q p : ℕ) → Begins t (other_by s q p)
unfolding other_by
other_begins t StartTag q p = tt
other_begins t EmptyTag q p = tt
other_begins t EndTag q p = tt
other_begins t Text q p = tt
other_begins t Reference q p = tt
other_begins t Comment q p = tt
other_begins t Data q p = tt
other_begins t Instruction q p = tt
other_begins t End q p = tt
other_begins t AFault q p = tt

of_other : (t : List ℕ) (p : ℕ) → Begins t (other_of (markup t p) p)
unfolding other_of
of_other t p = other_begins t (markup t p).sort (markup t p).next p

tag_begins : (t : List ℕ) (p : ℕ) (o : Opener) → opener t p ≡ o → Begins t (tag_for o t p)
unfolding tag_for
tag_begins t p Start e = e
tag_begins t p EndOpener e = tt
tag_begins t p Other e = begins_if t (opens_data t p) (OutsideFault p) (other_of (markup t p) p) tt (of_other t p)

pub outside_begins : (t : List ℕ) (p : ℕ) → Begins t (outside_at t p)
unfolding outside_at tag_at
outside_begins t p =
    begins_if t (leb (length t) p) Nothing _ tt
    (begins_if t (eqb (at t p) 60) (tag_for (opener t p) t p) _ (tag_begins t p (opener t p) refl) (begins_if t (eqb (at t p) 38) (other_of (markup t p) p) (OutsideFault p) (of_other t p) tt))

closing_starts : (t : List ℕ) (g : Part) (p : ℕ) → Starts t (closing g p)
unfolding closing
closing_starts t PartElement p = tt
closing_starts t (PartClose q) p = tt
closing_starts t (PartOn q) p = tt
closing_starts t (PartFault q) p = tt

between_starts : (t : List ℕ) (o : Outside) (e : ℕ) → Begins t o → Starts t (between o e)
unfolding between
between_starts t (OutsideElement p) e h = h
between_starts t (OutsideOn q) e h = tt
between_starts t Nothing e h = tt
between_starts t (OutsideFault q) e h = tt

inside_starts : (t : List ℕ) (b : Bool) (outer p : ℕ) → Starts t (inside_at b t outer p)
unfolding inside_at
inside_starts t b outer p =
    starts_if t (ends_at (opener t p)) _ (between (outside_at t p) (length t))
    (starts_if t b (InsideFault p) (closing (part_at t outer p) p) tt (closing_starts t (part_at t outer p) p))
    (between_starts t (outside_at t p) (length t) (outside_begins t p))

-- A MOVE
abbrev Keeps : List ℕ → Cursor → Move → Type 0
Keeps t c (On d) = c.at < d.at → Kept t d
Keeps t c (Done d) = Unit {0}
Keeps t c (Fault q) = Unit {0}

keeps_if : (t : List ℕ) (c : Cursor) (b : Bool) (x y : Move) → Keeps t c x → Keeps t c y → Keeps t c (if b then x or_else y)
unfolding if◌then◌or_else◌
keeps_if t c true x y h k = h
keeps_if t c false x y h k = k

tags_on : (t : List ℕ) (c : Cursor) (l : Level) (p q : ℕ) → p ≤ q → OpenTags t c l p → OpenTags t c l q
tags_on t c Log p q h k = further t c.log p q h k
tags_on t c Trace p q h k = (further t c.log p q h k.0, further t c.trace p q h k.1)
tags_on t c Event p q h k = (further t c.log p q h k.0, (further t c.trace p q h k.1.0, further t c.event p q h k.1.1))

outermost : (t : List ℕ) (c : Cursor) (l : Level) (q : ℕ) → OpenTags t c l q → OpenTag t c.log q
outermost t c Log q k = k
outermost t c Trace q k = k.0
outermost t c Event q k = k.0

same_tags : (t : List ℕ) (c : Cursor) (r : ℕ) (l : Level) (q : ℕ) → OpenTags t c l q → OpenTags t (reached c r) l q
same_tags t c r Log q k = k
same_tags t c r Trace q k = k
same_tags t c r Event q k = k

line_tags : (t : List ℕ) (c : Cursor) (from to r : ℕ) (l : Level) (q : ℕ) → OpenTags t c l q → OpenTags t (named c from to r) l q
line_tags t c from to r Log q k = k
line_tags t c from to r Trace q k = k
line_tags t c from to r Event q k = k

after_most : (t : List ℕ) (i : ℕ) → after t i ≤ i + 1
unfolding after if◌then◌or_else◌
after_most t i = by_order (length t) i (λ h. rw (le-ltb i (length t) h) (omega arith)) (λ h. rw (lt-ltb i (length t) h) (omega arith))

module _ (t : List ℕ) (c : Cursor) (k : Kept t c) where
  over_keeps : (r : Reached) → Keeps t c (over r c)
  unfolding over
  over_keeps (Ok q) = λ h. record { few = omega (arith, h, k.few); line = omega (arith, h, k.line); tags = same_tags t c q c.level q (tags_on t c c.level c.at q (omega arith) k.tags) }
  over_keeps (Err q) = tt

  named_keeps : (r : Reached) (from to : ℕ) → EndsBy to r → Keeps t c (over_named r c from to)
  unfolding over_named
  named_keeps (Ok q) from to b = λ h. record { few = omega (arith, h, k.few); line = b; tags = line_tags t c from to q c.level q (tags_on t c c.level c.at q (omega arith) k.tags) }
  named_keeps (Err q) from to b = tt

  trace_keeps : (p : ℕ) (g : Tag) → g ≡ tag_of (markup t p) p → opener t p ≡ Start → Keeps t c (trace_by g c p)
  unfolding trace_by
  trace_keeps p (Open q) e o = λ h. record { few = omega (arith, h, k.few); line = omega (arith, h, k.line); tags = (further t c.log c.at q (omega arith) (outermost t c c.level c.at k.tags), opened_tag t p q (Open q) e o refl) }
  trace_keeps p (Empty q) e o = λ h. record { few = omega (arith, h, k.few); line = omega (arith, h, k.line); tags = further t c.log c.at q (omega arith) (outermost t c c.level c.at k.tags) }
  trace_keeps p (TagFault q) e o = tt

  event_keeps : (p : ℕ) (g : Tag) → g ≡ tag_of (markup t p) p → opener t p ≡ Start → OpenTags t c Trace c.at → Keeps t c (event_by g c p)
  unfolding event_by
  event_keeps p (Open q) e o s = λ h. record { few = omega (arith, h, k.few); line = omega arith; tags = (further t c.log c.at q (omega arith) s.0, (further t c.trace c.at q (omega arith) s.1, opened_tag t p q (Open q) e o refl)) }
  event_keeps p (Empty q) e o s = tt
  event_keeps p (TagFault q) e o s = tt

  line_keeps : (p : ℕ) (a : Option (ℕ × ℕ)) (end : ℕ) → ValueBy a (skipped t p) → Keeps t c (line_by a t c p end)
  unfolding line_by
  line_keeps p (Some (from, to)) end b = keeps_if t c (entry_of (part t from to)).right (over_named (skipped t p) c from to) (Fault (from - 1)) (named_keeps (skipped t p) from to b) tt
  line_keeps p None end b = tt

  name_keeps : (p : ℕ) (a : Option (ℕ × ℕ)) (end : ℕ) → ValueBy (attribute t p (bytes "value")) (skipped t p) → Keeps t c (name_by a t c p end)
  unfolding name_by
  name_keeps p (Some (from, to)) end b =
      keeps_if t c (same_bytes (part t from to) (bytes "concept:name")) _ (over (skipped t p) c)
      (keeps_if t c (eqb c.to 0) (line_by (attribute t p (bytes "value")) t c p end) (Fault (from - 1)) (line_keeps p (attribute t p (bytes "value")) end b) tt)
      (over_keeps (skipped t p))
  name_keeps p None end b = over_keeps (skipped t p)

  string_keeps : (p : ℕ) → opener t p ≡ Start → (g : Tag) → g ≡ tag_of (markup t p) p → Keeps t c (string_by g t c p)
  unfolding string_by
  string_keeps p o (Open q) e = name_keeps p (attribute t p (bytes "key")) (q - 1) (value_ends t p o q (Open q) e (omega arith) refl)
  string_keeps p o (Empty q) e = name_keeps p (attribute t p (bytes "key")) (q - 2) (value_ends t p o q (Empty q) e (omega arith) refl)
  string_keeps p o (TagFault q) e = tt

  other_keeps : (p : ℕ) → Keeps t c (other_at t c p)
  unfolding other_at
  other_keeps p = keeps_if t c (is_of_log t p) (Fault p) (over (skipped t p) c) tt (over_keeps (skipped t p))

  entered_keeps : (p : ℕ) → opener t p ≡ Start → (l : Level) → OpenTags t c l c.at → Keeps t c (entered_by l t c p)
  unfolding entered_by string_at
  entered_keeps p o Log s = keeps_if t c (is_called t p (bytes "trace")) _ (other_at t c p) (keeps_if t c (eqb c.opened 0) (trace_by (tag_of (markup t p) p) c p) (Fault p) (trace_keeps p (tag_of (markup t p) p) refl o) tt) (other_keeps p)
  entered_keeps p o Trace s = keeps_if t c (is_called t p (bytes "event")) (event_by (tag_of (markup t p) p) c p) (other_at t c p) (event_keeps p (tag_of (markup t p) p) refl o s) (other_keeps p)
  entered_keeps p o Event s = keeps_if t c (is_called t p (bytes "string")) (string_by (tag_of (markup t p) p) t c p) (other_at t c p) (string_keeps p o (tag_of (markup t p) p) refl) (other_keeps p)

  left_keeps : (l : Level) (q : ℕ) → OpenTags t c l c.at → Keeps t c (left_by l t c q)
  unfolding left_by
  left_keeps Log q s = tt
  left_keeps Trace q s = λ h. record { few = omega (arith, h, k.few); line = omega (arith, h, k.line); tags = further t c.log c.at q (omega arith) s.0 }
  left_keeps Event q s = λ h. record { few = omega (arith, h, k.few, after_most t c.events); line = omega (arith, h, k.line); tags = (further t c.log c.at q (omega arith) s.0, further t c.trace c.at q (omega arith) s.1.0) }

  inside_keeps : (g : Inside) → Starts t g → Keeps t c (by_inside g t c)
  unfolding by_inside
  inside_keeps (Element p) s = entered_keeps p s c.level k.tags
  inside_keeps (Close q) s = left_keeps c.level q k.tags
  inside_keeps (Onward q) s = λ h. record { few = omega (arith, h, k.few); line = omega (arith, h, k.line); tags = same_tags t c q c.level q (tags_on t c c.level c.at q (omega arith) k.tags) }
  inside_keeps (InsideFault q) s = tt

  advance_keeps : Keeps t c (advance t c)
  unfolding advance
  advance_keeps = inside_keeps (inside_at (lacks_by c.level c) t (tag_by c.level c) (run Blanks t c.at)) (inside_starts t (lacks_by c.level c) (tag_by c.level c) (run Blanks t c.at))

  -- THE LAWS: it is kept, and it is what the law of one move asks
  pub kept_on : (d : Cursor) → advance t c ≡ On d → Kept t d
  kept_on d e = subst (Keeps t c) e advance_keeps (subst (Beyond c.at) e (advance_beyond t c))

  pub kept_stands : (n : ℕ) → n ≤ length t → c.at ≤ n → Stands t n c
  kept_stands n i h = let o = innermost t c c.level c.at k.tags in record { inside = i; before = h; few = omega (arith, h, k.few); tag = omega (arith, h, o.stands); name = omega (arith, h, o.name) }
