-- What is known of the events' lines: each is an entry, and there are as many as events were counted. Assumes nothing.
use Rattle.std.specs.Prelude.{Option, Some, None, Ok, Err}
use mathlib.Core.Path.{◌≡◌, ◌∙◌, refl, sym, ap}
use mathlib.Core.Bool.{Bool, true, false, false≢true}
use mathlib.Core.List.{List, [], ◌∷◌}
use Prim.Native.Nat.{ℕ, zero, suc, ◌+◌, ◌-◌, ◌<◌, ◌≤◌}
use native.Mathlib.Omega.{arith}
use lib.Dec.{eqb, leb, ltb}
use lib.ListN.{length}
use borrow.Author.Tests.{leb-true, leb-false, lt-ltb}
use Rattle.base_words.specs.Each.{each}
use Rattle.base_words.specs.Pick.{if◌then◌or_else◌}
use Rattle.base_words.specs.Text.{bytes}
use Rattle.base_words.specs.Words.{part}
use Rattle.base_words.proofs.PickLaws.{and_true}
use Rattle.base_bytes.specs.Bytes.{same_bytes}
use Rattle.xml_markup.specs.declared.Class.TheVariants.{Blanks}
use Rattle.xml_markup.specs.Markup.{markup}
use Rattle.xml_markup.specs.Spans.{run, after, opener, is_called, attribute}
use Rattle.xml_skip.specs.declared.Tag.{Tag}
use Rattle.xml_skip.specs.declared.Tag.TheVariants.{Open, Empty, Fault as TagFault}
use Rattle.xml_skip.specs.Skipping.{part_at, tag_of, skipped, Reached, fault_at}
use Rattle.xml_document.specs.declared.Outside.{Outside}
use Rattle.xml_document.specs.declared.Outside.TheVariants.{Element as OutsideElement, On as OutsideOn, Nothing, Fault as OutsideFault}
use Rattle.xml_document.specs.Document.{outside_at}
use Rattle.xml_document.specs.Around.{root_at, last_from}
use Rattle.log_lines.specs.Entries.{entry_of}
use Rattle.log_text.specs.declared.Inside.{Inside}
use Rattle.log_text.specs.declared.Inside.TheVariants.{Element, Close, On as Onward, Fault as InsideFault}
use Rattle.log_text.specs.declared.Level.{Level}
use Rattle.log_text.specs.declared.Level.TheVariants.{Log, Trace, Event}
use Rattle.log_text.specs.declared.Cursor.{Cursor}
use Rattle.log_text.specs.declared.Move.{Move}
use Rattle.log_text.specs.declared.Move.TheVariants.{On, Done, Fault}
use Rattle.log_text.specs.declared.Scanned.{Scanned}
use Rattle.log_text.specs.Inside.{ends_at, closing, between, inside_at}
use Rattle.log_text.specs.Cursors.{in_log, reached, traced, in_event, named, behind_event, behind_trace, tag_by, lacks_by}
use Rattle.log_text.specs.Logs.{log_most, over, over_named, line_by, name_by, string_by, string_at, trace_by, event_by, is_of_log, other_at, entered_by, left_by, by_inside, advance, scanned, by_move, scan_in, scan_from, begin_by, begin, start, scan, closes_event, line_of, lines_in, lines_from, lines_of}
use Rattle.log_text.proofs.Laws.{Beyond, advance_beyond, advance_end}

-- the line of the event, once there is one, is an entry
abbrev pub Right : List ℕ → Cursor → Type 0
Right t c = eqb c.to 0 ≡ false → (entry_of (part t c.from c.to)).right ≡ true

-- one step: it counts the event that it closes; lines stay right; an event that is closed has a line
abbrev Tells : List ℕ → Cursor → Move → Type 0
Tells t c (On d) =
    (d.events ≡ (if closes_event c.level d.level then after t c.events or_else c.events)) × (Right t c → Right t d)
    × (closes_event c.level d.level ≡ true → eqb d.to 0 ≡ false)
Tells t c (Done d) = d.events ≡ c.events
Tells t c (Fault q) = Unit {0}

closes_same : (l : Level) → closes_event l l ≡ false
unfolding closes_event
closes_same Log = refl
closes_same Trace = refl
closes_same Event = refl

module _ (t : List ℕ) (c : Cursor) where
  tells_if : (b : Bool) (x y : Move) → (b ≡ true → Tells t c x) → (b ≡ false → Tells t c y) → Tells t c (if b then x or_else y)
  unfolding if◌then◌or_else◌
  tells_if true x y h k = h refl
  tells_if false x y h k = k refl

  -- no event is closed
  still : (d : Cursor) → closes_event c.level d.level ≡ false → d.events ≡ c.events → (Right t c → Right t d) → Tells t c (On d)
  unfolding if◌then◌or_else◌
  still d e h r = (rw e h, r, λ x. absurd (false≢true (sym e ∙ x)))

  reached_tells : (q : ℕ) → Tells t c (On (reached c q))
  reached_tells q = still (reached c q) (closes_same c.level) refl (λ r. r)

  over_tells : (s : Reached) → Tells t c (over s c)
  unfolding over
  over_tells (Ok q) = reached_tells q
  over_tells (Err q) = tt

  named_tells : (s : Reached) (from to : ℕ) → (entry_of (part t from to)).right ≡ true → Tells t c (over_named s c from to)
  unfolding over_named
  named_tells (Ok q) from to h = still (named c from to q) (closes_same c.level) refl (λ r e. h)
  named_tells (Err q) from to h = tt

  line_tells : (a : Option (ℕ × ℕ)) (p end : ℕ) → Tells t c (line_by a t c p end)
  unfolding line_by
  line_tells (Some (from, to)) p end = tells_if (entry_of (part t from to)).right _ _ (λ h. named_tells (skipped t p) from to h) (λ h. tt)
  line_tells None p end = tt

  name_tells : (a : Option (ℕ × ℕ)) (p end : ℕ) → Tells t c (name_by a t c p end)
  unfolding name_by
  name_tells (Some (from, to)) p end =
      tells_if (same_bytes (part t from to) (bytes "concept:name")) _ _
      (λ h. tells_if (eqb c.to 0) _ _ (λ k. line_tells (attribute t p (bytes "value")) p end) (λ k. tt))
      (λ h. over_tells (skipped t p))
  name_tells None p end = over_tells (skipped t p)

  string_tells : (g : Tag) (p : ℕ) → Tells t c (string_by g t c p)
  unfolding string_by
  string_tells (Open q) p = name_tells (attribute t p (bytes "key")) p (q - 1)
  string_tells (Empty q) p = name_tells (attribute t p (bytes "key")) p (q - 2)
  string_tells (TagFault q) p = tt

  other_tells : (p : ℕ) → Tells t c (other_at t c p)
  unfolding other_at
  other_tells p = tells_if (is_of_log t p) _ _ (λ h. tt) (λ h. over_tells (skipped t p))

  trace_tells : (g : Tag) (p : ℕ) → c.level ≡ Log → Tells t c (trace_by g c p)
  unfolding trace_by closes_event
  trace_tells (Open q) p e = still (traced Trace c p q) (ap (λ (l : Level). closes_event l Trace) e) refl (λ r. r)
  trace_tells (Empty q) p e = still (traced Log c p q) (ap (λ (l : Level). closes_event l Log) e) refl (λ r. r)
  trace_tells (TagFault q) p e = tt

  event_tells : (g : Tag) (p : ℕ) → c.level ≡ Trace → Tells t c (event_by g c p)
  unfolding event_by closes_event
  event_tells (Open q) p e = still (in_event c p q) (ap (λ (l : Level). closes_event l Event) e) refl (λ r x. absurd (false≢true (sym x)))
  event_tells (Empty q) p e = tt
  event_tells (TagFault q) p e = tt

  entered_tells : (l : Level) (p : ℕ) → c.level ≡ l → Tells t c (entered_by l t c p)
  unfolding entered_by string_at
  entered_tells Log p e =
      tells_if (is_called t p (bytes "trace")) _ _
      (λ h. tells_if (eqb c.opened 0) _ _ (λ k. trace_tells (tag_of (markup t p) p) p e) (λ k. tt))
      (λ h. other_tells p)
  entered_tells Trace p e = tells_if (is_called t p (bytes "event")) _ _ (λ h. event_tells (tag_of (markup t p) p) p e) (λ h. other_tells p)
  entered_tells Event p e = tells_if (is_called t p (bytes "string")) _ _ (λ h. string_tells (tag_of (markup t p) p) p) (λ h. other_tells p)

  closed : (q : ℕ) → c.level ≡ Event → eqb c.to 0 ≡ false → Tells t c (On (behind_event t c q))
  unfolding if◌then◌or_else◌ closes_event
  closed q e h = (rw e, λ r. r, λ x. h)

  left_tells : (l : Level) (q : ℕ) → c.level ≡ l → lacks_by l c ≡ false → Tells t c (left_by l t c q)
  unfolding left_by lacks_by closes_event
  left_tells Log q e h = refl
  left_tells Trace q e h = still (behind_trace c q) (ap (λ (l : Level). closes_event l Log) e) refl (λ r. r)
  left_tells Event q e h = closed q e h

-- only what lacks nothing is left by its end tag
abbrev Whole : Bool → Inside → Type 0
Whole b (Element q) = Unit {0}
Whole b (Close q) = b ≡ false
Whole b (Onward q) = Unit {0}
Whole b (InsideFault q) = Unit {0}

whole_none : (g : Inside) → Whole false g
whole_none (Element q) = tt
whole_none (Close q) = refl
whole_none (Onward q) = tt
whole_none (InsideFault q) = tt

whole_between : (b : Bool) (o : Outside) (e : ℕ) → Whole b (between o e)
unfolding between
whole_between b (OutsideElement q) e = tt
whole_between b (OutsideOn q) e = tt
whole_between b Nothing e = tt
whole_between b (OutsideFault q) e = tt

whole_if : (b k : Bool) (x y : Inside) → Whole b x → Whole b y → Whole b (if k then x or_else y)
unfolding if◌then◌or_else◌
whole_if b true x y h k = h
whole_if b false x y h k = k

whole_lacking : (b : Bool) (p : ℕ) (g : Inside) → Whole b (if b then InsideFault p or_else g)
unfolding if◌then◌or_else◌
whole_lacking true p g = tt
whole_lacking false p g = whole_none g

inside_whole : (b : Bool) (t : List ℕ) (outer p : ℕ) → Whole b (inside_at b t outer p)
unfolding inside_at
inside_whole b t outer p =
    whole_if b (ends_at (opener t p)) _ _ (whole_lacking b p (closing (part_at t outer p) p)) (whole_between b (outside_at t p) (length t))

inside_tells : (t : List ℕ) (c : Cursor) (g : Inside) → Whole (lacks_by c.level c) g → Tells t c (by_inside g t c)
unfolding by_inside
inside_tells t c (Element p) h = entered_tells t c c.level p refl
inside_tells t c (Close q) h = left_tells t c c.level q refl h
inside_tells t c (Onward q) h = reached_tells t c q
inside_tells t c (InsideFault q) h = tt

advance_tells : (t : List ℕ) (c : Cursor) → Tells t c (advance t c)
unfolding advance
advance_tells t c =
    inside_tells t c (inside_at (lacks_by c.level c) t (tag_by c.level c) (run Blanks t c.at))
    (inside_whole (lacks_by c.level c) t (tag_by c.level c) (run Blanks t c.at))

-- a step is made within the text
abbrev Room : List ℕ → Cursor → Move → Type 0
Room t c (On d) = c.at < length t
Room t c (Done d) = Unit {0}
Room t c (Fault q) = Unit {0}

room_any : (t : List ℕ) (c : Cursor) (g : Move) → c.at < length t → Room t c g
room_any t c (On d) h = h
room_any t c (Done d) h = tt
room_any t c (Fault q) h = tt

advance_room : (t : List ℕ) (c : Cursor) → Room t c (advance t c)
advance_room t c = go (leb (length t) c.at) refl
  where
    go : (b : Bool) → leb (length t) c.at ≡ b → Room t c (advance t c)
    go true e = rw (advance_end t c (leb-true (length t) c.at e)) tt
    go false e = room_any t c (advance t c) (leb-false (length t) c.at e)

-- AS MANY LINES AS EVENTS
after_room : (t : List ℕ) (n : ℕ) → n < length t → after t n ≡ n + 1
unfolding after if◌then◌or_else◌
after_room t n h = rw (lt-ltb n (length t) h)

module _ (t : List ℕ) (c : Cursor) (S : Cursor → Scanned) (R : Cursor → List (List ℕ)) (same : (d : Cursor) → d.events ≤ d.at → (S d).last.events ≡ d.events + length (R d)) (few : c.events ≤ c.at) where
  count_on : (d : Cursor) → c.at < d.at → c.at < length t → (b : Bool) → d.events ≡ (if b then after t c.events or_else c.events)
      → (S d).last.events ≡ c.events + length (if b then line_of t d ∷ R d or_else R d)
  unfolding if◌then◌or_else◌
  count_on d h k true e = omega (arith, e, after_room t c.events (omega (arith, few, k)), same d (omega (arith, e, few, h, after_room t c.events (omega (arith, few, k)))))
  count_on d h k false e = omega (arith, e, same d (omega (arith, e, few, h)))

  count_by : (g : Move) → Beyond c.at g → Room t c g → Tells t c g
      → (by_move g S (λ d. scanned (last_from t d.at) d) (λ q. scanned (fault_at q) c)).last.events
      ≡ c.events + length (by_move g (λ d. if closes_event c.level d.level then line_of t d ∷ R d or_else R d) (λ d. []) (λ q. []))
  unfolding by_move
  count_by (On d) h k e = count_on d h k (closes_event c.level d.level) e.0
  count_by (Done d) h k e = omega (arith, e)
  count_by (Fault q) h k e = omega arith

count_in_lem : (n : ℕ) (t : List ℕ) (c : Cursor) → c.events ≤ c.at → (scan_in n t c).last.events ≡ c.events + length (lines_in n t c)
unfolding scan_in lines_in
count_in_lem zero t c h = omega arith
count_in_lem (suc n) t c h = count_by t c (scan_in n t) (lines_in n t) (λ d k. count_in_lem n t d k) h (advance t c) (advance_beyond t c) (advance_room t c) (advance_tells t c)

-- EACH LINE IS AN ENTRY
module _ (t : List ℕ) (c : Cursor) (R : Cursor → List (List ℕ)) (same : (d : Cursor) → Right t d → each (λ w. (entry_of w).right) (R d) ≡ true) (r : Right t c) where
  right_on : (d : Cursor) → Right t d → (b : Bool) → (b ≡ true → eqb d.to 0 ≡ false) → each (λ w. (entry_of w).right) (if b then line_of t d ∷ R d or_else R d) ≡ true
  unfolding if◌then◌or_else◌ each line_of
  right_on d h true k = and_true (entry_of (part t d.from d.to)).right (each (λ w. (entry_of w).right) (R d)) (h (k refl)) (same d h)
  right_on d h false k = same d h

  right_by : (g : Move) → Tells t c g → each (λ w. (entry_of w).right) (by_move g (λ d. if closes_event c.level d.level then line_of t d ∷ R d or_else R d) (λ d. []) (λ q. [])) ≡ true
  unfolding by_move each
  right_by (On d) e = right_on d (e.1 r) (closes_event c.level d.level) e.2
  right_by (Done d) e = refl
  right_by (Fault q) e = refl

right_in : (n : ℕ) (t : List ℕ) (c : Cursor) → Right t c → each (λ w. (entry_of w).right) (lines_in n t c) ≡ true
unfolding lines_in each
right_in zero t c r = refl
right_in (suc n) t c r = right_by t c (lines_in n t) (λ d k. right_in n t d k) r (advance t c) (advance_tells t c)

-- FROM THE START
abbrev Begins : Move → Type 0
Begins (On c) = (c.events ≡ 0) × (eqb c.to 0 ≡ true)
Begins (Done c) = c.events ≡ 0
Begins (Fault q) = Unit {0}

begin_by_begins : (g : Tag) (p : ℕ) → Begins (begin_by g p)
unfolding begin_by
begin_by_begins (Open q) p = (refl, refl)
begin_by_begins (Empty q) p = tt
begin_by_begins (TagFault q) p = tt

begin_begins : (s : Reached) (t : List ℕ) → Begins (begin s t)
unfolding begin
begin_begins (Ok p) t = begin_by_begins (tag_of (markup t p) p) p
begin_begins (Err q) t = tt

begins_if : (b : Bool) (x y : Move) → Begins x → Begins y → Begins (if b then x or_else y)
unfolding if◌then◌or_else◌
begins_if true x y h k = h
begins_if false x y h k = k

start_begins : (t : List ℕ) → Begins (start t)
unfolding start
start_begins t = begins_if (ltb log_most (length t)) _ _ tt (begin_begins (root_at (bytes "log") t) t)

-- as many events are counted as have lines, wherever the reader ends
pub events_are_lines : (t : List ℕ) → (scan t).last.events ≡ length (lines_of t)
unfolding scan lines_of
events_are_lines t = go (start t) (start_begins t)
  where
    go : (g : Move) → Begins g
        → (by_move g (scan_from t) (λ d. scanned (Ok d.at) d) (λ q. scanned (fault_at q) (in_log 0 0))).last.events ≡ length (by_move g (lines_from t) (λ d. []) (λ q. []))
    go (On c) e = unfold by_move scan_from lines_from in omega (arith, e.0, count_in_lem (length t) t c (omega (arith, e.0)))
    go (Done c) e = unfold by_move in e
    go (Fault q) e = unfold by_move in refl

-- every line of a log is an entry
pub lines_are_entries : (t : List ℕ) → each (λ w. (entry_of w).right) (lines_of t) ≡ true
unfolding lines_of
lines_are_entries t = go (start t) (start_begins t)
  where
    go : (g : Move) → Begins g → each (λ w. (entry_of w).right) (by_move g (lines_from t) (λ d. []) (λ q. [])) ≡ true
    go (On c) e = unfold by_move lines_from in right_in (length t) t c (λ x. absurd (false≢true (sym x ∙ e.1)))
    go (Done c) e = unfold by_move each in refl
    go (Fault q) e = unfold by_move each in refl

-- "Above 65,536 bytes: 23 with 0, nothing else looked at"
pub too_long_lem : (t : List ℕ) → log_most < length t → (scan t).end ≡ fault_at 0
unfolding scan start by_move if◌then◌or_else◌
too_long_lem t h = rw (lt-ltb log_most (length t) h)
