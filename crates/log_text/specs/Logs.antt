-- WHAT IS SUCH A LOG: "The root is `log`. Directly in it stands exactly one `trace`; directly in that, any number of `event`s; directly in each event exactly one `string` whose attribute `key` is `concept:name`; its
-- attribute `value` is a line. Every other element directly in the log, the trace or an event is skipped whole." Read from left to right, up to the first fault: its place is that of 23.
use Rattle.std.specs.Prelude.{ℕ, zero, suc, ◌-◌, Bool, true, false, ◌||◌, List, [], ◌∷◌, ltb, eqb, length, Option, Some, None, Ok, Err}
use Rattle.base_words.specs.Blocks.{Bytes}
use Rattle.base_words.specs.Pick.{if◌then◌or_else◌}
use Rattle.base_words.specs.Text.{bytes}
use Rattle.base_words.specs.Words.{part}
use Rattle.base_bytes.specs.Bytes.{same_bytes}
use Rattle.xml_markup.specs.declared.Class.TheVariants.{Blanks}
use Rattle.xml_markup.specs.Markup.{markup}
use Rattle.xml_markup.specs.Spans.{run, is_called, attribute}
use Rattle.xml_skip.specs.declared.Tag.{Tag}
use Rattle.xml_skip.specs.declared.Tag.TheVariants.{Open, Empty, Fault as TagFault}
use Rattle.xml_skip.specs.Skipping.{tag_of, skipped, Reached, fault_at}
use Rattle.xml_document.specs.Around.{root_at, last_from}
use Rattle.log_lines.specs.Entries.{entry_of}
use Rattle.log_text.specs.declared.Inside.{Inside}
use Rattle.log_text.specs.declared.Inside.TheVariants.{Element, Close, On as Onward, Fault as InsideFault}
use Rattle.log_text.specs.declared.Level.{Level}
use Rattle.log_text.specs.declared.Level.TheVariants.{Log, Trace, Event}
use Rattle.log_text.specs.declared.Cursor.{Cursor}
use Rattle.log_text.specs.declared.Move.{Move}
use Rattle.log_text.specs.declared.Move.TheVariants.{On, Done, Fault}
use Rattle.log_text.specs.declared.Scanned.{Scanned}
use Rattle.log_text.specs.Inside.{inside_at}
use Rattle.log_text.specs.Cursors.{nowhere, in_log, reached, traced, in_event, named, behind_event, behind_trace, tag_by, lacks_by}

-- "a log of up to 65,536 bytes" (RULES: logs)
abbrev pub log_most : ℕ
log_most = 65536

-- an element skipped whole
unfoldable pub over : Reached → Cursor → Move
over (Ok q) c = On (reached c q)
over (Err q) c = Fault q.place

-- "A second one in an event is 23"; "the opening quote of its key", "one without a value: the `>` or `/` of its tag; a value that is no line: its opening quote", "in the order second, no value, no line" (RULES: entries)
unfoldable pub over_named : Reached → Cursor → ℕ → ℕ → Move
over_named (Ok q) c from to = On (named c from to q)
over_named (Err q) c from to = Fault q.place

unfoldable pub line_by : Option (ℕ × ℕ) → Bytes → Cursor → ℕ → ℕ → Move
line_by (Some (from, to)) t c p end = if (entry_of (part t from to)).right then over_named (skipped t p) c from to or_else Fault (from - 1)
line_by None t c p end = Fault end

unfoldable pub name_by : Option (ℕ × ℕ) → Bytes → Cursor → ℕ → ℕ → Move
name_by (Some (from, to)) t c p end =
    if same_bytes (part t from to) (bytes "concept:name") then
    if eqb c.to 0 then line_by (attribute t p (bytes "value")) t c p end or_else Fault (from - 1)
    or_else over (skipped t p) c
name_by None t c p end = over (skipped t p) c

-- "A tag's attributes are looked at when the tag is whole" (RULES: logs)
unfoldable pub string_by : Tag → Bytes → Cursor → ℕ → Move
string_by (Open q) t c p = name_by (attribute t p (bytes "key")) t c p (q - 1)
string_by (Empty q) t c p = name_by (attribute t p (bytes "key")) t c p (q - 2)
string_by (TagFault q) t c p = Fault q

unfoldable pub string_at : Bytes → Cursor → ℕ → Move
string_at t c p = string_by (tag_of (markup t p) p) t c p

-- the trace of a log, an event of a trace: "`<trace/>` too"; an event that ends without what it needs: "the `/` of `/>`"
unfoldable pub trace_by : Tag → Cursor → ℕ → Move
trace_by (Open q) c p = On (traced Trace c p q)
trace_by (Empty q) c p = On (traced Log c p q)
trace_by (TagFault q) c p = Fault q

unfoldable pub event_by : Tag → Cursor → ℕ → Move
event_by (Open q) c p = On (in_event c p q)
event_by (Empty q) c p = Fault (q - 2)
event_by (TagFault q) c p = Fault q

-- "A `log`, `trace` or `event` that stands directly in the log, the trace or an event where none is due is 23, not skipped" (RULES: logs)
unfoldable pub is_of_log : Bytes → ℕ → Bool
is_of_log t p = is_called t p (bytes "log") || (is_called t p (bytes "trace") || is_called t p (bytes "event"))

unfoldable pub other_at : Bytes → Cursor → ℕ → Move
other_at t c p = if is_of_log t p then Fault p or_else over (skipped t p) c

-- an element at p
unfoldable pub entered_by : Level → Bytes → Cursor → ℕ → Move
entered_by Log t c p =
    if is_called t p (bytes "trace") then (if eqb c.opened 0 then trace_by (tag_of (markup t p) p) c p or_else Fault p)
    or_else other_at t c p
entered_by Trace t c p = if is_called t p (bytes "event") then event_by (tag_of (markup t p) p) c p or_else other_at t c p
entered_by Event t c p = if is_called t p (bytes "string") then string_at t c p or_else other_at t c p

-- behind the end tag of what the reader is in
unfoldable pub left_by : Level → Bytes → Cursor → ℕ → Move
left_by Log t c q = Done (reached c q)
left_by Trace t c q = On (behind_trace c q)
left_by Event t c q = On (behind_event t c q)

unfoldable pub by_inside : Inside → Bytes → Cursor → Move
by_inside (Element p) t c = entered_by c.level t c p
by_inside (Close q) t c = left_by c.level t c q
by_inside (Onward q) t c = On (reached c q)
by_inside (InsideFault q) t c = Fault q

unfoldable pub advance : Bytes → Cursor → Move
advance t c = by_inside (inside_at (lacks_by c.level c) t (tag_by c.level c) (run Blanks t c.at)) t c

-- the reader's end: the end of the text, or the place of the fault; and where it was then
abbrev pub scanned : Reached → Cursor → Scanned
scanned e c = record { end = e; last = c }

unfoldable pub by_move : {A : Type 0} → Move → (Cursor → A) → (Cursor → A) → (ℕ → A) → A
by_move (On c) on done fault = on c
by_move (Done c) on done fault = done c
by_move (Fault q) on done fault = fault q

-- from where the reader is, in n steps at most; each passes a byte, so the text's length is enough
unfoldable pub scan_in : ℕ → Bytes → Cursor → Scanned
scan_in zero t c = scanned (fault_at (length t)) c
scan_in (suc n) t c = by_move (advance t c) (scan_in n t) (λ d. scanned (last_from t d.at) d) (λ q. scanned (fault_at q) c)

unfoldable pub scan_from : Bytes → Cursor → Scanned
scan_from t c = scan_in (length t) t c

-- behind the root's tag
unfoldable pub begin_by : Tag → ℕ → Move
begin_by (Open q) p = On (in_log p q)
begin_by (Empty q) p = Fault (q - 2)
begin_by (TagFault q) p = Fault q

unfoldable pub begin : Reached → Bytes → Move
begin (Ok p) t = begin_by (tag_of (markup t p) p) p
begin (Err q) t = Fault q.place

-- "Above 65,536 bytes: 23 with 0, nothing else looked at" (RULES: logs)
unfoldable pub start : Bytes → Move
start t = if ltb log_most (length t) then Fault 0 or_else begin (root_at (bytes "log") t) t

unfoldable pub scan : Bytes → Scanned
scan t = by_move (start t) (scan_from t) (λ d. scanned (Ok d.at) d) (λ q. scanned (fault_at q) nowhere)

-- THE LINES OF THE EVENTS that are whole, as they stand
unfoldable pub closes_event : Level → Level → Bool
closes_event Log m = false
closes_event Trace m = false
closes_event Event Log = false
closes_event Event Trace = true
closes_event Event Event = false

unfoldable pub line_of : Bytes → Cursor → Bytes
line_of t c = part t c.from c.to

unfoldable pub lines_in : ℕ → Bytes → Cursor → List Bytes
lines_in zero t c = []
lines_in (suc n) t c =
    by_move (advance t c) (λ d. if closes_event c.level d.level then line_of t d ∷ lines_in n t d or_else lines_in n t d) (λ d. []) (λ q. [])

unfoldable pub lines_from : Bytes → Cursor → List Bytes
lines_from t c = lines_in (length t) t c

unfoldable pub lines_of : Bytes → List Bytes
lines_of t = by_move (start t) (lines_from t) (λ d. []) (λ q. [])
