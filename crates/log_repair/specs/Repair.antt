-- A LOG THAT ENDED IN THE MIDDLE: "keeps all up to the end of the last whole event, or of the trace's start tag if there is none, closes the open elements, and reports how many events it kept and how many bytes
-- it dropped. A complete log comes out as the same bytes with 0 dropped." t is a text, c where its reader was at the end, out the lent buffer. (RULES: repair)
use Rattle.std.specs.Prelude.{ℕ, ◌-◌, Bool, true, List, [], ◌++◌, eqb, ltb, length, take, drop, Ok, Err}
use Rattle.base_words.specs.Blocks.{Bytes}
use Rattle.base_words.specs.Pick.{if◌then◌or_else◌}
use Rattle.base_words.specs.Text.{bytes}
use Rattle.xml_markup.specs.Markup.{markup}
use Rattle.xml_markup.specs.Spans.{name_at, bytes_of}
use Rattle.xml_skip.specs.declared.Tag.{Tag}
use Rattle.xml_skip.specs.declared.Tag.TheVariants.{Open, Empty, Fault as TagFault}
use Rattle.xml_skip.specs.Skipping.{tag_of, Reached}
use Rattle.log_text.specs.declared.Cursor.{Cursor}
use Rattle.log_text.specs.Logs.{log_most, scan}

-- "the names as they stand in the start tags" (RULES: repair)
unfoldable pub end_tag : Bytes → ℕ → Bytes
end_tag t p = bytes "</" ++ (bytes_of t (name_at t p) ++ bytes ">")

-- "Behind `<trace/>` only `</log>`" (RULES: repair)
unfoldable pub trace_end : Tag → Bytes → ℕ → Bytes
trace_end (Open q) t p = end_tag t p
trace_end (Empty q) t p = []
trace_end (TagFault q) t p = []

-- "closes the open elements": the trace, then the log (RULES: repair)
unfoldable pub closing_tags : Bytes → Cursor → Bytes
closing_tags t c = trace_end (tag_of (markup t c.trace) c.trace) t c.trace ++ end_tag t c.log

-- "all up to the end of the last whole event, or of the trace's start tag if there is none", and then the end tags, without blanks or newline (RULES: repair)
unfoldable pub closed : Bytes → Cursor → Bytes
closed t c = take c.kept t ++ closing_tags t c

-- "27 the text breaks off before the trace opens, is no such log at an earlier place than its end, or is longer" (RULES: repair)
unfoldable pub is_lost : ℕ → Bytes → Cursor → Bool
is_lost q t c = if ltb q (length t) then true or_else eqb c.opened 0

-- a number, the length written, events kept, bytes dropped, the buffer
pub record Repair : Type 0 where
  pub number : ℕ
  pub length : ℕ
  pub kept : ℕ
  pub dropped : ℕ
  pub buffer : Bytes

unfoldable pub refused : ℕ → Bytes → Repair
refused number out = record { number = number; length = 0; kept = 0; dropped = 0; buffer = out }

-- "5 if the output has no room or would pass that limit"; "Later bytes of the buffer stay; a refusal leaves all" (RULES: repair)
unfoldable pub repair_given : Bytes → ℕ → ℕ → Bytes → Repair
repair_given w events dropped out =
    if ltb log_most (length w) then refused 5 out
    or_else if ltb (length out) (length w) then refused 5 out
    or_else record { number = 0; length = length w; kept = events; dropped = dropped; buffer = w ++ drop (length w) out }

-- "27 goes before it, since without a repair there is no output"; "Dropped: bytes of the input that are not in the output; the closing tags don't count" (RULES: repair)
unfoldable pub repaired_by : Reached → Bytes → Cursor → Bytes → Repair
repaired_by (Ok q) t c out = repair_given t c.events 0 out
repaired_by (Err q) t c out = if is_lost q.place t c then refused 27 out or_else repair_given (closed t c) c.events (length t - c.kept) out

unfoldable pub repaired_to : Bytes → Bytes → Repair
repaired_to t out = repaired_by (scan t).end t (scan t).last out
