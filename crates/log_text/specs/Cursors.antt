-- WHERE A READER OF A LOG IS: in the log, in its trace or in an event; the place that it reached, and those of the tags that are open; the place behind the trace's start tag, 0 before it; how many events are
-- whole, and the end of the last one or else of the trace's start tag; where the event's line stands, 0 and 0 before it.
use Rattle.std.specs.Prelude.{ℕ, Bool, false, List, eqb}
use Rattle.xml_markup.specs.Spans.{after}
use Rattle.log_text.specs.declared.Level.{Level}
use Rattle.log_text.specs.declared.Level.TheVariants.{Log, Trace, Event}
use Rattle.log_text.specs.declared.Cursor.{Cursor}
use Rattle.base_words.specs.Blocks.{Bytes}

-- before the root
abbrev pub nowhere : Cursor
nowhere = record { level = Log; at = 0; log = 0; trace = 0; opened = 0; event = 0; events = 0; kept = 0; from = 0; to = 0 }

-- in the log whose tag is at p, with q behind it
abbrev pub in_log : ℕ → ℕ → Cursor
in_log p q = record { level = Log; at = q; log = p; trace = 0; opened = 0; event = 0; events = 0; kept = 0; from = 0; to = 0 }

-- the same, at q
abbrev pub reached : Cursor → ℕ → Cursor
reached c q =
    record {
      level = c.level;
      at = q;
      log = c.log;
      trace = c.trace;
      opened = c.opened;
      event = c.event;
      events = c.events;
      kept = c.kept;
      from = c.from;
      to = c.to;
    }

-- behind the trace's tag at p: in the trace, or, where the tag is empty, in the log
abbrev pub traced : Level → Cursor → ℕ → ℕ → Cursor
traced l c p q =
    record {
      level = l;
      at = q;
      log = c.log;
      trace = p;
      opened = q;
      event = c.event;
      events = c.events;
      kept = q;
      from = c.from;
      to = c.to;
    }

-- in the event whose tag is at p
abbrev pub in_event : Cursor → ℕ → ℕ → Cursor
in_event c p q =
    record { level = Event; at = q; log = c.log; trace = c.trace; opened = c.opened; event = p; events = c.events; kept = c.kept; from = 0; to = 0 }

-- behind the element that has the event's line
abbrev pub named : Cursor → ℕ → ℕ → ℕ → Cursor
named c from to q =
    record {
      level = c.level;
      at = q;
      log = c.log;
      trace = c.trace;
      opened = c.opened;
      event = c.event;
      events = c.events;
      kept = c.kept;
      from = from;
      to = to;
    }

-- behind the event; there are fewer events than bytes
abbrev pub behind_event : Bytes → Cursor → ℕ → Cursor
behind_event t c q =
    record {
      level = Trace;
      at = q;
      log = c.log;
      trace = c.trace;
      opened = c.opened;
      event = c.event;
      events = after t c.events;
      kept = q;
      from = c.from;
      to = c.to;
    }

-- behind the trace
abbrev pub behind_trace : Cursor → ℕ → Cursor
behind_trace c q =
    record {
      level = Log;
      at = q;
      log = c.log;
      trace = c.trace;
      opened = c.opened;
      event = c.event;
      events = c.events;
      kept = c.kept;
      from = c.from;
      to = c.to;
    }

-- the tag of what the reader is in
unfoldable pub tag_by : Level → Cursor → ℕ
tag_by Log c = c.log
tag_by Trace c = c.trace
tag_by Event c = c.event

-- "exactly one `trace`", "exactly one `string` whose attribute `key` is `concept:name`" (RULES: logs)
unfoldable pub lacks_by : Level → Cursor → Bool
lacks_by Log c = eqb c.opened 0
lacks_by Trace c = false
lacks_by Event c = eqb c.to 0
