-- A RUN AS AN XES LOG (IEEE 1849): the extensions Concept, from which names come, and Time, from which moments do; a name in every event, by which events are classified; one trace with its own name; and in it an
-- event for each line of the run but the last, its name the line, and its time where one is given. A line has no byte that XML would write in another way.
use Rattle.std.specs.Prelude.{ℕ, suc, ◌+◌, List, [], ◌∷◌, ◌++◌}
use Rattle.base_words.specs.Blocks.{Bytes}
use Rattle.base_words.specs.Text.{bytes}
use Rattle.write_lines.specs.Lines.{step_most}
use Rattle.log_write.specs.Times.{stamp_text, stamp_most}

unfoldable pub opening : Bytes
opening = bytes "<?xml version=\"1.0\" encoding=\"UTF-8\"?>\n<log xes.version=\"1849-2016\" xes.features=\"\" xmlns=\"http://www.xes-standard.org/\">\n"

unfoldable pub extension : Bytes
extension = bytes "<extension name=\"Concept\" prefix=\"concept\" uri=\"http://www.xes-standard.org/concept.xesext\"/>\n"

unfoldable pub time_extension : Bytes
time_extension = bytes "<extension name=\"Time\" prefix=\"time\" uri=\"http://www.xes-standard.org/time.xesext\"/>\n"

unfoldable pub global : Bytes
global = bytes "<global scope=\"event\"><string key=\"concept:name\" value=\"UNKNOWN\"/></global>\n"

unfoldable pub classifier : Bytes
classifier = bytes "<classifier name=\"Event-Name\" keys=\"concept:name\"/>\n"

unfoldable pub trace_opening : Bytes
trace_opening = bytes "<trace><string key=\"concept:name\" value=\"run\"/>\n"

unfoldable pub header : Bytes
header = opening ++ extension ++ time_extension ++ global ++ classifier ++ trace_opening

unfoldable pub event_opening : Bytes
event_opening = bytes "<event><string key=\"concept:name\" value=\""

-- behind the line: the moment, where one is given
unfoldable pub event_closing : ℕ → Bytes
event_closing moment = bytes "\"/>" ++ stamp_text moment ++ bytes "</event>\n"

unfoldable pub event_text : ℕ → List ℕ → Bytes
event_text moment line = event_opening ++ line ++ event_closing moment

-- each line with the moment of its ordinal
unfoldable pub events_text : (ℕ → ℕ) → List (List ℕ) → Bytes
events_text moments [] = []
events_text moments (line ∷ rest) = event_text (moments 0) line ++ events_text (λ k. moments (suc k)) rest

-- what was written so far, event by event
unfoldable pub written : (ℕ → ℕ) → List Bytes → Bytes
written moments lines = header ++ events_text moments lines

unfoldable pub footer : Bytes
footer = bytes "</trace>\n</log>\n"

unfoldable pub log_text : (ℕ → ℕ) → List Bytes → Bytes
log_text moments lines = header ++ events_text moments lines ++ footer

-- the greatest length of each
abbrev pub header_most : ℕ
header_most = 122 + 94 + 85 + 76 + 52 + 48

abbrev pub closing_most : ℕ
closing_most = 3 + stamp_most + 9

abbrev pub event_most : ℕ
event_most = 41 + step_most + closing_most

abbrev pub footer_most : ℕ
footer_most = 16
