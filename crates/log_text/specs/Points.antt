-- Logs tried at the boundary of each sentence: three tables. A row of the first says what is tried, and names a text and the place of its fault; the second has texts that are cut off, with their length; the third
-- texts that are logs, with their events' lines.
use Rattle.std.specs.Prelude.{ℕ, zero, suc, List, [], ◌∷◌, ◌++◌}
use Prim.Native.String.{String}
use Rattle.base_words.specs.Text.{bytes}

pub record Refusal : Type 0 where
  pub says : String
  pub text : List ℕ
  pub place : ℕ

abbrev at : String → List ℕ → ℕ → Refusal
at s t p = record { says = s; text = t; place = p }

-- a text n times
unfoldable pub times : ℕ → List ℕ → List ℕ
times zero w = []
times (suc n) w = w ++ times n w

-- an event with this line
abbrev event_of : String → List ℕ
event_of w = bytes "<event><string key='concept:name' value='" ++ (bytes w ++ bytes "'/></event>")

-- a log with the one event
abbrev one_line : String → List ℕ
one_line w = bytes "<log><trace>" ++ (event_of w ++ bytes "</trace></log>")

-- an event that begins so
abbrev in_event : String → List ℕ
in_event w = bytes "<log><trace><event>" ++ bytes w

abbrev pub refusals : List Refusal
refusals =
    at "the root is `log`, else at its `<`" (bytes " <logs>") 1 ∷
    at "the root without a trace: the `/` of `/>`" (bytes "<log/>") 4 ∷
    at "the `<` of its end tag" (bytes "<log></log>") 5 ∷
    at "a second trace: its `<`" (bytes "<log><trace/><trace/></log>") 13 ∷
    at "behind the log nothing else" (bytes "<log><trace/></log>x") 19 ∷
    at "a second log" (bytes "<log><trace/></log><log/>") 19 ∷
    at "an event outside the trace" (bytes "<log><event>") 5 ∷
    at "behind it too" (bytes "<log><trace/><event>") 13 ∷
    at "a log in the log" (bytes "<log><log>") 5 ∷
    at "a trace in the trace" (bytes "<log><trace><trace/>") 12 ∷
    at "a log in the trace" (bytes "<log><trace><log/>") 12 ∷
    at "a trace in an event" (in_event "<trace/>") 19 ∷
    at "an event in an event" (in_event "<event>") 19 ∷
    at "an end tag with another name: its `<`" (bytes "<log><trace></log>") 12 ∷
    at "byte for byte, with prefix" (bytes "<x:log><trace/></log>") 15 ∷
    at "the trace's, in an event" (in_event "<string key='concept:name' value='1 0 0 0 0 -'/></trace>") 67 ∷
    at "an event without a line: the `<` of its end tag" (bytes "<log><trace><event></event></trace></log>") 19 ∷
    at "the `/` of `/>`" (bytes "<log><trace><event />") 19 ∷
    at "a `concept:name` of another type is none" (in_event "<id key='concept:name' value='1 0 0 0 0 -'/></event>") 63 ∷
    at "letter case counts" (in_event "<string key='concept:Name' value='1 0 0 0 0 -'/></event>") 67 ∷
    at "of the attribute too" (in_event "<string Key='concept:name' value='1 0 0 0 0 -'/></event>") 67 ∷
    at "one deeper is none" (in_event "<list><string key='concept:name' value='1 0 0 0 0 -'/></list></event>") 80 ∷
    at "a second one: the opening quote of its key" (in_event "<string key='concept:name' value='1 0 0 0 0 -'/><string key='concept:name' value='1 0 0 0 0 -'/>") 79 ∷
    at "second before no value" (in_event "<string key='concept:name' value='1 0 0 0 0 -'/><string key='concept:name'/>") 79 ∷
    at "second before no line" (in_event "<string key='concept:name' value='1 0 0 0 0 -'/><string value='hello' key='concept:name'/>") 93 ∷
    at "no value: the `>` of its tag" (in_event "<string key='concept:name'>") 45 ∷
    at "the `/` of its tag" (in_event "<string key='concept:name' />") 46 ∷
    at "a value that is no line is looked at when the tag is whole" (in_event "<string key='concept:name' value='hello'") 59 ∷
    at "a fault of the tag goes before it" (in_event "<string key='concept:name' value='hello'<") 59 ∷
    at "an attribute twice: the second's name" (in_event "<string key='concept:name' key='x'/>") 46 ∷
    at "a wrong byte in a value" (in_event "<string key='concept:name' value='1<'/>") 54 ∷
    at "text in the log: that byte" (bytes "<log> x") 6 ∷
    at "in the trace" (bytes "<log><trace>x") 12 ∷
    at "in an event" (in_event "x") 19 ∷
    at "a CDATA section" (bytes "<log><![CDATA[") 5 ∷
    at "a reference" (bytes "<log>&#32;") 5 ∷
    at "a value that is no line: its opening quote" (one_line "hello") 52 ∷
    at "the last line of a run is none" (one_line "steps 7 left 0") 52 ∷
    at "a blank behind" (one_line "1 0 0 0 0 - ") 52 ∷
    at "a leading zero" (one_line "01 0 0 0 0 -") 52 ∷
    at "a post without its values" (one_line "post 3") 52 ∷
    at "a tab is no blank" (one_line "1\t0 0 0 0 -") 52 ∷
    at "no reference is worked out" (one_line "1 0 0 0 0 &#45;") 52 ∷
    at "behind unlawful ones too" (bytes "<log><trace>" ++ (event_of "9 0 0 0 0 -" ++ (event_of "post 16:" ++ event_of "hello"))) 175 ∷
    at "a seventeenth: its `<`" (bytes "<log>" ++ times 17 (bytes "<a>")) 53 ∷
    at "in a `concept:name` that string is the first" (in_event "<string key='concept:name' value='post 3:'>" ++ times 16 (bytes "<a>")) 107 ∷ []

-- "What the end of the text cuts off counts as the end" (RULES: logs)
abbrev pub beginnings : List (List ℕ)
beginnings =
    bytes "" ∷ bytes "<lo" ∷ bytes "<log" ∷ bytes "<log>" ∷ bytes "<log><!-" ∷ bytes "<log>&l" ∷ bytes "<log><trace" ∷ bytes "<log><trace></trac" ∷ bytes "<log><trace><event" ∷ bytes "<log><trace><event></even" ∷ bytes "<log><trace><event></eventx" ∷ bytes "<log><trace/></lo" ∷ bytes "<log><trace/> <x" ∷
    (239 ∷ []) ∷ (239 ∷ 187 ∷ []) ∷ in_event "<string key='concept:name' value='nonsens" ∷ []

pub record Lawful : Type 0 where
  pub of : String
  pub text : List ℕ
  pub lines : List (List ℕ)

abbrev log : String → List ℕ → List (List ℕ) → Lawful
log s t l = record { of = s; text = t; lines = l }

abbrev pub logs : List Lawful
logs =
    log "no event" (bytes "<log><trace></trace></log>") ([]) ∷
    log "an empty trace" (bytes "<log><trace/></log>") ([]) ∷
    log "events in turn" (bytes "<log><trace>" ++ (event_of "1 0 1 0 0 !3:7" ++ (event_of "post 3:" ++ (event_of "2 0 0 0 0 ?3:65535,0" ++ bytes "</trace></log>")))) (bytes "1 0 1 0 0 !3:7" ∷ bytes "post 3:" ∷ bytes "2 0 0 0 0 ?3:65535,0" ∷ []) ∷
    log "whatever it refers to" (one_line "9 65535 0 0 0 -") (bytes "9 65535 0 0 0 -" ∷ []) ∷
    log "attributes in any order, others beside them, either quote" (in_event "<string value='post 1:2' x='1' key=\"concept:name\"></string></event></trace></log>") (bytes "post 1:2" ∷ []) ∷
    log "blanks, comments, instructions, byte order mark and declaration" (239 ∷ 187 ∷ 191 ∷ bytes "<?xml?> <!--<log>--><log>\t<?a?>\n<trace><!----> </trace >\r</log><!--x--> ") ([]) ∷
    log "prefixes" (bytes "<x:log><y:trace><xes:event><z:string key='concept:name' value='post 1:'/></xes:event></y:trace></x:log>") (bytes "post 1:" ∷ []) ∷
    log "other elements are skipped whole" (bytes "<log><global><event/>x</global><trace><string key='concept:name' value='hello'/><event><date/><id key='concept:name'/>" ++ (bytes "<string key='x'><string/></string><string/>" ++ (bytes "<string key='concept:name' value='post 1:'><event/>&lt;</string></event><list><event/></list></trace><a/></log>"))) (bytes "post 1:" ∷ []) ∷
    log "up to 16 deep" (bytes "<log>" ++ (times 16 (bytes "<a>") ++ (times 16 (bytes "</a>") ++ bytes "<trace/></log>"))) ([]) ∷ []

-- how far the whole events of a text go, whatever is behind them
pub record Kept : Type 0 where
  pub what : String
  pub text : List ℕ
  pub events : ℕ
  pub kept : ℕ

abbrev kept : String → List ℕ → ℕ → ℕ → Kept
kept s t n p = record { what = s; text = t; events = n; kept = p }

abbrev pub kepts : List Kept
kepts =
    kept "an event and a beginning" (bytes "<log><trace>" ++ (event_of "post 1:" ++ bytes " <ev")) 1 71 ∷
    kept "two, and the log closed" (bytes "<log><trace>" ++ (event_of "post 1:" ++ (event_of "post 1:" ++ bytes "</trace></lo"))) 2 130 ∷
    kept "no event: the trace's start tag" (bytes "<log> <trace>") 0 13 ∷
    kept "an empty trace" (bytes "<log><trace/> <x") 0 13 ∷
    kept "an unfinished event" (in_event "<string key='concept:name' value='post 1:'/>") 0 12 ∷
    kept "the trace's start tag cut off" (bytes "<log><trace") 0 0 ∷ []
