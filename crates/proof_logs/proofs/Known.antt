-- The tags of a printed log. Each is computed from its own bytes, and holds wherever they stand. Assumes nothing.
use Rattle.std.specs.Prelude.{Some}
use Prim.Native.Char.{code}
use mathlib.Core.Path.{◌≡◌, refl}
use mathlib.Core.Bool.{true, false}
use mathlib.Core.List.{List, ◌++◌}
use Prim.Native.Nat.{ℕ, ◌+◌}
use lib.ListN.{drop}
use Rattle.base_words.specs.Pick.{if◌then◌or_else◌}
use Rattle.base_words.specs.Text.{bytes}
use Rattle.base_words.specs.Each.{each}
use Rattle.base_bytes.specs.Bytes.{between, is_letter, is_digit, past}
use Rattle.base_bytes.specs.Bytes.{same_bytes}
use Rattle.xml_characters.specs.Names.{is_blank, is_control, begins_name, is_name}
use Rattle.xml_characters.specs.References.{digit, base, more, number_from, numbered, character_of, is_character}
use Rattle.xml_scanner.specs.declared.Sort.TheVariants.{StartTag, EmptyTag}
use Rattle.xml_scanner.specs.declared.InTag.TheVariants.{Value}
use Rattle.xml_scanner.specs.declared.State.TheVariants.{Tag}
use Rattle.xml_scanner.specs.Openings.{behind_less, behind_bracket, in_opening}
use Rattle.xml_scanner.specs.Passages.{in_comment, in_data, in_target, in_instruction}
use Rattle.xml_scanner.specs.Tags.{closing, behind, named, behind_blank, is_quote, equals, is_reference, in_value, in_value_reference, in_tag, behind_end, in_end, in_reference}
use Rattle.xml_scanner.specs.Moves.{at_begin, step}
use Rattle.xml_markup.specs.declared.Scan.TheVariants.{On, Past}
use Rattle.xml_markup.specs.Tokens.{end_of, whole_in_tag, whole_in_instruction, whole, move_to, moved, if_on, if_attribute, is_named, found_from, begun, found, is_found, twice, is_faulty}
use Rattle.xml_markup.specs.Markup.{advance, opens_markup, marked, markup}
use Rattle.xml_markup.specs.declared.Class.TheVariants.{Name}
use Rattle.xml_markup.specs.Spans.{is_of}
use Rattle.proof_local.proofs.Shifted.{read_to, markup_past}
use Rattle.proof_local.proofs.Elements.{Names, StartAt, start_at, EndAt, end_at_lem}

-- an event's string, up to its line
abbrev pub string_opening : List ℕ
string_opening = bytes "<string key=\"concept:name\" value=\""

-- its date, up to its moment
abbrev pub date_tag : List ℕ
date_tag = bytes "<date key=\"time:timestamp\" value=\""

-- what is computed
record Computed : Type 0 where
  blank_ends : is_of Name (code " ") ≡ false
  tag_ends : is_of Name (code ">") ≡ false
  opens : opens_markup (code "<") ≡ true
  log_name : Names (code "l") (bytes "og")
  extension_name : Names (code "e") (bytes "xtension")
  global_name : Names (code "g") (bytes "lobal")
  string_name : Names (code "s") (bytes "tring")
  classifier_name : Names (code "c") (bytes "lassifier")
  trace_name : Names (code "t") (bytes "race")
  event_name : Names (code "e") (bytes "vent")
  date_name : Names (code "d") (bytes "ate")
  log_tag : (let w : List ℕ = bytes "<log xes.version=\"1849-2016\" xes.features=\"\" xmlns=\"http://www.xes-standard.org/\">" in read_to w (begun 0) w 0) ≡ Past StartTag 82
  extension_tag : (let w : List ℕ = bytes "<extension name=\"Concept\" prefix=\"concept\" uri=\"http://www.xes-standard.org/concept.xesext\"/>" in read_to w (begun 0) w 0) ≡ Past EmptyTag 93
  time_tag : (let w : List ℕ = bytes "<extension name=\"Time\" prefix=\"time\" uri=\"http://www.xes-standard.org/time.xesext\"/>" in read_to w (begun 0) w 0) ≡ Past EmptyTag 84
  global_tag : (let w : List ℕ = bytes "<global scope=\"event\">" in read_to w (begun 0) w 0) ≡ Past StartTag 22
  unknown_tag : (let w : List ℕ = bytes "<string key=\"concept:name\" value=\"UNKNOWN\"/>" in read_to w (begun 0) w 0) ≡ Past EmptyTag 44
  classifier_tag : (let w : List ℕ = bytes "<classifier name=\"Event-Name\" keys=\"concept:name\"/>" in read_to w (begun 0) w 0) ≡ Past EmptyTag 51
  trace_tag : (let w : List ℕ = bytes "<trace>" in read_to w (begun 0) w 0) ≡ Past StartTag 7
  run_tag : (let w : List ℕ = bytes "<string key=\"concept:name\" value=\"run\"/>" in read_to w (begun 0) w 0) ≡ Past EmptyTag 40
  event_tag : (let w : List ℕ = bytes "<event>" in read_to w (begun 0) w 0) ≡ Past StartTag 7
  string_tag : read_to string_opening (begun 0) string_opening 0 ≡ On (record { state = Tag (Value 34); mark = 27 })
  date_tag_lem : read_to date_tag (begun 0) date_tag 0 ≡ On (record { state = Tag (Value 34); mark = 27 })
  key_name : found string_opening (bytes "key") 0 ≡ Some 11
  value_name : found string_opening (bytes "value") 0 ≡ Some 32

computed : Computed
unfolding if◌then◌or_else◌ each between is_letter is_digit past same_bytes is_blank is_control begins_name is_name digit base more number_from numbered character_of is_character behind_less behind_bracket in_opening in_comment in_data in_target in_instruction closing behind named behind_blank is_quote equals is_reference in_value in_value_reference in_tag behind_end in_end in_reference at_begin step end_of whole_in_tag whole_in_instruction whole move_to moved if_on if_attribute is_named found_from found is_found twice is_faulty advance opens_markup is_of read_to
computed =
    record {
      blank_ends = refl;
      tag_ends = refl;
      opens = refl;
      log_name = record { begins = refl; every = refl };
      extension_name = record { begins = refl; every = refl };
      global_name = record { begins = refl; every = refl };
      string_name = record { begins = refl; every = refl };
      classifier_name = record { begins = refl; every = refl };
      trace_name = record { begins = refl; every = refl };
      event_name = record { begins = refl; every = refl };
      date_name = record { begins = refl; every = refl };
      log_tag = refl;
      extension_tag = refl;
      time_tag = refl;
      global_tag = refl;
      unknown_tag = refl;
      classifier_tag = refl;
      trace_tag = refl;
      run_tag = refl;
      event_tag = refl;
      string_tag = refl;
      date_tag_lem = refl;
      key_name = refl;
      value_name = refl;
    }

pub string_opened : read_to string_opening (begun 0) string_opening 0 ≡ On (record { state = Tag (Value 34); mark = 27 })
string_opened = computed.string_tag

pub date_opened : read_to date_tag (begun 0) date_tag 0 ≡ On (record { state = Tag (Value 34); mark = 27 })
date_opened = computed.date_tag_lem

pub key_found : found string_opening (bytes "key") 0 ≡ Some 11
key_found = computed.key_name

pub value_found : found string_opening (bytes "value") 0 ≡ Some 32
value_found = computed.value_name

-- WHERE THEY STAND
module _ (t x : List ℕ) (p : ℕ) where
  pub log_start : drop p t ≡ bytes "<log " ++ x → StartAt t (bytes "log") p
  log_start e = start_at t (bytes "og") x p (code "l") (code " ") e computed.log_name computed.blank_ends

  pub extension_start : drop p t ≡ bytes "<extension " ++ x → StartAt t (bytes "extension") p
  extension_start e = start_at t (bytes "xtension") x p (code "e") (code " ") e computed.extension_name computed.blank_ends

  pub global_start : drop p t ≡ bytes "<global " ++ x → StartAt t (bytes "global") p
  global_start e = start_at t (bytes "lobal") x p (code "g") (code " ") e computed.global_name computed.blank_ends

  pub string_start : drop p t ≡ bytes "<string " ++ x → StartAt t (bytes "string") p
  string_start e = start_at t (bytes "tring") x p (code "s") (code " ") e computed.string_name computed.blank_ends

  pub classifier_start : drop p t ≡ bytes "<classifier " ++ x → StartAt t (bytes "classifier") p
  classifier_start e = start_at t (bytes "lassifier") x p (code "c") (code " ") e computed.classifier_name computed.blank_ends

  pub trace_start : drop p t ≡ bytes "<trace>" ++ x → StartAt t (bytes "trace") p
  trace_start e = start_at t (bytes "race") x p (code "t") (code ">") e computed.trace_name computed.tag_ends

  pub event_start : drop p t ≡ bytes "<event>" ++ x → StartAt t (bytes "event") p
  event_start e = start_at t (bytes "vent") x p (code "e") (code ">") e computed.event_name computed.tag_ends

  pub date_start : drop p t ≡ bytes "<date " ++ x → StartAt t (bytes "date") p
  date_start e = start_at t (bytes "ate") x p (code "d") (code " ") e computed.date_name computed.blank_ends

  pub log_markup : drop p t ≡ bytes "<log xes.version=\"1849-2016\" xes.features=\"\" xmlns=\"http://www.xes-standard.org/\">" ++ x → markup t p ≡ marked StartTag (p + 82)
  log_markup e = markup_past t (bytes "log xes.version=\"1849-2016\" xes.features=\"\" xmlns=\"http://www.xes-standard.org/\">") x 60 p StartTag 82 e computed.opens computed.log_tag

  pub extension_markup : drop p t ≡ bytes "<extension name=\"Concept\" prefix=\"concept\" uri=\"http://www.xes-standard.org/concept.xesext\"/>" ++ x → markup t p ≡ marked EmptyTag (p + 93)
  extension_markup e = markup_past t (bytes "extension name=\"Concept\" prefix=\"concept\" uri=\"http://www.xes-standard.org/concept.xesext\"/>") x 60 p EmptyTag 93 e computed.opens computed.extension_tag

  pub time_markup : drop p t ≡ bytes "<extension name=\"Time\" prefix=\"time\" uri=\"http://www.xes-standard.org/time.xesext\"/>" ++ x → markup t p ≡ marked EmptyTag (p + 84)
  time_markup e = markup_past t (bytes "extension name=\"Time\" prefix=\"time\" uri=\"http://www.xes-standard.org/time.xesext\"/>") x 60 p EmptyTag 84 e computed.opens computed.time_tag

  pub global_markup : drop p t ≡ bytes "<global scope=\"event\">" ++ x → markup t p ≡ marked StartTag (p + 22)
  global_markup e = markup_past t (bytes "global scope=\"event\">") x 60 p StartTag 22 e computed.opens computed.global_tag

  pub unknown_markup : drop p t ≡ bytes "<string key=\"concept:name\" value=\"UNKNOWN\"/>" ++ x → markup t p ≡ marked EmptyTag (p + 44)
  unknown_markup e = markup_past t (bytes "string key=\"concept:name\" value=\"UNKNOWN\"/>") x 60 p EmptyTag 44 e computed.opens computed.unknown_tag

  pub classifier_markup : drop p t ≡ bytes "<classifier name=\"Event-Name\" keys=\"concept:name\"/>" ++ x → markup t p ≡ marked EmptyTag (p + 51)
  classifier_markup e = markup_past t (bytes "classifier name=\"Event-Name\" keys=\"concept:name\"/>") x 60 p EmptyTag 51 e computed.opens computed.classifier_tag

  pub trace_markup : drop p t ≡ bytes "<trace>" ++ x → markup t p ≡ marked StartTag (p + 7)
  trace_markup e = markup_past t (bytes "trace>") x 60 p StartTag 7 e computed.opens computed.trace_tag

  pub run_markup : drop p t ≡ bytes "<string key=\"concept:name\" value=\"run\"/>" ++ x → markup t p ≡ marked EmptyTag (p + 40)
  run_markup e = markup_past t (bytes "string key=\"concept:name\" value=\"run\"/>") x 60 p EmptyTag 40 e computed.opens computed.run_tag

  pub event_markup : drop p t ≡ bytes "<event>" ++ x → markup t p ≡ marked StartTag (p + 7)
  event_markup e = markup_past t (bytes "event>") x 60 p StartTag 7 e computed.opens computed.event_tag

  pub global_end : drop p t ≡ bytes "</global>" ++ x → EndAt t (bytes "global") x p
  global_end e = end_at_lem t (bytes "lobal") x p (code "g") e computed.global_name

  pub event_end : drop p t ≡ bytes "</event>" ++ x → EndAt t (bytes "event") x p
  event_end e = end_at_lem t (bytes "vent") x p (code "e") e computed.event_name

  pub trace_end : drop p t ≡ bytes "</trace>" ++ x → EndAt t (bytes "trace") x p
  trace_end e = end_at_lem t (bytes "race") x p (code "t") e computed.trace_name

  pub log_end : drop p t ≡ bytes "</log>" ++ x → EndAt t (bytes "log") x p
  log_end e = end_at_lem t (bytes "og") x p (code "l") e computed.log_name
