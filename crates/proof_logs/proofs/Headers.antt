-- What stands before the events of a printed log: the declaration, the log's tag, what is skipped, and the trace's tag. Assumes nothing.
use Rattle.std.specs.Prelude.{Ok}
use mathlib.Core.Logic.{⊎_elim}
use mathlib.Core.Path.{◌≡◌, ◌∙◌, refl, sym, ap}
use mathlib.Core.Bool.{false}
use mathlib.Core.List.{List, [], ◌∷◌, ◌++◌}
use Prim.Native.Nat.{ℕ, zero, suc, ◌+◌, ◌-◌, ◌<◌, ◌≤◌}
use native.Mathlib.Omega.{arith}
use lib.ListN.{length, take, drop, length-append}
use lib.Seq.{take-length}
use borrow.Author.Tests.{lt-leb, le-ltb, ne_eqb}
use Rattle.base_words.specs.Pick.{if◌then◌or_else◌}
use Rattle.base_words.specs.Text.{bytes}
use Rattle.base_words.specs.Words.{at, part}
use Rattle.base_words.specs.Each.{each}
use Rattle.base_bytes.specs.Bytes.{between, is_letter, is_digit, past}
use Rattle.base_bytes.specs.Bytes.{same_bytes}
use Rattle.proof_steps.proofs.Choices.{passed}
use Rattle.xml_characters.specs.Names.{is_blank, is_control, begins_name, is_name}
use Rattle.xml_characters.specs.References.{digit, base, more, number_from, numbered, character_of, is_character}
use Rattle.xml_scanner.specs.declared.Sort.TheVariants.{EmptyTag, Instruction}
use Rattle.xml_scanner.specs.Openings.{behind_less, behind_bracket, in_opening}
use Rattle.xml_scanner.specs.Passages.{in_comment, in_data, in_target, in_instruction}
use Rattle.xml_scanner.specs.Tags.{closing, behind, named, behind_blank, is_quote, equals, is_reference, in_value, in_value_reference, in_tag, behind_end, in_end, in_reference}
use Rattle.xml_scanner.specs.Moves.{at_begin, step}
use Rattle.xml_markup.specs.declared.Class.TheVariants.{Blanks}
use Rattle.xml_markup.specs.declared.Markup.{Markup}
use Rattle.xml_markup.specs.declared.Opener.TheVariants.{Other}
use Rattle.xml_markup.specs.Tokens.{end_of, whole_in_tag, whole_in_instruction, whole, move_to, moved, if_on, if_attribute, is_named, found_from, found, is_found, twice, byte_order_mark, first, lower, says_xml, is_declaration, reserved, is_faulty}
use Rattle.xml_markup.specs.Markup.{advance, scan_from, scan, begins_at, opens_markup, marked, placed, markup}
use Rattle.xml_markup.specs.Spans.{is_of, run, has_second, name_at, bytes_of, opener, local_from, local_of, behind_colon}
use Rattle.xml_markup.proofs.CutLaws.{cut_off}
use Rattle.xml_skip.specs.declared.Part.TheVariants.{Element as PartElement, Close as PartClose}
use Rattle.xml_skip.specs.Skipping.{part_for, part_at, tag_by, tag_of, go_on as onward, by_tag, element_by, by_part, content_by, content_in, content_at, element_at, skipped, Reached}
use Rattle.xml_document.specs.declared.Outside.TheVariants.{Element, On as Onward}
use Rattle.xml_document.specs.Document.{other_by, other_of, opens_data, tag_for, tag_at, outside_at, further, outside_in, outside}
use Rattle.xml_document.specs.Around.{root_by, root_at}
use Rattle.log_text.specs.declared.Level.{Level}
use Rattle.log_text.specs.declared.Level.TheVariants.{Log, Trace}
use Rattle.log_text.specs.declared.Cursor.{Cursor}
use Rattle.log_text.specs.declared.Move.TheVariants.{On}
use Rattle.log_text.specs.Cursors.{in_log, reached, traced}
use Rattle.log_text.specs.Logs.{log_most, trace_by, entered_by, begin_by, begin, start, closes_event, advance as advanced}
use Rattle.proof_local.proofs.Stands.{behind as stands-behind, within, rest}
use Rattle.proof_local.proofs.Tags.{from_second, opens_name_lem, opener_by}
use Rattle.proof_local.proofs.Elements.{StartAt, no_blank, newline, at_element, skipped_empty, passed_in_log, passed_in_trace, part_in}
use Rattle.proof_logs.proofs.Known.{log_start, log_markup, extension_start, extension_markup, time_markup, global_start, global_markup, string_start, unknown_markup, global_end, classifier_start, classifier_markup, trace_start, trace_markup, run_markup}
use Rattle.proof_logs.proofs.Traces.{Reads, reads_on, InTrace}

abbrev pub declaration : List ℕ
declaration = bytes "<?xml version=\"1.0\" encoding=\"UTF-8\"?>\n"

abbrev pub log_tag : List ℕ
log_tag = bytes "<log xes.version=\"1849-2016\" xes.features=\"\" xmlns=\"http://www.xes-standard.org/\">"

abbrev pub extension_tag : List ℕ
extension_tag = bytes "<extension name=\"Concept\" prefix=\"concept\" uri=\"http://www.xes-standard.org/concept.xesext\"/>"

abbrev pub time_tag : List ℕ
time_tag = bytes "<extension name=\"Time\" prefix=\"time\" uri=\"http://www.xes-standard.org/time.xesext\"/>"

abbrev pub global_text : List ℕ
global_text = bytes "<global scope=\"event\"><string key=\"concept:name\" value=\"UNKNOWN\"/></global>"

abbrev pub classifier_tag : List ℕ
classifier_tag = bytes "<classifier name=\"Event-Name\" keys=\"concept:name\"/>"

abbrev pub run_tag : List ℕ
run_tag = bytes "<string key=\"concept:name\" value=\"run\"/>"

-- THE DECLARATION
declared : markup declaration 0 ≡ marked Instruction 38
unfolding if◌then◌or_else◌ each between is_letter is_digit past same_bytes is_blank is_control begins_name is_name digit base more number_from numbered character_of is_character behind_less behind_bracket in_opening in_comment in_data in_target in_instruction closing behind named behind_blank is_quote equals is_reference in_value in_value_reference in_tag behind_end in_end in_reference at_begin step end_of whole_in_tag whole_in_instruction whole move_to moved if_on if_attribute is_named found_from found is_found twice is_faulty advance scan_from scan opens_markup placed is_of has_second first lower says_xml is_declaration reserved markup
declared = refl

whole_of : (l : List ℕ) → part l 0 (length l) ≡ l
whole_of l = ap (λ (n : ℕ). take n l) (let e : length l - 0 ≡ length l = omega arith in e) ∙ take-length l

-- a text that begins otherwise has no byte order mark, nor the beginning of one
other_mark : (w : List ℕ) (k : ℕ) → 0 < k → same_bytes (60 ∷ w) (take k byte_order_mark) ≡ false
unfolding same_bytes
other_mark w zero some = absurd (omega (arith, some))
other_mark w (suc k) some = refl

module _ (y : List ℕ) where
  abbrev t : List ℕ
  t = declaration ++ (log_tag ++ y)

  declaration_markup : markup t 0 ≡ marked Instruction 38
  unfolding opens_markup
  declaration_markup =
      ⊎_elim
      (λ e. sym e ∙ declared)
      (λ e. absurd (omega (arith, ap (λ (m : Markup). m.next) (sym declared ∙ e))))
      (cut_off t 39 0 (omega arith) (omega (arith, length-append declaration (log_tag ++ y))) refl)

  declaration_opens : opener t 0 ≡ Other
  unfolding each is_of is_name begins_name is_letter is_digit between has_second if◌then◌or_else◌
  declaration_opens = opener_by t (bytes "xml version=\"1.0\" encoding=\"UTF-8\"?>\n" ++ (log_tag ++ y)) 0 63 refl (opens_name_lem t (bytes "xml") (bytes "version=\"1.0\" encoding=\"UTF-8\"?>\n" ++ (log_tag ++ y)) 0 2 32 (from_second t (bytes "xml version=\"1.0\" encoding=\"UTF-8\"?>\n" ++ (log_tag ++ y)) 0 63 refl refl) refl refl refl (bytes "?xml version=\"1.0\" encoding=\"UTF-8\"?>\n" ++ (log_tag ++ y)) refl refl)

  no_data : opens_data t 0 ≡ false
  unfolding opens_data begins_at same_bytes
  no_data = ap (λ (l : List ℕ). same_bytes (part l 0 9) (bytes "<![CDATA[")) (whole_of t)

  declaration_passed : outside_at t (run Blanks t 0) ≡ Onward 38
  unfolding outside_at tag_at tag_for other_of other_by if◌then◌or_else◌
  declaration_passed = rw (no_blank t (bytes "?xml version=\"1.0\" encoding=\"UTF-8\"?>\n" ++ (log_tag ++ y)) 0 refl, lt-leb (length t) 0 (omega (arith, length-append declaration (log_tag ++ y))), declaration_opens, no_data, declaration_markup) refl

  is_log : StartAt t (bytes "log") 39
  is_log = log_start t (bytes "xes.version=\"1849-2016\" xes.features=\"\" xmlns=\"http://www.xes-standard.org/\">" ++ y) 39 refl

  log_next : outside_at t (run Blanks t 38) ≡ Element 39
  unfolding outside_at tag_at tag_for if◌then◌or_else◌
  log_next = rw (newline t (bytes "log xes.version=\"1849-2016\" xes.features=\"\" xmlns=\"http://www.xes-standard.org/\">" ++ y) 38 refl, lt-leb (length t) 39 (omega (arith, length-append declaration (log_tag ++ y), length-append log_tag y)), is_log.opens) refl

  root_in : (n : ℕ) → outside_in (suc (suc n)) t 0 ≡ Element 39
  unfolding outside_in further
  root_in n = rw (declaration_passed, log_next) refl

  no_mark : first t ≡ 0
  unfolding first
  no_mark =
      passed (same_bytes (part t 0 3) (part byte_order_mark 0 (length t))) (length (part t 0 3)) 0
      (other_mark (63 ∷ 120 ∷ []) (length t - 0) (omega (arith, length-append declaration (log_tag ++ y))))

  root_is : root_at (bytes "log") t ≡ Ok 39
  unfolding root_at root_by outside same_bytes local_of local_from behind_colon if◌then◌or_else◌
  root_is = rw (no_mark, root_in (length (drop 2 t)), is_log.called (bytes "log")) refl

  pub log_named : bytes_of t (name_at t 39) ≡ bytes "log"
  log_named = is_log.named

  pub started : length t ≤ log_most → start t ≡ On (in_log 39 121)
  unfolding start begin begin_by tag_of tag_by if◌then◌or_else◌
  started h = rw (le-ltb log_most (length t) h, root_is, log_markup t y 39 refl) refl

-- WHAT IS SKIPPED: an element with an empty one in it
module _ (t x : List ℕ) (p : ℕ) (stands : drop p t ≡ global_text ++ x) where
  abbrev inner : ℕ
  inner = p + 22

  abbrev last : ℕ
  last = inner + 44

  inner_stands : drop inner t ≡ bytes "<string key=\"concept:name\" value=\"UNKNOWN\"/>" ++ (bytes "</global>" ++ x)
  inner_stands = stands-behind t (bytes "<global scope=\"event\">") (bytes "<string key=\"concept:name\" value=\"UNKNOWN\"/></global>" ++ x) p stands

  last_stands : drop last t ≡ bytes "</global>" ++ x
  last_stands = stands-behind t (bytes "<string key=\"concept:name\" value=\"UNKNOWN\"/>") (bytes "</global>" ++ x) inner inner_stands

  is_global : StartAt t (bytes "global") p
  is_global = global_start t (bytes "scope=\"event\"><string key=\"concept:name\" value=\"UNKNOWN\"/></global>" ++ x) p stands

  is_inner : StartAt t (bytes "string") inner
  is_inner = string_start t (bytes "key=\"concept:name\" value=\"UNKNOWN\"/></global>" ++ x) inner inner_stands

  inner_part : part_at t p inner ≡ PartElement
  unfolding part_at part_for
  inner_part = rw is_inner.opens refl

  last_part : part_at t p last ≡ PartClose (last + 3 + 6)
  last_part = part_in t (bytes "global") x last p (global_end t x last last_stands) is_global.named

  inner_tag : markup t inner ≡ marked EmptyTag last
  inner_tag = unknown_markup t (bytes "</global>" ++ x) inner inner_stands

  inner_in : inner < length t
  inner_in = within t (bytes "string key=\"concept:name\" value=\"UNKNOWN\"/>" ++ (bytes "</global>" ++ x)) 60 inner inner_stands

  last_in_lem : last < length t
  last_in_lem = within t (bytes "/global>" ++ x) 60 last last_stands

  content_passed : (n : ℕ) → 2 ≤ n → content_in n t p inner 15 ≡ Ok (last + 3 + 6)
  unfolding content_in content_by by_part onward element_by by_tag tag_of tag_by if◌then◌or_else◌
  content_passed zero h = absurd (omega arith)
  content_passed (suc zero) h = absurd (omega arith)
  content_passed (suc (suc n)) h = rw (lt-leb (length t) inner inner_in, inner_part, inner_tag, lt-leb (length t) last last_in_lem, last_part) refl

  pub global_skipped : skipped t p ≡ Ok (last + 3 + 6)
  unfolding skipped element_at element_by by_tag tag_of tag_by content_at if◌then◌or_else◌
  global_skipped = rw (global_markup t (bytes "<string key=\"concept:name\" value=\"UNKNOWN\"/></global>" ++ x) p stands) (content_passed (length t) (omega (arith, inner_in)))

-- an extension, y behind its name
module _ (t y z : List ℕ) (c : Cursor) (level_is : c.level ≡ Log) (stands : drop c.at t ≡ 10 ∷ (bytes "<extension " ++ (y ++ z))) (n : ℕ) (tag : markup t (c.at + 1) ≡ marked EmptyTag (c.at + 1 + n)) where
  tag_stands : drop (c.at + 1) t ≡ bytes "<extension " ++ (y ++ z)
  tag_stands = rest t (bytes "<extension " ++ (y ++ z)) 10 c.at stands

  is_extension : StartAt t (bytes "extension") (c.at + 1)
  is_extension = extension_start t (y ++ z) (c.at + 1) tag_stands

  extension_passed : advanced t c ≡ On (reached c (c.at + 1 + n))
  unfolding same_bytes local_of local_from behind_colon if◌then◌or_else◌
  extension_passed =
      at_element t (bytes "extension " ++ (y ++ z)) (bytes "extension") c (c.at + 1) (newline t _ c.at stands) tag_stands is_extension
      ∙ ap (λ (l : Level). entered_by l t c (c.at + 1)) level_is
      ∙ passed_in_log t (bytes "extension") c (c.at + 1) (c.at + 1 + n) is_extension refl refl refl (skipped_empty t (c.at + 1) (c.at + 1 + n) tag)

-- BEHIND THE LOG'S TAG, which is at p; the rest from each place on
abbrev pub on_trace : List ℕ → List ℕ
on_trace x = 10 ∷ (bytes "<trace>" ++ (run_tag ++ x))

abbrev pub on_global : List ℕ → List ℕ
on_global x = 10 ∷ (global_text ++ (10 ∷ (classifier_tag ++ on_trace x)))

abbrev pub on_extension : List ℕ → List ℕ
on_extension x = 10 ∷ (extension_tag ++ (10 ∷ (time_tag ++ on_global x)))

module _ (t x : List ℕ) (p q : ℕ) (log_is : bytes_of t (name_at t p) ≡ bytes "log") (stands : drop q t ≡ on_extension x) where
  abbrev at_log : Cursor
  at_log = in_log p q

  abbrev past_extension : Cursor
  past_extension = reached at_log (q + 1 + 93)

  abbrev past_time : Cursor
  past_time = reached past_extension (past_extension.at + 1 + 84)

  abbrev past_global : Cursor
  past_global = reached past_time (past_time.at + 1 + 22 + 44 + 3 + 6)

  abbrev past_classifier : Cursor
  past_classifier = reached past_global (past_global.at + 1 + 51)

  abbrev at_trace : Cursor
  at_trace = traced Trace past_classifier (past_classifier.at + 1) (past_classifier.at + 1 + 7)

  abbrev pub past_name : Cursor
  past_name = reached at_trace (at_trace.at + 40)

  extension_stands : drop (q + 1) t ≡ extension_tag ++ (10 ∷ (time_tag ++ on_global x))
  extension_stands = rest t (extension_tag ++ (10 ∷ (time_tag ++ on_global x))) 10 q stands

  concept_passed : advanced t at_log ≡ On past_extension
  concept_passed =
      extension_passed t (bytes "name=\"Concept\" prefix=\"concept\" uri=\"http://www.xes-standard.org/concept.xesext\"/>") (10 ∷ (time_tag ++ on_global x)) at_log refl stands 93
      (extension_markup t (10 ∷ (time_tag ++ on_global x)) (q + 1) extension_stands)

  behind_extension : drop past_extension.at t ≡ 10 ∷ (time_tag ++ on_global x)
  behind_extension = stands-behind t extension_tag _ (q + 1) extension_stands

  time_stands : drop (past_extension.at + 1) t ≡ time_tag ++ on_global x
  time_stands = rest t (time_tag ++ on_global x) 10 past_extension.at behind_extension

  time_passed : advanced t past_extension ≡ On past_time
  time_passed =
      extension_passed t (bytes "name=\"Time\" prefix=\"time\" uri=\"http://www.xes-standard.org/time.xesext\"/>") (on_global x) past_extension refl behind_extension 84
      (time_markup t (on_global x) (past_extension.at + 1) time_stands)

  behind_time : drop past_time.at t ≡ on_global x
  behind_time = stands-behind t time_tag _ (past_extension.at + 1) time_stands

  global_stands : drop (past_time.at + 1) t ≡ global_text ++ (10 ∷ (classifier_tag ++ on_trace x))
  global_stands = rest t _ 10 past_time.at behind_time

  global_passed : advanced t past_time ≡ On past_global
  unfolding same_bytes local_of local_from behind_colon if◌then◌or_else◌
  global_passed =
      at_element t (bytes "global scope=\"event\"><string key=\"concept:name\" value=\"UNKNOWN\"/></global>" ++ (10 ∷ (classifier_tag ++ on_trace x))) (bytes "global") past_time (past_time.at + 1) (newline t _ past_time.at behind_time) global_stands (is_global t (10 ∷ (classifier_tag ++ on_trace x)) (past_time.at + 1) global_stands)
      ∙ passed_in_log t (bytes "global") past_time (past_time.at + 1) past_global.at (is_global t (10 ∷ (classifier_tag ++ on_trace x)) (past_time.at + 1) global_stands) refl refl refl (global_skipped t (10 ∷ (classifier_tag ++ on_trace x)) (past_time.at + 1) global_stands)

  behind_global : drop past_global.at t ≡ 10 ∷ (classifier_tag ++ on_trace x)
  behind_global = (global_end t _ (past_time.at + 1 + 22 + 44) (last_stands t (10 ∷ (classifier_tag ++ on_trace x)) (past_time.at + 1) global_stands)).behind

  classifier_stands : drop (past_global.at + 1) t ≡ classifier_tag ++ on_trace x
  classifier_stands = rest t _ 10 past_global.at behind_global

  is_classifier : StartAt t (bytes "classifier") (past_global.at + 1)
  is_classifier = classifier_start t (bytes "name=\"Event-Name\" keys=\"concept:name\"/>" ++ on_trace x) (past_global.at + 1) classifier_stands

  classifier_passed : advanced t past_global ≡ On past_classifier
  unfolding same_bytes local_of local_from behind_colon if◌then◌or_else◌
  classifier_passed =
      at_element t (bytes "classifier name=\"Event-Name\" keys=\"concept:name\"/>" ++ on_trace x) (bytes "classifier") past_global (past_global.at + 1) (newline t _ past_global.at behind_global) classifier_stands is_classifier
      ∙ passed_in_log t (bytes "classifier") past_global (past_global.at + 1) past_classifier.at is_classifier refl refl refl (skipped_empty t (past_global.at + 1) past_classifier.at (classifier_markup t (on_trace x) (past_global.at + 1) classifier_stands))

  behind_classifier : drop past_classifier.at t ≡ on_trace x
  behind_classifier = stands-behind t classifier_tag _ (past_global.at + 1) classifier_stands

  trace_stands : drop (past_classifier.at + 1) t ≡ bytes "<trace>" ++ (run_tag ++ x)
  trace_stands = rest t _ 10 past_classifier.at behind_classifier

  is_trace : StartAt t (bytes "trace") (past_classifier.at + 1)
  is_trace = trace_start t (run_tag ++ x) (past_classifier.at + 1) trace_stands

  trace_entered : advanced t past_classifier ≡ On at_trace
  unfolding entered_by trace_by tag_of tag_by same_bytes local_of local_from behind_colon if◌then◌or_else◌
  trace_entered =
      at_element t (bytes "trace>" ++ (run_tag ++ x)) (bytes "trace") past_classifier (past_classifier.at + 1) (newline t _ past_classifier.at behind_classifier) trace_stands is_trace
      ∙ rw (is_trace.called (bytes "trace"), trace_markup t (run_tag ++ x) (past_classifier.at + 1) trace_stands) refl

  behind_trace : drop at_trace.at t ≡ run_tag ++ x
  behind_trace = stands-behind t (bytes "<trace>") (run_tag ++ x) (past_classifier.at + 1) trace_stands

  is_run : StartAt t (bytes "string") at_trace.at
  is_run = string_start t (bytes "key=\"concept:name\" value=\"run\"/>" ++ x) at_trace.at behind_trace

  name_passed : advanced t at_trace ≡ On past_name
  unfolding same_bytes local_of local_from behind_colon if◌then◌or_else◌
  name_passed =
      at_element t (bytes "string key=\"concept:name\" value=\"run\"/>" ++ x) (bytes "string") at_trace at_trace.at (no_blank t _ at_trace.at behind_trace) behind_trace is_run
      ∙ passed_in_trace t (bytes "string") at_trace at_trace.at past_name.at is_run refl refl refl (skipped_empty t at_trace.at past_name.at (run_markup t x at_trace.at behind_trace))

  pub behind_name : drop past_name.at t ≡ x
  behind_name = stands-behind t run_tag x at_trace.at behind_trace

  pub in_trace : InTrace t (bytes "log") (bytes "trace") past_name
  in_trace = record { level_is = refl; log_is = log_is; trace_is = is_trace.named; opened_is = ne_eqb past_name.opened 0 (λ e. omega (arith, e)) }

  pub header_read : (e : Reached) (o m : ℕ) (lines : List (List ℕ)) → Reads t e o m past_name lines → Reads t e o (suc (suc (suc (suc (suc (suc m)))))) at_log lines
  unfolding closes_event
  header_read e o m lines r =
      reads_on t e o (suc (suc (suc (suc (suc m))))) at_log past_extension lines concept_passed
      (reads_on t e o (suc (suc (suc (suc m)))) past_extension past_time lines time_passed
      (reads_on t e o (suc (suc (suc m))) past_time past_global lines global_passed
      (reads_on t e o (suc (suc m)) past_global past_classifier lines classifier_passed
      (reads_on t e o (suc m) past_classifier at_trace lines trace_entered
      (reads_on t e o m at_trace past_name lines name_passed r refl) refl) refl) refl) refl) refl
