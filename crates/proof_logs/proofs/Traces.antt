-- The events of a printed log and its end: from the place before the first event on, the reader comes to the end of the text, with exactly those lines; and so it does where the end tags are not there yet. Assumes
-- nothing.
use Rattle.xml_skip.specs.Skipping.{Reached, fault_at}
use Rattle.std.specs.Prelude.{Ok}
use mathlib.Core.Path.{◌≡◌, ◌∙◌, refl, sym, ap, subst}
use mathlib.Core.Bool.{true, false}
use mathlib.Core.List.{List, [], ◌∷◌, ◌++◌, append_assoc}
use Prim.Native.Nat.{ℕ, zero, suc, ◌+◌, ◌<◌, ◌≤◌}
use native.Mathlib.Omega.{arith}
use lib.Dec.{eqb}
use lib.ListN.{length, drop, length-append, length-drop, get_or-eq_default}
use borrow.Author.Tests.{ne_eqb, le-leb}
use Rattle.base_words.specs.Pick.{if◌then◌or_else◌}
use Rattle.base_words.specs.Text.{bytes}
use Rattle.base_bytes.specs.Bytes.{past}
use Rattle.xml_characters.specs.Names.{is_blank}
use Rattle.xml_markup.specs.declared.Class.TheVariants.{Blanks}
use Rattle.xml_markup.specs.declared.Opener.TheVariants.{Other}
use Rattle.xml_markup.specs.Spans.{is_of, run, name_at, bytes_of, opens_name, opener}
use Rattle.xml_document.specs.Document.{outside_at}
use Rattle.xml_document.specs.Around.{last_from}
use Rattle.log_lines.specs.Entries.{entry_of}
use Rattle.log_text.specs.declared.Level.TheVariants.{Log, Trace, Event}
use Rattle.log_text.specs.declared.Cursor.{Cursor}
use Rattle.log_text.specs.declared.Move.TheVariants.{On, Done, Fault}
use Rattle.log_text.specs.Cursors.{reached, in_event, named, behind_event, behind_trace, lacks_by, tag_by as openTag}
use Rattle.log_text.specs.Inside.{ends_at, between, inside_at}
use Rattle.log_text.specs.Logs.{left_by, by_inside, advance, by_move, scan_in, closes_event, line_of, lines_in}
use Rattle.log_write.specs.Times.{stamp_text}
use Rattle.log_write.specs.Xes.{event_opening, event_closing, event_text, events_text, footer}
use Rattle.proof_local.proofs.Stands.{behind, rest}
use Rattle.proof_local.proofs.Elements.{EndAt, no_blank, newline, at_end, ends_there}
use Rattle.proof_logs.proofs.Known.{string_opening, date_tag, event_start, event_end, trace_end, log_end}
use Rattle.proof_logs.proofs.Events.{Plain, event_begun, line_says, string_passed, string_behind, date_passed, event_ended}
use Rattle.proof_logs.proofs.Stamps.{Stamped, none, dated, stamp_is}

-- from c on, m steps are enough: e is the reader's end, o the place behind the trace's start tag, and the lines are these
pub record Reads (t : List ℕ) (e : Reached) (o m : ℕ) (c : Cursor) (lines : List (List ℕ)) : Type 0 where
  pub ends : (n : ℕ) → m ≤ n → (scan_in n t c).end ≡ e
  pub opens : (n : ℕ) → m ≤ n → (scan_in n t c).last.opened ≡ o
  pub says : (n : ℕ) → m ≤ n → lines_in n t c ≡ lines

module _ (t : List ℕ) (e : Reached) (o m : ℕ) (c d : Cursor) (lines : List (List ℕ)) (goes : advance t c ≡ On d) (further : Reads t e o m d lines) where
  on_ends : (n : ℕ) → suc m ≤ n → (scan_in n t c).end ≡ e
  unfolding scan_in by_move
  on_ends zero h = absurd (omega arith)
  on_ends (suc n) h = rw goes (further.ends n (omega arith))

  on_opens : (n : ℕ) → suc m ≤ n → (scan_in n t c).last.opened ≡ o
  unfolding scan_in by_move
  on_opens zero h = absurd (omega arith)
  on_opens (suc n) h = rw goes (further.opens n (omega arith))

  between_says : closes_event c.level d.level ≡ false → (n : ℕ) → suc m ≤ n → lines_in n t c ≡ lines
  unfolding lines_in by_move if◌then◌or_else◌
  between_says k zero h = absurd (omega arith)
  between_says k (suc n) h = rw (goes, k) (further.says n (omega arith))

  event_says : closes_event c.level d.level ≡ true → (n : ℕ) → suc m ≤ n → lines_in n t c ≡ line_of t d ∷ lines
  unfolding lines_in by_move if◌then◌or_else◌
  event_says k zero h = absurd (omega arith)
  event_says k (suc n) h = rw (goes, k) (ap (λ (l : List (List ℕ)). line_of t d ∷ l) (further.says n (omega arith)))

  pub reads_on : closes_event c.level d.level ≡ false → Reads t e o (suc m) c lines
  reads_on k = record { ends = on_ends; opens = on_opens; says = between_says k }

  pub reads_line : closes_event c.level d.level ≡ true → Reads t e o (suc m) c (line_of t d ∷ lines)
  reads_line k = record { ends = on_ends; opens = on_opens; says = event_says k }

-- a step more is enough too
pub reads_more : {t : List ℕ} {e : Reached} {o m : ℕ} {c : Cursor} {lines : List (List ℕ)} → Reads t e o m c lines → Reads t e o (suc m) c lines
reads_more r = record { ends = λ n h. r.ends n (omega arith); opens = λ n h. r.opens n (omega arith); says = λ n h. r.says n (omega arith) }

module _ (t : List ℕ) (c d : Cursor) (goes : advance t c ≡ Done d) (last : last_from t d.at ≡ Ok (length t)) where
  done_ends : (n : ℕ) → 1 ≤ n → (scan_in n t c).end ≡ Ok (length t)
  unfolding scan_in by_move
  done_ends zero h = absurd (omega arith)
  done_ends (suc n) h = rw goes last

  done_opens : (n : ℕ) → 1 ≤ n → (scan_in n t c).last.opened ≡ d.opened
  unfolding scan_in by_move
  done_opens zero h = absurd (omega arith)
  done_opens (suc n) h = rw goes refl

  done_says : (n : ℕ) → 1 ≤ n → lines_in n t c ≡ []
  unfolding lines_in by_move
  done_says zero h = absurd (omega arith)
  done_says (suc n) h = rw goes refl

  pub reads_end : Reads t (Ok (length t)) d.opened 1 c []
  reads_end = record { ends = done_ends; opens = done_opens; says = done_says }

-- or the text ends there, before its end tags
module _ (t : List ℕ) (c : Cursor) (q : ℕ) (goes : advance t c ≡ Fault q) where
  stop_ends : (n : ℕ) → 1 ≤ n → (scan_in n t c).end ≡ fault_at q
  unfolding scan_in by_move
  stop_ends zero h = absurd (omega arith)
  stop_ends (suc n) h = rw goes refl

  stop_opens : (n : ℕ) → 1 ≤ n → (scan_in n t c).last.opened ≡ c.opened
  unfolding scan_in by_move
  stop_opens zero h = absurd (omega arith)
  stop_opens (suc n) h = rw goes refl

  stop_says : (n : ℕ) → 1 ≤ n → lines_in n t c ≡ []
  unfolding lines_in by_move
  stop_says zero h = absurd (omega arith)
  stop_says (suc n) h = rw goes refl

  pub reads_stop : Reads t (fault_at q) c.opened 1 c []
  reads_stop = record { ends = stop_ends; opens = stop_opens; says = stop_says }

-- in the trace of a log, whose tags have these names
pub record InTrace (t log trace : List ℕ) (c : Cursor) : Type 0 where
  pub level_is : c.level ≡ Trace
  pub log_is : bytes_of t (name_at t c.log) ≡ log
  pub trace_is : bytes_of t (name_at t c.trace) ≡ trace
  pub opened_is : eqb c.opened 0 ≡ false

-- THE END TAGS: the trace's at p, the log's at q, and the end behind it
module _ (t log trace x y : List ℕ) (c : Cursor) (k : InTrace t log trace c) (p q : ℕ) (blanks : run Blanks t c.at ≡ p) (trace-ends : EndAt t trace x p) (more : run Blanks t (p + 3 + length trace) ≡ q) (log-ends : EndAt t log y q) (last : last_from t (q + 3 + length log) ≡ Ok (length t)) where
  abbrev out : Cursor
  out = behind_trace c (p + 3 + length trace)

  trace_left : advance t c ≡ On out
  unfolding left_by lacks_by openTag
  trace_left = at_end t trace x c p blanks (rw k.level_is refl) trace-ends (rw k.level_is k.trace_is) ∙ rw k.level_is refl

  log_left : advance t out ≡ Done (reached out (q + 3 + length log))
  unfolding left_by lacks_by openTag
  log_left = at_end t log y out q more k.opened_is log-ends k.log_is

  not_closed : closes_event c.level Log ≡ false
  unfolding closes_event
  not_closed = rw k.level_is refl

  pub closing_read : Reads t (Ok (length t)) c.opened 2 c []
  closing_read = reads_on t (Ok (length t)) c.opened 1 c out [] trace_left (reads_end t out (reached out (q + 3 + length log)) log_left last) not_closed

module _ (t : List ℕ) (c : Cursor) (k : InTrace t (bytes "log") (bytes "trace") c) (stands : drop c.at t ≡ 10 ∷ footer) where
  trace_ended : EndAt t (bytes "trace") (10 ∷ (bytes "</log>" ++ (10 ∷ []))) (c.at + 1)
  unfolding footer
  trace_ended = trace_end t (10 ∷ (bytes "</log>" ++ (10 ∷ []))) (c.at + 1) (rest t (bytes "</trace>\n</log>\n") 10 c.at stands)

  log_ended : EndAt t (bytes "log") (10 ∷ []) (c.at + 1 + 3 + 5 + 1)
  log_ended = log_end t (10 ∷ []) (c.at + 1 + 3 + 5 + 1) (rest t (bytes "</log>" ++ (10 ∷ [])) 10 (c.at + 1 + 3 + 5) trace_ended.behind)

  pub footer_read : Reads t (Ok (length t)) c.opened 2 c []
  unfolding footer
  footer_read =
      closing_read t (bytes "log") (bytes "trace") (10 ∷ (bytes "</log>" ++ (10 ∷ []))) (10 ∷ []) c k (c.at + 1) (c.at + 1 + 3 + 5 + 1) (newline t (bytes "/trace>\n</log>\n") c.at stands) trace_ended (newline t (bytes "/log>\n") (c.at + 1 + 3 + 5) trace_ended.behind) log_ended
      (ends_there t (c.at + 1 + 3 + 5 + 1 + 3 + 3) log_ended.behind)

-- NO END TAGS YET: only the newline behind the last event
module _ (t : List ℕ) (c : Cursor) (stands : drop c.at t ≡ 10 ∷ []) where
  long : length t ≡ c.at + 1
  long = omega (arith, length-drop c.at t, ap length stands)

  blank : run Blanks t c.at ≡ length t
  unfolding run past is_of is_blank if◌then◌or_else◌
  blank = rw stands (sym long)

  no_opener : opener t (length t) ≡ Other
  unfolding opener opens_name if◌then◌or_else◌
  no_opener = let end : length t ≤ length t = omega arith in rw (get_or-eq_default t 0 end)

  stopped : advance t c ≡ Fault (length t)
  unfolding advance by_inside inside_at between ends_at outside_at if◌then◌or_else◌
  stopped = rw (blank, no_opener, le-leb (length t) (length t) (omega arith)) refl

  pub stop_read : Reads t (fault_at (length t)) c.opened 1 c []
  stop_read = reads_stop t c (length t) stopped

-- ITS DATE, or none: x stands behind it
module _ (t stamp x : List ℕ) (c : Cursor) (level_is : c.level ≡ Event) (stands : drop c.at t ≡ stamp ++ x) where
  abbrev pub past_stamp : Cursor
  past_stamp = reached c (c.at + length stamp)

  none_passed : stamp ≡ [] → past_stamp ≡ c
  none_passed e = ap (reached c) (ap (λ (w : List ℕ). c.at + length w) e ∙ (let z : c.at + 0 ≡ c.at = omega arith in z))

  date_says : closes_event c.level c.level ≡ false
  unfolding closes_event
  date_says = rw level_is refl

  pub stamp_read : Stamped stamp → (e : Reached) (o m : ℕ) (lines : List (List ℕ)) → Reads t e o m past_stamp lines → Reads t e o (suc m) c lines
  stamp_read (none is) e o m lines r = reads_more (subst (λ (d : Cursor). Reads t e o m d lines) (none_passed is) r)
  stamp_read (dated v is plain) e o m lines r =
      reads_on t e o m c past_stamp lines
      (date_passed t v x c.at (stands ∙ ap (λ (w : List ℕ). w ++ x) is ∙ ap (λ (w : List ℕ). date_tag ++ w) (append_assoc v (bytes "\"/>") x)) plain c level_is refl
      ∙ ap (λ (q : ℕ). On (reached c q)) (let z : c.at + 34 + length v + 3 ≡ c.at + length stamp = omega (arith, ap length is, length-append date_tag (v ++ bytes "\"/>"), length-append v (bytes "\"/>")) in z))
      r date_says

-- AN EVENT
module _ (t line stamp x : List ℕ) (c : Cursor) (k : InTrace t (bytes "log") (bytes "trace") c) (stands : drop c.at t ≡ 10 ∷ (bytes "<event>" ++ (string_opening ++ (line ++ (bytes "\"/>" ++ (stamp ++ (bytes "</event>" ++ x))))))) (plain : Plain line) (entry : (entry_of line).right ≡ true) (stamped : Stamped stamp) where
  abbrev p : ℕ
  p = c.at + 1

  abbrev opened : Cursor
  opened = in_event c p (p + 7)

  abbrev lined : Cursor
  lined = named opened (p + 7 + 32 + 2) (p + 7 + 32 + 2 + length line) (p + 7 + 34 + length line + 3)

  abbrev timed : Cursor
  timed = reached lined (lined.at + length stamp)

  abbrev pub ended : Cursor
  ended = behind_event t timed (timed.at + 3 + 5)

  event_stands : drop p t ≡ bytes "<event>" ++ (string_opening ++ (line ++ (bytes "\"/>" ++ (stamp ++ (bytes "</event>" ++ x)))))
  event_stands = rest t (bytes "<event>" ++ (string_opening ++ (line ++ (bytes "\"/>" ++ (stamp ++ (bytes "</event>" ++ x)))))) 10 c.at stands

  string_stands : drop (p + 7) t ≡ string_opening ++ (line ++ (bytes "\"/>" ++ (stamp ++ (bytes "</event>" ++ x))))
  string_stands = behind t (bytes "<event>") (string_opening ++ (line ++ (bytes "\"/>" ++ (stamp ++ (bytes "</event>" ++ x))))) p event_stands

  stamp_stands : drop lined.at t ≡ stamp ++ (bytes "</event>" ++ x)
  stamp_stands = string_behind t line (stamp ++ (bytes "</event>" ++ x)) (p + 7) string_stands plain

  end_stands : drop timed.at t ≡ bytes "</event>" ++ x
  end_stands = behind t stamp (bytes "</event>" ++ x) lined.at stamp_stands

  event_ends : EndAt t (bytes "event") x timed.at
  event_ends = event_end t x timed.at end_stands

  named_event : bytes_of t (name_at t p) ≡ bytes "event"
  named_event = (event_start t (string_opening ++ (line ++ (bytes "\"/>" ++ (stamp ++ (bytes "</event>" ++ x))))) p event_stands).named

  has_line : eqb timed.to 0 ≡ false
  has_line = ne_eqb timed.to 0 (λ e. omega (arith, e))

  not_yet : closes_event c.level Event ≡ false
  unfolding closes_event
  not_yet = rw k.level_is refl

  inside : closes_event Event Event ≡ false
  unfolding closes_event
  inside = refl

  closes : closes_event Event Trace ≡ true
  unfolding closes_event
  closes = refl

  says_line : line_of t ended ≡ line
  unfolding line_of
  says_line = line_says t line (stamp ++ (bytes "</event>" ++ x)) (p + 7) string_stands plain

  pub event_behind : drop ended.at t ≡ x
  event_behind = event_ends.behind

  pub event_inside : InTrace t (bytes "log") (bytes "trace") ended
  event_inside = record { level_is = refl; log_is = k.log_is; trace_is = k.trace_is; opened_is = k.opened_is }

  pub event_read : (e : Reached) (m : ℕ) (lines : List (List ℕ)) → Reads t e c.opened m ended lines → Reads t e c.opened (suc (suc (suc (suc m)))) c (line ∷ lines)
  event_read e m lines r =
      reads_on t e c.opened (suc (suc (suc m))) c opened (line ∷ lines) (event_begun t (string_opening ++ (line ++ (bytes "\"/>" ++ (stamp ++ (bytes "</event>" ++ x))))) c k.level_is stands)
      (reads_on t e c.opened (suc (suc m)) opened lined (line ∷ lines) (string_passed t line (stamp ++ (bytes "</event>" ++ x)) (p + 7) string_stands plain opened refl refl refl entry)
      (stamp_read t stamp (bytes "</event>" ++ x) lined refl stamp_stands stamped e c.opened (suc m) (line ∷ lines)
      (subst (λ (l : List ℕ). Reads t e c.opened (suc m) timed (l ∷ lines)) says_line (reads_line t e c.opened m timed ended lines (event_ended t (bytes "event") x timed refl has_line named_event (no_blank t (bytes "/event>" ++ x) timed.at end_stands) event_ends) r closes)))
      inside)
      not_yet

-- ALL OF THEM
abbrev pub Each : (List ℕ → Type 0) → List (List ℕ) → Type 0
Each P [] = Unit {0}
Each P (line ∷ lines) = P line × Each P lines

-- a line that XML writes as it is, and that names a step or a post
pub record Entry (line : List ℕ) : Type 0 where
  pub plain : Plain line
  pub right : (entry_of line).right ≡ true

abbrev pub steps : List (List ℕ) → ℕ → ℕ
steps [] m = m
steps (line ∷ lines) m = suc (suc (suc (suc (steps lines m))))

pub few_steps : (moments : ℕ → ℕ) (lines : List (List ℕ)) (m : ℕ) → steps lines m ≤ length (events_text moments lines) + m
unfolding events_text event_text event_opening
few_steps moments [] m = omega arith
few_steps moments (line ∷ lines) m =
    omega (
      arith,
      few_steps (λ k. moments (suc k)) lines m,
      length-append (event_text (moments 0) line) (events_text (λ k. moments (suc k)) lines),
      length-append (event_opening ++ line) (event_closing (moments 0)),
      length-append event_opening line,
    )

-- x is what stands behind them
module _ (x : List ℕ) where
  event_first : (moments : ℕ → ℕ) (line : List ℕ) (lines : List (List ℕ)) → events_text moments (line ∷ lines) ++ x ≡ bytes "<event>" ++ (string_opening ++ (line ++ (bytes "\"/>" ++ (stamp_text (moments 0) ++ (bytes "</event>" ++ (10 ∷ (events_text (λ k. moments (suc k)) lines ++ x)))))))
  unfolding events_text event_text event_opening event_closing
  event_first moments line lines =
      let rest : List ℕ = events_text (λ k. moments (suc k)) lines in
      let s : List ℕ = stamp_text (moments 0) in
      ap (λ (l : List ℕ). bytes "<event>" ++ (string_opening ++ l))
      (append_assoc (line ++ (bytes "\"/>" ++ s ++ bytes "</event>\n")) rest x
      ∙ append_assoc line (bytes "\"/>" ++ s ++ bytes "</event>\n") (rest ++ x)
      ∙ ap (λ (l : List ℕ). line ++ (bytes "\"/>" ++ l)) (append_assoc s (bytes "</event>\n") (rest ++ x)))

  -- from any cursor before it on
  abbrev pub Onward : List ℕ → Reached → ℕ → Type 0
  Onward t e m = (d : Cursor) → InTrace t (bytes "log") (bytes "trace") d → drop d.at t ≡ 10 ∷ x → Reads t e d.opened m d []

  module _ (t : List ℕ) (e : Reached) (m : ℕ) (onward : Onward t e m) where
    pub events_read : (moments : ℕ → ℕ) (lines : List (List ℕ)) (c : Cursor) → InTrace t (bytes "log") (bytes "trace") c → drop c.at t ≡ 10 ∷ (events_text moments lines ++ x) → Each Entry lines → Reads t e c.opened (steps lines m) c lines
    events_read moments [] c k s a = onward c k (unfold events_text in s)
    events_read moments (line ∷ lines) c k s a =
        event_read t line (stamp_text (moments 0)) later c k stands a.0.plain a.0.right (stamp_is (moments 0)) e (steps lines m) lines
        (events_read (λ i. moments (suc i)) lines (ended t line (stamp_text (moments 0)) later c k stands a.0.plain a.0.right (stamp_is (moments 0))) (event_inside t line (stamp_text (moments 0)) later c k stands a.0.plain a.0.right (stamp_is (moments 0))) (event_behind t line (stamp_text (moments 0)) later c k stands a.0.plain a.0.right (stamp_is (moments 0))) a.1)
      where
        later : List ℕ
        later = 10 ∷ (events_text (λ i. moments (suc i)) lines ++ x)

        stands : drop c.at t ≡ 10 ∷ (bytes "<event>" ++ (string_opening ++ (line ++ (bytes "\"/>" ++ (stamp_text (moments 0) ++ (bytes "</event>" ++ later))))))
        stands = s ∙ ap (λ (l : List ℕ). 10 ∷ l) (event_first moments line lines)
