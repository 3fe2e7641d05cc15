-- A reader of a log step by step, as the loop goes. Assumes nothing.
use Rattle.std.specs.Prelude.{Option, Some, None, Ok, Err}
use mathlib.Core.Path.{◌≡◌, ◌∙◌, refl, sym, ap}
use mathlib.Core.Bool.{Bool, true, false}
use mathlib.Core.List.{List, [], ◌∷◌}
use Prim.Native.Nat.{ℕ, zero, suc, ◌+◌, ◌-◌, ◌<◌, ◌≤◌}
use native.Mathlib.Omega.{arith}
use lib.Dec.{eqb}
use lib.ListN.{length, get_or-eq_default}
use Rattle.base_words.specs.Pick.{if◌then◌or_else◌}
use Rattle.base_words.specs.Text.{bytes}
use Rattle.base_words.specs.Words.{part}
use Rattle.base_bytes.specs.Bytes.{same_bytes}
use Rattle.xml_markup.specs.declared.Class.TheVariants.{Blanks}
use Rattle.xml_markup.specs.declared.Opener.TheVariants.{Other}
use Rattle.xml_markup.specs.Markup.{markup}
use Rattle.xml_markup.specs.Spans.{run, opens_name, opener, is_called, attribute}
use Rattle.xml_skip.specs.declared.Part.{Part}
use Rattle.xml_skip.specs.declared.Part.TheVariants.{Element as PartElement, Close as PartClose, On as PartOn, Fault as PartFault}
use Rattle.xml_skip.specs.declared.Tag.{Tag}
use Rattle.xml_skip.specs.declared.Tag.TheVariants.{Open, Empty, Fault as TagFault}
use Rattle.xml_skip.specs.Skipping.{part_at, tag_of, skipped, Reached, fault_at}
use Rattle.xml_skip.proofs.Laws.{Further, Onward as PartOnward, Behind, part_onward, tag_behind, skipped_further}
use Rattle.xml_document.specs.declared.Outside.{Outside}
use Rattle.xml_document.specs.declared.Outside.TheVariants.{Element as OutsideElement, On as OutsideOn, Nothing, Fault as OutsideFault}
use Rattle.xml_document.specs.Document.{outside_at}
use Rattle.xml_document.specs.Around.{last_from}
use Rattle.xml_document.proofs.Laws.{Beyond as OutsideBeyond, at_beyond, ran, step_end}
use Rattle.log_lines.specs.Entries.{entry_of}
use Rattle.log_text.specs.declared.Inside.{Inside}
use Rattle.log_text.specs.declared.Inside.TheVariants.{Element, Close, On as Onward, Fault as InsideFault}
use Rattle.log_text.specs.declared.Level.{Level}
use Rattle.log_text.specs.declared.Level.TheVariants.{Log, Trace, Event}
use Rattle.log_text.specs.declared.Cursor.{Cursor}
use Rattle.log_text.specs.declared.Move.{Move}
use Rattle.log_text.specs.declared.Move.TheVariants.{On, Done, Fault}
use Rattle.log_text.specs.Inside.{ends_at, closing, between, inside_at}
use Rattle.log_text.specs.Cursors.{tag_by, lacks_by}
use Rattle.log_text.specs.Logs.{over, over_named, line_by, name_by, string_by, string_at, trace_by, event_by, is_of_log, other_at, entered_by, left_by, by_inside, advance, scanned, by_move, scan_in, scan_from, closes_event, line_of, lines_in, lines_from}

-- WHAT IS PASSED IS FURTHER ON
abbrev Ahead : ℕ → Inside → Type 0
Ahead p (Element q) = p ≤ q
Ahead p (Close q) = p < q
Ahead p (Onward q) = p < q
Ahead p (InsideFault q) = Unit {0}

ahead_from : (p q : ℕ) (g : Inside) → p ≤ q → Ahead q g → Ahead p g
ahead_from p q (Element x) h k = omega (arith, h, k)
ahead_from p q (Close x) h k = omega (arith, h, k)
ahead_from p q (Onward x) h k = omega (arith, h, k)
ahead_from p q (InsideFault x) h k = tt

ahead_if : (p : ℕ) (b : Bool) (x y : Inside) → Ahead p x → Ahead p y → Ahead p (if b then x or_else y)
unfolding if◌then◌or_else◌
ahead_if p true x y h k = h
ahead_if p false x y h k = k

closing_ahead : (g : Part) (p : ℕ) → PartOnward p g → Ahead p (closing g p)
unfolding closing
closing_ahead PartElement p h = tt
closing_ahead (PartClose q) p h = h
closing_ahead (PartOn q) p h = tt
closing_ahead (PartFault q) p h = tt

between_ahead : (o : Outside) (p e : ℕ) → OutsideBeyond p o → Ahead p (between o e)
unfolding between
between_ahead (OutsideElement q) p e h = h
between_ahead (OutsideOn q) p e h = h
between_ahead Nothing p e h = tt
between_ahead (OutsideFault q) p e h = tt

inside_ahead : (b : Bool) (t : List ℕ) (outer p : ℕ) → Ahead p (inside_at b t outer p)
unfolding inside_at
inside_ahead b t outer p =
    ahead_if p (ends_at (opener t p)) _ _
    (ahead_if p b (InsideFault p) (closing (part_at t outer p) p) tt (closing_ahead (part_at t outer p) p (part_onward t outer p)))
    (between_ahead (outside_at t p) p (length t) (at_beyond t p))

abbrev pub Beyond : ℕ → Move → Type 0
Beyond p (On c) = p < c.at
Beyond p (Done c) = p < c.at
Beyond p (Fault q) = Unit {0}

beyond_from : (p q : ℕ) (g : Move) → p ≤ q → Beyond q g → Beyond p g
beyond_from p q (On c) h k = omega (arith, h, k)
beyond_from p q (Done c) h k = omega (arith, h, k)
beyond_from p q (Fault x) h k = tt

beyond_if : (p : ℕ) (b : Bool) (x y : Move) → Beyond p x → Beyond p y → Beyond p (if b then x or_else y)
unfolding if◌then◌or_else◌
beyond_if p true x y h k = h
beyond_if p false x y h k = k

over_beyond : (p : ℕ) (s : Reached) (c : Cursor) → Further p s → Beyond p (over s c)
unfolding over
over_beyond p (Ok q) c h = h
over_beyond p (Err q) c h = tt

named_beyond : (p : ℕ) (s : Reached) (c : Cursor) (from to : ℕ) → Further p s → Beyond p (over_named s c from to)
unfolding over_named
named_beyond p (Ok q) c from to h = h
named_beyond p (Err q) c from to h = tt

trace_beyond : (g : Tag) (c : Cursor) (p : ℕ) → Behind p g → Beyond p (trace_by g c p)
unfolding trace_by
trace_beyond (Open q) c p h = h
trace_beyond (Empty q) c p h = h
trace_beyond (TagFault q) c p h = tt

event_beyond : (g : Tag) (c : Cursor) (p : ℕ) → Behind p g → Beyond p (event_by g c p)
unfolding event_by
event_beyond (Open q) c p h = h
event_beyond (Empty q) c p h = tt
event_beyond (TagFault q) c p h = tt

module _ (t : List ℕ) (c : Cursor) (p : ℕ) where
  skip_beyond : Beyond p (over (skipped t p) c)
  skip_beyond = over_beyond p (skipped t p) c (skipped_further t p)

  line_beyond : (a : Option (ℕ × ℕ)) (end : ℕ) → Beyond p (line_by a t c p end)
  unfolding line_by
  line_beyond (Some (from, to)) end = beyond_if p (entry_of (part t from to)).right _ _ (named_beyond p (skipped t p) c from to (skipped_further t p)) tt
  line_beyond None end = tt

  name_beyond : (a : Option (ℕ × ℕ)) (end : ℕ) → Beyond p (name_by a t c p end)
  unfolding name_by
  name_beyond (Some (from, to)) end =
      beyond_if p (same_bytes (part t from to) (bytes "concept:name")) _ _
      (beyond_if p (eqb c.to 0) _ _ (line_beyond (attribute t p (bytes "value")) end) tt)
      skip_beyond
  name_beyond None end = skip_beyond

  string_beyond : (g : Tag) → Beyond p (string_by g t c p)
  unfolding string_by
  string_beyond (Open q) = name_beyond (attribute t p (bytes "key")) (q - 1)
  string_beyond (Empty q) = name_beyond (attribute t p (bytes "key")) (q - 2)
  string_beyond (TagFault q) = tt

  other_beyond : Beyond p (other_at t c p)
  unfolding other_at
  other_beyond = beyond_if p (is_of_log t p) _ _ tt skip_beyond

  entered_beyond : (l : Level) → Beyond p (entered_by l t c p)
  unfolding entered_by string_at
  entered_beyond Log =
      beyond_if p (is_called t p (bytes "trace")) _ _
      (beyond_if p (eqb c.opened 0) _ _ (trace_beyond (tag_of (markup t p) p) c p (tag_behind t p)) tt)
      other_beyond
  entered_beyond Trace = beyond_if p (is_called t p (bytes "event")) _ _ (event_beyond (tag_of (markup t p) p) c p (tag_behind t p)) other_beyond
  entered_beyond Event = beyond_if p (is_called t p (bytes "string")) _ _ (string_beyond (tag_of (markup t p) p)) other_beyond

left_beyond : (l : Level) (t : List ℕ) (c : Cursor) (p q : ℕ) → p < q → Beyond p (left_by l t c q)
unfolding left_by
left_beyond Log t c p q h = h
left_beyond Trace t c p q h = h
left_beyond Event t c p q h = h

inside_beyond : (t : List ℕ) (c : Cursor) (p : ℕ) (g : Inside) → Ahead p g → Beyond p (by_inside g t c)
unfolding by_inside
inside_beyond t c p (Element q) h = beyond_from p q (entered_by c.level t c q) h (entered_beyond t c q c.level)
inside_beyond t c p (Close q) h = left_beyond c.level t c p q h
inside_beyond t c p (Onward q) h = h
inside_beyond t c p (InsideFault q) h = tt

pub advance_beyond : (t : List ℕ) (c : Cursor) → Beyond c.at (advance t c)
unfolding advance
advance_beyond t c =
    inside_beyond t c c.at (inside_at (lacks_by c.level c) t (tag_by c.level c) (run Blanks t c.at))
    (ahead_from c.at (run Blanks t c.at) (inside_at (lacks_by c.level c) t (tag_by c.level c) (run Blanks t c.at)) (ran t c.at)
    (inside_ahead (lacks_by c.level c) t (tag_by c.level c) (run Blanks t c.at)))

-- THE END OF THE TEXT
opener_end : (t : List ℕ) (p : ℕ) → length t ≤ p → opener t p ≡ Other
unfolding opener opens_name if◌then◌or_else◌
opener_end t p h = rw (get_or-eq_default t 0 h)

pub advance_end : (t : List ℕ) (c : Cursor) → length t ≤ c.at → advance t c ≡ Fault (length t)
unfolding advance by_inside inside_at between ends_at if◌then◌or_else◌
advance_end t c h = rw (opener_end t (run Blanks t c.at) (omega (arith, h, ran t c.at)), step_end t c.at h)

-- ENOUGH STEPS
by_move_same : {A : Type 0} (p : ℕ) (f h : Cursor → A) → ((d : Cursor) → p < d.at → f d ≡ h d) → (done : Cursor → A) (fault : ℕ → A) (g : Move) → Beyond p g → by_move g f done fault ≡ by_move g h done fault
unfolding by_move
by_move_same p f h same done fault (On d) k = same d k
by_move_same p f h same done fault (Done d) k = refl
by_move_same p f h same done fault (Fault q) k = refl

-- any two numbers of steps that are enough give the same
pub scan_stable : (n m : ℕ) (t : List ℕ) (c : Cursor) → length t ≤ c.at + n → length t ≤ c.at + m → scan_in n t c ≡ scan_in m t c
unfolding scan_in by_move
scan_stable zero zero t c h k = refl
scan_stable zero (suc m) t c h k = sym (rw (advance_end t c (omega arith)))
scan_stable (suc n) zero t c h k = rw (advance_end t c (omega arith))
scan_stable (suc n) (suc m) t c h k =
    by_move_same c.at (scan_in n t) (scan_in m t) (λ d l. scan_stable n m t d (omega arith) (omega arith)) (λ d. scanned (last_from t d.at) d) (λ q. scanned (fault_at q) c) (advance t c) (advance_beyond t c)

scan_is : (t : List ℕ) (c : Cursor) → scan_from t c ≡ by_move (advance t c) (scan_from t) (λ d. scanned (last_from t d.at) d) (λ q. scanned (fault_at q) c)
unfolding scan_from scan_in
scan_is t c = scan_stable (length t) (suc (length t)) t c (omega arith) (omega arith)

pub scan_end : (t : List ℕ) (c : Cursor) → length t ≤ c.at → scan_from t c ≡ scanned (fault_at (length t)) c
unfolding by_move
scan_end t c h = scan_is t c ∙ rw (advance_end t c h)

-- a line, where the step closed an event, before the lines that follow
unfoldable pub with_line : List ℕ → Cursor → Cursor → List (List ℕ) → List (List ℕ)
with_line t c d rest = if closes_event c.level d.level then line_of t d ∷ rest or_else rest

lines_in_lem : (n : ℕ) (t : List ℕ) (c : Cursor) → lines_in (suc n) t c ≡ by_move (advance t c) (λ d. with_line t c d (lines_in n t d)) (λ d. []) (λ q. [])
unfolding lines_in with_line
lines_in_lem n t c = refl

pub lines_stable : (n m : ℕ) (t : List ℕ) (c : Cursor) → length t ≤ c.at + n → length t ≤ c.at + m → lines_in n t c ≡ lines_in m t c
unfolding lines_in by_move
lines_stable zero zero t c h k = refl
lines_stable zero (suc m) t c h k = sym (rw (advance_end t c (omega arith)))
lines_stable (suc n) zero t c h k = rw (advance_end t c (omega arith))
lines_stable (suc n) (suc m) t c h k =
    lines_in_lem n t c
    ∙ by_move_same c.at (λ d. with_line t c d (lines_in n t d)) (λ d. with_line t c d (lines_in m t d)) (λ d l. ap (with_line t c d) (lines_stable n m t d (omega arith) (omega arith))) (λ d. []) (λ q. []) (advance t c) (advance_beyond t c)
    ∙ sym (lines_in_lem m t c)

-- the equation that the lines are
pub lines_is : (t : List ℕ) (c : Cursor) → lines_from t c ≡ by_move (advance t c) (λ d. with_line t c d (lines_from t d)) (λ d. []) (λ q. [])
unfolding lines_from
lines_is t c = lines_stable (length t) (suc (length t)) t c (omega arith) (omega arith) ∙ lines_in_lem (length t) t c

-- one step, as the loop takes it
module _ (t : List ℕ) (c : Cursor) (m : Move) (em : m ≡ advance t c) where
  pub scan_on : (d : Cursor) → m ≡ On d → scan_from t c ≡ scan_from t d
  unfolding by_move
  scan_on d e = scan_is t c ∙ rw (← em, e)

  pub scan_done : (d : Cursor) → m ≡ Done d → (l : Reached) → l ≡ last_from t d.at → scan_from t c ≡ scanned l d
  unfolding by_move
  scan_done d e l el = scan_is t c ∙ rw (← em, e, el)

  pub scan_fault : (q : ℕ) → m ≡ Fault q → scan_from t c ≡ scanned (fault_at q) c
  unfolding by_move
  scan_fault q e = scan_is t c ∙ rw (← em, e)

  pub step_past : (d : Cursor) → m ≡ On d → c.at < d.at
  step_past d e = rw (← em, e) at (advance_beyond t c)
