-- WHAT A READER OF A LOG HAS PASSED: where the trace's start tag ended, and the end of the last whole event, or else of that tag. Each is the place of a cursor that the reader was at. Assumes nothing.
use Rattle.std.specs.Prelude.{Option, Some, None, Ok, Err}
use mathlib.Core.Logic.{◌⊎◌, inl, inr}
use mathlib.Core.Path.{◌≡◌, ◌∙◌, refl, sym, ap, subst}
use mathlib.Core.Bool.{Bool, true, false, false≢true}
use mathlib.Core.List.{List}
use Prim.Native.Nat.{ℕ, zero, suc, ◌-◌, ◌<◌}
use native.Mathlib.Omega.{arith}
use lib.Dec.{eqb}
use lib.ListN.{length}
use borrow.Author.Tests.{eqb-true, ne_eqb}
use Rattle.base_words.specs.Pick.{if◌then◌or_else◌}
use Rattle.base_words.specs.Text.{bytes}
use Rattle.base_words.specs.Words.{part}
use Rattle.base_bytes.specs.Bytes.{same_bytes}
use Rattle.xml_markup.specs.declared.Class.TheVariants.{Blanks}
use Rattle.xml_markup.specs.Markup.{markup}
use Rattle.xml_markup.specs.Spans.{run, is_called, attribute, opener}
use Rattle.xml_skip.specs.declared.Tag.{Tag}
use Rattle.xml_skip.specs.declared.Tag.TheVariants.{Open, Empty, Fault as TagFault}
use Rattle.xml_skip.specs.Skipping.{tag_of, skipped, Reached}
use Rattle.xml_document.specs.declared.Outside.{Outside}
use Rattle.xml_document.specs.declared.Outside.TheVariants.{Element as OutsideElement, On as OutsideOn, Nothing, Fault as OutsideFault}
use Rattle.xml_document.specs.Document.{outside_at}
use Rattle.log_lines.specs.Entries.{entry_of}
use Rattle.log_text.specs.declared.Inside.{Inside}
use Rattle.log_text.specs.declared.Inside.TheVariants.{Element, Close, On as Onward, Fault as InsideFault}
use Rattle.log_text.specs.declared.Level.{Level}
use Rattle.log_text.specs.declared.Level.TheVariants.{Log, Trace, Event}
use Rattle.log_text.specs.declared.Cursor.{Cursor}
use Rattle.log_text.specs.declared.Move.{Move}
use Rattle.log_text.specs.declared.Move.TheVariants.{On, Done, Fault}
use Rattle.log_text.specs.Inside.{ends_at, between, inside_at}
use Rattle.log_text.specs.Cursors.{reached, traced, named, behind_event, tag_by, lacks_by}
use Rattle.log_text.specs.Logs.{over, over_named, line_by, name_by, string_by, string_at, trace_by, event_by, is_of_log, other_at, entered_by, left_by, by_inside, advance}
use Rattle.log_text.proofs.Laws.{Beyond, advance_beyond}
use Rattle.proof_local.proofs.Reached.{Reaches}

-- what stays from move to move
pub record Same (c d : Cursor) : Type 0 where
  pub log : d.log ≡ c.log
  pub trace : d.trace ≡ c.trace
  pub opened : d.opened ≡ c.opened
  pub events : d.events ≡ c.events
  pub kept : d.kept ≡ c.kept

-- in the trace or in an event: the trace's start tag is no empty one
abbrev pub InTrace : List ℕ → Cursor → Level → Type 0
InTrace t c Log = Unit {0}
InTrace t c Trace = (q : ℕ) × (tag_of (markup t c.trace) c.trace ≡ Open q)
InTrace t c Event = (q : ℕ) × (tag_of (markup t c.trace) c.trace ≡ Open q)

-- one move: what was passed stays, or the trace is opened, or an event is closed
pub data Goes (t : List ℕ) (c d : Cursor) : Type 0 where
  stays : Same c d → (InTrace t c c.level → InTrace t d d.level) → Goes t c d
  opens : (p q : ℕ) → c.opened ≡ 0 → tag_of (markup t p) p ≡ Open q → d ≡ traced Trace c p q → Goes t c d
  empties : (p q : ℕ) → c.opened ≡ 0 → tag_of (markup t p) p ≡ Empty q → d ≡ traced Log c p q → Goes t c d
  closes : (q : ℕ) → c.level ≡ Event → d ≡ behind_event t c q → Goes t c d

-- behind the log all that was passed stays, and its trace was passed
abbrev pub GoesBy : List ℕ → Cursor → Move → Type 0
GoesBy t c (On d) = Goes t c d
GoesBy t c (Done d) = Same c d × (eqb c.opened 0 ≡ false)
GoesBy t c (Fault q) = Unit {0}

-- what lacks something is not left by its end tag
abbrev is_close : Inside → Bool
is_close (Element p) = false
is_close (Close q) = true
is_close (Onward q) = false
is_close (InsideFault q) = false

between_none : (o : Outside) (e : ℕ) → is_close (between o e) ≡ false
unfolding between
between_none (OutsideElement p) e = refl
between_none (OutsideOn q) e = refl
between_none Nothing e = refl
between_none (OutsideFault q) e = refl

lacking_none : (t : List ℕ) (p : ℕ) (b : Bool) → is_close (if b then InsideFault p or_else between (outside_at t p) (length t)) ≡ false
unfolding if◌then◌or_else◌
lacking_none t p true = refl
lacking_none t p false = between_none (outside_at t p) (length t)

not_lacking : (t : List ℕ) (outer p : ℕ) (b : Bool) (q : ℕ) → inside_at b t outer p ≡ Close q → b ≡ false
unfolding inside_at if◌then◌or_else◌
not_lacking t outer p true q e = absurd (false≢true (sym (lacking_none t p (ends_at (opener t p))) ∙ ap is_close e))
not_lacking t outer p false q e = refl

module _ (t : List ℕ) (c : Cursor) where
  goes_if : (b : Bool) (x y : Move) → (b ≡ true → GoesBy t c x) → GoesBy t c y → GoesBy t c (if b then x or_else y)
  unfolding if◌then◌or_else◌
  goes_if true x y h k = h refl
  goes_if false x y h k = k

  as_in : (d : Cursor) (l : Level) → d.trace ≡ c.trace → InTrace t c l → InTrace t d l
  as_in d Log e k = tt
  as_in d Trace e k = rw e k
  as_in d Event e k = rw e k

  reached_goes : (q : ℕ) → Goes t c (reached c q)
  reached_goes q = stays (record { log = refl; trace = refl; opened = refl; events = refl; kept = refl }) (as_in (reached c q) c.level refl)

  over_goes : (s : Reached) → GoesBy t c (over s c)
  unfolding over
  over_goes (Ok q) = reached_goes q
  over_goes (Err q) = tt

  named_goes : (s : Reached) (from to : ℕ) → GoesBy t c (over_named s c from to)
  unfolding over_named
  named_goes (Ok q) from to = stays (record { log = refl; trace = refl; opened = refl; events = refl; kept = refl }) (as_in (named c from to q) c.level refl)
  named_goes (Err q) from to = tt

  line_goes : (a : Option (ℕ × ℕ)) (p end : ℕ) → GoesBy t c (line_by a t c p end)
  unfolding line_by
  line_goes (Some (from, to)) p end = goes_if (entry_of (part t from to)).right _ (Fault (from - 1)) (λ h. named_goes (skipped t p) from to) tt
  line_goes None p end = tt

  name_goes : (a : Option (ℕ × ℕ)) (p end : ℕ) → GoesBy t c (name_by a t c p end)
  unfolding name_by
  name_goes (Some (from, to)) p end =
      goes_if (same_bytes (part t from to) (bytes "concept:name")) _ (over (skipped t p) c)
      (λ h. goes_if (eqb c.to 0) _ (Fault (from - 1)) (λ k. line_goes (attribute t p (bytes "value")) p end) tt)
      (over_goes (skipped t p))
  name_goes None p end = over_goes (skipped t p)

  string_goes : (g : Tag) (p : ℕ) → GoesBy t c (string_by g t c p)
  unfolding string_by
  string_goes (Open q) p = name_goes (attribute t p (bytes "key")) p (q - 1)
  string_goes (Empty q) p = name_goes (attribute t p (bytes "key")) p (q - 2)
  string_goes (TagFault q) p = tt

  other_goes : (p : ℕ) → GoesBy t c (other_at t c p)
  unfolding other_at
  other_goes p = goes_if (is_of_log t p) (Fault p) (over (skipped t p) c) (λ h. tt) (over_goes (skipped t p))

  trace_goes : (p : ℕ) (g : Tag) → g ≡ tag_of (markup t p) p → c.opened ≡ 0 → GoesBy t c (trace_by g c p)
  unfolding trace_by
  trace_goes p (Open q) e z = opens p q z (sym e) refl
  trace_goes p (Empty q) e z = empties p q z (sym e) refl
  trace_goes p (TagFault q) e z = tt

  event_goes : (p : ℕ) (g : Tag) → c.level ≡ Trace → GoesBy t c (event_by g c p)
  unfolding event_by
  event_goes p (Open q) l = stays (record { log = refl; trace = refl; opened = refl; events = refl; kept = refl }) (λ k. subst (InTrace t c) l k)
  event_goes p (Empty q) l = tt
  event_goes p (TagFault q) l = tt

  entered_goes : (p : ℕ) (l : Level) → c.level ≡ l → GoesBy t c (entered_by l t c p)
  unfolding entered_by string_at
  entered_goes p Log e =
      goes_if (is_called t p (bytes "trace")) _ (other_at t c p)
      (λ h. goes_if (eqb c.opened 0) _ (Fault p) (λ k. trace_goes p (tag_of (markup t p) p) refl (eqb-true c.opened 0 k)) tt)
      (other_goes p)
  entered_goes p Trace e = goes_if (is_called t p (bytes "event")) _ (other_at t c p) (λ h. event_goes p (tag_of (markup t p) p) e) (other_goes p)
  entered_goes p Event e = goes_if (is_called t p (bytes "string")) _ (other_at t c p) (λ h. string_goes (tag_of (markup t p) p) p) (other_goes p)

  left_goes : (q : ℕ) (l : Level) → c.level ≡ l → lacks_by l c ≡ false → GoesBy t c (left_by l t c q)
  unfolding left_by lacks_by
  left_goes q Log e f = (record { log = refl; trace = refl; opened = refl; events = refl; kept = refl }, f)
  left_goes q Trace e f = stays (record { log = refl; trace = refl; opened = refl; events = refl; kept = refl }) (λ k. tt)
  left_goes q Event e f = closes q e refl

  inside_goes : (g : Inside) → ((q : ℕ) → g ≡ Close q → lacks_by c.level c ≡ false) → GoesBy t c (by_inside g t c)
  unfolding by_inside
  inside_goes (Element p) f = entered_goes p c.level refl
  inside_goes (Close q) f = left_goes q c.level refl (f q refl)
  inside_goes (Onward q) f = reached_goes q
  inside_goes (InsideFault q) f = tt

  pub goes : GoesBy t c (advance t c)
  unfolding advance
  goes = inside_goes (inside_at (lacks_by c.level c) t (tag_by c.level c) (run Blanks t c.at)) (not_lacking t (tag_by c.level c) (run Blanks t c.at) (lacks_by c.level c))

-- AT THE MARKS. Behind the trace's start tag, or behind an event: what is open can be closed there
pub data Closable (t : List ℕ) (d : Cursor) : Type 0 where
  in_trace : (q : ℕ) → d.level ≡ Trace → tag_of (markup t d.trace) d.trace ≡ Open q → Closable t d
  in_log : (q : ℕ) → d.level ≡ Log → tag_of (markup t d.trace) d.trace ≡ Empty q → Closable t d

-- from b a reader came to c, by d, where the last whole event or else the trace's start tag ends, and by o, where that tag ends
pub record Marked (t : List ℕ) (b c : Cursor) : Type 0 where
  pub d : Cursor
  pub moves : ℕ
  pub by_d : Reaches t d moves b
  pub closable : Closable t d
  pub place : d.at ≡ c.kept
  pub log_is : d.log ≡ c.log
  pub trace_is : d.trace ≡ c.trace
  pub events_are : d.events ≡ c.events
  pub o : Cursor
  pub steps : ℕ
  pub by_o : Reaches t o steps b
  pub opening : o.at ≡ c.opened
  pub open_o : eqb o.opened 0 ≡ false
  pub open_d : eqb d.opened 0 ≡ false
  pub open_c : eqb c.opened 0 ≡ false

pub record Passing (t : List ℕ) (b c : Cursor) : Type 0 where
  pub moves : ℕ
  pub by : Reaches t c moves b
  pub level : InTrace t c c.level
  pub marks : (c.opened ≡ 0) ⊎ Marked t b c

-- one more move
pub reaches_on : (t : List ℕ) (d e : Cursor) (k : ℕ) (b : Cursor) → Reaches t d k b → advance t d ≡ On e → Reaches t e (suc k) b
reaches_on t d e zero b r m = (e, (ap (advance t) r ∙ m, refl))
reaches_on t d e (suc k) b r m = (r.0, (r.1.0, reaches_on t d e k r.0 r.1.1 m))

nonzero : (p n : ℕ) → p < n → eqb n 0 ≡ false
nonzero p n h = ne_eqb n 0 (λ e. omega (arith, h, e))

-- what was passed stays
pub marks_stay : (t : List ℕ) (b c d : Cursor) → Same c d → (c.opened ≡ 0) ⊎ Marked t b c → (d.opened ≡ 0) ⊎ Marked t b d
marks_stay t b c d s (inl z) = inl (s.opened ∙ z)
marks_stay t b c d s (inr w) =
    inr
    (record {
      d = w.d;
      moves = w.moves;
      by_d = w.by_d;
      closable = w.closable;
      place = w.place ∙ sym s.kept;
      log_is = w.log_is ∙ sym s.log;
      trace_is = w.trace_is ∙ sym s.trace;
      events_are = w.events_are ∙ sym s.events;
      o = w.o;
      steps = w.steps;
      by_o = w.by_o;
      opening = w.opening ∙ sym s.opened;
      open_o = w.open_o;
      open_d = w.open_d;
      open_c = ap (λ (n : ℕ). eqb n 0) s.opened ∙ w.open_c;
    })

module _ (t : List ℕ) (b c d : Cursor) (m : advance t c ≡ On d) (k : Passing t b c) where
  ahead : c.at < d.at
  ahead = subst (Beyond c.at) m (advance_beyond t c)

  there : Reaches t d (suc k.moves) b
  there = reaches_on t c d k.moves b k.by m

  -- at d itself
  here : Closable t d → d.at ≡ d.kept → d.at ≡ d.opened → Marked t b d
  here x e f =
      record {
        d = d;
        moves = suc k.moves;
        by_d = there;
        closable = x;
        place = e;
        log_is = refl;
        trace_is = refl;
        events_are = refl;
        o = d;
        steps = suc k.moves;
        by_o = there;
        opening = f;
        open_o = nonzero c.at d.opened (omega (arith, ahead, f));
        open_d = nonzero c.at d.opened (omega (arith, ahead, f));
        open_c = nonzero c.at d.opened (omega (arith, ahead, f));
      }

  closed : (q : ℕ) → c.level ≡ Event → d ≡ behind_event t c q → (c.opened ≡ 0) ⊎ Marked t b c → (d.opened ≡ 0) ⊎ Marked t b d
  closed q l e (inl z) = inl (ap (λ (x : Cursor). x.opened) e ∙ z)
  closed q l e (inr w) =
      let tag = subst (InTrace t c) l k.level in
      inr
      (record {
        d = d;
        moves = suc k.moves;
        by_d = there;
        closable = in_trace tag.0 (ap (λ (x : Cursor). x.level) e) (ap (λ (x : Cursor). tag_of (markup t x.trace) x.trace) e ∙ tag.1);
        place = ap (λ (x : Cursor). x.at) e ∙ sym (ap (λ (x : Cursor). x.kept) e);
        log_is = refl;
        trace_is = refl;
        events_are = refl;
        o = w.o;
        steps = w.steps;
        by_o = w.by_o;
        opening = w.opening ∙ sym (ap (λ (x : Cursor). x.opened) e);
        open_o = w.open_o;
        open_d = ap (λ (x : Cursor). eqb x.opened 0) e ∙ w.open_c;
        open_c = ap (λ (x : Cursor). eqb x.opened 0) e ∙ w.open_c;
      })

  on_by : Goes t c d → Passing t b d
  on_by (stays s f) = record { moves = suc k.moves; by = there; level = f k.level; marks = marks_stay t b c d s k.marks }
  on_by (opens p q z g e) =
      let at_tag : tag_of (markup t d.trace) d.trace ≡ Open q = ap (λ (x : Cursor). tag_of (markup t x.trace) x.trace) e ∙ g in
      record {
        moves = suc k.moves;
        by = there;
        level = subst (λ (x : Cursor). InTrace t x x.level) (sym e) (q, g);
        marks = inr (here (in_trace q (ap (λ (x : Cursor). x.level) e) at_tag) (ap (λ (x : Cursor). x.at) e ∙ sym (ap (λ (x : Cursor). x.kept) e)) (ap (λ (x : Cursor). x.at) e ∙ sym (ap (λ (x : Cursor). x.opened) e)));
      }
  on_by (empties p q z g e) =
      let at_tag : tag_of (markup t d.trace) d.trace ≡ Empty q = ap (λ (x : Cursor). tag_of (markup t x.trace) x.trace) e ∙ g in
      record {
        moves = suc k.moves;
        by = there;
        level = subst (λ (x : Cursor). InTrace t x x.level) (sym e) tt;
        marks = inr (here (in_log q (ap (λ (x : Cursor). x.level) e) at_tag) (ap (λ (x : Cursor). x.at) e ∙ sym (ap (λ (x : Cursor). x.kept) e)) (ap (λ (x : Cursor). x.at) e ∙ sym (ap (λ (x : Cursor). x.opened) e)));
      }
  on_by (closes q l e) =
      let tag = subst (InTrace t c) l k.level in
      record { moves = suc k.moves; by = there; level = subst (λ (x : Cursor). InTrace t x x.level) (sym e) tag; marks = closed q l e k.marks }

  pub passing_on : Passing t b d
  passing_on = on_by (subst (GoesBy t c) m (goes t c))

-- what the trace's start tag left is never unset
pub opened_stays : (t : List ℕ) (c d : Cursor) → advance t c ≡ On d → eqb c.opened 0 ≡ false → d.opened ≡ c.opened
opened_stays t c d m z = by (subst (GoesBy t c) m (goes t c))
  where
    by : Goes t c d → d.opened ≡ c.opened
    by (stays s f) = s.opened
    by (opens p q e g x) = absurd (false≢true (sym z ∙ ap (λ (n : ℕ). eqb n 0) e))
    by (empties p q e g x) = absurd (false≢true (sym z ∙ ap (λ (n : ℕ). eqb n 0) e))
    by (closes q l x) = ap (λ (x : Cursor). x.opened) x
