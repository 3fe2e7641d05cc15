-- ONE MOVE OF A READER OF A LOG in a beginning of a text: the text's own, where it ends before the end of the beginning; else a fault at that end, or the text's own fault. Assumes nothing.
use Rattle.std.specs.Prelude.{Option, Some, None, Ok, Err}
use mathlib.Core.Path.{◌≡◌, refl}
use mathlib.Core.Bool.{Bool, true, false}
use mathlib.Core.List.{List}
use Prim.Native.Nat.{ℕ, ◌-◌, ◌<◌, ◌≤◌}
use lib.Dec.{eqb}
use lib.ListN.{length, take}
use Rattle.base_words.specs.Pick.{if◌then◌or_else◌}
use Rattle.base_words.specs.Text.{bytes}
use Rattle.base_words.specs.Words.{part}
use Rattle.base_bytes.specs.Bytes.{same_bytes}
use Rattle.log_lines.specs.Entries.{entry_of}
use Rattle.xml_markup.specs.declared.Opener.TheVariants.{Start}
use Rattle.xml_markup.specs.Markup.{markup}
use Rattle.xml_markup.specs.Spans.{is_called, attribute, opener}
use Rattle.xml_skip.specs.declared.Tag.{Tag}
use Rattle.xml_skip.specs.declared.Tag.TheVariants.{Open, Empty, Fault as TagFault}
use Rattle.xml_skip.specs.Skipping.{tag_of, skipped, Reached}
use Rattle.log_text.specs.declared.Level.{Level}
use Rattle.log_text.specs.declared.Level.TheVariants.{Log, Trace, Event}
use Rattle.log_text.specs.declared.Cursor.{Cursor}
use Rattle.log_text.specs.declared.Move.{Move}
use Rattle.log_text.specs.declared.Move.TheVariants.{On, Done, Fault}
use Rattle.log_text.specs.Logs.{over, over_named, line_by, name_by, string_by, string_at, trace_by, event_by, is_of_log, other_at, entered_by}
use Rattle.proof_local.proofs.Beginnings.{piece}
use Rattle.proof_local.proofs.Names.{Whole, called_same}
use Rattle.proof_local.proofs.BrokenNames.{start_opens}
use Rattle.proof_local.proofs.Parts.{LateTag, CutTag, same_tag, broken_tag, tag_cut}
use Rattle.proof_local.proofs.Skips.{Late as LateSkip, Cut as CutSkip, same as skip-same, broken as skip-broken, skipped_cut, skipped_late}
use Rattle.proof_local.proofs.Attributes.{Alike, WholeTag, attribute_alike}

abbrev pub Early : ℕ → Move → Type 0
Early n (On d) = d.at ≤ n
Early n (Done d) = d.at ≤ n
Early n (Fault q) = Unit {0}

abbrev pub Late : ℕ → Move → Type 0
Late n (On d) = n < d.at
Late n (Done d) = n < d.at
Late n (Fault q) = Unit {0}

-- x is the text's, y the beginning's, n long
pub data Cut (n : ℕ) (x y : Move) : Type 0 where
  same : y ≡ x → Early n x → Cut n x y
  broken : y ≡ Fault n → Late n x → Cut n x y

cut_if : (n : ℕ) (b : Bool) (x y z w : Move) → Cut n x y → Cut n z w → Cut n (if b then x or_else z) (if b then y or_else w)
unfolding if◌then◌or_else◌
cut_if n true x y z w h k = h
cut_if n false x y z w h k = k

late_if : (n : ℕ) (b : Bool) (x y : Move) → Late n x → Late n y → Late n (if b then x or_else y)
unfolding if◌then◌or_else◌
late_if n true x y h k = h
late_if n false x y h k = k

-- WHAT IS SKIPPED
late_over : (n : ℕ) (r : Reached) (c : Cursor) → LateSkip n r → Late n (over r c)
unfolding over
late_over n (Ok q) c l = l
late_over n (Err q) c l = tt

late_named : (n : ℕ) (r : Reached) (c : Cursor) (from to : ℕ) → LateSkip n r → Late n (over_named r c from to)
unfolding over_named
late_named n (Ok q) c from to l = l
late_named n (Err q) c from to l = tt

over_cut : (n : ℕ) (x y : Reached) (c : Cursor) → CutSkip n x y → Cut n (over x c) (over y c)
unfolding over
over_cut n (Ok q) y c (skip-same e l) = rw e (same refl l)
over_cut n (Err q) y c (skip-same e l) = rw e (same refl tt)
over_cut n x y c (skip-broken e l) = rw e (broken refl (late_over n x c l))

named_cut : (n : ℕ) (x y : Reached) (c : Cursor) (from to : ℕ) → CutSkip n x y → Cut n (over_named x c from to) (over_named y c from to)
unfolding over_named
named_cut n (Ok q) y c from to (skip-same e l) = rw e (same refl l)
named_cut n (Err q) y c from to (skip-same e l) = rw e (same refl tt)
named_cut n x y c from to (skip-broken e l) = rw e (broken refl (late_named n x c from to l))

-- THE TAGS of the trace and of an event
late_trace : (n : ℕ) (g : Tag) (c : Cursor) (p : ℕ) → LateTag n g → Late n (trace_by g c p)
unfolding trace_by
late_trace n (Open q) c p l = l
late_trace n (Empty q) c p l = l
late_trace n (TagFault q) c p l = tt

late_event : (n : ℕ) (g : Tag) (c : Cursor) (p : ℕ) → LateTag n g → Late n (event_by g c p)
unfolding event_by
late_event n (Open q) c p l = l
late_event n (Empty q) c p l = tt
late_event n (TagFault q) c p l = tt

trace_cut : (n : ℕ) (g k : Tag) (c : Cursor) (p : ℕ) → CutTag n g k → Cut n (trace_by g c p) (trace_by k c p)
unfolding trace_by
trace_cut n (Open q) k c p (same_tag e l) = rw e (same refl l)
trace_cut n (Empty q) k c p (same_tag e l) = rw e (same refl l)
trace_cut n (TagFault q) k c p (same_tag e l) = rw e (same refl tt)
trace_cut n g k c p (broken_tag e l) = rw e (broken refl (late_trace n g c p l))

event_cut : (n : ℕ) (g k : Tag) (c : Cursor) (p : ℕ) → CutTag n g k → Cut n (event_by g c p) (event_by k c p)
unfolding event_by
event_cut n (Open q) k c p (same_tag e l) = rw e (same refl l)
event_cut n (Empty q) k c p (same_tag e l) = rw e (same refl tt)
event_cut n (TagFault q) k c p (same_tag e l) = rw e (same refl tt)
event_cut n g k c p (broken_tag e l) = rw e (broken refl (late_event n g c p l))

-- AN ELEMENT that ends late
module _ (t : List ℕ) (n p : ℕ) (c : Cursor) (late : LateSkip n (skipped t p)) where
  late_line : (a : Option (ℕ × ℕ)) (end : ℕ) → Late n (line_by a t c p end)
  unfolding line_by
  late_line (Some (from, to)) end = late_if n (entry_of (part t from to)).right (over_named (skipped t p) c from to) (Fault (from - 1)) (late_named n (skipped t p) c from to late) tt
  late_line None end = tt

  late_name : (a : Option (ℕ × ℕ)) (end : ℕ) → Late n (name_by a t c p end)
  unfolding name_by
  late_name (Some (from, to)) end =
      late_if n (same_bytes (part t from to) (bytes "concept:name")) _ (over (skipped t p) c)
      (late_if n (eqb c.to 0) (line_by (attribute t p (bytes "value")) t c p end) (Fault (from - 1)) (late_line (attribute t p (bytes "value")) end) tt)
      (late_over n (skipped t p) c late)
  late_name None end = late_over n (skipped t p) c late

  late_string : (g : Tag) → Late n (string_by g t c p)
  unfolding string_by
  late_string (Open q) = late_name (attribute t p (bytes "key")) (q - 1)
  late_string (Empty q) = late_name (attribute t p (bytes "key")) (q - 2)
  late_string (TagFault q) = tt

  late_other : Late n (other_at t c p)
  unfolding other_at
  late_other = late_if n (is_of_log t p) (Fault p) (over (skipped t p) c) tt (late_over n (skipped t p) c late)

  pub late_entered : (l : Level) → LateTag n (tag_of (markup t p) p) → Late n (entered_by l t c p)
  unfolding entered_by string_at
  late_entered Log k = late_if n (is_called t p (bytes "trace")) _ (other_at t c p) (late_if n (eqb c.opened 0) (trace_by (tag_of (markup t p) p) c p) (Fault p) (late_trace n (tag_of (markup t p) p) c p k) tt) late_other
  late_entered Trace k = late_if n (is_called t p (bytes "event")) (event_by (tag_of (markup t p) p) c p) (other_at t c p) (late_event n (tag_of (markup t p) p) c p k) late_other
  late_entered Event k = late_if n (is_called t p (bytes "string")) (string_by (tag_of (markup t p) p) t c p) (other_at t c p) (late_string (tag_of (markup t p) p)) late_other

-- AN ELEMENT whose name is whole
module _ (t : List ℕ) (n : ℕ) (inside : n ≤ length t) (p : ℕ) (h : p < n) (start : opener t p ≡ Start) (w : Whole t n p) (c : Cursor) where
  skip_cut : CutSkip n (skipped t p) (skipped (take n t) p)
  skip_cut = skipped_cut t n inside p h start w

  tags : CutTag n (tag_of (markup t p) p) (tag_of (markup (take n t) p) p)
  tags = tag_cut t n inside p h (start_opens t p start)

  line_cut : (x y : Option (ℕ × ℕ)) (end : ℕ) → Alike n x y → Cut n (line_by x t c p end) (line_by y (take n t) c p end)
  unfolding line_by
  line_cut (Some (from, to)) y end a = rw (a.same, piece t n inside from to a.short) (cut_if n (entry_of (part t from to)).right _ _ _ _ (named_cut n (skipped t p) (skipped (take n t) p) c from to skip_cut) (same refl tt))
  line_cut None y end a = rw a.same (same refl tt)

  module _ (alike : (name : List ℕ) → Alike n (attribute t p name) (attribute (take n t) p name)) where
    name_cut : (x y : Option (ℕ × ℕ)) (end : ℕ) → Alike n x y → Cut n (name_by x t c p end) (name_by y (take n t) c p end)
    unfolding name_by
    name_cut (Some (from, to)) y end a =
        rw (a.same, piece t n inside from to a.short)
        (cut_if n (same_bytes (part t from to) (bytes "concept:name")) _ _ _ _
        (cut_if n (eqb c.to 0) _ _ _ _ (line_cut (attribute t p (bytes "value")) (attribute (take n t) p (bytes "value")) end (alike (bytes "value"))) (same refl tt))
        (over_cut n (skipped t p) (skipped (take n t) p) c skip_cut))
    name_cut None y end a = rw a.same (over_cut n (skipped t p) (skipped (take n t) p) c skip_cut)

  string_cut : (g k : Tag) → (WholeTag n g → (name : List ℕ) → Alike n (attribute t p name) (attribute (take n t) p name)) → (LateTag n g → LateSkip n (skipped t p)) → CutTag n g k → Cut n (string_by g t c p) (string_by k (take n t) c p)
  unfolding string_by
  string_cut (Open q) k f s (same_tag e l) = rw e (name_cut (f l) (attribute t p (bytes "key")) (attribute (take n t) p (bytes "key")) (q - 1) (f l (bytes "key")))
  string_cut (Empty q) k f s (same_tag e l) = rw e (name_cut (f l) (attribute t p (bytes "key")) (attribute (take n t) p (bytes "key")) (q - 2) (f l (bytes "key")))
  string_cut (TagFault q) k f s (same_tag e l) = rw e (same refl tt)
  string_cut g k f s (broken_tag e l) = rw e (broken refl (late_string t n p c (s l) g))

  string_at_lem : Cut n (string_at t c p) (string_at (take n t) c p)
  unfolding string_at
  string_at_lem = string_cut (tag_of (markup t p) p) (tag_of (markup (take n t) p) p) (λ k name. attribute_alike t n inside p h (start_opens t p start) k name) (skipped_late t n inside p) tags

  other_cut : Cut n (other_at t c p) (other_at (take n t) c p)
  unfolding other_at is_of_log
  other_cut =
      rw (called_same t n inside p h w (bytes "log"), called_same t n inside p h w (bytes "trace"), called_same t n inside p h w (bytes "event"))
      (cut_if n _ (Fault p) (Fault p) _ _ (same refl tt) (over_cut n (skipped t p) (skipped (take n t) p) c skip_cut))

  pub entered_cut : (l : Level) → Cut n (entered_by l t c p) (entered_by l (take n t) c p)
  unfolding entered_by
  entered_cut Log =
      rw (called_same t n inside p h w (bytes "trace"))
      (cut_if n (is_called t p (bytes "trace")) _ _ _ _ (cut_if n (eqb c.opened 0) _ _ _ _ (trace_cut n (tag_of (markup t p) p) (tag_of (markup (take n t) p) p) c p tags) (same refl tt)) other_cut)
  entered_cut Trace = rw (called_same t n inside p h w (bytes "event")) (cut_if n (is_called t p (bytes "event")) _ _ _ _ (event_cut n (tag_of (markup t p) p) (tag_of (markup (take n t) p) p) c p tags) other_cut)
  entered_cut Event = rw (called_same t n inside p h w (bytes "string")) (cut_if n (is_called t p (bytes "string")) _ _ _ _ string_at_lem other_cut)
