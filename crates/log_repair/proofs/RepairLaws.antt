-- What a repair gives, by the length that was measured. Assumes nothing.
use Rattle.std.specs.Prelude.{Ok}
use Prim.Native.Nat.{ℕ, ◌-◌, ◌<◌, ◌≤◌}
use mathlib.Core.Path.{◌≡◌, ◌∙◌, refl, sym, ap}
use mathlib.Core.Bool.{Bool, true, false}
use mathlib.Core.List.{List, [], ◌++◌}
use native.Mathlib.Omega.{arith}
use lib.Dec.{ltb}
use lib.ListN.{length, take, drop}
use borrow.Author.Tests.{lt-ltb, le-ltb}
use Rattle.base_words.specs.Pick.{if◌then◌or_else◌}
use Rattle.base_words.specs.Words.{part}
use Rattle.write_buffer.specs.Buffers.{over, lesser, last_place, Put}
use Rattle.write_buffer.proofs.OverLaws.{over_all, lesser_is, after, put_as, put_short, put_over}
use Rattle.xml_markup.specs.declared.Markup.{Markup}
use Rattle.xml_markup.specs.Markup.{markup}
use Rattle.xml_skip.specs.declared.Tag.{Tag}
use Rattle.xml_skip.specs.Skipping.{tag_of, fault_at}
use Rattle.log_text.specs.declared.Cursor.{Cursor}
use Rattle.log_text.specs.declared.Scanned.{Scanned}
use Rattle.log_text.specs.Logs.{log_most, scan}
use Rattle.log_repair.specs.declared.Repaired.{Repaired}
use Rattle.log_repair.specs.Repair.{end_tag, trace_end, closing_tags, closed, is_lost, Repair, refused, repair_given, repaired_by, repaired_to}

-- an answer, and the buffer that is left
abbrev pub filled : Repaired → List ℕ → Repair
filled r out = record { number = r.number; length = r.length; kept = r.kept; dropped = r.dropped; buffer = out }

abbrev pub refusal : ℕ → Repaired
refusal number = record { number = number; length = 0; kept = 0; dropped = 0 }

-- a length as it was measured
pub measured_long : (n l : ℕ) → n ≡ lesser l last_place → log_most < n → log_most < l
unfolding lesser
measured_long n l e h = omega arith

pub measured : (n l : ℕ) → n ≡ lesser l last_place → n ≤ log_most → n ≡ l
unfolding lesser
measured n l e h = omega arith

module _ (w out : List ℕ) (events dropped : ℕ) where
  pub too_long_lem : (r : Repaired) → r ≡ refusal 5 → log_most < length w → filled r out ≡ repair_given w events dropped out
  unfolding repair_given refused if◌then◌or_else◌
  too_long_lem r e h = rw (e, lt-ltb log_most (length w) h) refl

  pub no_room : (r : Repaired) → r ≡ refusal 5 → length w ≤ log_most → length out < length w → filled r out ≡ repair_given w events dropped out
  unfolding repair_given refused if◌then◌or_else◌
  no_room r e h k = rw (e, le-ltb log_most (length w) h, lt-ltb (length out) (length w) k) refl

  pub has_room_lem : (r d : ℕ) (y : List ℕ) → length w ≤ log_most → length w ≤ length out → r ≡ lesser (length w) last_place → y ≡ over w out → d ≡ dropped
      → ◌≡◌ {A = Repair} (record { number = 0; length = r; kept = events; dropped = d; buffer = y }) (repair_given w events dropped out)
  unfolding repair_given refused if◌then◌or_else◌
  has_room_lem r d y h k l v z =
      let a : r ≡ length w = lesser_is r (length w) log_most l h (omega arith) in
      let b : y ≡ w ++ drop (length w) out = v ∙ over_all w out k in
      rw (le-ltb log_most (length w) h, le-ltb (length out) (length w) k) (λ i. record { number = 0; length = a i; kept = events; dropped = z i; buffer = b i })

-- by the length that was measured
module _ (w out : List ℕ) (events dropped n : ℕ) (m : n ≡ lesser (length w) last_place) where
  pub long_measured : (r : Repaired) → r ≡ refusal 5 → log_most < n → filled r out ≡ repair_given w events dropped out
  long_measured r e h = too_long_lem w out events dropped r e (measured_long n (length w) m h)

  pub short_measured : (r : Repaired) → r ≡ refusal 5 → n ≤ log_most → length out < n → filled r out ≡ repair_given w events dropped out
  short_measured r e h k = let l : n ≡ length w = measured n (length w) m h in no_room w out events dropped r e (omega (arith, l, h)) (omega (arith, l, k))

  pub room_measured : (r d : ℕ) (y : List ℕ) → n ≤ log_most → n ≤ length out → r ≡ lesser (length w) last_place → y ≡ over w out → d ≡ dropped
      → ◌≡◌ {A = Repair} (record { number = 0; length = r; kept = events; dropped = d; buffer = y }) (repair_given w events dropped out)
  room_measured r d y h k l v z = let q : n ≡ length w = measured n (length w) m h in has_room_lem w out events dropped r d y (omega (arith, q, h)) (omega (arith, q, k)) l v z

-- the end tags behind one another, and what is kept before them
pub closing_put : (t out o y : List ℕ) (c : Cursor) (from k r : ℕ) (g : Tag) (m : Markup) → g ≡ tag_of m c.trace → m ≡ markup t c.trace → Put (trace_end g t c.trace) (length (trace_end g t c.trace)) from out k o → Put (end_tag t c.log) (length (end_tag t c.log)) k o r y
    → Put (closing_tags t c) (length (closing_tags t c)) from out r y
unfolding closing_tags
closing_put t out o y c from k r g m e f h i =
    put_short (after (put_as (trace_end (tag_of (markup t c.trace) c.trace) t c.trace) (ap (λ (x : Tag). trace_end x t c.trace) (e ∙ ap (λ (x : Markup). tag_of x c.trace) f)) h) i) (omega arith)

pub closed_put : (t s out o y : List ℕ) (c : Cursor) (k r : ℕ) → s ≡ part t 0 c.kept → Put s (length s) 0 out k o → Put (closing_tags t c) (length (closing_tags t c)) k o r y → length out ≤ last_place
    → (r ≡ lesser (length (closed t c)) last_place) × (y ≡ over (closed t c) out)
unfolding closed
closed_put t s out o y c k r e h i l = put_over (after (put_as (take c.kept t) (e ∙ ap (λ (n : ℕ). take n t) (let z : c.kept - 0 ≡ c.kept = omega arith in z)) h) i) l

pub lost : (t out : List ℕ) (r : Repaired) (q : ℕ) (c : Cursor) → is_lost q t c ≡ true → r ≡ refusal 27 → filled r out ≡ repaired_by (fault_at q) t c out
unfolding repaired_by refused if◌then◌or_else◌
lost t out r q c e z = rw (z, e) refl

module _ (t out y : List ℕ) (r : Repaired) where
  pub found : (q : ℕ) (c : Cursor) → is_lost q t c ≡ false → filled r y ≡ repair_given (closed t c) c.events (length t - c.kept) out → filled r y ≡ repaired_by (fault_at q) t c out
  unfolding repaired_by if◌then◌or_else◌
  found q c e z = rw e z

  pub whole_log : (s : Scanned) → s ≡ scan t → (q : ℕ) → s.end ≡ Ok q → filled r y ≡ repair_given t s.last.events 0 out → filled r y ≡ repaired_to t out
  unfolding repaired_to repaired_by
  whole_log s e q k z = rw (← e, k) z

  pub broken_log : (s : Scanned) → s ≡ scan t → (q : ℕ) → s.end ≡ fault_at q → filled r y ≡ repaired_by (fault_at q) t s.last out → filled r y ≡ repaired_to t out
  unfolding repaired_to
  broken_log s e q k z = rw (← e, k) z
