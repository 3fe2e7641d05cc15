-- WHAT A REPAIR COMES TO. t is a text, out the lent buffer. Assumes nothing.
use Rattle.xml_skip.specs.Skipping.{Reached}
use Rattle.std.specs.Prelude.{Ok, Err}
use Prim.Native.Nat.{ℕ, ◌-◌, ◌<◌, ◌≤◌}
use mathlib.Core.Path.{◌≡◌, ◌∙◌, refl, sym, ap, subst}
use mathlib.Core.Bool.{Bool, true, false, false≢true}
use mathlib.Core.List.{List, ◌++◌, append-nil}
use native.Mathlib.Omega.{arith}
use lib.Dec.{eqb, ltb}
use lib.ListN.{length, take, drop}
use lib.Seq.{take_all}
use Rattle.base_words.specs.Pick.{if◌then◌or_else◌}
use Rattle.log_text.specs.declared.Cursor.{Cursor}
use Rattle.log_text.specs.declared.Scanned.{Scanned}
use Rattle.log_text.specs.Logs.{log_most, scan, lines_from, lines_of}
use Rattle.log_text.proofs.LineLaws.{events_are_lines}
use Rattle.log_repair.specs.Repair.{closed, is_lost, Repair, refused, repair_given, repaired_by, repaired_to}
use Rattle.proof_local.proofs.Passed.{Ended, ended_by, has_trace}
use Rattle.proof_repair.proofs.Given.{output, Gave, gave, accepted_gave}
use Rattle.proof_repair.proofs.Closings.{closed_log, closed_events, closed_lines}

-- a log of wish 4: 23 is not given to it
abbrev pub IsLog : List ℕ → Type 0
IsLog u = (q : ℕ) × ((scan u).end ≡ Ok q)

-- THE OUTPUT is such a log, and its events are the first ones of the text, so many as are told; later bytes stayed
pub record Right (t out : List ℕ) (r : Repair) : Type 0 where
  pub is_log : IsLog (output r)
  pub long : length (output r) ≡ r.length
  pub short : r.length ≤ log_most
  pub room : r.length ≤ length out
  pub buffer : r.buffer ≡ output r ++ drop r.length out
  pub events : (scan (output r)).last.events ≡ r.kept
  pub lines : lines_of (output r) ≡ take r.kept (lines_of t)

module _ (t out : List ℕ) where
  gave_right : (w : List ℕ) (events dropped : ℕ) (r : Repair) → Gave w events dropped out r → IsLog w → (scan w).last.events ≡ events → lines_of w ≡ take events (lines_of t) → Right t out r
  gave_right w events dropped r g l e k =
      let n : r.length ≡ length w = ap (λ (x : Repair). x.length) g.is in
      let m : r.kept ≡ events = ap (λ (x : Repair). x.kept) g.is in
      record {
        is_log = rw g.log l;
        long = ap length g.log ∙ sym n;
        short = omega (arith, n, g.short);
        room = omega (arith, n, g.room);
        buffer = ap (λ (x : Repair). x.buffer) g.is ∙ ap (λ (x : List ℕ). x ++ drop (length w) out) (sym g.log) ∙ ap (λ (i : ℕ). output r ++ drop i out) (sym n);
        events = ap (λ (x : List ℕ). (scan x).last.events) g.log ∙ e ∙ sym m;
        lines = ap lines_of g.log ∙ k ∙ ap (λ (i : ℕ). take i (lines_of t)) (sym m);
      }

  all_lines : (events : ℕ) → (scan t).last.events ≡ events → lines_of t ≡ take events (lines_of t)
  all_lines events e = sym (take_all events (lines_of t) (omega (arith, e, events_are_lines t)))

  -- not lost: the trace was opened
  not_lost : (q : ℕ) → is_lost q t (scan t).last ≡ false → Ended t
  unfolding is_lost
  not_lost q e = go (ltb q (length t)) e
    where
      go : (b : Bool) → (if b then true or_else eqb (scan t).last.opened 0) ≡ false → Ended t
      go true k = absurd (false≢true (sym (unfold if◌then◌or_else◌ in k)))
      go false k = ended_by t (unfold if◌then◌or_else◌ in k)

  closed_right : Ended t → (repair_given (closed t (scan t).last) (scan t).last.events (length t - (scan t).last.kept) out).number ≡ 0
      → Right t out (repair_given (closed t (scan t).last) (scan t).last.events (length t - (scan t).last.kept) out)
  closed_right e z =
      let g = accepted_gave (closed t (scan t).last) (scan t).last.events (length t - (scan t).last.kept) out z in
      gave_right (closed t (scan t).last) (scan t).last.events (length t - (scan t).last.kept) _ g
      (length (closed t (scan t).last), closed_log t e g.short)
      (closed_events t e g.short)
      (closed_lines t e g.short ∙ all_lines (scan t).last.events refl)

  by_end : (s : Reached) → (scan t).end ≡ s → (repaired_by s t (scan t).last out).number ≡ 0 → Right t out (repaired_by s t (scan t).last out)
  unfolding repaired_by refused if◌then◌or_else◌
  by_end (Ok q) e z = gave_right t (scan t).last.events 0 _ (accepted_gave t (scan t).last.events 0 out z) (q, e) refl (all_lines (scan t).last.events refl)
  by_end (Err q) e z = go (is_lost q.place t (scan t).last) refl z
    where
      go : (b : Bool) → is_lost q.place t (scan t).last ≡ b → (if b then refused 27 out or_else repair_given (closed t (scan t).last) (scan t).last.events (length t - (scan t).last.kept) out).number ≡ 0
          → Right t out (if b then refused 27 out or_else repair_given (closed t (scan t).last) (scan t).last.events (length t - (scan t).last.kept) out)
      go true k z = absurd (omega (arith, z))
      go false k z = closed_right (not_lost q.place k) z

  -- the trace was opened
  ended_at : (s : Reached) → (scan t).end ≡ s → (repaired_by s t (scan t).last out).number ≡ 0 → Ended t
  unfolding repaired_by refused if◌then◌or_else◌
  ended_at (Ok q) e z = ended_by t (has_trace t q e)
  ended_at (Err q) e z = go (is_lost q.place t (scan t).last) refl z
    where
      go : (b : Bool) → is_lost q.place t (scan t).last ≡ b → (if b then refused 27 out or_else repair_given (closed t (scan t).last) (scan t).last.events (length t - (scan t).last.kept) out).number ≡ 0 → Ended t
      go true k z = absurd (omega (arith, z))
      go false k z = not_lost q.place k

  pub repaired_ended : (repaired_to t out).number ≡ 0 → Ended t
  unfolding repaired_to
  repaired_ended z = ended_at (scan t).end refl z

  -- "the output is such a log; its events are the first of the input's"
  pub repaired_right : (repaired_to t out).number ≡ 0 → Right t out (repaired_to t out)
  unfolding repaired_to
  repaired_right z = by_end (scan t).end refl z

  -- "A complete log comes out as the same bytes with 0 dropped"
  pub whole_stays : IsLog t → length t ≤ log_most → length t ≤ length out
      → repaired_to t out ≡ record { number = 0; length = length t; kept = (scan t).last.events; dropped = 0; buffer = t ++ drop (length t) out }
  unfolding repaired_to repaired_by
  whole_stays l h k = rw l.1 (gave t (scan t).last.events 0 out h k).is

-- "running the tool twice alters nothing further"
pub twice : (t out more : List ℕ) → (repaired_to t out).number ≡ 0 → (repaired_to t out).length ≤ length more
    → repaired_to (output (repaired_to t out)) more
    ≡ record { number = 0; length = (repaired_to t out).length; kept = (repaired_to t out).kept; dropped = 0; buffer = output (repaired_to t out) ++ drop (repaired_to t out).length more }
twice t out more z h =
    let k : Right t out (repaired_to t out) = repaired_right t out z in
    whole_stays (output (repaired_to t out)) more k.is_log (omega (arith, k.long, k.short)) (omega (arith, k.long, h))
    ∙ (λ i. record { number = 0; length = k.long i; kept = k.events i; dropped = 0; buffer = output (repaired_to t out) ++ drop (k.long i) more })
