-- EVERY BEGINNING OF A LOG that reaches behind the trace's start tag is repaired, unless there is no room; and what is kept of it are the log's first events. a is the log. Assumes nothing.
use Rattle.xml_skip.specs.Skipping.{Reached}
use Prim.Native.Nat.{ℕ, ◌-◌, ◌<◌, ◌≤◌}
use mathlib.Core.Logic.{◌⊎◌, inl, inr}
use mathlib.Core.Path.{◌≡◌, ◌∙◌, refl, sym, ap, subst}
use mathlib.Core.Bool.{Bool, true, false, false≢true}
use mathlib.Core.List.{List, ◌++◌}
use native.Mathlib.Omega.{arith}
use lib.Dec.{eqb, ltb}
use lib.ListN.{length, take, length-take}
use lib.Seq.{take-take, take-append-le, length-take-le}
use borrow.Author.Tests.{le-ltb}
use Rattle.base_words.specs.Pick.{if◌then◌or_else◌}
use Rattle.base_bytes.proofs.PieceLaws.{by_order}
use Rattle.log_text.specs.Logs.{log_most, scan, lines_from, lines_of}
use Rattle.log_text.proofs.LineLaws.{events_are_lines, too_long_lem}
use Rattle.log_repair.specs.Repair.{closed, is_lost, Repair, refused, repair_given, repaired_by, repaired_to}
use Rattle.proof_local.proofs.Around.{is_past}
use Rattle.proof_local.proofs.Passed.{Ended, ended_by, has_trace, opened_in}
use Rattle.proof_local.proofs.BrokenOff.{Ends, beginning_ends}
use Rattle.proof_local.proofs.Closed.{mark_within, lines_begin}
use Rattle.proof_repair.proofs.Given.{output, Gave, gave_or}
use Rattle.proof_repair.proofs.Repairs.{IsLog, Right, repaired_right, repaired_ended}

-- a log is short
pub log_short : (a : List ℕ) → IsLog a → length a ≤ log_most
log_short a l = by_order (length a) log_most (λ h. h) (λ h. absurd (false≢true (ap is_past (sym (too_long_lem a h) ∙ l.1))))

-- repaired, or no room
abbrev pub Repairs : Repair → Type 0
Repairs r = (r.number ≡ 0) ⊎ (r.number ≡ 5)

given_repairs : (w : List ℕ) (events dropped : ℕ) (out : List ℕ) → Repairs (repair_given w events dropped out)
unfolding refused
given_repairs w events dropped out = go (gave_or w events dropped out)
  where
    go : Gave w events dropped out (repair_given w events dropped out) ⊎ (repair_given w events dropped out ≡ refused 5 out) → Repairs (repair_given w events dropped out)
    go (inl g) = inl (ap (λ (r : Repair). r.number) g.is)
    go (inr e) = inr (ap (λ (r : Repair). r.number) e)

module _ (a : List ℕ) (l : IsLog a) (n : ℕ) (inside : n ≤ length a) where
  abbrev t : List ℕ
  t = take n a

  t_long : length t ≡ n
  t_long = length-take-le n a inside

  -- "every beginning of a log is 23 at its length", or a log
  pub beginning : Ends n (scan t).end
  beginning = beginning_ends a n inside l.0 (log_short a l) l.1

  module _ (reaches : (scan a).last.opened ≤ n) (out : List ℕ) where
    opened_there : eqb (scan t).last.opened 0 ≡ false
    opened_there = opened_in a (ended_by a (has_trace a l.0 l.1)) n inside reaches

    found_there : is_lost n t (scan t).last ≡ false
    unfolding is_lost if◌then◌or_else◌
    found_there = rw (le-ltb n (length t) (omega (arith, t_long))) opened_there

    by_end : (s : Reached) → Ends n s → Repairs (repaired_by s t (scan t).last out)
    unfolding repaired_by if◌then◌or_else◌
    by_end s (inl e) = rw e (given_repairs t (scan t).last.events 0 out)
    by_end s (inr e) = rw (e, found_there) (given_repairs (closed t (scan t).last) (scan t).last.events (length t - (scan t).last.kept) out)

    -- "every beginning of a log that reaches behind the trace's start tag is repaired, unless there is no room"
    pub beginning_repaired : Repairs (repaired_to t out)
    unfolding repaired_to
    beginning_repaired = by_end (scan t).end beginning

    pub never_lost : (repaired_to t out).number ≡ 27 → ⊥
    never_lost e = go beginning_repaired
      where
        go : Repairs (repaired_to t out) → ⊥
        go (inl z) = omega (arith, e, z)
        go (inr z) = omega (arith, e, z)

  -- THE EVENTS that are kept are the log's first
  module _ (out : List ℕ) (z : (repaired_to t out).number ≡ 0) where
    abbrev r : Repair
    r = repaired_to t out

    right : Right t out r
    right = repaired_right t out z

    ended : Ended t
    ended = repaired_ended t out z

    mark_in : ended.marks.d.at ≤ n
    mark_in = omega (arith, mark_within t ended, t_long)

    alike : take ended.marks.d.at a ≡ take ended.marks.d.at t
    alike = sym (take-take ended.marks.d.at n a mark_in)

    begins : lines_of a ≡ lines_of t ++ lines_from a ended.marks.d
    begins = lines_begin t ended a (omega (arith, mark_in, inside)) alike (log_short a l)

    few : r.kept ≤ length (lines_of t)
    few = omega (arith, right.events, events_are_lines (output r), ap length right.lines, length-take r.kept (lines_of t))

    pub first_lines : lines_of (output r) ≡ take r.kept (lines_of a)
    first_lines = right.lines ∙ sym (ap (take r.kept) begins ∙ take-append-le r.kept (lines_of t) (lines_from a ended.marks.d) few)
