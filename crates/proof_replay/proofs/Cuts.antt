-- AFTER THE POWER CUT: whatever byte the log of accepted calls is cut at, behind the trace's start tag, repair and replay give the state after the first k of the calls, k the events kept; and where it was written
-- event by event, no call whose event was written whole is lost. t is a valid table, v version 10 or 20. Assumes nothing.
use Rattle.xml_skip.specs.Skipping.{Reached}
use Rattle.std.specs.Prelude.{Ok, Err}
use Prim.Native.Nat.{ℕ, zero, suc, ◌-◌, ◌<◌, ◌≤◌}
use mathlib.Core.Logic.{◌⊎◌, inl, inr}
use mathlib.Core.Path.{◌≡◌, ◌∙◌, refl, sym, ap, subst}
use mathlib.Core.Bool.{Bool, true, false}
use mathlib.Core.List.{List, [], ◌∷◌, ◌++◌, append_assoc, append-nil}
use native.Mathlib.Omega.{arith}
use lib.Dec.{eqb}
use lib.ListN.{length, take, drop, length-append, length-take, take-append-drop}
use lib.Seq.{take_all, take-take, take-append-le, length-take-le}
use Rattle.base_words.specs.Pick.{if◌then◌or_else◌}
use Rattle.base_words.specs.Words.{at, greatest}
use Rattle.base_state.specs.Versions.{is_version}
use Rattle.state_fits.specs.Fresh.{fresh}
use Rattle.base_bytes.proofs.PieceLaws.{by_order}
use Rattle.log_text.specs.declared.Cursor.{Cursor}
use Rattle.log_text.specs.Logs.{log_most, scan, lines_from, lines_of}
use Rattle.log_text.proofs.LineLaws.{events_are_lines}
use Rattle.log_write.specs.Xes.{opening, extension, time_extension, global, classifier, trace_opening, header, event_text, events_text, written, footer, log_text}
use Rattle.log_judge.specs.Judge.{lawful}
use Rattle.log_repair.specs.Repair.{closed, is_lost, Repair, refused, repair_given, repaired_by, repaired_to}
use Rattle.engine.specs.Engine.{valid}
use Rattle.engine.specs.Calls.{Act, did, all_accepted, after}
use Rattle.engine.specs.Replay.{replayed_to}
use Rattle.proof_local.proofs.Passed.{Ended, ended_by}
use Rattle.proof_local.proofs.Closed.{mark_within, lines_begin}
use Rattle.proof_logs.specs.Told.{line_told, told, AllPosted}
use Rattle.proof_logs.proofs.Traces.{Each, Entry}
use Rattle.proof_logs.proofs.XesReads.{trace_at, printed_log_reads, begun_log_reads}
use Rattle.proof_repair.proofs.Given.{output, accepted_gave}
use Rattle.proof_repair.proofs.Repairs.{IsLog, Right, repaired_right}
use Rattle.proof_repair.proofs.Beginnings.{Repairs, first_lines, beginning_repaired}
use Rattle.proof_replay.proofs.OwnState.{first_accepted, first_posted, first_told, entries, told_replayed, printed_log}

-- as many are kept as whole events were read
kept_by_lem : (s : Reached) (u : List ℕ) (c : Cursor) (out : List ℕ) → (repaired_by s u c out).number ≡ 0 → (repaired_by s u c out).kept ≡ c.events
unfolding repaired_by refused if◌then◌or_else◌
kept_by_lem (Ok q) u c out z = ap (λ (r : Repair). r.kept) (accepted_gave u c.events 0 out z).is
kept_by_lem (Err q) u c out z = go (is_lost q.place u c) z
  where
    go : (b : Bool) → (if b then refused 27 out or_else repair_given (closed u c) c.events (length u - c.kept) out).number ≡ 0
        → (if b then refused 27 out or_else repair_given (closed u c) c.events (length u - c.kept) out).kept ≡ c.events
    go true k = absurd (omega (arith, k))
    go false k = ap (λ (r : Repair). r.kept) (accepted_gave (closed u c) c.events (length u - c.kept) out k).is

kept_is : (u out : List ℕ) → (repaired_to u out).number ≡ 0 → (repaired_to u out).kept ≡ (scan u).last.events
unfolding repaired_to
kept_is u out z = kept_by_lem (scan u).end u (scan u).last out z

-- A LOG BEGINS with what was written of its first lines; the moments of those behind
abbrev behind : List (List ℕ) → (ℕ → ℕ) → ℕ → ℕ
behind [] moments = moments
behind (w ∷ xs) moments = behind xs (λ k. moments (suc k))

events_both : (moments : ℕ → ℕ) (xs ys : List (List ℕ)) → events_text moments (xs ++ ys) ≡ events_text moments xs ++ events_text (behind xs moments) ys
unfolding events_text
events_both moments [] ys = refl
events_both moments (w ∷ xs) ys =
    ap (λ (l : List ℕ). event_text (moments 0) w ++ l) (events_both (λ k. moments (suc k)) xs ys)
    ∙ sym (append_assoc (event_text (moments 0) w) (events_text (λ k. moments (suc k)) xs) (events_text (behind xs (λ k. moments (suc k))) ys))

pub log_begins : (moments : ℕ → ℕ) (k : ℕ) (ws : List (List ℕ)) → log_text moments ws ≡ written moments (take k ws) ++ (events_text (behind (take k ws) moments) (drop k ws) ++ footer)
unfolding log_text written
log_begins moments k ws =
    let rest : List ℕ = events_text (behind (take k ws) moments) (drop k ws) in
    ap (λ (l : List ℕ). header ++ l ++ footer) (ap (events_text moments) (sym (take-append-drop k ws)) ∙ events_both moments (take k ws) (drop k ws))
    ∙ ap (λ (l : List ℕ). l ++ footer) (sym (append_assoc header (events_text moments (take k ws)) rest))
    ∙ append_assoc (header ++ events_text moments (take k ws)) rest footer

-- PIECE BY PIECE: what stands before the events, an event behind those that are written, what stands behind them
pub first_piece : (moments : ℕ → ℕ) → header ≡ written moments []
unfolding written events_text
first_piece moments = sym (append-nil header)

pub next_piece : (moments : ℕ → ℕ) (ws : List (List ℕ)) (w : List ℕ) → written moments ws ++ event_text (behind ws moments 0) w ≡ written moments (ws ++ (w ∷ []))
unfolding written events_text
next_piece moments ws w =
    let e : List ℕ = event_text (behind ws moments 0) w in
    append_assoc header (events_text moments ws) e
    ∙ ap (λ (l : List ℕ). header ++ (events_text moments ws ++ l)) (sym (append-nil e))
    ∙ ap (λ (l : List ℕ). header ++ l) (sym (events_both moments ws (w ∷ [])))

pub last_piece : (moments : ℕ → ℕ) (ws : List (List ℕ)) → written moments ws ++ footer ≡ log_text moments ws
unfolding written log_text
last_piece moments ws = refl

header_long : trace_at ≤ length header
unfolding header opening extension time_extension global classifier trace_opening
header_long = omega arith

written_long : (moments : ℕ → ℕ) (ws : List (List ℕ)) → trace_at ≤ length (written moments ws)
unfolding written
written_long moments ws = omega (arith, header_long, length-append header (events_text moments ws))

module _ (t : List ℕ) (right : valid t ≡ true) (v : ℕ) (known : is_version v ≡ true) (small : (i : ℕ) → at t i ≤ greatest) (acts : List Act) (accepted : all_accepted t acts (fresh t v) ≡ true) (posted : AllPosted acts) where
  abbrev lines : List (List ℕ)
  lines = told t acts (fresh t v)

  told_long : (xs : List Act) (z : List ℕ) → length (told t xs z) ≡ length xs
  unfolding told
  told_long [] z = refl
  told_long (x ∷ xs) z = ap suc (told_long xs (did t x z).state)

  each_line : Each Entry lines
  each_line = entries t right v known small acts accepted posted

  -- ANY LOG a OF THEM, cut at n
  module _ (a : List ℕ) (l : IsLog a) (of-them : lines_of a ≡ lines) (n : ℕ) (inside : n ≤ length a) (out : List ℕ) where
    abbrev r : Repair
    r = repaired_to (take n a) out

    -- the state after the first calls, as many as events were kept
    pub cut_replayed : r.number ≡ 0 → (z : List ℕ) → replayed_to t v (output r) z ≡ record { answer = lawful; state = after t (take r.kept acts) (fresh t v) }
    cut_replayed e =
        told_replayed t right v known small (take r.kept acts) (first_accepted t r.kept acts (fresh t v) accepted) (first_posted t r.kept acts posted) (output r)
        (repaired_right (take n a) out e).is_log
        (first_lines a l n inside out e ∙ ap (take r.kept) of-them ∙ first_told t r.kept acts (fresh t v))

  -- THE LOG AS IT IS PRINTED, with whatever moments, cut at n
  module _ (moments : ℕ → ℕ) (short : length (log_text moments lines) ≤ log_most) (n : ℕ) (inside : n ≤ length (log_text moments lines)) (out : List ℕ) where
    abbrev log : List ℕ
    log = log_text moments lines

    is_log : IsLog log
    is_log = printed_log t right v known small acts accepted posted moments short

    -- behind the trace's start tag it is repaired, unless there is no room
    pub cut_repaired : trace_at ≤ n → Repairs (repaired_to (take n log) out)
    cut_repaired h = beginning_repaired log is_log n inside (omega (arith, h, (printed_log_reads moments lines each_line short).trace_at_lem)) out

    pub printed_cut_replayed : (repaired_to (take n log) out).number ≡ 0 → (z : List ℕ)
        → replayed_to t v (output (repaired_to (take n log) out)) z ≡ record { answer = lawful; state = after t (take (repaired_to (take n log) out).kept acts) (fresh t v) }
    printed_cut_replayed = cut_replayed log is_log (printed_log_reads moments lines each_line short).lines_are n inside out

    -- WHAT WAS WRITTEN before the cut: the events of the first k calls
    module _ (k : ℕ) (so_far : length (written moments (take k lines)) ≤ n) where
      abbrev begun : List ℕ
      begun = written moments (take k lines)

      begun_lines : Each Entry (take k lines)
      begun_lines =
          subst (Each Entry) (sym (first_told t k acts (fresh t v)))
          (entries t right v known small (take k acts) (first_accepted t k acts (fresh t v) accepted) (first_posted t k acts posted))

      begun_short : length begun ≤ log_most
      begun_short = omega (arith, so_far, inside, short)

      ended : Ended begun
      ended = ended_by begun (ap (λ (m : ℕ). eqb m 0) (begun_log_reads moments (take k lines) begun_lines begun_short).trace_at_lem)

      mark : ended.marks.d.at ≤ length begun
      mark = mark_within begun ended

      alike : take ended.marks.d.at (take n log) ≡ take ended.marks.d.at begun
      alike =
          take-take ended.marks.d.at n log (omega (arith, mark, so_far))
          ∙ ap (take ended.marks.d.at) (log_begins moments k lines)
          ∙ take-append-le ended.marks.d.at begun (events_text (behind (take k lines) moments) (drop k lines) ++ footer) mark

      cut_long : length (take n log) ≡ n
      cut_long = length-take-le n log inside

      cut_begins : lines_of (take n log) ≡ lines_of begun ++ lines_from (take n log) ended.marks.d
      cut_begins = lines_begin begun ended (take n log) (omega (arith, mark, so_far, cut_long)) alike (omega (arith, cut_long, inside, short))

      -- it is repaired, unless there is no room
      pub so_far_repaired : Repairs (repaired_to (take n log) out)
      so_far_repaired = cut_repaired (omega (arith, so_far, written_long moments (take k lines)))

      module _ (e : (repaired_to (take n log) out).number ≡ 0) where
        abbrev kept : ℕ
        kept = (repaired_to (take n log) out).kept

        -- no call is lost whose event was written whole
        pub none_lost : k ≤ length acts → k ≤ kept
        none_lost h =
            omega (
              arith,
              h,
              kept_is (take n log) out e,
              events_are_lines (take n log),
              ap length cut_begins,
              length-append (lines_of begun) (lines_from (take n log) ended.marks.d),
              ap length (begun_log_reads moments (take k lines) begun_lines begun_short).lines_are,
              length-take-le k lines (omega (arith, h, told_long acts (fresh t v))),
            )

        -- and none is done that was not
        pub none_more : kept ≤ length acts
        none_more =
            omega (
              arith,
              (repaired_right (take n log) out e).events,
              events_are_lines (output (repaired_to (take n log) out)),
              ap length (first_lines log is_log n inside out e),
              length-take kept (lines_of log),
              ap length (printed_log_reads moments lines each_line short).lines_are,
              told_long acts (fresh t v),
            )

        -- WRITTEN CALL BY CALL, the last one not to its end: the state is the one before the last call, or the one behind it
        pub at_most_last : suc k ≡ length acts → (z : List ℕ)
            → (replayed_to t v (output (repaired_to (take n log) out)) z ≡ record { answer = lawful; state = after t (take k acts) (fresh t v) })
            ⊎ (replayed_to t v (output (repaired_to (take n log) out)) z ≡ record { answer = lawful; state = after t acts (fresh t v) })
        at_most_last h z =
            by_order kept k
            (λ few. inl (subst Left (let same : kept ≡ k = omega (arith, few, none_lost (omega (arith, h))) in same) (printed_cut_replayed e z)))
            (λ more.
            inr
            (subst (λ (xs : List Act). replayed_to t v (output (repaired_to (take n log) out)) z ≡ record { answer = lawful; state = after t xs (fresh t v) }) (take_all kept acts (omega (arith, more, h)))
            (printed_cut_replayed e z)))
          where
            Left : ℕ → Type 0
            Left j = replayed_to t v (output (repaired_to (take n log) out)) z ≡ record { answer = lawful; state = after t (take j acts) (fresh t v) }
