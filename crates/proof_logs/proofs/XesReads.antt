-- A PRINTED LOG IS READ AS IT WAS WRITTEN: the log of any lines that name steps or posts, in bytes that XML writes as they are, is a log, and its lines are exactly those, whatever moments are written with them; so
-- they are before the end tags are written.
-- Assumes nothing.
use Rattle.xml_skip.specs.Skipping.{Reached, fault_at}
use Rattle.std.specs.Prelude.{Ok}
use mathlib.Core.Path.{◌≡◌, ◌∙◌, refl, sym, ap, subst}
use mathlib.Core.List.{List, [], ◌∷◌, ◌++◌, append-nil}
use Prim.Native.Nat.{ℕ, suc, ◌+◌, ◌≤◌}
use native.Mathlib.Omega.{arith}
use lib.ListN.{length, length-append}
use Rattle.base_words.specs.Text.{bytes}
use Rattle.log_text.specs.Cursors.{in_log}
use Rattle.log_text.specs.Logs.{log_most, by_move, scan_from, scan, lines_from, lines_of}
use Rattle.log_write.specs.Xes.{opening, extension, time_extension, global, classifier, trace_opening, header, events_text, written, footer, log_text}
use Rattle.proof_logs.proofs.Traces.{Reads, Each, Entry, Onward, steps, few_steps, footer_read, stop_read, events_read}
use Rattle.proof_logs.proofs.Headers.{declaration, log_tag, on_extension, log_named, started, past_name, behind_name, in_trace, header_read}

-- the place behind the trace's start tag
abbrev pub trace_at : ℕ
trace_at = 436

-- THE TEXT UP TO ITS EVENTS, them, and what stands behind them: x
module _ (moments : ℕ → ℕ) (lines : List (List ℕ)) (x : List ℕ) where
  -- behind the trace's name, and behind the log's tag
  abbrev events : List ℕ
  events = 10 ∷ (events_text moments lines ++ x)

  abbrev content : List ℕ
  content = on_extension events

  abbrev t : List ℕ
  t = declaration ++ (log_tag ++ content)

  module _ (e : Reached) (m : ℕ) (onward : Onward x t e m) (few : m ≤ 2) (entries : Each Entry lines) where
    enough : suc (suc (suc (suc (suc (suc (steps lines m)))))) ≤ length t
    enough = omega (arith, few, few_steps moments lines m, length-append declaration (log_tag ++ content), length-append (events_text moments lines) x)

    read : Reads t e trace_at (suc (suc (suc (suc (suc (suc (steps lines m))))))) (in_log 39 121) lines
    read =
        header_read t events 39 121 (log_named content) refl e trace_at (steps lines m) lines
        (events_read x t e m onward moments lines (past_name t events 39 121 (log_named content) refl) (in_trace t events 39 121 (log_named content) refl) (behind_name t events 39 121 (log_named content) refl) entries)

    module _ (short : length t ≤ log_most) where
      scanned : (scan t).end ≡ e
      unfolding scan scan_from by_move
      scanned = rw (started content short) (read.ends (length t) enough)

      opened : (scan t).last.opened ≡ trace_at
      unfolding scan scan_from by_move
      opened = rw (started content short) (read.opens (length t) enough)

      lined : lines_of t ≡ lines
      unfolding lines_of lines_from by_move
      lined = rw (started content short) (read.says (length t) enough)

-- the theorems: u was written of the lines, and e is the reader's end
pub record ReadBack (u : List ℕ) (e : Reached) (lines : List (List ℕ)) : Type 0 where
  pub whole : (scan u).end ≡ e
  pub trace_at_lem : (scan u).last.opened ≡ trace_at
  pub lines_are : lines_of u ≡ lines

module _ (moments : ℕ → ℕ) (lines : List (List ℕ)) (entries : Each Entry lines) where
  is_text : log_text moments lines ≡ t moments lines footer
  unfolding log_text header opening extension time_extension global classifier trace_opening
  is_text = refl

  is_begun : written moments lines ≡ t moments lines []
  unfolding written header opening extension time_extension global classifier trace_opening
  is_begun = ap (λ (l : List ℕ). header ++ l) (sym (append-nil (events_text moments lines)))

  pub printed_log_reads : length (log_text moments lines) ≤ log_most → ReadBack (log_text moments lines) (Ok (length (log_text moments lines))) lines
  printed_log_reads short =
      let s : length (t moments lines footer) ≤ log_most = subst (λ (l : List ℕ). length l ≤ log_most) is_text short in
      let onward : Onward footer (t moments lines footer) (Ok (length (t moments lines footer))) 2 = λ d k h. footer_read (t moments lines footer) d k h in
      rw is_text
      (record {
        whole = scanned moments lines footer (Ok (length (t moments lines footer))) 2 onward (omega arith) entries s;
        trace_at_lem = opened moments lines footer (Ok (length (t moments lines footer))) 2 onward (omega arith) entries s;
        lines_are = lined moments lines footer (Ok (length (t moments lines footer))) 2 onward (omega arith) entries s;
      })

  -- what was written so far
  pub begun_log_reads : length (written moments lines) ≤ log_most → ReadBack (written moments lines) (fault_at (length (written moments lines))) lines
  begun_log_reads short =
      let s : length (t moments lines []) ≤ log_most = subst (λ (l : List ℕ). length l ≤ log_most) is_begun short in
      let onward : Onward [] (t moments lines []) (fault_at (length (t moments lines []))) 1 = λ d k h. stop_read (t moments lines []) d h in
      rw is_begun
      (record {
        whole = scanned moments lines [] (fault_at (length (t moments lines []))) 1 onward (omega arith) entries s;
        trace_at_lem = opened moments lines [] (fault_at (length (t moments lines []))) 1 onward (omega arith) entries s;
        lines_are = lined moments lines [] (fault_at (length (t moments lines []))) 1 onward (omega arith) entries s;
      })
