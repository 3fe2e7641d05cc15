-- EVERY BEGINNING OF A LOG is a log, or it is refused at its length. Assumes nothing.
use Rattle.xml_skip.specs.Skipping.{Reached, fault_at}
use Rattle.std.specs.Prelude.{Ok}
use mathlib.Core.Logic.{◌⊎◌, inr}
use mathlib.Core.Path.{◌≡◌, ◌∙◌, refl, sym, ap}
use mathlib.Core.Bool.{false≢true}
use mathlib.Core.List.{List}
use Prim.Native.Nat.{ℕ, zero, suc, ◌+◌, ◌<◌, ◌≤◌}
use native.Mathlib.Omega.{arith}
use lib.ListN.{length, take}
use Rattle.xml_document.specs.Around.{last_from}
use Rattle.log_text.specs.declared.Cursor.{Cursor}
use Rattle.log_text.specs.declared.Move.{Move}
use Rattle.log_text.specs.declared.Move.TheVariants.{On, Done, Fault}
use Rattle.log_text.specs.declared.Scanned.{Scanned}
use Rattle.log_text.specs.Cursors.{nowhere}
use Rattle.log_text.specs.Logs.{log_most, advance, scanned, by_move, scan_from, start, scan}
use Rattle.log_text.proofs.Laws.{scan_on, scan_done, scan_fault, scan_end, step_past}
use Rattle.proof_local.proofs.Beginnings.{long}
use Rattle.proof_local.proofs.Advances.{Cut, same, broken}
use Rattle.proof_local.proofs.SameMoves.{law}
use Rattle.proof_local.proofs.Keeping.{Kept, kept_on, kept_stands}
use Rattle.proof_local.proofs.Around.{is_past, last_cut}
use Rattle.proof_local.proofs.Starting.{started, kept_start, start_cut, never_done}

-- where a scan of a beginning, n long, ends
abbrev pub Ends : ℕ → Reached → Type 0
Ends n s = (s ≡ Ok n) ⊎ (s ≡ fault_at n)

module _ (t : List ℕ) (n : ℕ) (inside : n ≤ length t) where
  module _ (c : Cursor) (k : Kept t c) (h : c.at ≤ n) (q : ℕ) (e : (scan_from t c).end ≡ Ok q) (IH : (d : Cursor) → Kept t d → d.at ≤ n → c.at < d.at → (scan_from t d).end ≡ Ok q → Ends n (scan_from (take n t) d).end) where
    one_move : (x y : Move) → x ≡ advance t c → y ≡ advance (take n t) c → Cut n x y → Ends n (scan_from (take n t) c).end
    one_move (On d) y ex ey (same l f) =
        rw (scan_on (take n t) c y ey d l)
        (IH d (kept_on t c k d (sym ex)) f (step_past t c (On d) ex d refl) (ap (λ (s : Scanned). s.end) (sym (scan_on t c (On d) ex d refl)) ∙ e))
    one_move (Done d) y ex ey (same l f) =
        rw (scan_done (take n t) c y ey d l (last_from (take n t) d.at) refl)
        (last_cut t n inside d.at f q (ap (λ (s : Scanned). s.end) (sym (scan_done t c (Done d) ex d refl (last_from t d.at) refl)) ∙ e))
    one_move (Fault r) y ex ey (same l f) = absurd (false≢true (ap is_past (ap (λ (s : Scanned). s.end) (sym (scan_fault t c (Fault r) ex r refl)) ∙ e)))
    one_move x y ex ey (broken l f) = inr (ap (λ (s : Scanned). s.end) (scan_fault (take n t) c y ey n l))

  from : (k : ℕ) (c : Cursor) → Kept t c → c.at ≤ n → n ≤ c.at + k → (q : ℕ) → (scan_from t c).end ≡ Ok q → Ends n (scan_from (take n t) c).end
  from zero c w h m q e = inr (ap (λ (s : Scanned). s.end) (scan_end (take n t) c (omega (arith, m, long t n inside))) ∙ ap fault_at (long t n inside))
  from (suc k) c w h m q e =
      one_move c w h q e (λ d v l a f. from k d v l (omega (arith, m, a)) q f) (advance t c) (advance (take n t) c) refl refl (law t n c (kept_stands t c w n inside h))

  module _ (q : ℕ) where
    by_start : (x y : Move) → start t ≡ x → Cut n x y → (by_move x (scan_from t) (λ d. scanned (Ok d.at) d) (λ r. scanned (fault_at r) nowhere)).end ≡ Ok q
        → Ends n (by_move y (scan_from (take n t)) (λ d. scanned (Ok d.at) d) (λ r. scanned (fault_at r) nowhere)).end
    unfolding by_move
    by_start (On c) y s (same l f) e = rw l (from n c (kept_start t c (started t c s)) f (omega arith) q e)
    by_start (Done c) y s (same l f) e = absurd (never_done t c s)
    by_start (Fault r) y s (same l f) e = absurd (false≢true (ap is_past e))
    by_start x y s (broken l f) e = inr (rw l refl)

    -- THE LAW
    pub beginning_ends : length t ≤ log_most → (scan t).end ≡ Ok q → Ends n (scan (take n t)).end
    unfolding scan
    beginning_ends short e = by_start (start t) (start (take n t)) refl (start_cut t n inside short) e
