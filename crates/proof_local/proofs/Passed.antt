-- WHERE A READER OF A LOG ENDS: it came there by its marks, within the text. Assumes nothing.
use Rattle.xml_skip.specs.Skipping.{fault_at}
use Rattle.std.specs.Prelude.{Ok}
use mathlib.Core.Logic.{◌⊎◌, inl, inr}
use mathlib.Core.Path.{◌≡◌, ◌∙◌, refl, sym, ap, subst}
use mathlib.Core.Bool.{false, false≢true}
use mathlib.Core.List.{List}
use Prim.Native.Nat.{ℕ, zero, suc, ◌+◌, ◌<◌, ◌≤◌}
use native.Mathlib.Omega.{arith}
use lib.Dec.{eqb}
use lib.ListN.{length, take}
use lib.Seq.{take_all, take-take}
use Rattle.xml_document.specs.Around.{last_from}
use Rattle.log_text.specs.declared.Cursor.{Cursor}
use Rattle.log_text.specs.declared.Move.{Move}
use Rattle.log_text.specs.declared.Move.TheVariants.{On, Done, Fault}
use Rattle.log_text.specs.declared.Scanned.{Scanned}
use Rattle.log_text.specs.Cursors.{nowhere}
use Rattle.log_text.specs.Logs.{advance, scanned, by_move, scan_from, start, scan}
use Rattle.log_text.proofs.Laws.{scan_on, scan_done, scan_fault, scan_end, step_past}
use Rattle.proof_local.proofs.Advances.{Early, Cut, same, broken}
use Rattle.proof_local.proofs.SameMoves.{law, is_fault}
use Rattle.proof_local.proofs.Keeping.{Kept, kept_on, kept_stands}
use Rattle.proof_local.proofs.Reached.{Reaches, not_back, reaches_alike, scan_reached}
use Rattle.proof_local.proofs.Around.{is_past}
use Rattle.proof_local.proofs.Beginnings.{long}
use Rattle.proof_local.proofs.Starting.{started, kept_start, start_cut, start_alike, never_done}
use Rattle.proof_local.proofs.Marks.{InTrace, GoesBy, goes, Marked, Passing, marks_stay, passing_on, opened_stays}

-- WITHIN THE TEXT: the text is a beginning of itself
early : (n : ℕ) (x y : Move) (d : Cursor) → x ≡ On d → y ≡ x → Cut n x y → d.at ≤ n
early n x y d e f (same k l) = subst (Early n) e l
early n x y d e f (broken k l) = absurd (false≢true (ap is_fault (sym e ∙ sym f ∙ k)))

module _ (t : List ℕ) where
  whole : take (length t) t ≡ t
  whole = take_all (length t) t (omega arith)

  pub on_within : (c d : Cursor) → Kept t c → c.at ≤ length t → advance t c ≡ On d → d.at ≤ length t
  on_within c d k h m = early (length t) (advance t c) (advance (take (length t) t) c) d m (ap (λ (l : List ℕ). advance l c) whole) (law t (length t) c (kept_stands t c k (length t) (omega arith) h))

  pub start_within : (c : Cursor) → start t ≡ On c → c.at ≤ length t
  start_within c m = early (length t) (start t) (start (take (length t) t)) c m (ap start whole) (start_cut t (length t) (omega arith) (started t c m).short)

  pub reached_within : (d : Cursor) (k : ℕ) (c : Cursor) → Kept t c → c.at ≤ length t → Reaches t d k c → d.at ≤ length t
  reached_within d zero c w h r = omega (arith, h, ap (λ (x : Cursor). x.at) r)
  reached_within d (suc k) c w h r = reached_within d k r.0 (kept_on t c w r.0 r.1.0) (on_within c r.0 w h r.1.0) r.1.1

-- BY ITS MARKS
module _ (t : List ℕ) (b : Cursor) where
  abbrev Ends : Cursor → Type 0
  Ends c = (c.opened ≡ 0) ⊎ Marked t b c

  by_move_lem : (c : Cursor) → Passing t b c → ((d : Cursor) → Passing t b d → c.at < d.at → Ends (scan_from t d).last) → (m : Move) → m ≡ advance t c → Ends (scan_from t c).last
  by_move_lem c k IH (On d) e = rw (scan_on t c (On d) e d refl) (IH d (passing_on t b c d (sym e) k) (step_past t c (On d) e d refl))
  by_move_lem c k IH (Done d) e = rw (scan_done t c (Done d) e d refl (last_from t d.at) refl) (marks_stay t b c d (subst (GoesBy t c) (sym e) (goes t c)).0 k.marks)
  by_move_lem c k IH (Fault q) e = rw (scan_fault t c (Fault q) e q refl) k.marks

  from : (k : ℕ) (c : Cursor) → Passing t b c → length t ≤ c.at + k → Ends (scan_from t c).last
  from zero c p h = rw (scan_end t c (omega (arith, h))) p.marks
  from (suc k) c p h = by_move_lem c p (λ d q l. from k d q (omega (arith, h, l))) (advance t c) refl

  -- what is open stays so
  by_open : (c : Cursor) → eqb c.opened 0 ≡ false → ((d : Cursor) → eqb d.opened 0 ≡ false → c.at < d.at → (scan_from t d).last.opened ≡ d.opened) → (m : Move) → m ≡ advance t c → (scan_from t c).last.opened ≡ c.opened
  by_open c z IH (On d) e =
      let same_as : d.opened ≡ c.opened = opened_stays t c d (sym e) z in
      rw (scan_on t c (On d) e d refl) (IH d (ap (λ (n : ℕ). eqb n 0) same_as ∙ z) (step_past t c (On d) e d refl) ∙ same_as)
  by_open c z IH (Done d) e = rw (scan_done t c (Done d) e d refl (last_from t d.at) refl) (subst (GoesBy t c) (sym e) (goes t c)).0.opened
  by_open c z IH (Fault q) e = rw (scan_fault t c (Fault q) e q refl) refl

  open_from : (k : ℕ) (c : Cursor) → eqb c.opened 0 ≡ false → length t ≤ c.at + k → (scan_from t c).last.opened ≡ c.opened
  open_from zero c z h = rw (scan_end t c (omega (arith, h))) refl
  open_from (suc k) c z h = by_open c z (λ d w l. open_from k d w (omega (arith, h, l))) (advance t c) refl

  -- a log has its trace
  by_log : (q : ℕ) (c : Cursor) → (scan_from t c).end ≡ Ok q → ((d : Cursor) → c.at < d.at → (scan_from t d).end ≡ Ok q → eqb (scan_from t d).last.opened 0 ≡ false) → (m : Move) → m ≡ advance t c → eqb (scan_from t c).last.opened 0 ≡ false
  by_log q c z IH (On d) e = rw (scan_on t c (On d) e d refl) (IH d (step_past t c (On d) e d refl) (ap (λ (s : Scanned). s.end) (sym (scan_on t c (On d) e d refl)) ∙ z))
  by_log q c z IH (Done d) e =
      let k = subst (GoesBy t c) (sym e) (goes t c) in
      rw (scan_done t c (Done d) e d refl (last_from t d.at) refl) (ap (λ (n : ℕ). eqb n 0) k.0.opened ∙ k.1)
  by_log q c z IH (Fault r) e = absurd (false≢true (ap is_past (ap (λ (s : Scanned). s.end) (sym (scan_fault t c (Fault r) e r refl)) ∙ z)))

  log_from : (q k : ℕ) (c : Cursor) → (scan_from t c).end ≡ Ok q → length t ≤ c.at + k → eqb (scan_from t c).last.opened 0 ≡ false
  log_from q zero c z h = absurd (false≢true (ap is_past (ap (λ (s : Scanned). s.end) (sym (scan_end t c (omega (arith, h)))) ∙ z)))
  log_from q (suc k) c z h = by_log q c z (λ d l f. log_from q k d f (omega (arith, h, l))) (advance t c) refl

-- the cursor behind the root's tag, and the marks by which the last one was come to
pub record Ended (t : List ℕ) : Type 0 where
  pub first : Cursor
  pub begins : start t ≡ On first
  pub goes_on : scan t ≡ scan_from t first
  pub marks : Marked t first (scan t).last

scan_at : (t : List ℕ) (c : Cursor) → start t ≡ On c → scan t ≡ scan_from t c
unfolding scan by_move
scan_at t c e = rw e refl

module _ (t : List ℕ) where
  -- THE LAW
  pub ended_by : eqb (scan t).last.opened 0 ≡ false → Ended t
  unfolding scan by_move
  ended_by z = go (start t) refl
    where
      at_start : (c : Cursor) → start t ≡ On c → Passing t c c
      at_start c e =
          let s = started t c e in
          record {
            moves = zero;
            by = refl;
            level = subst (λ (x : Cursor). InTrace t x x.level) (sym s.cursor) tt;
            marks = inl (ap (λ (x : Cursor). x.opened) s.cursor);
          }

      scan_is : (m : Move) → start t ≡ m → scan t ≡ by_move m (scan_from t) (λ d. scanned (Ok d.at) d) (λ q. scanned (fault_at q) nowhere)
      scan_is m e = ap (λ (x : Move). by_move x (scan_from t) (λ d. scanned (Ok d.at) d) (λ q. scanned (fault_at q) nowhere)) e

      marked : (c : Cursor) → scan t ≡ scan_from t c → Ends t c (scan_from t c).last → Marked t c (scan t).last
      marked c e (inl k) = absurd (false≢true (sym z ∙ ap (λ (s : Scanned). eqb s.last.opened 0) e ∙ ap (λ (n : ℕ). eqb n 0) k))
      marked c e (inr k) = rw e k

      go : (m : Move) → start t ≡ m → Ended t
      go (On c) e =
          let g : scan t ≡ scan_from t c = scan_is (On c) e in
          record { first = c; begins = e; goes_on = g; marks = marked c g (from t c (length t) c (at_start c e) (omega arith)) }
      go (Done c) e = absurd (never_done t c e)
      go (Fault q) e = absurd (false≢true (sym z ∙ ap (λ (s : Scanned). eqb s.last.opened 0) (scan_is (Fault q) e)))

  pub has_trace : (q : ℕ) → (scan t).end ≡ Ok q → eqb (scan t).last.opened 0 ≡ false
  unfolding scan by_move
  has_trace q z = go (start t) refl z
    where
      go : (m : Move) → start t ≡ m → (by_move m (scan_from t) (λ d. scanned (Ok d.at) d) (λ r. scanned (fault_at r) nowhere)).end ≡ Ok q
          → eqb (by_move m (scan_from t) (λ d. scanned (Ok d.at) d) (λ r. scanned (fault_at r) nowhere)).last.opened 0 ≡ false
      go (On c) e f = log_from t c q (length t) c f (omega arith)
      go (Done c) e f = absurd (never_done t c e)
      go (Fault r) e f = absurd (false≢true (ap is_past f))

  -- A BEGINNING that reaches behind the trace's start tag
  pub opened_in : (e : Ended t) (n : ℕ) → n ≤ length t → (scan t).last.opened ≤ n → eqb (scan (take n t)).last.opened 0 ≡ false
  opened_in e n inside h =
      rw (scan_begun ∙ scan_reached (take n t) w.o w.steps e.first reach)
      (ap (λ (m : ℕ). eqb m 0) (open_from (take n t) w.o (length (take n t)) w.o w.open_o (omega arith)) ∙ w.open_o)
    where
      w : Marked t e.first (scan t).last
      w = e.marks

      before : w.o.at ≤ n
      before = omega (arith, h, w.opening)

      within : n ≤ length (take n t)
      within = omega (arith, long t n inside)

      alike : take n (take n t) ≡ take n t
      alike = take-take n n t (omega arith)

      first_kept : Kept t e.first
      first_kept = kept_start t e.first (started t e.first e.begins)

      begun : start (take n t) ≡ On e.first
      begun = start_alike t (take n t) n inside within alike (omega (arith, inside, long t n inside, (started t e.first e.begins).short)) e.first e.begins (omega (arith, before, not_back t w.o w.steps e.first w.by_o))

      reach : Reaches (take n t) w.o w.steps e.first
      reach = reaches_alike t (take n t) n inside within alike w.o before w.steps e.first first_kept w.by_o

      scan_begun : scan (take n t) ≡ scan_from (take n t) e.first
      scan_begun = scan_at (take n t) e.first begun
