-- A MARKUP THAT ENDS WELL before n, read from one of its bytes on: each byte leads to a state from which it ends well. Assumes nothing.
use mathlib.Core.Path.{◌∙◌, refl, subst}
use mathlib.Core.Bool.{Bool, true, false}
use mathlib.Core.List.{List, ◌∷◌}
use Prim.Native.Nat.{ℕ, ◌+◌, ◌<◌, ◌≤◌}
use native.Mathlib.Numerals.{add-one}
use native.Mathlib.Omega.{arith}
use lib.Dec.{leb}
use lib.ListN.{length, drop, drop_of_length-le}
use lib.Seq.{drop-cons}
use Rattle.base_words.specs.Pick.{if◌then◌or_else◌}
use Rattle.base_words.specs.Words.{at, part}
use Rattle.base_bytes.proofs.PieceLaws.{by_order}
use Rattle.xml_characters.specs.Names.{is_control}
use Rattle.xml_scanner.specs.declared.State.{State}
use Rattle.xml_scanner.specs.declared.Move.{Move}
use Rattle.xml_scanner.specs.declared.Move.TheVariants.{On as Onward, Next, Close, Here, Back}
use Rattle.xml_scanner.specs.Moves.{step}
use Rattle.xml_markup.specs.declared.Cursor.{Cursor}
use Rattle.xml_markup.specs.declared.Scan.{Scan}
use Rattle.xml_markup.specs.declared.Scan.TheVariants.{On, Past, Fault}
use Rattle.xml_markup.specs.Tokens.{whole, move_to, moved, if_on, is_faulty}
use Rattle.xml_markup.specs.Markup.{advance, scan_from}
use Rattle.proof_local.proofs.Scans.{Late, late_from}

abbrev pub here : State → ℕ → Cursor
here s m = record { state = s; mark = m }

-- ends well, no further than n
abbrev pub Ends : ℕ → Scan → Type 0
Ends n (On c) = ⊥
Ends n (Past sort q) = q ≤ n
Ends n (Fault q) = ⊥

pub ends_before : (n i : ℕ) (r : Scan) → Late i r → Ends n r → i < n
ends_before n i (On c) l e = absurd e
ends_before n i (Past sort q) l e = omega (arith, l, e)
ends_before n i (Fault q) l e = absurd e

-- then the byte is at no fault
ends_move : (n i m : ℕ) (f : Cursor → Scan) (a b c : Bool) (r : Scan) → Ends n (if_on (if a then Fault i or_else if b then Fault m or_else if c then Fault i or_else r) f (if a then Fault i or_else if b then Fault m or_else if c then Fault i or_else r)) → Ends n (if_on r f r)
unfolding if◌then◌or_else◌ if_on
ends_move n i m f true b c r e = absurd e
ends_move n i m f false true c r e = absurd e
ends_move n i m f false false true r e = absurd e
ends_move n i m f false false false r e = e

pub ends_moved : (t : List ℕ) (n start : ℕ) (c : Cursor) (b : ℕ) (s : List ℕ) (i : ℕ) → Ends n (scan_from t start c (b ∷ s) i) → Ends n (if_on (moved c (at t i) i (i + 1)) (λ next. scan_from t start next s (i + 1)) (moved c (at t i) i (i + 1)))
unfolding scan_from advance
ends_moved t n start c b s i e = ends_move n i c.mark (λ next. scan_from t start next s (i + 1)) (leb (length t) i) (is_faulty (whole c.state (at t i)) (part t 0 i) start c.mark) (is_control (at t i)) (moved c (at t i) i (i + 1)) e

module _ (t : List ℕ) (n start : ℕ) where
  -- from the state s at i on it ends well
  pub record Goes (s : State) (i : ℕ) : Type 0 where
    pub mark : ℕ
    pub ends : Ends n (scan_from t start (here s mark) (drop i t) i)

  abbrev pub After : Move → ℕ → Type 0
  After (Onward v) i = Goes v (i + 1)
  After (Next v) i = Goes v (i + 1)
  After (Close sort) i = Unit {0}
  After Here i = ⊥
  After Back i = ⊥

  pub before : (s : State) (i : ℕ) → Goes s i → i < n
  before s i g = ends_before n i (scan_from t start (here s g.mark) (drop i t) i) (late_from t start (drop i t) (here s g.mark) i) g.ends

  in_text : (s : State) (i : ℕ) → Goes s i → i < length t
  in_text s i g = by_order (length t) i (λ h. absurd (unfold scan_from in rw (drop_of_length-le t h) at g.ends)) (λ h. h)

  after_move : (m : Move) (k i : ℕ) → Ends n (if_on (move_to m k i (i + 1)) (λ next. scan_from t start next (drop (i + 1) t) (i + 1)) (move_to m k i (i + 1))) → After m i
  unfolding move_to if_on
  after_move (Onward v) k i e = record { mark = k; ends = e }
  after_move (Next v) k i e = record { mark = i; ends = e }
  after_move (Close sort) k i e = tt
  after_move Here k i e = absurd e
  after_move Back k i e = absurd e

  pub goes : (s : State) (i : ℕ) → Goes s i → After (step s (at t i)) i
  goes s i g = after_move (step s (at t i)) g.mark i (unfold moved in ends_moved t n start (here s g.mark) (at t i) (drop (i + 1) t) i split)
    where
      split : Ends n (scan_from t start (here s g.mark) (at t i ∷ drop (i + 1) t) i)
      split = subst (λ (l : List ℕ). Ends n (scan_from t start (here s g.mark) l i)) (drop-cons t i 0 (in_text s i g) ∙ rw (add-one i) refl) g.ends
