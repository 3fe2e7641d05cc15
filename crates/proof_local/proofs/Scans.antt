-- A MARKUP READ BYTE BY BYTE in a beginning of a text: as in the text, or up to the end of the beginning, and then what the text has there ends behind it. Assumes nothing.
use mathlib.Core.Path.{◌≡◌, refl}
use mathlib.Core.Bool.{Bool, true, false}
use mathlib.Core.List.{List, [], ◌∷◌}
use Prim.Native.Nat.{ℕ, zero, suc, ◌+◌, ◌-◌, ◌<◌, ◌≤◌}
use native.Mathlib.Omega.{arith}
use lib.ListN.{length, take, drop, length-drop}
use borrow.Author.Tests.{lt-leb}
use Rattle.base_words.specs.Pick.{if◌then◌or_else◌}
use Rattle.base_words.specs.Words.{at}
use Rattle.xml_scanner.specs.declared.Move.{Move}
use Rattle.xml_scanner.specs.declared.Move.TheVariants.{On as Onward, Next, Close, Here, Back}
use Rattle.xml_scanner.specs.Moves.{step}
use Rattle.xml_markup.specs.declared.Cursor.{Cursor}
use Rattle.xml_markup.specs.declared.Scan.{Scan}
use Rattle.xml_markup.specs.declared.Scan.TheVariants.{On, Past, Fault}
use Rattle.xml_markup.specs.Tokens.{move_to, moved, if_on, begun}
use Rattle.xml_markup.specs.Markup.{advance, scan_from, scan}
use Rattle.proof_local.proofs.Beginnings.{long, byte, piece, rest}

-- what ends well ends behind n
abbrev pub Late : ℕ → Scan → Type 0
Late n (On c) = Unit {0}
Late n (Past sort q) = n < q
Late n (Fault q) = Unit {0}

-- x is the text's, y the beginning's, n long
pub data Cut (n : ℕ) (x y : Scan) : Type 0 where
  same : y ≡ x → Cut n x y
  broken : y ≡ Fault n → Late n x → Cut n x y

late_if : (i : ℕ) (b : Bool) (x y : Scan) → Late i x → Late i y → Late i (if b then x or_else y)
unfolding if◌then◌or_else◌
late_if i true x y h k = h
late_if i false x y h k = k

late_move : (m : Move) (mark i : ℕ) → Late i (move_to m mark i (i + 1))
unfolding move_to
late_move (Onward s) mark i = tt
late_move (Next s) mark i = tt
late_move (Close sort) mark i = omega arith
late_move Here mark i = tt
late_move Back mark i = tt

late_advance : (t : List ℕ) (start : ℕ) (c : Cursor) (i : ℕ) → Late i (advance t start c i)
unfolding advance moved
late_advance t start c i = late_if i _ (Fault i) _ tt (late_if i _ (Fault c.mark) _ tt (late_if i _ (Fault i) _ tt (late_move (step c.state (at t i)) c.mark i)))

late_on : (i : ℕ) (r : Scan) → Late (i + 1) r → Late i r
late_on i (On c) h = tt
late_on i (Past sort q) h = omega (arith, h)
late_on i (Fault q) h = tt

pub late_from : (t : List ℕ) (start : ℕ) (s : List ℕ) (c : Cursor) (i : ℕ) → Late i (scan_from t start c s i)
unfolding scan_from
late_from t start [] c i = tt
late_from t start (b ∷ s) c i = go (advance t start c i) (late_advance t start c i) (λ next. late_from t start s next (i + 1))
  where
    go : (a : Scan) → Late i a → ((next : Cursor) → Late (i + 1) (scan_from t start next s (i + 1))) → Late i (if_on a (λ next. scan_from t start next s (i + 1)) a)
    go (On next) l k = unfold if_on in late_on i (scan_from t start next s (i + 1)) (k next)
    go (Past sort q) l k = unfold if_on in l
    go (Fault q) l k = unfold if_on in tt

module _ (t : List ℕ) (n : ℕ) (inside : n ≤ length t) where
  pub advance_same : (start : ℕ) (c : Cursor) (i : ℕ) → i < n → advance (take n t) start c i ≡ advance t start c i
  unfolding advance
  advance_same start c i h =
      rw (byte t n inside i h, piece t n inside 0 i (omega arith), lt-leb (length (take n t)) i (omega (arith, h, long t n inside)), lt-leb (length t) i (omega arith)) refl

  cut_from : (start : ℕ) (s : List ℕ) (c : Cursor) (i k : ℕ) → i + k ≡ n → k ≤ length s → Cut n (scan_from t start c s i) (scan_from (take n t) start c (take k s) i)
  unfolding scan_from
  cut_from start s c i zero e l = let z : i ≡ n = omega arith in rw z (broken refl (late_from t start s c n))
  cut_from start [] c i (suc k) e l = absurd (omega (arith, l))
  cut_from start (b ∷ s) c i (suc k) e l = rw (advance_same start c i (omega arith)) (go (advance t start c i) (λ next. cut_from start s next (i + 1) k (omega arith) (omega arith)))
    where
      go : (a : Scan) → ((next : Cursor) → Cut n (scan_from t start next s (i + 1)) (scan_from (take n t) start next (take k s) (i + 1))) → Cut n (if_on a (λ next. scan_from t start next s (i + 1)) a) (if_on a (λ next. scan_from (take n t) start next (take k s) (i + 1)) a)
      go (On next) f = unfold if_on in f next
      go (Past sort q) f = unfold if_on in same refl
      go (Fault q) f = unfold if_on in same refl

  pub scan_cut : (p : ℕ) → p ≤ n → Cut n (scan t p) (scan (take n t) p)
  unfolding scan
  scan_cut p h = rw (rest t n inside p h) (cut_from p (drop p t) (begun p) p (n - p) (omega arith) (omega (arith, length-drop p t)))
