-- A markup read byte by byte: as its loop goes, where it ends, and what the end of the text cuts off. Assumes nothing.
use mathlib.Core.Logic.{◌⊎◌, inl, inr, ⊎_elim}
use mathlib.Core.Path.{◌≡◌, ◌∙◌, refl, ap}
use mathlib.Core.Bool.{Bool, true, false}
use mathlib.Core.List.{List, [], ◌∷◌}
use Prim.Native.Nat.{ℕ, zero, suc, ◌+◌, ◌<◌, ◌≤◌}
use native.Mathlib.Numerals.{add-one}
use native.Mathlib.Omega.{arith}
use lib.Dec.{leb}
use lib.ListN.{length, take, drop, drop_of_length-le}
use lib.Seq.{drop-cons}
use borrow.Author.Tests.{lt-leb}
use Rattle.base_words.specs.Pick.{if◌then◌or_else◌}
use Rattle.base_words.specs.Words.{at, part}
use Rattle.xml_markup.proofs.TokenLaws.{not_on}
use Rattle.xml_markup.specs.declared.Cursor.{Cursor}
use Rattle.xml_scanner.specs.declared.Move.{Move}
use Rattle.xml_scanner.specs.declared.Move.TheVariants.{On as Onward, Next, Close, Here, Back}
use Rattle.xml_markup.specs.declared.Scan.{Scan}
use Rattle.xml_markup.specs.declared.Scan.TheVariants.{On, Past, Fault}
use Rattle.xml_characters.specs.Names.{is_control}
use Rattle.xml_scanner.specs.Moves.{step}
use Rattle.xml_markup.specs.Tokens.{whole, move_to, moved, if_on, is_faulty}
use Rattle.xml_markup.specs.Markup.{advance, scan_from}

module _ (t : List ℕ) (start : ℕ) (c : Cursor) (i : ℕ) (h : i < length t) (r : Scan) (er : r ≡ advance t start c i) where
  pub scan_on : (next : Cursor) → r ≡ On next → scan_from t start c (drop i t) i ≡ scan_from t start next (drop (i + 1) t) (i + 1)
  unfolding scan_from if_on
  scan_on next m = rw (drop-cons t i 0 h, add-one i, ← er, m)

  pub scan_stops : ((v : Cursor) → r ≡ On v → ⊥) → scan_from t start c (drop i t) i ≡ r
  unfolding scan_from
  scan_stops m = rw (drop-cons t i 0 h, ← er) (not_on _ _ _ m)

pub scan_end : (t : List ℕ) (start : ℕ) (c : Cursor) (i : ℕ) → length t ≤ i → scan_from t start c (drop i t) i ≡ Fault i
unfolding scan_from
scan_end t start c i h = rw (drop_of_length-le t h)

-- WHERE IT ENDS. From i on: the token read is not ahead, the place behind the markup is, and no place is beyond the end e.
abbrev pub Within : ℕ → ℕ → Scan → Type 0
Within i e (On c) = c.mark ≤ i
Within i e (Past sort q) = (i < q) × (q ≤ e)
Within i e (Fault q) = q ≤ e

within_if : (i e : ℕ) (b : Bool) (x y : Scan) → Within i e x → Within i e y → Within i e (if b then x or_else y)
unfolding if◌then◌or_else◌
within_if i e true x y h k = h
within_if i e false x y h k = k

within_move : (m : Move) (mark i e : ℕ) → mark ≤ i → i < e → Within i e (move_to m mark i (i + 1))
unfolding move_to
within_move (Onward s) mark i e h k = h
within_move (Next s) mark i e h k = omega arith
within_move (Close sort) mark i e h k = (omega arith, omega arith)
within_move Here mark i e h k = omega arith
within_move Back mark i e h k = omega arith

within_advance : (t : List ℕ) (start : ℕ) (c : Cursor) (i : ℕ) → c.mark ≤ i → i < length t → Within i (length t) (advance t start c i)
unfolding advance moved
within_advance t start c i h k =
    within_if i (length t) (leb (length t) i) (Fault i) _ (omega arith)
    (within_if i (length t) (is_faulty (whole c.state (at t i)) (part t 0 i) start c.mark) (Fault c.mark) _ (omega arith)
    (within_if i (length t) (is_control (at t i)) (Fault i) _ (omega arith) (within_move (step c.state (at t i)) c.mark i (length t) h k)))

-- what is behind i + 1 is behind i; a scan that ended holds no token
abbrev pub Ended : ℕ → ℕ → Scan → Type 0
Ended i e (On c) = ⊥
Ended i e (Past sort q) = (i < q) × (q ≤ e)
Ended i e (Fault q) = q ≤ e

ended_on : (i e : ℕ) (r : Scan) → Ended (i + 1) e r → Ended i e r
ended_on i e (On c) h = h
ended_on i e (Past sort q) h = (omega (arith, h.0), h.1)
ended_on i e (Fault q) h = h

pub ended_from : (t : List ℕ) (start : ℕ) (s : List ℕ) (c : Cursor) (i : ℕ) → c.mark ≤ i → i + length s ≡ length t → Ended i (length t) (scan_from t start c s i)
unfolding scan_from if_on
ended_from t start [] c i h e = omega arith
ended_from t start (b ∷ s) c i h e = go (advance t start c i) (within_advance t start c i h (omega arith)) (λ next l. ended_from t start s next (i + 1) l (omega arith))
  where
    go : (a : Scan) → Within i (length t) a → ((next : Cursor) → next.mark ≤ i + 1 → Ended (i + 1) (length t) (scan_from t start next s (i + 1))) → Ended i (length t) (if_on a (λ next. scan_from t start next s (i + 1)) a)
    go (On next) w k = ended_on i (length t) (scan_from t start next s (i + 1)) (k next (omega (arith, w)))
    go (Past sort q) w k = w
    go (Fault q) w k = w

-- WHAT THE END CUTS OFF. Two texts that agree before the place n move alike there.
module _ (t u : List ℕ) (n : ℕ) (inside : n ≤ length t) (long : length u ≡ n) (byte-same : (i : ℕ) → i < n → at u i ≡ at t i) (Part-same : (i : ℕ) → i < n → part u 0 i ≡ part t 0 i) where
  advance_same : (start : ℕ) (c : Cursor) (i : ℕ) → i < n → advance u start c i ≡ advance t start c i
  unfolding advance
  advance_same start c i h = rw (byte-same i h, Part-same i h, lt-leb (length u) i (omega arith), lt-leb (length t) i (omega arith))

  -- a beginning of a text is read as the text is, or is a fault at its end
  pub cut_from : (start : ℕ) (s : List ℕ) (c : Cursor) (i k : ℕ) → i + k ≡ n → (scan_from u start c (take k s) i ≡ scan_from t start c s i) ⊎ (scan_from u start c (take k s) i ≡ Fault (i + length (take k s)))
  unfolding scan_from if_on
  cut_from start s c i zero e = inr (let z : i ≡ i + 0 = omega arith in ap Fault z)
  cut_from start [] c i (suc k) e = inl refl
  cut_from start (b ∷ s) c i (suc k) e = rw (advance_same start c i (omega arith)) (go (advance t start c i) (λ next. cut_from start s next (i + 1) k (omega arith)))
    where
      go : (a : Scan) → ((next : Cursor) → (scan_from u start next (take k s) (i + 1) ≡ scan_from t start next s (i + 1)) ⊎ (scan_from u start next (take k s) (i + 1) ≡ Fault (i + 1 + length (take k s)))) → (if_on a (λ next. scan_from u start next (take k s) (i + 1)) a ≡ if_on a (λ next. scan_from t start next s (i + 1)) a) ⊎ (if_on a (λ next. scan_from u start next (take k s) (i + 1)) a ≡ Fault (i + suc (length (take k s))))
      go (On next) f = ⊎_elim inl (λ q. inr (q ∙ (let z : i + 1 + length (take k s) ≡ i + suc (length (take k s)) = omega arith in ap Fault z))) (f next)
      go (Past sort q) f = inl refl
      go (Fault q) f = inl refl
