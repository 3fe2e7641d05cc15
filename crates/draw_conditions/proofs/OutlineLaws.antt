-- A markup by its outline: as the loop goes; where it ends; and that of a markup without fault it is the markup. Assumes nothing.
use mathlib.Core.Path.{◌≡◌, refl, ap}
use mathlib.Core.Bool.{Bool, true, false, false≢true}
use mathlib.Core.List.{List, [], ◌∷◌}
use Prim.Native.Nat.{ℕ, ◌+◌, ◌<◌, ◌≤◌}
use native.Mathlib.Numerals.{add-one}
use native.Mathlib.Omega.{arith}
use lib.Dec.{leb}
use lib.ListN.{length, drop, drop_of_length-le}
use lib.Seq.{drop-cons}
use borrow.Author.Tests.{lt-leb}
use Rattle.base_words.specs.Pick.{if◌then◌or_else◌}
use Rattle.base_words.specs.Words.{at, part}
use Rattle.base_bytes.specs.Bytes.{past}
use Rattle.base_bytes.proofs.PastLaws.{past_from}
use Rattle.xml_characters.specs.Names.{is_control}
use Rattle.xml_scanner.specs.declared.Sort.{Sort}
use Rattle.xml_scanner.specs.declared.Sort.TheVariants.{Fault as AFault}
use Rattle.xml_scanner.specs.declared.Move.{Move}
use Rattle.xml_scanner.specs.declared.Move.TheVariants.{On as Onward, Next, Close, Here, Back}
use Rattle.xml_scanner.specs.Moves.{step}
use Rattle.xml_markup.proofs.TokenLaws.{not_on}
use Rattle.xml_markup.proofs.StayLaws.{in_state, run_stay}
use Rattle.xml_markup.specs.declared.Cursor.{Cursor}
use Rattle.xml_markup.specs.declared.Scan.{Scan}
use Rattle.xml_markup.specs.declared.Scan.TheVariants.{On, Past, Fault}
use Rattle.xml_markup.specs.Staying.{stays}
use Rattle.xml_markup.specs.Tokens.{whole, move_to, moved, if_on, is_faulty, begun}
use Rattle.xml_markup.specs.Markup.{advance, scan_from, scan, opens_markup, placed, markup}
use Rattle.draw_conditions.specs.Outline.{outline_from, outline, if_past}

-- AS THE LOOP GOES
module _ (t : List ℕ) (c : Cursor) (i : ℕ) (h : i < length t) (b : ℕ) (eb : b ≡ at t i) (r : Scan) (er : r ≡ moved c b i (i + 1)) where
  pub outline_on : (next : Cursor) → r ≡ On next → outline_from t c (drop i t) i ≡ outline_from t next (drop (i + 1) t) (i + 1)
  unfolding outline_from if_on
  outline_on next m = rw (drop-cons t i 0 h, ← eb, ← er, m, add-one i)

  pub outline_stops : ((v : Cursor) → r ≡ On v → ⊥) → outline_from t c (drop i t) i ≡ r
  unfolding outline_from
  outline_stops m = rw (drop-cons t i 0 h, ← eb, ← er) (not_on _ _ _ m)

pub outline_end : (t : List ℕ) (c : Cursor) (i : ℕ) → length t ≤ i → outline_from t c (drop i t) i ≡ Fault i
unfolding outline_from
outline_end t c i h = rw (drop_of_length-le t h)

module _ (t : List ℕ) (c : Cursor) where
  stay_step : (b : ℕ) (s : List ℕ) (i : ℕ) → i < length t → stays c.state (at t i) ≡ true → outline_from t c (b ∷ s) i ≡ outline_from t c s (i + 1)
  unfolding outline_from if_on
  stay_step b s i h e = let k = in_state c.mark (at t i) i (i + 1) c.state e in rw k.goes refl

  pub outline_stay : (i j : ℕ) → j ≡ past (stays c.state) (drop i t) i → outline_from t c (drop i t) i ≡ outline_from t c (drop j t) j
  outline_stay = run_stay t (stays c.state) (outline_from t c) stay_step

-- a run never goes back
pub stay_ahead : (f : ℕ → Bool) (s : List ℕ) (i j : ℕ) → j ≡ past f s i → i ≤ j
stay_ahead f s i j e = rw e (past_from f s i)

-- WHERE IT ENDS: ahead
abbrev pub Ahead : ℕ → Scan → Type 0
Ahead i (On c) = Unit {0}
Ahead i (Past sort q) = i < q
Ahead i (Fault q) = Unit {0}

ahead_from : (i : ℕ) (r : Scan) → Ahead (i + 1) r → Ahead i r
ahead_from i (On c) h = tt
ahead_from i (Past sort q) h = omega arith
ahead_from i (Fault q) h = tt

ahead_move : (m : Move) (mark i : ℕ) → Ahead i (move_to m mark i (i + 1))
unfolding move_to
ahead_move (Onward s) mark i = tt
ahead_move (Next s) mark i = tt
ahead_move (Close sort) mark i = omega arith
ahead_move Here mark i = tt
ahead_move Back mark i = tt

ahead_moved : (c : Cursor) (b i : ℕ) → Ahead i (moved c b i (i + 1))
unfolding moved
ahead_moved c b i = ahead_move (step c.state b) c.mark i

ahead_outline : (t : List ℕ) (s : List ℕ) (c : Cursor) (i : ℕ) → Ahead i (outline_from t c s i)
unfolding outline_from
ahead_outline t [] c i = tt
ahead_outline t (b ∷ s) c i = go (moved c (at t i) i (i + 1)) (ahead_moved c (at t i) i) (λ next. ahead_outline t s next (i + 1))
  where
    go : (a : Scan) → Ahead i a → ((next : Cursor) → Ahead (i + 1) (outline_from t next s (i + 1))) → Ahead i (if_on a (λ next. outline_from t next s (i + 1)) a)
    go (On next) h k = unfold if_on in ahead_from i (outline_from t next s (i + 1)) (k next)
    go (Past sort q) h k = unfold if_on in h
    go (Fault q) h k = unfold if_on in h

pub outline_ahead : (t : List ℕ) (p : ℕ) → Ahead p (outline t p)
unfolding outline
outline_ahead t p = ahead_outline t (drop p t) (begun p) p

-- OF A MARKUP WITHOUT FAULT it is the markup
is_past : Scan → Bool
is_past (On c) = false
is_past (Past sort q) = true
is_past (Fault q) = false

no_fault : (e : ℕ) (sort : Sort) (q : ℕ) → Fault e ≡ Past sort q → ⊥
unfolding is_past
no_fault e sort q h = false≢true (ap is_past h)

same_from : (t : List ℕ) (start : ℕ) (s : List ℕ) (c : Cursor) (i : ℕ) (sort : Sort) (q : ℕ) → scan_from t start c s i ≡ Past sort q → outline_from t c s i ≡ Past sort q
unfolding scan_from outline_from advance
same_from t start [] c i sort q e = absurd (no_fault i sort q e)
same_from t start (b ∷ s) c i sort q e = go (leb (length t) i) (is_faulty (whole c.state (at t i)) (part t 0 i) start c.mark) (is_control (at t i)) (moved c (at t i) i (i + 1)) (λ next. same_from t start s next (i + 1) sort q) e
  where
    go : (x y z : Bool) (m : Scan) → ((next : Cursor) → scan_from t start next s (i + 1) ≡ Past sort q → outline_from t next s (i + 1) ≡ Past sort q) → if_on (if x then Fault i or_else if y then Fault c.mark or_else if z then Fault i or_else m) (λ next. scan_from t start next s (i + 1)) (if x then Fault i or_else if y then Fault c.mark or_else if z then Fault i or_else m) ≡ Past sort q → if_on m (λ next. outline_from t next s (i + 1)) m ≡ Past sort q
    go true y z m k h = unfold if_on if◌then◌or_else◌ in absurd (no_fault i sort q h)
    go false true z m k h = unfold if_on if◌then◌or_else◌ in absurd (no_fault c.mark sort q h)
    go false false true m k h = unfold if_on if◌then◌or_else◌ in absurd (no_fault i sort q h)
    go false false false (On next) k h = unfold if_on if◌then◌or_else◌ in k next h
    go false false false (Past r p) k h = unfold if_on if◌then◌or_else◌ in h
    go false false false (Fault p) k h = unfold if_on if◌then◌or_else◌ in h

module _ (t : List ℕ) (p : ℕ) where
  by_scan : (r : Scan) → scan t p ≡ r → ((placed r).sort ≡ AFault → ⊥) → outline t p ≡ Past (placed r).sort (placed r).next
  unfolding scan outline placed
  by_scan (On c) e h = absurd (h refl)
  by_scan (Past sort q) e h = same_from t p (drop p t) (begun p) p sort q e
  by_scan (Fault q) e h = absurd (h refl)

  pub outline_is : p < length t → opens_markup (at t p) ≡ true → ((markup t p).sort ≡ AFault → ⊥) → outline t p ≡ Past (markup t p).sort (markup t p).next
  unfolding markup if◌then◌or_else◌
  outline_is l o h = rw (lt-leb (length t) p l, o) (by_scan (scan t p) refl (rw (lt-leb (length t) p l, o) at h))

-- an answer taken apart
pub past_is : {A : Type 0} (r : Scan) (f : Sort → ℕ → A) (a : A) (sort : Sort) (q : ℕ) → r ≡ Past sort q → if_past r f a ≡ f sort q
unfolding if_past
past_is r f a sort q e = rw e

pub past_not : {A : Type 0} (r : Scan) (f : Sort → ℕ → A) (a : A) → ((v : Sort) (w : ℕ) → r ≡ Past v w → ⊥) → if_past r f a ≡ a
unfolding if_past
past_not (On c) f a e = refl
past_not (Past sort q) f a e = absurd (e sort q refl)
past_not (Fault q) f a e = refl
