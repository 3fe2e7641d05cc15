-- CHARACTER DATA in a beginning of a text: as in the text, or up to the end of the beginning, and then it goes as far in the text, or ends there by `]]>`. Assumes nothing.
use mathlib.Core.Path.{◌≡◌, ◌∙◌, refl, sym, ap}
use mathlib.Core.Bool.{Bool, true, false, false≢true}
use mathlib.Core.List.{List, [], ◌∷◌}
use Prim.Native.Nat.{ℕ, zero, suc, ◌+◌, ◌-◌, ◌<◌, ◌≤◌}
use native.Mathlib.Omega.{arith}
use lib.Dec.{eqb}
use lib.ListN.{length, take, drop, length-drop, length-take}
use lib.Seq.{get_or-take, get_or-drop, take-take}
use borrow.Author.Tests.{eqb-true}
use Rattle.std.proofs.lemmas.Bool.{false_from_ne_true}
use Rattle.base_words.specs.Pick.{if◌then◌or_else◌}
use Rattle.base_words.specs.Text.{bytes}
use Rattle.base_words.specs.Words.{at, part}
use Rattle.base_words.proofs.AllLaws.{and_left, and_right}
use Rattle.base_bytes.proofs.PieceLaws.{by_order}
use Rattle.base_bytes.specs.Bytes.{same_bytes}
use Rattle.xml_characters.specs.Names.{is_control}
use Rattle.xml_scanner.specs.declared.Sort.TheVariants.{Text}
use Rattle.xml_markup.specs.declared.Scan.{Scan}
use Rattle.xml_markup.specs.declared.Scan.TheVariants.{On, Past, Fault}
use Rattle.xml_markup.specs.Markup.{begins_at, closes_data, opens_markup, text_from}
use Rattle.proof_local.proofs.Beginnings.{long, byte, piece, rest}

pub same_true : (a b : List ℕ) → same_bytes a b ≡ true → a ≡ b
unfolding same_bytes
same_true [] [] e = refl
same_true [] (y ∷ b) e = absurd (false≢true e)
same_true (x ∷ a) [] e = absurd (false≢true e)
same_true (x ∷ a) (y ∷ b) e = rw (eqb-true x y (and_left (eqb x y) (same_bytes a b) e), same_true a b (and_right (eqb x y) (same_bytes a b) e)) refl

-- what begins at i, of a given length
begins : (t : List ℕ) (i m : ℕ) → i + m ≤ length t → part (part t i (length t)) 0 m ≡ part t i (i + m)
begins t i m h =
    ap (λ (k : ℕ). take k (take (length t - i) (drop i t))) (let e : m - 0 ≡ m = omega arith in e)
    ∙ take-take m (length t - i) (drop i t) (omega arith)
    ∙ ap (λ (k : ℕ). take k (drop i t)) (let e : m ≡ i + m - i = omega arith in e)

module _ (t : List ℕ) (n : ℕ) (inside : n ≤ length t) (w : List ℕ) (i : ℕ) where
  pub begins_same : i + length w ≤ n → begins_at (take n t) i w ≡ begins_at t i w
  unfolding begins_at
  begins_same h =
      rw (begins (take n t) i (length w) (omega (arith, h, long t n inside)), begins t i (length w) (omega (arith, h, inside)), piece t n inside i (i + length w) h) refl

  pub begins_not : i ≤ n → n < i + length w → begins_at (take n t) i w ≡ false
  unfolding begins_at
  begins_not l h =
      false_from_ne_true _
      (λ e. let q = ap length (same_true (part (part (take n t) i (length (take n t))) 0 (length w)) w e) in
      omega (arith, l, h, q, short))
    where
      short : length (part (part (take n t) i (length (take n t))) 0 (length w)) ≤ n - i
      short =
          omega (arith, length-take (length w - 0) (part (take n t) i (length (take n t))), length-take (length (take n t) - i) (drop i (take n t)), length-drop i (take n t), long t n inside)

-- goes at least as far as n, or ends at fault
abbrev pub AtLeast : ℕ → Scan → Type 0
AtLeast n (On c) = Unit {0}
AtLeast n (Past sort q) = (sort ≡ Text) × (n ≤ q)
AtLeast n (Fault q) = Unit {0}

-- x is the text's, y the beginning's, n long
pub data CutText (n : ℕ) (x y : Scan) : Type 0 where
  same : y ≡ x → CutText n x y
  onward : y ≡ Past Text n → AtLeast n x → CutText n x y

least_on : (i : ℕ) (r : Scan) → AtLeast (i + 1) r → AtLeast i r
least_on i (On c) h = tt
least_on i (Past sort q) h = (h.0, omega (arith, h.1))
least_on i (Fault q) h = tt

pub text_least : (t s : List ℕ) (i : ℕ) → AtLeast i (text_from t s i)
unfolding text_from
text_least t [] i = (refl, omega arith)
text_least t (b ∷ s) i = go (opens_markup (at t i)) (is_control (at t i)) (closes_data t i) (text_least t s (i + 1))
  where
    go : (o c d : Bool) → AtLeast (i + 1) (text_from t s (i + 1)) → AtLeast i (if o then Past Text i or_else if c then Fault i or_else if d then Fault i or_else text_from t s (i + 1))
    go true c d k = unfold if◌then◌or_else◌ in (refl, omega arith)
    go false true d k = unfold if◌then◌or_else◌ in tt
    go false false true k = unfold if◌then◌or_else◌ in tt
    go false false false k = unfold if◌then◌or_else◌ in least_on i (text_from t s (i + 1)) k

module _ (t : List ℕ) (n : ℕ) (inside : n ≤ length t) where
  closes_same : (i : ℕ) → i + 3 ≤ n → closes_data (take n t) i ≡ closes_data t i
  unfolding closes_data
  closes_same i h = begins_same t n inside (bytes "]]>") i h

  closes_not : (i : ℕ) → i ≤ n → n < i + 3 → closes_data (take n t) i ≡ false
  unfolding closes_data
  closes_not i l h = begins_not t n inside (bytes "]]>") i l h

  -- the second byte of `]]>`
  bracket : (i : ℕ) → i + 1 < length t → closes_data t i ≡ true → at t (i + 1) ≡ 93
  unfolding closes_data begins_at
  bracket i h e =
      sym (get_or-drop i t 1 0)
      ∙ sym (get_or-take (length t - i) (drop i t) 1 0 (omega arith))
      ∙ sym (get_or-take 3 (take (length t - i) (drop i t)) 1 0 (omega arith))
      ∙ ap (λ (l : List ℕ). at l 1) (same_true (part (part t i (length t)) 0 3) (bytes "]]>") e)

  -- one byte more, the first of a cut `]]>`
  last_bracket : (s : List ℕ) (i k : ℕ) → i + 1 + k ≡ n → k < 2 → k ≤ length s → closes_data t i ≡ true → text_from (take n t) (take k s) (i + 1) ≡ Past Text n
  unfolding text_from
  last_bracket s i zero e l m d = ap (Past Text) (omega (arith, e))
  last_bracket [] i (suc k) e l m d = absurd (omega (arith, m))
  last_bracket (b ∷ s) i (suc zero) e l m d =
      unfold if◌then◌or_else◌ opens_markup is_control in
      rw (byte t n inside (i + 1) (omega arith), bracket i (omega arith) d, closes_not (i + 1) (omega arith) (omega arith))
      (ap (Past Text) (omega (arith, e)))
  last_bracket (b ∷ s) i (suc (suc k)) e l m d = absurd (omega (arith, l))

  cut_text : (s : List ℕ) (i k : ℕ) → i + k ≡ n → k ≤ length s → CutText n (text_from t s i) (text_from (take n t) (take k s) i)
  unfolding text_from
  cut_text s i zero e l = let z : i ≡ n = omega arith in rw z (onward refl (text_least t s n))
  cut_text [] i (suc k) e l = absurd (omega (arith, l))
  cut_text (b ∷ s) i (suc k) e l =
      rw (byte t n inside i (omega arith))
      (by_order (i + 3) n
      (λ h. rw (closes_same i h) (go (opens_markup (at t i)) (is_control (at t i)) (closes_data t i) (cut_text s (i + 1) k (omega arith) (omega arith))))
      (λ h. rw (closes_not i (omega arith) h) (cut (opens_markup (at t i)) (is_control (at t i)) (closes_data t i) (last_bracket s i k (omega arith) (omega arith) (omega arith)) (cut_text s (i + 1) k (omega arith) (omega arith)))))
    where
      Rest : Type 0
      Rest = CutText n (text_from t s (i + 1)) (text_from (take n t) (take k s) (i + 1))

      go : (o c d : Bool) → Rest → CutText n (if o then Past Text i or_else if c then Fault i or_else if d then Fault i or_else text_from t s (i + 1)) (if o then Past Text i or_else if c then Fault i or_else if d then Fault i or_else text_from (take n t) (take k s) (i + 1))
      go true c d k = unfold if◌then◌or_else◌ in same refl
      go false true d k = unfold if◌then◌or_else◌ in same refl
      go false false true k = unfold if◌then◌or_else◌ in same refl
      go false false false k = unfold if◌then◌or_else◌ in k

      cut : (o c d : Bool) → (d ≡ true → text_from (take n t) (take k s) (i + 1) ≡ Past Text n) → Rest → CutText n (if o then Past Text i or_else if c then Fault i or_else if d then Fault i or_else text_from t s (i + 1)) (if o then Past Text i or_else if c then Fault i or_else if false then Fault i or_else text_from (take n t) (take k s) (i + 1))
      cut true c d f k = unfold if◌then◌or_else◌ in same refl
      cut false true d f k = unfold if◌then◌or_else◌ in same refl
      cut false false true f k = unfold if◌then◌or_else◌ in onward (f refl) tt
      cut false false false f k = unfold if◌then◌or_else◌ in k

  pub text_cut : (p : ℕ) → p ≤ n → CutText n (text_from t (drop p t) p) (text_from (take n t) (drop p (take n t)) p)
  text_cut p h = rw (rest t n inside p h) (cut_text (drop p t) p (n - p) (omega arith) (omega (arith, length-drop p t)))
