-- Laws of the text of a number: its length, its bytes, the number that it spells, and each of its digits. Assumes nothing.
use mathlib.Core.Path.{◌≡◌, refl, sym, ap, subst, ◌∙◌}
use mathlib.Core.List.{List, [], ◌∷◌, ◌++◌}
use mathlib.Core.Bool.{Bool, true, false}
use Prim.Native.Nat.{ℕ, zero, suc, ◌+◌, ◌*◌, ◌-◌, ◌/◌, ◌%◌, ◌^◌, ◌<◌, ◌≤◌}
use native.Mathlib.Nat.{pow-suc, pow-succ', div-div-eq-div-mul}
use native.Mathlib.Omega.{arith}
use lib.Dec.{ltb}
use borrow.Author.Tests.{lt-ltb, le-ltb, le-leb, ltb-true, ltb-false}
use lib.ListN.{length, get_or, length-append, get_or-append}
use lib.Seq.{get_or_at}
use Rattle.base_words.specs.Each.{each}
use Rattle.base_words.specs.Words.{greatest, digits}
use Rattle.base_words.proofs.EachLaws.{each_append}
use Rattle.base_words.proofs.PickLaws.{pick_yes, pick_no}
use Rattle.write_decimals.specs.Decimals.{digit, shown_from, shown, is_digit, fold_digits}

-- the two forms
pub shown_one : (k n : ℕ) → n < 10 → shown_from (suc k) n ≡ digit n ∷ []
unfolding shown_from
shown_one k n h = sym (pick_yes _ _ _ _ (lt-ltb n 10 h) refl)

pub shown_more : (k n : ℕ) → 10 ≤ n → shown_from (suc k) n ≡ shown_from k (n / 10) ++ (digit (n % 10) ∷ [])
unfolding shown_from
shown_more k n h = sym (pick_no _ _ _ _ (le-ltb n 10 h) refl)

-- cases of two numbers
either : {P : Type 0} (a b : ℕ) → (a < b → P) → (b ≤ a → P) → P
either {P} a b f g = go (ltb a b) refl
  where
    go : (t : Bool) → ltb a b ≡ t → P
    go true e = f (ltb-true a b e)
    go false e = g (ltb-false a b e)

-- its length
from_short : (k n : ℕ) → length (shown_from k n) ≤ k
from_short zero n = unfold shown_from in omega arith
from_short (suc k) n = go (from_short k (n / 10))
  where
    go : length (shown_from k (n / 10)) ≤ k → length (shown_from (suc k) n) ≤ suc k
    go ih =
        either n 10 (λ h. omega (arith, ap length (shown_one k n h)))
        (λ h. omega (arith, ap length (shown_more k n h), length-append (shown_from k (n / 10)) (digit (n % 10) ∷ [])))

pub shown_short : (n : ℕ) → length (shown n) ≤ digits
unfolding shown
shown_short n = from_short digits n

from_some : (k n : ℕ) → 1 ≤ length (shown_from (suc k) n)
from_some k n =
    either n 10 (λ h. omega (arith, ap length (shown_one k n h)))
    (λ h. omega (arith, ap length (shown_more k n h), length-append (shown_from k (n / 10)) (digit (n % 10) ∷ [])))

pub shown_some : (n : ℕ) → 1 ≤ length (shown n)
unfolding shown
shown_some n = from_some (digits - 1) n

-- its bytes
digit_is : (d : ℕ) → d < 10 → is_digit (digit d) ≡ true
digit_is d h = rw (le-leb 48 (48 + d) (omega arith), le-leb (48 + d) 57 (omega arith))

one_digit : (d : ℕ) → d < 10 → each is_digit (digit d ∷ []) ≡ true
unfolding each
one_digit d h = rw (digit_is d h)

from_digits : (k n : ℕ) → each is_digit (shown_from k n) ≡ true
from_digits zero n = unfold shown_from each in refl
from_digits (suc k) n = go (from_digits k (n / 10))
  where
    go : each is_digit (shown_from k (n / 10)) ≡ true → each is_digit (shown_from (suc k) n) ≡ true
    go ih =
        either n 10 (λ h. ap (each is_digit) (shown_one k n h) ∙ one_digit n h)
        (λ h. ap (each is_digit) (shown_more k n h) ∙ each_append is_digit (shown_from k (n / 10)) (digit (n % 10) ∷ []) ∙ rw (ih) (one_digit (n % 10) (omega arith)))

pub shown-digits : (n : ℕ) → each is_digit (shown n) ≡ true
unfolding shown
shown-digits n = from_digits digits n

-- what digits spell
pub fold_append : (v : ℕ) (a b : List ℕ) → fold_digits v (a ++ b) ≡ fold_digits (fold_digits v a) b
unfolding fold_digits
fold_append v [] b = refl
fold_append v (x ∷ a) b = fold_append (v * 10 + (x - 48)) a b

fold_one : (v d : ℕ) → fold_digits v (digit d ∷ []) ≡ v * 10 + d
unfolding fold_digits
fold_one v d = omega arith

from_spells : (k n : ℕ) → n < 10 ^ suc k → fold_digits 0 (shown_from (suc k) n) ≡ n
from_spells zero n h = let l : n < 10 = omega arith in ap (fold_digits 0) (shown_one 0 n l) ∙ fold_one 0 n ∙ omega arith
from_spells (suc k) n h = go (from_spells k (n / 10) (omega (arith, pow-suc 10 (suc k))))
  where
    go : fold_digits 0 (shown_from (suc k) (n / 10)) ≡ n / 10 → fold_digits 0 (shown_from (suc (suc k)) n) ≡ n
    go ih =
        either n 10 (λ l. ap (fold_digits 0) (shown_one (suc k) n l) ∙ fold_one 0 n ∙ omega arith)
        (λ l. ap (fold_digits 0) (shown_more (suc k) n l) ∙ fold_append 0 (shown_from (suc k) (n / 10)) (digit (n % 10) ∷ []) ∙ fold_one (fold_digits 0 (shown_from (suc k) (n / 10))) (n % 10) ∙ omega arith)

-- the digits of a word spell it
pub shown_spells : (n : ℕ) → n ≤ greatest → fold_digits 0 (shown n) ≡ n
unfolding shown
shown_spells n h = from_spells (digits - 1) n (omega arith)

pub shown-zero : shown 0 ≡ 48 ∷ []
unfolding shown
shown-zero = shown_one (digits - 1) 0 (omega arith)

-- no leading zero: a text that begins with 48 is that of 0
from_first : (k n : ℕ) → n < 10 ^ suc k → get_or (shown_from (suc k) n) 0 0 ≡ 48 → n ≡ 0
from_first zero n h e = let l : n < 10 = omega arith in omega (arith, ap (λ w. get_or w 0 0) (shown_one 0 n l))
from_first (suc k) n h e = go (from_first k (n / 10) (omega (arith, pow-suc 10 (suc k))))
  where
    go : (get_or (shown_from (suc k) (n / 10)) 0 0 ≡ 48 → n / 10 ≡ 0) → n ≡ 0
    go ih =
        either n 10 (λ l. omega (arith, ap (λ w. get_or w 0 0) (shown_one (suc k) n l)))
        (λ l. absurd (omega (arith, ih (sym (get_or-append (shown_from (suc k) (n / 10)) (digit (n % 10) ∷ []) 0 0 (from_some k (n / 10))) ∙ sym (ap (λ w. get_or w 0 0) (shown_more (suc k) n l)) ∙ e))))

pub shown_first : (n : ℕ) → n ≤ greatest → get_or (shown n) 0 0 ≡ 48 → n ≡ 0
unfolding shown
shown_first n h = from_first (digits - 1) n (omega arith)

-- the digit at place i, from the left, is what n has of the power of ten with as many zeros as digits follow
abbrev pub IsAt : ℕ → ℕ → List ℕ → Type 0
IsAt n i w = get_or w i 0 ≡ digit (n / 10 ^ (length w - 1 - i) % 10)

is_alone : (n : ℕ) → n < 10 → (i : ℕ) → i < 1 → IsAt n i (digit n ∷ [])
is_alone n l zero h = omega arith
is_alone n l (suc i) h = absurd (omega arith)

module _ (w : List ℕ) (n i : ℕ) where
  is_before : i < length w → IsAt (n / 10) i w → IsAt n i (w ++ (digit (n % 10) ∷ []))
  is_before h ih =
      let e : suc (length w - 1 - i) ≡ length (w ++ (digit (n % 10) ∷ [])) - 1 - i = omega (arith, length-append w (digit (n % 10) ∷ [])) in
      get_or-append w (digit (n % 10) ∷ []) 0 i h
      ∙ ih
      ∙ ap (λ q. digit (q % 10)) (div-div-eq-div-mul n 10 (10 ^ (length w - 1 - i)) ∙ ap (λ p. n / p) (sym (pow-succ' 10 (length w - 1 - i)) ∙ ap (λ m. 10 ^ m) e))

  is_last : length w ≡ i → IsAt n i (w ++ (digit (n % 10) ∷ []))
  is_last h =
      let e : 0 ≡ length (w ++ (digit (n % 10) ∷ [])) - 1 - i = omega (arith, length-append w (digit (n % 10) ∷ [])) in
      let one : n % 10 ≡ n / 10 ^ 0 % 10 = omega arith in
      get_or_at w (digit (n % 10)) [] 0 i h ∙ ap digit one ∙ ap (λ m. digit (n / 10 ^ m % 10)) e

  is_either : (i < length w → IsAt (n / 10) i w) → i < length (w ++ (digit (n % 10) ∷ [])) → IsAt n i (w ++ (digit (n % 10) ∷ []))
  is_either ih h = either i (length w) (λ l. is_before l (ih l)) (λ l. is_last (omega (arith, length-append w (digit (n % 10) ∷ []))))

from_place : (k n i : ℕ) → i < length (shown_from k n) → IsAt n i (shown_from k n)
from_place zero n i h = absurd (unfold shown_from in omega arith)
from_place (suc k) n i h = go (from_place k (n / 10) i) h
  where
    Is : List ℕ → Type 0
    Is w = i < length w → IsAt n i w

    go : (i < length (shown_from k (n / 10)) → IsAt (n / 10) i (shown_from k (n / 10))) → Is (shown_from (suc k) n)
    go ih =
        either n 10 (λ l. subst Is (sym (shown_one k n l)) (is_alone n l i))
        (λ l. subst Is (sym (shown_more k n l)) (is_either (shown_from k (n / 10)) n i ih))

pub shown_place : (n i : ℕ) → i < length (shown n) → IsAt n i (shown n)
unfolding shown
shown_place n i = from_place digits n i
