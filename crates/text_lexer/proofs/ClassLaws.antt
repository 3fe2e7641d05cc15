-- The classes of bytes: what the tests on a byte come to, and that a byte is of one class. Assumes nothing.
use mathlib.Core.Path.{◌≡◌, ◌∙◌, refl, sym, ap}
use mathlib.Core.Bool.{Bool, true, false, not, ◌||◌, false≢true}
use mathlib.Core.List.{List, [], ◌∷◌}
use Prim.Native.Nat.{ℕ, ◌<◌}
use lib.Dec.{eqb}
use borrow.Author.Tests.{eqb-true}
use Rattle.base_words.specs.All.{all}
use Rattle.base_words.specs.Each.{each}
use Rattle.base_words.proofs.AllLaws.{all_at, and_left, and_right}
use Rattle.text_lexer.specs.Lexer.{blanks, signs, is_blank, is_word, is_sign}
use Rattle.base_bytes.specs.Bytes.{among, between, is_digit, is_letter}

-- a byte of a list passes what every byte of the list passes
pub among-each : (f : ℕ → Bool) (xs : List ℕ) (b : ℕ) → each f xs ≡ true → among xs b ≡ true → f b ≡ true
unfolding among each
among-each f [] b h e = absurd (false≢true e)
among-each f (x ∷ xs) b h e = go (eqb b x) refl e (among-each f xs b (and_right (f x) (each f xs) h))
  where
    go : (t : Bool) → eqb b x ≡ t → t || among xs b ≡ true → (among xs b ≡ true → f b ≡ true) → f b ≡ true
    go true q e k = ap f (eqb-true b x q) ∙ and_left (f x) (each f xs) h
    go false q e k = k e

-- the signs as the four runs of bytes in which they stand
agree : Bool → Bool → Bool
agree true b = b
agree false b = not b

agree_is : (a b : Bool) → agree a b ≡ true → a ≡ b
unfolding agree
agree_is true b e = sym e
agree_is false true e = absurd (false≢true e)
agree_is false false e = refl

abbrev runs : ℕ → Bool
runs b = between 40 41 b || (between 43 45 b || (between 60 63 b || between 123 125 b))

pub sign_runs : (b : ℕ) → b < 256 → runs b ≡ is_sign b
unfolding agree all among between is_sign
sign_runs b h = agree_is (runs b) (is_sign b) (all_at (λ k. agree (runs k) (is_sign k)) 256 refl b h)

-- a byte is of one class
refuses : (ℕ → Bool) → ℕ → Bool
refuses f b = not (f b)

not_is : (b : Bool) → not b ≡ true → b ≡ false
not_is true e = absurd (false≢true e)
not_is false e = refl

pub blank_not_word : (b : ℕ) → is_blank b ≡ true → is_word b ≡ false
unfolding refuses is_blank is_word is_letter is_digit between each
blank_not_word b e = not_is (is_word b) (among-each (refuses is_word) blanks b refl e)

pub sign_not_word : (b : ℕ) → is_sign b ≡ true → is_word b ≡ false
unfolding refuses is_sign is_word is_letter is_digit between each
sign_not_word b e = not_is (is_word b) (among-each (refuses is_word) signs b refl e)

pub sign_not_blank : (b : ℕ) → is_sign b ≡ true → is_blank b ≡ false
unfolding refuses is_sign is_blank among each
sign_not_blank b e = not_is (is_blank b) (among-each (refuses is_blank) signs b refl e)

pub word_not_blank : (b : ℕ) → is_word b ≡ true → is_blank b ≡ false
word_not_blank b e = go (is_blank b) refl
  where
    go : (t : Bool) → is_blank b ≡ t → t ≡ false
    go true q = absurd (false≢true (sym (blank_not_word b q) ∙ e))
    go false q = refl
