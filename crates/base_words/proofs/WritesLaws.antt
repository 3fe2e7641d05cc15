-- What a loop that stores needs of `writes`, and what is read afterwards. Assumes nothing.
use mathlib.Core.Path.{◌≡◌, ◌∙◌, refl}
use mathlib.Core.List.{List}
use mathlib.Core.Logic.{⊎_elim}
use Prim.Native.Nat.{ℕ, zero, suc, ◌+◌, ◌≤◌, ◌<◌}
use native.Mathlib.Nat.{not-suc-le-zero, le_of_suc-le-suc, eq-or-lt_of_le, le_antisymm}
use native.Mathlib.Numerals.{add-one}
use native.Mathlib.Omega.{arith}
use lib.ListN.{length, get_or, set, length-set}
use lib.Seq.{get_or-set_same, get_or-set_other}
use Rattle.base_words.specs.Writes.{writes}

module _ (f : ℕ → ℕ) (s : List ℕ) (a : ℕ) where
  pub writes_none : s ≡ writes f s a 0
  unfolding writes
  writes_none = refl

  -- the loop's next turn: t is the list as it is, w what is stored
  pub writes_more : (n w : ℕ) (t : List ℕ) → t ≡ writes f s a n → w ≡ f n → set t (a + n) w ≡ writes f s a (n + 1)
  unfolding writes
  writes_more n w t p q = rw (add-one, writes, p, q)

  -- the loop's end
  pub writes_done : (n i : ℕ) (t : List ℕ) → n ≤ i → i ≤ n → t ≡ writes f s a i → t ≡ writes f s a n
  writes_done n i t h k e = rw (le_antisymm h k) e

  pub length-writes : (n : ℕ) → length (writes f s a n) ≡ length s
  unfolding writes
  length-writes zero = refl
  length-writes (suc n) = simp length-set (length-writes n)

  pub writes_in : (n k : ℕ) → k < n → a + n ≤ length s → get_or (writes f s a n) (a + k) 0 ≡ f k
  unfolding writes
  writes_in zero k h l = absurd (not-suc-le-zero h)
  writes_in (suc n) k h l =
      ⊎_elim (λ e. rw e (get_or-set_same (writes f s a n) (a + n) (f n) 0 (omega (arith, length-writes n))))
      (λ lt. get_or-set_other (writes f s a n) (a + n) (a + k) (f n) 0 (λ e. omega arith) ∙ writes_in n k lt (omega arith))
      (eq-or-lt_of_le (le_of_suc-le-suc h))

  pub writes_below : (n j : ℕ) → j < a → get_or (writes f s a n) j 0 ≡ get_or s j 0
  unfolding writes
  writes_below zero j h = refl
  writes_below (suc n) j h = get_or-set_other (writes f s a n) (a + n) j (f n) 0 (λ e. omega arith) ∙ writes_below n j h

  pub writes_above : (n j : ℕ) → a + n ≤ j → get_or (writes f s a n) j 0 ≡ get_or s j 0
  unfolding writes
  writes_above zero j h = refl
  writes_above (suc n) j h = get_or-set_other (writes f s a n) (a + n) j (f n) 0 (λ e. omega arith) ∙ writes_above n j (omega arith)

  -- a word d ahead of the loop is as it was
  pub writes_ahead : (n d : ℕ) (t : List ℕ) → t ≡ writes f s a n → get_or t (a + n + d) 0 ≡ get_or s (a + n + d) 0
  writes_ahead n d t e = rw e (writes_above n (a + n + d) (omega arith))

-- the same from place 0 on
pub writes_next : (f : ℕ → ℕ) (s : List ℕ) (n w : ℕ) (t u : List ℕ) → t ≡ writes f s 0 n → w ≡ f n → u ≡ set t n w → u ≡ writes f s 0 (n + 1)
unfolding writes
writes_next f s n w t u p q e = let z : 0 + n ≡ n = omega arith in rw (add-one, writes, z) (e ∙ rw (p, q))

pub writes_on : (f : ℕ → ℕ) (s : List ℕ) (a n w : ℕ) (t u : List ℕ) → t ≡ writes f s a n → w ≡ f n → u ≡ set t (a + n) w → u ≡ writes f s a (n + 1)
unfolding writes
writes_on f s a n w t u p q e = rw (add-one, writes) (e ∙ rw (p, q))

pub ruleset writes_loop = (writes_none, writes_more, writes_done, writes_ahead)
