-- What a loop that tests every number below n needs of `all`, and what its callers need. Assumes nothing.
use mathlib.Core.Path.{◌≡◌, ◌∙◌, refl, sym, ap, subst}
use mathlib.Core.Bool.{Bool, true, false, ◌&&◌, false≢true}
use mathlib.Core.Logic.{⊎_elim}
use Prim.Native.Nat.{ℕ, zero, suc, ◌+◌, ◌≤◌, ◌<◌}
use native.Mathlib.Nat.{not-suc-le-zero, le_of_suc-le-suc, eq-or-lt_of_le, le_antisymm}
use native.Mathlib.Numerals.{add-one}
use native.Mathlib.Omega.{arith}
use lib.Dec.{leb, ltb, eqb}
use borrow.Author.Tests.{lt-ltb, le-ltb, le-leb, lt-leb, eq-eqb, ne_eqb}
use Rattle.base_words.specs.All.{all}

and_false : (b : Bool) → b && false ≡ false
and_false true = refl
and_false false = refl

pub and_left : (a b : Bool) → a && b ≡ true → a ≡ true
and_left true b e = refl
and_left false b e = e

pub and_right : (a b : Bool) → a && b ≡ true → b ≡ true
and_right true b e = e
and_right false b e = absurd (false≢true e)

module _ (f : ℕ → Bool) where
  pub all_none : all f 0 ≡ true
  unfolding all
  all_none = refl

  -- the loop's next turn
  pub all_more : (i : ℕ) → all f i ≡ true → f i ≡ true → all f (i + 1) ≡ true
  unfolding all
  all_more i p q = rw (add-one, all, p, q)

  -- a test that failed
  pub all_fails : (n i : ℕ) → i < n → f i ≡ false → all f n ≡ false
  unfolding all
  all_fails zero i h e = absurd (not-suc-le-zero h)
  all_fails (suc n) i h e =
      ⊎_elim (λ q. let fn : f n ≡ false = ap f (sym q) ∙ e in rw fn (and_false (all f n)))
      (λ lt. rw (all_fails n i lt e))
      (eq-or-lt_of_le (le_of_suc-le-suc h))

  pub all_fails' : (n i : ℕ) → i < n → f i ≡ false → false ≡ all f n
  all_fails' n i h e = sym (all_fails n i h e)

  -- the loop's end
  pub all_done : (n i : ℕ) → n ≤ i → i ≤ n → all f i ≡ true → true ≡ all f n
  all_done n i h k e = sym (subst (λ (m : ℕ). all f m ≡ true) (le_antisymm k h) e)

  pub all_full : (n i : ℕ) → n ≤ i → i ≤ n → all f i ≡ true → all f n ≡ true
  all_full n i h k e = sym (all_done n i h k e)

  -- what a caller learns
  pub all_at : (n : ℕ) → all f n ≡ true → (i : ℕ) → i < n → f i ≡ true
  unfolding all
  all_at zero p i h = absurd (not-suc-le-zero h)
  all_at (suc n) p i h =
      ⊎_elim (λ q. subst (λ (k : ℕ). f k ≡ true) (sym q) (and_right (all f n) (f n) p))
      (λ lt. all_at n (and_left (all f n) (f n) p) i lt)
      (eq-or-lt_of_le (le_of_suc-le-suc h))

  -- a test of all numbers below n, from the test at each
  pub all_of : (n : ℕ) → ((j : ℕ) → j < n → f j ≡ true) → all f n ≡ true
  unfolding all
  all_of zero h = refl
  all_of (suc n) h = rw (all_of n (λ j l. h j (omega arith)), h n (omega arith))

-- a test of all numbers below n, the first of them taken first
pub all_front : (f : ℕ → Bool) (n : ℕ) → all f (suc n) ≡ f 0 && all (λ j. f (suc j)) n
unfolding all
all_front f zero = go (f 0)
  where
    go : (b : Bool) → true && b ≡ b && true
    go true = refl
    go false = refl
all_front f (suc n) = ap (λ b. b && f (suc n)) (all_front f n) ∙ go (f 0) (all (λ j. f (suc j)) n) (f (suc n))
  where
    go : (a b c : Bool) → a && b && c ≡ a && (b && c)
    go true b c = refl
    go false b c = refl

pub ruleset all_loop = (all_none, all_more, all_fails', all_done, eq-eqb, ne_eqb)

-- the same of a number a that a call's result r is known to equal
pub le_leb_by : (r a b : ℕ) → r ≡ a → r ≤ b → leb a b ≡ true
le_leb_by r a b e h = le-leb a b (omega arith)

pub lt_leb_by : (r a b : ℕ) → r ≡ a → b < r → leb a b ≡ false
lt_leb_by r a b e h = lt-leb a b (omega arith)

pub eq_eqb_by : (r a b : ℕ) → r ≡ a → r ≡ b → eqb a b ≡ true
eq_eqb_by r a b e h = eq-eqb a b (omega arith)

pub ne_eqb_by : (r a b : ℕ) → r ≡ a → (r ≡ b → ⊥) → eqb a b ≡ false
ne_eqb_by r a b e h = ne_eqb a b (λ q. h (e ∙ q))

pub le_leb_by' : (r a b : ℕ) → r ≡ a → b ≤ r → leb b a ≡ true
le_leb_by' r a b e h = le-leb b a (omega arith)

pub lt_leb_by' : (r a b : ℕ) → r ≡ a → r < b → leb b a ≡ false
lt_leb_by' r a b e h = lt-leb b a (omega arith)

pub lt_ltb_by : (r a b : ℕ) → r ≡ a → r < b → ltb a b ≡ true
lt_ltb_by r a b e h = lt-ltb a b (omega arith)

pub le_ltb_by : (r a b : ℕ) → r ≡ a → b ≤ r → ltb a b ≡ false
le_ltb_by r a b e h = le-ltb a b (omega arith)

pub ruleset tests_by = (le_leb_by, lt_leb_by, eq_eqb_by, ne_eqb_by, le_leb_by', lt_leb_by', lt_ltb_by, le_ltb_by)

-- a Bool test, from the fact that a branch gives
pub ruleset tests = (lt-ltb, le-ltb, le-leb, lt-leb, eq-eqb, ne_eqb)
