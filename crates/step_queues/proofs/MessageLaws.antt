-- Lists of messages: how many there are, whether one is there, what is left without it. Assumes nothing.
use Prim.Native.Nat.{ℕ, zero, suc, ◌+◌, ◌≤◌, ◌<◌}
use mathlib.Core.Path.{◌≡◌, ◌∙◌, refl, sym}
use mathlib.Core.Bool.{Bool, true, false, cond, false≢true}
use mathlib.Core.List.{List, [], ◌∷◌, ◌++◌}
use native.Mathlib.Nat.{not-suc-le-zero}
use native.Mathlib.Omega.{arith}
use lib.Dec.{ltb}
use lib.ListN.{length, get_or}
use borrow.Author.Tests.{lt-ltb, le-ltb, ltb-true}
use Rattle.base_words.specs.Each.{tab}
use Rattle.base_words.specs.Pick.{if◌then◌or_else◌}
use Rattle.base_words.specs.Seek.{seek}
use Rattle.base_words.specs.Sum.{one_if}
use Rattle.meaning.specs.declared.Tuple.{Tuple}
use Rattle.meaning.specs.Tuples.{same_tuple}
use Rattle.step_values.proofs.TupleLaws.{same_sym, same_trans}
use Rattle.meaning.specs.Messages.{has, without, times}

-- WHETHER ONE IS THERE
pub has_append : (g : Tuple) (xs ys : List Tuple) → has g (xs ++ ys) ≡ (if has g xs then true or_else has g ys)
unfolding has if◌then◌or_else◌
has_append g [] ys = refl
has_append g (x ∷ xs) ys = go (same_tuple x g) (has_append g xs ys)
  where
    go : (b : Bool) → has g (xs ++ ys) ≡ (if has g xs then true or_else has g ys)
        → (if b then true or_else has g (xs ++ ys)) ≡ (if (if b then true or_else has g xs) then true or_else has g ys)
    go true e = refl
    go false e = e

-- the search comes to an end before n just where one of the first n is equal
module _ (g : Tuple) (f : ℕ → Tuple) where
  pub seek-has : (n : ℕ) → ltb (seek (λ k. same_tuple (f k) g) n) n ≡ has g (tab f n)
  unfolding seek tab has if◌then◌or_else◌
  seek-has zero = refl
  seek-has (suc n) = go (ltb k n) refl (same_tuple (f n) g) (seek-has n) ∙ sym (has_append g (tab f n) (f n ∷ []))
    where
      k : ℕ
      k = seek (λ k. same_tuple (f k) g) n

      go : (b : Bool) → ltb k n ≡ b → (c : Bool) → ltb k n ≡ has g (tab f n)
          → ltb (cond b k (cond c n (suc n))) (suc n) ≡ (if has g (tab f n) then true or_else (if c then true or_else false))
      go true e c ih = rw (← ih, e) (lt-ltb k (suc n) (omega (arith, ltb-true k n e)))
      go false e true ih = rw (← ih, e) (lt-ltb n (suc n) (omega arith))
      go false e false ih = rw (← ih, e) (le-ltb (suc n) (suc n) (omega arith))

-- WITHOUT THE OLDEST EQUAL ONE: it is first, or further on
module _ (g x : Tuple) (xs : List Tuple) where
  without_here : same_tuple x g ≡ true → without g (x ∷ xs) ≡ xs
  unfolding without if◌then◌or_else◌
  without_here e = rw e

  without_later : same_tuple x g ≡ false → without g (x ∷ xs) ≡ x ∷ without g xs
  unfolding without if◌then◌or_else◌
  without_later e = rw e

  has_later : same_tuple x g ≡ false → has g (x ∷ xs) ≡ true → has g xs ≡ true
  unfolding has if◌then◌or_else◌
  has_later e h = rw e at h

has_none : (g : Tuple) → has g [] ≡ true → ⊥
unfolding has
has_none g h = false≢true h

pub length_without : (g : Tuple) (ms : List Tuple) → has g ms ≡ true → length (without g ms) + 1 ≡ length ms
length_without g [] h = absurd (has_none g h)
length_without g (x ∷ xs) h = go (same_tuple x g) refl (length_without g xs)
  where
    go : (b : Bool) → same_tuple x g ≡ b → (has g xs ≡ true → length (without g xs) + 1 ≡ length xs) → length (without g (x ∷ xs)) + 1 ≡ suc (length xs)
    go true e ih = rw (without_here g x xs e) (omega arith)
    go false e ih = rw (without_later g x xs e) (omega (arith, ih (has_later g x xs e h)))

-- message p is the oldest equal to g: those before it stay, those behind it move up
module _ (g d : Tuple) where
  abbrev pub First : List Tuple → ℕ → Type 0
  First ms p = (p < length ms) × (same_tuple (get_or ms p d) g ≡ true) × ((j : ℕ) → j < p → same_tuple (get_or ms j d) g ≡ false)

  first_later : (x : Tuple) (xs : List Tuple) (p : ℕ) → First (x ∷ xs) (suc p) → First xs p
  first_later x xs p h = (omega (arith, h.0), h.1, (λ j l. h.2 (suc j) (omega arith)))

  pub without_below : (ms : List Tuple) (p k : ℕ) → First ms p → k < p → get_or (without g ms) k d ≡ get_or ms k d
  without_below ms zero k h l = absurd (not-suc-le-zero l)
  without_below [] (suc p) k h l = absurd (not-suc-le-zero h.0)
  without_below (x ∷ xs) (suc p) zero h l = rw (without_later g x xs (h.2 0 (omega arith)))
  without_below (x ∷ xs) (suc p) (suc k) h l = rw (without_later g x xs (h.2 0 (omega arith))) (without_below xs p k (first_later x xs p h) (omega arith))

  pub without_above : (ms : List Tuple) (p k : ℕ) → First ms p → p ≤ k → get_or (without g ms) k d ≡ get_or ms (suc k) d
  without_above [] p k h l = absurd (not-suc-le-zero h.0)
  without_above (x ∷ xs) zero k h l = rw (without_here g x xs h.1)
  without_above (x ∷ xs) (suc p) zero h l = absurd (not-suc-le-zero l)
  without_above (x ∷ xs) (suc p) (suc k) h l = rw (without_later g x xs (h.2 0 (omega arith))) (without_above xs p k (first_later x xs p h) (omega arith))

-- HOW OFTEN ONE IS THERE
pub times_append : (v : Tuple) (xs ys : List Tuple) → times v (xs ++ ys) ≡ times v xs + times v ys
unfolding times
times_append v [] ys = omega arith
times_append v (x ∷ xs) ys = omega (arith, times_append v xs ys)

-- equal tuples are equal to the same tuples
pub same_both : (x g v : Tuple) → same_tuple x g ≡ true → same_tuple x v ≡ same_tuple g v
same_both x g v e = go (same_tuple x v) refl (same_tuple g v) refl
  where
    go : (b : Bool) → same_tuple x v ≡ b → (c : Bool) → same_tuple g v ≡ c → b ≡ c
    go true p c q = sym (same_trans g x v (same_sym g x ∙ e) p) ∙ q
    go false p true q = sym p ∙ same_trans x g v e q
    go false p false q = refl

pub times-without : (g v : Tuple) (ms : List Tuple) → has g ms ≡ true → times v (without g ms) + one_if (same_tuple g v) ≡ times v ms
unfolding times
times-without g v [] h = absurd (has_none g h)
times-without g v (x ∷ xs) h = go (same_tuple x g) refl (times-without g v xs)
  where
    go : (b : Bool) → same_tuple x g ≡ b → (has g xs ≡ true → times v (without g xs) + one_if (same_tuple g v) ≡ times v xs) → times v (without g (x ∷ xs)) + one_if (same_tuple g v) ≡ one_if (same_tuple x v) + times v xs
    go true e ih = rw (without_here g x xs e, same_both x g v e) (omega arith)
    go false e ih = rw (without_later g x xs e) (omega (arith, ih (has_later g x xs e h)))
