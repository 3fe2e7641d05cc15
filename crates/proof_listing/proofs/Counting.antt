-- Laws of counting: one term and two terms of a sum, and where a sum that is not 0 has a term. Assumes nothing.
use Prim.Native.Nat.{ℕ, zero, suc, ◌+◌, ◌≤◌, ◌<◌}
use mathlib.Core.Path.{◌≡◌, refl, sym, ◌∙◌, ap, subst}
use mathlib.Core.Bool.{Bool, true, false, ◌&&◌}
use mathlib.Core.List.{[], ◌∷◌}
use mathlib.Core.Logic.{⊎_elim}
use native.Mathlib.Nat.{not-suc-le-zero, le_of_suc-le-suc, eq-or-lt_of_le}
use native.Mathlib.Omega.{arith}
use lib.Dec.{eqb}
use borrow.Author.Tests.{eq-eqb, eqb-true}
use Rattle.base_words.specs.Each.{each, tab}
use Rattle.base_words.specs.Sum.{sum, hit, one_if}
use Rattle.base_words.proofs.AllLaws.{and_left, and_right}
use Rattle.base_words.proofs.EachLaws.{each_append}

module _ (f : ℕ → ℕ) where
  -- one term
  pub sum_at : (n i : ℕ) → i < n → f i ≤ sum f n
  unfolding sum
  sum_at zero i h = absurd (not-suc-le-zero h)
  sum_at (suc n) i h =
      ⊎_elim (λ q. subst (λ k. f k ≤ sum f n + f n) (sym q) (omega arith))
      (λ l. omega (arith, sum_at n i l))
      (eq-or-lt_of_le (le_of_suc-le-suc h))

  -- two terms
  pub sum_two : (n i j : ℕ) → i < n → j < n → (i ≡ j → ⊥) → f i + f j ≤ sum f n
  unfolding sum
  sum_two zero i j h k d = absurd (not-suc-le-zero h)
  sum_two (suc n) i j h k d =
      ⊎_elim
      (λ q. let l : j < n = last j k (λ e. d (q ∙ sym e)) in subst (λ (y : ℕ). f y + f j ≤ sum f n + f n) (sym q) (omega (arith, sum_at n j l)))
      (λ l.
      ⊎_elim (λ q. subst (λ (y : ℕ). f i + f y ≤ sum f n + f n) (sym q) (omega (arith, sum_at n i l)))
      (λ m. omega (arith, sum_two n i j l m d))
      (eq-or-lt_of_le (le_of_suc-le-suc k)))
      (eq-or-lt_of_le (le_of_suc-le-suc h))
    where
      last : (y : ℕ) → y < suc n → (y ≡ n → ⊥) → y < n
      last y r e = ⊎_elim (λ q. absurd (e q)) (λ l. l) (eq-or-lt_of_le (le_of_suc-le-suc r))

  -- a sum that is not 0 has a term that is not 0
  pub sum_some : (n : ℕ) → 0 < sum f n → (i : ℕ) × (i < n) × (0 < f i)
  unfolding sum
  sum_some zero h = absurd (not-suc-le-zero h)
  sum_some (suc n) h = go (sum f n) refl (f n) refl (sum_some n)
    where
      go : (a : ℕ) → sum f n ≡ a → (b : ℕ) → f n ≡ b → (0 < sum f n → (i : ℕ) × (i < n) × (0 < f i)) → (i : ℕ) × (i < suc n) × (0 < f i)
      go (suc a) e b g before = let s = before (omega arith) in (s.0, omega (arith, s.1), s.2)
      go zero e (suc b) g before = (n, omega arith, omega arith)
      go zero e zero g before = absurd (omega arith)

-- a count of one
pub hit_same : (a b : ℕ) → a ≡ b → hit a b ≡ 1
hit_same a b e = ap one_if (eq-eqb a b e)

pub same_hit : (a b : ℕ) → 0 < hit a b → a ≡ b
same_hit a b h = go (eqb a b) refl
  where
    go : (c : Bool) → eqb a b ≡ c → a ≡ b
    go true e = eqb-true a b e
    go false e = let z : hit a b ≡ 0 = ap one_if e in absurd (omega arith)

-- a test that passes at all of a function's first n values
pub each-tab : {A : Type 0} (f : A → Bool) (g : ℕ → A) (n : ℕ) → each f (tab g n) ≡ true → (i : ℕ) → i < n → f (g i) ≡ true
unfolding tab each
each-tab f g zero e i h = absurd (not-suc-le-zero h)
each-tab f g (suc n) e i h =
    let s : each f (tab g n) && each f (g n ∷ []) ≡ true = sym (each_append f (tab g n) (g n ∷ [])) ∙ e in
    ⊎_elim (λ q. subst (λ k. f (g k) ≡ true) (sym q) (and_left (f (g n)) true (and_right (each f (tab g n)) (f (g n) && true) s)))
    (λ l. each-tab f g n (and_left (each f (tab g n)) (each f (g n ∷ [])) s) i l)
    (eq-or-lt_of_le (le_of_suc-le-suc h))
