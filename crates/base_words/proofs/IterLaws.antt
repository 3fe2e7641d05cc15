-- What a loop that changes a state needs of `iter`. Assumes nothing.
use mathlib.Core.Path.{◌≡◌, refl}
use Prim.Native.Nat.{ℕ, zero, suc, ◌+◌, ◌≤◌, ◌<◌}
use native.Mathlib.Nat.{le_antisymm}
use native.Mathlib.Numerals.{add-one}
use native.Mathlib.Omega.{arith}
use Rattle.base_words.specs.Iter.{iter}

module _ {A : Type 0} (g : ℕ → A → A) (s : A) where
  pub iter_none : s ≡ iter g s 0
  unfolding iter
  iter_none = refl

  -- the loop's next turn: t before it, u after it
  pub iter_more : (n : ℕ) (t u : A) → t ≡ iter g s n → u ≡ g n t → u ≡ iter g s (n + 1)
  unfolding iter
  iter_more n t u p q = rw (add-one, iter, ← p) q

  pub iter_done : (n i : ℕ) (t : A) → n ≤ i → i ≤ n → t ≡ iter g s i → t ≡ iter g s n
  iter_done n i t h k e = rw (le_antisymm h k) e

  -- what each turn keeps
  pub iter_keeps : (P : A → Type 0) (n : ℕ) → ((k : ℕ) (t : A) → k < n → P t → P (g k t)) → P s → P (iter g s n)
  unfolding iter
  iter_keeps P zero h p = p
  iter_keeps P (suc n) h p = h n (iter g s n) (omega arith) (iter_keeps P n (λ k t l. h k t (omega arith)) p)

pub ruleset iter_loop = (iter_none, iter_more, iter_done)
