-- Laws of lists of things. Assumes nothing.
use mathlib.Core.Path.{◌≡◌, refl, sym, ◌∙◌, ap, ap₂}
use mathlib.Core.Bool.{Bool, true, false, ◌&&◌}
use mathlib.Core.List.{List, [], ◌∷◌, ◌++◌}
use Prim.Native.Nat.{ℕ, zero, suc, ◌+◌}
use native.Mathlib.Numerals.{add-one}
use native.Mathlib.Omega.{arith}
use Rattle.base_words.specs.Each.{total, each, tab}
use Rattle.base_words.specs.Sum.{sum, hit, one_if}
use borrow.Author.Tests.{eq-eqb, ne_eqb}

pub total_append : {A : Type 0} (f : A → ℕ) (xs ys : List A) → total f (xs ++ ys) ≡ total f xs + total f ys
unfolding total
total_append f [] ys = omega arith
total_append f (x ∷ xs) ys = omega (arith, total_append f xs ys)

pub total_one : {A : Type 0} (f : A → ℕ) (x : A) → total f (x ∷ []) ≡ f x
unfolding total
total_one f x = omega arith

pub total-tab : {A : Type 0} (f : A → ℕ) (g : ℕ → A) (n : ℕ) → total f (tab g n) ≡ sum (λ j. f (g j)) n
unfolding total tab sum
total-tab f g zero = refl
total-tab f g (suc n) = total_append f (tab g n) (g n ∷ []) ∙ ap₂ ◌+◌ (total-tab f g n) (total_one f (g n))

pub total_ext : {A : Type 0} (f g : A → ℕ) (xs : List A) → ((x : A) → f x ≡ g x) → total f xs ≡ total g xs
unfolding total
total_ext f g [] h = refl
total_ext f g (x ∷ xs) h = ap₂ ◌+◌ (h x) (total_ext f g xs h)

pub each_append : {A : Type 0} (f : A → Bool) (xs ys : List A) → each f (xs ++ ys) ≡ each f xs && each f ys
unfolding each
each_append f [] ys = refl
each_append f (x ∷ xs) ys = go (f x) (each_append f xs ys)
  where
    go : (b : Bool) → each f (xs ++ ys) ≡ each f xs && each f ys → b && each f (xs ++ ys) ≡ (b && each f xs) && each f ys
    go true e = e
    go false e = refl

module _ {A : Type 0} (f : ℕ → A) where
  pub tab_none : [] ≡ tab f 0
  unfolding tab
  tab_none = refl

  pub tab_more : (n : ℕ) → tab f (n + 1) ≡ tab f n ++ (f n ∷ [])
  unfolding tab
  tab_more n = rw (add-one, tab)

-- a count of one, by a call's result
pub hit_is : (r a b : ℕ) → r ≡ a → r ≡ b → 1 ≡ hit a b
hit_is r a b e h = sym (ap one_if (eq-eqb a b (sym e ∙ h)))

pub hit_not : (r a b : ℕ) → r ≡ a → (r ≡ b → ⊥) → 0 ≡ hit a b
hit_not r a b e h = sym (ap one_if (ne_eqb a b (λ q. h (e ∙ q))))

pub ruleset hits = (hit_is, hit_not)
