-- Lists one behind the other, and what passes a test in them. Assumes nothing.
use mathlib.Core.Path.{◌≡◌, refl, ◌∙◌, ap, ap₂}
use mathlib.Core.Bool.{Bool, true, false}
use mathlib.Core.List.{List, [], ◌∷◌, ◌++◌}
use Prim.Native.Nat.{ℕ, zero, suc, ◌+◌, ◌<◌}
use native.Mathlib.Numerals.{add-one}
use native.Mathlib.Omega.{arith}
use Rattle.base_words.specs.Each.{joined, those}
use Rattle.base_words.specs.Pick.{if◌then◌or_else◌}

pub joined_none : {A : Type 0} (f : ℕ → List A) → joined f 0 ≡ []
unfolding joined
joined_none f = refl

pub joined_more : {A : Type 0} (f : ℕ → List A) (n : ℕ) → joined f (n + 1) ≡ joined f n ++ f n
unfolding joined
joined_more f n = rw (add-one, joined)

pub joined_ext : {A : Type 0} (f g : ℕ → List A) (n : ℕ) → ((k : ℕ) → k < n → f k ≡ g k) → joined f n ≡ joined g n
unfolding joined
joined_ext f g zero h = refl
joined_ext f g (suc n) h = ap₂ ◌++◌ (joined_ext f g n (λ k lt. h k (omega (arith, lt)))) (h n (omega arith))

pub those_none : {A : Type 0} (f : A → Bool) → those f [] ≡ []
unfolding those
those_none f = refl

pub those_append : {A : Type 0} (f : A → Bool) (xs ys : List A) → those f (xs ++ ys) ≡ those f xs ++ those f ys
unfolding those if◌then◌or_else◌
those_append f [] ys = refl
those_append f (x ∷ xs) ys = go (f x) (those_append f xs ys)
  where
    go : (b : Bool) → those f (xs ++ ys) ≡ those f xs ++ those f ys → (if b then x ∷ those f (xs ++ ys) or_else those f (xs ++ ys)) ≡ (if b then x ∷ those f xs or_else those f xs) ++ those f ys
    go true e = ap (λ l. x ∷ l) e
    go false e = e

pub those-joined : {A : Type 0} (f : A → Bool) (g : ℕ → List A) (n : ℕ) → those f (joined g n) ≡ joined (λ k. those f (g k)) n
unfolding joined those
those-joined f g zero = refl
those-joined f g (suc n) = those_append f (joined g n) (g n) ∙ ap (λ l. l ++ those f (g n)) (those-joined f g n)
