-- What goes alike on both sides of a change u: a choice, a loop, a test of every number, words stored elsewhere. Assumes nothing.
use Prim.Native.Nat.{ℕ, zero, suc, ◌+◌, ◌≤◌, ◌<◌}
use mathlib.Core.Path.{◌≡◌, refl, ◌∙◌, ap, ap₂}
use mathlib.Core.Bool.{Bool, true, false, ◌&&◌}
use mathlib.Core.List.{List, [], ◌∷◌, ◌++◌}
use native.Mathlib.Omega.{arith}
use lib.ListN.{set}
use lib.Seq.{set_comm}
use Rattle.base_words.specs.All.{all}
use Rattle.base_words.specs.Each.{tab}
use Rattle.base_words.specs.Iter.{iter}
use Rattle.base_words.specs.Pick.{if◌then◌or_else◌}
use Rattle.base_words.specs.Writes.{writes}

pub choice_along : {A B : Type 0} (u : A → B) (b : Bool) (x y : A) (x' y' : B) → (b ≡ true → x' ≡ u x) → (b ≡ false → y' ≡ u y) → (if b then x' or_else y') ≡ u (if b then x or_else y)
unfolding if◌then◌or_else◌
choice_along u true x y x' y' f g = f refl
choice_along u false x y x' y' f g = g refl

pub choice_same : {A : Type 0} (b : Bool) (x y x' y' : A) → (b ≡ true → x' ≡ x) → (b ≡ false → y' ≡ y) → (if b then x' or_else y') ≡ (if b then x or_else y)
choice_same b x y x' y' f g = choice_along (λ a. a) b x y x' y' f g

pub iter_along : {A : Type 0} (u : A → A) (f : ℕ → A → A) (n : ℕ) → ((j : ℕ) → j < n → (a : A) → f j (u a) ≡ u (f j a)) → (a : A) → iter f (u a) n ≡ u (iter f a n)
unfolding iter
iter_along u f zero c a = refl
iter_along u f (suc n) c a = ap (f n) (iter_along u f n (λ j l. c j (omega arith)) a) ∙ c n (omega arith) (iter f a n)

pub all_same : (f g : ℕ → Bool) (n : ℕ) → ((j : ℕ) → j < n → f j ≡ g j) → all f n ≡ all g n
unfolding all
all_same f g zero c = refl
all_same f g (suc n) c = ap₂ ◌&&◌ (all_same f g n (λ j l. c j (omega arith))) (c n (omega arith))

pub tab_same : (f g : ℕ → ℕ) (n : ℕ) → ((j : ℕ) → j < n → f j ≡ g j) → tab f n ≡ tab g n
unfolding tab
tab_same f g zero c = refl
tab_same f g (suc n) c = ap₂ (λ r w. r ++ (w ∷ [])) (tab_same f g n (λ j l. c j (omega arith))) (c n (omega arith))

pub writes_same : (f g : ℕ → ℕ) (s : List ℕ) (a n : ℕ) → ((j : ℕ) → j < n → f j ≡ g j) → writes f s a n ≡ writes g s a n
unfolding writes
writes_same f g s a zero c = refl
writes_same f g s a (suc n) c = ap₂ (λ r w. set r (a + n) w) (writes_same f g s a n (λ j l. c j (omega arith))) (c n (omega arith))

pub writes_apart : (f : ℕ → ℕ) (s : List ℕ) (a n k w : ℕ) → a + n ≤ k → writes f (set s k w) a n ≡ set (writes f s a n) k w
unfolding writes
writes_apart f s a zero k w l = refl
writes_apart f s a (suc n) k w l = ap (λ r. set r (a + n) (f n)) (writes_apart f s a n k w (omega arith)) ∙ set_comm (writes f s a n) k (a + n) w (f n) (λ e. omega arith)
