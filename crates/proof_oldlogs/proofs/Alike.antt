-- WORDS THAT ARE ALIKE at the places K, and small at the places U, which are others: what is stored at a place of K in both leaves them so. c is how much stands at a place of U at most. Assumes nothing.
use Prim.Native.Nat.{ℕ, zero, suc, ◌+◌, ◌≤◌, ◌<◌}
use mathlib.Core.Path.{◌≡◌, refl, sym, ◌∙◌, ap, subst}
use mathlib.Core.Bool.{Bool, true, false}
use mathlib.Core.List.{List}
use native.Mathlib.Decide.{ℕ_discrete}
use native.Mathlib.Omega.{arith}
use lib.ListN.{length, set, length-set}
use lib.Seq.{get_or-set_same, get_or-set_other, set_out}
use Rattle.base_words.specs.Iter.{iter}
use Rattle.base_words.specs.Pick.{if◌then◌or_else◌}
use Rattle.base_words.specs.Words.{at}
use Rattle.base_words.specs.Writes.{writes}
use Rattle.step_queues.proofs.SlotLaws.{by_below}

pub record Alike (K U : ℕ → Type 0) (c : ℕ → ℕ) (a b : List ℕ) : Type 0 where
  pub long : length b ≡ length a
  pub same : (w : ℕ) → K w → at b w ≡ at a w
  pub few : (w : ℕ) → U w → at b w ≤ c w

module _ (K U : ℕ → Type 0) where
  -- one word stored in each
  pub set_alike : (c : ℕ → ℕ) (a b : List ℕ) (k u v : ℕ) → (K k → v ≡ u) → (U k → v ≤ c k) → Alike K U c a b → Alike K U c (set a k u) (set b k v)
  set_alike c a b k u v e l r = record {
    long = length-set b k v ∙ r.long ∙ sym (length-set a k u);
    same = λ w h. same w h (ℕ_discrete w k);
    few = λ w h. few w h (ℕ_discrete w k);
  }
    where
      same : (w : ℕ) → K w → Dec (w ≡ k) → at (set b k v) w ≡ at (set a k u) w
      same w h (no d) = get_or-set_other b k w v 0 d ∙ r.same w h ∙ sym (get_or-set_other a k w u 0 d)
      same w h (yes d) =
          by_below k (length a)
          (λ i. ap (at (set b k v)) d ∙ get_or-set_same b k v 0 (omega (arith, r.long)) ∙ e (subst K d h) ∙ sym (ap (at (set a k u)) d ∙ get_or-set_same a k u 0 i))
          (λ i. ap (λ y. at y w) (set_out b k v (omega (arith, r.long))) ∙ r.same w h ∙ sym (ap (λ y. at y w) (set_out a k u i)))

      few : (w : ℕ) → U w → Dec (w ≡ k) → at (set b k v) w ≤ c w
      few w h (no d) = let q : at (set b k v) w ≡ at b w = get_or-set_other b k w v 0 d in omega (arith, q, r.few w h)
      few w h (yes d) =
          by_below k (length b)
          (λ i. let q : at (set b k v) w ≡ v = ap (at (set b k v)) d ∙ get_or-set_same b k v 0 i in let m : v ≤ c w = subst (λ y. v ≤ c y) (sym d) (l (subst U d h)) in omega (arith, q, m))
          (λ i. let q : at (set b k v) w ≡ at b w = ap (λ y. at y w) (set_out b k v i) in omega (arith, q, r.few w h))

  pub writes_alike : (c : ℕ → ℕ) (f g : ℕ → ℕ) (a b : List ℕ) (k n : ℕ) → ((j : ℕ) → j < n → K (k + j) → g j ≡ f j) → ((j : ℕ) → j < n → U (k + j) → g j ≤ c (k + j)) → Alike K U c a b
      → Alike K U c (writes f a k n) (writes g b k n)
  unfolding writes
  writes_alike c f g a b k zero e l r = r
  writes_alike c f g a b k (suc n) e l r =
      set_alike c (writes f a k n) (writes g b k n) (k + n) (f n) (g n) (e n (omega arith)) (l n (omega arith))
      (writes_alike c f g a b k n (λ j h. e j (omega arith)) (λ j h. l j (omega arith)) r)

-- A choice, and a loop, on both sides of a relation
pub choice_both : {A : Type 0} (R : A → A → Type 0) (t t' : Bool) (a b a' b' : A) → t' ≡ t → (t ≡ true → R a a') → (t ≡ false → R b b') → R (if t then a or_else b) (if t' then a' or_else b')
unfolding if◌then◌or_else◌
choice_both R t t' a b a' b' e f g = subst (λ (s : Bool). R (if t then a or_else b) (if s then a' or_else b')) (sym e) (go t f g)
  where
    go : (s : Bool) → (s ≡ true → R a a') → (s ≡ false → R b b') → R (if s then a or_else b) (if s then a' or_else b')
    go true f g = f refl
    go false f g = g refl

pub iter_both : {A : Type 0} (R : A → A → Type 0) (f g : ℕ → A → A) (n : ℕ) → ((j : ℕ) → j < n → (a b : A) → R a b → R (f j a) (g j b)) → (a b : A) → R a b → R (iter f a n) (iter g b n)
unfolding iter
iter_both R f g zero h a b r = r
iter_both R f g (suc n) h a b r = h n (omega arith) (iter f a n) (iter g b n) (iter_both R f g n (λ j l. h j (omega arith)) a b r)
