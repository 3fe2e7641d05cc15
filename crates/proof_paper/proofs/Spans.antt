-- Lists of a function's values: what holds of each, and which stands where. Assumes nothing.
use Prim.Native.Nat.{ℕ, zero, suc, ◌+◌, ◌<◌}
use mathlib.Core.Path.{◌≡◌, refl, sym, ◌∙◌, ap, subst}
use mathlib.Core.List.{◌∷◌}
use native.Mathlib.Nat.{not-suc-le-zero, le_of_suc-le-suc}
use native.Mathlib.Omega.{arith}
use lib.ListN.{length, get_or}
use Rattle.paper.specs.Syntax.{Stands, here, there, Each, none, more}
use Rattle.proof_paper.specs.Decoders.{span}

pub from_here : (k : ℕ) → k + 0 ≡ k
from_here k = omega arith

pub from_next : (k j : ℕ) → k + suc j ≡ suc k + j
from_next k j = omega arith

module _ {A : Type 0} (f : ℕ → A) where
  pub length-span : (k n : ℕ) → length (span f k n) ≡ n
  unfolding span
  length-span k zero = refl
  length-span k (suc n) = ap suc (length-span (suc k) n)

  -- ∀ x ∈ f k, f (k + 1), ..
  pub each_of : (P : A → Type 0) (k n : ℕ) → ((j : ℕ) → j < n → P (f (k + j))) → Each P (span f k n)
  unfolding span
  each_of P k zero h = none
  each_of P k (suc n) h =
      more (subst (λ i. P (f i)) (from_here k) (h 0 (omega arith)))
      (each_of P (suc k) n (λ j l. subst (λ i. P (f i)) (from_next k j) (h (suc j) (omega arith))))

  pub each_at : (P : A → Type 0) (k n : ℕ) → Each P (span f k n) → (j : ℕ) → j < n → P (f (k + j))
  unfolding span
  each_at P k zero e j l = absurd (not-suc-le-zero l)
  each_at P k (suc n) (more p e) zero l = subst (λ i. P (f i)) (sym (from_here k)) p
  each_at P k (suc n) (more p e) (suc j) l = subst (λ i. P (f i)) (sym (from_next k j)) (each_at P (suc k) n e j (le_of_suc-le-suc l))

  pub get_d_span : (k n j : ℕ) (d : A) → j < n → get_or (span f k n) j d ≡ f (k + j)
  unfolding span
  get_d_span k zero j d l = absurd (not-suc-le-zero l)
  get_d_span k (suc n) zero d l = ap f (sym (from_here k))
  get_d_span k (suc n) (suc j) d l = get_d_span (suc k) n j d (le_of_suc-le-suc l) ∙ ap f (sym (from_next k j))

  -- the same from 0 on
  pub each_from_zero : (P : A → Type 0) (n : ℕ) → ((j : ℕ) → j < n → P (f j)) → Each P (span f 0 n)
  each_from_zero P n h = each_of P 0 n (λ j l. let z : j ≡ 0 + j = omega arith in subst (λ i. P (f i)) z (h j l))

  pub at_from_zero : (P : A → Type 0) (n : ℕ) → Each P (span f 0 n) → (j : ℕ) → j < n → P (f j)
  at_from_zero P n e j l = let z : 0 + j ≡ j = omega arith in subst (λ i. P (f i)) z (each_at P 0 n e j l)

  pub stands_at : (k n j : ℕ) → j < n → Stands (f (k + j)) j (span f k n)
  unfolding span
  stands_at k zero j l = absurd (not-suc-le-zero l)
  stands_at k (suc n) zero l = subst (λ i. Stands (f i) 0 (f k ∷ span f (suc k) n)) (sym (from_here k)) here
  stands_at k (suc n) (suc j) l = there (subst (λ i. Stands (f i) j (span f (suc k) n)) (sym (from_next k j)) (stands_at (suc k) n j (le_of_suc-le-suc l)))

  stands_at_from : (k : ℕ) (x : A) (n j : ℕ) → Stands x j (span f k n) → (j < n) × (x ≡ f (k + j))
  unfolding span
  stands_at_from k x zero j s = elim s [ ]
  stands_at_from k x (suc n) zero here = (omega arith, ap f (sym (from_here k)))
  stands_at_from k x (suc n) (suc j) (there s) = let h = stands_at_from (suc k) x n j s in (omega (arith, h.0), h.1 ∙ ap f (sym (from_next k j)))

  pub at_stands : (x : A) (k n j : ℕ) → Stands x j (span f k n) → (j < n) × (x ≡ f (k + j))
  at_stands x k n j s = stands_at_from k x n j s

  pub stands_from_zero : (n j : ℕ) → j < n → Stands (f j) j (span f 0 n)
  stands_from_zero n j l = let z : 0 + j ≡ j = omega arith in subst (λ i. Stands (f i) j (span f 0 n)) z (stands_at 0 n j l)

  pub zero_stands : (x : A) (n j : ℕ) → Stands x j (span f 0 n) → (j < n) × (x ≡ f j)
  zero_stands x n j s = let z : 0 + j ≡ j = omega arith in let w = at_stands x 0 n j s in (w.0, w.1 ∙ ap f z)

-- the same values, the same list
pub span_alike : {A : Type 0} (f g : ℕ → A) (k n : ℕ) → ((j : ℕ) → j < n → f (k + j) ≡ g (k + j)) → span f k n ≡ span g k n
unfolding span
span_alike f g k zero e = refl
span_alike f g k (suc n) e =
    let z : f k ≡ g k = subst (λ j. f j ≡ g j) (from_here k) (e 0 (omega arith)) in
    let r : span f (suc k) n ≡ span g (suc k) n = span_alike f g (suc k) n (λ j l. subst (λ i. f i ≡ g i) (from_next k j) (e (suc j) (omega arith))) in
    rw (z, r)
