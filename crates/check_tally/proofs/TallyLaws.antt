-- Laws of a tally: marks one after the other, what loops need, and what stands in it. Assumes nothing.
use mathlib.Core.Path.{◌≡◌, refl, sym, ◌∙◌, ap, ap₂, subst}
use mathlib.Core.Bool.{Bool, true, false}
use mathlib.Core.List.{List, [], ◌∷◌, ◌++◌, append_assoc, append-nil}
use Prim.Native.Nat.{ℕ, zero, suc, ◌+◌, ◌≤◌, ◌<◌}
use native.Mathlib.Nat.{le_antisymm, add-zero}
use native.Mathlib.Numerals.{add-one}
use native.Mathlib.Omega.{arith}
use lib.Dec.{leb, ltb, eqb}
use lib.ListN.{length, get_or, set, replicate, length-set}
use lib.Seq.{get_or-set_same, get_or-set_other}
use borrow.Author.Tests.{eq-eqb, ne_eqb, eqb-true, eqb-false, lt-ltb, lt-leb}
use Rattle.base_words.specs.Each.{total, tab}
use Rattle.base_words.specs.Pick.{if◌then◌or_else◌}
use Rattle.base_words.specs.Sum.{hit, one_if}
use Rattle.base_words.proofs.EachLaws.{tab_more}
use Rattle.check_tally.specs.Tally.{more, marked, tally, Region, one_region, region_marks, place, marks_of, all_marks, tallied, count, capped}

pub tally_append : (s xs ys : List ℕ) → tally s (xs ++ ys) ≡ tally (tally s xs) ys
unfolding tally
tally_append s [] ys = refl
tally_append s (x ∷ xs) ys = tally_append (marked s x) xs ys

tally_one : (s : List ℕ) (k : ℕ) → tally s (k ∷ []) ≡ marked s k
unfolding tally
tally_one s k = refl

-- A loop that marks the numbers of a region one by one.
module _ (f : ℕ → ℕ) (s : List ℕ) where
  pub tally_none : s ≡ tally s (tab f 0)
  unfolding tally tab
  tally_none = refl

  pub tally-more : (n k : ℕ) (t u : List ℕ) → t ≡ tally s (tab f n) → k ≡ f n → u ≡ marked t k → u ≡ tally s (tab f (n + 1))
  tally-more n k t u p e q = q ∙ ap₂ marked p e ∙ sym (tally_one _ (f n)) ∙ sym (tally_append s (tab f n) (f n ∷ [])) ∙ ap (tally s) (sym (tab_more f n))

  pub tally_done : (n i : ℕ) (t : List ℕ) → n ≤ i → i ≤ n → t ≡ tally s (tab f i) → t ≡ tally s (tab f n)
  tally_done n i t h k e = rw (le_antisymm h k) e

-- Regions marked one after the other; the last call first, so that the states between are found.
pub marks_append : (rs qs : List Region) → marks_of (rs ++ qs) ≡ marks_of rs ++ marks_of qs
unfolding marks_of
marks_append [] qs = refl
marks_append (r ∷ rs) qs = ap (λ l. region_marks r ++ l) (marks_append rs qs) ∙ sym (append_assoc (region_marks r) (marks_of rs) (marks_of qs))

-- a number v that is w, marked as a region of one
pub one_number : (from most v w : ℕ) (s u : List ℕ) → u ≡ marked s (place from most v) → v ≡ w → u ≡ tally s (region_marks (one_region from most w))
unfolding tally tab region_marks one_region
one_number from most v w s u q e = q ∙ ap (λ x. marked s (place from most x)) e

pub last_region : (s u : List ℕ) (r : Region) → u ≡ tally s (region_marks r) → u ≡ tally s (marks_of (r ∷ []))
unfolding marks_of
last_region s u r q = q ∙ ap (tally s) (sym (append-nil (region_marks r)))

pub then_region : (s t u : List ℕ) (r : Region) (rs : List Region) → u ≡ tally t (marks_of rs) → t ≡ tally s (region_marks r) → u ≡ tally s (marks_of (r ∷ rs))
unfolding marks_of
then_region s t u r rs q p = q ∙ ap (λ z. tally z (marks_of rs)) p ∙ sym (tally_append s (region_marks r) (marks_of rs))

pub then_regions : (s t u : List ℕ) (rs qs : List Region) → u ≡ tally t (marks_of qs) → t ≡ tally s (marks_of rs) → u ≡ tally s (marks_of (rs ++ qs))
then_regions s t u rs qs q p = q ∙ ap (λ z. tally z (marks_of qs)) p ∙ sym (tally_append s (marks_of rs) (marks_of qs)) ∙ ap (tally s) (sym (marks_append rs qs))

-- A loop over the things of a list, given as a function's values.
all_marks_more : {A : Type 0} (f : A → List Region) (xs : List A) (x : A) → all_marks f (xs ++ (x ∷ [])) ≡ all_marks f xs ++ marks_of (f x)
unfolding all_marks
all_marks_more f [] x = nil_last (marks_of (f x))
  where
    nil_last : (ys : List ℕ) → ys ++ [] ≡ ys
    nil_last [] = refl
    nil_last (y ∷ ys) = ap (λ l. y ∷ l) (nil_last ys)
all_marks_more f (y ∷ ys) x = ap (λ l. marks_of (f y) ++ l) (all_marks_more f ys x) ∙ sym (append_assoc (marks_of (f y)) (all_marks f ys) (marks_of (f x)))

module _ {A : Type 0} (f : A → List Region) (g : ℕ → A) (s : List ℕ) where
  pub fold_none : s ≡ tally s (all_marks f (tab g 0))
  unfolding tally tab all_marks
  fold_none = refl

  pub fold_more : (n : ℕ) (t u : List ℕ) → u ≡ tally t (marks_of (f (g n))) → t ≡ tally s (all_marks f (tab g n)) → u ≡ tally s (all_marks f (tab g (n + 1)))
  fold_more n t u e p =
      e ∙ ap (λ z. tally z (marks_of (f (g n)))) p
      ∙ sym (tally_append s (all_marks f (tab g n)) (marks_of (f (g n))))
      ∙ ap (tally s) (sym (all_marks_more f (tab g n) (g n)) ∙ ap (all_marks f) (sym (tab_more g n)))

  pub fold_done : (n i : ℕ) (t : List ℕ) → n ≤ i → i ≤ n → t ≡ tally s (all_marks f (tab g i)) → t ≡ tally s (all_marks f (tab g n))
  fold_done n i t h k e = rw (le_antisymm h k) e

-- the same, one thing more, for a list that is read
pub tallied_none : {A : Type 0} (size : ℕ) (f : A → List Region) → replicate size 0 ≡ tallied size f []
unfolding tallied all_marks tally
tallied_none size f = refl

pub tallied-more : {A : Type 0} (size : ℕ) (f : A → List Region) (xs : List A) (x : A) → tallied size f (xs ++ (x ∷ [])) ≡ tally (tallied size f xs) (marks_of (f x))
unfolding tallied
tallied-more size f xs x = ap (tally (replicate size 0)) (all_marks_more f xs x) ∙ tally_append (replicate size 0) (all_marks f xs) (marks_of (f x))

-- What stands at a place.
more-capped : (n : ℕ) → more (capped n) ≡ capped (n + 1)
unfolding more capped if◌then◌or_else◌
more-capped zero = refl
more-capped (suc zero) = refl
more-capped (suc (suc n)) = rw add-one

pub length_marked : (s : List ℕ) (k : ℕ) → length (marked s k) ≡ length s
unfolding marked
length_marked s k = simp length-set

marked_at : (s : List ℕ) (k x n : ℕ) → k < length s → get_or s k 0 ≡ capped n → get_or (marked s x) k 0 ≡ capped (n + hit x k)
unfolding marked
marked_at s k x n h e = go (eqb x k) refl
  where
    go : (b : Bool) → eqb x k ≡ b → get_or (set s x (more (get_or s x 0))) k 0 ≡ capped (n + one_if b)
    go true q =
        let w : x ≡ k = eqb-true x k q in
        subst (λ (y : ℕ). get_or (set s y (more (get_or s y 0))) k 0 ≡ capped (n + 1)) (sym w)
        (get_or-set_same s k (more (get_or s k 0)) 0 h ∙ ap more e ∙ more-capped n)
    go false q = get_or-set_other s x k (more (get_or s x 0)) 0 (λ w. eqb-false x k q (sym w)) ∙ e ∙ ap capped (sym (add-zero n))

pub tally_at : (s ks : List ℕ) (k n : ℕ) → k < length s → get_or s k 0 ≡ capped n → get_or (tally s ks) k 0 ≡ capped (n + count k ks)
unfolding tally total
tally_at s [] k n h e = e ∙ ap capped (sym (add-zero n))
tally_at s (x ∷ ks) k n h e =
    let l : k < length (marked s x) = rw length_marked h in
    let a : (n + hit x k) + count k ks ≡ n + (hit x k + count k ks) = omega arith in
    tally_at (marked s x) ks k (n + hit x k) l (marked_at s k x n h e) ∙ ap capped a

-- A word of a tally tells a count of 0, of 1, and of more.
capped_to : (x c : ℕ) → c ≤ 1 → capped x ≡ c → x ≡ c
unfolding capped
capped_to zero c h e = e
capped_to (suc zero) c h e = e
capped_to (suc (suc x)) c h e = absurd (omega arith)

capped_from : (x c : ℕ) → c ≤ 1 → x ≡ c → capped x ≡ c
unfolding capped
capped_from zero c h e = e
capped_from (suc zero) c h e = e
capped_from (suc (suc x)) c h e = absurd (omega arith)

eqb_iff : (a b c d : ℕ) → (a ≡ b → c ≡ d) → (c ≡ d → a ≡ b) → eqb a b ≡ eqb c d
eqb_iff a b c d f g = go (eqb a b) refl
  where
    go : (t : Bool) → eqb a b ≡ t → eqb a b ≡ eqb c d
    go true e = e ∙ sym (eq-eqb c d (f (eqb-true a b e)))
    go false e = e ∙ sym (ne_eqb c d (λ h. eqb-false a b e (g h)))

pub hit_iff : (a b c d : ℕ) → (a ≡ b → c ≡ d) → (c ≡ d → a ≡ b) → hit a b ≡ hit c d
hit_iff a b c d f g = ap one_if (eqb_iff a b c d f g)

pub hit_no : (a b : ℕ) → (a ≡ b → ⊥) → hit a b ≡ 0
hit_no a b h = ap one_if (ne_eqb a b h)

pub eqb-capped : (x c : ℕ) → c ≤ 1 → eqb (capped x) c ≡ eqb x c
eqb-capped x c h = eqb_iff (capped x) c x c (capped_to x c h) (capped_from x c h)

pub leb-capped : (x : ℕ) → leb (capped x) 1 ≡ leb x 1
unfolding capped
leb-capped zero = refl
leb-capped (suc zero) = refl
leb-capped (suc (suc x)) = sym (lt-leb (suc (suc x)) 1 (omega arith))

pub ltb-capped : (x : ℕ) → ltb 0 (capped x) ≡ ltb 0 x
unfolding capped
ltb-capped zero = refl
ltb-capped (suc zero) = refl
ltb-capped (suc (suc x)) = sym (lt-ltb 0 (suc (suc x)) (omega arith))

-- the same of two words added up
sum_to : (x n c : ℕ) → c ≤ 1 → capped x + capped n ≡ c → x + n ≡ c
unfolding capped
sum_to zero n c h e = omega (arith, capped_to n c h (omega arith))
sum_to (suc zero) n c h e = omega (arith, capped_to n 0 (omega arith) (omega arith))
sum_to (suc (suc x)) n c h e = absurd (omega arith)

sum_from : (x n c : ℕ) → c ≤ 1 → x + n ≡ c → capped x + capped n ≡ c
unfolding capped
sum_from zero n c h e = omega (arith, capped_from n c h (omega arith))
sum_from (suc zero) n c h e = omega (arith, capped_from n 0 (omega arith) (omega arith))
sum_from (suc (suc x)) n c h e = absurd (omega arith)

pub sum_capped : (x n c : ℕ) → c ≤ 1 → eqb (capped x + capped n) c ≡ eqb (x + n) c
sum_capped x n c h = eqb_iff (capped x + capped n) c (x + n) c (sum_to x n c h) (sum_from x n c h)
