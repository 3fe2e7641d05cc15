-- What regions that stand apart hold: at the place of a number, how often that number was marked there. Assumes nothing.
use mathlib.Core.Path.{◌≡◌, refl, sym, ◌∙◌, ap, ap₂, subst}
use mathlib.Core.Bool.{Bool, true, false, not, ◌&&◌}
use mathlib.Core.List.{List, [], ◌∷◌}
use mathlib.Core.Logic.{⊎_elim}
use Prim.Native.Nat.{ℕ, zero, suc, ◌+◌, ◌≤◌, ◌<◌}
use native.Mathlib.Nat.{zero-add, add-zero, not-suc-le-zero, le_of_suc-le-suc, eq-or-lt_of_le}
use native.Mathlib.Omega.{arith}
use lib.Dec.{leb, eqb}
use lib.ListN.{length, get_or, replicate, length-replicate}
use borrow.Author.Tests.{le-leb, lt-leb, leb-true, leb-false, eq-eqb, ne_eqb}
use Rattle.base_words.specs.All.{all}
use Rattle.base_words.specs.Each.{total, each}
use Rattle.base_words.specs.Pick.{if◌then◌or_else◌}
use Rattle.base_words.specs.Sum.{sum, hit, one_if}
use Rattle.base_words.specs.Words.{at}
use Rattle.base_words.proofs.AllLaws.{and_left, and_right}
use Rattle.base_words.proofs.EachLaws.{total_append, total-tab, total_ext}
use Rattle.base_words.proofs.SumLaws.{sum_ext, sum-zero}
use Rattle.check_tally.specs.Tally.{place, Region, no_region, region_marks, marks_of, apart, all_marks, tallied, once_in, count, capped}
use Rattle.check_tally.proofs.TallyLaws.{tally_at, hit_iff, hit_no, leb-capped}

place_in : (from most v : ℕ) → v ≤ most → place from most v ≡ from + v
unfolding place if◌then◌or_else◌
place_in from most v h = rw (le-leb v most h)

place_out : (from most v : ℕ) → most < v → place from most v ≡ from
unfolding place if◌then◌or_else◌
place_out from most v h = rw (lt-leb v most h)

-- the place of a number is inside its region
module _ (from most : ℕ) where
  by_most : (v : ℕ) (P : ℕ → Type 0) → (v ≤ most → P (from + v)) → (most < v → P from) → P (place from most v)
  by_most v P f g = go (leb v most) refl
    where
      go : (b : Bool) → leb v most ≡ b → P (place from most v)
      go true e = let h = leb-true v most e in subst P (sym (place_in from most v h)) (f h)
      go false e = let h = leb-false v most e in subst P (sym (place_out from most v h)) (g h)

  hit_in : (v e : ℕ) → 0 < e → e ≤ most → hit (place from most v) (from + e) ≡ hit v e
  hit_in v e h l =
      by_most v (λ p. hit p (from + e) ≡ hit v e)
      (λ i. hit_iff (from + v) (from + e) v e (λ q. omega arith) (λ q. omega arith))
      (λ o. hit_no from (from + e) (λ q. omega arith) ∙ sym (hit_no v e (λ q. omega arith)))

  hit_out : (v k : ℕ) → (from ≤ k → k ≤ from + most → ⊥) → hit (place from most v) k ≡ 0
  hit_out v k h =
      by_most v (λ p. hit p k ≡ 0)
      (λ i. hit_no (from + v) k (λ q. h (omega arith) (omega arith)))
      (λ o. hit_no from k (λ q. h (omega arith) (omega arith)))

module _ (r : Region) where
  pub count_in_lem : (e : ℕ) → 0 < e → e ≤ r.most → count (r.from + e) (region_marks r) ≡ sum (λ j. hit (r.number j) e) r.many
  unfolding region_marks
  count_in_lem e h l =
      total-tab (λ x. hit x (r.from + e)) (λ j. place r.from r.most (r.number j)) r.many
      ∙ sum_ext _ _ r.many (λ j m. hit_in r.from r.most (r.number j) e h l)

  pub count_out : (k : ℕ) → (r.from ≤ k → k ≤ r.from + r.most → ⊥) → count k (region_marks r) ≡ 0
  unfolding region_marks
  count_out k h =
      total-tab (λ x. hit x k) (λ j. place r.from r.most (r.number j)) r.many
      ∙ sum-zero _ r.many (λ j m. hit_out r.from r.most (r.number j) k h)

-- region i of a list
abbrev region : List Region → ℕ → Region
region rs i = get_or rs i no_region

count_later : (rs : List Region) (a k : ℕ) → apart a rs ≡ true → k < a → count k (marks_of rs) ≡ 0
unfolding apart marks_of total
count_later [] a k p h = refl
count_later (r ∷ rs) a k p h =
    let l : a ≤ r.from = leb-true a r.from (and_left _ (apart (r.from + 1 + r.most) rs) p) in
    total_append (λ x. hit x k) (region_marks r) (marks_of rs)
    ∙ ap₂ ◌+◌ (count_out r k (λ f t. omega arith)) (count_later rs (r.from + 1 + r.most) k (and_right (leb a r.from) _ p) (omega arith))

region_from : (rs : List Region) (a i e : ℕ) → apart a rs ≡ true → 0 < e → e ≤ (region rs i).most → a ≤ (region rs i).from
unfolding apart
region_from [] a i e p h l = absurd (omega arith)
region_from (r ∷ rs) a zero e p h l = leb-true a r.from (and_left _ (apart (r.from + 1 + r.most) rs) p)
region_from (r ∷ rs) a (suc i) e p h l =
    let f : a ≤ r.from = leb-true a r.from (and_left _ (apart (r.from + 1 + r.most) rs) p) in
    omega (arith, region_from rs (r.from + 1 + r.most) i e (and_right (leb a r.from) _ p) h l)

region_count : (rs : List Region) (a i e : ℕ) → apart a rs ≡ true → 0 < e → e ≤ (region rs i).most →
    count ((region rs i).from + e) (marks_of rs) ≡ sum (λ j. hit ((region rs i).number j) e) (region rs i).many
unfolding apart marks_of
region_count [] a i e p h l = absurd (omega arith)
region_count (r ∷ rs) a zero e p h l =
    total_append (λ x. hit x (r.from + e)) (region_marks r) (marks_of rs)
    ∙ ap₂ ◌+◌ (count_in_lem r e h l) (count_later rs (r.from + 1 + r.most) (r.from + e) (and_right (leb a r.from) _ p) (omega arith))
    ∙ add-zero (sum (λ j. hit (r.number j) e) r.many)
region_count (r ∷ rs) a (suc i) e p h l =
    let q = and_right (leb a r.from) (apart (r.from + 1 + r.most) rs) p in
    let f : r.from + 1 + r.most ≤ (region rs i).from = region_from rs (r.from + 1 + r.most) i e q h l in
    total_append (λ x. hit x ((region rs i).from + e)) (region_marks r) (marks_of rs)
    ∙ ap₂ ◌+◌ (count_out r ((region rs i).from + e) (λ u t. omega arith)) (region_count rs (r.from + 1 + r.most) i e q h l)
    ∙ zero-add (sum (λ j. hit ((region rs i).number j) e) (region rs i).many)

-- The tally of all things of a list.
count-all : {A : Type 0} (f : A → List Region) (k : ℕ) (xs : List A) → count k (all_marks f xs) ≡ total (λ x. count k (marks_of (f x))) xs
unfolding all_marks total
count-all f k [] = refl
count-all f k (x ∷ xs) =
    total_append (λ y. hit y k) (marks_of (f x)) (all_marks f xs) ∙ ap (λ n. count k (marks_of (f x)) + n) (count-all f k xs)

zeros_at : (n k : ℕ) → ◌≡◌ {A = ℕ} (get_or (replicate n 0) k 0) 0
zeros_at zero k = refl
zeros_at (suc n) zero = refl
zeros_at (suc n) (suc k) = zeros_at n k

-- region i, from the place `from` on in every thing's regions: at e, how often the things have e there
pub tallied-at : {A : Type 0} (size : ℕ) (f : A → List Region) (i from e : ℕ) (g : A → ℕ) →
    ((x : A) → apart 0 (f x) ≡ true) → ((x : A) → (get_or (f x) i no_region).from ≡ from) → 0 < e → ((x : A) → e ≤ (get_or (f x) i no_region).most) → from + e < size →
    ((x : A) → sum (λ j. hit ((get_or (f x) i no_region).number j) e) (get_or (f x) i no_region).many ≡ g x) →
    (xs : List A) → at (tallied size f xs) (from + e) ≡ capped (total g xs)
unfolding tallied capped
tallied-at size f i from e g p b h l z q xs =
    let w : from + e < length {A = ℕ} (replicate size 0) = rw length-replicate z in
    tally_at (replicate size 0) (all_marks f xs) (from + e) 0 w (zeros_at size (from + e))
    ∙ ap capped
    (zero-add (count (from + e) (all_marks f xs))
    ∙ count-all f (from + e) xs
    ∙ total_ext (λ x. count (from + e) (marks_of (f x))) g xs
    (λ x. ap (λ y. count (y + e) (marks_of (f x))) (sym (b x)) ∙ region_count (f x) 0 i e (p x) h (l x) ∙ q x))

-- a region of one number
pub sum_one : (v e : ℕ) → sum (λ j. hit v e) 1 ≡ hit v e
unfolding sum
sum_one v e = zero-add (hit v e)

-- a region in which a thing marks the numbers that pass a test, each once
module _ (f : ℕ → Bool) (m : ℕ) where
  here : (t : Bool) → hit (if t then m + 1 or_else 0) (m + 1) ≡ one_if t
  unfolding if◌then◌or_else◌
  here true = ap one_if (eq-eqb (m + 1) (m + 1) refl)
  here false = hit_no 0 (m + 1) (λ q. omega arith)

  elsewhere : (t : Bool) (j : ℕ) → (j ≡ m → ⊥) → hit (if t then j + 1 or_else 0) (m + 1) ≡ 0
  unfolding if◌then◌or_else◌
  elsewhere true j w = hit_no (j + 1) (m + 1) (λ q. w (omega arith))
  elsewhere false j w = hit_no 0 (m + 1) (λ q. omega arith)

  pub once : (n : ℕ) → m < n → sum (λ j. hit (if f j then j + 1 or_else 0) (m + 1)) n ≡ one_if (f m)
  unfolding sum
  once zero h = absurd (not-suc-le-zero h)
  once (suc n) h =
      ⊎_elim
      (λ q. ap₂ ◌+◌ (sum-zero (λ j. hit (if f j then j + 1 or_else 0) (m + 1)) n (λ k l. elsewhere (f k) k (λ w. omega arith))) (ap (λ k. hit (if f k then k + 1 or_else 0) (m + 1)) (sym q) ∙ here (f m)) ∙ zero-add (one_if (f m)))
      (λ l. ap₂ ◌+◌ (once n l) (elsewhere (f n) n (λ w. omega arith)) ∙ add-zero (one_if (f m)))
      (eq-or-lt_of_le (le_of_suc-le-suc h))

-- a test of every number below n
pub all_ext : (f g : ℕ → Bool) (n : ℕ) → ((k : ℕ) → k < n → f k ≡ g k) → all f n ≡ all g n
unfolding all
all_ext f g zero h = refl
all_ext f g (suc n) h = ap₂ ◌&&◌ (all_ext f g n (λ k l. h k (omega arith))) (h n (omega arith))

-- no number twice, by the tally
pub once_in_lem : (s : List ℕ) (from most : ℕ) (g : ℕ → ℕ) → ((k : ℕ) → k < most → at s (from + (k + 1)) ≡ capped (g k)) → once_in s from most ≡ all (λ k. leb (g k) 1) most
unfolding once_in
once_in_lem s from most g h = all_ext _ _ most (λ k l. ap (λ n. leb n 1) (h k l) ∙ leb-capped (g k))

-- a test that every thing of a list passes, by the count of those that don't
pub each_none : {A : Type 0} (f : A → Bool) (g : A → ℕ) (xs : List A) → ((x : A) → g x ≡ one_if (not (f x))) → eqb (total g xs) 0 ≡ each f xs
unfolding total each
each_none f g [] h = refl
each_none f g (x ∷ xs) h = go (f x) (h x) (each_none f g xs h)
  where
    go : (t : Bool) → g x ≡ one_if (not t) → eqb (total g xs) 0 ≡ each f xs → eqb (g x + total g xs) 0 ≡ t && each f xs
    go true e ih = ap (λ n. eqb n 0) (ap (λ n. n + total g xs) e ∙ zero-add (total g xs)) ∙ ih
    go false e ih = ne_eqb (g x + total g xs) 0 (λ q. omega arith)
