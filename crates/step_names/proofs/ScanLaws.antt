-- The k-th of names that stand in lists one behind the other: what every level of the listing needs. Assumes nothing.
use mathlib.Core.Path.{◌≡◌, ◌∙◌, refl, sym, subst, ap}
use mathlib.Core.Bool.{true, false, true≢false, false≢true}
use mathlib.Core.List.{List, [], ◌∷◌, ◌++◌}
use mathlib.Core.Logic.{⊎_elim}
use Prim.Native.Nat.{ℕ, zero, suc, ◌+◌, ◌≤◌, ◌<◌}
use native.Mathlib.Nat.{not-suc-le-zero, le_of_suc-le-suc, eq-or-lt_of_le, le_antisymm}
use native.Mathlib.Numerals.{add-one}
use native.Mathlib.Omega.{arith}
use Rattle.base_words.specs.Each.{joined}
use Rattle.meaning.specs.declared.Name.{Name}
use Rattle.step_names.specs.declared.Scan.{Scan}
use Rattle.step_names.specs.Parts.{scan}

-- what is found stays found, whatever comes behind
found_append : (xs ys : List Name) (k : ℕ) → (scan xs k).found ≡ true → scan (xs ++ ys) k ≡ scan xs k
unfolding scan
found_append [] ys k e = absurd (false≢true e)
found_append (y ∷ xs) ys zero e = refl
found_append (y ∷ xs) ys (suc k) e = found_append xs ys k e

-- where all were passed, the search goes on behind
passed_append : (xs ys : List Name) (k : ℕ) → (scan xs k).found ≡ false → scan (xs ++ ys) k ≡ scan ys (scan xs k).left
unfolding scan
passed_append [] ys k e = refl
passed_append (y ∷ xs) ys zero e = absurd (true≢false e)
passed_append (y ∷ xs) ys (suc k) e = passed_append xs ys k e

all_passed : (xs : List Name) (k : ℕ) → (scan xs k).found ≡ false → scan xs k ≡ scan [] (scan xs k).left
unfolding scan
all_passed [] k e = refl
all_passed (y ∷ xs) zero e = absurd (true≢false e)
all_passed (y ∷ xs) (suc k) e = all_passed xs k e

none_found : (k : ℕ) → (scan [] k).found ≡ false
unfolding scan
none_found k = refl

none_left : (k : ℕ) → (scan [] k).left ≡ k
unfolding scan
none_left k = refl

-- ONE LEVEL: f i is the list at i, whatever it is made of, and r what the function below answered at i.
module _ (f : ℕ → List Name) where
  -- the invariant: all below i were passed, and m is left of k
  unfoldable pub Passed : ℕ → ℕ → ℕ → Type 0
  Passed i k m = scan (joined f i) k ≡ scan [] m

  pub passed_none : (k : ℕ) → Passed 0 k k
  unfolding joined Passed
  passed_none k = refl

  -- the list at i is looked through behind those before it
  behind : (i k m : ℕ) → Passed i k m → scan (joined f i ++ f i) k ≡ scan (f i) m
  unfolding Passed
  behind i k m p =
      passed_append (joined f i) (f i) k (ap (λ (x : Scan). x.found) p ∙ none_found m)
      ∙ ap (λ (x : ℕ). scan (f i) x) (ap (λ (x : Scan). x.left) p ∙ none_left m)

  pub passed_more : (i k m : ℕ) (r : Scan) → Passed i k m → r ≡ scan (f i) m → r.found ≡ false → Passed (i + 1) k r.left
  unfolding joined Passed
  passed_more i k m r p q e =
      rw (add-one, joined, q) (behind i k m p ∙ all_passed (f i) m (sym (ap (λ (x : Scan). x.found) q) ∙ e))

  found_at : (n i k m : ℕ) (r : Scan) → i < n → Passed i k m → r ≡ scan (f i) m → r.found ≡ true → r ≡ scan (joined f n) k
  unfolding joined
  found_at zero i k m r h p q e = absurd (not-suc-le-zero h)
  found_at (suc n) i k m r h p q e =
      ⊎_elim (λ j. q ∙ sym (subst (λ (l : ℕ). scan (joined f l ++ f l) k ≡ scan (f i) m) j (behind i k m p)))
      (λ l. let ih = found_at n i k m r l p q e in ih ∙ sym (found_append (joined f n) (f n) k (sym (ap (λ (x : Scan). x.found) ih) ∙ e)))
      (eq-or-lt_of_le (le_of_suc-le-suc h))

  -- the answers of a level ns, c being the count that the code worked out
  pub level_found : (ns : List Name) (n c i k m : ℕ) (r : Scan) → ns ≡ joined f n → c ≡ n → i < c → Passed i k m → r ≡ scan (f i) m → r.found ≡ true → r ≡ scan ns k
  level_found ns n c i k m r s a h p q e = rw s (found_at n i k m r (omega arith) p q e)

  pub level_passed : (ns : List Name) (n c i k m : ℕ) (r : Scan) → ns ≡ joined f n → c ≡ n → c ≤ i → i ≤ c → Passed i k m → r ≡ scan [] m → r ≡ scan ns k
  unfolding Passed
  level_passed ns n c i k m r s a h l p e = let j : i ≡ n = omega arith in rw (s, ← j) (e ∙ sym p)

  -- a level with one more behind those that are counted
  pub level_before : (ns : List Name) (n c i k m : ℕ) (r : Scan) → ns ≡ joined f (n + 1) → c ≡ n → i < c → Passed i k m → r ≡ scan (f i) m → r.found ≡ true → r ≡ scan ns k
  level_before ns n c i k m r s a h p q e = rw s (found_at (n + 1) i k m r (omega arith) p q e)

  pub level_last : (ns : List Name) (n c i k m : ℕ) (r : Scan) → ns ≡ joined f (n + 1) → c ≡ n → c ≤ i → i ≤ c → Passed i k m → r ≡ scan (f c) m → r ≡ scan ns k
  unfolding joined
  level_last ns n c i k m r s a h l p e =
      let j : i ≡ c = le_antisymm l h in
      let x : i ≡ n = j ∙ a in
      rw (s, add-one, ← x) (e ∙ ap (λ (v : ℕ). scan (f v) m) (sym j) ∙ sym (behind i k m p))
