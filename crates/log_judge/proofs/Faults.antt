-- What a judgement says of the lines: a beginning of lawful ones is lawful, and the event named is the first at fault. Assumes nothing.
use Prim.Native.Nat.{ℕ, zero, suc, ◌+◌, ◌-◌, ◌≤◌, ◌<◌}
use mathlib.Core.Path.{◌≡◌, refl, sym, ap, ◌∙◌}
use mathlib.Core.Bool.{Bool, true, false}
use mathlib.Core.List.{List, [], ◌∷◌, ◌++◌}
use native.Mathlib.Omega.{arith}
use lib.Dec.{eqb}
use lib.ListN.{length, take}
use Rattle.base_words.specs.Pick.{if◌then◌or_else◌}
use Rattle.log_text.specs.Logs.{scan, lines_of}
use Rattle.log_judge.specs.declared.Judged.{Judged}
use Rattle.log_judge.specs.Judge.{Taking, judgment, lawful, judged_by, left_by_lines, judged_end, judged_from}

module _ (give : List ℕ → List ℕ → Taking) where
  -- a line that is accepted and true
  taken_on : (w : List ℕ) (rest : List (List ℕ)) (k : ℕ) (z : List ℕ) → eqb (give w z).number 0 ≡ true → (give w z).right ≡ true
      → judged_by give (w ∷ rest) k z ≡ judged_by give rest (k + 1) (give w z).state
  unfolding judged_by if◌then◌or_else◌
  taken_on w rest k z a b = rw (a, b)

  -- "a lawful log stays lawful when its last events are left out"
  pub lawful_before : (xs ys : List (List ℕ)) (k : ℕ) (z : List ℕ) → judged_by give (xs ++ ys) k z ≡ lawful → judged_by give xs k z ≡ lawful
  unfolding judged_by if◌then◌or_else◌
  lawful_before [] ys k z h = refl
  lawful_before (w ∷ xs) ys k z h = go (eqb (give w z).number 0) (give w z).right (lawful_before xs ys (k + 1) (give w z).state) h
    where
      go : (a b : Bool) → (judged_by give (xs ++ ys) (k + 1) (give w z).state ≡ lawful → judged_by give xs (k + 1) (give w z).state ≡ lawful)
          → (if a then if b then judged_by give (xs ++ ys) (k + 1) (give w z).state or_else judgment 24 k 0 or_else judgment 24 k (give w z).number) ≡ lawful
          → (if a then if b then judged_by give xs (k + 1) (give w z).state or_else judgment 24 k 0 or_else judgment 24 k (give w z).number) ≡ lawful
      go true true later e = later e
      go true false later e = e
      go false b later e = e

  -- the event that 24 names is the first at fault: it is one of them, and those before it are lawful by themselves
  abbrev First : List (List ℕ) → ℕ → List ℕ → ℕ → Type 0
  First xs k z j = (k ≤ j) × (j - k < length xs) × (judged_by give (take (j - k) xs) k z ≡ lawful)

  here : (w : List ℕ) (xs : List (List ℕ)) (k : ℕ) (z : List ℕ) (j : ℕ) → k ≡ j → First (w ∷ xs) k z j
  unfolding judged_by
  here w xs k z j e =
      let none : j - k ≡ 0 = omega (arith, e) in
      (omega (arith, e), omega (arith, none), ap (λ (n : ℕ). judged_by give (take n (w ∷ xs)) k z) none)

  later_on : (w : List ℕ) (xs : List (List ℕ)) (k : ℕ) (z : List ℕ) (j : ℕ) → eqb (give w z).number 0 ≡ true → (give w z).right ≡ true
      → First xs (k + 1) (give w z).state j → First (w ∷ xs) k z j
  later_on w xs k z j a b f =
      let one : j - k ≡ suc (j - (k + 1)) = omega (arith, f.0) in
      (omega (arith, f.0), omega (arith, one, f.1), ap (λ (n : ℕ). judged_by give (take n (w ∷ xs)) k z) one ∙ taken_on w (take (j - (k + 1)) xs) k z a b ∙ f.2)

  pub first_at_fault : (xs : List (List ℕ)) (k : ℕ) (z : List ℕ) (j own : ℕ) → judged_by give xs k z ≡ judgment 24 j own → First xs k z j
  unfolding judged_by if◌then◌or_else◌
  first_at_fault [] k z j own h = absurd (omega (arith, ap (λ (d : Judged). d.number) h))
  first_at_fault (w ∷ xs) k z j own h = go (eqb (give w z).number 0) (give w z).right refl refl (first_at_fault xs (k + 1) (give w z).state j own) h
    where
      go : (a b : Bool) → eqb (give w z).number 0 ≡ a → (give w z).right ≡ b
          → (judged_by give xs (k + 1) (give w z).state ≡ judgment 24 j own → First xs (k + 1) (give w z).state j)
          → (if a then if b then judged_by give xs (k + 1) (give w z).state or_else judgment 24 k 0 or_else judgment 24 k (give w z).number) ≡ judgment 24 j own
          → First (w ∷ xs) k z j
      go true true ea eb later e = later_on w xs k z j ea eb (later e)
      go true false ea eb later e = here w xs k z j (ap (λ (d : Judged). d.beside) e)
      go false b ea eb later e = here w xs k z j (ap (λ (d : Judged). d.beside) e)

-- TWO WAYS that come to the same on every state that fits, and leave such a one
module _ (give also : List ℕ → List ℕ → Taking) (Fits : List ℕ → Type 0) (same : (w z : List ℕ) → Fits z → give w z ≡ also w z) (keeps : (w z : List ℕ) → Fits z → Fits (also w z).state) where
  same_judged : (ws : List (List ℕ)) (k : ℕ) (z : List ℕ) → Fits z → judged_by give ws k z ≡ judged_by also ws k z
  unfolding judged_by
  same_judged [] k z f = refl
  same_judged (w ∷ ws) k z f =
      let later : judged_by give ws (k + 1) (also w z).state ≡ judged_by also ws (k + 1) (also w z).state = same_judged ws (k + 1) (also w z).state (keeps w z f) in
      rw (same w z f, later)

  pub same_log : (t z : List ℕ) → Fits z → judged_from give t z ≡ judged_from also t z
  unfolding judged_from
  same_log t z f = ap (judged_end (scan t).end) (same_judged (lines_of t) 0 z f)

  pub same_left : (ws : List (List ℕ)) (z : List ℕ) → Fits z → left_by_lines give ws z ≡ left_by_lines also ws z
  unfolding left_by_lines
  same_left [] z f = refl
  same_left (w ∷ ws) z f =
      let later : left_by_lines give ws (also w z).state ≡ left_by_lines also ws (also w z).state = same_left ws (also w z).state (keeps w z f) in
      rw (same w z f, later)
