-- Blocks one behind the other, of one width each, with 0 behind them: each word. Assumes nothing.
use Prim.Native.Nat.{ℕ, zero, suc, ◌+◌, ◌-◌, ◌*◌, ◌≤◌, ◌<◌}
use mathlib.Core.Path.{◌≡◌, ◌∙◌, sym, ap, subst}
use mathlib.Core.List.{List, [], ◌∷◌, ◌++◌, map}
use native.Mathlib.Decide.{dec_lt}
use native.Mathlib.Nat.{mul-suc, mul-zero}
use native.Mathlib.Omega.{arith}
use lib.ListN.{length, get_or, replicate, length-append, length-replicate, get_or-append, get_or-eq_default}
use lib.Seq.{get_or-append-add}
use Rattle.base_words.specs.Words.{at, greatest}
use Rattle.text_read.specs.Notation.{flat, filled}
use Rattle.proof_roundtrip.proofs.BlankLaws.{zero_word}
use Rattle.proof_roundtrip.proofs.EndModels.{Every}

-- each thing of a list
pub every_at : {A : Type 0} (P : A → Type 0) (xs : List A) (d : A) (j : ℕ) → Every P xs → j < length xs → P (get_or xs j d)
every_at P [] d j e l = absurd (omega (arith, l))
every_at P (x ∷ xs) d zero e l = e.0
every_at P (x ∷ xs) d (suc j) e l = every_at P xs d j e.1 (omega (arith, l))

pub every_map : {A B : Type 0} (P : A → Type 0) (Q : B → Type 0) (f : A → B) (xs : List A) → ((x : A) → P x → Q (f x)) → Every P xs → Every Q (map f xs)
every_map P Q f [] h e = e
every_map P Q f (x ∷ xs) h e = (h x e.0, every_map P Q f xs h e.1)

pub every_as : {A : Type 0} (P Q : A → Type 0) (xs : List A) → ((x : A) → P x → Q x) → Every P xs → Every Q xs
every_as P Q [] h e = e
every_as P Q (x ∷ xs) h e = (h x e.0, every_as P Q xs h e.1)

-- words behind words
pub at_left : (x y : List ℕ) (i : ℕ) → i < length x → at (x ++ y) i ≡ at x i
at_left x y i l = get_or-append x y 0 i l

pub at_right : (x y : List ℕ) (i : ℕ) → length x ≤ i → at (x ++ y) i ≡ at y (i - length x)
at_right x y i l = ap (at (x ++ y)) (let e : i ≡ length x + (i - length x) = omega (arith, l) in e) ∙ get_or-append-add x y (i - length x) 0

pub at-filled : (n : ℕ) (x : List ℕ) (i : ℕ) → at (filled n x) i ≡ at x i
unfolding filled
at-filled n x i = go (dec_lt i (length x))
  where
    go : Dec (i < length x) → at (x ++ replicate (n - length x) 0) i ≡ at x i
    go (yes l) = at_left x (replicate (n - length x) 0) i l
    go (no l) =
        at_right x (replicate (n - length x) 0) i (omega (arith, l)) ∙ zero_word (n - length x) (i - length x)
        ∙ sym (get_or-eq_default x 0 (let z : length x ≤ i = omega (arith, l) in z))

pub length-filled : (n : ℕ) (x : List ℕ) → length x ≤ n → length (filled n x) ≡ n
unfolding filled
length-filled n x l = length-append x (replicate (n - length x) 0) ∙ (let e : length x + length {A = ℕ} (replicate (n - length x) 0) ≡ n = omega (arith, l, length-replicate {A = ℕ} (n - length x) 0) in e)

-- blocks of w words
module _ (w : ℕ) where
  abbrev pub Wide : List ℕ → Type 0
  Wide x = length x ≡ w

  pub length-flat : (xs : List (List ℕ)) → Every Wide xs → length (flat xs) ≡ w * length xs
  unfolding flat
  length-flat [] e = sym (mul-zero w)
  length-flat (x ∷ xs) e =
      length-append x (flat xs) ∙ (let z : length x + length (flat xs) ≡ w * length xs + w = omega (arith, e.0, length-flat xs e.1) in z) ∙ sym (mul-suc w (length xs))

  pub at-flat : (xs : List (List ℕ)) (j i : ℕ) → Every Wide xs → j < length xs → i < w → at (flat xs) (w * j + i) ≡ at (get_or xs j []) i
  unfolding flat
  at-flat [] j i e l u = absurd (omega (arith, l))
  at-flat (x ∷ xs) zero i e l u =
      ap (at (x ++ flat xs)) (ap (λ (k : ℕ). k + i) (mul-zero w) ∙ (let z : 0 + i ≡ i = omega arith in z)) ∙ at_left x (flat xs) i (omega (arith, u, e.0))
  at-flat (x ∷ xs) (suc j) i e l u =
      ap (at (x ++ flat xs)) (ap (λ (k : ℕ). k + i) (mul-suc w j) ∙ (let z : w * j + w + i ≡ length x + (w * j + i) = omega (arith, e.0) in z))
      ∙ get_or-append-add x (flat xs) (w * j + i) 0
      ∙ at-flat xs j i e.1 (omega (arith, l)) u

  pub flat_beyond : (xs : List (List ℕ)) (i : ℕ) → Every Wide xs → w * length xs ≤ i → at (flat xs) i ≡ 0
  flat_beyond xs i e l = get_or-eq_default (flat xs) 0 (let z : length (flat xs) ≤ i = omega (arith, l, length-flat xs e) in z)

-- every word is a word
abbrev pub Small : List ℕ → Type 0
Small x = (i : ℕ) → at x i ≤ greatest

pub small_flat : (xs : List (List ℕ)) → Every Small xs → Small (flat xs)
unfolding flat
small_flat [] e i = omega arith
small_flat (x ∷ xs) e i = go (dec_lt i (length x)) (small_flat xs e.1 (i - length x))
  where
    go : Dec (i < length x) → at (flat xs) (i - length x) ≤ greatest → at (x ++ flat xs) i ≤ greatest
    go (yes l) h = subst (λ (k : ℕ). k ≤ greatest) (sym (at_left x (flat xs) i l)) (e.0 i)
    go (no l) h = subst (λ (k : ℕ). k ≤ greatest) (sym (at_right x (flat xs) i (omega (arith, l)))) h
