-- What a pass keeps of things that stand one behind the other. Assumes nothing.
use mathlib.Core.Path.{◌≡◌, refl, sym, ◌∙◌, ap}
use mathlib.Core.Bool.{Bool, true, false}
use mathlib.Core.List.{List, [], ◌∷◌, ◌++◌}
use Prim.Native.Nat.{ℕ, ◌+◌, ◌≤◌}
use lib.ListN.{length, replicate, length-append}
use native.Mathlib.Omega.{arith}
use Rattle.base_words.specs.Each.{joined}
use Rattle.base_words.specs.Pick.{if◌then◌or_else◌}
use Rattle.base_words.proofs.JoinLaws.{joined_none, joined_more}
use Rattle.base_words.proofs.PickLaws.{pick_yes, pick_no}
use Rattle.check_model.specs.Checks.{Pool}
use Rattle.text_ends.specs.Room.{noted_words}
use Rattle.text_passes.specs.Passes.{stored_as, stored, summed_up, kept_element, kept_all, summed, elements_placed, headed_as, headed, pool_judged, kept_head, kept_pool}

module _ {A : Type 0} (keep : ℕ → A → List ℕ → List ℕ) where
  -- those behind others
  append : (xs ys : List A) (i : ℕ) (v : List ℕ) → kept_all keep i (xs ++ ys) v ≡ kept_all keep (i + length xs) ys (kept_all keep i xs v)
  unfolding kept_all
  append [] ys i v = ap (λ z. kept_all keep z ys v) (omega arith)
  append (x ∷ xs) ys i v = append xs ys (i + 1) (keep i x v) ∙ ap (λ z. kept_all keep z ys (kept_all keep (i + 1) xs (keep i x v))) (omega arith)

  pub kept_none : (b : Bool) (x : List A) (i : ℕ) (v : List ℕ) → b ≡ false → v ≡ kept_all keep i (if b then x or_else []) v
  unfolding kept_all if◌then◌or_else◌
  kept_none b x i v h = rw h

  pub kept_one : (b : Bool) (x : A) (i : ℕ) (v u : List ℕ) → b ≡ true → u ≡ keep i x v → u ≡ kept_all keep i (if b then x ∷ [] or_else []) v
  unfolding kept_all if◌then◌or_else◌
  kept_one b x i v u h e = rw h e

  module _ (f : ℕ → List A) (w : List ℕ) where
    pub kept_start : w ≡ kept_all keep 0 (joined f 0) w
    unfolding kept_all joined
    kept_start = refl

    pub kept_more : (k i : ℕ) (v u : List ℕ) → i ≡ length (joined f k) → v ≡ kept_all keep 0 (joined f k) w → u ≡ kept_all keep i (f k) v → u ≡ kept_all keep 0 (joined f (k + 1)) w
    kept_more k i v u l e g =
        let q : i ≡ 0 + length (joined f k) = omega arith in
        g ∙ ap (λ z. kept_all keep z (f k) v) q ∙ ap (kept_all keep (0 + length (joined f k)) (f k)) e ∙ sym (append (joined f k) (f k) 0 w) ∙ ap (λ z. kept_all keep 0 z w) (sym (joined_more f k))

    pub kept_done : (n k : ℕ) (v : List ℕ) → n ≤ k → k ≤ n → v ≡ kept_all keep 0 (joined f k) w → v ≡ kept_all keep 0 (joined f n) w
    kept_done n k v h g e = let q : k ≡ n = omega arith in e ∙ ap (λ z. kept_all keep 0 (joined f z) w) q

module _ {A : Type 0} where
  pub none_counted : (b : Bool) (x : List A) (i : ℕ) → b ≡ false → i ≡ i + length (if b then x or_else [])
  unfolding if◌then◌or_else◌
  none_counted b x i h = rw h (omega arith)

  pub one_counted : (b : Bool) (x : A) (i : ℕ) → b ≡ true → i + 1 ≡ i + length (if b then x ∷ [] or_else [])
  unfolding if◌then◌or_else◌
  one_counted b x i h = rw h refl

  pub counted_start : (f : ℕ → List A) → 0 ≡ length (joined f 0)
  unfolding joined
  counted_start f = refl

  pub counted_more : (f : ℕ → List A) (k i r : ℕ) → i ≡ length (joined f k) → r ≡ i + length (f k) → r ≡ length (joined f (k + 1))
  counted_more f k i r l e = e ∙ ap (λ z. z + length (f k)) l ∙ sym (length-append (joined f k) (f k)) ∙ ap length (sym (joined_more f k))

-- one or none is at most one more
pub one_at_most : {A : Type 0} (b : Bool) (x : A) (i k r : ℕ) → i ≤ k → r ≡ i + length (if b then x ∷ [] or_else []) → r ≤ k + 1
unfolding if◌then◌or_else◌
one_at_most true x i k r h e = let q : r ≡ i + 1 = e in omega arith
one_at_most false x i k r h e = let q : r ≡ i + 0 = e in omega arith

-- what is kept with its count
pub element_kept : (fills : Bool) (i n : ℕ) (x w u : List ℕ) → u ≡ (if fills then stored_as i n (n + 1) x w or_else summed_up (n + 1) x w) → u ≡ kept_element fills i n x w
unfolding kept_element stored
element_kept fills i n x w u e = e

module _ (fills : Bool) (i : ℕ) (els : List (List ℕ)) (s v : List ℕ) where
  pub put_in_table : (u : List ℕ) → fills ≡ true → u ≡ kept_all (kept_element fills i) 0 els v → (s ≡ summed fills i els s) × (u ≡ elements_placed fills i els v)
  unfolding summed elements_placed
  put_in_table u h e = (pick_yes _ _ _ _ h refl, pick_yes _ _ _ _ h e)

  pub put_in_summary : (u : List ℕ) → fills ≡ false → u ≡ kept_all (kept_element fills i) 0 els s → (u ≡ summed fills i els s) × (v ≡ elements_placed fills i els v)
  unfolding summed elements_placed
  put_in_summary u h e = (pick_no _ _ _ _ h e, pick_no _ _ _ _ h refl)

-- a pool: its elements, then its head
module _ (fills : Bool) (i : ℕ) (p : Pool) (v s y : List ℕ) where
  pub pool_kept : (number limit : ℕ) (els : List (List ℕ)) (u : List ℕ) → number ≡ p.number → limit ≡ p.limit → els ≡ p.elements → s ≡ summed fills i els (replicate noted_words 0) → y ≡ elements_placed fills i els v → u ≡ (if fills then headed_as i (i + 1) number limit y or_else pool_judged number limit s y) → u ≡ kept_pool fills i p v
  unfolding kept_pool kept_head headed
  pool_kept number limit els u a b c d e f = rw (a, b, d, e, c) at f
