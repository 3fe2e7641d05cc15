-- What is counted in a beginning of a history, and where the k-th entry of a kind stands. Assumes nothing.
use Prim.Native.Nat.{ℕ, zero, suc, ◌+◌, ◌-◌, ◌≤◌, ◌<◌}
use mathlib.Core.Path.{◌≡◌, refl, ◌∙◌, ap}
use mathlib.Core.Bool.{Bool, true, false}
use mathlib.Core.List.{List, [], ◌∷◌, ◌++◌}
use native.Mathlib.Numerals.{add-one}
use native.Mathlib.Omega.{arith}
use lib.ListN.{take}
use Rattle.base_words.specs.Each.{total}
use Rattle.base_words.specs.Pick.{if◌then◌or_else◌}
use Rattle.base_words.specs.Sum.{one_if}
use Rattle.base_words.proofs.EachLaws.{total_append}
use Rattle.step_history.specs.History.{Entry, how_many}
use Rattle.step_history.specs.Matching.{holds_at, place_among}

module _ (f : Entry → Bool) where
  pub counted_none : how_many f [] ≡ 0
  unfolding how_many total
  counted_none = refl

  pub counted_next : (e : Entry) (h : List Entry) → how_many f (e ∷ h) ≡ one_if (f e) + how_many f h
  unfolding how_many total
  counted_next e h = refl

  pub counted_append : (h k : List Entry) → how_many f (h ++ k) ≡ how_many f h + how_many f k
  unfolding how_many
  counted_append h k = total_append (λ e. one_if (f e)) h k

  -- ONE ENTRY MORE of a beginning
  pub counted_more : (i : ℕ) (h : List Entry) → how_many f (take (suc i) h) ≡ how_many f (take i h) + one_if (holds_at f i h)
  unfolding holds_at
  counted_more zero [] = omega arith
  counted_more zero (e ∷ h) = omega (arith, counted_next e [], counted_none)
  counted_more (suc i) [] = omega arith
  counted_more (suc i) (e ∷ h) = omega (arith, counted_next e (take (suc i) h), counted_next e (take i h), counted_more i h)

  pub counted_le : (i d : ℕ) (h : List Entry) → how_many f (take i h) ≤ how_many f (take (i + d) h)
  counted_le i zero h = let e : i + 0 ≡ i = omega arith in rw e (omega arith)
  counted_le i (suc d) h = let e : i + suc d ≡ suc (i + d) = omega arith in rw e (omega (arith, counted_le i d h, counted_more (i + d) h))

  -- a place where f holds is passed once
  pub counted_past : (i j : ℕ) (h : List Entry) → i < j → holds_at f i h ≡ true → how_many f (take i h) < how_many f (take j h)
  counted_past i j h l e = past (j - suc i) (omega arith)
    where
      one : how_many f (take (suc i) h) ≡ how_many f (take i h) + 1
      one = counted_more i h ∙ ap (λ (b : Bool). how_many f (take i h) + one_if b) e

      past : (d : ℕ) → j ≡ suc i + d → how_many f (take i h) < how_many f (take j h)
      past d q = rw q (omega (arith, one, counted_le (suc i) d h))

  -- THE K-TH of which f holds, where there are more than k in the first i: it is among them, and k are before it
  pub record Place (k i p : ℕ) (h : List Entry) : Type 0 where
    pub low : p < i
    pub holds : holds_at f p h ≡ true
    pub before : how_many f (take p h) ≡ k

  none_first : (h : List Entry) → how_many f (take 0 h) ≡ 0
  none_first h = counted_none

  -- one place further on, behind e
  place_next : (e : Entry) (h : List Entry) (k i p c : ℕ) → one_if (f e) + k ≡ c → Place k i p h → Place c (suc i) (p + 1) (e ∷ h)
  unfolding holds_at
  place_next e h k i p c d s =
      rw add-one
      (record {
        low = omega (arith, s.low);
        holds = s.holds;
        before = counted_next e (take p h) ∙ ap (λ (x : ℕ). one_if (f e) + x) s.before ∙ d;
      })

  pub place_at : (h : List Entry) (k i : ℕ) → k < how_many f (take i h) → Place k i (place_among f k h) h
  unfolding place_among holds_at if◌then◌or_else◌
  place_at h k zero l = absurd (omega (arith, l, counted_none))
  place_at [] k (suc i) l = absurd (omega (arith, l, counted_none))
  place_at (e ∷ h) zero (suc i) l = go (f e) refl (place_at h zero i)
    where
      go : (b : Bool) → f e ≡ b → (0 < how_many f (take i h) → Place 0 i (place_among f zero h) h) → Place 0 (suc i) (if b then 0 or_else place_among f zero h + 1) (e ∷ h)
      go true q later = record { low = omega arith; holds = q; before = counted_none }
      go false q later =
          let none : one_if (f e) ≡ 0 = ap one_if q in
          place_next e h 0 i (place_among f zero h) 0 (omega (arith, none)) (later (omega (arith, l, none, counted_next e (take i h))))
  place_at (e ∷ h) (suc k) (suc i) l = go (f e) refl (place_at h k i) (place_at h (suc k) i)
    where
      go : (b : Bool) → f e ≡ b → (k < how_many f (take i h) → Place k i (place_among f k h) h) → (suc k < how_many f (take i h) → Place (suc k) i (place_among f (suc k) h) h)
          → Place (suc k) (suc i) (if b then place_among f k h + 1 or_else place_among f (suc k) h + 1) (e ∷ h)
      go true q later other =
          let one : one_if (f e) ≡ 1 = ap one_if q in
          place_next e h k i (place_among f k h) (suc k) (omega (arith, one)) (later (omega (arith, l, one, counted_next e (take i h))))
      go false q later other =
          let none : one_if (f e) ≡ 0 = ap one_if q in
          place_next e h (suc k) i (place_among f (suc k) h) (suc k) (omega (arith, none)) (other (omega (arith, l, none, counted_next e (take i h))))
