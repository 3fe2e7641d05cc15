-- What a step sees, filled word by word, is the list of its instance's words and behind it the list of those that all share; what it stores back.
-- Assumes nothing.
use Prim.Native.Nat.{ℕ, ◌+◌, ◌-◌, ◌<◌}
use mathlib.Core.Path.{◌≡◌, refl, sym, ◌∙◌, ap}
use mathlib.Core.Bool.{Bool, true, false}
use mathlib.Core.List.{List, ◌++◌}
use native.Mathlib.Nat.{zero-add}
use native.Mathlib.Omega.{arith}
use lib.Dec.{eqb}
use lib.ListN.{length, set, replicate, length-replicate, get_or-replicate, length-append, get_or-append}
use lib.Seq.{ext_get_or, get_or-append-add}
use Rattle.base_words.specs.Each.{tab}
use Rattle.base_words.specs.Pick.{if◌then◌or_else◌}
use Rattle.base_words.specs.Words.{at}
use Rattle.base_words.specs.Writes.{writes}
use Rattle.base_words.proofs.ListLaws.{length-tab, get_d_tab}
use Rattle.base_words.proofs.WritesLaws.{length-writes, writes_in, writes_below}
use Rattle.base_kinds.specs.declared.moves.Move.{Move}
use Rattle.base_kinds.specs.Moves.{making}
use Rattle.base_state.specs.Places.{instance_words, instance_place, store_words, shared_words, shared_place, copy_words}
use Rattle.meaning.specs.Step.{instance_of, shared_of, before}
use Rattle.step_queues.proofs.SlotLaws.{by_below}
use Rattle.step_effects.specs.Effects.{stored_in}

-- words stored behind the words u: w is the list before, which begins with u and has room for them
module _ (u w : List ℕ) (g : ℕ → ℕ) (a b : ℕ) (own : length u ≡ a) (room : length w ≡ a + b) (begins : (k : ℕ) → k < a → at w k ≡ at u k) where
  long : length (u ++ tab g b) ≡ a + b
  long = length-append u (tab g b) ∙ omega (arith, own, length-tab g b)

  pub behind : writes g w a b ≡ u ++ tab g b
  behind =
      ext_get_or 0 (writes g w a b) (u ++ tab g b) (length-writes g w a b ∙ room ∙ sym long)
      (λ i h.
      by_below i a
      (λ l. writes_below g w a b i l ∙ begins i l ∙ sym (get_or-append u (tab g b) 0 i (omega (arith, own))))
      (λ l.
      let n : i - a < b = omega (arith, length-writes g w a b, room) in
      let e : a + (i - a) ≡ i = omega arith in
      let d : length u + (i - a) ≡ i = omega (arith, own) in
      rw e at (writes_in g w a b (i - a) n (omega (arith, room)))
      ∙ sym (get_d_tab g b (i - a) 0 n)
      ∙ sym (get_or-append-add u (tab g b) (i - a) 0)
      ∙ ap (at (u ++ tab g b)) d))

-- behind nothing but zeros, and behind the words f
module _ (f g : ℕ → ℕ) (a b : ℕ) where
  pub seen_blank : writes g (replicate (a + b) 0) a b ≡ replicate a 0 ++ tab g b
  seen_blank =
      behind (replicate a 0) (replicate (a + b) 0) g a b (length-replicate a 0) (length-replicate (a + b) 0)
      (λ k l. get_or-replicate (a + b) k 0 0 (omega arith) ∙ sym (get_or-replicate a k 0 0 l))

  pub seen_own : writes g (writes f (replicate (a + b) 0) 0 a) a b ≡ tab f a ++ tab g b
  seen_own =
      behind (tab f a) (writes f (replicate (a + b) 0) 0 a) g a b (length-tab f a) (length-writes f (replicate (a + b) 0) 0 a ∙ length-replicate (a + b) 0)
      (λ k l. ap (at (writes f (replicate (a + b) 0) 0 a)) (sym (zero-add k)) ∙ writes_in f (replicate (a + b) 0) 0 a k l (omega (arith, length-replicate {A = ℕ} (a + b) 0)) ∙ sym (get_d_tab f a k 0 l))

-- words stored from the first on
pub from_first : (h s : List ℕ) (a n : ℕ) → writes (λ k. at h (0 + k)) s a n ≡ writes (at h) s a n
from_first h s a n = ap (λ (f : ℕ → ℕ). writes f s a n) (λ i k. at h (zero-add k i))

-- A STEP'S WRITES, y after its instance, v after the stores, w after the count of made ones
pub committed : (s h y v w : List ℕ) (p i to q made : ℕ)
    → to ≡ instance_place p i
    → y ≡ writes (λ k. at h (0 + k)) s to instance_words
    → v ≡ writes (λ k. at h (instance_words + k)) y shared_place store_words
    → q ≡ p
    → w ≡ set v q made
    → w ≡ stored_in s p i h made
committed s h y v w p i to q made e₁ e₂ e₃ e₄ e₅ = e₅ ∙ rw (e₄, e₃, e₂, from_first h s to instance_words, e₁)

-- WHAT A MOVE SEES
module _ (s : List ℕ) (m : Move) (p i : ℕ) (r : List ℕ) where
  sees_made : eqb m.also making ≡ true → r ≡ writes (λ k. at s (shared_place + k)) (replicate copy_words 0) instance_words shared_words
      → r ≡ before m (instance_of s p i) (shared_of s)
  unfolding before shared_of if◌then◌or_else◌
  sees_made e h = h ∙ seen_blank (λ k. at s (shared_place + k)) (λ k. at s (shared_place + k)) instance_words shared_words ∙ rw e

  sees_own : eqb m.also making ≡ false → (own : List ℕ) → own ≡ writes (λ k. at s (instance_place p i + k)) (replicate copy_words 0) 0 instance_words
      → r ≡ writes (λ k. at s (shared_place + k)) own instance_words shared_words
      → r ≡ before m (instance_of s p i) (shared_of s)
  unfolding before shared_of instance_of if◌then◌or_else◌
  sees_own e own o h =
      h ∙ ap (λ (l : List ℕ). writes (λ k. at s (shared_place + k)) l instance_words shared_words) o
      ∙ seen_own (λ k. at s (instance_place p i + k)) (λ k. at s (shared_place + k)) instance_words shared_words
      ∙ rw e

  -- by the copy of its own words, or none
  module _ (own : List ℕ) (made : eqb m.also making ≡ true → own ≡ replicate copy_words 0)
      (kept : eqb m.also making ≡ false → own ≡ writes (λ k. at s (instance_place p i + k)) (replicate copy_words 0) 0 instance_words)
      (h : r ≡ writes (λ k. at s (shared_place + k)) own instance_words shared_words) where
    sees_by : (b : Bool) → eqb m.also making ≡ b → r ≡ before m (instance_of s p i) (shared_of s)
    sees_by true e = sees_made e (rw (made e) at h)
    sees_by false e = sees_own e own (kept e) h

    pub sees : r ≡ before m (instance_of s p i) (shared_of s)
    sees = sees_by (eqb m.also making) refl
