-- The bytes of a class passed: what a loop over them needs, and where it ends. Assumes nothing.
use mathlib.Core.Path.{◌≡◌, ◌∙◌, refl, sym}
use mathlib.Core.Bool.{Bool, true, false}
use mathlib.Core.List.{List, [], ◌∷◌, ◌++◌}
use Prim.Native.Nat.{ℕ, suc, ◌+◌, ◌<◌, ◌≤◌}
use native.Mathlib.Nat.{add-zero}
use native.Mathlib.Numerals.{add-one}
use native.Mathlib.Omega.{arith}
use lib.ListN.{length, drop, drop_of_length-le}
use lib.Seq.{drop-cons}
use Rattle.base_words.specs.Each.{each}
use Rattle.base_words.specs.Pick.{if◌then◌or_else◌}
use Rattle.base_words.specs.Words.{at}
use Rattle.base_words.proofs.AllLaws.{and_left, and_right}
use Rattle.base_bytes.specs.Bytes.{past}

module _ (class : ℕ → Bool) where
  pub past_more : (t : List ℕ) (i : ℕ) → i < length t → class (at t i) ≡ true → past class (drop i t) i ≡ past class (drop (i + 1) t) (i + 1)
  unfolding past if◌then◌or_else◌
  past_more t i h e = rw (drop-cons t i 0 h, e, add-one i)

  pub past_stop : (t : List ℕ) (i : ℕ) → i < length t → class (at t i) ≡ false → past class (drop i t) i ≡ i
  unfolding past if◌then◌or_else◌
  past_stop t i h e = rw (drop-cons t i 0 h, e)

  pub past_end : (t : List ℕ) (i : ℕ) → length t ≤ i → past class (drop i t) i ≡ i
  unfolding past
  past_end t i h = rw (drop_of_length-le t h)

  -- the same for a loop that has come to the place i, the whole being w
  pub past_on : (t : List ℕ) (i w : ℕ) → past class (drop i t) i ≡ w → i < length t → class (at t i) ≡ true → past class (drop (i + 1) t) (i + 1) ≡ w
  past_on t i w k h e = sym (past_more t i h e) ∙ k

  pub past_here : (t : List ℕ) (i w : ℕ) → past class (drop i t) i ≡ w → i < length t → class (at t i) ≡ false → i ≡ w
  past_here t i w k h e = sym (past_stop t i h e) ∙ k

  pub past_all : (t : List ℕ) (i w : ℕ) → past class (drop i t) i ≡ w → length t ≤ i → i ≡ w
  past_all t i w k h = sym (past_end t i h) ∙ k

  -- it never goes back, and stays within the text
  pub past_from : (s : List ℕ) (p : ℕ) → p ≤ past class s p
  unfolding past if◌then◌or_else◌
  past_from [] p = omega arith
  past_from (b ∷ s) p = go (class b) (past_from s (p + 1))
    where
      go : (t : Bool) → p + 1 ≤ past class s (p + 1) → p ≤ (if t then past class s (p + 1) or_else p)
      go true h = omega arith
      go false h = omega arith

  pub past_within : (s : List ℕ) (p : ℕ) → past class s p ≤ p + length s
  unfolding past if◌then◌or_else◌
  past_within [] p = omega arith
  past_within (b ∷ s) p = go (class b) (past_within s (p + 1))
    where
      go : (t : Bool) → past class s (p + 1) ≤ p + 1 + length s → (if t then past class s (p + 1) or_else p) ≤ p + suc (length s)
      go true h = omega arith
      go false h = omega arith

  -- a run of bytes of the class, then one that is not, or the end
  stops : (s : List ℕ) (p : ℕ) → class (at s 0) ≡ false → past class s p ≡ p
  unfolding past if◌then◌or_else◌
  stops [] p h = refl
  stops (b ∷ s) p h = rw h

  pub past_run : (w s : List ℕ) (p : ℕ) → each class w ≡ true → class (at s 0) ≡ false → past class (w ++ s) p ≡ p + length w
  unfolding past each if◌then◌or_else◌
  past_run [] s p a h = stops s p h ∙ sym (add-zero p)
  past_run (b ∷ w) s p a h =
      rw (and_left (class b) (each class w) a)
      (past_run w s (p + 1) (and_right (class b) (each class w) a) h
      ∙ (let e : p + 1 + length w ≡ p + suc (length w) = omega arith in e))

  pub past_whole : (w : List ℕ) (p : ℕ) → each class w ≡ true → past class w p ≡ p + length w
  unfolding past each if◌then◌or_else◌
  past_whole [] p a = sym (add-zero p)
  past_whole (b ∷ w) p a =
      rw (and_left (class b) (each class w) a)
      (past_whole w (p + 1) (and_right (class b) (each class w) a)
      ∙ (let e : p + 1 + length w ≡ p + suc (length w) = omega arith in e))

pub ruleset past_loop = (past_on, past_here, past_all)
