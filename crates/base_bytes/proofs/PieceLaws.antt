-- A piece of a text, its ends kept within the text. Assumes nothing.
use mathlib.Core.Path.{◌≡◌, ◌∙◌, sym, ap}
use mathlib.Core.List.{List, []}
use Prim.Native.Nat.{ℕ, ◌-◌, ◌<◌, ◌≤◌, min}
use native.Mathlib.Nat.{min-eq_left, min-eq_right}
use native.Mathlib.Decide.{dec_le}
use native.Mathlib.Omega.{arith}
use lib.ListN.{length, take, drop, drop_of_length-le, length-drop}
use lib.Seq.{take_all}
use Rattle.base_words.specs.Words.{part}

pub by_order : {P : Type 0} (a b : ℕ) → (a ≤ b → P) → (b < a → P) → P
by_order {P} a b f g = go (dec_le a b)
  where
    go : Dec (a ≤ b) → P
    go (yes h) = f h
    go (no h) = g (omega arith)

none : (n : ℕ) (t : List ℕ) → n ≡ 0 → take n t ≡ []
none n t e = rw e

module _ (t : List ℕ) (from to : ℕ) where
  outside : length t < from → part t from to ≡ []
  outside h =
      ap (take (to - from)) (drop_of_length-le t (let z : length t ≤ from = omega arith in z))
      ∙ take_all (to - from) [] (omega arith)

  pub piece_least : (start end : ℕ) → end ≡ min to (length t) → start ≡ min from end → part t start end ≡ part t from to
  piece_least start end e s =
      by_order to (length t)
      (λ l.
      let q : end ≡ to = e ∙ min-eq_left l in
      by_order from to
      (λ k. rw (s ∙ ap (min from) q ∙ min-eq_left k, q))
      (λ k. none (end - start) _ (omega (arith, s ∙ ap (min from) q ∙ min-eq_right (let z : to ≤ from = omega arith in z))) ∙ sym (none (to - from) _ (omega arith))))
      (λ l.
      let q : end ≡ length t = e ∙ min-eq_right (let z : length t ≤ to = omega arith in z) in
      by_order from (length t)
      (λ k.
      rw (s ∙ ap (min from) q ∙ min-eq_left k, q)
      (take_all (length t - from) (drop from t) (omega (arith, length-drop from t))
      ∙ sym (take_all (to - from) (drop from t) (omega (arith, length-drop from t)))))
      (λ k. none (end - start) _ (omega (arith, s ∙ ap (min from) q ∙ min-eq_right (let z : length t ≤ from = omega arith in z))) ∙ sym (outside k)))
