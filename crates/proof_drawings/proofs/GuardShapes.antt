-- A condition stored in an element in the making: `true`, `default`, or the one that is said. Assumes nothing.
use Prim.Native.Nat.{ℕ, zero, suc, ◌+◌, ◌≤◌, ◌<◌}
use mathlib.Core.Path.{◌≡◌, ◌∙◌, refl, ap}
use mathlib.Core.Bool.{true}
use mathlib.Core.List.{List, [], ◌∷◌}
use native.Mathlib.Omega.{arith}
use lib.ListN.{length, drop, set, length-set}
use lib.Seq.{get_or-drop, get_or-set_same, get_or-set_other}
use Rattle.base_words.specs.Counts.{branches}
use Rattle.base_words.specs.Words.{at}
use Rattle.base_kinds.specs.Kinds.{kind_of}
use Rattle.base_table.specs.Places.{condition_place, element_words}
use Rattle.check_limits.specs.Limits.{condition_fits}
use Rattle.check_limits.proofs.SameLaws.{condition_same}
use Rattle.draw_conditions.specs.declared.Condition.{Condition}
use Rattle.draw_model.specs.Drawn.{with_form, with_term, with_condition}
use Rattle.proof_drawings.proofs.SaidLaws.{words_of}
use Rattle.proof_drawings.proofs.Shapes.{Elsewhere, put_else, else_then, else_wide, Shape, shape_guard}

-- the five words of a condition
words_fit : (c p : ℕ) (z : List ℕ) (v₀ v₁ v₂ v₃ v₄ : ℕ) → at z p ≡ v₀ → at z (p + 1) ≡ v₁ → at z (p + 2) ≡ v₂ → at z (p + 3) ≡ v₃ → at z (p + 4) ≡ v₄
    → condition_fits c (drop p z) ≡ condition_fits c (v₀ ∷ v₁ ∷ v₂ ∷ v₃ ∷ v₄ ∷ [])
words_fit c p z v₀ v₁ v₂ v₃ v₄ e₀ e₁ e₂ e₃ e₄ = condition_same (v₀ ∷ v₁ ∷ v₂ ∷ v₃ ∷ v₄ ∷ []) (drop p z) c (λ i l. get_or-drop p z i 0 ∙ go i l)
  where
    go : (i : ℕ) → i < 5 → at z (p + i) ≡ at (v₀ ∷ v₁ ∷ v₂ ∷ v₃ ∷ v₄ ∷ []) i
    go zero l = ap (at z) (let q : p + 0 ≡ p = omega arith in q) ∙ e₀
    go (suc zero) l = e₁
    go (suc (suc zero)) l = e₂
    go (suc (suc (suc zero))) l = e₃
    go (suc (suc (suc (suc zero)))) l = e₄
    go (suc (suc (suc (suc (suc i))))) l = absurd (omega (arith, l))

module _ (c t m i o g q : ℕ) (x : List ℕ) (s : Shape c t m i o g q x) (room : g < branches) where
  abbrev p : ℕ
  p = condition_place g

  long : p + 5 ≤ length x
  long = omega (arith, room, s.long)

  -- a form alone
  pub shape_form : (form : ℕ) → condition_fits (kind_of c).conditions (form ∷ 0 ∷ 0 ∷ 0 ∷ 0 ∷ []) ≡ true → Shape c t m i o (g + 1) q (with_form g form x)
  unfolding with_form
  shape_form form h =
      let z : List ℕ = set x (p + 0) form in
      shape_guard c t m i o g q x s z room (else_wide x z (p + 0) 1 p 5 (omega arith) (omega arith) (put_else x (p + 0) form))
      (words_fit (kind_of c).conditions p z form 0 0 0 0 (ap (at z) (let e : p ≡ p + 0 = omega arith in e) ∙ get_or-set_same x (p + 0) form 0 (omega (arith, long))) (rest 1 (omega arith) (omega arith)) (rest 2 (omega arith) (omega arith)) (rest 3 (omega arith) (omega arith)) (rest 4 (omega arith) (omega arith))
      ∙ h)
    where
      rest : (k : ℕ) → 0 < k → k < 5 → at (set x (p + 0) form) (p + k) ≡ 0
      rest k l u = get_or-set_other x (p + 0) (p + k) form 0 (λ e. omega (arith, e, l)) ∙ s.guards.none (p + k) (omega arith) (omega (arith, u, room))

  -- a condition
  pub shape_condition : (d : Condition) → condition_fits (kind_of c).conditions (words_of d) ≡ true → Shape c t m i o (g + 1) q (with_condition d g x)
  unfolding with_condition with_term with_form
  shape_condition d h =
      shape_guard c t m i o g q x s x₅ room
      (else_then x x₄ x₅ p 5 (else_then x x₃ x₄ p 5 (else_then x x₂ x₃ p 5 (else_then x x₁ x₂ p 5 (within x (p + 0) _ (omega arith) (omega arith)) (within x₁ (p + 1) _ (omega arith) (omega arith))) (within x₂ (p + 1 + 1) _ (omega arith) (omega arith))) (within x₃ (p + 3) _ (omega arith) (omega arith))) (within x₄ (p + 3 + 1) _ (omega arith) (omega arith)))
      (words_fit (kind_of c).conditions p x₅ d.form d.left.flag d.left.number d.right.flag d.right.number
      (ap (at x₅) (let e : p ≡ p + 0 = omega arith in e)
      ∙ other x₄ (p + 3 + 1) (p + 0) _ (λ e. omega (arith, e))
      ∙ other x₃ (p + 3) (p + 0) _ (λ e. omega (arith, e))
      ∙ other x₂ (p + 1 + 1) (p + 0) _ (λ e. omega (arith, e))
      ∙ other x₁ (p + 1) (p + 0) _ (λ e. omega (arith, e))
      ∙ get_or-set_same x (p + 0) d.form 0 (omega (arith, long)))
      (other x₄ (p + 3 + 1) (p + 1) _ (λ e. omega (arith, e))
      ∙ other x₃ (p + 3) (p + 1) _ (λ e. omega (arith, e))
      ∙ other x₂ (p + 1 + 1) (p + 1) _ (λ e. omega (arith, e))
      ∙ get_or-set_same x₁ (p + 1) d.left.flag 0 (omega (arith, long, long₁)))
      (ap (at x₅) (let e : p + 2 ≡ p + 1 + 1 = omega arith in e)
      ∙ other x₄ (p + 3 + 1) (p + 1 + 1) _ (λ e. omega (arith, e))
      ∙ other x₃ (p + 3) (p + 1 + 1) _ (λ e. omega (arith, e))
      ∙ get_or-set_same x₂ (p + 1 + 1) d.left.number 0 (omega (arith, long, long₂)))
      (other x₄ (p + 3 + 1) (p + 3) _ (λ e. omega (arith, e)) ∙ get_or-set_same x₃ (p + 3) d.right.flag 0 (omega (arith, long, long₃)))
      (ap (at x₅) (let e : p + 4 ≡ p + 3 + 1 = omega arith in e) ∙ get_or-set_same x₄ (p + 3 + 1) d.right.number 0 (omega (arith, long, long₄)))
      ∙ h)
    where
      x₁ : List ℕ
      x₁ = set x (p + 0) d.form

      x₂ : List ℕ
      x₂ = set x₁ (p + 1) d.left.flag

      x₃ : List ℕ
      x₃ = set x₂ (p + 1 + 1) d.left.number

      x₄ : List ℕ
      x₄ = set x₃ (p + 3) d.right.flag

      x₅ : List ℕ
      x₅ = set x₄ (p + 3 + 1) d.right.number

      long₁ : length x₁ ≡ length x
      long₁ = length-set x (p + 0) d.form

      long₂ : length x₂ ≡ length x
      long₂ = length-set x₁ (p + 1) d.left.flag ∙ long₁

      long₃ : length x₃ ≡ length x
      long₃ = length-set x₂ (p + 1 + 1) d.left.number ∙ long₂

      long₄ : length x₄ ≡ length x
      long₄ = length-set x₃ (p + 3) d.right.flag ∙ long₃

      other : (y : List ℕ) (a b v : ℕ) → (b ≡ a → ⊥) → at (set y a v) b ≡ at y b
      other y a b v n = get_or-set_other y a b v 0 n

      within : (y : List ℕ) (a v : ℕ) → p ≤ a → a + 1 ≤ p + 5 → Elsewhere y (set y a v) p 5
      within y a v l u = else_wide y (set y a v) a 1 p 5 l u (put_else y a v)
