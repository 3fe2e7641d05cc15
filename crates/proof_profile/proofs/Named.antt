-- `nested` GIVES 0 EXACTLY WHERE EVERY POOL HAS A NESTING, and 29 exactly with the number of the first that has none. Assumes nothing.
use Prim.Native.Nat.{ℕ, ◌≤◌, ◌<◌}
use mathlib.Core.Path.{◌≡◌, refl, sym, ◌∙◌}
use mathlib.Core.Bool.{Bool, true, false, not, false≢true}
use mathlib.Core.List.{List}
use native.Mathlib.Omega.{arith}
use lib.Dec.{ltb}
use borrow.Author.Tests.{ltb-true, ltb-false, not-true, not-false}
use Rattle.base_words.specs.Words.{at}
use Rattle.base_words.proofs.SeekLaws.{sought}
use Rattle.base_table.specs.Places.{pool_place}
use Rattle.base_table.specs.Table.{pool_count, element_count, element_at}
use Rattle.check_nesting.specs.Nesting.{Nested}
use Rattle.check_nesting.specs.Deciding.{is_nested, unnested}
use Rattle.proof_steps.proofs.Choices.{by_test}
use Rattle.engine.specs.declared.Verdict.{Verdict}
use Rattle.engine.specs.Engine.{valid}
use Rattle.engine.specs.Profile.{nested_of}
use Rattle.engine.proofs.ProfileLaws.{by_nested, nested_all, nested_but}
use Rattle.proof_nesting.proofs.Decided.{decided_nested, nested_decided}
use Rattle.proof_profile.proofs.Sounds.{entered}

module _ (t : List ℕ) where
  abbrev Nests : ℕ → Type 0
  Nests p = Nested (element_at t p) (element_count t p)

  abbrev fails : ℕ → Bool
  fails p = not (is_nested (element_at t p) (element_count t p))

  -- A POOL
  module _ (v : valid t ≡ true) (p : ℕ) (there : p < pool_count t) where
    has_nesting : fails p ≡ false → Nests p
    has_nesting e = decided_nested (element_at t p) (element_count t p) (entered t v p there) (not-false _ e)

    no_nesting : fails p ≡ true → Nests p → ⊥
    no_nesting e n = false≢true (sym (not-true _ e) ∙ nested_decided (element_at t p) (element_count t p) (entered t v p there) n)

  -- the first that has none
  first_least : unnested t ≤ pool_count t
  unfolding unnested
  first_least = (sought fails (pool_count t)).0

  first_fails : unnested t < pool_count t → fails (unnested t) ≡ true
  unfolding unnested
  first_fails = (sought fails (pool_count t)).1

  before_first : (p : ℕ) → p < unnested t → fails p ≡ false
  unfolding unnested
  before_first = (sought fails (pool_count t)).2

  -- 0
  pub zero_nested : (nested_of t).number ≡ 0 → (valid t ≡ true) × ((p : ℕ) → p < pool_count t → Nests p)
  zero_nested =
      by_nested (λ (o : Verdict). o.number ≡ 0 → (valid t ≡ true) × ((p : ℕ) → p < pool_count t → Nests p)) t
      (λ v l e. absurd (omega (arith, e))) (λ v l e. (v, λ p there. has_nesting v p there (before_first p (omega (arith, l, there))))) (λ v e. absurd (omega (arith, e)))

  pub nested_zero : valid t ≡ true → ((p : ℕ) → p < pool_count t → Nests p) → nested_of t ≡ record { number = 0; beside = 0 }
  nested_zero v all =
      by_test (ltb (unnested t) (pool_count t))
      (λ e. let l = ltb-true (unnested t) (pool_count t) e in absurd (no_nesting v (unnested t) l (first_fails l) (all (unnested t) l)))
      (λ e. sym (nested_all t v (unnested t) (pool_count t) refl refl (ltb-false (unnested t) (pool_count t) e)))

  -- 29
  pub record First (p : ℕ) : Type 0 where
    pub there : p < pool_count t
    pub none : Nests p → ⊥
    pub before : (o : ℕ) → o < p → Nests o

  pub other_first : (nested_of t).number ≡ 29 → (p : ℕ) × First p × ((nested_of t).beside ≡ at t (pool_place p))
  other_first =
      by_nested (λ (o : Verdict). o.number ≡ 29 → (p : ℕ) × First p × (o.beside ≡ at t (pool_place p))) t
      (λ v l e. (unnested t, record { there = l; none = no_nesting v (unnested t) l (first_fails l); before = λ o r. has_nesting v o (omega (arith, l, r)) (before_first o r) }, refl))
      (λ v l e. absurd (omega (arith, e))) (λ v e. absurd (omega (arith, e)))

  pub first_other : valid t ≡ true → (p : ℕ) → First p → nested_of t ≡ record { number = 29; beside = at t (pool_place p) }
  first_other v p f =
      by_test (ltb (unnested t) p)
      (λ e.
      let l = ltb-true (unnested t) p e in
      let there : unnested t < pool_count t = (let r = f.there in omega (arith, l, r)) in
      absurd (no_nesting v (unnested t) there (first_fails there) (f.before (unnested t) l)))
      (λ e.
      let l = ltb-false (unnested t) p e in
      by_test (ltb p (unnested t))
      (λ g. absurd (f.none (has_nesting v p f.there (before_first p (ltb-true p (unnested t) g)))))
      (λ g.
      let r = ltb-false p (unnested t) g in
      let is : p ≡ unnested t = omega (arith, l, r) in
      sym (nested_but t v p (pool_count t) is refl f.there (at t (pool_place p)) refl)))
