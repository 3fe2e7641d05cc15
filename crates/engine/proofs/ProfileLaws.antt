-- What the call that looks for pools which are not nested can answer. Assumes nothing.
use Prim.Native.Nat.{ℕ, ◌≤◌, ◌<◌}
use mathlib.Core.Path.{◌≡◌, refl, ◌∙◌, ap}
use mathlib.Core.Bool.{true, false}
use mathlib.Core.List.{List}
use native.Mathlib.Omega.{arith}
use lib.Dec.{ltb}
use borrow.Author.Tests.{lt-ltb, le-ltb, ltb-true, ltb-false}
use Rattle.base_words.specs.Words.{at}
use Rattle.base_words.proofs.PickLaws.{pick_yes, pick_no}
use Rattle.base_table.specs.Places.{pool_place}
use Rattle.base_table.specs.Table.{pool_count}
use Rattle.check_nesting.specs.Deciding.{unnested}
use Rattle.proof_steps.proofs.Choices.{by_choice}
use Rattle.engine.specs.declared.Verdict.{Verdict}
use Rattle.engine.specs.Engine.{valid}
use Rattle.engine.specs.Profile.{nested_of}

pub by_nested : (Q : Verdict → Type 0) (t : List ℕ) → (valid t ≡ true → unnested t < pool_count t → Q (record { number = 29; beside = at t (pool_place (unnested t)) }))
    → (valid t ≡ true → pool_count t ≤ unnested t → Q (record { number = 0; beside = 0 })) → (valid t ≡ false → Q (record { number = 10; beside = 0 })) → Q (nested_of t)
unfolding nested_of
by_nested Q t other all bad =
    by_choice Q (valid t) _ (record { number = 10; beside = 0 })
    (λ v.
    by_choice Q (ltb (unnested t) (pool_count t)) (record { number = 29; beside = at t (pool_place (unnested t)) }) (record { number = 0; beside = 0 })
    (λ e. other v (ltb-true (unnested t) (pool_count t) e)) (λ e. all v (ltb-false (unnested t) (pool_count t) e)))
    bad

-- as the code makes it
module _ (t : List ℕ) where
  pub nested_bad : valid t ≡ false → ◌≡◌ {A = Verdict} (record { number = 10; beside = 0 }) (nested_of t)
  unfolding nested_of
  nested_bad e = pick_no _ _ _ _ e refl

  module _ (v : valid t ≡ true) (p n : ℕ) (is : p ≡ unnested t) (many : n ≡ pool_count t) where
    pub nested_all : n ≤ p → ◌≡◌ {A = Verdict} (record { number = 0; beside = 0 }) (nested_of t)
    unfolding nested_of
    nested_all l = pick_yes _ _ _ _ v (pick_no _ _ _ _ (le-ltb (unnested t) (pool_count t) (omega (arith, is, many, l))) refl)

    pub nested_but : p < n → (x : ℕ) → x ≡ at t (pool_place p) → ◌≡◌ {A = Verdict} (record { number = 29; beside = x }) (nested_of t)
    unfolding nested_of
    nested_but l x e =
        pick_yes _ _ _ _ v (pick_yes _ _ _ _ (lt-ltb (unnested t) (pool_count t) (omega (arith, is, many, l))) (λ i. record { number = 29; beside = (e ∙ ap (λ (p : ℕ). at t (pool_place p)) is) i }))
