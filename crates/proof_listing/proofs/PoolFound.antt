-- In a table within the limits that breaks no check, the number of a pool finds the pool again. Assumes nothing.
use Prim.Native.Nat.{ℕ, ◌+◌, ◌-◌, ◌≤◌, ◌<◌}
use mathlib.Core.Path.{◌≡◌, refl, sym, ◌∙◌, subst}
use mathlib.Core.Bool.{true, false, ◌&&◌, false≢true}
use mathlib.Core.List.{List}
use native.Mathlib.Omega.{arith}
use lib.Dec.{eqb, leb}
use borrow.Author.Tests.{eqb-true, eqb-false, eq-eqb, leb-true}
use Rattle.base_words.specs.All.{all}
use Rattle.base_words.specs.Each.{total}
use Rattle.base_words.specs.Sum.{sum, hit}
use Rattle.base_words.specs.Words.{at}
use Rattle.base_words.specs.Counts.{pools, pool_numbers}
use Rattle.base_words.proofs.AllLaws.{and_left, and_right, all_at}
use Rattle.base_words.proofs.EachLaws.{total-tab}
use Rattle.base_words.proofs.SeekLaws.{sought}
use Rattle.base_table.specs.Places.{pool_place}
use Rattle.base_table.specs.Table.{pool_count, has_number, pool_of}
use Rattle.check_limits.specs.Limits.{within, pool_fits, table_fits}
use Rattle.check_model.specs.Checks.{Pool, check1, lowest}
use Rattle.check_lowest.specs.Model.{pool_at, model_of}
use Rattle.step_queues.proofs.SlotLaws.{by_below}
use Rattle.proof_steps.proofs.Choices.{by_test}
use Rattle.proof_listing.proofs.Counting.{sum_two, hit_same}
use Rattle.proof_listing.proofs.ChecksHold.{checks_hold}

module _ (t : List ℕ) (fits : table_fits t ≡ true) where
  pool_fits_lem : (p : ℕ) → p < pool_count t → pool_fits t p ≡ true
  unfolding table_fits
  pool_fits_lem = all_at (pool_fits t) (pool_count t) (and_right (within 1 pools (pool_count t)) (all (pool_fits t) (pool_count t)) (and_left (within 1 pools (pool_count t) && all (pool_fits t) (pool_count t)) _ fits))

  number_within : (p : ℕ) → p < pool_count t → (1 ≤ at t (pool_place p)) × (at t (pool_place p) ≤ pool_numbers)
  unfolding pool_fits
  number_within p l =
      let h : within 1 pool_numbers (at t (pool_place p)) ≡ true = and_left (within 1 pool_numbers (at t (pool_place p))) _ (and_left _ _ (and_left _ _ (pool_fits_lem p l))) in
      (leb-true 1 (at t (pool_place p)) (and_left (leb 1 (at t (pool_place p))) _ h), leb-true (at t (pool_place p)) pool_numbers (and_right (leb 1 (at t (pool_place p))) _ h))

  module _ (sound : lowest (model_of t) ≡ 0) where
    -- how often a number k + 1 stands
    abbrev met : ℕ → ℕ → ℕ
    met k j = hit (at t (pool_place j)) (k + 1)

    met_once : (k : ℕ) → k < pool_numbers → sum (met k) (pool_count t) ≤ 1
    unfolding check1 model_of pool_at
    met_once k l =
        let c = all_at (λ k. leb (total (λ (p : Pool). hit p.number (k + 1)) (model_of t)) 1) pool_numbers (checks_hold (model_of t) sound).first k l in
        subst (λ n. n ≤ 1) (total-tab (λ (p : Pool). hit p.number (k + 1)) (pool_at t) (pool_count t)) (leb-true _ 1 c)

    pub numbers_differ : (p o : ℕ) → p < pool_count t → o < pool_count t → at t (pool_place p) ≡ at t (pool_place o) → p ≡ o
    numbers_differ p o l r same = by_test (eqb p o) (λ e. eqb-true p o e) (λ e. absurd (twice (eqb-false p o e)))
      where
        twice : (p ≡ o → ⊥) → ⊥
        twice d =
            let w = number_within p l in
            let k : ℕ = at t (pool_place p) - 1 in
            let e : at t (pool_place p) ≡ k + 1 = omega (arith, w.0) in
            let f : at t (pool_place o) ≡ k + 1 = sym same ∙ e in
            let once = met_once k (omega (arith, w.0, w.1)) in
            let two = sum_two (met k) (pool_count t) p o l r d in
            omega (arith, once, two, hit_same (at t (pool_place p)) (k + 1) e, hit_same (at t (pool_place o)) (k + 1) f)

    -- THE POOL FOUND
    pub pool_found : (p : ℕ) → p < pool_count t → pool_of t (at t (pool_place p)) ≡ p
    unfolding pool_of has_number
    pool_found p l =
        let number : ℕ = at t (pool_place p) in
        let found = sought (has_number t number) (pool_count t) in
        let o : ℕ = pool_of t number in
        by_below p o
        (λ below. absurd (false≢true (sym (found.2 p below) ∙ eq-eqb (at t (pool_place p)) number refl)))
        (λ least. let r : o < pool_count t = omega (arith, least, l) in numbers_differ o p r l (eqb-true (at t (pool_place o)) number (found.1 r)))
