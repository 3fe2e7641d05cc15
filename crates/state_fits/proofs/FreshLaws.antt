-- A fresh state fits: what stands in each of its words, and that each part of it fits. Assumes nothing.
use Prim.Native.Nat.{ℕ, zero, suc, ◌+◌, ◌*◌, ◌≤◌, ◌<◌}
use mathlib.Core.Path.{◌≡◌, ◌∙◌, refl, sym}
use mathlib.Core.Bool.{Bool, true, false}
use mathlib.Core.List.{List}
use mathlib.Core.Logic.{⊎_elim}
use native.Mathlib.Nat.{not-suc-le-zero, le_of_suc-le-suc, eq-or-lt_of_le}
use native.Mathlib.Omega.{arith}
use lib.Dec.{eqb}
use lib.ListN.{length, set, replicate, length-set, length-replicate}
use lib.Seq.{get_or-set_same, get_or-set_other}
use borrow.Author.Tests.{eqb-true, eqb-false}
use Rattle.base_words.specs.Iter.{iter}
use Rattle.base_words.specs.Pick.{if◌then◌or_else◌}
use Rattle.base_words.specs.Sum.{one_if, hit}
use Rattle.base_words.specs.Words.{at}
use Rattle.base_words.specs.Counts.{pools, edges, instances}
use Rattle.base_words.proofs.IterLaws.{iter_keeps}
use Rattle.base_table.specs.Table.{pool_count}
use Rattle.base_state.specs.Places.{token_place, instance_words, made_place, instance_place, shared_place, state_words}
use Rattle.state_fits.specs.Fits.{has_start}
use Rattle.state_fits.specs.Fresh.{start_edge, pool_begun}

pub blank_at : (n j : ℕ) → at (replicate n 0) j ≡ 0
blank_at zero j = refl
blank_at (suc n) zero = refl
blank_at (suc n) (suc j) = blank_at n j

-- pool p holds c instances, and f in the words of its instances
abbrev pub Holds : List ℕ → ℕ → ℕ → (ℕ → ℕ) → Type 0
Holds z p c f = (at z (made_place p) ≡ c) × ((k : ℕ) → k < instance_words * instances → at z (instance_place p 0 + k) ≡ f k)

-- the word of the first token
abbrev pub first_place : List ℕ → ℕ → ℕ
first_place t p = token_place (start_edge t p)

-- what is asked of a table: at most 4 pools, and the first edge of each start from 1 to 48
pub record Startable (t : List ℕ) : Type 0 where
  pub few : pool_count t ≤ pools
  pub first : (p : ℕ) → p < pool_count t → has_start t p ≡ true → (1 ≤ start_edge t p) × (start_edge t p ≤ edges)

-- A POOL BEGUN
module _ (t : List ℕ) (p : ℕ) (z : List ℕ) where
  begun_no : has_start t p ≡ false → pool_begun t p z ≡ z
  unfolding pool_begun if◌then◌or_else◌
  begun_no e = rw e

  begun_yes : has_start t p ≡ true → pool_begun t p z ≡ set (set z (made_place p) 1) (instance_place p 0 + first_place t p) 1
  unfolding pool_begun if◌then◌or_else◌
  begun_yes e = rw e

  begun_length : length (pool_begun t p z) ≡ length z
  begun_length = go (has_start t p) refl
    where
      go : (b : Bool) → has_start t p ≡ b → length (pool_begun t p z) ≡ length z
      go true e = rw (begun_yes e) (simp length-set)
      go false e = rw (begun_no e)

  -- a word that it does not write
  begun_other : (j : ℕ) → (has_start t p ≡ true → (j ≡ made_place p → ⊥) × (j ≡ instance_place p 0 + first_place t p → ⊥)) → at (pool_begun t p z) j ≡ at z j
  begun_other j other = go (has_start t p) refl
    where
      go : (b : Bool) → has_start t p ≡ b → at (pool_begun t p z) j ≡ at z j
      go true e =
          rw (begun_yes e)
          (get_or-set_other (set z (made_place p) 1) (instance_place p 0 + first_place t p) j 1 0 (other e).1 ∙ get_or-set_other z (made_place p) j 1 0 (other e).0)
      go false e = rw (begun_no e)

  -- another pool holds what it held
  keep : (n c : ℕ) (f : ℕ → ℕ) → p < pools → n < pools → (p ≡ n → ⊥) → (has_start t p ≡ true → start_edge t p ≤ edges) → Holds z n c f → Holds (pool_begun t p z) n c f
  keep n c f l r other first h = (
    begun_other (made_place n) (λ e. ((λ q. other (sym q)), (λ q. omega arith))) ∙ h.0,
    (λ k m. begun_other (instance_place n 0 + k) (λ e. ((λ q. omega arith), (λ q. let d = first e in other (omega arith)))) ∙ h.1 k m),
  )

  -- a blank pool with a start holds one instance, with one token
  make : p < pools → length z ≡ state_words → has_start t p ≡ true → start_edge t p ≤ edges → Holds z p 0 (λ k. 0) → Holds (pool_begun t p z) p 1 (λ k. hit k (first_place t p))
  make l long e first h = (rw (begun_yes e) count, (λ k m. rw (begun_yes e) (word k m (eqb k (first_place t p)) refl)))
    where
      count : at (set (set z (made_place p) 1) (instance_place p 0 + first_place t p) 1) (made_place p) ≡ 1
      count =
          get_or-set_other (set z (made_place p) 1) (instance_place p 0 + first_place t p) (made_place p) 1 0 (λ q. omega arith)
          ∙ get_or-set_same z (made_place p) 1 0 (omega arith)

      word : (k : ℕ) → k < instance_words * instances → (b : Bool) → eqb k (first_place t p) ≡ b → at (set (set z (made_place p) 1) (instance_place p 0 + first_place t p) 1) (instance_place p 0 + k) ≡ one_if b
      word k m true q =
          let s : k ≡ first_place t p = eqb-true k (first_place t p) q in
          rw s (get_or-set_same (set z (made_place p) 1) (instance_place p 0 + first_place t p) 1 0 (omega (arith, length-set z (made_place p) 1)))
      word k m false q =
          get_or-set_other (set z (made_place p) 1) (instance_place p 0 + first_place t p) (instance_place p 0 + k) 1 0 (λ s. eqb-false k (first_place t p) q (omega arith))
          ∙ get_or-set_other z (made_place p) (instance_place p 0 + k) 1 0 (λ s. omega arith)
          ∙ h.1 k m

-- THE POOLS BEGUN, the first n of them
module _ (t : List ℕ) (ask : Startable t) where
  abbrev pub Pools : ℕ → List ℕ
  Pools n = iter (pool_begun t) (replicate state_words 0) n

  pub pools_long : (n : ℕ) → length (Pools n) ≡ state_words
  pools_long n =
      iter_keeps (pool_begun t) (replicate state_words 0) (λ z. length z ≡ state_words) n (λ k z l e. begun_length t k z ∙ e) (length-replicate {A = ℕ} state_words 0)

  -- a pool that is not begun, or has no start
  pub pools_blank : (n p : ℕ) → n ≤ pool_count t → p < pools → (p < n → has_start t p ≡ false) → Holds (Pools n) p 0 (λ k. 0)
  pools_blank n p l r none =
      iter_keeps (pool_begun t) (replicate state_words 0) (λ z. Holds z p 0 (λ k. 0)) n step (blank_at state_words (made_place p), (λ k m. blank_at state_words (instance_place p 0 + k)))
    where
      step : (k : ℕ) (z : List ℕ) → k < n → Holds z p 0 (λ i. 0) → Holds (pool_begun t k z) p 0 (λ i. 0)
      step k z m h = go (eqb k p) refl
        where
          go : (b : Bool) → eqb k p ≡ b → Holds (pool_begun t k z) p 0 (λ i. 0)
          go true e =
              let q : k ≡ p = eqb-true k p e in
              let s : has_start t k ≡ false = rw q (none (omega arith)) in
              rw (begun_no t k z s) h
          go false e = keep t k z p 0 (λ i. 0) (omega (arith, ask.few)) r (eqb-false k p e) (λ s. (ask.first k (omega arith) s).1) h

  -- a pool with a start
  pub pools_begun : (n p : ℕ) → n ≤ pool_count t → p < n → has_start t p ≡ true → Holds (Pools n) p 1 (λ k. hit k (first_place t p))
  unfolding iter
  pools_begun zero p l r s = absurd (not-suc-le-zero r)
  pools_begun (suc n) p l r s =
      ⊎_elim
      (λ q. rw q
      (make t n (Pools n) (omega (arith, ask.few)) (pools_long n) (rw (sym q) s) (ask.first n (omega arith) (rw (sym q) s)).1 (pools_blank n n (omega arith) (omega (arith, ask.few)) (λ m. absurd (omega arith)))))
      (λ m. keep t n (Pools n) p 1 (λ k. hit k (first_place t p)) (omega (arith, ask.few)) (omega (arith, ask.few)) (λ q. omega arith) (λ e. (ask.first n (omega arith) e).1) (pools_begun n p (omega arith) m s))
      (eq-or-lt_of_le (le_of_suc-le-suc r))

  -- what all share, and the queues
  pub pools_behind : (n j : ℕ) → n ≤ pool_count t → shared_place ≤ j → at (Pools n) j ≡ 0
  pools_behind n j l r =
      iter_keeps (pool_begun t) (replicate state_words 0) (λ z. at z j ≡ 0) n
      (λ k z m e. begun_other t k z j (λ s. let d = (ask.first k (omega arith) s).1 in ((λ q. omega (arith, ask.few)), (λ q. omega (arith, ask.few)))) ∙ e)
      (blank_at state_words j)
