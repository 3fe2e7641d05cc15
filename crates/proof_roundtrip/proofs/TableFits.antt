-- A table within its limits, pool by pool and element by element. Assumes nothing.
use Prim.Native.Nat.{ℕ, ◌+◌, ◌-◌, ◌*◌, ◌≤◌, ◌<◌}
use mathlib.Core.Path.{◌≡◌, ◌∙◌, ap}
use mathlib.Core.Bool.{true, false, not, ◌&&◌}
use mathlib.Core.List.{List}
use native.Mathlib.Omega.{arith}
use lib.Dec.{eqb, leb}
use lib.ListN.{length, drop, length-drop}
use borrow.Author.Tests.{leb-true, not-true}
use Rattle.base_words.specs.All.{all}
use Rattle.base_words.specs.Words.{at}
use Rattle.base_words.specs.Counts.{pools, elements, pool_numbers, instances}
use Rattle.base_words.proofs.AllLaws.{all_at, and_left, and_right}
use Rattle.base_kinds.specs.Kinds.{end_snd}
use Rattle.base_table.specs.Places.{kind_place, element_words, pool_words, pool_place, limit_place, element_place, table_words}
use Rattle.base_table.specs.Table.{pool_count, element_count, element_at}
use Rattle.check_limits.specs.Limits.{within, zeros, things, element_fits, held_fits, pool_fits, table_fits}
use Rattle.check_limits.proofs.SameLaws.{held_all}
use Rattle.text_ends.specs.Rewriting.{is_end_snd}
use Rattle.proof_roundtrip.proofs.ExpressionLaws.{zeros_at}
use Rattle.proof_roundtrip.proofs.FitsLaws.{within_low, within_high, things_right, things_none}

-- ITS POOLS
module _ (t : List ℕ) (h : table_fits t ≡ true) where
  counted : within 1 pools (pool_count t) && all (pool_fits t) (pool_count t) ≡ true
  unfolding table_fits
  counted = and_left (within 1 pools (pool_count t) && all (pool_fits t) (pool_count t)) (zeros (drop (pool_place (pool_count t)) t) (pool_words * (pools - pool_count t))) h

  pub pools_low : 1 ≤ pool_count t
  pools_low = within_low 1 pools (pool_count t) (and_left (within 1 pools (pool_count t)) (all (pool_fits t) (pool_count t)) counted)

  pub pools_high : pool_count t ≤ pools
  pools_high = within_high 1 pools (pool_count t) (and_left (within 1 pools (pool_count t)) (all (pool_fits t) (pool_count t)) counted)

  pub pools_fit : (p : ℕ) → p < pool_count t → pool_fits t p ≡ true
  pools_fit = all_at (pool_fits t) (pool_count t) (and_right (within 1 pools (pool_count t)) (all (pool_fits t) (pool_count t)) counted)

  pub pools_behind : (i : ℕ) → pool_place (pool_count t) ≤ i → i < table_words → at t i ≡ 0
  unfolding table_fits
  pools_behind i l u =
      zeros_at t (pool_place (pool_count t)) (pool_words * (pools - pool_count t))
      (and_right (within 1 pools (pool_count t) && all (pool_fits t) (pool_count t)) (zeros (drop (pool_place (pool_count t)) t) (pool_words * (pools - pool_count t))) h)
      i (l, omega (arith, u, pools_high))

-- A POOL
module _ (t : List ℕ) (p : ℕ) (h : pool_fits t p ≡ true) where
  numbered : within 1 pool_numbers (at t (pool_place p)) && leb (at t (limit_place p)) instances && within 1 elements (element_count t p) ≡ true
  unfolding pool_fits
  numbered =
      and_left (within 1 pool_numbers (at t (pool_place p)) && leb (at t (limit_place p)) instances && within 1 elements (element_count t p))
      (things (element_at t p 0) element_words elements (element_count t p) held_fits) h

  limited : within 1 pool_numbers (at t (pool_place p)) && leb (at t (limit_place p)) instances ≡ true
  limited = and_left (within 1 pool_numbers (at t (pool_place p)) && leb (at t (limit_place p)) instances) (within 1 elements (element_count t p)) numbered

  counts : within 1 elements (element_count t p) ≡ true
  counts = and_right (within 1 pool_numbers (at t (pool_place p)) && leb (at t (limit_place p)) instances) (within 1 elements (element_count t p)) numbered

  held : things (element_at t p 0) element_words elements (element_count t p) held_fits ≡ true
  unfolding pool_fits
  held =
      and_right (within 1 pool_numbers (at t (pool_place p)) && leb (at t (limit_place p)) instances && within 1 elements (element_count t p))
      (things (element_at t p 0) element_words elements (element_count t p) held_fits) h

  filled : things (element_at t p 0) element_words elements (element_count t p) element_fits ≡ true
  filled = held_all (element_at t p 0) element_words elements (element_count t p) held

  pub number_low : 1 ≤ at t (pool_place p)
  number_low = within_low 1 pool_numbers (at t (pool_place p)) (and_left (within 1 pool_numbers (at t (pool_place p))) (leb (at t (limit_place p)) instances) limited)

  pub number_high : at t (pool_place p) ≤ pool_numbers
  number_high = within_high 1 pool_numbers (at t (pool_place p)) (and_left (within 1 pool_numbers (at t (pool_place p))) (leb (at t (limit_place p)) instances) limited)

  pub limit_high : at t (limit_place p) ≤ instances
  limit_high = leb-true (at t (limit_place p)) instances (and_right (within 1 pool_numbers (at t (pool_place p))) (leb (at t (limit_place p)) instances) limited)

  pub elements_low : 1 ≤ element_count t p
  elements_low = within_low 1 elements (element_count t p) counts

  pub elements_high : element_count t p ≤ elements
  elements_high = within_high 1 elements (element_count t p) counts

  pub elements_fit : (e : ℕ) → e < element_count t p → element_fits (element_at t p e) ≡ true
  elements_fit e l =
      ap (λ (k : ℕ). element_fits (drop k t)) (let z : element_place p e ≡ element_place p 0 + element_words * e = omega arith in z)
      ∙ things_right t (element_place p 0) element_words elements (element_count t p) element_fits filled e l

  pub elements_held : (e : ℕ) → e < element_count t p → is_end_snd (element_at t p e) ≡ false
  unfolding held_fits is_end_snd
  elements_held e l =
      not-true _
      (ap (λ (k : ℕ). not (eqb (at (drop k t) kind_place) end_snd)) (let z : element_place p e ≡ element_place p 0 + element_words * e = omega arith in z)
      ∙ and_right (element_fits (drop (element_place p 0 + element_words * e) t)) _ (things_right t (element_place p 0) element_words elements (element_count t p) held_fits held e l))

  pub elements_behind : (i : ℕ) → element_place p (element_count t p) ≤ i → i < element_place p elements → at t i ≡ 0
  elements_behind i l u =
      things_none t (element_place p 0) element_words elements (element_count t p) element_fits filled i (omega (arith, l), omega (arith, u, elements_high))

-- an element lies in the table
pub element_long : (t : List ℕ) (p e : ℕ) → length t ≡ table_words → p < pools → e < elements → element_words ≤ length (element_at t p e)
element_long t p e l hp he = omega (arith, l, hp, he, length-drop (element_place p e) t)
