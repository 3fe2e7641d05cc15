-- The model that was read and the model that the table holds break the same checks. Assumes nothing.
use Prim.Native.Nat.{ℕ, zero, suc, ◌+◌, ◌<◌}
use mathlib.Core.Path.{◌≡◌, ◌∙◌, refl, sym, ap, ap₂}
use mathlib.Core.Bool.{Bool, true, not, ◌&&◌}
use mathlib.Core.List.{List, [], ◌∷◌}
use native.Mathlib.Omega.{arith}
use lib.Dec.{eqb, leb, ltb}
use lib.ListN.{take}
use lib.Seq.{get_or-take}
use Rattle.base_words.specs.Counts.{pool_numbers, edges, tasks, names}
use Rattle.base_words.specs.Each.{total, each, tab}
use Rattle.base_words.specs.Pick.{if◌then◌or_else◌}
use Rattle.base_words.specs.Sum.{hit, one_if}
use Rattle.base_words.specs.Words.{at}
use Rattle.base_words.proofs.EachLaws.{total-tab, each_append}
use Rattle.base_words.proofs.SumLaws.{sum_ext}
use Rattle.base_kinds.specs.Kinds.{start, start_rcv}
use Rattle.base_table.specs.Places.{element_words}
use Rattle.base_table.specs.Table.{pool_count, element_count, element_at}
use Rattle.check_limits.specs.Limits.{element_fits, pool_fits, table_fits}
use Rattle.check_occurrences.specs.Occurrences.{of_kind, as_exit, as_entry, as_first, as_task, as_received, as_sent, default_once, bound_once}
use Rattle.check_model.specs.Checks.{Pool, check1, check2, check3, edge_right, check4, check5, pool_receives, pool_sends, not_sent_there, check6, check7, check8, lowest}
use Rattle.check_lowest.specs.Model.{pool_at, model_of}
use Rattle.proof_roundtrip.specs.Blocks.{words_at, block_at, blocks_of}
use Rattle.proof_roundtrip.proofs.TableFits.{pools_fit, elements_fit}
use Rattle.check_limits.proofs.SameLaws.{all_ext}
use Rattle.proof_roundtrip.proofs.CountLaws.{kind_of_same, exit_same, entry_same, first_same, task_same, received_same, sent_same, default_same, bound_same}

-- lists whose things come to the same
pub total_same : {A : Type 0} (f : A → ℕ) (g h : ℕ → A) (n : ℕ) → ((k : ℕ) → k < n → f (g k) ≡ f (h k)) → total f (tab g n) ≡ total f (tab h n)
total_same f g h n s = total-tab f g n ∙ sum_ext (λ k. f (g k)) (λ k. f (h k)) n s ∙ sym (total-tab f h n)

pub each_same : {A : Type 0} (f : A → Bool) (g h : ℕ → A) (n : ℕ) → ((k : ℕ) → k < n → f (g k) ≡ f (h k)) → each f (tab g n) ≡ each f (tab h n)
unfolding tab each
each_same f g h zero s = refl
each_same f g h (suc n) s =
    each_append f (tab g n) (g n ∷ [])
    ∙ ap₂ (λ a b. a && (b && true)) (each_same f g h n (λ k l. s k (omega (arith, l)))) (s n (omega arith))
    ∙ sym (each_append f (tab h n) (h n ∷ []))

-- A POOL
module _ (t : List ℕ) (p : ℕ) (fit : pool_fits t p ≡ true) where
  -- what is the same of an element is the same of them all
  totals : (f : List ℕ → ℕ) → ((el : List ℕ) → element_fits el ≡ true → f (take element_words el) ≡ f el) → total f (block_at t p).elements ≡ total f (pool_at t p).elements
  unfolding block_at pool_at
  totals f s = total_same f (words_at t p) (element_at t p) (element_count t p) (λ e h. s (element_at t p e) (elements_fit t p fit e h))

  eachs : (f : List ℕ → Bool) → ((el : List ℕ) → element_fits el ≡ true → f (take element_words el) ≡ f el) → each f (block_at t p).elements ≡ each f (pool_at t p).elements
  unfolding block_at pool_at
  eachs f s = each_same f (words_at t p) (element_at t p) (element_count t p) (λ e h. s (element_at t p e) (elements_fit t p fit e h))

  cut : (el : List ℕ) (i : ℕ) → i < element_words → at (take element_words el) i ≡ at el i
  cut el i h = get_or-take element_words el i 0 h

  number_same : (block_at t p).number ≡ (pool_at t p).number
  unfolding block_at pool_at
  number_same = refl

  limit_same : (block_at t p).limit ≡ (pool_at t p).limit
  unfolding block_at pool_at
  limit_same = refl

  kinds_same : (k : ℕ) → total (of_kind k) (block_at t p).elements ≡ total (of_kind k) (pool_at t p).elements
  kinds_same k = totals (of_kind k) (λ el f. kind_of_same (take element_words el) el (cut el) f k)

  same2 : check2 (block_at t p) ≡ check2 (pool_at t p)
  unfolding check2
  same2 = ap₂ (λ a b. eqb (a + b) 1) (kinds_same start) (kinds_same start_rcv)

  same3 : check3 (block_at t p) ≡ check3 (pool_at t p)
  unfolding check3
  same3 = ap₂ (λ m n. if eqb m 0 then true or_else eqb n 0) limit_same (kinds_same start)

  edge_same : (e : ℕ) → edge_right (total (as_exit e) (block_at t p).elements) (total (as_entry e) (block_at t p).elements) (total (as_first e) (block_at t p).elements)
      ≡ edge_right (total (as_exit e) (pool_at t p).elements) (total (as_entry e) (pool_at t p).elements) (total (as_first e) (pool_at t p).elements)
  edge_same e =
      ap (λ (x : ℕ). edge_right x (total (as_entry e) (block_at t p).elements) (total (as_first e) (block_at t p).elements)) (totals (as_exit e) (λ el f. exit_same (take element_words el) el (cut el) f e))
      ∙ ap₂ (edge_right (total (as_exit e) (pool_at t p).elements)) (totals (as_entry e) (λ el f. entry_same (take element_words el) el (cut el) f e)) (totals (as_first e) (λ el f. first_same (take element_words el) el (cut el) f e))

  same4 : check4 (block_at t p) ≡ check4 (pool_at t p)
  unfolding check4
  same4 = all_ext _ _ edges (λ k h. edge_same (k + 1))

  same5 : check5 (block_at t p) ≡ check5 (pool_at t p)
  unfolding check5
  same5 = all_ext _ _ tasks (λ k h. ap (λ (n : ℕ). leb n 1) (totals (as_task (k + 1)) (λ el f. task_same (take element_words el) el (cut el) f (k + 1))))

  receives_same : (m : ℕ) → pool_receives m (block_at t p) ≡ pool_receives m (pool_at t p)
  unfolding pool_receives
  receives_same m = ap (ltb 0) (totals (as_received m) (λ el f. received_same (take element_words el) el (cut el) f m))

  sends_same : (m : ℕ) → pool_sends m (block_at t p) ≡ pool_sends m (pool_at t p)
  unfolding pool_sends
  sends_same m = ap (ltb 0) (totals (as_sent m) (λ el f. sent_same (take element_words el) el (cut el) f m))

  there_same : not_sent_there (block_at t p) ≡ not_sent_there (pool_at t p)
  unfolding not_sent_there
  there_same = all_ext _ _ names (λ m h. ap₂ (λ a b. not (a && b)) (receives_same m) (sends_same m))

  same7 : check7 (block_at t p) ≡ check7 (pool_at t p)
  unfolding check7
  same7 = eachs default_once (λ el f. default_same (take element_words el) el (cut el) f)

  same8 : check8 (block_at t p) ≡ check8 (pool_at t p)
  unfolding check8
  same8 = eachs bound_once (λ el f. bound_same (take element_words el) el (cut el) f)

-- THE MODEL
module _ (t : List ℕ) (fit : table_fits t ≡ true) where
  all_pools : (f : Pool → Bool) → ((p : ℕ) → pool_fits t p ≡ true → f (block_at t p) ≡ f (pool_at t p)) → each f (blocks_of t) ≡ each f (model_of t)
  unfolding blocks_of model_of
  all_pools f s = each_same f (block_at t) (pool_at t) (pool_count t) (λ p h. s p (pools_fit t fit p h))

  sum_pools : (f : Pool → ℕ) → ((p : ℕ) → pool_fits t p ≡ true → f (block_at t p) ≡ f (pool_at t p)) → total f (blocks_of t) ≡ total f (model_of t)
  unfolding blocks_of model_of
  sum_pools f s = total_same f (block_at t) (pool_at t) (pool_count t) (λ p h. s p (pools_fit t fit p h))

  same1 : check1 (blocks_of t) ≡ check1 (model_of t)
  unfolding check1
  same1 = all_ext _ _ pool_numbers (λ k h. ap (λ (n : ℕ). leb n 1) (sum_pools (λ p. hit p.number (k + 1)) (λ p f. ap (λ (n : ℕ). hit n (k + 1)) (number_same t p f))))

  same6 : check6 (blocks_of t) ≡ check6 (model_of t)
  unfolding check6
  same6 =
      ap₂ (λ a b. a && b)
      (all_ext _ _ names (λ m h. ap (λ (n : ℕ). leb n 1) (sum_pools (λ p. one_if (pool_receives m p)) (λ p f. ap one_if (receives_same t p f m)))))
      (all_pools not_sent_there (there_same t))

  -- THE LAW
  pub lowest_same : lowest (blocks_of t) ≡ lowest (model_of t)
  unfolding lowest
  lowest_same = rw (same1, all_pools check2 (same2 t), all_pools check3 (same3 t), all_pools check4 (same4 t), all_pools check5 (same5 t), same6, all_pools check7 (same7 t), all_pools check8 (same8 t))
