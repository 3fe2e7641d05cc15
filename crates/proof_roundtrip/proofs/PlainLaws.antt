-- The model of a table within the limits has no endSnd. Assumes nothing.
use Prim.Native.Nat.{ℕ, zero, suc, ◌+◌, ◌≤◌, ◌<◌}
use mathlib.Core.Path.{◌≡◌, refl, sym, ◌∙◌, ap, ap₂}
use mathlib.Core.Bool.{true, false}
use mathlib.Core.List.{List, [], ◌∷◌, ◌++◌}
use native.Mathlib.Omega.{arith}
use lib.Dec.{eqb}
use lib.ListN.{length}
use lib.Seq.{get_or-take}
use Rattle.base_words.specs.Counts.{elements}
use Rattle.base_words.specs.Each.{total, tab}
use Rattle.base_words.specs.Sum.{sum, one_if}
use Rattle.base_words.proofs.EachLaws.{total-tab}
use Rattle.base_words.proofs.ListLaws.{length-tab}
use Rattle.base_words.proofs.SumLaws.{sum-zero}
use Rattle.base_kinds.specs.Kinds.{end_snd}
use Rattle.base_table.specs.Places.{kind_place, element_words}
use Rattle.base_table.specs.Table.{pool_count, element_count, element_at}
use Rattle.check_limits.specs.Limits.{pool_fits, table_fits}
use Rattle.check_model.specs.Checks.{Pool}
use Rattle.text_ends.specs.Rewriting.{is_end_snd, end_sends}
use Rattle.proof_roundtrip.proofs.EndModels.{Every, every_last}
use Rattle.proof_roundtrip.proofs.Rewritten.{Plain}
use Rattle.proof_roundtrip.specs.Blocks.{words_at, block_at, blocks_of}
use Rattle.proof_roundtrip.proofs.TableFits.{pools_fit, elements_high, elements_held}

every_tab : {A : Type 0} (P : A → Type 0) (f : ℕ → A) (n : ℕ) → ((j : ℕ) → j < n → P (f j)) → Every P (tab f n)
unfolding tab
every_tab P f zero h = omega arith
every_tab P f (suc n) h = every_last P (tab f n) (f n) (every_tab P f n (λ j l. h j (omega arith))) (h n (omega arith))

block_plain : (t : List ℕ) (p : ℕ) → pool_fits t p ≡ true → Plain (block_at t p)
unfolding block_at
block_plain t p h =
    record {
      ends = unfold end_sends words_at is_end_snd in total-tab (λ el. one_if (is_end_snd el)) (words_at t p) (element_count t p) ∙ sum-zero _ (element_count t p) (λ e l. ap one_if (ap (λ k. eqb k end_snd) (get_or-take element_words (element_at t p e) kind_place 0 (omega arith)) ∙ elements_held t p h e l));
      few = omega (arith, length-tab (words_at t p) (element_count t p), elements_high t p h);
    }

pub blocks_plain : (t : List ℕ) → table_fits t ≡ true → Every Plain (blocks_of t)
unfolding blocks_of
blocks_plain t h = every_tab Plain (block_at t) (pool_count t) (λ p l. block_plain t p (pools_fit t h p l))
