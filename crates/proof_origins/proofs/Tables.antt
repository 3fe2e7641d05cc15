-- THE TEXT OF A VALID TABLE is the text of its collaboration. Assumes nothing.
use Prim.Native.Char.{code}
use Prim.Native.Nat.{ℕ, ◌<◌}
use mathlib.Core.Path.{◌≡◌, refl, sym, ◌∙◌, ap, ap₂}
use mathlib.Core.Bool.{true}
use mathlib.Core.List.{List, [], ◌∷◌, ◌++◌}
use lib.Dec.{eqb}
use Rattle.base_words.specs.Pick.{if◌then◌or_else◌}
use Rattle.base_words.specs.Text.{bytes}
use Rattle.base_words.specs.Words.{at}
use Rattle.base_words.specs.Counts.{pools}
use Rattle.base_table.specs.Places.{pool_place, limit_place}
use Rattle.base_table.specs.Table.{pool_count, element_count, element_at, limit_of}
use Rattle.check_limits.specs.Limits.{table_fits}
use Rattle.write_decimals.specs.Decimals.{shown}
use Rattle.write_shown.specs.Shown.{lead, separated, enclosed_by, shown_element, shown_elements, shown_limit, shown_pool, shown_pools, shown_table}
use Rattle.engine.specs.Engine.{valid}
use Rattle.proof_steps.proofs.Choices.{passed}
use Rattle.proof_steps.proofs.Elements.{pools_few, element_fits_lem}
use Rattle.proof_valid.proofs.ChecksHold.{valid_fits}
use Rattle.paper.specs.Syntax.{Mark}
use Rattle.proof_paper.specs.Decoders.{element_of, process_at, pool_at, collaboration_of}
use Rattle.proof_origins.specs.Display.{between_signs, element_text, mark_text, limit_text, pool_text, display}
use Rattle.proof_origins.proofs.Lists.{each_way, separated_is, joined_least}
use Rattle.proof_origins.proofs.Elements.{element_text_lem}

module _ (t : List ℕ) (p : ℕ) where
  abbrev n : ℕ
  n = at t (limit_place p)

  abbrev mark : Mark
  mark = if eqb n 0 then Mark.pool or_else Mark.mi_pool

  mark_text_lem : (if eqb n 0 then bytes "pool" or_else bytes "miPool") ≡ mark_text mark
  unfolding mark_text
  mark_text_lem = each_way mark_text (eqb n 0) _ _ Mark.pool Mark.mi_pool (λ e. refl) (λ e. refl)

  limit_text_lem : shown_limit n ≡ limit_text mark (limit_of t p)
  unfolding shown_limit limit_text limit_of
  limit_text_lem =
      each_way (λ (m : Mark). limit_text m (limit_of t p)) (eqb n 0) _ _ Mark.pool Mark.mi_pool (λ e. refl)
      (λ e. ap (λ k. code "," ∷ shown k) (sym (passed (eqb n 0) 1 n e)))

module _ (t : List ℕ) (fits : table_fits t ≡ true) where
  elements_text : (p : ℕ) → p < pool_count t → shown_elements t p ≡ between_signs (code "|") element_text (process_at t p)
  unfolding shown_elements process_at
  elements_text p l =
      separated_is (code "|") (λ e. shown_element (element_at t p e)) (λ e. element_of (element_at t p e)) element_text (element_count t p)
      (λ e r. element_text_lem (element_at t p e) (element_fits_lem t fits p l e r))

  pool_text_lem : (p : ℕ) → p < pool_count t → shown_pool t p ≡ pool_text (pool_at t p)
  unfolding shown_pool pool_text pool_at
  pool_text_lem p l =
      ap₂ (λ u v. u ++ enclosed_by (code "(") (code ")") (shown (at t (pool_place p)) ++ (code "," ∷ v))) (mark_text_lem t p)
      (ap₂ ◌++◌ (elements_text p l) (limit_text_lem t p))

  table_text : shown_table t ≡ display (collaboration_of t)
  unfolding shown_table shown_pools display collaboration_of separated
  table_text =
      ap (λ w. w ++ (code "\n" ∷ []))
      (joined_least (λ p. lead (code "|") p ++ shown_pool t p) (pool_count t) pools (pools_few t fits)
      ∙ separated_is (code "|") (shown_pool t) (pool_at t) pool_text (pool_count t) pool_text_lem)

-- OF EVERY VALID TABLE
pub text_displayed : (t : List ℕ) → valid t ≡ true → shown_table t ≡ display (collaboration_of t)
text_displayed t v = table_text t (valid_fits t v)
