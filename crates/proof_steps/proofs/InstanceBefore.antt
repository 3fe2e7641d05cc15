-- The instance that an accepted step finds fits, the one that it makes too. Assumes nothing.
use Prim.Native.Nat.{ℕ, ◌+◌, ◌*◌, ◌<◌}
use mathlib.Core.Path.{◌≡◌, sym, ◌∙◌, ap}
use mathlib.Core.Bool.{true}
use mathlib.Core.List.{List, ◌++◌}
use native.Mathlib.Omega.{arith}
use lib.Dec.{eqb}
use lib.ListN.{length, drop, replicate, length-replicate, get_or-replicate}
use lib.Seq.{get_or-drop}
use Rattle.base_words.specs.Each.{tab}
use Rattle.base_words.specs.Words.{at}
use Rattle.base_words.specs.Counts.{pools, fields}
use Rattle.base_words.proofs.ListLaws.{length-tab, get_d_tab}
use Rattle.base_kinds.specs.Moves.{making}
use Rattle.base_state.specs.Places.{defined_place, instance_words, instance_place, store_words, shared_place}
use Rattle.base_state.specs.Instances.{instance_at}
use Rattle.check_limits.specs.Limits.{table_fits}
use Rattle.meaning.specs.declared.Name.{Name}
use Rattle.meaning.specs.Refusals.{first_refusal}
use Rattle.meaning.specs.Step.{Site, site_of, pool_named, move_named, instance_of, shared_of, before, refusals}
use Rattle.state_fits.specs.Fits.{usable, state_fits}
use Rattle.proof_steps.proofs.Choices.{by_choice}
use Rattle.proof_steps.proofs.Elements.{pools_few}
use Rattle.proof_steps.proofs.Found.{Found}
use Rattle.proof_steps.proofs.InstanceFits.{field_alike, seen_fits, Fit, fit_read, fit_blank}
use Rattle.proof_steps.proofs.MadeAfter.{named_made}
use Rattle.proof_steps.proofs.PoolFits.{pool_parts}
use Rattle.proof_steps.proofs.Seen.{seen_long, seen_own, seen_shared}
use Rattle.proof_steps.proofs.Traffic.{state_instances, state_stores, here}

module _ (t s q : List ℕ) (n : Name) (fits : table_fits t ≡ true) (state : state_fits t s q ≡ true) (accepted : first_refusal (refusals t s q n) ≡ 0) where
  abbrev x : Site
  x = site_of t s n

  abbrev p : ℕ
  p = pool_named t n

  f : Found t s n
  f = here t s q n fits accepted

  pub pool_few : p < pools
  pool_few = omega (arith, f.pool, pools_few t fits)

  -- the stores that it sees
  store_word : (own : List ℕ) → length own ≡ instance_words → (k j : ℕ) → j < store_words → k ≡ 2 * fields + j → at (drop (defined_place 0) (own ++ shared_of s)) k ≡ at (drop shared_place s) j
  store_word own l k j r e =
      let i : defined_place 0 + k ≡ instance_words + j = omega arith in
      get_or-drop (defined_place 0) (own ++ shared_of s) k 0 ∙ ap (at (own ++ shared_of s)) i ∙ seen_shared s own l j (omega arith) ∙ sym (get_or-drop shared_place s j 0)

  stored : (own : List ℕ) → length own ≡ instance_words → (d : ℕ) → d < fields → seen_fits (own ++ shared_of s) (fields + d) ≡ true
  stored own l d r =
      field_alike (drop shared_place s) (drop (defined_place 0) (own ++ shared_of s)) d (fields + d)
      (store_word own l (2 * (fields + d)) (2 * d) (omega arith) (omega arith))
      (store_word own l (2 * (fields + d) + 1) (2 * d + 1) (omega arith) (omega arith))
      (state_stores t s q state d r)

  abbrev zeros : List ℕ
  zeros = replicate instance_words 0

  abbrev own : List ℕ
  own = tab (λ k. at s (instance_place p n.instance + k)) instance_words

  zeros_long : length zeros ≡ instance_words
  zeros_long = length-replicate {A = ℕ} instance_words 0

  own_long : length own ≡ instance_words
  own_long = length-tab (λ k. at s (instance_place p n.instance + k)) instance_words

  pub instance_before : Fit (usable t p) x.instance
  unfolding site_of before instance_of
  instance_before =
      by_choice (λ (o : List ℕ). Fit (usable t p) (o ++ shared_of s)) (eqb (move_named t n).also making) zeros own
      (λ e.
      fit_blank (usable t p) (zeros ++ shared_of s) (seen_long s zeros zeros_long)
      (λ k l. seen_own s zeros zeros_long k l ∙ get_or-replicate instance_words k 0 0 l)
      (stored zeros zeros_long))
      (λ e.
      fit_read (usable t p) (instance_at s p n.instance) (own ++ shared_of s) (seen_long s own own_long)
      (λ k l.
      seen_own s own own_long k l
      ∙ get_d_tab (λ k. at s (instance_place p n.instance + k)) instance_words k 0 l
      ∙ sym (get_or-drop (instance_place p n.instance) s k 0))
      (stored own own_long)
      ((pool_parts t s p (state_instances t s q state p pool_few)).each n.instance (named_made t s n f e)))
