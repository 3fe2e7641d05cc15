-- A pool and a state begun, by what the calls say. Assumes nothing.
use mathlib.Core.Path.{◌≡◌, ◌∙◌, refl, ap}
use mathlib.Core.Bool.{Bool, true, false, not}
use mathlib.Core.List.{List}
use Prim.Native.Nat.{ℕ, ◌+◌, ◌-◌}
use lib.ListN.{length, set, replicate}
use Rattle.base_words.specs.Iter.{iter}
use Rattle.base_words.proofs.PickLaws.{flag_yes, flag_no, pick_yes, pick_no}
use Rattle.base_table.specs.Table.{pool_count}
use Rattle.base_state.specs.Places.{made_place, instance_place, version_at, state_words}
use Rattle.state_fits.specs.Fits.{has_start}
use Rattle.state_fits.specs.Fresh.{start_edge, pool_begun, fresh}

-- A POOL BEGUN: e is its first edge, d one less, v and u the state after a write each
module _ (t : List ℕ) (p : ℕ) (z : List ℕ) (b : Bool) (is : b ≡ has_start t p) where
  pub begin_no : not b ≡ true → z ≡ pool_begun t p z
  unfolding pool_begun
  begin_no h = pick_no _ z _ z (flag_no b (has_start t p) is h) refl

  pub begin_yes : not b ≡ false → (e d : ℕ) (v u : List ℕ) → e ≡ start_edge t p → d ≡ e - 1 → v ≡ set z (made_place p) 1 → (k : ℕ) → u ≡ set v k 1 → k ≡ instance_place p 0 + d → u ≡ pool_begun t p z
  unfolding pool_begun
  begin_yes h e d v u first less one k two place = pick_yes _ u _ z (flag_yes b (has_start t p) is h) (two ∙ rw (one, place, less, first))

-- A STATE BEGUN: all words 0, then the pools, then its version
pub begin_all : (t z u w y : List ℕ) (v : ℕ) → u ≡ replicate (length z) 0 → w ≡ iter (pool_begun t) u (pool_count t) → y ≡ set w version_at v → length z ≡ state_words → y ≡ fresh t v
unfolding fresh
begin_all t z u w y v e h f l = f ∙ ap (λ x. set x version_at v) (h ∙ ap (λ x. iter (pool_begun t) x (pool_count t)) (e ∙ ap (λ n. replicate n 0) l))
