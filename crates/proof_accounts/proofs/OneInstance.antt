-- AN ACCEPTED STEP BELONGS TO EXACTLY ONE INSTANCE: of the one pool that has the number it names (check 1), the instance that it names, which stood or, for startRcv, is made by it; no word of another instance is
-- altered. So it is with each that consumes. t is a table, z a valid state. Assumes nothing.
use Prim.Native.Nat.{ℕ, ◌+◌, ◌<◌}
use mathlib.Core.Path.{◌≡◌, refl, sym, ◌∙◌, ap}
use mathlib.Core.Bool.{true, false}
use mathlib.Core.List.{List}
use mathlib.Core.Logic.{◌⊎◌, inl, inr}
use native.Mathlib.Omega.{arith}
use lib.Dec.{eqb, ltb}
use borrow.Author.Tests.{eqb-true, ltb-true}
use Rattle.base_words.specs.Words.{at}
use Rattle.base_words.specs.Counts.{pools}
use Rattle.base_words.proofs.SeekLaws.{sought}
use Rattle.base_kinds.specs.Kinds.{start_rcv}
use Rattle.base_kinds.specs.Moves.{making}
use Rattle.base_table.specs.Places.{pool_place}
use Rattle.base_table.specs.Table.{pool_count, has_number, pool_of, limit_of, kind_in, mode_in, element_at}
use Rattle.base_state.specs.Instances.{instances_of, queues_of, made_count}
use Rattle.check_limits.specs.Limits.{table_fits}
use Rattle.meaning.specs.declared.Name.{Name}
use Rattle.meaning.specs.Refusals.{first_refusal}
use Rattle.meaning.specs.Requirements.{instance_named, below_limit}
use Rattle.meaning.specs.Changes.{more}
use Rattle.meaning.specs.Step.{site_of, pool_named, element_named, move_named, refusals, made_after}
use Rattle.proof_steps.proofs.Choices.{by_test, chosen, passed, chosen_true}
use Rattle.proof_steps.proofs.Elements.{pools_few, limit_few}
use Rattle.proof_steps.proofs.Found.{Found}
use Rattle.proof_steps.proofs.MadeAfter.{named_made, more_one}
use Rattle.proof_steps.proofs.OnlyOwn.{own_made}
use Rattle.proof_steps.proofs.Rows.{row_kind, row_making}
use Rattle.proof_steps.proofs.Traffic.{here, site}
use Rattle.proof_listing.proofs.PoolFound.{pool_found}
use Rattle.engine.specs.Engine.{stepped}
use Rattle.engine.specs.Calls.{did, Valid}
use Rattle.engine.proofs.CallLaws.{table_fits_lem, checks_hold, long_instances}
use Rattle.proof_demands.proofs.Boards.{others_untouched}
use Rattle.proof_demands.proofs.StatesLeft.{step_number, step_instances}
use Rattle.proof_accounts.specs.Accounts.{Stood, Made, OneInstance}

module _ (t z : List ℕ) (v : Valid t z) (n : Name) (accepted : (stepped t z n).answer.number ≡ 0) where
  abbrev s : List ℕ
  s = instances_of z

  abbrev y : List ℕ
  y = (stepped t z n).state

  abbrev p : ℕ
  p = pool_named t n

  fits : table_fits t ≡ true
  fits = table_fits_lem t z v.fits

  allowed : first_refusal (refusals t s (queues_of z) n) ≡ 0
  unfolding did
  allowed = sym (step_number t z v n) ∙ accepted

  found : Found t s n
  found = here t s (queues_of z) n fits allowed

  few : p < pools
  few = omega (arith, found.pool, pools_few t fits)

  -- THE POOL
  number_is : at t (pool_place p) ≡ n.pool
  unfolding pool_of has_number
  number_is = eqb-true (at t (pool_place p)) n.pool ((sought (has_number t n.pool) (pool_count t)).1 found.pool)

  pool_only : (o : ℕ) → o < pool_count t → at t (pool_place o) ≡ n.pool → o ≡ p
  pool_only o l e = sym (pool_found t fits (checks_hold t z v.fits) o l) ∙ ap (pool_of t) e

  -- HOW MANY ARE MADE
  made_is : made_count (instances_of y) p ≡ made_after (site_of t s n)
  unfolding did
  made_is = ap (λ (r : List ℕ). made_count r p) (step_instances t z v n accepted) ∙ own_made t s n (omega (arith, few, long_instances z v.long))

  stood : eqb (move_named t n).also making ≡ false → Stood t n (made_count s p) (made_count (instances_of y) p)
  unfolding Stood made_after site_of
  stood o = (named_made t s n found o, made_is ∙ passed (eqb (move_named t n).also making) (more (made_count s p)) (made_count s p) o)

  module _ (o : eqb (move_named t n).also making ≡ true) where
    is_start_rcv : kind_in (element_at t p n.element) ≡ start_rcv
    unfolding element_named move_named
    is_start_rcv =
        sym (row_kind (kind_in (element_named t n)) (mode_in (element_named t n)) n.phase found.move)
        ∙ row_making (kind_in (element_named t n)) (mode_in (element_named t n)) n.phase (eqb-true (move_named t n).also making o)

    next : n.instance ≡ made_count s p
    unfolding instance_named
    next = eqb-true n.instance (made_count s p) (chosen_true (eqb (move_named t n).also making) (eqb n.instance (made_count s p)) (ltb n.instance (made_count s p)) found.instance o)

    below : made_count s p < limit_of t p
    unfolding below_limit site_of
    below = ltb-true (made_count s p) (limit_of t p) (chosen_true (eqb (move_named t n).also making) (ltb (made_count s p) (limit_of t p)) true (site t s (queues_of z) n fits allowed).limited o)

    one_more_lem : made_count (instances_of y) p ≡ made_count s p + 1
    unfolding made_after site_of
    one_more_lem =
        made_is ∙ chosen (eqb (move_named t n).also making) (more (made_count s p)) (made_count s p) o
        ∙ more_one (made_count s p) (omega (arith, below, limit_few t fits p found.pool))

    made : Made t n p (made_count s p) (made_count (instances_of y) p)
    unfolding Made
    made = (is_start_rcv, next, one_more_lem)

  origin : Stood t n (made_count s p) (made_count (instances_of y) p) ⊎ Made t n p (made_count s p) (made_count (instances_of y) p)
  origin = by_test (eqb (move_named t n).also making) (λ o. inr (made o)) (λ o. inl (stood o))

  there : n.instance < made_count (instances_of y) p
  unfolding Stood
  there = by_test (eqb (move_named t n).also making) (λ o. omega (arith, next o, one_more_lem o)) (λ o. let r = stood o in omega (arith, r.0, r.1))

  pub one_instance : OneInstance t n z y p
  unfolding did
  one_instance = record {
    belongs = record { pool = found.pool; number = number_is; instance = refl; there = there };
    only = λ o i b. (pool_only o b.pool b.number, b.instance);
    origin = origin;
    others = others_untouched t z v n accepted;
  }
