-- THE THEOREM OF NESTED POOLS. "From a fresh state and over all accepted steps and posts, no edge holds more than one token in an instance, each task's two counts together are at most 1, and refusal 18 never
-- occurs": of each nested pool of any valid table, and so of a nested model. Assumes nothing.
use Prim.Native.Nat.{ℕ, ◌≤◌, ◌<◌}
use mathlib.Core.Path.{◌≡◌, refl, sym, ◌∙◌, ap, ap₂, subst}
use mathlib.Core.Bool.{Bool, true, false, not, ◌&&◌, false≢true}
use mathlib.Core.List.{List, [], ◌∷◌, ◌++◌}
use mathlib.Core.Logic.{◌⊎◌, inl, inr, ⊎_elim}
use native.Mathlib.Omega.{arith}
use lib.Dec.{eqb, ltb}
use lib.ListN.{replicate}
use borrow.Author.Tests.{ne_eqb, lt-ltb}
use Rattle.base_words.specs.Pick.{if◌then◌or_else◌}
use Rattle.base_words.proofs.PickLaws.{and_true}
use Rattle.base_kinds.specs.declared.moves.Move.{Move}
use Rattle.base_kinds.specs.Moves.{making}
use Rattle.base_table.specs.Table.{pool_count, element_count, element_at}
use Rattle.base_state.specs.Places.{token_place, active_place, ready_place, instance_words}
use Rattle.base_state.specs.Instances.{instances_of, queues_of, made_count}
use Rattle.check_nesting.specs.Nesting.{Nested}
use Rattle.meaning.specs.declared.Name.{Name}
use Rattle.meaning.specs.declared.Tuple.{Tuple}
use Rattle.meaning.specs.Refusals.{Refusal, first_refusal}
use Rattle.meaning.specs.Requirements.{branch_count, instance_named, below_limit, counts_permit}
use Rattle.meaning.specs.Step.{site_of, pool_named, element_named, move_named, instance_of, shared_of, before, exists, refusals_at, refusals}
use Rattle.proof_steps.proofs.Choices.{by_choice, passed}
use Rattle.proof_steps.proofs.Found.{found}
use Rattle.proof_listing.proofs.PoolFound.{pool_found}
use Rattle.engine.specs.Engine.{valid, stepped}
use Rattle.engine.specs.Calls.{did, Valid}
use Rattle.proof_valid.proofs.ChecksHold.{valid_fits, valid_sound}
use Rattle.proof_demands.specs.Demands.{is_one_of, Made}
use Rattle.proof_demands.proofs.NeverBad.{made_valid}
use Rattle.proof_demands.proofs.StatesLeft.{step_number}
use Rattle.proof_nesting.proofs.Flows.{move_in}
use Rattle.proof_profile.specs.Profile.{name_of, otherwise, Safe}
use Rattle.proof_profile.proofs.Steady.{Steady, token_most, counts_most, made_steady}
use Rattle.proof_profile.proofs.Never18.{has_room_lem, step_18, poll_18}
use Rattle.proof_profile.proofs.Whole.{same_word}
use Rattle.proof_profile.proofs.Going.{Able, some_able}

-- refusals that hold, or whose number is among those
abbrev Fine : List ℕ → List Refusal → Type 0
Fine ks [] = Unit
Fine ks (r ∷ rs) = ((r.holds ≡ true) ⊎ (is_one_of ks r.number ≡ true)) × Fine ks rs

first_fine : (ks : List ℕ) (rs : List Refusal) → is_one_of ks 0 ≡ true → Fine ks rs → is_one_of ks (first_refusal rs) ≡ true
unfolding first_refusal
first_fine ks [] o f = o
first_fine ks (r ∷ rs) o f =
    by_choice (λ (k : ℕ). is_one_of ks k ≡ true) r.holds (first_refusal rs) r.number (λ e. first_fine ks rs o f.1)
    (λ e. ⊎_elim (λ h. absurd (false≢true (sym e ∙ h))) (λ h. h) f.0)

five : (a b c d e : Bool) → a ≡ true → b ≡ true → c ≡ true → d ≡ true → e ≡ true → a && b && c && d && e ≡ true
five a b c d e x y z w u = and_true (a && b && c && d) e (and_true (a && b && c) d (and_true (a && b) c (and_true a b x y) z) w) u

module _ (t : List ℕ) (v : valid t ≡ true) (p : ℕ) (there : p < pool_count t) (nest : Nested (element_at t p) (element_count t p)) where
  module _ (z : List ℕ) (right : Valid t z) (steady : Steady t v p there nest (instances_of z)) where
    abbrev s : List ℕ
    s = instances_of z

    -- the step of an element that is able
    module _ (i : ℕ) (made : i < made_count s p) (b : Able t v p there nest z right steady i made) (g : Tuple) where
      abbrev n : Name
      n = name_of t p i b.element b.phase b.branch g

      is : pool_named t n ≡ p
      is = pool_found t (valid_fits t v) (valid_sound t v) p there

      element_is : element_named t n ≡ element_at t p b.element
      unfolding element_named
      element_is = ap (λ o. element_at t o b.element) is

      move_is : move_named t n ≡ move_in (element_at t p b.element) b.phase
      unfolding move_named
      move_is = ap (λ (el : List ℕ). move_in el b.phase) element_is

      old : eqb (move_named t n).also making ≡ false
      old = rw move_is (ne_eqb _ making b.old)

      is_there : exists t s n ≡ true
      unfolding exists instance_named
      is_there =
          five _ _ _ _ _ (lt-ltb _ _ (subst (λ o. o < pool_count t) (sym is) there)) (lt-ltb _ _ (subst (λ o. b.element < element_count t o) (sym is) b.inside))
          (ap not (ne_eqb (move_named t n).kind 0 (λ e. b.rule (sym (ap (λ (m : Move). m.kind) move_is) ∙ e))))
          (lt-ltb _ _ (subst (λ k. b.branch < k) (sym (ap₂ (λ (el : List ℕ) (m : Move). branch_count el m) element_is move_is)) b.branching))
          (passed (eqb (move_named t n).also making) _ _ old ∙ lt-ltb _ _ (subst (λ o. i < made_count s o) (sym is) made))

      seen_is : (site_of t s n).instance ≡ instance_of s p i ++ shared_of s
      unfolding site_of before
      seen_is = ap₂ (λ (own : List ℕ) (o : ℕ). own ++ shared_of s) (passed (eqb (move_named t n).also making) (replicate instance_words 0) (instance_of s (pool_named t n) i) old ∙ ap (λ o. instance_of s o i) is) is

      permits : counts_permit (site_of t s n).element (site_of t s n).instance (site_of t s n).move (site_of t s n).branch ≡ true
      unfolding site_of
      permits = rw (seen_is, element_is, move_is) b.permits

      limited : below_limit (site_of t s n).move (site_of t s n).made (site_of t s n).limit ≡ true
      unfolding below_limit site_of
      limited = passed (eqb (move_named t n).also making) (ltb (site_of t s n).made (site_of t s n).limit) true old

      rest : is_one_of otherwise (first_refusal (refusals t s (queues_of z) n)) ≡ true
      unfolding refusals refusals_at is_one_of if◌then◌or_else◌
      rest =
          first_fine otherwise (refusals t s (queues_of z) n) refl
          (inl is_there, (inl permits, (inr refl, (inr refl, (inr refl, (inr refl, (inr refl, (inr refl, (inl limited, (inr refl, (inl (has_room_lem t v p there nest z right steady n (sym is) (found t s n is_there)), record {})))))))))))

      goes : is_one_of otherwise (stepped t z n).answer.number ≡ true
      unfolding did
      goes = ap (is_one_of otherwise) (step_number t z right n) ∙ rest

    steady_safe : Safe t z p
    unfolding did
    steady_safe = record {
      one_token = λ i made e a b. subst (λ k. k ≤ 1) (same_word s p i (token_place e) (omega (arith, a, b))) (token_most t v p there nest s steady i made e a b);
      one_count = λ i made n a b.
          omega (arith, counts_most t v p there nest s steady i made n a b, same_word s p i (active_place n) (omega (arith, a, b)), same_word s p i (ready_place n) (omega (arith, a, b)));
      never_18 = λ n is. step_18 t v p there nest z right steady n (sym is);
      never_in_poll = λ w count n rest is item. poll_18 t v p there nest w count z right steady n (sym is) (rest, item);
      goes_on = λ i made unfinished.
          let b = some_able t v p there nest z right steady i made unfinished in
          record { element = b.element; phase = b.phase; branch = b.branch; number = goes i made b };
    }

  -- ONE NESTED POOL of any valid table, over whatever the engine made
  pub pool_safe : (z : List ℕ) → Made t z → Safe t z p
  pool_safe z m = steady_safe z (made_valid t v z m) (made_steady t v p there nest z m)
