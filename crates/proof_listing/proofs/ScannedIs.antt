-- The listing as the code goes through it is the listing: t is a table within the limits that breaks no check. Assumes nothing.
use Prim.Native.Nat.{ℕ, ◌+◌, ◌<◌}
use mathlib.Core.Path.{◌≡◌, refl, sym, ◌∙◌, subst}
use mathlib.Core.Bool.{Bool, true, false, false≢true}
use mathlib.Core.List.{List, []}
use lib.Dec.{eqb, ltb}
use borrow.Author.Tests.{eqb-true, ltb-true}
use Rattle.base_words.specs.Each.{joined, those}
use Rattle.base_words.specs.Pick.{if◌then◌or_else◌}
use Rattle.base_words.proofs.AllLaws.{and_left, and_right}
use Rattle.base_words.proofs.JoinLaws.{joined_ext, those-joined}
use Rattle.base_table.specs.Table.{pool_count, element_count, element_at, message_name}
use Rattle.base_state.specs.Instances.{made_count, instance_at}
use Rattle.check_limits.specs.Limits.{table_fits}
use Rattle.state_figures.specs.Figures.{is_finished}
use Rattle.check_model.specs.Checks.{lowest}
use Rattle.check_lowest.specs.Model.{model_of}
use Rattle.meaning.specs.declared.Tuple.{Tuple}
use Rattle.meaning.specs.declared.Name.{Name}
use Rattle.meaning.specs.Requirements.{branch_count}
use Rattle.meaning.specs.Refusals.{first_refusal}
use Rattle.meaning.specs.Step.{refusals, element_named, move_named}
use Rattle.base_kinds.specs.Moves.{phases}
use Rattle.step_names.specs.Names.{step_name, named_by, accepted}
use Rattle.step_list.specs.Listing.{queue_places, values_at, move_at, by_place, by_branch, by_phase, by_element, by_instance, by_pool, step_names, listed}
use Rattle.step_list.specs.Scanned.{stirs, still, scan_phase, scan_element, scan_instance, scan_made, scan_pool, scanned}
use Rattle.step_names.proofs.NameLaws.{joined_nothing, those-joined_nothing, those_named_nothing}
use Rattle.proof_steps.proofs.Choices.{by_test, by_choice}
use Rattle.proof_steps.proofs.Elements.{element_fits_lem}
use Rattle.proof_steps.proofs.Traffic.{here}
use Rattle.proof_listing.proofs.PoolFound.{pool_found}
use Rattle.proof_listing.proofs.Idle.{accepted_stirs, quiet_stirs}

module _ (t s q : List ℕ) (fits : table_fits t ≡ true) (sound : lowest (model_of t) ≡ 0) where
  module _ (p : ℕ) (l : p < pool_count t) (i e : ℕ) where
    abbrev stirred : Bool
    stirred = stirs (element_at t p e) (instance_at s p i) i (made_count s p)

    -- AN ELEMENT that does not stir has no accepted name
    accepted_stirred : (f b : ℕ) (g : Tuple) → accepted t s q (step_name t p i e f b g) ≡ true → stirred ≡ true
    unfolding accepted step_name element_named
    accepted_stirred f b g y =
        let n : Name = step_name t p i e f b g in
        subst (λ o. stirs (element_at t o e) (instance_at s o i) i (made_count s o) ≡ true) (pool_found t fits sound p l)
        (accepted_stirs t s q n fits (eqb-true (first_refusal (refusals t s q n)) 0 y))

    none_accepted : stirred ≡ false → (f b : ℕ) (g : Tuple) → accepted t s q (step_name t p i e f b g) ≡ false
    none_accepted o f b g = by_test (accepted t s q (step_name t p i e f b g)) (λ y. absurd (false≢true (sym o ∙ accepted_stirred f b g y))) (λ y. y)

    phase_nothing : (f : ℕ) → ((b : ℕ) (g : Tuple) → accepted t s q (step_name t p i e f b g) ≡ false) → those (accepted t s q) (by_phase t q p i e f) ≡ []
    unfolding by_phase by_branch by_place
    phase_nothing f o =
        those-joined_nothing (accepted t s q) (by_branch t q p i e f) (branch_count (element_at t p e) (move_at t p e f))
        (λ b. those-joined_nothing (accepted t s q) (by_place t q p i e f b) (queue_places (move_at t p e f) q (message_name (element_at t p e) b))
        (λ k. those_named_nothing (accepted t s q) (step_name t p i e f b) (values_at (move_at t p e f) q (message_name (element_at t p e) b) k) (o b)))

    pub nothing_there : stirred ≡ false → those (accepted t s q) (by_element t q p i e) ≡ []
    unfolding by_element
    nothing_there o = those-joined_nothing (accepted t s q) (by_phase t q p i e) phases (λ f. phase_nothing f (none_accepted o f))

    -- A PHASE without a move has no accepted name
    accepted_moves : (f b : ℕ) (g : Tuple) → accepted t s q (step_name t p i e f b g) ≡ true → (move_at t p e f).kind ≡ 0 → ⊥
    unfolding accepted step_name element_named move_named
    accepted_moves f b g y =
        let n : Name = step_name t p i e f b g in
        subst (λ o. (move_at t o e f).kind ≡ 0 → ⊥) (pool_found t fits sound p l) (here t s q n fits (eqb-true (first_refusal (refusals t s q n)) 0 y)).move

    phase_is : (f : ℕ) → those (accepted t s q) (by_phase t q p i e f) ≡ scan_phase t s q p i e f
    unfolding scan_phase
    phase_is f =
        by_choice (λ (ns : List Name). those (accepted t s q) (by_phase t q p i e f) ≡ ns) (eqb (move_at t p e f).kind 0) [] (those (accepted t s q) (by_phase t q p i e f))
        (λ z. phase_nothing f (λ b g. by_test (accepted t s q (step_name t p i e f b g)) (λ y. absurd (accepted_moves f b g y (eqb-true (move_at t p e f).kind 0 z))) (λ y. y)))
        (λ z. refl)

    phases_are : those (accepted t s q) (by_element t q p i e) ≡ joined (scan_phase t s q p i e) phases
    unfolding by_element
    phases_are =
        those-joined (accepted t s q) (by_phase t q p i e) phases
        ∙ joined_ext (λ f. those (accepted t s q) (by_phase t q p i e f)) (scan_phase t s q p i e) phases (λ f r. phase_is f)

    element_is : those (accepted t s q) (by_element t q p i e) ≡ scan_element t s q p i e
    unfolding scan_element
    element_is = by_choice (λ (ns : List Name). those (accepted t s q) (by_element t q p i e) ≡ ns) stirred (joined (scan_phase t s q p i e) phases) [] (λ o. phases_are) nothing_there

  -- LEVEL BY LEVEL
  instance_is : (p : ℕ) → p < pool_count t → (i : ℕ) → those (accepted t s q) (by_instance t q p i) ≡ scan_instance t s q p i
  unfolding by_instance scan_instance
  instance_is p l i =
      those-joined (accepted t s q) (by_element t q p i) (element_count t p)
      ∙ joined_ext (λ e. those (accepted t s q) (by_element t q p i e)) (scan_element t s q p i) (element_count t p) (λ e r. element_is p l i e)

  -- AN INSTANCE that is still
  still_nothing : (p : ℕ) → p < pool_count t → (i : ℕ) → still s p i ≡ true → those (accepted t s q) (by_instance t q p i) ≡ []
  unfolding by_instance still
  still_nothing p l i o =
      let made = ltb-true i (made_count s p) (and_left (ltb i (made_count s p)) (is_finished (instance_at s p i)) o) in
      let none = and_right (ltb i (made_count s p)) (is_finished (instance_at s p i)) o in
      those-joined (accepted t s q) (by_element t q p i) (element_count t p)
      ∙ joined_ext (λ e. those (accepted t s q) (by_element t q p i e)) (λ e. []) (element_count t p)
      (λ e r. nothing_there p l i e (quiet_stirs (element_at t p e) (instance_at s p i) i (made_count s p) (element_fits_lem t fits p l e r) none made))
      ∙ joined_nothing (λ e. []) (element_count t p) (λ e. refl)

  made_is : (p : ℕ) → p < pool_count t → (i : ℕ) → those (accepted t s q) (by_instance t q p i) ≡ scan_made t s q p i
  unfolding scan_made
  made_is p l i =
      by_choice (λ (ns : List Name). those (accepted t s q) (by_instance t q p i) ≡ ns) (still s p i) [] (scan_instance t s q p i) (still_nothing p l i) (λ o. instance_is p l i)

  pool_is : (p : ℕ) → p < pool_count t → those (accepted t s q) (by_pool t s q p) ≡ scan_pool t s q p
  unfolding by_pool scan_pool
  pool_is p l =
      those-joined (accepted t s q) (by_instance t q p) (made_count s p + 1)
      ∙ joined_ext (λ i. those (accepted t s q) (by_instance t q p i)) (scan_made t s q p) (made_count s p + 1) (λ i r. made_is p l i)

  -- THE LISTING
  pub scanned_is : scanned t s q ≡ listed t s q
  unfolding scanned listed step_names
  scanned_is =
      sym (those-joined (accepted t s q) (by_pool t s q) (pool_count t)
      ∙ joined_ext (λ p. those (accepted t s q) (by_pool t s q p)) (scan_pool t s q) (pool_count t) pool_is)
