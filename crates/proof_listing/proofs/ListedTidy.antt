-- The names of the listing have 0 behind their values, so that no two of them differ only there: "equal messages appear once". Assumes nothing.
use Prim.Native.Nat.{ℕ, ◌+◌, ◌<◌}
use mathlib.Core.Path.{◌≡◌, sym, ◌∙◌, ap, subst}
use mathlib.Core.Bool.{Bool, true, false}
use mathlib.Core.List.{List, [], ◌∷◌}
use mathlib.Core.Logic.{◌⊎◌, ⊎_elim}
use lib.Dec.{eqb}
use borrow.Author.Tests.{eqb-true}
use Rattle.base_words.specs.Each.{tab}
use Rattle.base_kinds.specs.declared.moves.Move.{Move}
use Rattle.base_kinds.specs.Moves.{on, phases}
use Rattle.base_table.specs.Table.{pool_count, element_count, element_at, message_name}
use Rattle.base_state.specs.Instances.{made_count}
use Rattle.check_limits.specs.Limits.{table_fits}
use Rattle.check_model.specs.Checks.{lowest}
use Rattle.check_lowest.specs.Model.{model_of}
use Rattle.state_fits.specs.Fits.{queue_fits, state_fits}
use Rattle.meaning.specs.declared.Tuple.{Tuple}
use Rattle.meaning.specs.declared.Name.{Name}
use Rattle.meaning.specs.Tuples.{empty, same_tuple}
use Rattle.meaning.specs.Messages.{has}
use Rattle.meaning.specs.Queues.{message_count, message_at, tidied}
use Rattle.meaning.specs.Requirements.{branch_count}
use Rattle.meaning.specs.Refusals.{first_refusal}
use Rattle.meaning.specs.Step.{site_of, element_named, move_named, refusals}
use Rattle.step_names.specs.Names.{offered, step_name, accepted}
use Rattle.step_list.specs.Listing.{queue_places, values_at, move_at, by_place, by_branch, by_phase, by_element, by_instance, by_pool, step_names, listed, chosen}
use Rattle.proof_steps.proofs.Choices.{by_test, passed, chosen as picked}
use Rattle.proof_steps.proofs.Traffic.{state_queues, received_name}
use Rattle.proof_listing.proofs.Members.{member, joined_member, those_member, chosen_member}
use Rattle.proof_listing.proofs.PoolFound.{pool_found}
use Rattle.proof_listing.proofs.SameValues.{with_given}
use Rattle.proof_listing.proofs.ListedAll.{tidied_equal, tidied-empty, message_tidy}
use Rattle.proof_listing.proofs.ListedOnce.{named_member, listed-once}

-- THE VALUES AT A QUEUE PLACE, of a queue that fits where the move receives
values_tidy : (m : Move) (q : List ℕ) (c k : ℕ) (g : Tuple) → (eqb m.receives on ≡ true → queue_fits q c ≡ true) → k < queue_places m q c → member g (values_at m q c k) → tidied g ≡ g
unfolding queue_places values_at offered member
values_tidy m q c k g fit l h = by_test (eqb m.receives on) received plain
  where
    v : Tuple
    v = message_at q c k

    older : Bool
    older = has v (tab (message_at q c) k)

    same : (x : Tuple) → tidied x ≡ x → g ≡ x → tidied g ≡ g
    same x e p = subst (λ y. tidied y ≡ y) (sym p) e

    received : eqb m.receives on ≡ true → tidied g ≡ g
    received o =
        let r : k < message_count q c = subst (λ n. k < n) (picked (eqb m.receives on) (message_count q c) 1 o) l in
        let w : member g (offered q c k) = subst (member g) (picked (eqb m.receives on) (offered q c k) (empty ∷ []) o) h in
        by_test older
        (λ y. absurd (subst (member g) (picked older [] (v ∷ []) y) w))
        (λ y. ⊎_elim (λ e. same v (message_tidy q c (fit o) k r) e) (λ z. absurd z) (subst (member g) (passed older [] (v ∷ []) y) w))

    plain : eqb m.receives on ≡ false → tidied g ≡ g
    plain o = ⊎_elim (λ e. same empty tidied-empty e) (λ z. absurd z) (subst (member g) (passed (eqb m.receives on) (offered q c k) (empty ∷ []) o) h)

module _ (t s q : List ℕ) (fits : table_fits t ≡ true) (sound : lowest (model_of t) ≡ 0) (state : state_fits t s q ≡ true) where
  -- an accepted name, by the place of its pool
  queue_fits_lem : (p i e f b : ℕ) (g : Tuple) → p < pool_count t → accepted t s q (step_name t p i e f b g) ≡ true
      → eqb (move_at t p e f).receives on ≡ true → queue_fits q (message_name (element_at t p e) b) ≡ true
  unfolding accepted site_of move_named element_named step_name
  queue_fits_lem p i e f b g l a =
      let n : Name = step_name t p i e f b g in
      subst (λ o. eqb (move_at t o e f).receives on ≡ true → queue_fits q (message_name (element_at t o e) b) ≡ true) (pool_found t fits sound p l)
      (λ r. state_queues t s q state _ (received_name t s q n fits (eqb-true (first_refusal (refusals t s q n)) 0 a) r))

  -- level by level: x is a name
  module _ (x : Name) (a : accepted t s q x ≡ true) where
    place_tidy : (p i e f b k : ℕ) → p < pool_count t → k < queue_places (move_at t p e f) q (message_name (element_at t p e) b) → member x (by_place t q p i e f b k) → tidied x.given ≡ x.given
    unfolding by_place step_name
    place_tidy p i e f b k l r h =
        let c : ℕ = message_name (element_at t p e) b in
        let n = named_member (step_name t p i e f b) x (values_at (move_at t p e f) q c k) h in
        let g : x.given ≡ n.0 = ap (λ (y : Name). y.given) n.2 in
        subst (λ (y : Tuple). tidied y ≡ y) (sym g)
        (values_tidy (move_at t p e f) q c k n.0 (queue_fits_lem p i e f b n.0 l (subst (λ (y : Name). accepted t s q y ≡ true) n.2 a)) r n.1)

    branch_tidy : (p i e f b : ℕ) → p < pool_count t → member x (by_branch t q p i e f b) → tidied x.given ≡ x.given
    unfolding by_branch
    branch_tidy p i e f b l h =
        let z = joined_member (by_place t q p i e f b) x (queue_places (move_at t p e f) q (message_name (element_at t p e) b)) h in
        place_tidy p i e f b z.0 l z.1 z.2

    element_tidy : (p i e : ℕ) → p < pool_count t → member x (by_element t q p i e) → tidied x.given ≡ x.given
    unfolding by_element by_phase
    element_tidy p i e l h =
        let y = joined_member (by_phase t q p i e) x phases h in
        let z = joined_member (by_branch t q p i e y.0) x (branch_count (element_at t p e) (move_at t p e y.0)) y.2 in
        branch_tidy p i e y.0 z.0 l z.2

    pool_tidy : (p : ℕ) → p < pool_count t → member x (by_pool t s q p) → tidied x.given ≡ x.given
    unfolding by_pool by_instance
    pool_tidy p l h =
        let y = joined_member (by_instance t q p) x (made_count s p + 1) h in
        let z = joined_member (by_element t q p y.0) x (element_count t p) y.2 in
        element_tidy p y.0 z.0 l z.2

    name_tidy : member x (step_names t s q) → tidied x.given ≡ x.given
    unfolding step_names
    name_tidy h = let z = joined_member (by_pool t s q) x (pool_count t) h in pool_tidy z.0 z.1 z.2

  -- THE LISTING
  pub listed_tidy : (k : ℕ) → (chosen (listed t s q) k).number ≡ 0 → tidied (chosen (listed t s q) k).name.given ≡ (chosen (listed t s q) k).name.given
  unfolding listed
  listed_tidy k e =
      let x : Name = (chosen (listed t s q) k).name in
      let m = those_member (accepted t s q) x (step_names t s q) (chosen_member (listed t s q) k e) in
      name_tidy x m.0 m.1

  -- two that agree but for equal values are one
  pub listed_apart : (j k : ℕ) → (chosen (listed t s q) j).number ≡ 0 → (chosen (listed t s q) k).number ≡ 0
      → with_given (chosen (listed t s q) j).name empty ≡ with_given (chosen (listed t s q) k).name empty
      → same_tuple (chosen (listed t s q) j).name.given (chosen (listed t s q) k).name.given ≡ true → j ≡ k
  listed_apart j k e h rest same =
      let x : Name = (chosen (listed t s q) j).name in
      let y : Name = (chosen (listed t s q) k).name in
      let g : x.given ≡ y.given = sym (listed_tidy j e) ∙ tidied_equal x.given y.given same ∙ listed_tidy k h in
      let n : x ≡ y = λ d. with_given (rest d) (g d) in
      let number : (chosen (listed t s q) j).number ≡ (chosen (listed t s q) k).number = e ∙ sym h in
      listed-once t s q fits sound j k e (λ d. record { number = number d; name = n d })
