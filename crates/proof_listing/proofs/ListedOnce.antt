-- No step stands twice in the listing: t is a table within the limits that breaks no check. Assumes nothing.
use Prim.Native.Nat.{ℕ, ◌+◌, ◌≤◌, ◌<◌}
use mathlib.Core.Path.{◌≡◌, refl, sym, ◌∙◌, ap, subst}
use mathlib.Core.Bool.{Bool, true, false}
use mathlib.Core.List.{List, [], ◌∷◌}
use mathlib.Core.Logic.{◌⊎◌, inl, inr, ⊎_elim}
use native.Mathlib.Omega.{arith}
use lib.Dec.{eqb}
use borrow.Author.Tests.{ltb-false}
use Rattle.base_words.specs.Each.{tab}
use Rattle.base_words.specs.Seek.{seek}
use Rattle.base_words.specs.Words.{at}
use Rattle.base_words.proofs.SeekLaws.{sought, seek_found}
use Rattle.base_kinds.specs.declared.moves.Move.{Move}
use Rattle.base_kinds.specs.Moves.{on, phases}
use Rattle.base_table.specs.Places.{pool_place}
use Rattle.base_table.specs.Table.{pool_count, element_count, element_at, pool_of, message_name}
use Rattle.base_state.specs.Instances.{made_count}
use Rattle.check_limits.specs.Limits.{table_fits}
use Rattle.check_model.specs.Checks.{lowest}
use Rattle.check_lowest.specs.Model.{model_of}
use Rattle.meaning.specs.declared.Tuple.{Tuple}
use Rattle.meaning.specs.declared.Name.{Name}
use Rattle.meaning.specs.Tuples.{empty}
use Rattle.meaning.specs.Messages.{has}
use Rattle.meaning.specs.Queues.{message_count, message_at}
use Rattle.meaning.specs.Requirements.{branch_count}
use Rattle.step_queues.specs.Changes.{message_is, oldest}
use Rattle.step_queues.proofs.MessageLaws.{seek-has}
use Rattle.step_values.proofs.TupleLaws.{same_refl}
use Rattle.step_names.specs.Names.{offered, step_name, named_by, accepted}
use Rattle.step_list.specs.Listing.{queue_places, values_at, move_at, by_place, by_branch, by_phase, by_element, by_instance, by_pool, step_names, listed, chosen}
use Rattle.proof_steps.proofs.Choices.{by_test, by_choice, passed, chosen as picked}
use Rattle.proof_listing.proofs.Members.{member, once, joined_member, once_joined, once_those, chosen_once}
use Rattle.proof_listing.proofs.PoolFound.{pool_found}

-- AT MOST ONE TUPLE at a queue place
once_none : (name : Tuple → Name) → once (named_by name [])
unfolding once named_by
once_none name = tt

once_one : (name : Tuple → Name) (g : Tuple) → once (named_by name (g ∷ []))
unfolding once named_by member
once_one name g = ((λ h. h), tt)

once_values : (name : Tuple → Name) (m : Move) (q : List ℕ) (c k : ℕ) → once (named_by name (values_at m q c k))
unfolding values_at offered
once_values name m q c k =
    by_choice (λ (gs : List Tuple). once (named_by name gs)) (eqb m.receives on) (offered q c k) (empty ∷ [])
    (λ e. by_choice (λ (gs : List Tuple). once (named_by name gs)) (has (message_at q c k) (tab (message_at q c) k)) [] (message_at q c k ∷ []) (λ o. once_none name) (λ o. once_one name (message_at q c k)))
    (λ e. once_one name empty)

pub named_member : (name : Tuple → Name) (x : Name) (gs : List Tuple) → member x (named_by name gs) → (g : Tuple) × member g gs × (x ≡ name g)
unfolding member named_by
named_member name x [] h = absurd h
named_member name x (g ∷ gs) h = ⊎_elim (λ e. (g, inl refl, e)) (λ r. let z = named_member name x gs r in (z.0, inr z.1, z.2)) h

-- a message offered at place k is the oldest equal one there
module _ (q : List ℕ) (c k : ℕ) where
  abbrev v : Tuple
  v = message_at q c k

  abbrev older : Bool
  older = has v (tab (message_at q c) k)

  oldest_place : k < message_count q c → older ≡ false → oldest q c v ≡ k
  unfolding oldest message_is
  oldest_place l o =
      let r : k ≤ seek (message_is q c v) k = ltb-false (seek (message_is q c v) k) k (seek-has v (message_at q c) k ∙ o) in
      sym (seek_found (message_is q c v) (message_count q c) k l (omega (arith, r, (sought (message_is q c v) k).0)) (same_refl v))

  offered_place : (g : Tuple) → k < message_count q c → member g (offered q c k) → oldest q c g ≡ k
  unfolding offered member
  offered_place g l h =
      by_test older
      (λ o. absurd (subst (member g) (picked older [] (v ∷ []) o) h))
      (λ o. ⊎_elim (λ e. ap (oldest q c) e ∙ oldest_place l o) (λ r. absurd r) (subst (member g) (passed older [] (v ∷ []) o) h))

module _ (t s q : List ℕ) where
  -- WHAT STANDS AT A LEVEL says where: x is a name
  module _ (x : Name) where
    place_is : (p i e f b k : ℕ) → member x (by_place t q p i e f b k) → x ≡ step_name t p i e f b x.given
    unfolding by_place step_name
    place_is p i e f b k h =
        let z = named_member (step_name t p i e f b) x (values_at (move_at t p e f) q (message_name (element_at t p e) b) k) h in
        z.2 ∙ ap (step_name t p i e f b) (sym (ap (λ (y : Name). y.given) z.2))

    branch_is : (p i e f b : ℕ) → member x (by_branch t q p i e f b) → x ≡ step_name t p i e f b x.given
    unfolding by_branch
    branch_is p i e f b h =
        let z = joined_member (by_place t q p i e f b) x (queue_places (move_at t p e f) q (message_name (element_at t p e) b)) h in
        place_is p i e f b z.0 z.2

    phase_is : (p i e f : ℕ) → member x (by_phase t q p i e f) → x ≡ step_name t p i e f x.branch x.given
    unfolding by_phase step_name
    phase_is p i e f h =
        let z = joined_member (by_branch t q p i e f) x (branch_count (element_at t p e) (move_at t p e f)) h in
        let w = branch_is p i e f z.0 z.2 in
        w ∙ ap (λ b. step_name t p i e f b x.given) (sym (ap (λ (y : Name). y.branch) w))

    element_is : (p i e : ℕ) → member x (by_element t q p i e) → x ≡ step_name t p i e x.phase x.branch x.given
    unfolding by_element step_name
    element_is p i e h =
        let z = joined_member (by_phase t q p i e) x phases h in
        let w = phase_is p i e z.0 z.2 in
        w ∙ ap (λ f. step_name t p i e f x.branch x.given) (sym (ap (λ (y : Name). y.phase) w))

    instance_is : (p i : ℕ) → member x (by_instance t q p i) → x ≡ step_name t p i x.element x.phase x.branch x.given
    unfolding by_instance step_name
    instance_is p i h =
        let z = joined_member (by_element t q p i) x (element_count t p) h in
        let w = element_is p i z.0 z.2 in
        w ∙ ap (λ e. step_name t p i e x.phase x.branch x.given) (sym (ap (λ (y : Name). y.element) w))

    pool_is : (p : ℕ) → member x (by_pool t s q p) → x.pool ≡ at t (pool_place p)
    unfolding by_pool step_name
    pool_is p h =
        let z = joined_member (by_instance t q p) x (made_count s p + 1) h in
        ap (λ (y : Name). y.pool) (instance_is p z.0 z.2)

  -- NOTHING TWICE, level by level
  once_place : (p i e f b k : ℕ) → once (by_place t q p i e f b k)
  unfolding by_place
  once_place p i e f b k = once_values (step_name t p i e f b) (move_at t p e f) q (message_name (element_at t p e) b) k

  once_branch : (p i e f b : ℕ) → once (by_branch t q p i e f b)
  unfolding by_branch by_place queue_places values_at step_name
  once_branch p i e f b =
      by_test (eqb m.receives on)
      (λ o.
      once_joined (by_place t q p i e f b) (λ (x : Name). oldest q c x.given) (queue_places m q c)
      (λ k l x h. let z = named_member (step_name t p i e f b) x (values_at m q c k) h in
      ap (λ (y : Name). oldest q c y.given) z.2
      ∙ offered_place q c k z.0 (subst (λ n. k < n) (picked (eqb m.receives on) (message_count q c) 1 o) l) (subst (member z.0) (picked (eqb m.receives on) (offered q c k) (empty ∷ []) o) z.1))
      (λ k l. once_place p i e f b k))
      (λ o.
      once_joined (by_place t q p i e f b) (λ (x : Name). 0) (queue_places m q c)
      (λ k l x h. omega (arith, subst (λ n. k < n) (passed (eqb m.receives on) (message_count q c) 1 o) l))
      (λ k l. once_place p i e f b k))
    where
      m : Move
      m = move_at t p e f

      c : ℕ
      c = message_name (element_at t p e) b

  once_phase : (p i e f : ℕ) → once (by_phase t q p i e f)
  unfolding by_phase step_name
  once_phase p i e f =
      once_joined (by_branch t q p i e f) (λ (x : Name). x.branch) (branch_count (element_at t p e) (move_at t p e f))
      (λ b l x h. ap (λ (y : Name). y.branch) (branch_is x p i e f b h))
      (λ b l. once_branch p i e f b)

  once_element : (p i e : ℕ) → once (by_element t q p i e)
  unfolding by_element step_name
  once_element p i e =
      once_joined (by_phase t q p i e) (λ (x : Name). x.phase) phases
      (λ f l x h. ap (λ (y : Name). y.phase) (phase_is x p i e f h))
      (λ f l. once_phase p i e f)

  once_instance : (p i : ℕ) → once (by_instance t q p i)
  unfolding by_instance step_name
  once_instance p i =
      once_joined (by_element t q p i) (λ (x : Name). x.element) (element_count t p)
      (λ e l x h. ap (λ (y : Name). y.element) (element_is x p i e h))
      (λ e l. once_element p i e)

  once_pool : (p : ℕ) → once (by_pool t s q p)
  unfolding by_pool step_name
  once_pool p =
      once_joined (by_instance t q p) (λ (x : Name). x.instance) (made_count s p + 1)
      (λ i l x h. ap (λ (y : Name). y.instance) (instance_is x p i h))
      (λ i l. once_instance p i)

  module _ (fits : table_fits t ≡ true) (sound : lowest (model_of t) ≡ 0) where
    once_names : once (step_names t s q)
    unfolding step_names
    once_names =
        once_joined (by_pool t s q) (λ (x : Name). pool_of t x.pool) (pool_count t)
        (λ p l x h. ap (pool_of t) (pool_is x p h) ∙ pool_found t fits sound p l)
        (λ p l. once_pool p)

    -- THE LISTING
    pub listed-once : (j k : ℕ) → (chosen (listed t s q) j).number ≡ 0 → chosen (listed t s q) j ≡ chosen (listed t s q) k → j ≡ k
    unfolding listed
    listed-once = chosen_once (listed t s q) (once_those (accepted t s q) (step_names t s q) once_names)
