-- The listing is complete and nothing else: every accepted step is the k-th for some k, with 0 behind its values, and the k-th is accepted. Assumes nothing.
use Prim.Native.Nat.{ℕ, ◌+◌, ◌<◌}
use mathlib.Core.Path.{◌≡◌, refl, sym, ◌∙◌, ap, subst}
use mathlib.Core.Bool.{true, false, false≢true}
use mathlib.Core.List.{List, [], ◌∷◌}
use mathlib.Core.Logic.{◌⊎◌, inl, inr, ⊎_elim}
use native.Mathlib.Omega.{arith}
use lib.Dec.{eqb, leb, ltb}
use borrow.Author.Tests.{eqb-true, eq-eqb, ltb-true}
use Rattle.base_words.specs.All.{all}
use Rattle.base_words.specs.Each.{tab}
use Rattle.base_words.specs.Pick.{if◌then◌or_else◌}
use Rattle.base_words.specs.Words.{at}
use Rattle.base_words.specs.Counts.{values, messages}
use Rattle.base_words.proofs.AllLaws.{and_left, and_right, all_at}
use Rattle.base_words.proofs.SeekLaws.{sought}
use Rattle.base_kinds.specs.declared.moves.Move.{Move}
use Rattle.base_kinds.specs.Moves.{on, making, phases}
use Rattle.base_table.specs.Places.{pool_place}
use Rattle.base_table.specs.Table.{pool_count, element_count, has_number, pool_of, kind_in, mode_in, message_name}
use Rattle.base_state.specs.Instances.{made_count}
use Rattle.check_limits.specs.Limits.{table_fits}
use Rattle.meaning.specs.declared.Tuple.{Tuple}
use Rattle.meaning.specs.declared.Name.{Name}
use Rattle.meaning.specs.declared.Evaluated.{Evaluated}
use Rattle.meaning.specs.Tuples.{empty, value_of, same_tuple}
use Rattle.meaning.specs.Messages.{has}
use Rattle.meaning.specs.Queues.{message_count, value_at, message_at, messages_of, tidied}
use Rattle.meaning.specs.Requirements.{branch_count, instance_named}
use Rattle.meaning.specs.Changes.{expected}
use Rattle.meaning.specs.Refusals.{first_refusal}
use Rattle.meaning.specs.Step.{site_of, pool_named, element_named, move_named, receives, template, matches, refusals}
use Rattle.step_queues.specs.Changes.{message_is, oldest}
use Rattle.step_queues.proofs.MessageLaws.{seek-has}
use Rattle.step_queues.proofs.QueueLaws.{present_is}
use Rattle.step_values.proofs.TupleLaws.{same_length, same_value, same_sym, same_trans}
use Rattle.state_fits.specs.Fits.{slot_fits, queue_fits, state_fits}
use Rattle.step_names.specs.Names.{offered, step_name, named_by, accepted}
use Rattle.step_list.specs.Listing.{queue_places, values_at, by_place, by_branch, by_phase, by_element, by_instance, by_pool, step_names, listed, chosen}
use Rattle.proof_steps.proofs.Choices.{by_test, passed, chosen as picked, chosen_true}
use Rattle.proof_steps.proofs.Found.{Found}
use Rattle.proof_steps.proofs.MadeAfter.{named_made}
use Rattle.proof_steps.proofs.Traffic.{here, site, state_queues, received_name, received_there}
use Rattle.proof_listing.proofs.Members.{member, member_joined, member_those, those_member, member_chosen, chosen_member}
use Rattle.proof_listing.proofs.MoveRows.{phase_few}
use Rattle.proof_listing.proofs.SameValues.{with_given, accepted_same}

-- TIDY VALUES: equal tuples are the same with 0 behind their values, and a message of a queue that fits has 0 there
pub tidied_equal : (g k : Tuple) → same_tuple g k ≡ true → tidied g ≡ tidied k
unfolding tidied
tidied_equal g k e =
    let v : (j : ℕ) → value_of g j ≡ value_of k j = same_value g k e in
    λ i. record { length = same_length g k e i; values = v 0 i ∷ v 1 i ∷ v 2 i ∷ v 3 i ∷ [] }

pub tidied-empty : tidied empty ≡ empty
unfolding tidied value_of if◌then◌or_else◌
tidied-empty = refl

pub message_tidy : (q : List ℕ) (m : ℕ) → queue_fits q m ≡ true → (k : ℕ) → k < message_count q m → tidied (message_at q m k) ≡ message_at q m k
unfolding queue_fits slot_fits tidied
message_tidy q m fit k l =
    let c : slot_fits q m k ≡ true = all_at (slot_fits q m) (message_count q m) (and_right (leb (message_count q m) messages) _ (and_left _ _ fit)) k l in
    let w = and_right (leb (message_at q m k).length values) (all (λ j. eqb (value_at q m k j) (value_of (message_at q m k) j)) values) c in
    let v : (j : ℕ) → j < values → value_of (message_at q m k) j ≡ value_at q m k j = λ j r. sym (eqb-true (value_at q m k j) (value_of (message_at q m k) j) (all_at (λ j. eqb (value_at q m k j) (value_of (message_at q m k) j)) values w j r)) in
    rw (v 0 (omega arith), v 1 (omega arith), v 2 (omega arith), v 3 (omega arith))

-- THE OLDEST EQUAL MESSAGE is offered
offered-oldest : (q : List ℕ) (m : ℕ) (g : Tuple) → has g (messages_of q m) ≡ true
    → (oldest q m g < message_count q m) × (same_tuple (message_at q m (oldest q m g)) g ≡ true) × (offered q m (oldest q m g) ≡ message_at q m (oldest q m g) ∷ [])
unfolding oldest message_is offered
offered-oldest q m g h =
    let k : ℕ = oldest q m g in
    let found = sought (message_is q m g) (message_count q m) in
    let l : k < message_count q m = ltb-true k (message_count q m) (present_is q m g ∙ h) in
    let same : same_tuple (message_at q m k) g ≡ true = found.1 l in
    let v : Tuple = message_at q m k in
    let older = sought (message_is q m v) k in
    let none : has v (tab (message_at q m) k) ≡ false = by_test (has v (tab (message_at q m) k))
    (λ y. let r = ltb-true _ k (seek-has v (message_at q m) k ∙ y) in
    absurd (false≢true (sym (found.2 _ r) ∙ same_trans (message_at q m _) v g (older.1 r) same)))
    (λ y. y) in
    (l, same, passed (has v (tab (message_at q m) k)) [] (v ∷ []) none)

member_named : (name : Tuple → Name) (g : Tuple) (gs : List Tuple) → member g gs → member (name g) (named_by name gs)
unfolding member named_by
member_named name g [] h = absurd h
member_named name g (k ∷ gs) h = ⊎_elim (λ e. inl (ap name e)) (λ r. inr (member_named name g gs r)) h

module _ (t s q : List ℕ) (n : Name) (fits : table_fits t ≡ true) (state : state_fits t s q ≡ true) (allowed : first_refusal (refusals t s q n) ≡ 0) where
  abbrev p : ℕ
  p = pool_named t n

  abbrev el : List ℕ
  el = element_named t n

  abbrev m : Move
  m = move_named t n

  abbrev name : ℕ
  name = message_name el n.branch

  f : Found t s n
  f = here t s q n fits allowed

  -- ITS VALUES stand at a queue place, with 0 behind them
  abbrev There : Type 0
  There = (k : ℕ) × (v : Tuple) × (k < queue_places m q name) × member v (values_at m q name k) × (same_tuple v n.given ≡ true) × (tidied v ≡ v)

  received_given : eqb m.receives on ≡ true → There
  unfolding queue_places values_at site_of member
  received_given e =
      let o = offered-oldest q name n.given (received_there t s q n fits allowed e) in
      let k : ℕ = oldest q name n.given in
      let v : Tuple = message_at q name k in (
        k,
        v,
        subst (λ c. k < c) (sym (picked (eqb m.receives on) (message_count q name) 1 e)) o.0,
        subst (member v) (sym (picked (eqb m.receives on) (offered q name k) (empty ∷ []) e ∙ o.2)) (inl refl),
        o.1,
        message_tidy q name (state_queues t s q state name (received_name t s q n fits allowed e)) k o.0,
      )

  plain_given : eqb m.receives on ≡ false → There
  unfolding queue_places values_at site_of member matches template expected
  plain_given e = (
    0,
    empty,
    subst (λ c. 0 < c) (sym (passed (eqb m.receives on) (message_count q name) 1 e)) (omega arith),
    subst (member empty) (sym (passed (eqb m.receives on) (offered q name 0) (empty ∷ []) e)) (inl refl),
    subst (λ (v : Evaluated). same_tuple v.tuple n.given ≡ true) (passed (eqb m.receives on) _ (record { defined = true; tuple = empty }) e) (site t s q n fits allowed).matched,
    tidied-empty,
  )

  given_there : There
  given_there = by_test (eqb m.receives on) received_given plain_given

  -- its pool number, its phase and its instance
  number_is : at t (pool_place p) ≡ n.pool
  unfolding pool_of has_number
  number_is = eqb-true (at t (pool_place p)) n.pool ((sought (has_number t n.pool) (pool_count t)).1 f.pool)

  phase_there : n.phase < phases
  unfolding move_named
  phase_there = phase_few (kind_in el) (mode_in el) n.phase f.move

  instance_there : n.instance < made_count s p + 1
  unfolding instance_named
  instance_there =
      by_test (eqb m.also making)
      (λ e. omega (arith, eqb-true n.instance (made_count s p) (chosen_true (eqb m.also making) (eqb n.instance (made_count s p)) (ltb n.instance (made_count s p)) f.instance e)))
      (λ e. omega (arith, named_made t s n f e))

  -- AMONG THE NAMES, level by level
  tidy_member : member (with_given n (tidied n.given)) (step_names t s q)
  unfolding step_names by_pool by_instance by_element by_phase by_branch by_place step_name element_named move_named
  tidy_member =
      let z = given_there in
      let v : Tuple = z.1 in
      let w : v ≡ tidied n.given = sym z.5 ∙ tidied_equal v n.given z.4 in
      let i : ℕ = n.instance in
      let e : ℕ = n.element in
      let c : ℕ = n.phase in
      let b : ℕ = n.branch in
      let whole : step_name t p i e c b v ≡ with_given n (tidied n.given) =
      λ d. record { pool = number_is d; instance = i; element = e; phase = c; branch = b; given = w d } in
      subst (λ y. member y (step_names t s q)) whole
      (member_joined (by_pool t s q) (step_name t p i e c b v) (pool_count t) p f.pool
      (member_joined (by_instance t q p) (step_name t p i e c b v) (made_count s p + 1) i instance_there
      (member_joined (by_element t q p i) (step_name t p i e c b v) (element_count t p) e f.element
      (member_joined (by_phase t q p i e) (step_name t p i e c b v) phases c phase_there
      (member_joined (by_branch t q p i e c) (step_name t p i e c b v) (branch_count el m) b f.branch
      (member_joined (by_place t q p i e c b) (step_name t p i e c b v) (queue_places m q name) z.0 z.2
      (member_named (step_name t p i e c b) v (values_at m q name z.0) z.3)))))))

  tidy_accepted : accepted t s q (with_given n (tidied n.given)) ≡ true
  unfolding accepted
  tidy_accepted =
      let z = given_there in
      let w : z.1 ≡ tidied n.given = sym z.5 ∙ tidied_equal z.1 n.given z.4 in
      let same : same_tuple n.given (tidied n.given) ≡ true = subst (λ g. same_tuple n.given g ≡ true) w (same_sym n.given z.1 ∙ z.4) in
      eq-eqb _ 0 (accepted_same t s q n (tidied n.given) same allowed)

-- THE LISTING: complete,
pub listed-all : (t s q : List ℕ) → table_fits t ≡ true → state_fits t s q ≡ true → (n : Name) → accepted t s q n ≡ true
    → (k : ℕ) × (chosen (listed t s q) k ≡ record { number = 0; name = with_given n (tidied n.given) })
unfolding listed accepted
listed-all t s q fits state n e =
    let a = eqb-true (first_refusal (refusals t s q n)) 0 e in
    let r : Name = with_given n (tidied n.given) in
    member_chosen r (listed t s q) (member_those (accepted t s q) r (step_names t s q) (tidy_accepted t s q n fits state a) (tidy_member t s q n fits state a))

-- and nothing else
pub listed-accepted : (t s q : List ℕ) (k : ℕ) → (chosen (listed t s q) k).number ≡ 0 → accepted t s q (chosen (listed t s q) k).name ≡ true
unfolding listed
listed-accepted t s q k e =
    (those_member (accepted t s q) (chosen (listed t s q) k).name (step_names t s q) (chosen_member (listed t s q) k e)).0
