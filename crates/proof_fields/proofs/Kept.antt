-- WHAT EVERY CALL KEEPS where no message carries values and no task assigns: the words of fields and stores are 0. Assumes nothing.
use Prim.Native.Nat.{ℕ, ◌+◌, ◌-◌, ◌*◌, ◌≤◌, ◌<◌}
use mathlib.Core.Path.{◌≡◌, refl, sym, ◌∙◌, ap, subst}
use mathlib.Core.Bool.{Bool, true, false, ◌||◌}
use mathlib.Core.List.{List, [], ◌∷◌, ◌++◌}
use mathlib.Core.Logic.{◌⊎◌, inl, inr}
use native.Mathlib.Decide.{dec_lt, ℕ_discrete}
use native.Mathlib.Omega.{arith}
use lib.Dec.{eqb, leb, ltb}
use lib.ListN.{length, set, take, replicate, length-replicate, get_or-replicate}
use lib.Seq.{get_or-set_other, get_or-take}
use borrow.Author.Tests.{eqb-true, eqb-false, eq-eqb, ne_eqb, leb-true, leb-false, ltb-true}
use Rattle.base_words.specs.All.{all}
use Rattle.base_words.specs.Counts.{pools, branches, values, instances, assignments}
use Rattle.base_words.specs.Words.{at}
use Rattle.base_words.specs.Sum.{hit, one_if}
use Rattle.base_words.proofs.AllLaws.{and_left}
use Rattle.base_words.proofs.IterLaws.{iter_keeps}
use Rattle.base_words.proofs.ListLaws.{length-tab, get_d_tab}
use Rattle.base_words.proofs.WritesLaws.{writes_above}
use Rattle.base_kinds.specs.declared.moves.Move.{Move}
use Rattle.base_kinds.specs.Kinds.{kind_of, used, many}
use Rattle.base_kinds.specs.Moves.{on, branch, making, clearing}
use Rattle.base_table.specs.Places.{form_place, binding, exits_place}
use Rattle.base_table.specs.Table.{pool_count, element_count, element_at, kind_in, task_in, entry_count, exit_count, entry_at, exit_at, message_length, item_at, assignment_count}
use Rattle.base_state.specs.Places.{token_place, active_place, ready_place, defined_place, instance_words, instance_place, made_place, store_words, shared_place, version_at, instances_words}
use Rattle.base_state.specs.Instances.{instances_of, queues_of}
use Rattle.base_state.specs.Versions.{is_version}
use Rattle.check_limits.specs.Limits.{element_fits, table_fits}
use Rattle.check_limits.proofs.SameLaws.{used_most}
use Rattle.meaning.specs.declared.Name.{Name}
use Rattle.meaning.specs.declared.Tuple.{Tuple}
use Rattle.meaning.specs.Refusals.{first_refusal}
use Rattle.meaning.specs.Requirements.{touched, first_touched}
use Rattle.meaning.specs.Templates.{binds, bind_one, bound}
use Rattle.meaning.specs.Assignments.{Assigned, assign_one, assigned}
use Rattle.meaning.specs.Changes.{received, worked, take_one, taken, active_changed, ready_changed, put_one, puts, cleared, moved}
use Rattle.meaning.specs.Step.{Site, site_of, pool_named, element_named, move_named, instance_of, shared_of, before, receives, sends, work, after_taking, instance_after, instances_after, refusals}
use Rattle.state_fits.specs.Fits.{state_fits, has_start}
use Rattle.state_fits.specs.Fresh.{fresh}
use Rattle.state_fits.proofs.FreshLaws.{Startable, Holds, first_place, Pools, pools_begun, pools_blank, pools_behind}
use Rattle.state_fits.proofs.FreshFits.{startable, fresh_word}
use Rattle.step_poll.specs.Items.{items_most, acts_in}
use Rattle.step_poll.specs.Poll.{Polling, polled_by, polled_from}
use Rattle.step_run.specs.Run.{ran}
use Rattle.proof_steps.proofs.Choices.{by_test, by_choice, chosen}
use Rattle.proof_steps.proofs.ChangesFit.{touched_within}
use Rattle.proof_steps.proofs.Elements.{task_few, entry_within, exit_within, fitting_parts, pools_few}
use Rattle.proof_steps.proofs.EveryStep.{Fitting}
use Rattle.proof_steps.proofs.Found.{Found, element_named_lem, message_there}
use Rattle.proof_steps.proofs.InstanceAfter.{branch_entry, branch_exit}
use Rattle.proof_steps.proofs.InstanceBefore.{pool_few}
use Rattle.proof_steps.proofs.KeepsFits.{instance_few}
use Rattle.proof_steps.proofs.OnlyOwn.{only_own, own_words, own_stores}
use Rattle.proof_steps.proofs.Seen.{seen_own, seen_shared}
use Rattle.proof_steps.proofs.Traffic.{here}
use Rattle.engine.specs.Engine.{valid, Left, asked_number, freshened, fitting, lent_number, RanTo, ended, ran_to}
use Rattle.engine.specs.Calls.{Act, a_step, a_post, did, after, Valid, polled_to}
use Rattle.engine.proofs.CallLaws.{asked_good}
use Rattle.engine.proofs.KeepsValid.{parts, did-valid}
use Rattle.proof_valid.proofs.ChecksHold.{valid_fits, starts_once}
use Rattle.proof_demands.specs.Demands.{Made, afresh, by_act, by_run, by_poll, run_steps, ran_given}
use Rattle.proof_demands.proofs.FirstDemand.{act_refused}
use Rattle.proof_demands.proofs.StatesLeft.{step_number, step_instances, post_instances}
use Rattle.proof_demands.proofs.RunSteps.{run_is_steps}
use Rattle.proof_demands.proofs.PollSteps.{state_after}
use Rattle.proof_demands.proofs.NeverBad.{made_valid}
use Rattle.proof_roundtrip.proofs.KindLaws.{kind_bounds, of_kind_lem}
use Rattle.proof_roundtrip.proofs.FitLaws.{fits_kind, edges_most}
use Rattle.proof_fields.specs.Quiet.{Quiet}

-- the words of fields and stores, as a step sees them, and in a state
pub record Blank (h : List ℕ) : Type 0 where
  pub word : (k : ℕ) → defined_place 0 ≤ k → k < instance_words + store_words → at h k ≡ 0

pub record Bare (s : List ℕ) : Type 0 where
  pub own : (p i k : ℕ) → p < pools → i < instances → defined_place 0 ≤ k → k < instance_words → at s (instance_place p i + k) ≡ 0
  pub shared : (k : ℕ) → k < store_words → at s (shared_place + k) ≡ 0

blank_set : (h : List ℕ) (i v : ℕ) → i < defined_place 0 → Blank h → Blank (set h i v)
blank_set h i v l b = record { word = λ k r u. get_or-set_other h i k v 0 (λ e. omega (arith, e, l, r)) ∙ b.word k r u }

-- a message that an element has stands at one of its eight places
low_messages : (k : ℕ) → 0 < k → k < 16 → (kind_of k).receives + (kind_of k).sends ≤ many
unfolding all kind_of
low_messages k l u = leb-true ((kind_of k).receives + (kind_of k).sends) many (of_kind_lem (λ j. leb ((kind_of j).receives + (kind_of j).sends) many) refl k l u)

low_exits : (k : ℕ) → 0 < k → k < 16 → (kind_of k).exits ≤ many
unfolding all kind_of
low_exits k l u = leb-true (kind_of k).exits many (of_kind_lem (λ j. leb (kind_of j).exits many) refl k l u)

few_messages : (el : List ℕ) → element_fits el ≡ true → used ((kind_of (kind_in el)).receives + (kind_of (kind_in el)).sends) (at el exits_place) ≤ branches
few_messages el h =
    let b = kind_bounds (kind_in el) (fits_kind el h) in
    used_most ((kind_of (kind_in el)).receives + (kind_of (kind_in el)).sends) (at el exits_place) (low_messages (kind_in el) b.0 b.1)
    (edges_most el (kind_of (kind_in el)).exits exits_place (fitting_parts el h).exits (low_exits (kind_in el) b.0 b.1))

-- AN ELEMENT without values or assignments
module _ (el : List ℕ) where
  blank_bound : (b : ℕ) (g : Tuple) → message_length el b ≡ 0 → (h : List ℕ) → Blank h → Blank (bound el b g h)
  unfolding bound bind_one binds
  blank_bound b g none h f =
      iter_keeps (bind_one el b g) h Blank values
      (λ j y l r. by_choice Blank (binds el b j) _ y (λ e. absurd (let z = ltb-true j (message_length el b) (and_left (ltb j (message_length el b)) (eqb (at (item_at el b j) form_place) binding) e) in omega (arith, z, none))) (λ e. r))
      f

  blank_assigned : assignment_count el ≡ 0 → (h : List ℕ) → Blank h → Blank (assigned el h).instance
  unfolding assigned assign_one
  blank_assigned none h f =
      iter_keeps (assign_one el) (record { defined = true; instance = h }) (λ (z : Assigned). Blank z.instance) assignments
      (λ j y l r. by_choice (λ (z : Assigned). Blank z.instance) (leb (assignment_count el) j) y _ (λ e. r) (λ e. absurd (let z = leb-false (assignment_count el) j e in omega (arith, z, none))))
      f

  module _ (fit : element_fits el ≡ true) (m : Move) (b : ℕ) where
    blank_taken : (m.takes ≡ branch → b < entry_count el) → (h : List ℕ) → Blank h → Blank (taken el m b h)
    unfolding taken take_one
    blank_taken few h f =
        iter_keeps (take_one el (first_touched m.takes b)) h Blank (touched m.takes (entry_count el))
        (λ j y l r. let p = entry_within el fit (first_touched m.takes b + j) (touched_within m.takes b (entry_count el) j few l) in blank_set y (token_place (entry_at el (first_touched m.takes b + j))) _ (omega (arith, p.1)) r)
        f

    blank_puts : (m.puts ≡ branch → b < exit_count el) → (h : List ℕ) → Blank h → Blank (puts el m b h)
    unfolding puts put_one
    blank_puts few h f =
        iter_keeps (put_one el (first_touched m.puts b)) h Blank (touched m.puts (exit_count el))
        (λ j y l r. let p = exit_within el fit (first_touched m.puts b + j) (touched_within m.puts b (exit_count el) j few l) in blank_set y (token_place (exit_at el (first_touched m.puts b + j))) _ (omega (arith, p.1)) r)
        f

    blank_counts : (h : List ℕ) → Blank h → Blank (ready_changed el m (active_changed el m h))
    unfolding ready_changed active_changed
    blank_counts h f =
        let t = task_few el fit in
        blank_set _ (ready_place (task_in el)) _ (omega (arith, t)) (blank_set h (active_place (task_in el)) _ (omega (arith, t)) f)

    blank_cleared : (h : List ℕ) → Blank h → Blank (cleared h)
    unfolding cleared
    blank_cleared h f = record { word = λ k l u. writes_above (λ j. 0) h 0 (defined_place 0) k (omega (arith, l)) ∙ f.word k l u }

    blank_moved : (m.puts ≡ branch → b < exit_count el) → (h : List ℕ) → Blank h → Blank (moved el m b h)
    unfolding moved
    blank_moved few h f = by_choice Blank (eqb m.also clearing) (cleared h) _ (λ e. blank_cleared h f) (λ e. blank_puts few _ (blank_counts h f))

module _ (t : List ℕ) (v : valid t ≡ true) (quiet : Quiet t) where
  fits : table_fits t ≡ true
  fits = valid_fits t v

  -- A STEP
  module _ (s q : List ℕ) (n : Name) (long : length s ≡ instances_words) (state : state_fits t s q ≡ true) (accepted : first_refusal (refusals t s q n) ≡ 0) (bare : Bare s) where
    abbrev x : Site
    x = site_of t s n

    abbrev el : List ℕ
    el = element_named t n

    abbrev m : Move
    m = move_named t n

    abbrev p : ℕ
    p = pool_named t n

    f : Found t s n
    f = here t s q n fits accepted

    few : p < pools
    few = pool_few t s q n fits state accepted

    few_instances : n.instance < instances
    few_instances = instance_few t s q n fits (starts_once t v) long state accepted

    right : element_fits el ≡ true
    right = element_named_lem t s n fits f

    -- what it sees
    seen_word : (own : List ℕ) → length own ≡ instance_words → ((k : ℕ) → defined_place 0 ≤ k → k < instance_words → at own k ≡ 0) → Blank (own ++ shared_of s)
    seen_word own l z = record { word = λ k a b. at_k k a b (dec_lt k instance_words) }
      where
        at_k : (k : ℕ) → defined_place 0 ≤ k → k < instance_words + store_words → Dec (k < instance_words) → at (own ++ shared_of s) k ≡ 0
        at_k k a b (yes r) = seen_own s own l k r ∙ z k a r
        at_k k a b (no r) =
            let e : k ≡ instance_words + (k - instance_words) = omega (arith, r) in
            ap (at (own ++ shared_of s)) e ∙ seen_shared s own l (k - instance_words) (omega (arith, b, r)) ∙ bare.shared (k - instance_words) (omega (arith, b, r))

    pub seen : Blank x.instance
    unfolding site_of before instance_of
    seen =
        by_choice (λ (own : List ℕ). Blank (own ++ shared_of s)) (eqb m.also making) (replicate instance_words 0) (instance_of s p n.instance)
        (λ e. seen_word (replicate instance_words 0) (length-replicate {A = ℕ} instance_words 0) (λ k a b. get_or-replicate instance_words k 0 0 b))
        (λ e. seen_word (instance_of s p n.instance) (length-tab (λ k. at s (instance_place p n.instance + k)) instance_words) (λ k a b. get_d_tab (λ k. at s (instance_place p n.instance + k)) instance_words k 0 b ∙ bare.own p n.instance k few few_instances a b))

    few_branches : receives x ≡ true → n.branch < branches
    few_branches e =
        let l = message_there t s n fits f (ap (λ (b : Bool). b || sends x) e) in
        let u = few_messages el right in
        omega (arith, l, u)

    no_values : receives x ≡ true → message_length el n.branch ≡ 0
    unfolding element_named
    no_values e = quiet.carries p n.element n.branch f.pool f.element (few_branches e)

    none_assigned : assignment_count el ≡ 0
    unfolding element_named
    none_assigned = quiet.assigns p n.element f.pool f.element

    blank_received : Blank (received el x.instance m n.branch n.given)
    unfolding received site_of
    blank_received =
        by_choice Blank (eqb m.receives on) (bound el n.branch n.given x.instance) x.instance (λ e. blank_bound el n.branch n.given (no_values e) x.instance seen) (λ e. seen)

    blank_work : Blank (work x).instance
    unfolding work worked site_of
    blank_work =
        by_choice (λ (y : Assigned). Blank y.instance) (eqb m.assigns on) (assigned el (received el x.instance m n.branch n.given)) _
        (λ e. blank_assigned el none_assigned _ blank_received) (λ e. blank_received)

    blank_after : Blank (instance_after x)
    unfolding instance_after after_taking site_of
    blank_after = blank_moved el right m n.branch (branch_exit t s n fits f) _ (blank_taken el right m n.branch (branch_entry t s n fits f) (work x).instance blank_work)

    -- what it leaves
    pub bare_after : Bare (instances_after t s n)
    bare_after =
        record {
          own = λ o i k a b c d. own_word o i k a b c d (ℕ_discrete o p) (ℕ_discrete i n.instance);
          shared = λ k l. own_stores t s n (omega (arith, few)) (omega (arith, long)) k l ∙ blank_after.word (instance_words + k) (omega arith) (omega (arith, l));
        }
      where
        own_word : (o i k : ℕ) → o < pools → i < instances → defined_place 0 ≤ k → k < instance_words → Dec (o ≡ p) → Dec (i ≡ n.instance) → at (instances_after t s n) (instance_place o i + k) ≡ 0
        own_word o i k a b c d (yes y) (yes z) =
            let e : instance_place o i + k ≡ instance_place p n.instance + k = omega (arith, y, z) in
            ap (at (instances_after t s n)) e
            ∙ own_words t s n (omega (arith, few)) (omega (arith, few, few_instances)) (omega (arith, long)) k d
            ∙ blank_after.word k c (omega (arith, d))
        own_word o i k a b c d (yes y) (no z) =
            only_own t s n (instance_place o i + k) (omega (arith, a, b, d)) (apart (dec_lt i n.instance)) (λ e. omega (arith, e, few)) ∙ bare.own o i k a b c d
          where
            apart : Dec (i < n.instance) → (instance_place o i + k < instance_place p n.instance) ⊎ (instance_place p n.instance + instance_words ≤ instance_place o i + k)
            apart (yes r) = inl (omega (arith, y, r, d))
            apart (no r) = inr (omega (arith, y, r, z))
        own_word o i k a b c d (no y) e =
            only_own t s n (instance_place o i + k) (omega (arith, a, b, d)) (apart (dec_lt o p)) (λ e. omega (arith, e, few)) ∙ bare.own o i k a b c d
          where
            apart : Dec (o < p) → (instance_place o i + k < instance_place p n.instance) ⊎ (instance_place p n.instance + instance_words ≤ instance_place o i + k)
            apart (yes r) = inl (omega (arith, r, b, d))
            apart (no r) = inr (omega (arith, r, y, few_instances))

  -- A CALL
  module _ (z : List ℕ) (right : Valid t z) (bare : Bare (instances_of z)) where
    step_bare : (n : Name) → (did t (a_step n) z).number ≡ 0 → Bare (instances_of (did t (a_step n) z).state)
    step_bare n e =
        let f : Fitting t (instances_of z) (queues_of z) = parts t z right in
        let ok : first_refusal (refusals t (instances_of z) (queues_of z) n) ≡ 0 = sym (step_number t z right n) ∙ e in
        subst Bare (sym (step_instances t z right n e)) (bare_after (instances_of z) (queues_of z) n f.long f.fits ok bare)

    accepted_bare : (a : Act) → (did t a z).number ≡ 0 → Bare (instances_of (did t a z).state)
    accepted_bare (a_step n) e = step_bare n e
    accepted_bare (a_post name g) e = subst Bare (sym (post_instances t z right name g e)) bare

    did_bare : (a : Act) → Bare (instances_of (did t a z).state)
    did_bare a =
        by_test (eqb (did t a z).number 0) (λ e. accepted_bare a (eqb-true _ 0 e))
        (λ e. subst (λ (y : List ℕ). Bare (instances_of y)) (sym (act_refused t a z (eqb-false _ 0 e))) bare)

  after_bare : (acts : List Act) (z : List ℕ) → Valid t z → Bare (instances_of z) → Bare (instances_of (after t acts z))
  unfolding after
  after_bare [] z right bare = bare
  after_bare (a ∷ rest) z right bare = after_bare rest (did t a z).state (did-valid t a z right) (did_bare z right bare a)

  run_bare : (limit : ℕ) (z : List ℕ) → Valid t z → Bare (instances_of z) → Bare (instances_of (ran_to t z limit).state)
  unfolding ran_to ran_given
  run_bare limit z right bare =
      let is : ran_to t z limit ≡ _ = chosen (fitting t z) (ended (ran t limit (instances_of z) (queues_of z))) _ right.fits ∙ run_is_steps t limit z right in
      subst (λ (y : List ℕ). Bare (instances_of y)) (sym (ap (λ (r : RanTo). r.state) is)) (after_bare (run_steps t limit z) z right bare)

  poll_bare : (w : List ℕ) (count : ℕ) (z : List ℕ) → Valid t z → Bare (instances_of z) → Bare (instances_of (polled_to t z w count).state)
  unfolding polled_to polled_from
  poll_bare w count z right bare =
      by_choice (λ (r : Polling). Bare (instances_of r.state)) (ltb items_most count) (record { number = 22; accepted = 0; state = z }) _ (λ b. bare)
      (λ b.
      by_choice (λ (r : Polling). Bare (instances_of r.state)) (eqb (lent_number t z) 0) (polled_by (did t) (acts_in w count) z) (record { number = lent_number t z; accepted = 0; state = z })
      (λ e. subst (λ (y : List ℕ). Bare (instances_of y)) (sym (state_after t (acts_in w count) z)) (after_bare (take (polled_by (did t) (acts_in w count) z).accepted (acts_in w count)) z right bare))
      (λ e. bare))

  -- A FRESH STATE
  module _ (version : ℕ) where
    abbrev s₀ : List ℕ
    s₀ = instances_of (fresh t version)

    ask : Startable t
    ask = startable t fits

    fresh_at : (j : ℕ) → j < version_at → at s₀ j ≡ at (Pools t ask (pool_count t)) j
    fresh_at j l = get_or-take instances_words (fresh t version) j 0 (omega arith) ∙ fresh_word t version ask j (λ e. omega (arith, e, l))

    fresh_own : (p k : ℕ) → p < pools → (i : ℕ) → i < instances → defined_place 0 ≤ k → k < instance_words → at (Pools t ask (pool_count t)) (instance_place p 0 + (instance_words * i + k)) ≡ 0
    fresh_own p k a i b c d = go (dec_lt p (pool_count t)) (has_start t p) refl
      where
        go : Dec (p < pool_count t) → (h : Bool) → has_start t p ≡ h → at (Pools t ask (pool_count t)) (instance_place p 0 + (instance_words * i + k)) ≡ 0
        go (yes r) true h =
            let g : Holds (Pools t ask (pool_count t)) p 1 (λ k. hit k (first_place t p)) = pools_begun t ask (pool_count t) p (omega arith) r h in
            let o = ask.first p r h in
            g.1 (instance_words * i + k) (omega (arith, b, d)) ∙ ap one_if (ne_eqb (instance_words * i + k) (first_place t p) (λ e. omega (arith, e, o.1, c)))
        go (yes r) false h =
            let g : Holds (Pools t ask (pool_count t)) p 0 (λ k. 0) = pools_blank t ask (pool_count t) p (omega arith) a (λ y. h) in
            g.1 (instance_words * i + k) (omega (arith, b, d))
        go (no r) h e =
            let g : Holds (Pools t ask (pool_count t)) p 0 (λ k. 0) = pools_blank t ask (pool_count t) p (omega arith) a (λ y. absurd (r y)) in
            g.1 (instance_words * i + k) (omega (arith, b, d))

    fresh_bare : Bare s₀
    fresh_bare =
        record {
          own = λ p i k a b c d.
              let e : instance_place p i + k ≡ instance_place p 0 + (instance_words * i + k) = omega arith in
              fresh_at (instance_place p i + k) (omega (arith, a, b, d)) ∙ ap (at (Pools t ask (pool_count t))) e ∙ fresh_own p k a i b c d;
          shared = λ k l. fresh_at (shared_place + k) (omega (arith, l)) ∙ pools_behind t ask (pool_count t) (shared_place + k) (omega arith) (omega arith);
        }

  freshened_bare : (version : ℕ) → is_version version ≡ true → (z : List ℕ) → Bare (instances_of (freshened t version z).state)
  unfolding freshened
  freshened_bare version known z =
      rw (chosen {A = Left} (eqb (asked_number t version) 0) (record { number = 0; state = fresh t version }) (record { number = asked_number t version; state = z }) (eq-eqb _ 0 (asked_good t version v known)))
      (fresh_bare version)

  -- WHATEVER THE ENGINE MADE
  pub made_bare : (z : List ℕ) → Made t z → Bare (instances_of z)
  made_bare _ (afresh version known z) = freshened_bare version known z
  made_bare _ (by_act {z} a m) = did_bare z (made_valid t v z m) (made_bare z m) a
  made_bare _ (by_run {z} limit m) = run_bare limit z (made_valid t v z m) (made_bare z m)
  made_bare _ (by_poll {z} w count m) = poll_bare w count z (made_valid t v z m) (made_bare z m)
