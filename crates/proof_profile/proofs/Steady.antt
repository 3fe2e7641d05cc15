-- WHAT EVERY CALL KEEPS of a nested pool: by every weighing each of its instances has at most 1, and by every two exact ones the same. Assumes nothing.
use Prim.Native.Nat.{ℕ, ◌+◌, ◌-◌, ◌≤◌, ◌<◌}
use mathlib.Core.Path.{◌≡◌, refl, sym, ◌∙◌, ap, subst}
use mathlib.Core.Bool.{true}
use mathlib.Core.List.{List, [], ◌∷◌, ◌++◌}
use native.Mathlib.Omega.{arith}
use lib.Dec.{eqb, ltb}
use lib.ListN.{take, replicate, length-replicate, get_or-replicate}
use lib.Seq.{get_or-take}
use borrow.Author.Tests.{eqb-true, eqb-false, eq-eqb, ltb-true, ltb-false}
use Rattle.base_words.specs.Sum.{sum, hit}
use Rattle.base_words.specs.Words.{at}
use Rattle.base_words.specs.Counts.{pools, edges, tasks}
use Rattle.base_words.proofs.ListLaws.{length-tab, get_d_tab}
use Rattle.base_words.proofs.SumLaws.{sum_ext, sum-zero}
use Rattle.base_kinds.specs.Kinds.{start}
use Rattle.base_kinds.specs.Moves.{making}
use Rattle.base_table.specs.Table.{pool_count, element_count, element_at, kind_in, entry_at}
use Rattle.base_state.specs.Places.{token_place, active_place, ready_place, defined_place, instance_words, instance_place, made_place, version_at, instances_words}
use Rattle.base_state.specs.Instances.{instances_of, queues_of, made_count, tokens, active_count, ready_count}
use Rattle.base_state.specs.Versions.{is_version}
use Rattle.meaning.specs.declared.Name.{Name}
use Rattle.meaning.specs.Refusals.{first_refusal}
use Rattle.meaning.specs.Step.{site_of, pool_named, move_named, instance_of, shared_of, before, refusals}
use Rattle.state_fits.specs.Fits.{has_start, start_place}
use Rattle.state_fits.specs.Fresh.{start_edge, fresh}
use Rattle.state_fits.proofs.FreshLaws.{Startable, Holds, first_place, Pools, pools_begun, pools_blank}
use Rattle.state_fits.proofs.FreshFits.{startable, fresh_word}
use Rattle.state_fits.proofs.UsableLaws.{start_in, start_kind}
use Rattle.step_poll.specs.Items.{items_most, acts_in}
use Rattle.step_poll.specs.Poll.{Polling, polled_by, polled_from}
use Rattle.step_run.specs.Run.{ran}
use Rattle.proof_steps.proofs.Choices.{by_test, by_choice, chosen}
use Rattle.proof_steps.proofs.Elements.{pools_few}
use Rattle.proof_steps.proofs.EveryStep.{Fitting}
use Rattle.proof_steps.proofs.Found.{Found}
use Rattle.proof_steps.proofs.MadeAfter.{named_made}
use Rattle.proof_steps.proofs.Seen.{seen_own}
use Rattle.proof_steps.proofs.Traffic.{here}
use Rattle.proof_listing.proofs.Counting.{sum_at, sum_two}
use Rattle.engine.specs.Engine.{valid, Left, asked_number, freshened, fitting, lent_number, RanTo, ended, ran_to}
use Rattle.engine.specs.Calls.{Act, a_step, a_post, did, after, Valid, polled_to}
use Rattle.engine.proofs.CallLaws.{asked_good}
use Rattle.engine.proofs.KeepsValid.{parts, did-valid}
use Rattle.proof_valid.proofs.ChecksHold.{valid_fits, starts_once}
use Rattle.proof_demands.specs.Demands.{Made, afresh, by_act, by_run, by_poll, run_steps, ran_given}
use Rattle.proof_demands.proofs.FirstDemand.{act_refused}
use Rattle.proof_demands.proofs.StatesLeft.{step_number, step_instances, post_instances}
use Rattle.proof_demands.proofs.RunSteps.{run_is_steps}
use Rattle.proof_demands.proofs.PollSteps.{state_after}
use Rattle.proof_demands.proofs.NeverBad.{made_valid}
use Rattle.check_nesting.specs.Nesting.{Nested}
use Rattle.proof_nesting.proofs.Events.{hit_same, hit_other}
use Rattle.proof_nesting.proofs.Mass.{sum_change, weigh, weigh_least, mass}
use Rattle.proof_nesting.proofs.Moved.{weight_at, weight, weight_token, weight_active, weight_ready}
use Rattle.proof_nesting.proofs.Weighing.{Weighing, Exact, weighs_edge, weighs_task}
use Rattle.proof_nesting.proofs.States.{Light, Even, even_after, light_after}
use Rattle.proof_profile.proofs.Sounds.{sound}

-- a word that weighs something, and two of them
module _ (w d : ℕ → ℕ) (h : List ℕ) where
  abbrev share : ℕ → ℕ
  share k = weigh (weight_at w d k) (at h k)

  pub word_most : (k : ℕ) → k < defined_place 0 → 1 ≤ weight_at w d k → at h k ≤ weight w d h
  unfolding mass
  word_most k l some = omega (arith, sum_at share (defined_place 0) k l, weigh_least (weight_at w d k) (at h k) some)

  pub words_most : (j k : ℕ) → j < defined_place 0 → k < defined_place 0 → (j ≡ k → ⊥) → 1 ≤ weight_at w d j → 1 ≤ weight_at w d k → at h j + at h k ≤ weight w d h
  unfolding mass
  words_most j k l r apart one two =
      omega (arith, sum_two share (defined_place 0) j k l r apart, weigh_least (weight_at w d j) (at h j) one, weigh_least (weight_at w d k) (at h k) two)

  -- one token on the edge e, and nothing else
  sum_point : (f : ℕ → ℕ) (n x : ℕ) → x < n → ((k : ℕ) → (k ≡ x → ⊥) → f k ≡ 0) → sum f n ≡ f x
  sum_point f n x l alone = let z = sum_change f (λ k. 0) n x l alone in let y = sum-zero (λ k. 0) n (λ k r. refl) in omega (arith, z, y)

  pub token_weight : (e : ℕ) → 1 ≤ e → e ≤ edges → ((k : ℕ) → k < defined_place 0 → at h k ≡ hit k (token_place e)) → weight w d h ≡ w e
  unfolding mass weigh
  token_weight e a b same =
      let g : ℕ → ℕ = (λ k. weigh (weight_at w d k) (hit k (token_place e))) in
      let s = sum_ext share g (defined_place 0) (λ k l. ap (weigh (weight_at w d k)) (same k l)) in
      let q = sum_point g (defined_place 0) (token_place e) (omega arith) (λ k ne. ap (weigh (weight_at w d k)) (hit_other k (token_place e) ne)) in
      let r : g (token_place e) ≡ weigh (weight_at w d (token_place e)) 1 = ap (weigh (weight_at w d (token_place e))) (hit_same (token_place e) (token_place e) refl) in
      omega (arith, s, q, r, weight_token w d e a b)

module _ (t : List ℕ) (v : valid t ≡ true) (p : ℕ) (there : p < pool_count t) (nest : Nested (element_at t p) (element_count t p)) where
  abbrev P : ℕ → List ℕ
  P = element_at t p

  abbrev c : ℕ
  c = element_count t p

  pub few : p < pools
  few = omega (arith, there, pools_few t (valid_fits t v))

  pub record Steady (s : List ℕ) : Type 0 where
    pub light : (w d : ℕ → ℕ) → Weighing P c w d → Light w d s p
    pub even : (w d w' d' : ℕ → ℕ) → Weighing P c w d → Weighing P c w' d' → Exact P c w d → Exact P c w' d' → Even w d w' d' s p

  -- NO WORD of tokens and counts is above 1, and a task's two counts are not both there
  module _ (s : List ℕ) (steady : Steady s) (i : ℕ) (made : i < made_count s p) where
    abbrev h : List ℕ
    h = instance_of s p i

    pub token_most : (e : ℕ) → 1 ≤ e → e ≤ edges → tokens h e ≤ 1
    token_most e a b =
        let x = weighs_edge P c (sound t v p there) nest e in
        let u = weight_token x.0 x.1 e a b in
        omega (arith, steady.light x.0 x.1 x.2 i made, word_most x.0 x.1 h (token_place e) (omega (arith, a, b)) (omega (arith, u, x.3)))

    pub counts_most : (n : ℕ) → 1 ≤ n → n ≤ tasks → active_count h n + ready_count h n ≤ 1
    counts_most n a b =
        let x = weighs_task P c (sound t v p there) nest n (λ z. omega (arith, z, a)) in
        let u = weight_active x.0 x.1 n a b in
        let y = weight_ready x.0 x.1 n a b in
        omega (
          arith,
          steady.light x.0 x.1 x.2 i made,
          words_most x.0 x.1 h (active_place n) (ready_place n) (omega (arith, a, b)) (omega (arith, a, b)) (λ z. omega (arith, z, a, b)) (omega (arith, u, x.3)) (omega (arith, y, x.3)),
        )

    pub small : (k : ℕ) → k < defined_place 0 → at h k ≤ 1
    small k l =
        by_test (ltb k edges)
        (λ e.
        let m = ltb-true k edges e in
        let y : token_place (k + 1) ≡ k = omega arith in
        subst (λ j. at h j ≤ 1) y (token_most (k + 1) (omega arith) (omega (arith, m))))
        (λ e.
        let m = ltb-false k edges e in
        by_test (ltb k (edges + tasks))
        (λ f.
        let u = ltb-true k (edges + tasks) f in
        let y : active_place ((k - edges) + 1) ≡ k = omega (arith, m) in
        subst (λ j. at h j ≤ 1) y (let r = counts_most ((k - edges) + 1) (omega arith) (omega (arith, m, u)) in omega (arith, r)))
        (λ f.
        let u = ltb-false k (edges + tasks) f in
        let y : ready_place ((k - (edges + tasks)) + 1) ≡ k = omega (arith, u) in
        subst (λ j. at h j ≤ 1) y (let r = counts_most ((k - (edges + tasks)) + 1) (omega arith) (omega (arith, u, l)) in omega (arith, r))))

  -- as a step of the pool sees it
  pub small_seen : (s : List ℕ) → Steady s → (n : Name) → Found t s n → p ≡ pool_named t n → (k : ℕ) → k < defined_place 0 → at (site_of t s n).instance k ≤ 1
  unfolding site_of before instance_of
  small_seen s steady n f is k l =
      let zeros : List ℕ = replicate instance_words 0 in
      by_choice (λ (own : List ℕ). at (own ++ shared_of s) k ≤ 1) (eqb (move_named t n).also making) zeros (instance_of s (pool_named t n) n.instance)
      (λ e. let w : at (zeros ++ shared_of s) k ≡ 0 = seen_own s zeros (length-replicate {A = ℕ} instance_words 0) k (omega arith) ∙ get_or-replicate instance_words k 0 0 (omega arith) in omega (arith, w))
      (λ e.
      let q : List ℕ = instance_of s (pool_named t n) n.instance in
      let w : at (q ++ shared_of s) k ≡ at q k = seen_own s q (length-tab (λ k. at s (instance_place (pool_named t n) n.instance + k)) instance_words) k (omega arith) in
      let r : at (instance_of s p n.instance) k ≤ 1 = small s steady n.instance (subst (λ o. n.instance < made_count s o) (sym is) (named_made t s n f e)) k l in
      let y : at (instance_of s p n.instance) k ≡ at q k = ap (λ o. at (instance_of s o n.instance) k) is in
      omega (arith, w, r, y))

  -- A STEP, A POST
  module _ (z : List ℕ) (right : Valid t z) (steady : Steady (instances_of z)) where
    abbrev s : List ℕ
    s = instances_of z

    step_steady : (n : Name) → (did t (a_step n) z).number ≡ 0 → Steady (instances_of (did t (a_step n) z).state)
    step_steady n e =
        let f : Fitting t s (queues_of z) = parts t z right in
        let ok : first_refusal (refusals t s (queues_of z) n) ≡ 0 = sym (step_number t z right n) ∙ e in
        subst Steady (sym (step_instances t z right n e))
        (record {
          light = λ w d weighing. light_after t s (queues_of z) n (valid_fits t v) (starts_once t v) f.long f.fits ok w d p few (sound t v p there) weighing (steady.light w d weighing);
          even = λ w d w' d' one two Exact-one Exact-two.
              even_after t s (queues_of z) n (valid_fits t v) (starts_once t v) f.long f.fits ok w d w' d' p few (sound t v p there) nest one two Exact-one Exact-two
              (small_seen s steady n (here t s (queues_of z) n (valid_fits t v) ok))
              (steady.even w d w' d' one two Exact-one Exact-two);
        })

    accepted_steady : (a : Act) → (did t a z).number ≡ 0 → Steady (instances_of (did t a z).state)
    accepted_steady (a_step n) e = step_steady n e
    accepted_steady (a_post name g) e = subst Steady (sym (post_instances t z right name g e)) steady

    pub did_steady : (a : Act) → Steady (instances_of (did t a z).state)
    did_steady a =
        by_test (eqb (did t a z).number 0) (λ e. accepted_steady a (eqb-true _ 0 e))
        (λ e. subst (λ (y : List ℕ). Steady (instances_of y)) (sym (act_refused t a z (eqb-false _ 0 e))) steady)

  -- SEVERAL
  pub after_steady : (acts : List Act) (z : List ℕ) → Valid t z → Steady (instances_of z) → Steady (instances_of (after t acts z))
  unfolding after
  after_steady [] z right steady = steady
  after_steady (a ∷ rest) z right steady = after_steady rest (did t a z).state (did-valid t a z right) (did_steady z right steady a)

  run_steady : (limit : ℕ) (z : List ℕ) → Valid t z → Steady (instances_of z) → Steady (instances_of (ran_to t z limit).state)
  unfolding ran_to ran_given
  run_steady limit z right steady =
      let is : ran_to t z limit ≡ _ = chosen (fitting t z) (ended (ran t limit (instances_of z) (queues_of z))) _ right.fits ∙ run_is_steps t limit z right in
      subst (λ (y : List ℕ). Steady (instances_of y)) (sym (ap (λ (r : RanTo). r.state) is)) (after_steady (run_steps t limit z) z right steady)

  poll_steady : (w : List ℕ) (count : ℕ) (z : List ℕ) → Valid t z → Steady (instances_of z) → Steady (instances_of (polled_to t z w count).state)
  unfolding polled_to polled_from
  poll_steady w count z right steady =
      by_choice (λ (r : Polling). Steady (instances_of r.state)) (ltb items_most count) (record { number = 22; accepted = 0; state = z }) _ (λ b. steady)
      (λ b.
      by_choice (λ (r : Polling). Steady (instances_of r.state)) (eqb (lent_number t z) 0) (polled_by (did t) (acts_in w count) z) (record { number = lent_number t z; accepted = 0; state = z })
      (λ e. subst (λ (y : List ℕ). Steady (instances_of y)) (sym (state_after t (acts_in w count) z)) (after_steady (take (polled_by (did t) (acts_in w count) z).accepted (acts_in w count)) z right steady))
      (λ e. steady))

  -- A FRESH STATE: a pool with a start has one instance, with one token
  module _ (version : ℕ) where
    abbrev s₀ : List ℕ
    s₀ = instances_of (fresh t version)

    ask : Startable t
    ask = startable t (valid_fits t v)

    fresh_at : (j : ℕ) → j < version_at → at s₀ j ≡ at (Pools t ask (pool_count t)) j
    fresh_at j l = get_or-take instances_words (fresh t version) j 0 (omega arith) ∙ fresh_word t version ask j (λ e. omega (arith, e, l))

    abbrev Begun : ℕ → Type 0
    Begun i = (k : ℕ) × (k < c) × (kind_in (P k) ≡ start) × ((w d : ℕ → ℕ) → weight w d (instance_of s₀ p i) ≡ w (entry_at (P k) 0))

    begun : (i : ℕ) → i < made_count s₀ p → Begun i
    unfolding instance_of start_edge
    begun i l =
        by_test (has_start t p)
        (λ has.
        let g : Holds (Pools t ask (pool_count t)) p 1 (λ k. hit k (first_place t p)) = pools_begun t ask (pool_count t) p (omega arith) there has in
        let m : made_count s₀ p ≡ 1 = fresh_at (made_place p) (omega (arith, few)) ∙ g.0 in
        let o : 0 ≡ i = omega (arith, m, l) in
        let b = ask.first p there has in
        let word : (k : ℕ) → k < defined_place 0 → at (instance_of s₀ p 0) k ≡ hit k (first_place t p) =
        (λ k r. get_d_tab (λ k. at s₀ (instance_place p 0 + k)) instance_words k 0 (omega arith) ∙ fresh_at (instance_place p 0 + k) (omega (arith, few)) ∙ g.1 k (omega arith)) in
        (start_place t p, start_in t p has, start_kind t p has, λ w d. subst (λ j. weight w d (instance_of s₀ p j) ≡ w (start_edge t p)) o (token_weight w d (instance_of s₀ p 0) (start_edge t p) b.0 b.1 word)))
        (λ has.
        let g : Holds (Pools t ask (pool_count t)) p 0 (λ k. 0) = pools_blank t ask (pool_count t) p (omega arith) few (λ y. has) in
        let m : made_count s₀ p ≡ 0 = fresh_at (made_place p) (omega (arith, few)) ∙ g.0 in
        absurd (omega (arith, m, l)))

    pub fresh_steady : Steady s₀
    fresh_steady = record {
      light = λ w d weighing i l. let b = begun i l in let q = b.3 w d in omega (arith, q, weighing.begins b.0 b.1 b.2);
      even = λ w d w' d' one two Exact-one Exact-two i l.
          let b = begun i l in
          let q = b.3 w d in
          let q' = b.3 w' d' in
          omega (arith, q, q', Exact-one.begun b.0 b.1 b.2, Exact-two.begun b.0 b.1 b.2);
    }

  freshened_steady : (version : ℕ) → is_version version ≡ true → (z : List ℕ) → Steady (instances_of (freshened t version z).state)
  unfolding freshened
  freshened_steady version known z =
      rw (chosen {A = Left} (eqb (asked_number t version) 0) (record { number = 0; state = fresh t version }) (record { number = asked_number t version; state = z }) (eq-eqb _ 0 (asked_good t version v known)))
      (fresh_steady version)

  -- WHATEVER THE ENGINE MADE
  pub made_steady : (z : List ℕ) → Made t z → Steady (instances_of z)
  made_steady _ (afresh version known z) = freshened_steady version known z
  made_steady _ (by_act {z} a m) = did_steady z (made_valid t v z m) (made_steady z m) a
  made_steady _ (by_run {z} limit m) = run_steady limit z (made_valid t v z m) (made_steady z m)
  made_steady _ (by_poll {z} w count m) = poll_steady w count z (made_valid t v z m) (made_steady z m)
