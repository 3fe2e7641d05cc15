-- An accepted step keeps a state fit, and so does an accepted post: t is a table within the limits, in which no pool with `start` has a startRcv.
-- Assumes nothing.
use Prim.Native.Nat.{ℕ, ◌+◌, ◌*◌, ◌≤◌, ◌<◌}
use mathlib.Core.Path.{◌≡◌, sym, ◌∙◌, ap, subst}
use mathlib.Core.Bool.{true, ◌&&◌}
use mathlib.Core.List.{List, [], ◌∷◌}
use native.Mathlib.Omega.{arith}
use lib.Dec.{eqb, leb, ltb}
use lib.ListN.{length, drop}
use lib.Seq.{get_or-drop}
use borrow.Author.Tests.{ltb-true, leb-true}
use Rattle.base_words.specs.All.{all}
use Rattle.base_words.specs.Words.{at}
use Rattle.base_words.specs.Counts.{pools, names, fields, values, messages, instances}
use Rattle.base_words.proofs.AllLaws.{all_of, and_left, and_right}
use Rattle.base_words.proofs.PickLaws.{and_true}
use Rattle.base_kinds.specs.Moves.{making}
use Rattle.base_state.specs.Places.{defined_place, instance_words, store_words, shared_place, instances_words, queue_words}
use Rattle.base_state.specs.Instances.{made_count, version_of}
use Rattle.check_limits.specs.Limits.{table_fits}
use Rattle.meaning.specs.declared.Name.{Name}
use Rattle.meaning.specs.declared.Tuple.{Tuple}
use Rattle.meaning.specs.Queues.{messages_of, sending}
use Rattle.meaning.specs.Refusals.{◌unless◌, first_refusal}
use Rattle.meaning.specs.Post.{post_refusals}
use Rattle.meaning.specs.Step.{Site, site_of, pool_named, move_named, message_named, sent, instance_after, made_after, instances_after, queues_after, refusals}
use Rattle.state_fits.specs.Fits.{usable, field_fits, fields_fit, instances_fit, shared_fits, queue_fits, state_fits}
use Rattle.step_queues.proofs.SlotLaws.{by_order}
use Rattle.proof_steps.proofs.AcceptedParts.{first_holds}
use Rattle.proof_steps.proofs.Choices.{by_test}
use Rattle.proof_steps.proofs.OnlyOwn.{only_own, own_words, own_stores, own_made, same_version}
use Rattle.proof_steps.proofs.Elements.{limit_few}
use Rattle.proof_steps.proofs.Found.{Found}
use Rattle.proof_steps.proofs.InstanceBefore.{pool_few, instance_before}
use Rattle.proof_steps.proofs.InstanceFits.{field_alike, Fit}
use Rattle.proof_steps.proofs.InstanceAfter.{fit_after}
use Rattle.proof_steps.proofs.MadeAfter.{StartsOnce, Makes, makes_none, makes_one_lem}
use Rattle.proof_steps.proofs.PoolFits.{PoolFit, pool_parts, pool_back, made_few}
use Rattle.proof_steps.proofs.InstancesKept.{own_pool, other_pool}
use Rattle.proof_steps.proofs.Traffic.{state_queues, state_instances, here, site, received_name, sent_name, sent-space, sent_short}
use Rattle.proof_steps.proofs.QueuesAfter.{by_queues}
use Rattle.proof_steps.proofs.QueuesKept.{consuming_fits, sending_fits}

module _ (t s q : List ℕ) (n : Name) (fits : table_fits t ≡ true) (once : StartsOnce t) (long : length s ≡ instances_words) (state : state_fits t s q ≡ true) (accepted : first_refusal (refusals t s q n) ≡ 0) where
  abbrev x : Site
  x = site_of t s n

  abbrev p : ℕ
  p = pool_named t n

  abbrev r : List ℕ
  r = instances_after t s n

  f : Found t s n
  f = here t s q n fits accepted

  few : p < pools
  few = pool_few t s q n fits state accepted

  pool_before : (o : ℕ) → o < pools → PoolFit t s o
  pool_before o l = pool_parts t s o (state_instances t s q state o l)

  -- how many are made after it
  makes : Makes t p n.instance (made_count s p) (made_after x)
  makes =
      by_test (eqb (move_named t n).also making)
      (λ e. makes_one_lem t s n f e once (limit_few t fits p f.pool) (site t s q n fits accepted).limited)
      (λ e. makes_none t s n f e (pool_before p few).made)

  made_room : made_after x ≤ instances
  made_room = made_few t fits p (made_after x) makes.fits

  made_is : made_count r p ≡ made_after x
  made_is = own_made t s n (omega (arith, few))

  pub instance_few : n.instance < instances
  instance_few = omega (arith, made_room, makes.named)

  fit : Fit (usable t p) (instance_after x)
  fit = fit_after t s n fits f (instance_before t s q n fits state accepted)

  -- EVERY POOL
  pool_after : (o : ℕ) → o < pools → PoolFit t r o
  pool_after o l =
      by_order o p (λ y. elsewhere (λ e. omega arith)) (λ e. subst (PoolFit t r) e mine) (λ y. elsewhere (λ e. omega arith))
    where
      elsewhere : (o ≡ p → ⊥) → PoolFit t r o
      elsewhere d =
          other_pool t s r p n.instance few (only_own t s n) o l d instance_few
          (made_few t fits o (made_count s o) (pool_before o l).made) (pool_before o l)

      mine : PoolFit t r p
      mine =
          own_pool t s r p n.instance few (only_own t s n) (instance_after x)
          (own_words t s n (omega (arith, few)) (omega (arith, few, instance_few)) (omega (arith, long)))
          fit
          (subst (Makes t p n.instance (made_count s p)) (sym made_is) makes)
          (subst (λ k. k ≤ instances) (sym made_is) made_room)
          (pool_before p few)

  pub keeps_instances : (o : ℕ) → o < pools → instances_fit t r o ≡ true
  keeps_instances o l = pool_back t r o (pool_after o l)

  -- WHAT ALL SHARE: the stores are those that it leaves; the version is as it was
  store_after : (j k : ℕ) → j < store_words → k ≡ 2 * fields + j → at (drop shared_place r) j ≡ at (drop (defined_place 0) (instance_after x)) k
  store_after j k l e =
      let i : instance_words + j ≡ defined_place 0 + k = omega arith in
      get_or-drop shared_place r j 0 ∙ own_stores t s n (omega (arith, few)) (omega (arith, long)) j l ∙ ap (at (instance_after x)) i ∙ sym (get_or-drop (defined_place 0) (instance_after x) k 0)

  pub keeps_version : version_of r ≡ version_of s
  keeps_version = same_version t s n (omega (arith, few)) (omega (arith, few, instance_few))

  pub keeps_shared : shared_fits r ≡ true
  unfolding shared_fits fields_fit
  keeps_shared =
      all_of (field_fits (drop shared_place r)) fields
      (λ d l.
      field_alike (drop (defined_place 0) (instance_after x)) (drop shared_place r) (fields + d) d
      (store_after (2 * d) (2 * (fields + d)) (omega arith) (omega arith))
      (store_after (2 * d + 1) (2 * (fields + d) + 1) (omega arith) (omega arith))
      (fit.filled (fields + d) (omega arith)))

  -- EVERY QUEUE
  pub keeps_queues : length q ≡ queue_words * names → (m : ℕ) → m < names → queue_fits (queues_after x q) m ≡ true
  keeps_queues wide =
      by_queues x q (λ (z : List ℕ). (m : ℕ) → m < names → queue_fits z m ≡ true)
      (λ e. consuming_fits q (message_named x) wide (received_name t s q n fits accepted e) (state_queues t s q state) x.given)
      (λ e. sending_fits q (message_named x) wide (sent_name t s q n fits accepted e) (state_queues t s q state) (sent x).tuple (sent-space t s q n fits accepted e) (sent_short t s q n fits accepted e))
      (state_queues t s q state)

  -- THE STATE
  pub keeps_fits : length q ≡ queue_words * names → state_fits t (instances_after t s n) (queues_after (site_of t s n) q) ≡ true
  unfolding state_fits
  keeps_fits wide =
      and_true (all (instances_fit t r) pools && shared_fits r) (all (queue_fits (queues_after x q)) names)
      (and_true (all (instances_fit t r) pools) (shared_fits r) (all_of (instances_fit t r) pools keeps_instances) keeps_shared)
      (all_of (queue_fits (queues_after x q)) names (keeps_queues wide))

-- A POST
module _ (q : List ℕ) (name : ℕ) (g : Tuple) (accepted : first_refusal (post_refusals q name g) ≡ 0) where
  pub posted_right : (name < names) × (g.length ≤ values) × (length (messages_of q name) < messages)
  unfolding post_refusals
  posted_right =
      let a = first_holds 19 (ltb name names && leb g.length values) (17 unless ltb (length (messages_of q name)) messages ∷ []) (λ z. omega arith) accepted in
      let b = first_holds 17 (ltb (length (messages_of q name)) messages) [] (λ z. omega arith) a.1 in (
        ltb-true name names (and_left (ltb name names) (leb g.length values) a.0),
        leb-true g.length values (and_right (ltb name names) (leb g.length values) a.0),
        ltb-true (length (messages_of q name)) messages b.0,
      )

  pub post_keeps_fits : length q ≡ queue_words * names → ((m : ℕ) → m < names → queue_fits q m ≡ true) → (m : ℕ) → m < names → queue_fits (sending q name g) m ≡ true
  post_keeps_fits wide fits = let h = posted_right in sending_fits q name wide h.0 fits g h.2 h.1
