-- A STEP that is accepted in a state, in the same state under another version: where that is not the former, the step is accepted, tells the same and leaves the same but for the version.
-- Assumes nothing.
use Prim.Native.Nat.{ℕ, ◌+◌, ◌-◌, ◌<◌}
use mathlib.Core.Path.{◌≡◌, sym, ◌∙◌, ap, ap₂, subst}
use mathlib.Core.Bool.{Bool, true, not, ◌&&◌, ◌||◌}
use mathlib.Core.List.{List, ◌++◌}
use native.Mathlib.Omega.{arith}
use lib.Dec.{eqb, ltb}
use lib.ListN.{length, replicate, length-replicate, length-set}
use lib.Seq.{get_or-set_same, get_or-set_other, set_comm, ext_get_or}
use borrow.Author.Tests.{eq-eqb}
use Rattle.base_words.specs.Pick.{if◌then◌or_else◌}
use Rattle.base_words.specs.Words.{at}
use Rattle.base_words.specs.Counts.{pools, instances}
use Rattle.base_kinds.specs.Kinds.{kind_of, used}
use Rattle.base_kinds.specs.Moves.{making}
use Rattle.base_table.specs.Places.{exits_place}
use Rattle.base_table.specs.Table.{pool_count, element_count, limit_of, kind_in}
use Rattle.base_state.specs.Places.{instance_words, instance_place, store_words, shared_place, version_at, version_place, instances_words, copy_words}
use Rattle.base_state.specs.Instances.{made_count, with_instance, with_stores, with_made}
use Rattle.base_state.specs.Versions.{former}
use Rattle.check_limits.specs.Limits.{table_fits}
use Rattle.meaning.specs.declared.Name.{Name}
use Rattle.meaning.specs.Refusals.{first_refusal}
use Rattle.meaning.specs.Requirements.{branch_count, instance_named}
use Rattle.meaning.specs.Step.{Site, site_of, pool_named, element_named, move_named, instance_of, shared_of, before, exists, receives, sends, refusals, instance_after, made_after, instances_after, queues_after, traffic, Outcome, step}
use Rattle.step_queues.proofs.SlotLaws.{by_order, by_below}
use Rattle.engine.specs.Engine.{valid}
use Rattle.proof_steps.proofs.AcceptedParts.{Accepted, accepted_parts, parts_accepted}
use Rattle.proof_steps.proofs.Choices.{by_test, by_choice, chosen}
use Rattle.proof_steps.proofs.Elements.{limit_few}
use Rattle.proof_steps.proofs.EveryStep.{Fitting}
use Rattle.proof_steps.proofs.Found.{Found, message_there}
use Rattle.proof_steps.proofs.InstanceBefore.{pool_few}
use Rattle.proof_steps.proofs.MadeAfter.{Makes, makes_none, makes_one_lem}
use Rattle.proof_steps.proofs.PoolFits.{pool_parts, made_few}
use Rattle.proof_steps.proofs.Seen.{seen_long, seen_own, seen_shared}
use Rattle.proof_steps.proofs.Traffic.{state_instances, here}
use Rattle.proof_valid.proofs.ChecksHold.{valid_fits, starts_once}
use Rattle.proof_paper.proofs.Pools.{instance_long}
use Rattle.proof_paper.proofs.Process as Process
use Rattle.proof_paper.proofs.Sites.{site, h_long}
use Rattle.proof_versions.specs.Versions.{under}
use Rattle.proof_versions.proofs.Laws.{tab_same, writes_same, writes_apart}
use Rattle.proof_versions.proofs.Elements.{seen, at_same}
use Rattle.proof_versions.proofs.Sites.{sited, after_along, made_same, queues_same, traffic_same, accepted_along}

-- THE WORDS THAT A STEP SEES of instances s
module _ (v : ℕ) (s own : List ℕ) (long : length s ≡ instances_words) (wide : length own ≡ instance_words) where
  abbrev h : List ℕ
  h = own ++ shared_of s

  at_along : (k : ℕ) → k < copy_words → at (own ++ shared_of (under v s)) k ≡ at (seen v h) k
  at_along k l =
      by_below k instance_words (λ a. seen_own (under v s) own wide k a ∙ sym (seen_own s own wide k a) ∙ sym (at_same v h k (omega arith)))
      (λ a.
      let c : ℕ = k - instance_words in
      let e : instance_words + c ≡ k = omega arith in
      let z : at (own ++ shared_of (under v s)) k ≡ at (under v s) (shared_place + c) = ap (at (own ++ shared_of (under v s))) (sym e) ∙ seen_shared (under v s) own wide c (omega arith) in
      by_order k version_place
      (λ r. z ∙ get_or-set_other s version_at (shared_place + c) v 0 (λ y. omega arith) ∙ sym (seen_shared s own wide c (omega arith)) ∙ ap (at h) e ∙ sym (at_same v h k r))
      (λ r.
      let o : shared_place + c ≡ version_at = omega arith in
      z ∙ ap (at (under v s)) o ∙ get_or-set_same s version_at v 0 (omega (arith, long)) ∙ sym (get_or-set_same h version_place v 0 (omega (arith, seen_long s own wide))) ∙ ap (at (seen v h)) r)
      (λ r. absurd (omega arith)))

  seen_along : own ++ shared_of (under v s) ≡ seen v h
  seen_along =
      ext_get_or 0 (own ++ shared_of (under v s)) (seen v h) (seen_long (under v s) own wide ∙ sym (length-set h version_place v ∙ seen_long s own wide))
      (λ k l. at_along k (omega (arith, l, seen_long (under v s) own wide)))

-- THE INSTANCES with the words a of a step stored in them
module _ (v : ℕ) (s : List ℕ) (p i : ℕ) (few : p < pools) (named : i < instances) (a : List ℕ) (made : ℕ) where
  abbrev stored : List ℕ → List ℕ → List ℕ
  stored r y = with_made (with_stores (with_instance r p i y) y) p made

  stored_along : stored (under v s) (seen v a) ≡ under v (stored s a)
  stored_along =
      let own : with_instance (under v s) p i (seen v a) ≡ under v (with_instance s p i a) =
      writes_same (at (seen v a)) (at a) (under v s) (instance_place p i) instance_words (λ k l. at_same v a k (omega arith))
      ∙ writes_apart (at a) s (instance_place p i) instance_words version_at v (omega arith) in
      let stores : with_stores (under v (with_instance s p i a)) (seen v a) ≡ under v (with_stores (with_instance s p i a) a) =
      writes_same (λ k. at (seen v a) (instance_words + k)) (λ k. at a (instance_words + k)) (under v (with_instance s p i a)) shared_place store_words (λ k l. at_same v a (instance_words + k) (omega arith))
      ∙ writes_apart (λ k. at a (instance_words + k)) (with_instance s p i a) shared_place store_words version_at v (omega arith) in
      ap (λ r. with_made (with_stores r (seen v a)) p made) own ∙ ap (λ r. with_made r p made) stores ∙ set_comm (with_stores (with_instance s p i a) a) version_at p v made (λ e. omega arith)

module _ (t s q : List ℕ) (good : valid t ≡ true) (fit : Fitting t s q) (v : ℕ) (n : Name) (accepted : first_refusal (refusals t s q n) ≡ 0) where
  abbrev p : ℕ
  p = pool_named t n

  abbrev i : ℕ
  i = n.instance

  abbrev x : Site
  x = site_of t s n

  fits : table_fits t ≡ true
  fits = valid_fits t good

  f : Found t s n
  f = here t s q n fits accepted

  few : p < pools
  few = pool_few t s q n fits fit.fits accepted

  makes : Makes t p i (made_count s p) (made_after x)
  makes =
      by_test (eqb (move_named t n).also making)
      (λ e. makes_one_lem t s n f e (starts_once t good) (limit_few t fits p f.pool) (accepted_parts t s q n accepted).1.limited)
      (λ e. makes_none t s n f e (pool_parts t s p (state_instances t s q fit.fits p few)).made)

  named : i < instances
  named = omega (arith, makes.named, made_few t fits p (made_after x) makes.fits)

  -- 11
  count_same : made_count (under v s) p ≡ made_count s p
  count_same = get_or-set_other s version_at p v 0 (λ e. omega (arith, few))

  exists_same : exists t (under v s) n ≡ exists t s n
  unfolding exists
  exists_same =
      ap (λ made. ltb p (pool_count t) && ltb n.element (element_count t p) && not (eqb (move_named t n).kind 0) && ltb n.branch (branch_count (element_named t n) (move_named t n)) && instance_named (move_named t n) i made)
      count_same

  -- WHERE
  own_same : instance_of (under v s) p i ≡ instance_of s p i
  unfolding instance_of
  own_same =
      tab_same (λ k. at (under v s) (instance_place p i + k)) (λ k. at s (instance_place p i + k)) instance_words
      (λ k l. get_or-set_other s version_at (instance_place p i + k) v 0 (λ e. omega (arith, few, named)))

  before_along : before (move_named t n) (instance_of (under v s) p i) (shared_of (under v s)) ≡ seen v (before (move_named t n) (instance_of s p i) (shared_of s))
  unfolding before
  before_along =
      let c : Bool = eqb (move_named t n).also making in
      let zeros : List ℕ = replicate instance_words 0 in
      ap (λ o. (if c then zeros or_else o) ++ shared_of (under v s)) own_same
      ∙ seen_along v s (if c then zeros or_else instance_of s p i) fit.long
      (by_choice (λ (y : List ℕ). length y ≡ instance_words) c zeros (instance_of s p i) (λ e. length-replicate {A = ℕ} instance_words 0) (λ e. instance_long s p i))

  site_along : site_of t (under v s) n ≡ sited v x
  unfolding site_of
  site_along = λ j. record {
    element = element_named t n;
    move = move_named t n;
    branch = n.branch;
    given = n.given;
    made = count_same j;
    limit = limit_of t p;
    instance = before_along j;
  }

  row : Process.Site x.element x.move x.branch
  unfolding site_of
  row = site t s good n f

  there : receives x || sends x ≡ true → x.branch < used ((kind_of (kind_in x.element)).receives + (kind_of (kind_in x.element)).sends) (at x.element exits_place)
  unfolding site_of
  there e = message_there t s n fits f e

  -- THE STATE AFTER
  left_along : instances_after t (under v s) n ≡ under v (instances_after t s n)
  unfolding instances_after
  left_along =
      ap₂ (λ a made. stored v s p i few named a made (under v s) a)
      (ap instance_after site_along ∙ after_along v x row there) (ap made_after site_along ∙ made_same v x row there)
      ∙ stored_along v s p i few named (instance_after x) (made_after x)

  -- ACCEPTED
  module _ (later : v ≡ former → ⊥) where
    long : length x.instance ≡ copy_words
    unfolding site_of
    long = h_long t s good n f

    none_refused : first_refusal (refusals t (under v s) q n) ≡ 0
    none_refused =
        let a = accepted_parts t s q n accepted in
        parts_accepted t (under v s) q n (exists_same ∙ a.0) (subst (λ (y : Site). Accepted y q) (sym site_along) (accepted_along v x row there long later q a.1))

    pub step_along : step t (under v s) q n ≡ record { answer = traffic x; instances = under v (instances_after t s n); queues = queues_after x q }
    unfolding step
    step_along =
        chosen {A = Outcome} (eqb (first_refusal (refusals t (under v s) q n)) 0) _ _ (eq-eqb (first_refusal (refusals t (under v s) q n)) 0 none_refused)
        ∙ (λ j. record {
          answer = (ap traffic site_along ∙ traffic_same v x row there) j;
          instances = left_along j;
          queues = (ap (λ y. queues_after y q) site_along ∙ queues_same v x row there q) j;
        })
