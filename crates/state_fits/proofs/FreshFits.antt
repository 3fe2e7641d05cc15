-- A fresh state fits its table, where that is within the limits. Assumes nothing.
use Prim.Native.Nat.{ℕ, ◌+◌, ◌-◌, ◌*◌, ◌≤◌, ◌<◌}
use mathlib.Core.Path.{◌≡◌, ◌∙◌, refl, sym, ap}
use mathlib.Core.Bool.{Bool, true, false, not, ◌&&◌}
use mathlib.Core.List.{List}
use native.Mathlib.Omega.{arith}
use lib.Dec.{eqb, leb}
use lib.ListN.{drop, length, length-set}
use lib.Seq.{get_or-drop, get_or-take, get_or-set_same, get_or-set_other, drop-drop}
use borrow.Author.Tests.{eqb-true, eqb-false, leb-true, eq-eqb, ne_eqb, le-leb, lt-leb}
use Rattle.base_words.specs.All.{all}
use Rattle.base_words.specs.Pick.{if◌then◌or_else◌}
use Rattle.base_words.specs.Sum.{one_if, hit}
use Rattle.base_words.specs.Words.{at}
use Rattle.base_words.specs.Counts.{pools, elements, edges, names, instances, fields, branches, messages, pool_numbers}
use Rattle.base_words.proofs.AllLaws.{all_none, all_more, all_of, all_at, and_left, and_right}
use Rattle.base_words.proofs.PickLaws.{and_true}
use Rattle.base_kinds.specs.declared.Kind.{Kind}
use Rattle.base_kinds.specs.Kinds.{kind_of, start}
use Rattle.base_table.specs.Places.{entries_place, exits_place, element_words, pool_place, limit_place, element_place}
use Rattle.base_table.specs.Table.{pool_count, element_count, element_at, limit_of, kind_in, entry_at}
use Rattle.base_state.specs.Instances.{instances_of, queues_of, instance_at}
use Rattle.base_state.specs.Places.{defined_place, instance_words, instance_place, shared_place, version_at, instances_words, state_words, slot_words, slot_place, queue_place}
use Rattle.check_limits.specs.Limits.{within, zeros, things, count_fits as edgeCountFits, edge_fits, edges_fit, task_fits, conditions_fit, messages_fit, parts_fit, element_fits, pool_fits, table_fits}
use Rattle.check_limits.proofs.SameLaws.{held_all}
use Rattle.step_queues.proofs.SlotLaws.{by_below}
use Rattle.state_fits.specs.Fits.{start_place, has_start, made_fits, usable, place_fits, field_fits, fields_fit, instance_fits, instances_fit, slot_fits, shared_fits, queue_fits, state_fits}
use Rattle.state_fits.specs.Fresh.{start_edge, fresh}
use Rattle.state_fits.proofs.PartLaws.{Firsts, parted, shared}
use Rattle.state_fits.proofs.FreshLaws.{Holds, Startable, Pools, first_place, pools_long, pools_blank, pools_begun, pools_behind}
use Rattle.state_fits.proofs.UsableLaws.{start_in, start_kind, first_usable}

zeros_of : (x : List ℕ) (n : ℕ) → ((k : ℕ) → k < n → at x k ≡ 0) → zeros x n ≡ true
unfolding zeros
zeros_of x n h = all_of (λ k. eqb (at x k) 0) n (λ k l. eq-eqb (at x k) 0 (h k l))

-- HOW MANY INSTANCES a pool has made
module _ (t : List ℕ) (p : ℕ) where
  made_behind : pool_count t ≤ p → made_fits t p 0 ≡ true
  unfolding made_fits if◌then◌or_else◌
  made_behind l = rw (le-leb (pool_count t) p l)

  made_none : p < pool_count t → has_start t p ≡ false → made_fits t p 0 ≡ true
  unfolding made_fits if◌then◌or_else◌
  made_none l e = rw (lt-leb (pool_count t) p l, e) (le-leb 0 (limit_of t p) (omega arith))

  made_one : p < pool_count t → has_start t p ≡ true → made_fits t p 1 ≡ true
  unfolding made_fits if◌then◌or_else◌
  made_one l e = rw (lt-leb (pool_count t) p l, e)

-- A WORD of an instance
module _ (u h : List ℕ) (k : ℕ) where
  count_none : at h k ≡ 0 → place_fits u h k ≡ true
  unfolding place_fits if◌then◌or_else◌
  count_none e = rw e

  count_one : at h k ≡ 1 → at u k ≡ 1 → place_fits u h k ≡ true
  unfolding place_fits if◌then◌or_else◌
  count_one e f = rw (e, f)

field_none : (f : List ℕ) (d : ℕ) → at f (2 * d) ≡ 0 → at f (2 * d + 1) ≡ 0 → field_fits f d ≡ true
unfolding field_fits if◌then◌or_else◌
field_none f d e v = rw (e, v)

-- fields that stand from place k on, all words of which are 0
fields_none : (h : List ℕ) (k : ℕ) → ((j : ℕ) → j < 2 * fields → at h (k + j) ≡ 0) → fields_fit (drop k h) ≡ true
unfolding fields_fit
fields_none h k e =
    all_of (field_fits (drop k h)) fields (λ d r. field_none (drop k h) d (get_or-drop k h (2 * d) 0 ∙ e (2 * d) (omega arith)) (get_or-drop k h (2 * d + 1) 0 ∙ e (2 * d + 1) (omega arith)))

-- one word of an instance is 1, at a place of tokens that it may use
module _ (u h : List ℕ) (e : ℕ) (l : e < edges) (may : at u e ≡ 1) (words : (k : ℕ) → k < instance_words → at h k ≡ hit k e) where
  other_word : (k : ℕ) → k < instance_words → (k ≡ e → ⊥) → at h k ≡ 0
  other_word k r n = words k r ∙ ap one_if (ne_eqb k e n)

  one_token : instance_fits u h ≡ true
  unfolding instance_fits
  one_token =
      and_true (all (place_fits u h) (defined_place 0)) (fields_fit (drop (defined_place 0) h))
      (all_of (place_fits u h) (defined_place 0) (λ k r. count k r (eqb k e) refl))
      (fields_none h (defined_place 0) (λ j r. other_word (defined_place 0 + j) (omega arith) (λ q. omega arith)))
    where
      count : (k : ℕ) → k < defined_place 0 → (b : Bool) → eqb k e ≡ b → place_fits u h k ≡ true
      count k r true q =
          let s : k ≡ e = eqb-true k e q in
          count_one u h k (words k (omega arith) ∙ ap one_if q) (ap (at u) s ∙ may)
      count k r false q = count_none u h k (other_word k (omega arith) (eqb-false k e q))

-- THE INSTANCES of a pool
module _ (t s : List ℕ) (p : ℕ) where
  blank_fits : Holds s p 0 (λ k. 0) → made_fits t p 0 ≡ true → instances_fit t s p ≡ true
  blank_fits h m =
      parted t s p 0 (sym h.0)
      ∙ and_true (made_fits t p 0 && Firsts (usable t p) s p 0) (zeros (instance_at s p 0) (instance_words * (instances - 0)))
      (and_true (made_fits t p 0) (Firsts (usable t p) s p 0) m (all_none (λ i. instance_fits (usable t p) (instance_at s p i))))
      (zeros_of (instance_at s p 0) (instance_words * (instances - 0)) (λ k l. get_or-drop (instance_place p 0) s k 0 ∙ h.1 k l))

  begun_fits : (e : ℕ) → e < edges → at (usable t p) e ≡ 1 → Holds s p 1 (λ k. hit k e) → made_fits t p 1 ≡ true → instances_fit t s p ≡ true
  begun_fits e r may h m =
      parted t s p 1 (sym h.0)
      ∙ and_true (made_fits t p 1 && Firsts (usable t p) s p 1) (zeros (instance_at s p 1) (instance_words * (instances - 1)))
      (and_true (made_fits t p 1) (Firsts (usable t p) s p 1) m
      (all_more (λ i. instance_fits (usable t p) (instance_at s p i)) 0 (all_none (λ i. instance_fits (usable t p) (instance_at s p i)))
      (one_token (usable t p) (instance_at s p 0) e r may (λ k l. get_or-drop (instance_place p 0) s k 0 ∙ h.1 k (omega arith)))))
      (zeros_of (instance_at s p 1) (instance_words * (instances - 1))
      (λ k l.
      let q : instance_place p 1 + k ≡ instance_place p 0 + (instance_words + k) = omega arith in
      get_or-drop (instance_place p 1) s k 0 ∙ ap (at s) q ∙ h.1 (instance_words + k) (omega arith) ∙ ap one_if (ne_eqb (instance_words + k) e (λ f. omega arith))))

-- A QUEUE of zeros
queue_blank : (q : List ℕ) (m : ℕ) → ((j : ℕ) → at q j ≡ 0) → queue_fits q m ≡ true
queue_blank q m h =
    shared q m 0 (sym (h (queue_place m)))
    ∙ and_true (leb 0 messages && all (slot_fits q m) 0) (zeros (drop (slot_place m 0) q) (slot_words * (messages - 0)))
    (and_true (leb 0 messages) (all (slot_fits q m) 0) refl (all_none (slot_fits q m)))
    (zeros_of (drop (slot_place m 0) q) (slot_words * (messages - 0)) (λ k l. get_or-drop (slot_place m 0) q k 0 ∙ h (slot_place m 0 + k)))

-- THE FRESH STATE, for version v, of a table with at most 4 pools, and the first edge of each start from 1 to 48
module _ (t : List ℕ) (v : ℕ) (ask : Startable t) where
  -- its words but the version are those of the pools begun
  pub fresh_word : (j : ℕ) → (j ≡ version_at → ⊥) → at (fresh t v) j ≡ at (Pools t ask (pool_count t)) j
  unfolding fresh
  fresh_word j other = get_or-set_other (Pools t ask (pool_count t)) version_at j v 0 other

  pub fresh_version : at (fresh t v) version_at ≡ v
  unfolding fresh
  fresh_version = get_or-set_same (Pools t ask (pool_count t)) version_at v 0 (omega (arith, pools_long t ask (pool_count t)))

  pub fresh_long : length (fresh t v) ≡ state_words
  unfolding fresh
  fresh_long = length-set (Pools t ask (pool_count t)) version_at v ∙ pools_long t ask (pool_count t)

  held : (p c : ℕ) (f : ℕ → ℕ) → p < pools → Holds (Pools t ask (pool_count t)) p c f → Holds (instances_of (fresh t v)) p c f
  held p c f l h = (
    get_or-take instances_words (fresh t v) p 0 (omega arith) ∙ fresh_word p (λ e. omega arith) ∙ h.0,
    (λ k r. get_or-take instances_words (fresh t v) (instance_place p 0 + k) 0 (omega arith) ∙ fresh_word (instance_place p 0 + k) (λ e. omega arith) ∙ h.1 k r),
  )

  pool_fresh : (p : ℕ) → p < pools → instances_fit t (instances_of (fresh t v)) p ≡ true
  pool_fresh p l =
      by_below p (pool_count t) (λ r. go r (has_start t p) refl)
      (λ r.
      blank_fits t (instances_of (fresh t v)) p (held p 0 (λ k. 0) l (pools_blank t ask (pool_count t) p (omega arith) l (λ m. absurd (omega arith))))
      (made_behind t p r))
    where
      go : p < pool_count t → (b : Bool) → has_start t p ≡ b → instances_fit t (instances_of (fresh t v)) p ≡ true
      go r true e =
          let d = ask.first p r e in
          begun_fits t (instances_of (fresh t v)) p (first_place t p) (omega (arith, d.0, d.1)) (first_usable t p e d.1)
          (held p 1 (λ k. hit k (first_place t p)) l (pools_begun t ask (pool_count t) p (omega arith) r e)) (made_one t p r e)
      go r false e =
          blank_fits t (instances_of (fresh t v)) p (held p 0 (λ k. 0) l (pools_blank t ask (pool_count t) p (omega arith) l (λ m. e)))
          (made_none t p r e)

  pub queue_fresh : (j : ℕ) → at (queues_of (fresh t v)) j ≡ 0
  queue_fresh j =
      get_or-drop instances_words (fresh t v) j 0
      ∙ fresh_word (instances_words + j) (λ e. omega arith)
      ∙ pools_behind t ask (pool_count t) (instances_words + j) (omega arith) (omega arith)

  shared-fresh : shared_fits (instances_of (fresh t v)) ≡ true
  unfolding shared_fits
  shared-fresh =
      fields_none (instances_of (fresh t v)) shared_place
      (λ k l.
      get_or-take instances_words (fresh t v) (shared_place + k) 0 (omega arith)
      ∙ fresh_word (shared_place + k) (λ e. omega arith)
      ∙ pools_behind t ask (pool_count t) (shared_place + k) (omega arith) (omega arith))

  pub startable_fits : state_fits t (instances_of (fresh t v)) (queues_of (fresh t v)) ≡ true
  unfolding state_fits
  startable_fits =
      and_true (all (instances_fit t (instances_of (fresh t v))) pools && shared_fits (instances_of (fresh t v))) (all (queue_fits (queues_of (fresh t v))) names)
      (and_true (all (instances_fit t (instances_of (fresh t v))) pools) (shared_fits (instances_of (fresh t v))) (all_of (instances_fit t (instances_of (fresh t v))) pools pool_fresh) shared-fresh)
      (all_of (queue_fits (queues_of (fresh t v))) names (λ m l. queue_blank (queues_of (fresh t v)) m queue_fresh))

-- A TABLE WITHIN THE LIMITS is such a table. An element of kind start has one entry, and that is an edge
module _ (x : List ℕ) (fit : edges_fit 1 x ≡ true) where
  one_edge : at x 0 ≡ 1
  unfolding edges_fit edgeCountFits if◌then◌or_else◌
  one_edge = eqb-true (at x 0) 1 (and_left (eqb (at x 0) 1) _ fit)

  edge_first : edge_fits (drop (1 * 0) (drop 1 x)) ≡ true
  unfolding edges_fit edgeCountFits if◌then◌or_else◌ things
  edge_first =
      let listed : things (drop 1 x) 1 branches (at x 0) edge_fits ≡ true = and_right (eqb (at x 0) 1) _ fit in
      let firsts : all (λ j. edge_fits (drop (1 * j) (drop 1 x))) (at x 0) ≡ true = and_left (all (λ j. edge_fits (drop (1 * j) (drop 1 x))) (at x 0)) _ listed in
      all_at (λ j. edge_fits (drop (1 * j) (drop 1 x))) (at x 0) firsts 0 (omega (arith, one_edge))

  edge_within : within 1 edges (at x 1) ≡ true
  unfolding edge_fits
  edge_within = rw (get_or-drop 1 x 0 0) at edge_first

module _ (el : List ℕ) (kind : kind_in el ≡ start) (fit : element_fits el ≡ true) where
  parts : parts_fit (kind_of (kind_in el)) el ≡ true
  unfolding element_fits
  parts = and_right (not (eqb (kind_of (kind_in el)).letters 0)) _ fit

  start_one : (kind_of (kind_in el)).entries ≡ 1
  unfolding kind_of
  start_one = rw kind

  entries : edges_fit (kind_of (kind_in el)).entries (drop entries_place el) ≡ true
  unfolding parts_fit
  entries = and_right (task_fits k.task el) _ (and_left b₂ _ (and_left b₃ _ (and_left b₄ _ (and_left b₅ _ parts))))
    where
      k : Kind
      k = kind_of (kind_in el)

      b₂ : Bool
      b₂ = task_fits k.task el && edges_fit k.entries (drop entries_place el)

      b₃ : Bool
      b₃ = b₂ && edges_fit k.exits (drop exits_place el)

      b₄ : Bool
      b₄ = b₃ && conditions_fit k.conditions el

      b₅ : Bool
      b₅ = b₄ && messages_fit k.receives k.sends el

  entry_within : within 1 edges (entry_at el 0) ≡ true
  entry_within = rw (get_or-drop entries_place el 1 0) at (edge_within (drop entries_place el) (rw start_one at entries))

module _ (t : List ℕ) (fit : table_fits t ≡ true) where
  abbrev pooled : Bool
  pooled = within 1 pools (pool_count t) && all (pool_fits t) (pool_count t)

  few : pool_count t ≤ pools
  unfolding table_fits
  few = leb-true (pool_count t) pools (and_right (leb 1 (pool_count t)) _ (and_left (within 1 pools (pool_count t)) _ (and_left pooled _ fit)))

  pool_fit : (p : ℕ) → p < pool_count t → pool_fits t p ≡ true
  unfolding table_fits
  pool_fit = all_at (pool_fits t) (pool_count t) (and_right (within 1 pools (pool_count t)) _ (and_left pooled _ fit))

  element_fit : (p : ℕ) → p < pool_count t → (e : ℕ) → e < element_count t p → element_fits (element_at t p e) ≡ true
  unfolding pool_fits things
  element_fit p l e r =
      let filled : things (element_at t p 0) element_words elements (element_count t p) element_fits ≡ true =
      held_all (element_at t p 0) element_words elements (element_count t p) (and_right (within 1 pool_numbers (at t (pool_place p)) && leb (at t (limit_place p)) instances && within 1 elements (element_count t p)) _ (pool_fit p l)) in
      let firsts : all (λ j. element_fits (drop (element_words * j) (element_at t p 0))) (element_count t p) ≡ true = and_left _ _ filled in
      let place : element_place p 0 + element_words * e ≡ element_place p e = omega arith in
      ap (λ n. element_fits (drop n t)) (sym place)
      ∙ ap element_fits (sym (drop-drop (element_words * e) (element_place p 0) t))
      ∙ all_at (λ j. element_fits (drop (element_words * j) (element_at t p 0))) (element_count t p) firsts e r

  pub startable : Startable t
  unfolding start_edge
  startable = record {
    few = few;
    first = λ p l has.
        let w = entry_within (element_at t p (start_place t p)) (start_kind t p has) (element_fit p l (start_place t p) (start_in t p has)) in (
          leb-true 1 (start_edge t p) (and_left (leb 1 (start_edge t p)) (leb (start_edge t p) edges) w),
          leb-true (start_edge t p) edges (and_right (leb 1 (start_edge t p)) (leb (start_edge t p) edges) w),
        );
  }

  -- THE FRESH STATE OF A TABLE WITHIN THE LIMITS FITS
  pub fresh_fits : (v : ℕ) → state_fits t (instances_of (fresh t v)) (queues_of (fresh t v)) ≡ true
  fresh_fits v = startable_fits t v startable
