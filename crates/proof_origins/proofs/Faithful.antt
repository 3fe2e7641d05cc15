-- THE DECODER FORGETS NOTHING: two valid states of a table that stand for one configuration have the same words for their instances and stores, and in each queue equally many of each
-- message; and two that have stand for one. (The paper's configuration has no version, and in its queues no order.) Assumes nothing.
use Prim.Native.Nat.{ℕ, zero, suc, ◌+◌, ◌-◌, ◌*◌, ◌≤◌, ◌<◌}
use mathlib.Core.Path.{◌≡◌, refl, sym, ◌∙◌, ap, ap₂, subst}
use mathlib.Core.Bool.{Bool, true, false, ◌&&◌, false≢true}
use mathlib.Core.List.{List}
use native.Mathlib.Nat.{suc-mul}
use native.Mathlib.Omega.{arith}
use lib.Dec.{eqb, leb, ltb}
use lib.ListN.{length, drop}
use lib.Seq.{get_or-drop, ext_get_or}
use borrow.Author.Tests.{eqb-true, ltb-true, lt-ltb, le-leb}
use Rattle.std.specs.Prelude.{None, Some}
use Rattle.base_words.specs.All.{all}
use Rattle.base_words.specs.Pick.{if◌then◌or_else◌}
use Rattle.base_words.specs.Words.{at}
use Rattle.base_words.specs.Counts.{pools, edges, tasks, fields, names, instances, fields_named}
use Rattle.base_words.proofs.AllLaws.{and_left, and_right, all_at}
use Rattle.base_words.proofs.PickLaws.{and_true, and_false_left}
use Rattle.base_words.proofs.ListLaws.{get_d_tab}
use Rattle.base_table.specs.Places.{pool_place}
use Rattle.base_table.specs.Table.{pool_count, pool_of}
use Rattle.base_state.specs.Places.{token_place, active_place, ready_place, defined_place, value_place, instance_words, made_place, instance_place, shared_place, version_at, instances_words}
use Rattle.base_state.specs.Instances.{instances_of, queues_of, version_of, made_count, instance_at}
use Rattle.check_limits.specs.Limits.{within}
use Rattle.meaning.specs.declared.Tuple.{Tuple}
use Rattle.meaning.specs.Values.{Value, is_defined, number_in}
use Rattle.meaning.specs.Expressions.{field_of}
use Rattle.meaning.specs.Messages.{times}
use Rattle.meaning.specs.Queues.{messages_of}
use Rattle.meaning.specs.Step.{instance_of}
use Rattle.state_fits.specs.Fits.{made_fits, usable, field_fits, fields_fit, place_fits, instance_fits, instances_fit, shared_fits, queue_fits, state_fits}
use Rattle.step_queues.proofs.SlotLaws.{by_below}
use Rattle.proof_steps.proofs.Choices.{by_test, chosen, passed, chosen_true, passed_true}
use Rattle.proof_steps.proofs.Elements.{pools_few}
use Rattle.proof_steps.proofs.PoolFits.{PoolFit, pool_parts, made_few}
use Rattle.proof_listing.proofs.PoolFound.{pool_found}
use Rattle.engine.specs.Calls.{Valid}
use Rattle.engine.proofs.CallLaws.{table_fits_lem, checks_hold, state_fits_lem, long_instances}
use Rattle.paper.specs.States.{Local, blank, Multiset, Configuration, own_of}
use Rattle.proof_paper.specs.Decoders.{inside_or, local_of, nothing, queue_of, store_of, tuple_of, values_of, is_pool}
use Rattle.proof_paper.specs.Calls.{state_of}
use Rattle.proof_paper.proofs.Stores.{same_if, is_inside}
use Rattle.proof_paper.proofs.Pools.{instance_alike}
use Rattle.proof_paper.proofs.Mail.{times-values}
use Rattle.proof_demands.proofs.Counts.{times-length}

-- what stands inside is told apart
told_apart : {A : Type 0} (b : Bool) (none x y : A) → b ≡ true → inside_or none b x ≡ inside_or none b y → x ≡ y
told_apart b none x y e h = sym (chosen b x none e) ∙ h ∙ chosen b y none e

-- a number below n * w is i * w + k
cut : (w n j : ℕ) → j < n * w → (i : ℕ) × ((k : ℕ) × ((i < n) × (k < w) × (j ≡ i * w + k)))
cut w zero j l = absurd (omega (arith, l))
cut w (suc n) j l =
    by_below j (n * w)
    (λ r. let (i, (k, (a, b, c))) = cut w n j r in (i, (k, (omega (arith, a), b, c))))
    (λ r. (n, (j - n * w, (omega arith, omega (arith, l, r, suc-mul n w), omega (arith, r)))))

-- A FIELD OR A STORE: whether it is defined, and its value
abbrev pair_fits : ℕ → ℕ → Bool
pair_fits D W = if eqb D 0 then eqb W 0 or_else eqb D 1

abbrev value_in : ℕ → ℕ → Value
value_in D W = if eqb D 0 then None or_else Some W

pair_same : (D W D' W' : ℕ) → pair_fits D W ≡ true → pair_fits D' W' ≡ true → value_in D W ≡ value_in D' W' → (D ≡ D') × (W ≡ W')
unfolding is_defined number_in
pair_same D W D' W' f f' e =
    by_test (eqb D 0)
    (λ y. by_test (eqb D' 0)
    (λ z. (eqb-true D 0 y ∙ sym (eqb-true D' 0 z), eqb-true W 0 (chosen_true (eqb D 0) (eqb W 0) (eqb D 1) f y) ∙ sym (eqb-true W' 0 (chosen_true (eqb D' 0) (eqb W' 0) (eqb D' 1) f' z))))
    (λ z. absurd (false≢true (ap is_defined (sym (chosen (eqb D 0) None (Some W) y) ∙ e ∙ passed (eqb D' 0) None (Some W') z)))))
    (λ y. by_test (eqb D' 0)
    (λ z. absurd (false≢true (ap is_defined (sym (chosen (eqb D' 0) None (Some W') z) ∙ sym e ∙ passed (eqb D 0) None (Some W) y))))
    (λ z. (
      eqb-true D 1 (passed_true (eqb D 0) (eqb W 0) (eqb D 1) f y) ∙ sym (eqb-true D' 1 (passed_true (eqb D' 0) (eqb W' 0) (eqb D' 1) f' z)),
      ap number_in (sym (passed (eqb D 0) None (Some W) y) ∙ e ∙ passed (eqb D' 0) None (Some W') z),
    )))

-- n of them from a place on
pairs_same : (g h : List ℕ) (from n : ℕ) → ((d : ℕ) → d < n → (at g (from + 2 * d) ≡ at h (from + 2 * d)) × (at g (from + (2 * d + 1)) ≡ at h (from + (2 * d + 1))))
    → (k : ℕ) → k < 2 * n → at g (from + k) ≡ at h (from + k)
pairs_same g h from n e k l =
    let (d, (b, (few, two, q))) = cut 2 n k (omega (arith, l)) in
    by_below b 1
    (λ r. let z : 2 * d ≡ k = omega (arith, q, r) in subst (λ i. at g (from + i) ≡ at h (from + i)) z (e d few).0)
    (λ r. let z : 2 * d + 1 ≡ k = omega (arith, q, r, two) in subst (λ i. at g (from + i) ≡ at h (from + i)) z (e d few).1)

-- AN INSTANCE
abbrev Filled : List ℕ → Type 0
Filled h = (d : ℕ) → d < fields → pair_fits (at h (defined_place d)) (at h (value_place d)) ≡ true

module _ (g h : List ℕ) (f : Filled g) (f' : Filled h) (e : own_of (local_of g) ≡ own_of (local_of h)) where
  field_same : (d : ℕ) → d < fields → (at g (defined_place d) ≡ at h (defined_place d)) × (at g (value_place d) ≡ at h (value_place d))
  unfolding field_of
  field_same d l =
      let own : (local_of g).σd d ≡ (local_of h).σd d = told_apart (ltb d fields) None ((local_of g).σd d) ((local_of h).σd d) (lt-ltb d fields l) (ap (λ (σ : Local). σ.σd d) e) in
      pair_same (at g (defined_place d)) (at g (value_place d)) (at h (defined_place d)) (at h (value_place d)) (f d l) (f' d l)
      (told_apart (ltb d fields_named) None (field_of g d) (field_of h d) (lt-ltb d fields_named (omega arith)) own)

  pair_at : (d : ℕ) → d < fields → (at g (defined_place 0 + 2 * d) ≡ at h (defined_place 0 + 2 * d)) × (at g (defined_place 0 + (2 * d + 1)) ≡ at h (defined_place 0 + (2 * d + 1)))
  pair_at d l = let q : value_place d ≡ defined_place 0 + (2 * d + 1) = omega arith in ((field_same d l).0, subst (λ i. at g i ≡ at h i) q (field_same d l).1)

  -- a count of one of the numbers 1 to top
  count_same : (place : ℕ → ℕ) (top : ℕ) (σ : Local → ℕ → ℕ) → ((x : List ℕ) (n : ℕ) → σ (own_of (local_of x)) n ≡ inside_or 0 (within 1 top n) (at x (place n)))
      → (n k : ℕ) → 1 ≤ n → n ≤ top → place n ≡ k → at g k ≡ at h k
  count_same place top σ is n k l r q =
      subst (λ i. at g i ≡ at h i) q
      (told_apart (within 1 top n) 0 (at g (place n)) (at h (place n)) (is_inside 1 top n l r) (sym (is g n) ∙ ap (λ (K : Local). σ K n) e ∙ is h n))

  local_words : (k : ℕ) → k < instance_words → at g k ≡ at h k
  local_words k l =
      by_below k edges
      (λ r. count_same token_place edges (λ (K : Local). K.σe) (λ x n. refl) (k + 1) k (omega arith) (omega arith) (omega arith))
      (λ w. by_below k (edges + tasks)
      (λ r. count_same active_place tasks (λ (K : Local). K.active) (λ x n. refl) (k - edges + 1) k (omega arith) (omega arith) (omega arith))
      (λ w. by_below k (defined_place 0)
      (λ r. count_same ready_place tasks (λ (K : Local). K.ready) (λ x n. refl) (k - (edges + tasks) + 1) k (omega arith) (omega arith) (omega arith))
      (λ w.
      let z : defined_place 0 + (k - defined_place 0) ≡ k = omega arith in
      subst (λ i. at g i ≡ at h i) z (pairs_same g h (defined_place 0) fields pair_at (k - defined_place 0) (omega arith)))))

-- THE INSTANCES AND STORES of a valid state
module _ (t z : List ℕ) (valid : Valid t z) where
  abbrev words : List ℕ
  words = instances_of z

  pool_of_lem : (p : ℕ) → p < pools → PoolFit t words p
  unfolding state_fits
  pool_of_lem p l =
      pool_parts t words p
      (all_at (instances_fit t words) pools
      (and_left (all (instances_fit t words) pools) (shared_fits words)
      (and_left (all (instances_fit t words) pools && shared_fits words) (all (queue_fits (queues_of z)) names) (state_fits_lem t z valid.fits))) p l)

  few_made : (p : ℕ) → p < pools → made_count words p ≤ instances
  few_made p l = made_few t (table_fits_lem t z valid.fits) p (made_count words p) (pool_of_lem p l).made

  none_made : (p : ℕ) → p < pools → pool_count t ≤ p → made_count words p ≡ 0
  unfolding made_fits
  none_made p l r = eqb-true (made_count words p) 0 (chosen_true (leb (pool_count t) p) _ _ (pool_of_lem p l).made (le-leb (pool_count t) p r))

  word_of : (p i k : ℕ) → k < instance_words → at (instance_of words p i) k ≡ at words (instance_place p i + k)
  unfolding instance_of
  word_of p i k l = get_d_tab (λ j. at words (instance_place p i + j)) instance_words k 0 l

  -- a field of an instance that is made, and a store
  own_word : (p i k j : ℕ) → k < instance_words → defined_place 0 + j ≡ k → at (instance_of words p i) k ≡ at (drop (defined_place 0) (instance_at words p i)) j
  own_word p i k j l q =
      word_of p i k l ∙ sym (get_or-drop (instance_place p i) words k 0) ∙ ap (at (instance_at words p i)) (sym q) ∙ sym (get_or-drop (defined_place 0) (instance_at words p i) j 0)

  filled : (p i : ℕ) → p < pools → i < made_count words p → Filled (instance_of words p i)
  unfolding instance_fits fields_fit field_fits
  filled p i l r d few =
      let f : List ℕ = drop (defined_place 0) (instance_at words p i) in
      ap₂ pair_fits (own_word p i (defined_place d) (2 * d) (omega arith) (omega arith)) (own_word p i (value_place d) (2 * d + 1) (omega arith) (omega arith))
      ∙ all_at (field_fits f) fields (and_right (all (place_fits (usable t p) (instance_at words p i)) (defined_place 0)) (all (field_fits f) fields) ((pool_of_lem p l).each i r)) d few

  stored : (d : ℕ) → d < fields → pair_fits (at words (shared_place + 2 * d)) (at words (shared_place + (2 * d + 1))) ≡ true
  unfolding state_fits shared_fits fields_fit field_fits
  stored d few =
      ap₂ pair_fits (sym (get_or-drop shared_place words (2 * d) 0)) (sym (get_or-drop shared_place words (2 * d + 1) 0))
      ∙ all_at (field_fits (drop shared_place words)) fields
      (and_right (all (instances_fit t words) pools) (shared_fits words)
      (and_left (all (instances_fit t words) pools && shared_fits words) (all (queue_fits (queues_of z)) names) (state_fits_lem t z valid.fits))) d few

  word_none : (p i k : ℕ) → p < pools → i < instances → made_count words p ≤ i → k < instance_words → at words (instance_place p i + k) ≡ 0
  word_none p i k l r w b =
      let n : ℕ = made_count words p in
      let e : instance_place p n + (instance_words * (i - n) + k) ≡ instance_place p i + k = omega arith in
      subst (λ j. at words j ≡ 0) e ((pool_of_lem p l).rest (instance_words * (i - n) + k) (omega arith))

-- TWO STATES
module _ (t y z : List ℕ) (vy : Valid t y) (vz : Valid t z) where
  abbrev s : List ℕ
  s = instances_of y

  abbrev r : List ℕ
  r = instances_of z

  -- one configuration
  module _ (e : state_of t y ≡ state_of t z) where
    place : (q : ℕ) → q < pool_count t → pool_of t (at t (pool_place q)) ≡ q
    place q l = pool_found t (table_fits_lem t y vy.fits) (checks_hold t y vy.fits) q l

    is_pool_lem : (q : ℕ) → q < pool_count t → is_pool t (at t (pool_place q)) ≡ true
    unfolding is_pool
    is_pool_lem q l = lt-ltb (pool_of t (at t (pool_place q))) (pool_count t) (subst (λ k. k < pool_count t) (sym (place q l)) l)

    made_there : (q : ℕ) → q < pool_count t → made_count s q ≡ made_count r q
    made_there q l =
        let p : ℕ = at t (pool_place q) in
        subst (λ k. made_count s k ≡ made_count r k) (place q l) (told_apart (is_pool t p) 0 (made_count s (pool_of t p)) (made_count r (pool_of t p)) (is_pool_lem q l) (ap (λ (κ : Configuration). κ.made p) e))

    made_same : (q : ℕ) → q < pools → made_count s q ≡ made_count r q
    made_same q l = by_below q (pool_count t) (made_there q) (λ w. none_made t y vy q l w ∙ sym (none_made t z vz q l w))

    local_same : (q i : ℕ) → q < pool_count t → i < made_count s q → own_of (local_of (instance_of s q i)) ≡ own_of (local_of (instance_of r q i))
    local_same q i l w =
        let p : ℕ = at t (pool_place q) in
        let P : ℕ = pool_of t p in
        let a : is_pool t p && ltb i (made_count s P) ≡ true = and_true (is_pool t p) (ltb i (made_count s P)) (is_pool_lem q l) (lt-ltb i (made_count s P) (subst (λ k. i < made_count s k) (sym (place q l)) w)) in
        let b : is_pool t p && ltb i (made_count r P) ≡ true = and_true (is_pool t p) (ltb i (made_count r P)) (is_pool_lem q l) (lt-ltb i (made_count r P) (subst (λ k. i < made_count r k) (sym (place q l)) (subst (λ n. i < n) (made_there q l) w))) in
        subst (λ k. own_of (local_of (instance_of s k i)) ≡ own_of (local_of (instance_of r k i))) (place q l)
        (sym (chosen (is_pool t p && ltb i (made_count s P)) (own_of (local_of (instance_of s P i))) blank a) ∙ ap (λ (κ : Configuration). κ.σi p i) e ∙ chosen (is_pool t p && ltb i (made_count r P)) (own_of (local_of (instance_of r P i))) blank b)

    word_same : (q i k : ℕ) → q < pools → i < instances → k < instance_words → at s (instance_place q i + k) ≡ at r (instance_place q i + k)
    word_same q i k l w b =
        let m = made_same q l in
        by_below i (made_count s q)
        (λ h. by_below q (pool_count t)
        (λ c.
        sym (word_of t y vy q i k b)
        ∙ local_words (instance_of s q i) (instance_of r q i) (filled t y vy q i l h) (filled t z vz q i l (subst (λ n. i < n) m h)) (local_same q i c h) k b
        ∙ word_of t z vz q i k b)
        (λ c. let n = none_made t y vy q l c in absurd (omega arith)))
        (λ h. word_none t y vy q i k l w h b ∙ sym (word_none t z vz q i k l w (subst (λ n. n ≤ i) m h) b))

    word_there : (j q i k : ℕ) → q < pools → i < instances → k < instance_words → instance_place q i + k ≡ j → at s j ≡ at r j
    word_there j q i k a d f h = subst (λ n. at s n ≡ at r n) h (word_same q i k a d f)

    store_same : (d : ℕ) → d < fields → (at s (shared_place + 2 * d) ≡ at r (shared_place + 2 * d)) × (at s (shared_place + (2 * d + 1)) ≡ at r (shared_place + (2 * d + 1)))
    unfolding store_of
    store_same d l =
        pair_same (at s (shared_place + 2 * d)) (at s (shared_place + (2 * d + 1))) (at r (shared_place + 2 * d)) (at r (shared_place + (2 * d + 1))) (stored t y vy d l) (stored t z vz d l)
        (told_apart (ltb d fields) None (store_of s d) (store_of r d) (lt-ltb d fields l) (ap (λ (κ : Configuration). κ.σds d) e))

    -- the counts, the instances and the stores have the same words, which are all before the version's
    pub words_same : (j : ℕ) → j < version_at → at (instances_of y) j ≡ at (instances_of z) j
    words_same j l =
        by_below j pools (made_same j)
        (λ w. by_below j shared_place
        (λ h.
        let (q, (m, (a, b, c))) = cut (instance_words * instances) pools (j - pools) (omega arith) in
        let (i, (k, (d, f, g))) = cut instance_words instances m (omega (arith, b)) in
        word_there j q i k a d f (omega (arith, c, g, w)))
        (λ h. let x : shared_place + (j - shared_place) ≡ j = omega arith in subst (λ n. at s n ≡ at r n) x (pairs_same s r shared_place fields store_same (j - shared_place) (omega arith))))

    -- so that two states of one version have all words of their instances in common
    pub instances_same : version_of (instances_of y) ≡ version_of (instances_of z) → instances_of y ≡ instances_of z
    instances_same v =
        let a = long_instances y vy.long in
        ext_get_or 0 s r (a ∙ sym (long_instances z vz.long))
        (λ j l.
        let w : j < instances_words = subst (λ n. j < n) a l in
        by_below j version_at (words_same j) (λ h. let x : version_at ≡ j = omega arith in subst (λ n. at s n ≡ at r n) x v))

    pub counts_same : (m : ℕ) → m < names → (g : Tuple) → times g (messages_of (queues_of y) m) ≡ times g (messages_of (queues_of z) m)
    counts_same m l g =
        let w = told_apart (ltb m names) nothing (queue_of (queues_of y) m) (queue_of (queues_of z) m) (lt-ltb m names l) (ap (λ (κ : Configuration). κ.σm m) e) in
        sym (times-values g (messages_of (queues_of y) m)) ∙ ap (λ (M : Multiset). M.times (values_of g)) w ∙ times-values g (messages_of (queues_of z) m)

  -- and back
  module _ (e : (j : ℕ) → j < version_at → at s j ≡ at r j) (c : (m : ℕ) → m < names → (g : Tuple) → times g (messages_of (queues_of y) m) ≡ times g (messages_of (queues_of z) m)) where
    few : pool_count t ≤ pools
    few = pools_few t (table_fits_lem t y vy.fits)

    made_back : (p : ℕ) → is_pool t p ≡ true → made_count s (pool_of t p) ≡ made_count r (pool_of t p)
    unfolding is_pool
    made_back p h = let l = ltb-true (pool_of t p) (pool_count t) h in let f = few in e (made_place (pool_of t p)) (omega arith)

    own_back : (p i : ℕ) → inside_or blank (is_pool t p && ltb i (made_count s (pool_of t p))) (own_of (local_of (instance_of s (pool_of t p) i))) ≡ inside_or blank (is_pool t p && ltb i (made_count r (pool_of t p))) (own_of (local_of (instance_of r (pool_of t p) i)))
    unfolding is_pool
    own_back p i =
        by_test (is_pool t p)
        (λ h.
        let l = ltb-true (pool_of t p) (pool_count t) h in
        let f = few in
        ap (λ n. inside_or blank (is_pool t p && ltb i n) (own_of (local_of (instance_of s (pool_of t p) i)))) (made_back p h)
        ∙ same_if (is_pool t p && ltb i (made_count r (pool_of t p))) blank _ _
        (λ w.
        let m = ltb-true i (made_count r (pool_of t p)) (and_right (is_pool t p) (ltb i (made_count r (pool_of t p))) w) in
        let o = few_made t z vz (pool_of t p) (omega arith) in
        instance_alike r s (pool_of t p) i (λ k b. e (instance_place (pool_of t p) i + k) (omega arith))))
        (λ h. passed (is_pool t p && ltb i (made_count s (pool_of t p))) _ blank (and_false_left (is_pool t p) _ h) ∙ sym (passed (is_pool t p && ltb i (made_count r (pool_of t p))) _ blank (and_false_left (is_pool t p) _ h)))

    store_back : (d : ℕ) → d < fields → store_of s d ≡ store_of r d
    unfolding store_of
    store_back d l = ap₂ value_in (e (shared_place + 2 * d) (omega arith)) (e (shared_place + (2 * d + 1)) (omega arith))

    pub configurations_same : state_of t y ≡ state_of t z
    configurations_same = λ i. record {
      σi = λ p j. own_back p j i;
      made = λ p. same_if (is_pool t p) 0 _ _ (made_back p) i;
      σm = λ m. same_if (ltb m names) nothing (queue_of (queues_of y) m) (queue_of (queues_of z) m) (λ w.
          let l = ltb-true m names w in
          let n : length (messages_of (queues_of y) m) ≡ length (messages_of (queues_of z) m) = times-length (messages_of (queues_of y) m) (messages_of (queues_of z) m) (c m l) in
          λ k. record { times = λ vs. c m l (tuple_of vs) k; size = n k }) i;
      σds = λ d. same_if (ltb d fields) None _ _ (λ w. store_back d (ltb-true d fields w)) i;
    }
