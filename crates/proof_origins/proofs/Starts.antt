-- THE FRESH STATE of a valid table, for any version, is the initial configuration of its collaboration. Assumes nothing.
use Prim.Native.Nat.{ℕ, zero, suc, ◌+◌, ◌*◌, ◌<◌}
use mathlib.Core.Path.{◌≡◌, refl, sym, ◌∙◌, ap}
use mathlib.Core.Bool.{Bool, true, false, ◌&&◌, false≢true}
use mathlib.Core.List.{List, [], ◌∷◌}
use native.Mathlib.Omega.{arith}
use lib.Dec.{eqb, ltb}
use lib.ListN.{length, get_or, set, replicate, length-replicate}
use lib.Seq.{get_or-take, get_or-set_same, get_or-set_other}
use borrow.Author.Tests.{eqb-true, eqb-false, eq-eqb, ne_eqb, ltb-true, ltb-false, lt-ltb, le-ltb}
use Rattle.std.specs.Prelude.{None}
use Rattle.base_words.specs.Pick.{if◌then◌or_else◌}
use Rattle.base_words.specs.Seek.{seek}
use Rattle.base_words.specs.Each.{tab}
use Rattle.base_words.specs.Sum.{one_if, hit}
use Rattle.base_words.specs.Words.{at}
use Rattle.base_words.specs.Counts.{names, fields}
use Rattle.base_words.proofs.ListLaws.{get_d_tab}
use Rattle.base_words.proofs.SeekLaws.{sought, seek_found}
use Rattle.base_kinds.specs.Kinds as Kinds
use Rattle.base_table.specs.Table.{pool_count, element_count, element_at, has_number, pool_of, kind_in, entry_at}
use Rattle.base_state.specs.Places.{instance_words, made_place, instance_place, shared_place, version_at, instances_words, copy_words, queue_place}
use Rattle.base_state.specs.Instances.{instances_of, queues_of, version_of, made_count, with_tokens}
use Rattle.check_limits.specs.Limits.{table_fits}
use Rattle.meaning.specs.declared.Tuple.{Tuple}
use Rattle.meaning.specs.Messages.{times}
use Rattle.meaning.specs.Queues.{message_at, messages_of}
use Rattle.meaning.specs.Step.{instance_of}
use Rattle.state_fits.specs.Fits.{is_start, start_place, has_start}
use Rattle.state_fits.specs.Fresh.{start_edge, fresh}
use Rattle.state_fits.proofs.FreshLaws.{Startable, Pools, first_place, pools_blank, pools_begun, pools_behind, blank_at}
use Rattle.state_fits.proofs.FreshFits.{startable, fresh_word, fresh_version, queue_fresh}
use Rattle.state_fits.proofs.UsableLaws.{start_kind}
use Rattle.engine.specs.Engine.{valid, asked_number, Left, freshened}
use Rattle.engine.proofs.CallLaws.{asked_valid}
use Rattle.proof_steps.proofs.Choices.{by_test, chosen, passed}
use Rattle.proof_steps.proofs.Elements.{pools_few}
use Rattle.proof_valid.proofs.ChecksHold.{valid_fits}
use Rattle.paper.specs.Syntax.{Element, end, Pool, Each, none, more}
use Rattle.paper.specs.States.{Local, blank, ◌edges:◌, put, own_of}
use Rattle.proof_paper.specs.Decoders.{span, inside_or, local_of, nothing, queue_of, store_of, is_pool, of_each_kind, element_of, process_at, pool_at, collaboration_of}
use Rattle.proof_paper.specs.Calls.{state_of}
use Rattle.proof_paper.proofs.Stores.{same_if, tokens_put}
use Rattle.proof_paper.proofs.Pools.{own_alike, blank_is}
use Rattle.proof_origins.specs.Initial.{of_first, waits, begins, beginning_at, is_beginning, beginning, beginning_of, instances_begun, opening, initial}

-- THE FIRST of a function's values that passes a test stands where `seek` finds it
module _ {A B : Type 0} (f : ℕ → A) (test : A → Bool) (get : A → B) (none : B) where
  abbrev passes : ℕ → Bool
  passes j = test (f j)

  abbrev found : ℕ → B
  found n = if ltb (seek passes n) n then get (f (seek passes n)) or_else none

  first_from_lem : (k n m : ℕ) → k + n ≡ m → ((j : ℕ) → j < k → passes j ≡ false) → of_first test get none (span f k n) ≡ found m
  unfolding of_first span
  first_from_lem k zero m e below =
      let s = sought passes m in
      sym (passed (ltb (seek passes m) m) _ none (by_test (ltb (seek passes m) m) (λ y. let l = ltb-true (seek passes m) m y in absurd (false≢true (sym (below (seek passes m) (omega arith)) ∙ s.1 l))) (λ y. y)))
  first_from_lem k (suc n) m e below =
      by_test (passes k)
      (λ y.
      let z : k ≡ seek passes m = seek_found passes m k (omega arith) reach y in
      chosen (passes k) (get (f k)) _ y ∙ ap (λ i. get (f i)) z ∙ sym (chosen (ltb (seek passes m) m) _ none (lt-ltb (seek passes m) m (omega arith))))
      (λ y.
      passed (passes k) _ (of_first test get none (span f (suc k) n)) y
      ∙ first_from_lem (suc k) n m (omega arith) (λ j l. by_test (eqb j k) (λ q. ap passes (eqb-true j k q) ∙ y) (λ q. let d = eqb-false j k q in below j (omega arith))))
    where
      reach : seek passes k ≡ k
      reach =
          let s = sought passes k in
          by_test (ltb (seek passes k) k) (λ y. let l = ltb-true (seek passes k) k y in absurd (false≢true (sym (below (seek passes k) l) ∙ s.1 l))) (λ y. let l = ltb-false (seek passes k) k y in omega (arith, s.0))

  first_is : (n : ℕ) → of_first test get none (span f 0 n) ≡ found n
  first_is n = first_from_lem 0 n n (omega arith) (λ j l. absurd (omega arith))

seek_alike : (f g : ℕ → Bool) → ((j : ℕ) → f j ≡ g j) → (n : ℕ) → seek f n ≡ seek g n
seek_alike f g e n = ap (λ (h : ℕ → Bool). seek h n) (λ i j. e j i)

-- AN ELEMENT: only kind 1 begins, at its entry
at_each : {A : Type 0} (P : A → Type 0) (xs : List A) (d : A) → Each P xs → P d → (k : ℕ) → P (get_or xs k d)
at_each P [] d e p k = p
at_each P (x ∷ xs) d (more q e) p zero = q
at_each P (x ∷ xs) d (more q e) p (suc k) = at_each P xs d e p k

abbrev Waits : Element → Type 0
Waits el = beginning_at el ≡ waits

module _ (el : List ℕ) where
  by_kind : (k : ℕ) → beginning_at (get_or (of_each_kind el) k (end 0)) ≡ (if eqb k Kinds.start then begins (entry_at el 0) or_else waits)
  unfolding of_each_kind beginning_at if◌then◌or_else◌
  by_kind zero = refl
  by_kind (suc zero) = refl
  by_kind (suc (suc k)) =
      at_each Waits _ (end 0) (more refl (more refl (more refl (more refl (more refl (more refl (more refl (more refl (more refl (more refl (more refl (more refl (more refl (more refl none)))))))))))))) refl k
      ∙ sym (passed (eqb (suc (suc k)) Kinds.start) _ waits (ne_eqb (suc (suc k)) Kinds.start (λ q. omega arith)))

  element_begins : beginning_at (element_of el) ≡ (if eqb (kind_in el) Kinds.start then begins (entry_at el 0) or_else waits)
  unfolding element_of
  element_begins = by_kind (kind_in el)

  is_beginning_lem : is_beginning (beginning_at (element_of el)) ≡ eqb (kind_in el) Kinds.start
  unfolding is_beginning
  is_beginning_lem =
      ap is_beginning element_begins
      ∙ by_test (eqb (kind_in el) Kinds.start) (λ y. ap is_beginning (chosen (eqb (kind_in el) Kinds.start) _ _ y) ∙ sym y) (λ y. ap is_beginning (passed (eqb (kind_in el) Kinds.start) _ _ y) ∙ sym y)

-- A POOL and a collaboration
module _ (t : List ℕ) where
  process_begins : (p : ℕ) → beginning (process_at t p) ≡ (if has_start t p then begins (start_edge t p) or_else waits)
  unfolding process_at has_start start_place is_start start_edge
  process_begins p =
      let n : ℕ = element_count t p in
      let s : ℕ = start_place t p in
      let w : seek (λ j. is_beginning (beginning_at (element_of (element_at t p j)))) n ≡ s = seek_alike _ (is_start t p) (λ j. is_beginning_lem (element_at t p j)) n in
      first_is (λ e. element_of (element_at t p e)) (λ x. is_beginning (beginning_at x)) beginning_at waits n
      ∙ ap (λ k. if ltb k n then beginning_at (element_of (element_at t p k)) or_else waits) w
      ∙ same_if (ltb s n) waits _ _ (λ y. element_begins (element_at t p s) ∙ chosen (eqb (kind_in (element_at t p s)) Kinds.start) _ waits (eq-eqb (kind_in (element_at t p s)) Kinds.start (start_kind t p y)))

  pool_begins : (p : ℕ) → beginning_of (collaboration_of t) p ≡ (if is_pool t p then beginning (process_at t (pool_of t p)) or_else waits)
  unfolding beginning_of collaboration_of pool_at is_pool pool_of has_number
  pool_begins p = first_is (pool_at t) (λ (P : Pool). eqb P.name p) (λ (P : Pool). beginning P.process) waits (pool_count t)

-- THE FRESH STATE of a table within the limits
module _ (t : List ℕ) (v : ℕ) (fits : table_fits t ≡ true) where
  abbrev z : List ℕ
  z = fresh t v

  abbrev s : List ℕ
  s = instances_of z

  abbrev C : List Pool
  C = collaboration_of t

  abbrev ask : Startable t
  ask = startable t fits

  -- a word before the version's is that of the pools begun
  fresh_at : (j : ℕ) → j < version_at → at s j ≡ at (Pools t ask (pool_count t)) j
  fresh_at j l = get_or-take instances_words z j 0 (omega arith) ∙ fresh_word t v ask j (λ e. omega arith)

  made_blank : (q : ℕ) → q < pool_count t → has_start t q ≡ false → made_count s q ≡ 0
  made_blank q l e = let f = pools_few t fits in fresh_at (made_place q) (omega arith) ∙ (pools_blank t ask (pool_count t) q (omega arith) (omega arith) (λ m. e)).0

  made_begun : (q : ℕ) → q < pool_count t → has_start t q ≡ true → made_count s q ≡ 1
  made_begun q l e = let f = pools_few t fits in fresh_at (made_place q) (omega arith) ∙ (pools_begun t ask (pool_count t) q (omega arith) l e).0

  -- instance 0 of a pool with a start: one token, on its first edge
  word_begun : (q : ℕ) → q < pool_count t → has_start t q ≡ true → (k : ℕ) → k < instance_words → at (instance_of s q 0) k ≡ hit k (first_place t q)
  unfolding instance_of
  word_begun q l e k r =
      let f = pools_few t fits in
      get_d_tab (λ j. at s (instance_place q 0 + j)) instance_words k 0 r
      ∙ fresh_at (instance_place q 0 + k) (omega arith)
      ∙ (pools_begun t ask (pool_count t) q (omega arith) l e).1 k (omega arith)

  one_word : (d k : ℕ) → d < instance_words → at (set (replicate copy_words 0) d 1) k ≡ hit k d
  one_word d k l =
      by_test (eqb k d)
      (λ y. ap (at (set (replicate copy_words 0) d 1)) (eqb-true k d y) ∙ get_or-set_same (replicate copy_words 0) d 1 0 (omega (arith, length-replicate {A = ℕ} copy_words 0)) ∙ sym (ap one_if y))
      (λ y. get_or-set_other (replicate copy_words 0) d k 1 0 (eqb-false k d y) ∙ blank_at copy_words k ∙ sym (ap one_if y))

  opened : (q : ℕ) → q < pool_count t → has_start t q ≡ true → own_of (local_of (instance_of s q 0)) ≡ opening (begins (start_edge t q))
  unfolding opening
  opened q l e =
      let d = ask.first q l e in
      own_alike (instance_of s q 0) (with_tokens (replicate copy_words 0) (start_edge t q) 1) (λ k r. word_begun q l e k r ∙ sym (one_word (first_place t q) k (omega (arith, d.0, d.1))))
      ∙ ap own_of (tokens_put (replicate copy_words 0) (length-replicate {A = ℕ} copy_words 0) (start_edge t q) 1 d.0 d.1)
      ∙ ap (λ (σ : Local). σ edges: put σ.σe (start_edge t q) 1) (blank_is copy_words)

  -- a pool by its place, and by its number
  pool_count_lem : (q : ℕ) → q < pool_count t → made_count s q ≡ instances_begun (beginning (process_at t q))
  unfolding instances_begun
  pool_count_lem q l =
      by_test (has_start t q)
      (λ e. made_begun q l e ∙ ap instances_begun (sym (process_begins t q ∙ chosen (has_start t q) _ waits e)))
      (λ e. made_blank q l e ∙ ap instances_begun (sym (process_begins t q ∙ passed (has_start t q) _ waits e)))

  pool_opening : (q i : ℕ) → q < pool_count t → inside_or blank (ltb i (made_count s q)) (own_of (local_of (instance_of s q i))) ≡ (if eqb i 0 then opening (beginning (process_at t q)) or_else blank)
  unfolding opening
  pool_opening q i l =
      by_test (has_start t q)
      (λ e.
      let b : beginning (process_at t q) ≡ begins (start_edge t q) = process_begins t q ∙ chosen (has_start t q) _ waits e in
      let m = made_begun q l e in
      by_test (eqb i 0)
      (λ y.
      let w : i ≡ 0 = eqb-true i 0 y in
      chosen (ltb i (made_count s q)) _ blank (lt-ltb i (made_count s q) (omega arith))
      ∙ ap (λ j. own_of (local_of (instance_of s q j))) w ∙ opened q l e ∙ ap opening (sym b) ∙ sym (chosen (eqb i 0) _ blank y))
      (λ y. let w = eqb-false i 0 y in passed (ltb i (made_count s q)) _ blank (le-ltb i (made_count s q) (omega arith)) ∙ sym (passed (eqb i 0) _ blank y)))
      (λ e.
      let b : beginning (process_at t q) ≡ waits = process_begins t q ∙ passed (has_start t q) _ waits e in
      let m = made_blank q l e in
      passed (ltb i (made_count s q)) _ blank (le-ltb i (made_count s q) (omega arith))
      ∙ by_test (eqb i 0) (λ y. sym (chosen (eqb i 0) _ blank y ∙ ap opening b)) (λ y. sym (passed (eqb i 0) _ blank y)))

  made_initial : (p : ℕ) → inside_or 0 (is_pool t p) (made_count s (pool_of t p)) ≡ instances_begun (beginning_of C p)
  unfolding instances_begun is_pool
  made_initial p =
      by_test (is_pool t p)
      (λ y. chosen (is_pool t p) _ 0 y ∙ pool_count_lem (pool_of t p) (ltb-true (pool_of t p) (pool_count t) y) ∙ ap instances_begun (sym (pool_begins t p ∙ chosen (is_pool t p) _ waits y)))
      (λ y. passed (is_pool t p) _ 0 y ∙ ap instances_begun (sym (pool_begins t p ∙ passed (is_pool t p) _ waits y)))

  instance_initial : (p i : ℕ) → inside_or blank (is_pool t p && ltb i (made_count s (pool_of t p))) (own_of (local_of (instance_of s (pool_of t p) i))) ≡ (if eqb i 0 then opening (beginning_of C p) or_else blank)
  unfolding opening is_pool
  instance_initial p i =
      by_test (is_pool t p)
      (λ y.
      ap (λ b. inside_or blank (b && ltb i (made_count s (pool_of t p))) (own_of (local_of (instance_of s (pool_of t p) i)))) y
      ∙ pool_opening (pool_of t p) i (ltb-true (pool_of t p) (pool_count t) y)
      ∙ ap (λ b. if eqb i 0 then opening b or_else blank) (sym (pool_begins t p ∙ chosen (is_pool t p) _ waits y)))
      (λ y.
      ap (λ b. inside_or blank (b && ltb i (made_count s (pool_of t p))) (own_of (local_of (instance_of s (pool_of t p) i)))) y
      ∙ passed false _ blank refl
      ∙ by_test (eqb i 0) (λ w. sym (chosen (eqb i 0) _ blank w ∙ ap opening (pool_begins t p ∙ passed (is_pool t p) _ waits y))) (λ w. sym (passed (eqb i 0) _ blank w)))

  queue_empty : (m : ℕ) → messages_of (queues_of z) m ≡ []
  unfolding messages_of tab
  queue_empty m = ap (λ n. tab (message_at (queues_of z) m) n) (queue_fresh t v ask (queue_place m))

  mail_initial : (m : ℕ) → inside_or nothing (ltb m names) (queue_of (queues_of z) m) ≡ nothing
  unfolding times
  mail_initial m =
      by_test (ltb m names)
      (λ y. chosen (ltb m names) _ nothing y ∙ ap (λ (ms : List Tuple). record { times = λ vs. times (record { length = length vs; values = vs }) ms; size = length ms }) (queue_empty m))
      (λ y. passed (ltb m names) _ nothing y)

  store_initial : (d : ℕ) → inside_or None (ltb d fields) (store_of s d) ≡ None
  unfolding store_of
  store_initial d =
      by_test (ltb d fields)
      (λ y.
      let l = ltb-true d fields y in
      let e : at s (shared_place + 2 * d) ≡ 0 = fresh_at (shared_place + 2 * d) (omega arith) ∙ pools_behind t ask (pool_count t) (shared_place + 2 * d) (omega arith) (omega arith) in
      chosen (ltb d fields) _ None y ∙ chosen (eqb (at s (shared_place + 2 * d)) 0) None _ (eq-eqb (at s (shared_place + 2 * d)) 0 e))
      (λ y. passed (ltb d fields) _ None y)

  fresh_within : state_of t (fresh t v) ≡ initial (collaboration_of t)
  unfolding initial
  fresh_within = λ i. record { σi = λ p j. instance_initial p j i; made = λ p. made_initial p i; σm = λ m. mail_initial m i; σds = λ d. store_initial d i }

  version_kept : version_of (instances_of (fresh t v)) ≡ v
  version_kept = get_or-take instances_words z version_at 0 (omega arith) ∙ fresh_version t v ask

-- THE FRESH STATE IS THE INITIAL CONFIGURATION, of every valid table
module _ (t : List ℕ) (v : ℕ) where
  module _ (good : valid t ≡ true) where
    pub fresh-initial : state_of t (fresh t v) ≡ initial (collaboration_of t)
    fresh-initial = fresh_within t v (valid_fits t good)

    pub fresh_under : version_of (instances_of (fresh t v)) ≡ v
    fresh_under = version_kept t v (valid_fits t good)

  -- and what the public call leaves in the block y that was lent, where it gives 0
  module _ (asked : asked_number t v ≡ 0) (y : List ℕ) where
    pub freshened_is : (freshened t v y).state ≡ fresh t v
    unfolding freshened
    freshened_is = ap (λ (o : Left). o.state) (chosen (eqb (asked_number t v) 0) _ _ (eq-eqb (asked_number t v) 0 asked))

    pub freshened-initial : state_of t (freshened t v y).state ≡ initial (collaboration_of t)
    freshened-initial = ap (state_of t) freshened_is ∙ fresh-initial (asked_valid t v asked)
