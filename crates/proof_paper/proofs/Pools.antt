-- THE POOLS AND THEIR INSTANCES: after an accepted step the instance named is the one that the step gives, the stores are those that it leaves, its pool has made as many as the step
-- says, and every other instance and pool is as it was. Assumes nothing.
use Prim.Native.Nat.{ℕ, zero, suc, ◌+◌, ◌-◌, ◌*◌, ◌<◌, ◌≤◌}
use mathlib.Core.Path.{◌≡◌, refl, sym, ◌∙◌, ap, subst}
use mathlib.Core.Bool.{Bool, true, ◌&&◌, false≢true}
use mathlib.Core.List.{List, ◌++◌}
use mathlib.Core.Logic.{inl, inr}
use native.Mathlib.Omega.{arith}
use lib.Dec.{eqb, ltb}
use lib.ListN.{length, replicate}
use borrow.Author.Tests.{eqb-true, ltb-true, ltb-false, lt-ltb, le-ltb}
use Rattle.std.specs.Prelude.{None}
use Rattle.base_words.specs.Words.{at}
use Rattle.base_words.specs.Counts.{pools, edges, tasks, fields, instances, fields_named}
use Rattle.base_words.proofs.AllLaws.{and_right}
use Rattle.base_words.proofs.PickLaws.{and_true, and_false_left}
use Rattle.base_words.proofs.ListLaws.{length-tab, get_d_tab}
use Rattle.base_words.proofs.SeekLaws.{sought}
use Rattle.base_table.specs.Places.{pool_place}
use Rattle.base_table.specs.Table.{pool_count, has_number, pool_of}
use Rattle.base_state.specs.Places.{token_place, active_place, ready_place, defined_place, value_place, instance_words, made_place, instance_place, store_words, shared_place, instances_words}
use Rattle.base_state.specs.Instances.{made_count}
use Rattle.check_limits.specs.Limits.{within, table_fits}
use Rattle.meaning.specs.Values.{Value}
use Rattle.meaning.specs.declared.Name.{Name}
use Rattle.meaning.specs.Expressions.{field_of}
use Rattle.meaning.specs.Step.{site_of, pool_named, instance_of, shared_of, instance_after, made_after, instances_after}
use Rattle.step_queues.proofs.SlotLaws.{by_order}
use Rattle.proof_steps.proofs.Choices.{by_test, chosen, passed}
use Rattle.proof_steps.proofs.Elements.{pools_few}
use Rattle.proof_steps.proofs.Seen.{seen_own, seen_shared}
use Rattle.proof_steps.proofs.OnlyOwn.{only_own, own_words, own_stores, own_made}
use Rattle.proof_steps.proofs.MadeAfter.{Makes}
use Rattle.paper.specs.States.{Local, blank, put, ◌beside◌, own_of, stores_of}
use Rattle.proof_paper.specs.Decoders.{inside_or, local_of, is_pool, store_of}
use Rattle.proof_paper.proofs.Stores.{same_if, put_is, inside}

-- the same words, the same instance
pub own_alike : (g h : List ℕ) → ((k : ℕ) → k < instance_words → at g k ≡ at h k) → own_of (local_of g) ≡ own_of (local_of h)
unfolding field_of
own_alike g h e = λ i. record {
  σe = λ j. same_if (within 1 edges j) 0 (at g (token_place j)) (at h (token_place j)) (λ w. let b = inside 1 edges j w in e (token_place j) (omega (arith, b.0, b.1))) i;
  σd = λ d. same_if (ltb d fields) None ((local_of g).σd d) ((local_of h).σd d) (λ w.
      let l = ltb-true d fields w in
      let a : at g (defined_place d) ≡ at h (defined_place d) = e (defined_place d) (omega (arith, l)) in
      let b : at g (value_place d) ≡ at h (value_place d) = e (value_place d) (omega (arith, l)) in
      rw (a, b)) i;
  active = λ j. same_if (within 1 tasks j) 0 (at g (active_place j)) (at h (active_place j)) (λ w. let b = inside 1 tasks j w in e (active_place j) (omega (arith, b.0, b.1))) i;
  ready = λ j. same_if (within 1 tasks j) 0 (at g (ready_place j)) (at h (ready_place j)) (λ w. let b = inside 1 tasks j w in e (ready_place j) (omega (arith, b.0, b.1))) i;
}

pub instance_long : (s : List ℕ) (p i : ℕ) → length (instance_of s p i) ≡ instance_words
unfolding instance_of
instance_long s p i = length-tab (λ k. at s (instance_place p i + k)) instance_words

instance_at : (s : List ℕ) (p i k : ℕ) → k < instance_words → at (instance_of s p i) k ≡ at s (instance_place p i + k)
unfolding instance_of
instance_at s p i k l = get_d_tab (λ k. at s (instance_place p i + k)) instance_words k 0 l

pub instance_alike : (s r : List ℕ) (p i : ℕ) → ((k : ℕ) → k < instance_words → at r (instance_place p i + k) ≡ at s (instance_place p i + k)) → own_of (local_of (instance_of r p i)) ≡ own_of (local_of (instance_of s p i))
instance_alike s r p i e = own_alike (instance_of r p i) (instance_of s p i) (λ k l. instance_at r p i k l ∙ e k l ∙ sym (instance_at s p i k l))

-- WHAT A STEP SEES: its instance, and the stores beside it
abbrev pub board : List ℕ → ℕ → Value
board s d = inside_or None (ltb d fields) (store_of s d)

module _ (s own : List ℕ) (long : length own ≡ instance_words) where
  abbrev seen_words : List ℕ
  seen_words = own ++ shared_of s

  store_seen : (d : ℕ) → d < fields → field_of seen_words (fields + d) ≡ store_of s d
  unfolding field_of store_of
  store_seen d l =
      let i : defined_place (fields + d) ≡ instance_words + 2 * d = omega arith in
      let j : value_place (fields + d) ≡ instance_words + (2 * d + 1) = omega arith in
      let a : at seen_words (defined_place (fields + d)) ≡ at s (shared_place + 2 * d) = ap (at seen_words) i ∙ seen_shared s own long (2 * d) (omega arith) in
      let b : at seen_words (value_place (fields + d)) ≡ at s (shared_place + (2 * d + 1)) = ap (at seen_words) j ∙ seen_shared s own long (2 * d + 1) (omega arith) in
      rw (a, b)

  behind : (d : ℕ) → fields ≤ d → board s (d - fields) ≡ (local_of seen_words).σd d
  behind d l =
      let e : fields + (d - fields) ≡ d = omega arith in
      by_test (ltb (d - fields) fields)
      (λ w.
      let r = ltb-true (d - fields) fields w in
      chosen (ltb (d - fields) fields) _ None w
      ∙ sym (store_seen (d - fields) r)
      ∙ ap (field_of seen_words) e
      ∙ sym (chosen (ltb d fields_named) _ None (lt-ltb d fields_named (omega arith))))
      (λ w.
      let r = ltb-false (d - fields) fields w in
      passed (ltb (d - fields) fields) _ None w ∙ sym (passed (ltb d fields_named) _ None (le-ltb d fields_named (omega arith))))

  own_same : own_of (local_of own) ≡ own_of (local_of seen_words)
  own_same = own_alike own seen_words (λ k l. sym (seen_own s own long k l))

  field_seen : (d : ℕ) → (own_of (local_of own) beside board s).σd d ≡ (local_of seen_words).σd d
  field_seen d =
      by_test (ltb d fields)
      (λ w. chosen (ltb d fields) ((own_of (local_of own)).σd d) _ w ∙ ap (λ (K : Local). K.σd d) own_same ∙ chosen (ltb d fields) ((local_of seen_words).σd d) None w)
      (λ w. passed (ltb d fields) _ (board s (d - fields)) w ∙ behind d (ltb-false d fields w))

  pub seen_local : (own_of (local_of own) beside board s) ≡ local_of (own ++ shared_of s)
  seen_local = λ i. record { σe = (own_same i).σe; σd = λ d. field_seen d i; active = (own_same i).active; ready = (own_same i).ready }

-- nothing but zeros
zero_at : (n k : ℕ) → at (replicate n 0) k ≡ 0
zero_at zero k = refl
zero_at (suc n) zero = refl
zero_at (suc n) (suc k) = zero_at n k

either : {A : Type 0} (none : A) (b : Bool) (x : A) → x ≡ none → inside_or none b x ≡ none
either none b x e = by_test b (λ y. chosen b x none y ∙ e) (λ y. passed b x none y)

pub blank_is : (n : ℕ) → own_of (local_of (replicate n 0)) ≡ blank
unfolding field_of
blank_is n = λ i. record {
  σe = λ j. either 0 (within 1 edges j) (at (replicate n 0) (token_place j)) (zero_at n (token_place j)) i;
  σd = λ d.
      either None (ltb d fields) ((local_of (replicate n 0)).σd d)
      (either None (ltb d fields_named) (field_of (replicate n 0) d) (chosen (eqb (at (replicate n 0) (defined_place d)) 0) None _ (ap (λ y. eqb y 0) (zero_at n (defined_place d))))) i;
  active = λ j. either 0 (within 1 tasks j) (at (replicate n 0) (active_place j)) (zero_at n (active_place j)) i;
  ready = λ j. either 0 (within 1 tasks j) (at (replicate n 0) (ready_place j)) (zero_at n (ready_place j)) i;
}

-- a pool that is there has the number asked for
pub pool_number : (t : List ℕ) (p : ℕ) → is_pool t p ≡ true → at t (pool_place (pool_of t p)) ≡ p
unfolding is_pool pool_of has_number
pool_number t p e = eqb-true _ p ((sought (has_number t p) (pool_count t)).1 (ltb-true (pool_of t p) (pool_count t) e))

-- AFTER A STEP that found its pool
module _ (t s : List ℕ) (n : Name) (fits : table_fits t ≡ true) (long : length s ≡ instances_words) (there : pool_named t n < pool_count t)
    (makes : Makes t (pool_named t n) n.instance (made_count s (pool_named t n)) (made_after (site_of t s n))) (room : made_after (site_of t s n) ≤ instances)
    (others : (o : ℕ) → o < pool_count t → made_count s o ≤ instances) where
  abbrev P : ℕ
  P = pool_named t n

  abbrev i₀ : ℕ
  i₀ = n.instance

  abbrev r : List ℕ
  r = instances_after t s n

  few : P < pools
  few = let w = pools_few t fits in omega arith

  inst_few : i₀ < instances
  inst_few = let w = makes.named in omega arith

  own_after : own_of (local_of (instance_of r P i₀)) ≡ own_of (local_of (instance_after (site_of t s n)))
  own_after =
      own_alike (instance_of r P i₀) (instance_after (site_of t s n))
      (λ k l. instance_at r P i₀ k l ∙ own_words t s n (let a = few in omega arith) (let a = few in let b = inst_few in omega arith) (omega (arith, long)) k l)

  made_there : made_count r P ≡ made_after (site_of t s n)
  made_there = own_made t s n (let a = few in omega (arith, long))

  made_other : (o : ℕ) → o < pools → (o ≡ P → ⊥) → made_count r o ≡ made_count s o
  made_other o l ne = only_own t s n (made_place o) (omega arith) (inl (omega arith)) ne

  words_other : (o i : ℕ) → o < pools → i < instances → (o ≡ P → i ≡ i₀ → ⊥) → (k : ℕ) → k < instance_words → at r (instance_place o i + k) ≡ at s (instance_place o i + k)
  words_other o i lo li ne k l =
      only_own t s n (instance_place o i + k)
      (omega arith)
      (let b = inst_few in
      by_order o P
      (λ y. inl (omega arith))
      (λ y. by_order i i₀ (λ z. inl (omega arith)) (λ z. absurd (ne (sym y) (sym z))) (λ z. inr (omega arith)))
      (λ y. inr (omega arith)))
      (let a = few in λ e. omega arith)

  abbrev held : List ℕ → ℕ → ℕ → Local
  held z p i = inside_or blank (is_pool t p && ltb i (made_count z (pool_of t p))) (own_of (local_of (instance_of z (pool_of t p) i)))

  place_other : (p : ℕ) → (p ≡ n.pool → ⊥) → is_pool t p ≡ true → pool_of t p ≡ P → ⊥
  unfolding is_pool
  place_other p ne e z = ne (sym (pool_number t p e) ∙ ap (λ y. at t (pool_place y)) z ∙ pool_number t n.pool (lt-ltb P (pool_count t) there))

  pool_other : (p i : ℕ) → (p ≡ n.pool → ⊥) → held r p i ≡ held s p i
  unfolding is_pool
  pool_other p i ne =
      by_test (is_pool t p)
      (λ e.
      let l : pool_of t p < pool_count t = ltb-true (pool_of t p) (pool_count t) e in
      let w = pools_few t fits in
      let m : made_count r (pool_of t p) ≡ made_count s (pool_of t p) = made_other (pool_of t p) (omega arith) (place_other p ne e) in
      ap (λ y. inside_or blank (is_pool t p && ltb i y) (own_of (local_of (instance_of r (pool_of t p) i)))) m
      ∙ same_if (is_pool t p && ltb i (made_count s (pool_of t p))) blank _ _ (λ g.
      let q = others (pool_of t p) l in
      let h : i < made_count s (pool_of t p) = ltb-true i (made_count s (pool_of t p)) (and_right (is_pool t p) (ltb i (made_count s (pool_of t p))) g) in
      instance_alike s r (pool_of t p) i (words_other (pool_of t p) i (omega arith) (omega arith) (λ a b. place_other p ne e a))))
      (λ e.
      passed (is_pool t p && ltb i (made_count r (pool_of t p))) _ blank (and_false_left (is_pool t p) (ltb i (made_count r (pool_of t p))) e)
      ∙ sym (passed (is_pool t p && ltb i (made_count s (pool_of t p))) _ blank (and_false_left (is_pool t p) (ltb i (made_count s (pool_of t p))) e)))

  is_there : is_pool t n.pool ≡ true
  unfolding is_pool
  is_there = lt-ltb P (pool_count t) there

  below_same : (i : ℕ) → (i ≡ i₀ → ⊥) → ltb i (made_count r P) ≡ ltb i (made_count s P)
  below_same i ne =
      let e : made_count r P ≡ made_after (site_of t s n) = made_there in
      let w = makes.least in
      by_test (ltb i (made_count s P))
      (λ y. let l = ltb-true i (made_count s P) y in lt-ltb i (made_count r P) (omega arith) ∙ sym y)
      (λ y. by_test (ltb i (made_count r P)) (λ z. absurd (false≢true (sym y ∙ lt-ltb i (made_count s P) (makes.others i (subst (λ k. i < k) e (ltb-true i (made_count r P) z)) ne)))) (λ z. z ∙ sym y))

  instance_other : (i : ℕ) → (i ≡ i₀ → ⊥) → held r n.pool i ≡ held s n.pool i
  instance_other i ne =
      ap (λ y. inside_or blank (is_pool t n.pool && y) (own_of (local_of (instance_of r P i)))) (below_same i ne)
      ∙ same_if (is_pool t n.pool && ltb i (made_count s P)) blank _ _ (λ g.
      let q = others P there in
      let h : i < made_count s P = ltb-true i (made_count s P) (and_right (is_pool t n.pool) (ltb i (made_count s P)) g) in
      instance_alike s r P i (words_other P i few (omega arith) (λ a b. ne b)))

  instance_own : held r n.pool i₀ ≡ own_of (local_of (instance_after (site_of t s n)))
  instance_own =
      chosen (is_pool t n.pool && ltb i₀ (made_count r P)) _ blank (and_true (is_pool t n.pool) (ltb i₀ (made_count r P)) is_there (lt-ltb i₀ (made_count r P) (subst (λ k. i₀ < k) (sym made_there) makes.named)))
      ∙ own_after

  -- σi
  pub instances_after_lem : held r ≡ put (held s) n.pool (put (held s n.pool) i₀ (own_of (local_of (instance_after (site_of t s n)))))
  instances_after_lem =
      put_is (held s) (held r) n.pool (put (held s n.pool) i₀ (own_of (local_of (instance_after (site_of t s n)))))
      (put_is (held s n.pool) (held r n.pool) i₀ (own_of (local_of (instance_after (site_of t s n)))) instance_own instance_other)
      (λ p ne. λ i j. pool_other p j ne i)

  -- σds
  store_after : (d : ℕ) → d < fields → store_of r d ≡ field_of (instance_after (site_of t s n)) (fields + d)
  unfolding field_of store_of
  store_after d l =
      let h : List ℕ = instance_after (site_of t s n) in
      let e : (k : ℕ) → k < store_words → at r (shared_place + k) ≡ at h (instance_words + k) = own_stores t s n (let a = few in omega arith) (omega (arith, long)) in
      let i : instance_words + 2 * d ≡ defined_place (fields + d) = omega arith in
      let j : instance_words + (2 * d + 1) ≡ value_place (fields + d) = omega arith in
      let a : at r (shared_place + 2 * d) ≡ at h (defined_place (fields + d)) = e (2 * d) (omega arith) ∙ ap (at h) i in
      let b : at r (shared_place + (2 * d + 1)) ≡ at h (value_place (fields + d)) = e (2 * d + 1) (omega arith) ∙ ap (at h) j in
      rw (a, b)

  board_after : (d : ℕ) → board r d ≡ stores_of (local_of (instance_after (site_of t s n))) d
  board_after d =
      by_test (ltb d fields)
      (λ w.
      let l = ltb-true d fields w in
      chosen (ltb d fields) _ None w ∙ store_after d l ∙ sym (chosen (ltb (fields + d) fields_named) _ None (lt-ltb (fields + d) fields_named (omega arith))))
      (λ w. let l = ltb-false d fields w in passed (ltb d fields) _ None w ∙ sym (passed (ltb (fields + d) fields_named) _ None (le-ltb (fields + d) fields_named (omega arith))))

  pub stores_after : board r ≡ stores_of (local_of (instance_after (site_of t s n)))
  stores_after = λ i d. board_after d i

  -- how many are made
  abbrev counted : List ℕ → ℕ → ℕ
  counted z p = inside_or 0 (is_pool t p) (made_count z (pool_of t p))

  pub made_after_lem : counted r ≡ put (counted s) n.pool (made_after (site_of t s n))
  unfolding is_pool
  made_after_lem =
      put_is (counted s) (counted r) n.pool (made_after (site_of t s n))
      (chosen (is_pool t n.pool) (made_count r P) 0 is_there ∙ made_there)
      (λ p ne. same_if (is_pool t p) 0 (made_count r (pool_of t p)) (made_count s (pool_of t p)) (λ e.
      let l : pool_of t p < pool_count t = ltb-true (pool_of t p) (pool_count t) e in
      let w = pools_few t fits in
      made_other (pool_of t p) (omega arith) (place_other p ne e)))
