-- WHICH CHECKS A DRAWING CAN BREAK: where nothing is amiss or beyond the limits pool numbers differ (1), task numbers differ within a pool (5), and no template binds at all (8). Assumes nothing.
use Prim.Native.Nat.{ℕ, zero, suc, ◌+◌, ◌≤◌, ◌<◌}
use mathlib.Core.Path.{◌≡◌, ◌∙◌, refl, sym, ap, ap₂, subst}
use mathlib.Core.Bool.{Bool, true, false, not, ◌&&◌, false≢true}
use mathlib.Core.List.{List, [], ◌∷◌, ◌++◌}
use native.Mathlib.Decide.{ℕ_discrete}
use native.Mathlib.Omega.{arith}
use lib.Dec.{eqb, leb, ltb}
use lib.ListN.{length}
use borrow.Author.Tests.{eqb-true, eqb-false, eq-eqb, ne_eqb, le-leb, leb-true}
use Rattle.base_words.specs.All.{all}
use Rattle.base_words.specs.Counts.{branches, pool_numbers, tasks, fields_named}
use Rattle.base_words.specs.Each.{each, total, joined}
use Rattle.base_words.specs.Pick.{if◌then◌or_else◌}
use Rattle.base_words.specs.Sum.{sum, one_if, hit}
use Rattle.base_words.specs.Words.{at}
use Rattle.base_words.proofs.AllLaws.{all_of, and_left, and_right}
use Rattle.base_words.proofs.EachLaws.{total_append}
use Rattle.base_words.proofs.SumLaws.{sum_mono}
use Rattle.base_words.proofs.PickLaws.{and_true}
use Rattle.base_kinds.specs.Kinds.{kind_of, used, one, many}
use Rattle.base_table.specs.Places.{kind_place, task_place, exits_place, length_place}
use Rattle.base_table.specs.Table.{kind_in, task_in, exit_count, message_length, item_at}
use Rattle.check_limits.proofs.SameLaws.{used_most}
use Rattle.check_occurrences.specs.Occurrences.{received_count, as_task, binds_field, times_bound, template_once, bound_once}
use Rattle.check_model.specs.Checks.{Pool, check1, check5, check8}
use Rattle.draw_things.specs.Things.{room, is_node, sort, within, kind, one_more}
use Rattle.draw_faults.specs.Amiss.{is_drawing}
use Rattle.draw_numbers.specs.Who.{has_participants, is_pool}
use Rattle.draw_numbers.specs.Numbers.{count_before, is_element, is_task, a_task, is_of, task_of}
use Rattle.draw_limits.specs.Excess.{first_beyond}
use Rattle.draw_model.specs.Drawn.{element_drawn}
use Rattle.draw_model.specs.Content.{element_if, elements_of, process_of, number_of, pool_drawn, pool_if, content}
use Rattle.proof_roundtrip.proofs.EndModels.{Every}
use Rattle.proof_roundtrip.proofs.KindLaws.{of_kind_lem}
use Rattle.proof_drawings.proofs.TestLaws.{more_is}
use Rattle.proof_drawings.proofs.SettledLaws.{Settled}
use Rattle.proof_drawings.proofs.Fitting.{drawing_few, its, whole, task_test}
use Rattle.proof_drawings.proofs.ContentModel.{every_joined, every_one}

-- COUNTING over what is joined
total-joined : {A : Type 0} (f : A → ℕ) (g : ℕ → List A) (n : ℕ) → total f (joined g n) ≡ sum (λ k. total f (g k)) n
unfolding joined sum total
total-joined f g zero = refl
total-joined f g (suc n) = total_append f (joined g n) (g n) ∙ ap (λ (v : ℕ). v + total f (g n)) (total-joined f g n)

total_if : {A : Type 0} (f : A → ℕ) (b : Bool) (x : A) (m : ℕ) → (b ≡ true → f x ≤ m) → total f (if b then x ∷ [] or_else []) ≤ m
unfolding total if◌then◌or_else◌
total_if f true x m h = let l = h refl in omega (arith, l)
total_if f false x m h = omega arith

every_each : {A : Type 0} (f : A → Bool) (xs : List A) → Every (λ x. f x ≡ true) xs → each f xs ≡ true
unfolding each
every_each f [] e = refl
every_each f (x ∷ xs) e = and_true (f x) (each f xs) e.0 (every_each f xs e.1)

-- NUMBERED BY HOW MANY STAND BEFORE, each number is given once
module _ (f : ℕ → Bool) (v : ℕ) where
  abbrev given : ℕ → ℕ
  given k = one_if (f k && eqb (count_before f k + 1) v)

  record Once (n : ℕ) : Type 0 where
    pub most : sum given n ≤ 1
    pub none : count_before f n < v → sum given n ≡ 0

  once : (n : ℕ) → Once n
  unfolding sum count_before
  once zero = record { most = omega arith; none = λ l. refl }
  once (suc n) = go (f n) refl (ℕ_discrete (count_before f n + 1) v) (once n)
    where
      go : (b : Bool) → f n ≡ b → Dec (count_before f n + 1 ≡ v) → Once n → Once (suc n)
      go false e d o =
          let z : given n ≡ 0 = ap (λ (c : Bool). one_if (c && eqb (count_before f n + 1) v)) e in
          let c : one_if (f n) ≡ 0 = ap one_if e in
          let m = o.most in
          record { most = omega (arith, z, m); none = λ l. let y = o.none (omega (arith, l, c)) in omega (arith, y, z) }
      go true e (yes d) o =
          let z : given n ≡ 1 = ap₂ (λ (c x : Bool). one_if (c && x)) e (eq-eqb (count_before f n + 1) v d) in
          let c : one_if (f n) ≡ 1 = ap one_if e in
          let y = o.none (omega (arith, d)) in
          record { most = omega (arith, y, z); none = λ l. absurd (omega (arith, l, c, d)) }
      go true e (no d) o =
          let z : given n ≡ 0 = ap₂ (λ (c x : Bool). one_if (c && x)) e (ne_eqb (count_before f n + 1) v d) in
          let c : one_if (f n) ≡ 1 = ap one_if e in
          let m = o.most in
          record { most = omega (arith, z, m); none = λ l. let y = o.none (omega (arith, l, c)) in omega (arith, y, z) }

count_low : (f : ℕ → Bool) (k : ℕ) → count_before f k ≤ k
unfolding count_before sum
count_low f zero = omega arith
count_low f (suc k) = go (f k) (count_low f k)
  where
    go : (b : Bool) → count_before f k ≤ k → count_before f k + one_if b ≤ suc k
    go true l = omega (arith, l)
    go false l = omega (arith, l)

one_of : (b : Bool) (x v : ℕ) → b ≡ true → hit x v ≤ one_if (b && eqb x v)
one_of true x v e = omega arith
one_of false x v e = absurd (false≢true e)

-- TEMPLATES without values
times_none : (y : List ℕ) (j d : ℕ) → message_length y j ≡ 0 → times_bound y j d ≡ 0
unfolding times_bound sum
times_none y j d z = ap (sum (λ i. binds_field d (item_at y j i))) z

bound_none : (y : List ℕ) → ((j : ℕ) → j < received_count y → message_length y j ≡ 0) → bound_once y ≡ true
unfolding bound_once template_once
bound_none y z = all_of (template_once y) (received_count y) (λ j h. all_of (λ d. leb (times_bound y j d) 1) fields_named (λ d u. le-leb (times_bound y j d) 1 (let s = times_none y j d (z j h) in omega (arith, s))))

low_receives : (c : ℕ) → 0 < c → c < 16 → (kind_of c).receives ≤ many
unfolding all kind_of
low_receives c l u = leb-true (kind_of c).receives many (of_kind_lem (λ j. leb (kind_of j).receives many) refl c l u)

low_exits : (c : ℕ) → 0 < c → c < 16 → (kind_of c).exits ≤ many
unfolding all kind_of
low_exits c l u = leb-true (kind_of c).exits many (of_kind_lem (λ j. leb (kind_of j).exits many) refl c l u)

received_few : (y : List ℕ) (c o : ℕ) → at y kind_place ≡ c → 0 < c → c < 16 → at y exits_place ≡ o → o ≤ branches → received_count y ≤ branches
unfolding received_count exit_count
received_few y c o k l u e h =
    used_most (kind_of (kind_in y)).receives (used (kind_of (kind_in y)).exits (at y exits_place)) (subst (λ (v : ℕ). (kind_of v).receives ≤ many) (sym k) (low_receives c l u))
    (used_most (kind_of (kind_in y)).exits (at y exits_place) (subst (λ (v : ℕ). (kind_of v).exits ≤ many) (sym k) (low_exits c l u)) (omega (arith, e, h)))

module _ (t w : List ℕ) (n : ℕ) (drawn : is_drawing t w n ≡ true) (beyond : ltb (first_beyond t w n) n ≡ false) (settled : Settled w n) where
  abbrev owned : Bool
  owned = has_participants w n

  few : n ≤ room
  few = drawing_few t w n drawn

  -- 1. "Pool numbers differ."
  number_is : (k : ℕ) → k < n → number_of owned w k ≡ count_before (is_pool owned w) k + 1
  unfolding number_of
  number_is k l = more_is (count_before (is_pool owned w) k) (let c = count_low (is_pool owned w) k in omega (arith, c, l, few))

  drawn_number : (k : ℕ) → k < n → (pool_drawn owned t w n k).number ≡ count_before (is_pool owned w) k + 1
  unfolding pool_drawn
  drawn_number k l = number_is k l

  abbrev pool_or : ℕ → List Pool
  pool_or k = if is_pool owned w k then pool_drawn owned t w n k ∷ [] or_else []

  pools_counted : (v : ℕ) → total (λ (p : Pool). hit p.number v) (joined pool_or n) ≤ sum (given (is_pool owned w) v) n
  pools_counted v =
      subst (λ (m : ℕ). m ≤ sum (given (is_pool owned w) v) n) (sym (total-joined (λ (p : Pool). hit p.number v) pool_or n))
      (sum_mono (λ k. total (λ (p : Pool). hit p.number v) (pool_or k)) (given (is_pool owned w) v) n
      (λ k l.
      total_if (λ (p : Pool). hit p.number v) (is_pool owned w k) (pool_drawn owned t w n k) (given (is_pool owned w) v k)
      (λ e. subst (λ (m : ℕ). hit m v ≤ given (is_pool owned w) v k) (sym (drawn_number k l)) (one_of (is_pool owned w k) (count_before (is_pool owned w) k + 1) v e))))

  pools_once : (v : ℕ) → total (λ (p : Pool). hit p.number v) (joined pool_or n) ≤ 1
  pools_once v = let s = pools_counted v in let o = (once (is_pool owned w) v n).most in omega (arith, s, o)

  pub pools_differ : check1 (content t w n) ≡ true
  unfolding check1 content pool_if
  pools_differ =
      all_of (λ v. leb (total (λ (p : Pool). hit p.number (v + 1)) (joined pool_or n)) 1) pool_numbers
      (λ v l. le-leb (total (λ (p : Pool). hit p.number (v + 1)) (joined pool_or n)) 1 (pools_once (v + 1)))

  -- AN ELEMENT of the process p
  its_own : (p k : ℕ) → is_element p w k ≡ true → (within w k ≡ p) × (is_element (within w k) w k ≡ true)
  unfolding is_element
  its_own p k e =
      let q = eqb-true (within w k) p (and_left (eqb (within w k) p) _ (and_right (is_node (sort w k)) _ e)) in
      (q, subst (λ (o : ℕ). is_element o w k ≡ true) (sym q) e)

  -- 5. "Task numbers differ within a pool."
  task_is : (k : ℕ) → k < n → task_of w k ≡ count_before (is_task (within w k) w) k + 1
  unfolding task_of is_of if◌then◌or_else◌
  task_is k l = more_is (count_before (is_task (within w k) w) k) (let c = count_low (is_task (within w k) w) k in omega (arith, c, l, few))

  task_once : (v k : ℕ) → k < n → is_element (within w k) w k ≡ true → as_task (v + 1) (element_drawn t w n k) ≤ given (is_task (within w k) w) (v + 1) k
  unfolding as_task
  task_once v k l e = go (eqb (kind_of (kind w k)).task one) refl (whole t w n drawn beyond settled k l e).shape.task
    where
      go : (b : Bool) → eqb (kind_of (kind w k)).task one ≡ b → at (element_drawn t w n k) task_place ≡ (if b then task_of w k or_else 0) → hit (at (element_drawn t w n k) task_place) (v + 1) ≤ given (is_task (within w k) w) (v + 1) k
      go true q s =
          let y : at (element_drawn t w n k) task_place ≡ task_of w k = (unfold if◌then◌or_else◌ in s) in
          subst (λ (m : ℕ). hit m (v + 1) ≤ given (is_task (within w k) w) (v + 1) k) (sym (y ∙ task_is k l))
          (one_of (is_task (within w k) w k) (count_before (is_task (within w k) w) k + 1) (v + 1) (task_test t w n drawn beyond settled k l e ∙ q))
      go false q s =
          let y : at (element_drawn t w n k) task_place ≡ 0 = (unfold if◌then◌or_else◌ in s) in
          let z : hit (at (element_drawn t w n k) task_place) (v + 1) ≡ 0 = ap (λ (m : ℕ). hit m (v + 1)) y ∙ ap one_if (ne_eqb 0 (v + 1) (λ y. omega (arith, y))) in
          omega (arith, z)

  tasks_once : (p v : ℕ) → total (as_task (v + 1)) (elements_of t w n p) ≤ 1
  unfolding elements_of element_if
  tasks_once p v =
      let o = (once (is_task p w) (v + 1) n).most in
      let s : total (as_task (v + 1)) (joined (λ k. if is_element p w k then element_drawn t w n k ∷ [] or_else []) n) ≤ sum (given (is_task p w) (v + 1)) n =
      subst (λ (m : ℕ). m ≤ sum (given (is_task p w) (v + 1)) n) (sym (total-joined (as_task (v + 1)) (λ k. if is_element p w k then element_drawn t w n k ∷ [] or_else []) n))
      (sum_mono _ (given (is_task p w) (v + 1)) n
      (λ k l. total_if (as_task (v + 1)) (is_element p w k) (element_drawn t w n k) (given (is_task p w) (v + 1) k)
      (λ e. let q = its_own p k e in subst (λ (m : ℕ). as_task (v + 1) (element_drawn t w n k) ≤ given (is_task m w) (v + 1) k) q.0 (task_once v k l q.1)))) in
      omega (arith, s, o)

  pub tasks_differ : each check5 (content t w n) ≡ true
  unfolding content pool_if
  tasks_differ =
      every_each check5 _
      (every_joined (λ p. check5 p ≡ true) (λ k. if is_pool owned w k then pool_drawn owned t w n k ∷ [] or_else []) n
      (λ k l. every_one (λ p. check5 p ≡ true) (is_pool owned w k) (pool_drawn owned t w n k) (λ e. right k)))
    where
      right : (k : ℕ) → check5 (pool_drawn owned t w n k) ≡ true
      right k = unfold check5 pool_drawn in all_of _ tasks (λ v l. le-leb _ 1 (tasks_once (process_of owned w k) v))

  -- 8. "No field, of an instance or a store, is bound twice in one template."
  element_binds : (k : ℕ) → k < n → is_element (within w k) w k ≡ true → bound_once (element_drawn t w n k) ≡ true
  element_binds k l e =
      let s = (whole t w n drawn beyond settled k l e).shape in
      let d = its t w n drawn beyond settled k l e in
      let m = received_few (element_drawn t w n k) (kind w k) _ s.kind d.low d.high s.exits.count s.exits.few in
      bound_none (element_drawn t w n k) (λ j h. s.named.none (length_place j) (omega arith) (omega (arith, h, m)) (λ c u q. omega (arith, q)))

  elements_bind : (p : ℕ) → each bound_once (elements_of t w n p) ≡ true
  unfolding elements_of element_if
  elements_bind p =
      every_each bound_once _
      (every_joined (λ x. bound_once x ≡ true) (λ k. if is_element p w k then element_drawn t w n k ∷ [] or_else []) n
      (λ k l. every_one (λ x. bound_once x ≡ true) (is_element p w k) (element_drawn t w n k) (λ e. element_binds k l (its_own p k e).1)))

  pub binds_differ : each check8 (content t w n) ≡ true
  unfolding content pool_if
  binds_differ =
      every_each check8 _
      (every_joined (λ p. check8 p ≡ true) (λ k. if is_pool owned w k then pool_drawn owned t w n k ∷ [] or_else []) n
      (λ k l. every_one (λ p. check8 p ≡ true) (is_pool owned w k) (pool_drawn owned t w n k) (λ e. right k)))
    where
      right : (k : ℕ) → check8 (pool_drawn owned t w n k) ≡ true
      right k = unfold check8 pool_drawn in elements_bind (process_of owned w k)
