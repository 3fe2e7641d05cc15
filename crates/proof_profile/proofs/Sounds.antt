-- WHAT A VALID TABLE GIVES: the conditions that the theorems of nesting ask of a pool, and where its edges lead. Assumes nothing.
use Prim.Native.Nat.{ℕ, zero, suc, ◌+◌, ◌-◌, ◌≤◌, ◌<◌}
use mathlib.Core.Path.{◌≡◌, refl, sym, ◌∙◌, ap}
use mathlib.Core.Bool.{Bool, true, false, ◌&&◌, ◌||◌, false≢true}
use mathlib.Core.List.{List}
use mathlib.Core.Logic.{◌⊎◌, inl, inr, ⊎_elim}
use native.Mathlib.Omega.{arith}
use lib.Dec.{eqb, leb, ltb}
use lib.ListN.{get_or-eq_default}
use borrow.Author.Tests.{eqb-true, eqb-false, eq-eqb, ne_eqb, ltb-true, ltb-false, leb-true}
use Rattle.std.proofs.lemmas.Bool.{or_cases}
use Rattle.base_words.specs.All.{all}
use Rattle.base_words.specs.Each.{total}
use Rattle.base_words.specs.Pick.{if◌then◌or_else◌}
use Rattle.base_words.specs.Sum.{sum, hit, one_if}
use Rattle.base_words.specs.Words.{at}
use Rattle.base_words.specs.Counts.{edges, tasks, elements, fewest, branches, assignments}
use Rattle.base_words.proofs.AllLaws.{all_at, and_left, and_right}
use Rattle.base_words.proofs.EachLaws.{total-tab}
use Rattle.base_words.proofs.PickLaws.{and_true}
use Rattle.base_words.proofs.SumLaws.{sum_add, sum-zero}
use Rattle.base_kinds.specs.declared.Kind.{Kind}
use Rattle.base_kinds.specs.Kinds.{one, many, kinds, no_kind, kind_of, start, start_rcv, and_split, and_join, xor_join, xor_split, event_based, task, task_rcv, task_snd}
use Rattle.base_kinds.specs.Moves.{a, na_nc}
use Rattle.base_table.specs.Places.{entries_place, exits_place}
use Rattle.base_table.specs.Table.{pool_count, element_count, element_at, kind_in, task_in, mode_in, entry_count, exit_count, entry_at, exit_at, assignment_count}
use Rattle.check_occurrences.specs.Occurrences.{of_kind, as_exit, as_entry, as_first, as_task}
use Rattle.check_limits.specs.Limits.{within, count_fits, task_fits, table_fits}
use Rattle.check_model.specs.Checks.{edge_right, check4}
use Rattle.check_lowest.specs.Model.{pool_at}
use Rattle.proof_steps.proofs.Choices.{by_test, chosen, passed, chosen_true, passed_true}
use Rattle.proof_steps.proofs.Elements.{FittingParts, fitting_parts, element_fits_lem, elements_few, task_few}
use Rattle.proof_listing.proofs.Counting.{sum_at, sum_two, sum_some, same_hit}
use Rattle.engine.specs.Engine.{valid}
use Rattle.proof_lengths.proofs.ExitsOnce.{exits_apart, entries_apart, one_leaves, one_enters, tasks_once, start_once, exits_enter, exit_edge, entry_edge}
use Rattle.proof_lengths.proofs.FewParts.{entries_fit, entries_all, exits_fit, exits_all, task_some}
use Rattle.proof_valid.proofs.ChecksHold.{valid_fits, valid_sound, pool_checked}
use Rattle.check_nesting.specs.Nesting.{passes, starts}
use Rattle.proof_nesting.proofs.Weights.{is_task}
use Rattle.proof_nesting.proofs.Flows.{Sound}
use Rattle.proof_nesting.proofs.Events.{hit_same, one_exit, one_entry}
use Rattle.proof_nesting.proofs.Lines.{plain, Closed, closed, whole, choice}
use Rattle.proof_nesting.proofs.Decided.{Entered}

by_either : {C : Type 0} (x y : Bool) → x || y ≡ true → (x ≡ true → C) → (y ≡ true → C) → C
by_either x y h f g = ⊎_elim f g (or_cases x y h)

-- the kinds that have a task number
pub kind_task : (q : ℕ) → is_task q ≡ true → (kind_of q).task ≡ one
unfolding kind_of
kind_task q h =
    by_either (eqb q task) _ h (λ e. ap (λ y. (kind_of y).task) (eqb-true q task e)) λ h₂.
    by_either (eqb q task_rcv) _ h₂ (λ e. ap (λ y. (kind_of y).task) (eqb-true q task_rcv e)) (λ e. ap (λ y. (kind_of y).task) (eqb-true q task_snd e))

task-kinds : all (λ q. if eqb (kind_of q).task one then is_task q or_else true) 16 ≡ true
unfolding all kind_of if◌then◌or_else◌
task-kinds = refl

pub task_kind : (q : ℕ) → (kind_of q).task ≡ one → is_task q ≡ true
unfolding kind_of
task_kind q h =
    by_test (ltb q 16)
    (λ e. chosen_true (eqb (kind_of q).task one) (is_task q) true (all_at (λ q. if eqb (kind_of q).task one then is_task q or_else true) 16 task-kinds q (ltb-true q 16 e)) (eq-eqb _ _ h))
    (λ e. absurd (let z : (kind_of q).task ≡ 0 = ap (λ (y : Kind). y.task) (get_or-eq_default kinds no_kind (ltb-false q 16 e)) in omega (arith, z, h)))

module _ (t : List ℕ) (v : valid t ≡ true) (p : ℕ) (there : p < pool_count t) where
  abbrev P : ℕ → List ℕ
  P = element_at t p

  abbrev c : ℕ
  c = element_count t p

  fits : table_fits t ≡ true
  fits = valid_fits t v

  parts : (k : ℕ) → k < c → FittingParts (P k)
  parts k l = fitting_parts (P k) (element_fits_lem t fits p there k l)

  -- TASKS
  only_tasks : (k : ℕ) → k < c → (task_in (P k) ≡ 0 → ⊥) → is_task (kind_in (P k)) ≡ true
  unfolding task_fits
  only_tasks k l n =
      by_test (eqb (kind_of (kind_in (P k))).task one)
      (λ e. task_kind (kind_in (P k)) (eqb-true _ _ e))
      (λ e.
      let h = passed_true (eqb (kind_of (kind_in (P k))).task one) _ _ (parts k l).task e in
      absurd (n (eqb-true _ 0 (and_left (eqb (task_in (P k)) 0) (eqb (mode_in (P k)) 0) (and_left (eqb (task_in (P k)) 0 && eqb (mode_in (P k)) 0) _ h)))))

  -- a task's mode, and that of any other
  pub task_mode : (k : ℕ) → k < c → ((is_task (kind_in (P k)) ≡ true) × (a ≤ mode_in (P k)) × (mode_in (P k) ≤ na_nc)) ⊎ ((is_task (kind_in (P k)) ≡ false) × (mode_in (P k) ≡ 0))
  unfolding task_fits
  task_mode k l =
      let q : ℕ = (kind_of (kind_in (P k))).task in
      let ranged : Bool = within 1 tasks (task_in (P k)) in
      let some : Bool = ranged && within a na_nc (mode_in (P k)) && leb (assignment_count (P k)) assignments in
      let bare : Bool = eqb (task_in (P k)) 0 && eqb (mode_in (P k)) 0 && eqb (assignment_count (P k)) 0 in
      by_test (is_task (kind_in (P k)))
      (λ e.
      let h : some ≡ true = chosen_true (eqb q one) some bare (parts k l).task (eq-eqb q one (kind_task (kind_in (P k)) e)) in
      let m : within a na_nc (mode_in (P k)) ≡ true = and_right ranged (within a na_nc (mode_in (P k))) (and_left (ranged && within a na_nc (mode_in (P k))) (leb (assignment_count (P k)) assignments) h) in
      inl (e, leb-true a (mode_in (P k)) (and_left (leb a (mode_in (P k))) (leb (mode_in (P k)) na_nc) m), leb-true (mode_in (P k)) na_nc (and_right (leb a (mode_in (P k))) (leb (mode_in (P k)) na_nc) m)))
      (λ e.
      let h : bare ≡ true = passed_true (eqb q one) some bare (parts k l).task (ne_eqb q one (λ y. false≢true (sym e ∙ task_kind (kind_in (P k)) y))) in
      inr (e, eqb-true (mode_in (P k)) 0 (and_right (eqb (task_in (P k)) 0) (eqb (mode_in (P k)) 0) (and_left (eqb (task_in (P k)) 0 && eqb (mode_in (P k)) 0) (eqb (assignment_count (P k)) 0) h))))

  numbered : (k : ℕ) → k < c → is_task (kind_in (P k)) ≡ true → task_in (P k) ≡ 0 → ⊥
  numbered k l h z = omega (arith, task_some (P k) (element_fits_lem t fits p there k l) (kind_task (kind_in (P k)) h), z)

  task_most : (k : ℕ) → k < c → task_in (P k) ≤ tasks
  task_most k l = task_few (P k) (element_fits_lem t fits p there k l)

  one-task : (k l : ℕ) → k < c → l < c → (task_in (P k) ≡ 0 → ⊥) → task_in (P k) ≡ task_in (P l) → k ≡ l
  unfolding as_task
  one-task k l a b n e =
      by_test (eqb k l) (eqb-true k l)
      (λ d.
      let m : ℕ = task_in (P k) in
      let some : 1 ≤ m = by_test (eqb m 0) (λ z. absurd (n (eqb-true m 0 z))) (λ z. let y = eqb-false m 0 z in omega (arith, y)) in
      let less : m ≤ tasks = task_most k a in
      absurd (more_tasks m some less k l a b (eqb-false k l d) refl (sym e)))
    where
      more_tasks : (m : ℕ) → 1 ≤ m → m ≤ tasks → (k l : ℕ) → k < c → l < c → (k ≡ l → ⊥) → task_in (P k) ≡ m → task_in (P l) ≡ m → ⊥
      more_tasks zero s few k l a b d x y = omega arith
      more_tasks (suc m) s few k l a b d x y =
          let z : m + 1 ≡ suc m = omega arith in
          omega (
            arith,
            tasks_once t fits (valid_sound t v) p there m (omega arith),
            sum_two (λ e. as_task (m + 1) (P e)) c k l a b d,
            hit_same (task_in (P k)) (m + 1) (x ∙ sym z),
            hit_same (task_in (P l)) (m + 1) (y ∙ sym z),
          )

  -- STARTS
  start_kind : (k : ℕ) → starts (P k) ≡ true → 1 ≤ of_kind start (P k) + of_kind start_rcv (P k)
  unfolding starts of_kind
  start_kind k h =
      by_either (eqb (kind_in (P k)) start) (eqb (kind_in (P k)) start_rcv) h
      (λ e. let z = hit_same (kind_in (P k)) start (eqb-true _ _ e) in omega (arith, z))
      (λ e. let z = hit_same (kind_in (P k)) start_rcv (eqb-true _ _ e) in omega (arith, z))

  one_start : (k l : ℕ) → k < c → l < c → starts (P k) ≡ true → starts (P l) ≡ true → k ≡ l
  one_start k l a b x y =
      by_test (eqb k l) (eqb-true k l)
      (λ d. absurd (omega (
        arith,
        start_once t fits (valid_sound t v) p there,
        sum_add (λ e. of_kind start (P e)) (λ e. of_kind start_rcv (P e)) c,
        sum_two (λ e. of_kind start (P e) + of_kind start_rcv (P e)) c k l a b (eqb-false k l d),
        start_kind k x,
        start_kind l y,
      )))

  -- the first edge of a start is an entry only
  edge_first : (x n f : ℕ) → edge_right x n f ≡ true → 1 ≤ f → x ≡ 0
  unfolding edge_right
  edge_first x n f h l =
      by_test (eqb (x + n) 0) (λ e. let z = eqb-true (x + n) 0 e in omega arith)
      (λ e.
      let r = passed_true (eqb (x + n) 0) true (eqb n 1 && eqb x (if eqb f 0 then 1 or_else 0)) h e in
      let o = eqb-true x (if eqb f 0 then 1 or_else 0) (and_right (eqb n 1) (eqb x (if eqb f 0 then 1 or_else 0)) r) in
      o ∙ passed (eqb f 0) 1 0 (ne_zero f l))
    where
      ne_zero : (f : ℕ) → 1 ≤ f → eqb f 0 ≡ false
      ne_zero f l = ne_eqb f 0 (λ z. omega arith)

  first_at : (x k : ℕ) → kind_in (P k) ≡ start → entry_at (P k) 0 ≡ x → as_first x (P k) ≡ 1
  unfolding as_first
  first_at x k is e = ap one_if (and_true (eqb (kind_in (P k)) start) (eqb (entry_at (P k) 0) x) (eq-eqb _ _ is) (eq-eqb _ _ e))

  exit_at_lem : (x l j : ℕ) → j < exit_count (P l) → exit_at (P l) j ≡ x → 1 ≤ as_exit x (P l)
  unfolding as_exit
  exit_at_lem x l j r e = omega (arith, sum_at (λ i. hit (exit_at (P l) i) x) (exit_count (P l)) j r, hit_same (exit_at (P l) j) x e)

  right_edge : (x : ℕ) → x < edges → edge_right (sum (λ e. as_exit (x + 1) (P e)) c) (sum (λ e. as_entry (x + 1) (P e)) c) (sum (λ e. as_first (x + 1) (P e)) c) ≡ true
  unfolding check4 pool_at
  right_edge x m =
      let h = all_at (λ k. edge_right (total (as_exit (k + 1)) (pool_at t p).elements) (total (as_entry (k + 1)) (pool_at t p).elements) (total (as_first (k + 1)) (pool_at t p).elements)) edges (pool_checked t v p there).fourth x m in
      rw (← total-tab (as_exit (x + 1)) (element_at t p) c, ← total-tab (as_entry (x + 1)) (element_at t p) c, ← total-tab (as_first (x + 1)) (element_at t p) c) h

  entry_only : (k l j : ℕ) → k < c → l < c → kind_in (P k) ≡ start → j < exit_count (P l) → exit_at (P l) j ≡ entry_at (P k) 0 → ⊥
  entry_only k l j a b is r e =
      let w = exit_edge t fits (valid_sound t v) p there l b j r in
      let x : ℕ = exit_at (P l) j - 1 in
      let q : exit_at (P l) j ≡ x + 1 = omega (arith, w.0) in
      let g : 1 ≤ sum (λ e. as_first (x + 1) (P e)) c = omega (arith, sum_at (λ e. as_first (x + 1) (P e)) c k a, first_at (x + 1) k is (sym e ∙ q)) in
      let z = edge_first _ _ _ (right_edge x (omega (arith, w.0, w.1))) g in
      omega (arith, z, sum_at (λ e. as_exit (x + 1) (P e)) c l b, exit_at_lem (x + 1) l j r q)

  -- a split has branches
  pub some_exits : (k : ℕ) → k < c → (kind_of (kind_in (P k))).exits ≡ many → 0 < exit_count (P k)
  unfolding count_fits
  some_exits k l h =
      let el = element_fits_lem t fits p there k l in
      let n : ℕ = at (P k) exits_place in
      let w = chosen_true (eqb (kind_of (kind_in (P k))).exits many) (within fewest branches n) (eqb n (kind_of (kind_in (P k))).exits) (exits_fit (P k) el) (eq-eqb _ _ h) in
      omega (arith, exits_all (P k) el, leb-true fewest n (and_left (leb fewest n) (leb n branches) w))

  -- and a join entries
  pub some_entries : (k : ℕ) → k < c → (kind_of (kind_in (P k))).entries ≡ many → 0 < entry_count (P k)
  unfolding count_fits
  some_entries k l h =
      let el = element_fits_lem t fits p there k l in
      let n : ℕ = at (P k) entries_place in
      let w = chosen_true (eqb (kind_of (kind_in (P k))).entries many) (within fewest branches n) (eqb n (kind_of (kind_in (P k))).entries) (entries_fit (P k) el) (eq-eqb _ _ h) in
      omega (arith, entries_all (P k) el, leb-true fewest n (and_left (leb fewest n) (leb n branches) w))

  split_exits : (k : ℕ) → k < c → (kind_in (P k) ≡ and_split) ⊎ ((kind_in (P k) ≡ xor_split) ⊎ (kind_in (P k) ≡ event_based)) → 0 < exit_count (P k)
  unfolding kind_of
  split_exits k l (inl e) = some_exits k l (ap (λ y. (kind_of y).exits) e)
  split_exits k l (inr (inl e)) = some_exits k l (ap (λ y. (kind_of y).exits) e)
  split_exits k l (inr (inr e)) = some_exits k l (ap (λ y. (kind_of y).exits) e)

  split_kind : (el join : List ℕ) → Closed el join → (kind_in el ≡ and_split) ⊎ ((kind_in el ≡ xor_split) ⊎ (kind_in el ≡ event_based))
  split_kind el join (whole a b) = inl a
  split_kind el join (choice a b) = inr a

  single_exit : (k : ℕ) → k < c → (starts (P k) ≡ true) ⊎ ((passes (P k) ≡ true) ⊎ ((kind_in (P k) ≡ and_join) ⊎ (kind_in (P k) ≡ xor_join))) → 0 < exit_count (P k)
  unfolding starts kind_of
  single_exit k l (inl h) =
      by_either (eqb (kind_in (P k)) start) (eqb (kind_in (P k)) start_rcv) h
      (λ e. omega (arith, one_exit (P k) start (eqb-true _ _ e) refl)) (λ e. omega (arith, one_exit (P k) start_rcv (eqb-true _ _ e) refl))
  single_exit k l (inr (inl h)) = omega (arith, (plain (P k) h).exits)
  single_exit k l (inr (inr (inl e))) = omega (arith, one_exit (P k) and_join e refl)
  single_exit k l (inr (inr (inr e))) = omega (arith, one_exit (P k) xor_join e refl)

  pub sound : Sound P c
  sound = record {
    one_leaves = one_leaves t fits (valid_sound t v) p there;
    one_enters = one_enters t fits (valid_sound t v) p there;
    exits_apart = λ k i j l r s e. by_test (eqb i j) (eqb-true i j) (λ d. absurd (exits_apart t fits (valid_sound t v) p there k l i j r s (eqb-false i j d) e));
    entries_apart = λ k i j l. entries_apart t fits (valid_sound t v) p there k l i j;
    tasks_once = one-task;
    branching = λ k l e. split_exits k l (inl e);
    one_start = one_start;
    first_entry = entry_only;
    tasks_only = only_tasks;
    tasks_numbered = numbered;
  }

  pub entered : Entered P c
  entered = record {
    one_enters = one_enters t fits (valid_sound t v) p there;
    exit_few = λ k j l r. (exit_edge t fits (valid_sound t v) p there k l j r).1;
    entry_few = λ k j l r. (entry_edge t fits (valid_sound t v) p there k l j r).1;
    entries_apart = λ k i j l. entries_apart t fits (valid_sound t v) p there k l i j;
    one_exit = single_exit;
    branches = λ k j l cl. split_exits k l (split_kind (P k) (P j) (closed (P k) (P j) cl));
    one_start = one_start;
    few = elements_few t fits p there;
  }

  -- WHERE EDGES LEAD
  edge_met : (x n f : ℕ) → edge_right x n f ≡ true → 1 ≤ n → f ≡ 0 → x ≡ 1
  unfolding edge_right
  edge_met x n f h l z =
      let r = passed_true (eqb (x + n) 0) true (eqb n 1 && eqb x (if eqb f 0 then 1 or_else 0)) h (ne_eqb (x + n) 0 (λ q. omega (arith, q, l))) in
      let o = eqb-true x (if eqb f 0 then 1 or_else 0) (and_right (eqb n 1) (eqb x (if eqb f 0 then 1 or_else 0)) r) in
      o ∙ chosen (eqb f 0) 1 0 (eq-eqb f 0 z)

  entry_at_lem : (x k j : ℕ) → j < entry_count (P k) → entry_at (P k) j ≡ x → 1 ≤ as_entry x (P k)
  unfolding as_entry
  entry_at_lem x k j r e = omega (arith, sum_at (λ i. hit (entry_at (P k) i) x) (entry_count (P k)) j r, hit_same (entry_at (P k) j) x e)

  no_first : (x k j : ℕ) → k < c → j < entry_count (P k) → entry_at (P k) j ≡ x → (kind_in (P k) ≡ start → ⊥) → (l : ℕ) → l < c → as_first x (P l) ≡ 0
  unfolding as_first kind_of
  no_first x k j a r q n l b =
      by_test (eqb (kind_in (P l)) start && eqb (entry_at (P l) 0) x)
      (λ e.
      let is : kind_in (P l) ≡ start = eqb-true _ _ (and_left (eqb (kind_in (P l)) start) (eqb (entry_at (P l) 0) x) e) in
      let at_first : entry_at (P l) 0 ≡ x = eqb-true _ _ (and_right (eqb (kind_in (P l)) start) (eqb (entry_at (P l) 0) x) e) in
      let same : k ≡ l = one_enters t fits (valid_sound t v) p there k l j 0 a b r (omega (arith, one_entry (P l) start is refl)) (q ∙ sym at_first) in
      absurd (n (ap (λ y. kind_in (P y)) same ∙ is)))
      (λ e. ap one_if e)

  -- an entry that is not a start's is an exit
  pub entry_leaves : (k j : ℕ) → k < c → j < entry_count (P k) → (kind_in (P k) ≡ start → ⊥) → (l i : ℕ) × (l < c) × (i < exit_count (P l)) × (exit_at (P l) i ≡ entry_at (P k) j)
  unfolding as_exit
  entry_leaves k j a r n =
      let w = entry_edge t fits (valid_sound t v) p there k a j r in
      let x : ℕ = entry_at (P k) j - 1 in
      let q : entry_at (P k) j ≡ x + 1 = omega (arith, w.0) in
      let o = edge_met _ _ _ (right_edge x (omega (arith, w.0, w.1))) (omega (arith, sum_at (λ e. as_entry (x + 1) (P e)) c k a, entry_at_lem (x + 1) k j r q)) (sum-zero (λ e. as_first (x + 1) (P e)) c (no_first (x + 1) k j a r q n)) in
      let s = sum_some (λ e. as_exit (x + 1) (P e)) c (omega (arith, o)) in
      let u = sum_some (λ i. hit (exit_at (P s.0) i) (x + 1)) (exit_count (P s.0)) s.2 in
      (s.0, u.0, s.1, u.1, same_hit (exit_at (P s.0) u.0) (x + 1) u.2 ∙ sym q)

  -- and an exit is an entry
  pub exit_enters : (k j : ℕ) → k < c → j < exit_count (P k) → (l i : ℕ) × (l < c) × (i < entry_count (P l)) × (entry_at (P l) i ≡ exit_at (P k) j)
  unfolding as_entry
  exit_enters k j a r =
      let w = exit_edge t fits (valid_sound t v) p there k a j r in
      let x : ℕ = exit_at (P k) j - 1 in
      let q : exit_at (P k) j ≡ x + 1 = omega (arith, w.0) in
      let s = sum_some (λ e. as_entry (x + 1) (P e)) c (omega (arith, exits_enter t fits (valid_sound t v) p there x (omega (arith, w.0, w.1)), sum_at (λ e. as_exit (x + 1) (P e)) c k a, exit_at_lem (x + 1) k j r q)) in
      let u = sum_some (λ i. hit (entry_at (P s.0) i) (x + 1)) (entry_count (P s.0)) s.2 in
      (s.0, u.0, s.1, u.1, same_hit (entry_at (P s.0) u.0) (x + 1) u.2 ∙ sym q)
