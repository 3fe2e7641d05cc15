-- AN INSTANCE of a nested pool that is not finished HAS A STEP that its tokens permit: a task that has begun, an element that has its tokens, or an andJoin that has all of them. Were there none, then all
-- tokens would wait at andJoins, each with an entry that has none; weights that weigh only those entries would give it nothing, and it has 1. Assumes nothing.
use Prim.Native.Nat.{ℕ, zero, suc, ◌+◌, ◌-◌, ◌≤◌, ◌<◌}
use mathlib.Core.Path.{◌≡◌, refl, sym, ◌∙◌, ap, subst}
use mathlib.Core.Bool.{Bool, true, false, not, ◌&&◌, false≢true}
use mathlib.Core.List.{List, ◌++◌}
use mathlib.Core.Logic.{⊎_elim}
use native.Mathlib.Omega.{arith}
use lib.Dec.{eqb, leb, ltb}
use borrow.Author.Tests.{eqb-true, eqb-false, eq-eqb, ne_eqb, ltb-true, ltb-false, lt-ltb, le-leb, not-true, not-false}
use Rattle.base_words.specs.All.{all}
use Rattle.base_words.specs.Pick.{if◌then◌or_else◌}
use Rattle.base_words.specs.Seek.{seek}
use Rattle.base_words.specs.Words.{at}
use Rattle.base_words.specs.Counts.{edges, tasks}
use Rattle.base_words.proofs.AllLaws.{all_of, and_left, and_right}
use Rattle.base_words.proofs.ListLaws.{length-tab}
use Rattle.base_words.proofs.PickLaws.{and_true}
use Rattle.base_words.proofs.SeekLaws.{sought}
use Rattle.base_words.proofs.SumLaws.{sum-zero}
use Rattle.base_kinds.specs.declared.moves.Move.{Move}
use Rattle.base_kinds.specs.Kinds.{none, many, kind_of, used, and_join, xor_join}
use Rattle.base_kinds.specs.Moves.{a, modes, every, branch, on, down, making}
use Rattle.base_table.specs.Places.{entries_place}
use Rattle.base_table.specs.Table.{pool_count, element_count, element_at, kind_in, task_in, mode_in, entry_count, exit_count, entry_at}
use Rattle.base_state.specs.Places.{token_place, active_place, ready_place, defined_place, instance_words, instance_place}
use Rattle.base_state.specs.Instances.{instances_of, made_count, instance_at, tokens, active_count, ready_count}
use Rattle.check_nesting.specs.Nesting.{Nested}
use Rattle.meaning.specs.Requirements.{touched, first_touched, branch_count, has_token, has_tokens, can_lower, waits, is_alone, counts_permit}
use Rattle.meaning.specs.Step.{instance_of, shared_of}
use Rattle.state_figures.specs.Figures.{is_finished}
use Rattle.proof_steps.proofs.Choices.{by_test, by_choice, chosen, passed, chosen_true, passed_true}
use Rattle.proof_steps.proofs.Elements.{element_fits_lem, task_few, entry_within, exit_within}
use Rattle.proof_steps.proofs.Seen.{seen_own}
use Rattle.engine.specs.Engine.{valid}
use Rattle.engine.specs.Calls.{Valid}
use Rattle.proof_valid.proofs.ChecksHold.{valid_fits}
use Rattle.proof_nesting.proofs.Weights.{is_task}
use Rattle.proof_nesting.proofs.Flows.{move_in}
use Rattle.proof_nesting.proofs.Events.{one_entry}
use Rattle.proof_nesting.proofs.Mass.{weigh, mass}
use Rattle.proof_nesting.proofs.Moved.{weight_at, weight, weight_token}
use Rattle.proof_nesting.proofs.Precise.{exact_chosen}
use Rattle.proof_profile.proofs.Sounds.{sound, task_mode, some_exits, some_entries, exit_enters}
use Rattle.proof_profile.proofs.Places.{Uses, entry, exit, active, ready}
use Rattle.proof_profile.proofs.Rows.{Enters, first_move, first_phase, many_joins, one_or_many, Lowers, active_move, active_phase, ready_move}
use Rattle.proof_profile.proofs.Steady.{Steady}
use Rattle.proof_profile.proofs.Whole.{moded, used_by, weighs_one}

-- the branches of a move that touches no branch's edge alone
one_branch : (el : List ℕ) (m : Move) → (m.takes ≡ branch → ⊥) → (m.puts ≡ branch → ⊥) → branch_count el m ≡ 1
unfolding branch_count
one_branch el m t p = passed (eqb m.takes branch) (entry_count el) _ (ne_eqb _ branch t) ∙ passed (eqb m.puts branch) (exit_count el) 1 (ne_eqb _ branch p)

weigh-zero : (a : ℕ) → weigh a 0 ≡ 0
unfolding weigh
weigh-zero a = refl

weigh_nothing : (a n : ℕ) → a ≡ 0 → weigh a n ≡ 0
unfolding weigh
weigh_nothing a zero e = refl
weigh_nothing a (suc n) e = omega (arith, weigh_nothing a n e, e)

can_lower_lem : (cell count : ℕ) → (cell ≡ down → 0 < count) → can_lower cell count ≡ true
unfolding can_lower
can_lower_lem cell count h = by_choice (λ (b : Bool). b ≡ true) (eqb cell down) (ltb 0 count) true (λ e. lt-ltb 0 count (h (eqb-true cell down e))) (λ e. refl)

join_many : (kind_of and_join).entries ≡ many
unfolding kind_of
join_many = refl

module _ (t : List ℕ) (v : valid t ≡ true) (p : ℕ) (there : p < pool_count t) (nest : Nested (element_at t p) (element_count t p)) where
  abbrev P : ℕ → List ℕ
  P = element_at t p

  abbrev c : ℕ
  c = element_count t p

  module _ (z : List ℕ) (right : Valid t z) (steady : Steady t v p there nest (instances_of z)) (i : ℕ) (made : i < made_count (instances_of z) p) where
    abbrev s : List ℕ
    s = instances_of z

    abbrev h : List ℕ
    h = instance_of s p i

    -- what a step of it sees
    abbrev seen : List ℕ
    seen = h ++ shared_of s

    seen_is : (k : ℕ) → k < defined_place 0 → at seen k ≡ at h k
    unfolding instance_of
    seen_is k l = seen_own s h (length-tab (λ k. at s (instance_place p i + k)) instance_words) k (omega (arith, l))

    -- an element that its tokens and counts permit
    pub record Able : Type 0 where
      pub element : ℕ
      pub phase : ℕ
      pub branch : ℕ
      pub inside : element < c
      pub rule : (move_in (P element) phase).kind ≡ 0 → ⊥
      pub old : (move_in (P element) phase).also ≡ making → ⊥
      pub branching : branch < branch_count (P element) (move_in (P element) phase)
      pub permits : counts_permit (P element) seen (move_in (P element) phase) branch ≡ true

    permitted : (el : List ℕ) (m : Move) (b : ℕ) → has_tokens el seen m b ≡ true → (m.active ≡ down → 0 < active_count seen (task_in el)) → (m.ready ≡ down → 0 < ready_count seen (task_in el)) → is_alone el seen m ≡ true
        → counts_permit el seen m b ≡ true
    unfolding counts_permit
    permitted el m b x y w o =
        let f = can_lower_lem m.active (active_count seen (task_in el)) y in
        let g = can_lower_lem m.ready (ready_count seen (task_in el)) w in
        and_true (has_tokens el seen m b && can_lower m.active (active_count seen (task_in el)) && can_lower m.ready (ready_count seen (task_in el))) (is_alone el seen m)
        (and_true (has_tokens el seen m b && can_lower m.active (active_count seen (task_in el))) _ (and_true (has_tokens el seen m b) _ x f) g) o

    -- A TASK THAT HAS BEGUN
    mode_few : (e : ℕ) → e < c → mode_in (P e) < modes
    mode_few e l = ⊎_elim (λ o. let m = o.2 in omega (arith, m)) (λ o. let m = o.1 in omega (arith, m)) (task_mode t v p there e l)

    no_tokens : (el : List ℕ) (m : Move) (b : ℕ) → m.takes ≡ 0 → has_tokens el seen m b ≡ true
    unfolding has_tokens touched all
    no_tokens el m b e =
        let q : touched m.takes (entry_count el) ≡ 0 =
        passed (eqb m.takes every) (entry_count el) (if eqb m.takes branch then 1 or_else 0) (ne_eqb m.takes every (λ y. omega (arith, y, e)))
        ∙ passed (eqb m.takes branch) 1 0 (ne_eqb m.takes branch (λ y. omega (arith, y, e))) in
        all_of (has_token el seen (first_touched m.takes b)) (touched m.takes (entry_count el)) (λ j l. absurd (omega (arith, q, l)))

    no_wait : (el : List ℕ) (m : Move) → m.alone ≡ 0 → is_alone el seen m ≡ true
    unfolding is_alone
    no_wait el m e =
        passed (eqb m.alone on) (if waits el seen then eqb (active_count seen (task_in el)) 0 && eqb (ready_count seen (task_in el)) 0 or_else true) true (ne_eqb m.alone on (λ y. omega (arith, y, e)))

    lowering : (e phase : ℕ) → e < c → Lowers (move_in (P e) phase) → ((move_in (P e) phase).active ≡ down → 0 < active_count seen (task_in (P e))) → ((move_in (P e) phase).ready ≡ down → 0 < ready_count seen (task_in (P e))) → Able
    lowering e phase l o x y = record {
      element = e;
      phase = phase;
      branch = 0;
      inside = l;
      rule = o.there;
      old = o.old;
      branching = (let q = one_branch (P e) (move_in (P e) phase) (λ y. let k = o.takes in omega (arith, y, k)) o.puts in omega (arith, q));
      permits = permitted (P e) (move_in (P e) phase) 0 (no_tokens (P e) (move_in (P e) phase) 0 o.takes) x y (no_wait (P e) (move_in (P e) phase) o.alone);
    }

    counting : (k e : ℕ) → edges ≤ k → k < defined_place 0 → (at h k ≡ 0 → ⊥) → e < c → Uses (P e) k → Able
    counting k e low high some l (entry j r q) = absurd (let w = entry_within (P e) (element_fits_lem t (valid_fits t v) p there e l) j r in omega (arith, q, low, w.0, w.1))
    counting k e low high some l (exit j r q) = absurd (let w = exit_within (P e) (element_fits_lem t (valid_fits t v) p there e l) j r in omega (arith, q, low, w.0, w.1))
    counting k e low high some l (active m q) =
        let o = active_move (kind_in (P e)) (mode_in (P e)) (moded t v p there nest e l m) m (mode_few e l) in
        let n : at seen (active_place (task_in (P e))) ≡ at h k = ap (at seen) (sym q) ∙ seen_is k high in
        lowering e (active_phase (kind_in (P e))) l o.0 (λ d. by_test (eqb (at h k) 0) (λ y. absurd (some (eqb-true _ 0 y))) (λ y. let u = eqb-false (at h k) 0 y in omega (arith, u, n))) (λ d. absurd (o.2 d))
    counting k e low high some l (ready m speaks q) =
        let o = ready_move (kind_in (P e)) (mode_in (P e)) (moded t v p there nest e l m) speaks m (mode_few e l) in
        let n : at seen (ready_place (task_in (P e))) ≡ at h k = ap (at seen) (sym q) ∙ seen_is k high in
        lowering e 3 l o.0 (λ d. absurd (o.2 d)) (λ d. by_test (eqb (at h k) 0) (λ y. absurd (some (eqb-true _ 0 y))) (λ y. let u = eqb-false (at h k) 0 y in omega (arith, u, n)))

    -- AN ELEMENT THAT HAS ITS TOKENS, where no task has begun
    module _ (quiet : (k : ℕ) → edges ≤ k → k < defined_place 0 → at h k ≡ 0) where
      abbrev has : ℕ → ℕ → Bool
      has e j = ltb 0 (tokens h (entry_at (P e) j))

      -- the first entry with a token, and the first without
      abbrev some : ℕ → ℕ
      some e = seek (has e) (entry_count (P e))

      abbrev missing : ℕ → ℕ
      missing e = seek (λ j. not (has e j)) (entry_count (P e))

      unfoldable able : ℕ → Bool
      able e = if eqb (kind_in (P e)) xor_join then ltb (some e) (entry_count (P e)) or_else (ltb 0 (entry_count (P e)) && not (ltb (missing e) (entry_count (P e))))

      quiet_seen : (k : ℕ) → edges ≤ k → k < defined_place 0 → at seen k ≡ 0
      quiet_seen k a b = seen_is k b ∙ quiet k a b

      all_quiet : (e : ℕ) → e < c → (m : Move) → is_alone (P e) seen m ≡ true
      unfolding is_alone
      all_quiet e l m =
          let few = task_few (P e) (element_fits_lem t (valid_fits t v) p there e l) in
          by_choice (λ (b : Bool). b ≡ true) (eqb m.alone on) (if waits (P e) seen then eqb (active_count seen (task_in (P e))) 0 && eqb (ready_count seen (task_in (P e))) 0 or_else true) true
          (λ y.
          by_choice (λ (b : Bool). b ≡ true) (waits (P e) seen) (eqb (active_count seen (task_in (P e))) 0 && eqb (ready_count seen (task_in (P e))) 0) true
          (λ w. and_true _ _ (eq-eqb _ 0 (quiet_seen (active_place (task_in (P e))) (omega arith) (omega (arith, few)))) (eq-eqb _ 0 (quiet_seen (ready_place (task_in (P e))) (omega arith) (omega (arith, few)))))
          (λ w. refl))
          (λ y. refl)

      entered : (e : ℕ) → 0 < entry_count (P e) → (kind_of (kind_in (P e))).entries ≡ none → ⊥
      unfolding entry_count used if◌then◌or_else◌
      entered e l n = let q : entry_count (P e) ≡ 0 = ap (λ y. used y (at (P e) entries_place)) n in omega (arith, q, l)

      fit_mode : (e : ℕ) → e < c → (if is_task (kind_in (P e)) then leb 1 (mode_in (P e)) or_else eqb (mode_in (P e)) 0) ≡ true
      fit_mode e l =
          ⊎_elim (λ o. chosen (is_task (kind_in (P e))) _ _ o.0 ∙ le-leb 1 (mode_in (P e)) o.1) (λ o. passed (is_task (kind_in (P e))) _ _ o.0 ∙ eq-eqb (mode_in (P e)) 0 o.1)
          (task_mode t v p there e l)

      module _ (e : ℕ) (l : e < c) (some-entry : 0 < entry_count (P e)) where
        abbrev m : Move
        m = move_in (P e) (first_phase (mode_in (P e)))

        o : Enters (kind_in (P e)) m
        o = first_move (kind_in (P e)) (mode_in (P e)) (entered e some-entry) (mode_few e l) (fit_mode e l)

        has_seen : (j : ℕ) → j < entry_count (P e) → has e j ≡ true → ltb 0 (tokens seen (entry_at (P e) j)) ≡ true
        has_seen j r q = let w = entry_within (P e) (element_fits_lem t (valid_fits t v) p there e l) j r in ap (ltb 0) (seen_is (token_place (entry_at (P e) j)) (omega (arith, w.0, w.1))) ∙ q

        with_branch : (b : ℕ) → b < branch_count (P e) m → has_tokens (P e) seen m b ≡ true → Able
        with_branch b r q = record {
          element = e;
          phase = first_phase (mode_in (P e));
          branch = b;
          inside = l;
          rule = o.there;
          old = o.old;
          branching = r;
          permits = permitted (P e) m b q (λ d. absurd (o.active d)) (λ d. absurd (o.ready d)) (all_quiet e l m);
        }

        -- an xorJoin, by the entry that has a token
        by_one : kind_in (P e) ≡ xor_join → (b : ℕ) → b < entry_count (P e) → has e b ≡ true → Able
        unfolding branch_count has_tokens has_token first_touched touched
        by_one is b r q =
            let k : m.takes ≡ branch = o.takes ∙ chosen (eqb (kind_in (P e)) xor_join) branch every (eq-eqb _ xor_join is) in
            let y = eq-eqb m.takes branch k in
            let ne = ne_eqb m.takes every (λ d. omega (arith, d, k)) in
            with_branch b (subst (λ n. b < n) (sym (chosen (eqb m.takes branch) (entry_count (P e)) (if eqb m.puts branch then exit_count (P e) or_else 1) y)) r)
            (all_of (has_token (P e) seen (first_touched m.takes b)) (touched m.takes (entry_count (P e)))
            (λ j u.
            let n : touched m.takes (entry_count (P e)) ≡ 1 = passed (eqb m.takes every) (entry_count (P e)) _ ne ∙ chosen (eqb m.takes branch) 1 0 y in
            let x : b ≡ first_touched m.takes b + j = (let f : first_touched m.takes b ≡ b = chosen (eqb m.takes branch) b 0 y in omega (arith, n, u, f)) in
            subst (λ n. ltb 0 (tokens seen (entry_at (P e) n)) ≡ true) x (has_seen b r q)))

        -- any other, by all of them
        some_branch : (m.takes ≡ branch → ⊥) → 0 < branch_count (P e) m
        unfolding branch_count
        some_branch n =
            subst (λ n. 0 < n) (sym (passed (eqb m.takes branch) (entry_count (P e)) (if eqb m.puts branch then exit_count (P e) or_else 1) (ne_eqb _ branch n)))
            (by_choice (λ (n : ℕ). 0 < n) (eqb m.puts branch) (exit_count (P e)) 1 (λ d. some_exits t v p there e l (o.puts (eqb-true _ branch d))) (λ d. omega arith))

        by_all : (kind_in (P e) ≡ xor_join → ⊥) → ((j : ℕ) → j < entry_count (P e) → has e j ≡ true) → Able
        unfolding has_tokens has_token first_touched touched
        by_all is q =
            let k : m.takes ≡ every = o.takes ∙ passed (eqb (kind_in (P e)) xor_join) branch every (ne_eqb _ xor_join is) in
            let ne : m.takes ≡ branch → ⊥ = (λ d. omega (arith, d, k)) in
            with_branch 0 (some_branch ne)
            (all_of (has_token (P e) seen (first_touched m.takes 0)) (touched m.takes (entry_count (P e)))
            (λ j u.
            let n : touched m.takes (entry_count (P e)) ≡ entry_count (P e) = chosen (eqb m.takes every) (entry_count (P e)) _ (eq-eqb _ every k) in
            let x : j ≡ first_touched m.takes 0 + j = (let f : first_touched m.takes 0 ≡ 0 = passed (eqb m.takes branch) 0 0 (ne_eqb _ branch ne) in omega (arith, f)) in
            subst (λ n. ltb 0 (tokens seen (entry_at (P e) n)) ≡ true) x (has_seen j (omega (arith, n, u)) (q j (omega (arith, n, u))))))

      by_able : (e : ℕ) → e < c → able e ≡ true → Able
      unfolding able
      by_able e l q =
          by_test (eqb (kind_in (P e)) xor_join)
          (λ d.
          let r = ltb-true (some e) (entry_count (P e)) (chosen_true (eqb (kind_in (P e)) xor_join) (ltb (some e) (entry_count (P e))) _ q d) in
          by_one e l (omega (arith, r)) (eqb-true _ xor_join d) (some e) r ((sought (has e) (entry_count (P e))).1 r))
          (λ d.
          let r = passed_true (eqb (kind_in (P e)) xor_join) _ (ltb 0 (entry_count (P e)) && not (ltb (missing e) (entry_count (P e)))) q d in
          let n = ltb-false (missing e) (entry_count (P e)) (not-true _ (and_right (ltb 0 (entry_count (P e))) _ r)) in
          by_all e l (ltb-true 0 _ (and_left (ltb 0 (entry_count (P e))) _ r)) (eqb-false _ xor_join d)
          (λ j u. not-false (has e j) ((sought (λ j. not (has e j)) (entry_count (P e))).2 j (omega (arith, n, u)))))

      -- NONE: all tokens wait at andJoins
      module _ (stuck : (e : ℕ) → e < c → able e ≡ false) where
        waiting : (e : ℕ) → e < c → 0 < entry_count (P e) → (kind_in (P e) ≡ xor_join → ⊥) → missing e < entry_count (P e)
        unfolding able
        waiting e l some-entry is =
            by_test (ltb (missing e) (entry_count (P e))) (ltb-true _ _)
            (λ d. absurd (false≢true (sym (stuck e l) ∙ passed (eqb (kind_in (P e)) xor_join) _ _ (ne_eqb _ xor_join is) ∙ and_true (ltb 0 (entry_count (P e))) (not (ltb (missing e) (entry_count (P e)))) (lt-ltb 0 _ some-entry) (ap not d))))

        no_xor : (e j : ℕ) → e < c → j < entry_count (P e) → has e j ≡ true → kind_in (P e) ≡ xor_join → ⊥
        unfolding able
        no_xor e j l r q is =
            let d : ltb (some e) (entry_count (P e)) ≡ false = sym (chosen (eqb (kind_in (P e)) xor_join) (ltb (some e) (entry_count (P e))) _ (eq-eqb _ xor_join is)) ∙ stuck e l in
            let n = ltb-false (some e) (entry_count (P e)) d in
            false≢true (sym ((sought (has e) (entry_count (P e))).2 j (omega (arith, n, r))) ∙ q)

        -- a token waits at an andJoin, and not at the entry that is missed
        waits_there : (e j : ℕ) → e < c → j < entry_count (P e) → has e j ≡ true → (kind_in (P e) ≡ and_join) × (j ≡ missing e → ⊥)
        waits_there e j l r q =
            let is = no_xor e j l r q in
            let m = waiting e l (omega (arith, r)) is in
            let none_there : has e (missing e) ≡ false = not-true _ ((sought (λ j. not (has e j)) (entry_count (P e))).1 m) in
            let other : j ≡ missing e → ⊥ = (λ y. false≢true (sym none_there ∙ ap (has e) (sym y) ∙ q)) in
            ⊎_elim
            (λ y. absurd (other (let n = one_entry (P e) (kind_in (P e)) refl y in omega (arith, n, r, m))))
            (λ y. ⊎_elim (λ w. (w, other)) (λ w. absurd (is w)) (many_joins (kind_in (P e)) y))
            (one_or_many (kind_in (P e)) (entered e (omega (arith, r))))

        pick_right : (e : ℕ) → e < c → kind_in (P e) ≡ and_join → missing e < entry_count (P e)
        pick_right e l is = waiting e l (some_entries t v p there e l (ap (λ y. (kind_of y).entries) is ∙ join_many)) (λ y. omega (arith, y, is))

        nothing : is_finished (instance_at s p i) ≡ false → ⊥
        unfolding mass
        nothing unfinished =
            let x = exact_chosen P c (sound t v p there) nest missing pick_right in
            let one-weight = weighs_one t v p there nest z right i made steady x.0 x.1 x.2 x.3 unfinished in
            let no-weight : weight x.0 x.1 h ≡ 0 = sum-zero (λ k. weigh (weight_at x.0 x.1 k) (at h k)) (defined_place 0) (light x.0 x.1 x.4) in
            omega (arith, one-weight, no-weight)
          where
            at_entry : (w d : ℕ → ℕ) → ((j : ℕ) → j < c → kind_in (P j) ≡ and_join → (i : ℕ) → i < entry_count (P j) → (i ≡ missing j → ⊥) → w (entry_at (P j) i) ≡ 0)
                → (k e j : ℕ) → (at h k ≡ 0 → ⊥) → e < c → j < entry_count (P e) → k ≡ token_place (entry_at (P e) j) → weight_at w d k ≡ 0
            at_entry w d avoids k e j n l r q =
                let u = entry_within (P e) (element_fits_lem t (valid_fits t v) p there e l) j r in
                let here : has e j ≡ true = lt-ltb 0 (tokens h (entry_at (P e) j)) (let y : at h k ≡ tokens h (entry_at (P e) j) = ap (at h) q in by_test (eqb (at h k) 0) (λ d. absurd (n (eqb-true _ 0 d))) (λ d. let f = eqb-false (at h k) 0 d in omega (arith, f, y))) in
                let o = waits_there e j l r here in
                ap (weight_at w d) q ∙ weight_token w d (entry_at (P e) j) u.0 u.1 ∙ avoids e l o.0 j r o.1

            by-use : (w d : ℕ → ℕ) → ((j : ℕ) → j < c → kind_in (P j) ≡ and_join → (i : ℕ) → i < entry_count (P j) → (i ≡ missing j → ⊥) → w (entry_at (P j) i) ≡ 0)
                → (k e : ℕ) → k < defined_place 0 → (at h k ≡ 0 → ⊥) → e < c → Uses (P e) k → weight_at w d k ≡ 0
            by-use w d avoids k e b n l (entry j r q) = at_entry w d avoids k e j n l r q
            by-use w d avoids k e b n l (exit j r q) = let o = exit_enters t v p there e j l r in at_entry w d avoids k o.0 o.1 n o.2 o.3 (q ∙ ap (λ y. token_place y) (sym o.4))
            by-use w d avoids k e b n l (active x q) = absurd (n (quiet k (omega (arith, q)) b))
            by-use w d avoids k e b n l (ready x y q) = absurd (n (quiet k (omega (arith, q)) b))

            light : (w d : ℕ → ℕ) → ((j : ℕ) → j < c → kind_in (P j) ≡ and_join → (i : ℕ) → i < entry_count (P j) → (i ≡ missing j → ⊥) → w (entry_at (P j) i) ≡ 0)
                → (k : ℕ) → k < defined_place 0 → weigh (weight_at w d k) (at h k) ≡ 0
            light w d avoids k l =
                by_test (eqb (at h k) 0)
                (λ y. ap (weigh (weight_at w d k)) (eqb-true _ 0 y) ∙ weigh-zero (weight_at w d k))
                (λ y. let n = eqb-false (at h k) 0 y in let u = used_by t v p there nest z right i made k l n in weigh_nothing (weight_at w d k) (at h k) (by-use w d avoids k u.0 l n u.1 u.2))

      going : is_finished (instance_at s p i) ≡ false → Able
      going unfinished =
          let x = sought able c in
          by_test (ltb (seek able c) c)
          (λ d. let l = ltb-true _ c d in by_able (seek able c) l (x.1 l))
          (λ d. let l = ltb-false (seek able c) c d in absurd (nothing (λ e r. x.2 e (omega (arith, l, r))) unfinished))

    -- AND SO IT GOES ON
    abbrev begun : ℕ → Bool
    begun k = not (eqb (at h (edges + k)) 0)

    pub some_able : is_finished (instance_at s p i) ≡ false → Able
    some_able unfinished =
        let x = sought begun (tasks + tasks) in
        let k : ℕ = seek begun (tasks + tasks) in
        by_test (ltb k (tasks + tasks))
        (λ d.
        let l = ltb-true k (tasks + tasks) d in
        let n = eqb-false (at h (edges + k)) 0 (not-true _ (x.1 l)) in
        let u = used_by t v p there nest z right i made (edges + k) (omega (arith, l)) n in
        counting (edges + k) u.0 (omega arith) (omega (arith, l)) n u.1 u.2)
        (λ d.
        let l = ltb-false k (tasks + tasks) d in
        going (λ j a b. let y : edges + (j - edges) ≡ j = omega (arith, a) in eqb-true _ 0 (ap (λ j. eqb (at h j) 0) (sym y) ∙ not-false _ (x.2 (j - edges) (omega (arith, l, a, b))))) unfinished)
