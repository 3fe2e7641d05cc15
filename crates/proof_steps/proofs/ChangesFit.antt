-- Every change that a move makes keeps an instance fit: u is the places it may use, h its words, el an element whose places u has. Assumes nothing.
use Prim.Native.Nat.{ℕ, ◌+◌, ◌-◌, ◌≤◌, ◌<◌}
use mathlib.Core.Path.{◌≡◌, refl, sym, ◌∙◌, ap, subst}
use mathlib.Core.Bool.{Bool, true, false}
use mathlib.Core.List.{List}
use native.Mathlib.Omega.{arith}
use lib.Dec.{eqb, leb, ltb}
use lib.ListN.{set, drop}
use lib.Seq.{set-get_or}
use borrow.Author.Tests.{eqb-true, eqb-false, ltb-true, leb-false}
use Rattle.std.specs.Prelude.{None, Some}
use Rattle.base_words.specs.Pick.{if◌then◌or_else◌}
use Rattle.base_words.specs.Words.{at}
use Rattle.base_words.specs.Counts.{values, assignments, count_most, fields_named}
use Rattle.base_words.proofs.IterLaws.{iter_keeps}
use Rattle.base_kinds.specs.declared.moves.Move.{Move}
use Rattle.base_kinds.specs.Moves.{every, branch, up, down}
use Rattle.base_table.specs.Places.{assigned_in, left_place, operand_number}
use Rattle.base_table.specs.Table.{task_in, entry_count, exit_count, entry_at, exit_at, item_at, assignment_count, assignment_at}
use Rattle.base_state.specs.Places.{token_place, active_place, ready_place, defined_place}
use Rattle.base_state.specs.Instances.{with_field}
use Rattle.meaning.specs.Values.{Value}
use Rattle.meaning.specs.declared.Tuple.{Tuple}
use Rattle.meaning.specs.Tuples.{value_of}
use Rattle.meaning.specs.Expressions.{expression_of}
use Rattle.meaning.specs.Templates.{binds, bind_one, bound}
use Rattle.meaning.specs.Assignments.{Assigned, assigned_value, assign_one, assigned}
use Rattle.meaning.specs.Requirements.{touched, first_touched}
use Rattle.meaning.specs.Changes.{take_one, taken, more, count_changed, active_changed, ready_changed, put_one, puts}
use Rattle.proof_steps.proofs.Choices.{by_test, by_choice}
use Rattle.proof_steps.proofs.InstanceFits.{Fit, count_most_lem, fit_set, fit_field}

-- NUMBERS: the edges that a cell means are among the n there are; a count stays at most 255
pub touched_within : (cell b n j : ℕ) → (cell ≡ branch → b < n) → j < touched cell n → first_touched cell b + j < n
unfolding touched first_touched if◌then◌or_else◌
touched_within cell b n j few l = go (eqb cell every) refl (eqb cell branch) refl l
  where
    go : (c : Bool) → eqb cell every ≡ c → (d : Bool) → eqb cell branch ≡ d → j < (if c then n or_else if d then 1 or_else 0) → (if d then b or_else 0) + j < n
    go true e true f l = let y = eqb-true cell every e in let z = eqb-true cell branch f in absurd (omega arith)
    go true e false f l = omega arith
    go false e true f l = let z = few (eqb-true cell branch f) in omega arith
    go false e false f l = absurd (omega arith)

pub more_most : (n : ℕ) → n ≤ count_most → more n ≤ count_most
unfolding more
more_most n h = by_choice (λ k. k ≤ count_most) (ltb n count_most) (n + 1) n (λ e. let l = ltb-true n count_most e in omega arith) (λ e. h)

counted_most : (cell n : ℕ) → n ≤ count_most → count_changed cell n ≤ count_most
unfolding count_changed
counted_most cell n h =
    by_choice (λ k. k ≤ count_most) (eqb cell up) (more n) _ (λ e. more_most n h)
    (λ e. by_choice (λ k. k ≤ count_most) (eqb cell down) (n - 1) n (λ f. omega arith) (λ f. h))

counted_none : (n : ℕ) → count_changed 0 n ≡ n
unfolding count_changed if◌then◌or_else◌
counted_none n = refl

module _ (u el : List ℕ) where
  -- FIELDS: binds, then assignments
  module _ (b : ℕ) (g : Tuple) (right : (j : ℕ) → binds el b j ≡ true → at (item_at el b j) (left_place + operand_number) < fields_named) where
    fit_bind : (j : ℕ) (h : List ℕ) → Fit u h → Fit u (bind_one el b g j h)
    unfolding bind_one
    fit_bind j h f =
        by_choice (Fit u) (binds el b j) (with_field h (at (item_at el b j) (left_place + operand_number)) (value_of g j)) h
        (λ e. fit_field u h (at (item_at el b j) (left_place + operand_number)) (value_of g j) (right j e) f)
        (λ e. f)

    pub fit_bound : (h : List ℕ) → Fit u h → Fit u (bound el b g h)
    unfolding bound
    fit_bound h f = iter_keeps (bind_one el b g) h (Fit u) values (λ k y l r. fit_bind k y r) f

  module _ (right : (j : ℕ) → j < assignment_count el → at (assignment_at el j) 0 < fields_named) where
    fit_value : (h : List ℕ) (d : ℕ) (v : Value) → d < fields_named → Fit u h → Fit u (assigned_value h d v).instance
    unfolding assigned_value
    fit_value h d (Some v) l f = fit_field u h d v l f
    fit_value h d None l f = f

    fit_assign : (j : ℕ) (y : Assigned) → Fit u y.instance → Fit u (assign_one el j y).instance
    unfolding assign_one
    fit_assign j y f =
        by_choice (λ (z : Assigned). Fit u z.instance) (leb (assignment_count el) j) y _ (λ e. f)
        (λ e.
        by_choice (λ (z : Assigned). Fit u z.instance) y.defined (assigned_value y.instance (at (assignment_at el j) 0) (expression_of (drop assigned_in (assignment_at el j)) y.instance)) y
        (λ c. fit_value y.instance (at (assignment_at el j) 0) (expression_of (drop assigned_in (assignment_at el j)) y.instance) (right j (leb-false (assignment_count el) j e)) f)
        (λ c. f))

    pub fit_assigned : (h : List ℕ) → Fit u h → Fit u (assigned el h).instance
    unfolding assigned
    fit_assigned h f = iter_keeps (assign_one el) (record { defined = true; instance = h }) (λ (z : Assigned). Fit u z.instance) assignments (λ k y l r. fit_assign k y r) f

  -- TOKENS: taken from entries, put on exits
  fit_take : (c j : ℕ) (h : List ℕ) → token_place (entry_at el (c + j)) < defined_place 0 → at u (token_place (entry_at el (c + j))) ≡ 1 → Fit u h → Fit u (take_one el c j h)
  unfolding take_one
  fit_take c j h l e f =
      let k : ℕ = token_place (entry_at el (c + j)) in
      let z : at h k ≤ count_most = count_most_lem u h k (f.counts k l) in
      fit_set u h k (at h k - 1) l e (omega arith) f

  fit_put : (c j : ℕ) (h : List ℕ) → token_place (exit_at el (c + j)) < defined_place 0 → at u (token_place (exit_at el (c + j))) ≡ 1 → Fit u h → Fit u (put_one el c j h)
  unfolding put_one
  fit_put c j h l e f =
      let k : ℕ = token_place (exit_at el (c + j)) in
      fit_set u h k (more (at h k)) l e (more_most (at h k) (count_most_lem u h k (f.counts k l))) f

  module _ (m : Move) (b : ℕ) where
    pub fit_taken : ((j : ℕ) → j < entry_count el → (token_place (entry_at el j) < defined_place 0) × (at u (token_place (entry_at el j)) ≡ 1))
        → (m.takes ≡ branch → b < entry_count el) → (h : List ℕ) → Fit u h → Fit u (taken el m b h)
    unfolding taken
    fit_taken right few h f =
        iter_keeps (take_one el (first_touched m.takes b)) h (Fit u) (touched m.takes (entry_count el))
        (λ j y l r. let p = right (first_touched m.takes b + j) (touched_within m.takes b (entry_count el) j few l) in fit_take (first_touched m.takes b) j y p.0 p.1 r)
        f

    pub fit_puts : ((j : ℕ) → j < exit_count el → (token_place (exit_at el j) < defined_place 0) × (at u (token_place (exit_at el j)) ≡ 1))
        → (m.puts ≡ branch → b < exit_count el) → (h : List ℕ) → Fit u h → Fit u (puts el m b h)
    unfolding puts
    fit_puts right few h f =
        iter_keeps (put_one el (first_touched m.puts b)) h (Fit u) (touched m.puts (exit_count el))
        (λ j y l r. let p = right (first_touched m.puts b + j) (touched_within m.puts b (exit_count el) j few l) in fit_put (first_touched m.puts b) j y p.0 p.1 r)
        f

    -- COUNTS: a cell that holds nothing leaves the word as it is
    fit_count : (cell k : ℕ) (h : List ℕ) → k < defined_place 0 → ((cell ≡ 0 → ⊥) → at u k ≡ 1) → Fit u h → Fit u (set h k (count_changed cell (at h k)))
    fit_count cell k h l right f =
        by_test (eqb cell 0)
        (λ e. let z : count_changed cell (at h k) ≡ at h k = ap (λ c. count_changed c (at h k)) (eqb-true cell 0 e) ∙ counted_none (at h k) in
        subst (Fit u) (sym (ap (set h k) z ∙ set-get_or h k 0)) f)
        (λ e. fit_set u h k (count_changed cell (at h k)) l (right (eqb-false cell 0 e)) (counted_most cell (at h k) (count_most_lem u h k (f.counts k l))) f)

    pub fit_active : active_place (task_in el) < defined_place 0 → ((m.active ≡ 0 → ⊥) → at u (active_place (task_in el)) ≡ 1) → (h : List ℕ) → Fit u h → Fit u (active_changed el m h)
    unfolding active_changed
    fit_active l right h f = fit_count m.active (active_place (task_in el)) h l right f

    pub fit_ready : ready_place (task_in el) < defined_place 0 → ((m.ready ≡ 0 → ⊥) → at u (ready_place (task_in el)) ≡ 1) → (h : List ℕ) → Fit u h → Fit u (ready_changed el m h)
    unfolding ready_changed
    fit_ready l right h f = fit_count m.ready (ready_place (task_in el)) h l right f
