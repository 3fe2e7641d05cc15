-- WHAT AN ELEMENT ASKS AND DOES does not see the version: of the words h of an instance it comes to the same under another version, and it leaves that version as it is. Only a task that is to
-- be alone looks at it. Assumes nothing.
use Prim.Native.Nat.{ℕ, ◌+◌, ◌-◌, ◌<◌}
use mathlib.Core.Path.{◌≡◌, refl, sym, ◌∙◌, ap, ap₂, subst}
use mathlib.Core.Bool.{Bool, true, ◌&&◌}
use mathlib.Core.List.{List}
use mathlib.Core.Logic.{⊎_elim}
use native.Mathlib.Omega.{arith}
use lib.Dec.{eqb, leb, ltb}
use lib.ListN.{length, set, drop}
use lib.Seq.{get_or-set_same, get_or-set_other, set_comm}
use borrow.Author.Tests.{eqb-true, ltb-true, lt-ltb, leb-false}
use Rattle.std.specs.Prelude.{None, Some}
use Rattle.std.proofs.lemmas.Bool.{or_left, or_cases}
use Rattle.base_words.specs.Words.{at}
use Rattle.base_words.specs.Counts.{fields_named, values, assignments, count_most}
use Rattle.base_words.proofs.AllLaws.{and_left, and_right}
use Rattle.base_words.proofs.PickLaws.{and_true}
use Rattle.base_kinds.specs.declared.moves.Move.{Move}
use Rattle.base_kinds.specs.Kinds.{kind_of, used}
use Rattle.base_kinds.specs.Moves.{on, clearing, na_nc}
use Rattle.base_table.specs.Places.{exits_place, form_place, left_place, operand_number, binding, assigned_in}
use Rattle.base_table.specs.Table.{kind_in, task_in, mode_in, entry_count, exit_count, entry_at, exit_at, condition_at, message_length, item_at, assignment_count, assignment_at}
use Rattle.base_state.specs.Places.{token_place, active_place, ready_place, defined_place, value_place, copy_words, version_place}
use Rattle.base_state.specs.Instances.{active_count, ready_count, version_seen, with_field}
use Rattle.base_state.specs.Versions.{former}
use Rattle.check_limits.specs.Limits.{expression_fits, condition_fits, element_fits}
use Rattle.meaning.specs.declared.Tuple.{Tuple}
use Rattle.meaning.specs.Tuples.{value_of}
use Rattle.meaning.specs.Values.{Value, is_true, is_false}
use Rattle.meaning.specs.Expressions.{field_of, expression_of}
use Rattle.meaning.specs.Conditions.{condition_of, default_at, left_out, other_false, holds}
use Rattle.meaning.specs.Templates.{binds, item_value, gathered, evaluated, bind_one, bound}
use Rattle.meaning.specs.Assignments.{Assigned, assigned_value, assign_one, assigned}
use Rattle.meaning.specs.Requirements.{touched, first_touched, has_token, has_tokens, can_lower, waits, is_alone, counts_permit, granted, edge_has_room, has_rooms, can_raise, roomy}
use Rattle.meaning.specs.Changes.{take_one, taken, more, count_changed, active_changed, ready_changed, put_one, puts, cleared, moved}
use Rattle.proof_steps.proofs.Choices.{by_choice, chosen_true}
use Rattle.proof_steps.proofs.ChangesFit.{touched_within}
use Rattle.proof_steps.proofs.Elements.{task_few, entry_within, exit_within, assigned_field, bound_field}
use Rattle.paper.specs.Evaluation.{worth, truth}
use Rattle.proof_paper.specs.Decoders.{exp_at, cond_at, local_of}
use Rattle.proof_paper.proofs.Stores.{same_if}
use Rattle.proof_paper.proofs.Values.{worth_is, truth_is}
use Rattle.proof_paper.proofs.Words.{assignment_fits_lem, condition_fits_lem, item_expression}
use Rattle.proof_paper.proofs.Process.{Site}
use Rattle.proof_versions.proofs.Laws.{choice_along, choice_same, iter_along, all_same, writes_apart}

-- the words that a step sees, with version v
abbrev pub seen : ℕ → List ℕ → List ℕ
seen v h = set h version_place v

abbrev pub seen_after : ℕ → Assigned → Assigned
seen_after v a = record { defined = a.defined; instance = seen v a.instance }

module _ (v : ℕ) where
  -- A WORD before the version
  pub at_same : (h : List ℕ) (k : ℕ) → k < version_place → at (seen v h) k ≡ at h k
  at_same h k l = get_or-set_other h version_place k v 0 (λ e. omega arith)

  set_along : (h : List ℕ) (k w : ℕ) → k < version_place → set (seen v h) k w ≡ seen v (set h k w)
  set_along h k w l = set_comm h version_place k v w (λ e. omega arith)

  -- one that is changed by what it was
  word_along : (f : ℕ → ℕ) (h : List ℕ) (k : ℕ) → k < version_place → set (seen v h) k (f (at (seen v h) k)) ≡ seen v (set h k (f (at h k)))
  word_along f h k l = ap (λ w. set (seen v h) k (f w)) (at_same h k l) ∙ set_along h k (f (at h k)) l

  -- FIELDS
  fields_same : (h : List ℕ) → (local_of (seen v h)).σd ≡ (local_of h).σd
  unfolding field_of
  fields_same h = λ i d. same_if (ltb d fields_named) None (field_of (seen v h) d) (field_of h d) (λ w.
      let l = ltb-true d fields_named w in
      let a : at (seen v h) (defined_place d) ≡ at h (defined_place d) = at_same h (defined_place d) (omega arith) in
      let b : at (seen v h) (value_place d) ≡ at h (value_place d) = at_same h (value_place d) (omega arith) in
      rw (a, b)) i

  expression_same : (x h : List ℕ) → expression_fits x ≡ true → expression_of x (seen v h) ≡ expression_of x h
  expression_same x h f = sym (worth_is (seen v h) x f) ∙ ap (λ σ. worth σ (exp_at x)) (fields_same h) ∙ worth_is h x f

  condition_same : (column : ℕ) (x h : List ℕ) → condition_fits column x ≡ true → condition_of x (seen v h) ≡ condition_of x h
  condition_same column x h f = sym (truth_is (seen v h) column x f) ∙ ap (λ σ. truth σ (cond_at x)) (fields_same h) ∙ truth_is h column x f

  field_along : (h : List ℕ) (d w : ℕ) → d < fields_named → with_field (seen v h) d w ≡ seen v (with_field h d w)
  field_along h d w l = ap (λ y. set y (value_place d) w) (set_along h (defined_place d) 1 (omega arith)) ∙ set_along (set h (defined_place d) 1) (value_place d) w (omega arith)

  module _ (el : List ℕ) (fits : element_fits el ≡ true) where
    -- ASSIGNMENTS
    value_along : (h : List ℕ) (d : ℕ) (w : Value) → d < fields_named → assigned_value (seen v h) d w ≡ seen_after v (assigned_value h d w)
    unfolding assigned_value
    value_along h d (Some x) l = λ i. record { defined = true; instance = field_along h d x l i }
    value_along h d None l = refl

    assign_along : (j : ℕ) (a : Assigned) → assign_one el j (seen_after v a) ≡ seen_after v (assign_one el j a)
    unfolding assign_one
    assign_along j a =
        let x : List ℕ = drop assigned_in (assignment_at el j) in
        let d : ℕ = at (assignment_at el j) 0 in
        choice_along (seen_after v) (leb (assignment_count el) j) a _ (seen_after v a) _ (λ e. refl)
        (λ e.
        let l = leb-false (assignment_count el) j e in
        choice_along (seen_after v) a.defined (assigned_value a.instance d (expression_of x a.instance)) a (assigned_value (seen v a.instance) d (expression_of x (seen v a.instance))) (seen_after v a)
        (λ c. ap (assigned_value (seen v a.instance) d) (expression_same x a.instance (assignment_fits_lem el fits j l)) ∙ value_along a.instance d (expression_of x a.instance) (assigned_field el fits j l))
        (λ c. refl))

    pub assigned_along : (h : List ℕ) → assigned el (seen v h) ≡ seen_after v (assigned el h)
    unfolding assigned
    assigned_along h = iter_along (seen_after v) (assign_one el) assignments (λ j l. assign_along j) (record { defined = true; instance = h })

    -- MESSAGES
    module _ (b : ℕ) (there : b < used ((kind_of (kind_in el)).receives + (kind_of (kind_in el)).sends) (at el exits_place)) (g : Tuple) where
      item_same : (h : List ℕ) (j : ℕ) → item_value el b (seen v h) g j ≡ item_value el b h g j
      unfolding item_value binds
      item_same h j =
          choice_same (leb (message_length el b) j) _ _ _ _ (λ e. refl)
          (λ e.
          let l = leb-false (message_length el b) j e in
          choice_same (binds el b j) _ _ _ _ (λ c. refl)
          (λ c. expression_same (item_at el b j) h (item_expression el fits b there j l (ap (λ y. y && eqb (at (item_at el b j) form_place) binding) (sym (lt-ltb j (message_length el b) l)) ∙ c))))

      pub evaluated_same : (h : List ℕ) → evaluated el b (seen v h) g ≡ evaluated el b h g
      unfolding evaluated
      evaluated_same h = λ i. gathered (message_length el b) (item_same h 0 i) (item_same h 1 i) (item_same h 2 i) (item_same h 3 i)

      bind_along : (j : ℕ) (h : List ℕ) → bind_one el b g j (seen v h) ≡ seen v (bind_one el b g j h)
      unfolding bind_one binds
      bind_along j h =
          let inside : Bool = ltb j (message_length el b) in
          let bind : Bool = eqb (at (item_at el b j) form_place) binding in
          let d : ℕ = at (item_at el b j) (left_place + operand_number) in
          choice_along (seen v) (binds el b j) (with_field h d (value_of g j)) h (with_field (seen v h) d (value_of g j)) (seen v h)
          (λ e. field_along h d (value_of g j) (bound_field el fits b there j (ltb-true j (message_length el b) (and_left inside bind e)) (eqb-true _ binding (and_right inside bind e))))
          (λ e. refl)

      pub bound_along : (h : List ℕ) → bound el b g (seen v h) ≡ seen v (bound el b g h)
      unfolding bound
      bound_along h = iter_along (seen v) (bind_one el b g) values (λ j l. bind_along j) h

  -- TOKENS AND COUNTS, of a step by the row m
  module _ (el : List ℕ) (m : Move) (b : ℕ) (site : Site el m b) where
    abbrev entry : ℕ → ℕ
    entry j = token_place (entry_at el (first_touched m.takes b + j))

    abbrev exit : ℕ → ℕ
    exit j = token_place (exit_at el (first_touched m.puts b + j))

    entry_before : (j : ℕ) → j < touched m.takes (entry_count el) → entry j < version_place
    entry_before j l = omega (arith, (entry_within el site.fits (first_touched m.takes b + j) (touched_within m.takes b (entry_count el) j site.entry_few l)).1)

    exit_before : (j : ℕ) → j < touched m.puts (exit_count el) → exit j < version_place
    exit_before j l = omega (arith, (exit_within el site.fits (first_touched m.puts b + j) (touched_within m.puts b (exit_count el) j site.exit_few l)).1)

    active_before : active_place (task_in el) < version_place
    active_before = omega (arith, task_few el site.fits)

    ready_before : ready_place (task_in el) < version_place
    ready_before = omega (arith, task_few el site.fits)

    module _ (h : List ℕ) where
      active_same : active_count (seen v h) (task_in el) ≡ active_count h (task_in el)
      active_same = at_same h (active_place (task_in el)) active_before

      ready_same : ready_count (seen v h) (task_in el) ≡ ready_count h (task_in el)
      ready_same = at_same h (ready_place (task_in el)) ready_before

      -- 12
      tokens_same : has_tokens el (seen v h) m b ≡ has_tokens el h m b
      unfolding has_tokens has_token
      tokens_same = all_same _ _ (touched m.takes (entry_count el)) (λ j l. ap (ltb 0) (at_same h (entry j) (entry_before j l)))

      -- what waits under a version that is not the former waits under every one
      module _ (long : length h ≡ copy_words) (later : v ≡ former → ⊥) where
        waits_back : waits el (seen v h) ≡ true → waits el h ≡ true
        unfolding waits
        waits_back e =
            let is : version_seen (seen v h) ≡ v = get_or-set_same h version_place v 0 (omega (arith, long)) in
            ⊎_elim (λ y. or_left (eqb (mode_in el) na_nc) (eqb (version_seen h) former) y) (λ y. absurd (later (sym is ∙ eqb-true (version_seen (seen v h)) former y)))
            (or_cases (eqb (mode_in el) na_nc) (eqb (version_seen (seen v h)) former) e)

        alone_along : is_alone el h m ≡ true → is_alone el (seen v h) m ≡ true
        unfolding is_alone
        alone_along p =
            by_choice (λ y. y ≡ true) (eqb m.alone on) _ true
            (λ e.
            by_choice (λ y. y ≡ true) (waits el (seen v h)) _ true
            (λ w. ap₂ (λ x y. eqb x 0 && eqb y 0) active_same ready_same ∙ chosen_true (waits el h) _ true (chosen_true (eqb m.alone on) _ true p e) (waits_back w))
            (λ w. refl))
            (λ e. refl)

        pub permits_along : counts_permit el h m b ≡ true → counts_permit el (seen v h) m b ≡ true
        unfolding counts_permit
        permits_along p =
            let three : Bool = has_tokens el h m b && can_lower m.active (active_count h (task_in el)) && can_lower m.ready (ready_count h (task_in el)) in
            and_true (has_tokens el (seen v h) m b && can_lower m.active (active_count (seen v h) (task_in el)) && can_lower m.ready (ready_count (seen v h) (task_in el))) (is_alone el (seen v h) m)
            ((λ i. tokens_same i && can_lower m.active (active_same i) && can_lower m.ready (ready_same i)) ∙ and_left three (is_alone el h m) p)
            (alone_along (and_right three (is_alone el h m) p))

      -- 13
      module _ (ask : eqb m.asks on ≡ true) where
        truth_same : (j : ℕ) → j < exit_count el → condition_of (condition_at el j) (seen v h) ≡ condition_of (condition_at el j) h
        truth_same j l =
            condition_same (kind_of (kind_in el)).conditions (condition_at el j) h (condition_fits_lem el site.fits j (subst (λ k. j < k) (sym (site.asks_all ask)) l))

        other_same : (j : ℕ) → j < exit_count el → other_false el (seen v h) b j ≡ other_false el h b j
        unfolding other_false
        other_same j l = choice_same (left_out el b j) _ _ _ _ (λ e. refl) (λ e. ap is_false (truth_same j l))

        holds_same : holds el (seen v h) b ≡ holds el h b
        unfolding holds
        holds_same =
            let few = site.asks_few ask in
            choice_same (default_at el b) _ _ _ _ (λ e. all_same _ _ (exit_count el) other_same)
            (λ e. ap₂ ◌&&◌ (ap is_true (truth_same b few)) (all_same _ _ b (λ j l. other_same j (omega (arith, l, few)))))

      pub granted_same : granted el (seen v h) m b ≡ granted el h m b
      unfolding granted
      granted_same = choice_same (eqb m.asks on) _ _ _ _ holds_same (λ e. refl)

      -- 18
      rooms_same : has_rooms el (seen v h) m b ≡ has_rooms el h m b
      unfolding has_rooms edge_has_room
      rooms_same = all_same _ _ (touched m.puts (exit_count el)) (λ j l. ap (λ n. ltb n count_most) (at_same h (exit j) (exit_before j l)))

      pub roomy_same : roomy el (seen v h) m b ≡ roomy el h m b
      unfolding roomy
      roomy_same = λ i. rooms_same i && can_raise m.active (active_same i) && can_raise m.ready (ready_same i)

      -- WHAT IT DOES
      pub taken_along : taken el m b (seen v h) ≡ seen v (taken el m b h)
      unfolding taken take_one
      taken_along = iter_along (seen v) (take_one el (first_touched m.takes b)) (touched m.takes (entry_count el)) (λ j l y. word_along (λ n. n - 1) y (entry j) (entry_before j l)) h

    puts_along : (h : List ℕ) → puts el m b (seen v h) ≡ seen v (puts el m b h)
    unfolding puts put_one
    puts_along h = iter_along (seen v) (put_one el (first_touched m.puts b)) (touched m.puts (exit_count el)) (λ j l y. word_along more y (exit j) (exit_before j l)) h

    active_along : (h : List ℕ) → active_changed el m (seen v h) ≡ seen v (active_changed el m h)
    unfolding active_changed
    active_along h = word_along (count_changed m.active) h (active_place (task_in el)) active_before

    ready_along : (h : List ℕ) → ready_changed el m (seen v h) ≡ seen v (ready_changed el m h)
    unfolding ready_changed
    ready_along h = word_along (count_changed m.ready) h (ready_place (task_in el)) ready_before

    cleared_along : (h : List ℕ) → cleared (seen v h) ≡ seen v (cleared h)
    unfolding cleared
    cleared_along h = writes_apart (λ k. 0) h 0 (defined_place 0) version_place v (omega arith)

    pub moved_along : (h : List ℕ) → moved el m b (seen v h) ≡ seen v (moved el m b h)
    unfolding moved
    moved_along h =
        choice_along (seen v) (eqb m.also clearing) (cleared h) (puts el m b (ready_changed el m (active_changed el m h))) _ _ (λ e. cleared_along h)
        (λ e. ap (λ y. puts el m b (ready_changed el m y)) (active_along h) ∙ ap (puts el m b) (ready_along (active_changed el m h)) ∙ puts_along (ready_changed el m (active_changed el m h)))
