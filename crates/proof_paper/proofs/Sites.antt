-- A STEP THAT FOUND ITS PLACE, at the words of its element and instance: what its row then has, and what it comes to in the fields, by the paper's eval,
-- match and upd. Assumes nothing.
use Prim.Native.Nat.{ℕ, ◌+◌, ◌<◌, ◌≤◌}
use mathlib.Core.Path.{◌≡◌, refl, sym, ◌∙◌, ap, subst}
use mathlib.Core.Bool.{Bool, true, false, not, ◌||◌}
use mathlib.Core.List.{List, ◌++◌}
use mathlib.Core.Logic.{◌⊎◌, ⊎_elim}
use native.Mathlib.Omega.{arith}
use lib.Dec.{eqb}
use lib.ListN.{length, replicate, length-replicate}
use borrow.Author.Tests.{eqb-true, ne_eqb, not-true}
use Rattle.base_words.specs.Each.{each}
use Rattle.base_words.specs.Pick.{if◌then◌or_else◌}
use Rattle.base_words.specs.Words.{at}
use Rattle.base_words.specs.Counts.{fields, values, fields_named}
use Rattle.base_words.proofs.ListLaws.{each_at}
use Rattle.base_kinds.specs.declared.moves.Move.{Move}
use Rattle.base_kinds.specs.declared.Kind.{Kind}
use Rattle.base_kinds.specs.Kinds.{one, kind_of, used}
use Rattle.base_kinds.specs.Moves.{branch, on, making, moves, no_move, rule_of, move_of}
use Rattle.base_table.specs.Places.{exits_place, form_place, left_place, operand_number, binding}
use Rattle.base_table.specs.Table.{kind_in, task_in, mode_in, exit_count, message_length, item_at}
use Rattle.base_state.specs.Places.{instance_words, copy_words, version_in}
use Rattle.base_state.specs.Instances.{version_of, version_seen}
use Rattle.check_limits.specs.Limits.{element_fits}
use Rattle.meaning.specs.Values.{Value}
use Rattle.meaning.specs.declared.Tuple.{Tuple}
use Rattle.meaning.specs.declared.Name.{Name}
use Rattle.meaning.specs.Tuples.{empty, same_tuple}
use Rattle.meaning.specs.Templates.{evaluated, gathered, bound}
use Rattle.meaning.specs.Assignments.{Assigned, assigned}
use Rattle.meaning.specs.Requirements.{branch_count}
use Rattle.meaning.specs.Changes.{worked}
use Rattle.meaning.specs.Step.{Site, site_of, before, instance_of, shared_of, pool_named, element_named, move_named, receives, sends, defined}
use Rattle.engine.specs.Engine.{valid}
use Rattle.proof_steps.proofs.Choices.{by_test, by_choice, chosen, passed, chosen_true, passed_true}
use Rattle.proof_steps.proofs.Rows.{row_kind, row_one_way}
use Rattle.proof_steps.proofs.Elements.{bound_field, assigned_field}
use Rattle.proof_steps.proofs.Seen.{seen_long, seen_shared}
use Rattle.proof_steps.proofs.Found.{Found, element_named_lem, message_there, length_few}
use Rattle.proof_steps.proofs.InstanceAfter.{branch_entry, branch_exit}
use Rattle.proof_valid.proofs.ChecksHold.{valid_fits}
use Rattle.proof_valid.proofs.ExitsOnce.{exits_apart}
use Rattle.paper.specs.Syntax.{Evaluated, Assignments, ε}
use Rattle.paper.specs.Evaluation.{Evals, Templates, Matches, Updates}
use Rattle.proof_paper.specs.Decoders.{chain, template_of, message_of, assignments_of, values_of, local_of}
use Rattle.proof_paper.proofs.Fields.{FieldsOnly, fields_start, none_only, binding_of, bound-fields, bound_updates, bound_only, match_sound, match_complete, message_sound, message_complete, assigned-fields, assigned_sound, assigned_complete}
use Rattle.proof_paper.proofs.Rows.{Parts, assigning}
use Rattle.proof_paper.proofs.Words.{task_there, assignments_few, assignment_fits_lem, item_expression, item_plain}
use Rattle.proof_paper.proofs.EachKind.{parts_at}
use Rattle.proof_paper.proofs.Process as Process
use Rattle.proof_paper.proofs.Pools.{instance_long}

module _ (t s : List ℕ) (v : valid t ≡ true) (n : Name) (f : Found t s n) where
  abbrev el : List ℕ
  el = element_named t n

  abbrev m : Move
  m = move_named t n

  abbrev b : ℕ
  b = n.branch

  abbrev x : Site
  x = site_of t s n

  abbrev g : Tuple
  g = n.given

  abbrev h : List ℕ
  h = before (move_named t n) (instance_of s (pool_named t n) n.instance) (shared_of s)

  abbrev kind : Kind
  kind = kind_of (kind_in el)

  abbrev P : Parts
  P = parts_at (version_of s) el m b

  pub fits : element_fits el ≡ true
  fits = element_named_lem t s n (valid_fits t v) f

  pub h_long : length h ≡ copy_words
  unfolding before
  h_long =
      by_choice (λ (y : List ℕ). length (y ++ shared_of s) ≡ copy_words) (eqb (move_named t n).also making) (replicate instance_words 0) (instance_of s (pool_named t n) n.instance)
      (λ e. seen_long s (replicate instance_words 0) (length-replicate {A = ℕ} instance_words 0))
      (λ e. seen_long s (instance_of s (pool_named t n) n.instance) (instance_long s (pool_named t n) n.instance))

  -- the version that the step sees is the state's
  pub version_is : version_seen h ≡ version_of s
  unfolding before
  version_is =
      by_choice (λ (y : List ℕ). version_seen (y ++ shared_of s) ≡ version_of s) (eqb (move_named t n).also making) (replicate instance_words 0) (instance_of s (pool_named t n) n.instance)
      (λ e. seen_shared s (replicate instance_words 0) (length-replicate {A = ℕ} instance_words 0) version_in (omega arith))
      (λ e. seen_shared s (instance_of s (pool_named t n) n.instance) (instance_long s (pool_named t n) n.instance) version_in (omega arith))

  -- what every row has
  every_row : (test : Move → Bool) → each test moves ≡ true → test no_move ≡ true → test m ≡ true
  unfolding move_named move_of
  every_row test e o = each_at test moves no_move e o (rule_of (kind_in el) (mode_in el) n.phase)

  kind_is : m.kind ≡ kind_in el
  unfolding move_named
  kind_is = row_kind (kind_in el) (mode_in el) n.phase f.move

  of_kind_lem : (column : Kind → ℕ) (k : ℕ) → column (kind_of m.kind) ≡ k → column kind ≡ k
  of_kind_lem column k e = ap (λ y. column (kind_of y)) (sym kind_is) ∙ e

  tasked : (m.active ≡ 0 → ⊥) ⊎ (m.ready ≡ 0 → ⊥) → 1 ≤ task_in el
  unfolding each if◌then◌or_else◌ kind_of
  tasked d =
      let a = every_row (λ r. if eqb r.active 0 then true or_else eqb (kind_of r.kind).task one) refl refl in
      let c = every_row (λ r. if eqb r.ready 0 then true or_else eqb (kind_of r.kind).task one) refl refl in
      task_there el fits (of_kind_lem (λ k. k.task) one (⊎_elim
      (λ z. eqb-true (kind_of m.kind).task one (passed_true _ true _ a (ne_eqb m.active 0 z)))
      (λ z. eqb-true (kind_of m.kind).task one (passed_true _ true _ c (ne_eqb m.ready 0 z))) d))

  pub alone_tasked : eqb m.alone on ≡ true → 1 ≤ task_in el
  unfolding each if◌then◌or_else◌ kind_of
  alone_tasked e =
      let a = every_row (λ r. if eqb r.alone on then eqb (kind_of r.kind).task one or_else true) refl refl in
      task_there el fits (of_kind_lem (λ k. k.task) one (eqb-true (kind_of m.kind).task one (chosen_true _ _ true a e)))

  asks_all : eqb m.asks on ≡ true → used kind.conditions (at el exits_place) ≡ exit_count el
  unfolding each if◌then◌or_else◌ kind_of exit_count
  asks_all e =
      let a = every_row (λ r. if eqb r.asks on then eqb (kind_of r.kind).conditions (kind_of r.kind).exits or_else true) refl refl in
      ap (λ y. used y (at el exits_place)) (ap (λ y. (kind_of y).conditions) (sym kind_is) ∙ eqb-true (kind_of m.kind).conditions (kind_of m.kind).exits (chosen_true _ _ true a e) ∙ ap (λ y. (kind_of y).exits) kind_is)

  asks_few : eqb m.asks on ≡ true → b < exit_count el
  unfolding each if◌then◌or_else◌ kind_of branch_count exit_count used
  asks_few e =
      let a = every_row (λ r. if eqb r.asks on then not (eqb r.takes branch) or_else true) refl refl in
      let c = every_row (λ r. if eqb r.asks on then (if eqb r.puts branch then true or_else eqb (kind_of r.kind).exits one) or_else true) refl refl in
      let z = not-true _ (chosen_true _ _ true a e) in
      let w : branch_count el m ≡ (if eqb m.puts branch then exit_count el or_else 1) = passed (eqb m.takes branch) _ _ z in
      by_test (eqb m.puts branch)
      (λ y. subst (λ k. b < k) (w ∙ chosen (eqb m.puts branch) _ _ y) f.branch)
      (λ y.
      let o : kind.exits ≡ one = of_kind_lem (λ k. k.exits) one (eqb-true (kind_of m.kind).exits one (passed_true _ true _ (chosen_true _ _ true c e) y)) in
      subst (λ k. b < k) (w ∙ passed (eqb m.puts branch) _ _ y ∙ ap (λ k. used k (at el exits_place)) (sym o)) f.branch)

  pub site : Process.Site el m b
  unfolding element_named
  site = record {
    fits = fits;
    entry_few = branch_entry t s n (valid_fits t v) f;
    exit_few = branch_exit t s n (valid_fits t v) f;
    apart = exits_apart t v (pool_named t n) f.pool n.element f.element;
    task = tasked;
    asks_few = asks_few;
    asks_all = asks_all;
  }

  -- FIELDS
  sends_plain : eqb m.sends on ≡ true → kind.receives ≡ 0
  unfolding each if◌then◌or_else◌ kind_of
  sends_plain e =
      let a = every_row (λ r. if eqb r.sends on then eqb (kind_of r.kind).receives 0 or_else true) refl refl in
      of_kind_lem (λ k. k.receives) 0 (eqb-true (kind_of m.kind).receives 0 (chosen_true _ _ true a e))

  pub sends_alone : eqb m.sends on ≡ true → eqb m.receives on ≡ false
  unfolding move_named
  sends_alone e = ne_eqb m.receives on (λ z. row_one_way (kind_in el) (mode_in el) n.phase z (eqb-true m.sends on e))

  module _ (e : eqb m.receives on ≡ true) where
    talks : receives x || sends x ≡ true
    unfolding site_of
    talks = rw e

    abbrev here : b < used (kind.receives + kind.sends) (at el exits_place)
    here = message_there t s n (valid_fits t v) f talks

    abbrev short : message_length el b ≤ values
    short = length_few t s n (valid_fits t v) f talks

    right : (j : ℕ) → j < message_length el b → eqb (at (item_at el b j) form_place) binding ≡ true → at (item_at el b j) (left_place + operand_number) < fields_named
    right j l z = bound_field el fits b here j l (eqb-true _ binding z)

    pub bound_only_fields : FieldsOnly h (bound el b g h)
    bound_only_fields = bound-fields el b g right short h h_long

    -- eval and match, upd of what is bound
    pub receive_sound : (evaluated el b h g).defined ≡ true → same_tuple (evaluated el b h g).tuple g ≡ true
        → (us : List Evaluated) × Templates (local_of h).σd (template_of el b) us × Matches us (values_of g) (chain (binding_of el b g) 0 (message_length el b))
    receive_sound = match_sound el b g h (item_expression el fits b here) short

    pub receive_complete : {us : List Evaluated} {A : Assignments} → Templates (local_of h).σd (template_of el b) us → Matches us (values_of g) A
        → ((evaluated el b h g).defined ≡ true) × (same_tuple (evaluated el b h g).tuple g ≡ true) × (g.length ≡ message_length el b) × (A ≡ chain (binding_of el b g) 0 (message_length el b))
    receive_complete = match_complete el b g h (item_expression el fits b here) short

    pub bind_sound : g.length ≡ message_length el b → Updates (local_of h).σd (chain (binding_of el b g) 0 (message_length el b)) (local_of (bound el b g h)).σd
    bind_sound = bound_updates el b g right short h h_long

    pub bind_complete : g.length ≡ message_length el b → {τ : ℕ → Value} → Updates (local_of h).σd (chain (binding_of el b g) 0 (message_length el b)) τ → τ ≡ (local_of (bound el b g h)).σd
    bind_complete w u = bound_only el b g right short h h_long w u

  -- upd of what is assigned
  module _ (k : List ℕ) (long : length k ≡ copy_words) where
    pub work_fields : FieldsOnly k (worked el k m).instance
    unfolding worked
    work_fields =
        by_choice (λ (w : Assigned). FieldsOnly k w.instance) (eqb m.assigns on) (assigned el k) (record { defined = true; instance = k })
        (λ e. assigned-fields el (assignments_few el fits) (assigned_field el fits) (assignment_fits_lem el fits) k long) (λ e. fields_start k long)

    pub work_sound : (worked el k m).defined ≡ true → Updates (local_of k).σd (assigning m P) (local_of (worked el k m).instance).σd
    unfolding worked
    work_sound d =
        by_test (eqb m.assigns on)
        (λ e.
        let c : worked el k m ≡ assigned el k = chosen (eqb m.assigns on) _ _ e in
        subst (λ A. Updates (local_of k).σd A (local_of (worked el k m).instance).σd) (sym (chosen (eqb m.assigns on) (assignments_of el) ε e))
        (subst (λ (w : Assigned). Updates (local_of k).σd (assignments_of el) (local_of w.instance).σd) (sym c)
        (assigned_sound el (assignments_few el fits) (assigned_field el fits) (assignment_fits_lem el fits) k long (ap (λ (w : Assigned). w.defined) (sym c) ∙ d))))
        (λ e.
        let c : worked el k m ≡ record { defined = true; instance = k } = passed (eqb m.assigns on) _ _ e in
        subst (λ A. Updates (local_of k).σd A (local_of (worked el k m).instance).σd) (sym (passed (eqb m.assigns on) (assignments_of el) ε e))
        (subst (λ (w : Assigned). Updates (local_of k).σd ε (local_of w.instance).σd) (sym c) Updates.none))

    pub work_complete : {τ : ℕ → Value} → Updates (local_of k).σd (assigning m P) τ → ((worked el k m).defined ≡ true) × (τ ≡ (local_of (worked el k m).instance).σd)
    unfolding worked
    work_complete {τ} u =
        by_test (eqb m.assigns on)
        (λ e.
        let c : worked el k m ≡ assigned el k = chosen (eqb m.assigns on) _ _ e in
        let r = assigned_complete el (assignments_few el fits) (assigned_field el fits) (assignment_fits_lem el fits) k long (subst (λ A. Updates (local_of k).σd A τ) (chosen (eqb m.assigns on) (assignments_of el) ε e) u) in
        (ap (λ (w : Assigned). w.defined) c ∙ r.0, r.1 ∙ ap (λ (w : Assigned). (local_of w.instance).σd) (sym c)))
        (λ e.
        let c : worked el k m ≡ record { defined = true; instance = k } = passed (eqb m.assigns on) _ _ e in
        (ap (λ (w : Assigned). w.defined) c, none_only (subst (λ A. Updates (local_of k).σd A τ) (passed (eqb m.assigns on) (assignments_of el) ε e) u) ∙ ap (λ (w : Assigned). (local_of w.instance).σd) (sym c)))

  -- eval of what is sent
  module _ (e : eqb m.sends on ≡ true) (k : List ℕ) where
    speaks : receives x || sends x ≡ true
    unfolding site_of
    speaks = by_test (receives x) (λ r. rw r) (λ r. rw (r, e))

    abbrev there : b < used (kind.receives + kind.sends) (at el exits_place)
    there = message_there t s n (valid_fits t v) f speaks

    abbrev brief : message_length el b ≤ values
    brief = length_few t s n (valid_fits t v) f speaks

    no_bind : (j : ℕ) → j < message_length el b → eqb (at (item_at el b j) form_place) binding ≡ false
    no_bind = item_plain el fits b there (sends_plain e)

    pub send_short : (evaluated el b k empty).tuple.length ≤ values
    unfolding evaluated gathered
    send_short = brief

    pub send_sound : (evaluated el b k empty).defined ≡ true → Evals (local_of k).σd (message_of el b) (values_of (evaluated el b k empty).tuple)
    send_sound = message_sound el b k brief no_bind (λ j l. item_expression el fits b there j l (no_bind j l))

    pub send_complete : {vs : List ℕ} → Evals (local_of k).σd (message_of el b) vs → ((evaluated el b k empty).defined ≡ true) × (vs ≡ values_of (evaluated el b k empty).tuple)
    send_complete = message_complete el b k brief no_bind (λ j l. item_expression el fits b there j l (no_bind j l))
