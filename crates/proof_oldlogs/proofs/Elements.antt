-- WHAT A STEP ASKS AND DOES at an element x by the row m in the words h, and at an element y by the row m' in the words h': the same, where the two elements have the same words but for kind and first exit, the rows do the
-- same but for what they put, and the words are alike at the places K. Assumes nothing.
use Prim.Native.Nat.{ℕ, ◌+◌, ◌-◌, ◌≤◌, ◌<◌}
use mathlib.Core.Path.{◌≡◌, refl, sym, ◌∙◌, ap, subst}
use mathlib.Core.Bool.{Bool, true, ◌&&◌, ◌||◌}
use mathlib.Core.List.{List}
use native.Mathlib.Omega.{arith}
use lib.Dec.{eqb, leb, ltb}
use lib.ListN.{drop, set}
use lib.Seq.{get_or-drop}
use Rattle.std.specs.Prelude.{None, Some}
use Rattle.base_words.specs.All.{all}
use Rattle.base_words.specs.Counts.{branches, edges, values, assignments}
use Rattle.base_words.specs.Iter.{iter}
use Rattle.base_words.specs.Pick.{if◌then◌or_else◌}
use Rattle.base_words.specs.Words.{at}
use Rattle.base_words.proofs.AllLaws.{and_left, and_right}
use Rattle.base_words.proofs.PickLaws.{and_true}
use Rattle.base_kinds.specs.declared.moves.Move.{Move}
use Rattle.base_kinds.specs.Moves.{branch, on, clearing, na_nc}
use Rattle.base_table.specs.Places.{kind_place, task_place, mode_place, entries_place, exits_place, edge_place, form_place, left_place, right_place, operand_number, binding, plus, minus, always, equals, below, default, condition_place, message_place, length_place, item_place, assignments_place, assignment_place, assigned_in, element_words}
use Rattle.base_table.specs.Table.{task_in, mode_in, entry_count, exit_count, entry_at, condition_at, message_name, message_length, item_at, assignment_count, assignment_at}
use Rattle.base_state.specs.Places.{token_place, active_place, ready_place, defined_place, value_place, version_place}
use Rattle.base_state.specs.Instances.{tokens, active_count, ready_count, version_seen, with_field}
use Rattle.base_state.specs.Versions.{former}
use Rattle.check_limits.proofs.SameLaws.{Same}
use Rattle.meaning.specs.declared.Truth.TheVariants.{True, Neither}
use Rattle.meaning.specs.declared.Tuple.{Tuple}
use Rattle.meaning.specs.Tuples.{value_of}
use Rattle.meaning.specs.Values.{Value, sum_of, difference_of, equal_of, less_of, is_true, is_false}
use Rattle.meaning.specs.Expressions.{field_of, operand_of, expression_of}
use Rattle.meaning.specs.Conditions.{condition_of, default_at, left_out, other_false, holds}
use Rattle.meaning.specs.Templates.{binds, item_value, gathered, evaluated, bind_one, bound}
use Rattle.meaning.specs.Assignments.{Assigned, assigned_value, assign_one, assigned}
use Rattle.meaning.specs.Requirements.{touched, first_touched, has_token, has_tokens, can_lower, waits, is_alone, counts_permit, granted, has_rooms, can_raise, roomy}
use Rattle.meaning.specs.Changes.{take_one, taken, count_changed, active_changed, ready_changed, puts, cleared, moved}
use Rattle.proof_steps.proofs.ChangesFit.{touched_within}
use Rattle.proof_versions.proofs.Laws.{all_same}
use Rattle.proof_oldlogs.proofs.Alike.{Alike, choice_both, iter_both, set_alike, writes_alike}

-- the words of y are those of x, but for kind, count of exits and first exit
abbrev pub Paired : List ℕ → List ℕ → Type 0
Paired x y = (i : ℕ) → i < element_words → (i ≡ kind_place → ⊥) → (i ≡ exits_place → ⊥) → (i ≡ edge_place exits_place 0 → ⊥) → at y i ≡ at x i

-- the row m' does what the row m does, but for what it puts
pub record Deeds (m m' : Move) : Type 0 where
  pub takes : m'.takes ≡ m.takes
  pub asks : m'.asks ≡ m.asks
  pub receives : m'.receives ≡ m.receives
  pub assigns : m'.assigns ≡ m.assigns
  pub sends : m'.sends ≡ m.sends
  pub active : m'.active ≡ m.active
  pub ready : m'.ready ≡ m.ready
  pub alone : m'.alone ≡ m.alone
  pub also : m'.also ≡ m.also

pub record Pairing (K U : ℕ → Type 0) (x y : List ℕ) (m m' : Move) (b : ℕ) : Type 0 where
  pub high : (k : ℕ) → edges ≤ k → K k
  pub apart : (k : ℕ) → K k → U k → ⊥
  pub words : Paired x y
  pub deeds : Deeds m m'
  pub few : b < branches
  pub entries : entry_count y ≡ entry_count x
  pub entries_few : entry_count x ≤ branches
  pub kept : (j : ℕ) → j < entry_count x → K (token_place (entry_at x j))
  pub taking : m.takes ≡ branch → b < entry_count x
  pub exits : eqb m.asks on ≡ true → exit_count y ≡ exit_count x
  pub exits_few : exit_count x ≤ branches

module _ (K U : ℕ → Type 0) (c : ℕ → ℕ) (x y : List ℕ) (m m' : Move) (b : ℕ) (P : Pairing K U x y m m' b) where
  abbrev A : List ℕ → List ℕ → Type 0
  A h h' = Alike K U c h h'

  -- A WORD stored at a place of K
  set_kept : (k k' u v : ℕ) → k' ≡ k → K k → v ≡ u → (h h' : List ℕ) → A h h' → A (set h k u) (set h' k' v)
  set_kept k k' u v p q e h h' r = subst (λ (w : ℕ). A (set h k u) (set h' w v)) (sym p) (set_alike K U c h h' k u v (λ z. e) (λ z. absurd (P.apart k q z)) r)

  pub word_alike : (f f' : ℕ → ℕ) (k k' : ℕ) → ((n : ℕ) → f' n ≡ f n) → k' ≡ k → K k → (h h' : List ℕ) → A h h' → A (set h k (f (at h k))) (set h' k' (f' (at h' k')))
  word_alike f f' k k' g p q h h' r = set_kept k k' (f (at h k)) (f' (at h' k')) p q (g (at h' k') ∙ ap f (ap (at h') p ∙ r.same k q)) h h' r

  field_alike : (d d' v : ℕ) → d' ≡ d → (h h' : List ℕ) → A h h' → A (with_field h d v) (with_field h' d' v)
  field_alike d d' v e h h' r =
      set_kept (value_place d) (value_place d') v v (ap value_place e) (P.high (value_place d) (omega arith)) refl (set h (defined_place d) 1) (set h' (defined_place d') 1)
      (set_kept (defined_place d) (defined_place d') 1 1 (ap defined_place e) (P.high (defined_place d) (omega arith)) refl h h' r)

  -- THE ELEMENTS' WORDS
  part : (k n : ℕ) → edge_place exits_place 0 < k → k + n ≤ element_words → Same n (drop k x) (drop k y)
  part k n l u i h = get_or-drop k y i 0 ∙ P.words (k + i) (omega arith) (λ e. omega arith) (λ e. omega arith) (λ e. omega arith) ∙ sym (get_or-drop k x i 0)

  task_same : task_in y ≡ task_in x
  task_same = P.words task_place (omega arith) (λ e. omega arith) (λ e. omega arith) (λ e. omega arith)

  mode_same : mode_in y ≡ mode_in x
  mode_same = P.words mode_place (omega arith) (λ e. omega arith) (λ e. omega arith) (λ e. omega arith)

  entry_same : (j : ℕ) → j < branches → entry_at y j ≡ entry_at x j
  entry_same j l = P.words (edge_place entries_place j) (omega arith) (λ e. omega arith) (λ e. omega arith) (λ e. omega arith)

  length_same : message_length y b ≡ message_length x b
  length_same = P.words (length_place b) (omega (arith, P.few)) (λ e. omega arith) (λ e. omega arith) (λ e. omega arith)

  pub name_same : message_name y b ≡ message_name x b
  name_same = P.words (message_place b) (omega (arith, P.few)) (λ e. omega arith) (λ e. omega arith) (λ e. omega arith)

  count_same : assignment_count y ≡ assignment_count x
  count_same = P.words assignments_place (omega arith) (λ e. omega arith) (λ e. omega arith) (λ e. omega arith)

  item : (j : ℕ) → j < values → Same 5 (item_at x b j) (item_at y b j)
  item j l = part (item_place b j) 5 (omega arith) (omega (arith, P.few))

  binds_same : (j : ℕ) → j < values → binds y b j ≡ binds x b j
  unfolding binds
  binds_same j l = λ i. ltb j (length_same i) && eqb (item j l form_place (omega arith) i) binding

  -- EXPRESSIONS AND CONDITIONS
  module _ (h h' : List ℕ) (r : A h h') where
    field_same : (d : ℕ) → field_of h' d ≡ field_of h d
    unfolding field_of
    field_same d =
        let a : at h' (defined_place d) ≡ at h (defined_place d) = r.same (defined_place d) (P.high (defined_place d) (omega arith)) in
        let v : at h' (value_place d) ≡ at h (value_place d) = r.same (value_place d) (P.high (value_place d) (omega arith)) in
        λ i. if eqb (a i) 0 then None or_else Some (v i)

    operand_same : (w w' : List ℕ) (k : ℕ) → at w' k ≡ at w k → at w' (k + operand_number) ≡ at w (k + operand_number) → operand_of w' h' k ≡ operand_of w h k
    unfolding operand_of
    operand_same w w' k a v = λ i. if eqb (a i) 0 then Some (v i) or_else (field_same (at w' (k + operand_number)) ∙ ap (field_of h) v) i

    module _ (w w' : List ℕ) (s : Same 5 w w') where
      left_same : operand_of w' h' left_place ≡ operand_of w h left_place
      left_same = operand_same w w' left_place (s left_place (omega arith)) (s (left_place + operand_number) (omega arith))

      right_same : operand_of w' h' right_place ≡ operand_of w h right_place
      right_same = operand_same w w' right_place (s right_place (omega arith)) (s (right_place + operand_number) (omega arith))

      expression_same : expression_of w' h' ≡ expression_of w h
      unfolding expression_of
      expression_same = λ i.
          if eqb (s form_place (omega arith) i) plus then sum_of (left_same i) (right_same i)
          or_else if eqb (s form_place (omega arith) i) minus then difference_of (left_same i) (right_same i)
          or_else left_same i

      condition_same : condition_of w' h' ≡ condition_of w h
      unfolding condition_of
      condition_same = λ i.
          if eqb (s form_place (omega arith) i) always then True
          or_else if eqb (s form_place (omega arith) i) equals then equal_of (left_same i) (right_same i)
          or_else if eqb (s form_place (omega arith) i) below then less_of (left_same i) (right_same i)
          or_else Neither

    -- the message of the branch
    item_same : (g : Tuple) (j : ℕ) → j < values → item_value y b h' g j ≡ item_value x b h g j
    unfolding item_value
    item_same g j l = λ i. if leb (length_same i) j then Some 0 or_else if binds_same j l i then Some (value_of g j) or_else expression_same (item_at x b j) (item_at y b j) (item j l) i

    pub evaluated_same : (g : Tuple) → evaluated y b h' g ≡ evaluated x b h g
    unfolding evaluated
    evaluated_same g = λ i. gathered (length_same i) (item_same g 0 (omega arith) i) (item_same g 1 (omega arith) i) (item_same g 2 (omega arith) i) (item_same g 3 (omega arith) i)

    -- 12
    active_same : active_count h' (task_in y) ≡ active_count h (task_in x)
    active_same = ap (active_count h') task_same ∙ r.same (active_place (task_in x)) (P.high (active_place (task_in x)) (omega arith))

    ready_same : ready_count h' (task_in y) ≡ ready_count h (task_in x)
    ready_same = ap (ready_count h') task_same ∙ r.same (ready_place (task_in x)) (P.high (ready_place (task_in x)) (omega arith))

    token_same : (j : ℕ) → j < entry_count x → tokens h' (entry_at y j) ≡ tokens h (entry_at x j)
    token_same j l = ap (tokens h') (entry_same j (omega (arith, l, P.entries_few))) ∙ r.same (token_place (entry_at x j)) (P.kept j l)

    tokens_same : has_tokens y h' m' b ≡ has_tokens x h m b
    unfolding has_tokens has_token
    tokens_same =
        (λ i. all (λ j. ltb 0 (tokens h' (entry_at y (first_touched (P.deeds.takes i) b + j)))) (touched (P.deeds.takes i) (P.entries i)))
        ∙ all_same _ _ (touched m.takes (entry_count x)) (λ j l. ap (ltb 0) (token_same (first_touched m.takes b + j) (touched_within m.takes b (entry_count x) j P.taking l)))

    alone_same : is_alone y h' m' ≡ is_alone x h m
    unfolding is_alone waits
    alone_same =
        let v : version_seen h' ≡ version_seen h = r.same version_place (P.high version_place (omega arith)) in
        λ i.
        if eqb (P.deeds.alone i) on then
        if eqb (mode_same i) na_nc || eqb (v i) former then eqb (active_same i) 0 && eqb (ready_same i) 0 or_else true
        or_else true

    pub permits_same : counts_permit y h' m' b ≡ counts_permit x h m b
    unfolding counts_permit
    permits_same = λ i. tokens_same i && can_lower (P.deeds.active i) (active_same i) && can_lower (P.deeds.ready i) (ready_same i) && alone_same i

    -- 13
    condition : (j : ℕ) → j < branches → Same 5 (condition_at x j) (condition_at y j)
    condition j l = part (condition_place j) 5 (omega arith) (omega arith)

    default_same : (j : ℕ) → j < branches → default_at y j ≡ default_at x j
    unfolding default_at
    default_same j l = ap (λ k. eqb k default) (condition j l form_place (omega arith))

    other_same : (j : ℕ) → j < branches → other_false y h' b j ≡ other_false x h b j
    unfolding other_false left_out
    other_same j l = λ i. if (if default_same b P.few i then eqb j b or_else default_same j l i) then true or_else is_false (condition_same (condition_at x j) (condition_at y j) (condition j l) i)

    holds_same : eqb m.asks on ≡ true → holds y h' b ≡ holds x h b
    unfolding holds
    holds_same e =
        let every : all (other_false y h' b) (exit_count y) ≡ all (other_false x h b) (exit_count x) =
        ap (all (other_false y h' b)) (P.exits e) ∙ all_same _ _ (exit_count x) (λ j l. other_same j (omega (arith, l, P.exits_few))) in
        let earlier : all (other_false y h' b) b ≡ all (other_false x h b) b = all_same _ _ b (λ j l. other_same j (omega (arith, l, P.few))) in
        λ i. if default_same b P.few i then every i or_else is_true (condition_same (condition_at x b) (condition_at y b) (condition b P.few) i) && earlier i

    pub granted_same : granted y h' m' b ≡ granted x h m b
    unfolding granted
    granted_same = choice_both (λ (p q : Bool). q ≡ p) (eqb m.asks on) (eqb m'.asks on) _ _ _ _ (ap (λ k. eqb k on) P.deeds.asks) holds_same (λ e. refl)

    -- 18, where there is room on the exits
    pub roomy_alike : (has_rooms x h m b ≡ true → has_rooms y h' m' b ≡ true) → roomy x h m b ≡ true → roomy y h' m' b ≡ true
    unfolding roomy
    roomy_alike f p =
        let q : Bool = has_rooms x h m b && can_raise m.active (active_count h (task_in x)) in
        let a = and_left q (can_raise m.ready (ready_count h (task_in x))) p in
        and_true (has_rooms y h' m' b && can_raise m'.active (active_count h' (task_in y))) (can_raise m'.ready (ready_count h' (task_in y)))
        (and_true (has_rooms y h' m' b) (can_raise m'.active (active_count h' (task_in y))) (f (and_left (has_rooms x h m b) (can_raise m.active (active_count h (task_in x))) a))
        ((λ i. can_raise (P.deeds.active i) (active_same i)) ∙ and_right (has_rooms x h m b) (can_raise m.active (active_count h (task_in x))) a))
        ((λ i. can_raise (P.deeds.ready i) (ready_same i)) ∙ and_right q (can_raise m.ready (ready_count h (task_in x))) p)

  -- BINDS AND ASSIGNMENTS
  bind_alike : (g : Tuple) (j : ℕ) → j < values → (h h' : List ℕ) → A h h' → A (bind_one x b g j h) (bind_one y b g j h')
  unfolding bind_one
  bind_alike g j l h h' r =
      choice_both A (binds x b j) (binds y b j) _ h _ h' (binds_same j l)
      (λ e. field_alike (at (item_at x b j) (left_place + operand_number)) (at (item_at y b j) (left_place + operand_number)) (value_of g j) (item j l (left_place + operand_number) (omega arith)) h h' r)
      (λ e. r)

  pub bound_alike : (g : Tuple) (h h' : List ℕ) → A h h' → A (bound x b g h) (bound y b g h')
  unfolding bound
  bound_alike g h h' r = iter_both A (bind_one x b g) (bind_one y b g) values (bind_alike g) h h' r

  abbrev pub B : Assigned → Assigned → Type 0
  B a a' = (a'.defined ≡ a.defined) × A a.instance a'.instance

  value_alike : (h h' : List ℕ) (d d' : ℕ) → d' ≡ d → A h h' → (w : Value) → B (assigned_value h d w) (assigned_value h' d' w)
  unfolding assigned_value
  value_alike h h' d d' e r (Some v) = (refl, field_alike d d' v e h h' r)
  value_alike h h' d d' e r None = (refl, r)

  assign_alike : (j : ℕ) → j < assignments → (a a' : Assigned) → B a a' → B (assign_one x j a) (assign_one y j a')
  unfolding assign_one
  assign_alike j l a a' r =
      let s : Same 6 (assignment_at x j) (assignment_at y j) = part (assignment_place j) 6 (omega arith) (omega arith) in
      let w : List ℕ = drop assigned_in (assignment_at x j) in
      let w' : List ℕ = drop assigned_in (assignment_at y j) in
      let five : Same 5 w w' = λ i u. get_or-drop assigned_in (assignment_at y j) i 0 ∙ s (assigned_in + i) (omega arith) ∙ sym (get_or-drop assigned_in (assignment_at x j) i 0) in
      choice_both B (leb (assignment_count x) j) (leb (assignment_count y) j) _ _ _ _ (ap (λ k. leb k j) count_same) (λ e. r)
      (λ e.
      choice_both B a.defined a'.defined _ _ _ _ r.0
      (λ d.
      subst (λ (v : Value). B (assigned_value a.instance (at (assignment_at x j) 0) (expression_of w a.instance)) (assigned_value a'.instance (at (assignment_at y j) 0) v))
      (sym (expression_same a.instance a'.instance r.1 w w' five))
      (value_alike a.instance a'.instance (at (assignment_at x j) 0) (at (assignment_at y j) 0) (s 0 (omega arith)) r.1 (expression_of w a.instance)))
      (λ d. r))

  pub assigned_alike : (h h' : List ℕ) → A h h' → B (assigned x h) (assigned y h')
  unfolding assigned
  assigned_alike h h' r = iter_both B (assign_one x) (assign_one y) assignments assign_alike (record { defined = true; instance = h }) (record { defined = true; instance = h' }) (refl, r)

  -- TOKENS AND COUNTS
  pub taken_alike : (h h' : List ℕ) → A h h' → A (taken x m b h) (taken y m' b h')
  unfolding taken take_one
  taken_alike h h' r =
      let from : ℕ = first_touched m.takes b in
      subst (A (taken x m b h)) (λ i. iter (take_one y (first_touched (sym P.deeds.takes i) b)) h' (touched (sym P.deeds.takes i) (sym P.entries i)))
      (iter_both A (take_one x from) (take_one y from) (touched m.takes (entry_count x))
      (λ j l k k' q.
      let u = touched_within m.takes b (entry_count x) j P.taking l in
      word_alike (λ n. n - 1) (λ n. n - 1) (token_place (entry_at x (from + j))) (token_place (entry_at y (from + j))) (λ n. refl) (ap token_place (entry_same (from + j) (omega (arith, u, P.entries_few)))) (P.kept (from + j) u) k k' q)
      h h' r)

  active_alike : (h h' : List ℕ) → A h h' → A (active_changed x m h) (active_changed y m' h')
  unfolding active_changed
  active_alike h h' r =
      word_alike (count_changed m.active) (count_changed m'.active) (active_place (task_in x)) (active_place (task_in y)) (λ n i. count_changed (P.deeds.active i) n) (ap active_place task_same) (P.high (active_place (task_in x)) (omega arith)) h h' r

  ready_alike : (h h' : List ℕ) → A h h' → A (ready_changed x m h) (ready_changed y m' h')
  unfolding ready_changed
  ready_alike h h' r =
      word_alike (count_changed m.ready) (count_changed m'.ready) (ready_place (task_in x)) (ready_place (task_in y)) (λ n i. count_changed (P.deeds.ready i) n) (ap ready_place task_same) (P.high (ready_place (task_in x)) (omega arith)) h h' r

  cleared_alike : (h h' : List ℕ) → A h h' → A (cleared h) (cleared h')
  unfolding cleared
  cleared_alike h h' r = writes_alike K U c (λ k. 0) (λ k. 0) h h' 0 (defined_place 0) (λ j l q. refl) (λ j l q. omega arith) r

  -- c' is how much stands at a place of U at most when the exits have been put
  module _ (c' : ℕ → ℕ) (wider : (w : ℕ) → c w ≤ c' w) (putting : (h h' : List ℕ) → A h h' → Alike K U c' (puts x m b h) (puts y m' b h')) where
    pub moved_alike : (h h' : List ℕ) → A h h' → Alike K U c' (moved x m b h) (moved y m' b h')
    unfolding moved
    moved_alike h h' r =
        choice_both (Alike K U c') (eqb m.also clearing) (eqb m'.also clearing) _ _ _ _ (ap (λ k. eqb k clearing) P.deeds.also)
        (λ e.
        let q = cleared_alike h h' r in
        record { long = q.long; same = q.same; few = λ w u. (let a = q.few w u in let d = wider w in omega (arith, a, d)) })
        (λ e. putting (ready_changed x m (active_changed x m h)) (ready_changed y m' (active_changed y m' h')) (ready_alike (active_changed x m h) (active_changed y m' h') (active_alike h h' r)))
