-- WHAT THE ENGINE ASKS of an instance's tokens, counts and conditions, and what it does to them, over the paper's state, both ways. el is an element's
-- words, m a row, b a branch, h an instance's words before the step and w with its fields as they will be. Assumes nothing.
use Prim.Native.Nat.{ℕ, ◌+◌, ◌<◌, ◌≤◌}
use mathlib.Core.Path.{◌≡◌, sym, ◌∙◌, ap, subst}
use mathlib.Core.Bool.{Bool, true, false, ◌&&◌, false≢true}
use mathlib.Core.List.{List}
use mathlib.Core.Logic.{◌⊎◌, inl, inr, ⊎_elim}
use native.Mathlib.Omega.{arith}
use lib.Dec.{eqb}
use lib.ListN.{length}
use borrow.Author.Tests.{eqb-true, eqb-false, eq-eqb, ne_eqb, ltb-true, lt-ltb}
use Rattle.std.proofs.lemmas.Bool.{or_left, or_right, or_cases}
use Rattle.base_words.specs.All.{all}
use Rattle.base_words.specs.Pick.{if◌then◌or_else◌}
use Rattle.base_words.specs.Words.{at}
use Rattle.base_words.specs.Counts.{edges, tasks, count_most}
use Rattle.base_words.proofs.AllLaws.{and_left, and_right, all_at, all_of}
use Rattle.base_words.proofs.PickLaws.{and_true}
use Rattle.base_kinds.specs.declared.moves.Move.{Move}
use Rattle.base_kinds.specs.Kinds.{kind_of, used}
use Rattle.base_kinds.specs.Moves.{branch, on, up, down, clearing}
use Rattle.base_kinds.specs.Moves as Row
use Rattle.base_table.specs.Places.{exits_place}
use Rattle.base_table.specs.Places as Places
use Rattle.base_table.specs.Table.{kind_in, task_in, mode_in, entry_count, exit_count, entry_at, exit_at, condition_at}
use Rattle.base_state.specs.Places.{token_place, copy_words}
use Rattle.base_state.specs.Instances.{tokens, active_count, ready_count, version_seen}
use Rattle.base_state.specs.Versions.{former}
use Rattle.check_limits.specs.Limits.{condition_fits, element_fits}
use Rattle.meaning.specs.Values.{Value, is_true, is_false}
use Rattle.meaning.specs.Conditions.{condition_of, default_at, left_out, other_false, holds}
use Rattle.meaning.specs.Requirements as Needs
use Rattle.meaning.specs.Requirements.{touched, first_touched, has_token, has_tokens, can_lower, is_alone, counts_permit, granted, edge_has_room, has_rooms, can_raise, roomy}
use Rattle.meaning.specs.Changes.{taken, active_changed, ready_changed, puts, cleared, moved}
use Rattle.proof_steps.proofs.Choices.{by_test, chosen, passed, chosen_true, passed_true}
use Rattle.proof_steps.proofs.Elements.{task_few, entry_within, exit_within}
use Rattle.proof_steps.proofs.ChangesFit.{touched_within}
use Rattle.proof_steps.proofs.NoSaturation.{ExitsApart}
use Rattle.paper.specs.Syntax.{default, Each}
use Rattle.paper.specs.States.{Local, unmarked, incs, decs, ◌edges:◌, ◌fields:◌, ◌active:◌, ◌ready:◌}
use Rattle.paper.specs.Evaluation.{truth}
use Rattle.paper.specs.Processes.{waits, room}
use Rattle.proof_paper.specs.Decoders.{cond_at, mode_at, local_of}
use Rattle.proof_paper.proofs.Stores.{cleared_is}
use Rattle.proof_paper.proofs.Spans.{each_from_zero, at_from_zero}
use Rattle.proof_paper.proofs.Changes.{taken_edges, put_edges, changed, tokens_are, active_is, ready_is, taken_long, taken_is, puts_is, counts_long, counts_are, counts_tokens}
use Rattle.proof_paper.proofs.Values.{true_is, false_is, truth_is, is_default_lem, default_is}
use Rattle.proof_paper.proofs.Fields.{FieldsOnly}
use Rattle.proof_paper.proofs.Rows.{effect}
use Rattle.proof_paper.proofs.Words.{mode_few, condition_fits_lem, mode_is_na_nc, mode_na_nc_is}
use Rattle.proof_paper.proofs.EachKind.{parts_at, Grants}

-- a test that is asked only where another passes
when : (b x : Bool) → (b ≡ true → x ≡ true) → (if b then x or_else true) ≡ true
when b x f = by_test b (λ e. chosen b x true e ∙ f e) (λ e. passed b x true e)

-- what holds of an element that has a step by the row m and branch b
pub record Site (el : List ℕ) (m : Move) (b : ℕ) : Type 0 where
  pub fits : element_fits el ≡ true
  pub entry_few : m.takes ≡ branch → b < entry_count el
  pub exit_few : m.puts ≡ branch → b < exit_count el
  pub apart : ExitsApart el
  pub task : (m.active ≡ 0 → ⊥) ⊎ (m.ready ≡ 0 → ⊥) → 1 ≤ task_in el
  pub asks_few : eqb m.asks on ≡ true → b < exit_count el
  pub asks_all : eqb m.asks on ≡ true → used (kind_of (kind_in el)).conditions (at el exits_place) ≡ exit_count el

module _ (el : List ℕ) (m : Move) (b : ℕ) (site : Site el m b) (h : List ℕ) (long : length h ≡ copy_words) where
  abbrev L : Local
  L = local_of h

  abbrev n : ℕ
  n = task_in el

  abbrev entry : ℕ → ℕ
  entry j = entry_at el (first_touched m.takes b + j)

  abbrev exit : ℕ → ℕ
  exit j = exit_at el (first_touched m.puts b + j)

  abbrev taking : ℕ
  taking = touched m.takes (entry_count el)

  abbrev putting : ℕ
  putting = touched m.puts (exit_count el)

  entry_in : (j : ℕ) → j < taking → (1 ≤ entry j) × (entry j ≤ edges)
  entry_in j l = entry_within el site.fits (first_touched m.takes b + j) (touched_within m.takes b (entry_count el) j site.entry_few l)

  exit_in : (j : ℕ) → j < putting → (1 ≤ exit j) × (exit j ≤ edges)
  exit_in j l = exit_within el site.fits (first_touched m.puts b + j) (touched_within m.puts b (exit_count el) j site.exit_few l)

  exit_apart : (j k : ℕ) → j < putting → k < putting → (j ≡ k → ⊥) → exit j ≡ exit k → ⊥
  exit_apart j k l r ne =
      site.apart (first_touched m.puts b + j) (first_touched m.puts b + k) (touched_within m.puts b (exit_count el) j site.exit_few l) (touched_within m.puts b (exit_count el) k site.exit_few r)
      (λ z. ne (omega arith))

  few : n ≤ tasks
  few = task_few el site.fits

  lowers_task : (cell : ℕ) → eqb cell down ≡ true → cell ≡ 0 → ⊥
  lowers_task cell e z = let d : cell ≡ down = eqb-true cell down e in omega arith

  raises_task : (cell : ℕ) → eqb cell up ≡ true → cell ≡ 0 → ⊥
  raises_task cell e z = let d : cell ≡ up = eqb-true cell up e in omega arith

  -- 12
  abbrev tokened : Bool
  tokened = has_tokens el h m b

  abbrev lowered : Bool
  lowered = can_lower m.active (active_count h n)

  abbrev readied : Bool
  readied = can_lower m.ready (ready_count h n)

  -- under the version that it sees the task waits until it is inactive
  abbrev Waits : Type 0
  Waits = waits (version_seen h) (mode_at el)

  waits_there : Waits → Needs.waits el h ≡ true
  unfolding Needs.waits
  waits_there =
      ⊎_elim (λ e. or_left (eqb (mode_in el) Row.na_nc) _ (eq-eqb (mode_in el) Row.na_nc (mode_na_nc_is el (mode_few el site.fits) e)))
      (λ e. or_right (eqb (mode_in el) Row.na_nc) (eqb (version_seen h) former) (eq-eqb (version_seen h) former e))

  waits_back : Needs.waits el h ≡ true → Waits
  unfolding Needs.waits
  waits_back q =
      ⊎_elim (λ e. inl (mode_is_na_nc el (eqb-true (mode_in el) Row.na_nc e))) (λ e. inr (eqb-true (version_seen h) former e))
      (or_cases (eqb (mode_in el) Row.na_nc) (eqb (version_seen h) former) q)

  module _ (p : counts_permit el h m b ≡ true) where
    first_three : tokened && lowered && readied ≡ true
    unfolding counts_permit
    first_three = and_left (tokened && lowered && readied) (is_alone el h m) p

    pub takes_there : Each (λ e. 0 < L.σe e) (taken_edges el m b)
    unfolding has_tokens has_token
    takes_there =
        each_from_zero entry (λ e. 0 < L.σe e) taking (λ j l.
        let w = entry_in j l in
        let t : 0 < tokens h (entry j) = ltb-true 0 (tokens h (entry j)) (all_at (has_token el h (first_touched m.takes b)) taking (and_left tokened lowered (and_left (tokened && lowered) readied first_three)) j l) in
        subst (λ v. 0 < v) (sym (tokens_are h (entry j) w.0 w.1)) t)

    pub active_there : eqb m.active down ≡ true → 0 < L.active n
    unfolding can_lower
    active_there e =
        let t = ltb-true 0 (active_count h n) (chosen_true (eqb m.active down) _ true (and_right tokened lowered (and_left (tokened && lowered) readied first_three)) e) in
        subst (λ v. 0 < v) (sym (active_is h n (site.task (inl (lowers_task m.active e))) few)) t

    pub ready_there : eqb m.ready down ≡ true → 0 < L.ready n
    unfolding can_lower
    ready_there e =
        let t = ltb-true 0 (ready_count h n) (chosen_true (eqb m.ready down) _ true (and_right (tokened && lowered) readied first_three) e) in
        subst (λ v. 0 < v) (sym (ready_is h n (site.task (inr (lowers_task m.ready e))) few)) t

    pub alone_there : (eqb m.alone on ≡ true → 1 ≤ n) → eqb m.alone on ≡ true → Waits → (L.active n ≡ 0) × (L.ready n ≡ 0)
    unfolding counts_permit is_alone
    alone_there low e q =
        let s = chosen_true (Needs.waits el h) _ true (chosen_true (eqb m.alone on) _ true (and_right (tokened && lowered && readied) (is_alone el h m) p) e) (waits_there q) in (
          active_is h n (low e) few ∙ eqb-true (active_count h n) 0 (and_left (eqb (active_count h n) 0) (eqb (ready_count h n) 0) s),
          ready_is h n (low e) few ∙ eqb-true (ready_count h n) 0 (and_right (eqb (active_count h n) 0) (eqb (ready_count h n) 0) s),
        )

  pub permits_back : (eqb m.alone on ≡ true → 1 ≤ n) → Each (λ e. 0 < L.σe e) (taken_edges el m b) → (eqb m.active down ≡ true → 0 < L.active n) → (eqb m.ready down ≡ true → 0 < L.ready n)
      → (eqb m.alone on ≡ true → Waits → (L.active n ≡ 0) × (L.ready n ≡ 0)) → counts_permit el h m b ≡ true
  unfolding counts_permit has_tokens has_token can_lower is_alone
  permits_back low t a r o =
      and_true (tokened && lowered && readied) (is_alone el h m)
      (and_true (tokened && lowered) readied
      (and_true tokened lowered
      (all_of (has_token el h (first_touched m.takes b)) taking (λ j l. let w = entry_in j l in lt-ltb 0 (tokens h (entry j)) (subst (λ v. 0 < v) (tokens_are h (entry j) w.0 w.1) (at_from_zero entry (λ e. 0 < L.σe e) taking t j l))))
      (when (eqb m.active down) _ (λ e. lt-ltb 0 (active_count h n) (subst (λ v. 0 < v) (active_is h n (site.task (inl (lowers_task m.active e))) few) (a e)))))
      (when (eqb m.ready down) _ (λ e. lt-ltb 0 (ready_count h n) (subst (λ v. 0 < v) (ready_is h n (site.task (inr (lowers_task m.ready e))) few) (r e)))))
      (when (eqb m.alone on) _ (λ e. when (Needs.waits el h) _ (λ q.
      let w = o e (waits_back q) in
      and_true (eqb (active_count h n) 0) (eqb (ready_count h n) 0)
      (eq-eqb (active_count h n) 0 (sym (active_is h n (low e) few) ∙ w.0)) (eq-eqb (ready_count h n) 0 (sym (ready_is h n (low e) few) ∙ w.1)))))

  -- 13, the condition
  module _ (ask : eqb m.asks on ≡ true) where
    fits_at : (j : ℕ) → j < exit_count el → condition_fits (kind_of (kind_in el)).conditions (condition_at el j) ≡ true
    fits_at j l = condition_fits_lem el site.fits j (subst (λ k. j < k) (sym (site.asks_all ask)) l)

    truth-at : (j : ℕ) → j < exit_count el → truth L.σd (cond_at (condition_at el j)) ≡ condition_of (condition_at el j) h
    truth-at j l = truth_is h (kind_of (kind_in el)).conditions (condition_at el j) (fits_at j l)

    abbrev few_exits : b < exit_count el
    few_exits = site.asks_few ask

    default_there : (j : ℕ) → default_at el j ≡ true → cond_at (condition_at el j) ≡ default
    unfolding default_at
    default_there j e = is_default_lem (condition_at el j) (eqb-true _ Places.default e)

    default_back : (j : ℕ) → j < exit_count el → cond_at (condition_at el j) ≡ default → default_at el j ≡ true
    unfolding default_at
    default_back j l e = eq-eqb _ Places.default (default_is (condition_at el j) (kind_of (kind_in el)).conditions (fits_at j l) e)

    -- what b does not look at
    out_itself : default_at el b ≡ true → (j : ℕ) → left_out el b j ≡ eqb j b
    unfolding left_out
    out_itself d j = chosen (default_at el b) (eqb j b) (default_at el j) d

    out_default : default_at el b ≡ false → (j : ℕ) → left_out el b j ≡ default_at el j
    unfolding left_out
    out_default d j = passed (default_at el b) (eqb j b) (default_at el j) d

    holds_to : holds el h b ≡ true → Grants el b L
    unfolding holds other_false
    holds_to p =
        by_test (default_at el b)
        (λ d. inr (
          default_there b d,
          (λ j l ne.
              truth-at j l ∙ false_is (condition_of (condition_at el j) h) (passed_true (left_out el b j) true _ (all_at (other_false el h b) (exit_count el) (chosen_true (default_at el b) _ _ p d) j l) (out_itself d j ∙ ne_eqb j b ne))),
        ))
        (λ d.
        let w = passed_true (default_at el b) _ _ p d in
        inl (
          truth-at b few_exits ∙ true_is (condition_of (condition_at el b) h) (and_left (is_true (condition_of (condition_at el b) h)) (all (other_false el h b) b) w),
          (λ j l ne.
              truth-at j (omega (arith, l, few_exits))
              ∙ false_is (condition_of (condition_at el j) h)
              (passed_true (left_out el b j) true _ (all_at (other_false el h b) b (and_right (is_true (condition_of (condition_at el b) h)) (all (other_false el h b) b) w) j l)
              (out_default d j ∙ by_test (default_at el j) (λ y. absurd (ne (default_there j y))) (λ y. y)))),
        ))

    to_holds : Grants el b L → holds el h b ≡ true
    unfolding holds other_false truth is_true is_false
    to_holds g =
        ⊎_elim
        (λ t.
        by_test (default_at el b)
        (λ d. absurd (false≢true (ap is_true (sym (ap (truth L.σd) (default_there b d)) ∙ t.0))))
        (λ d.
        passed (default_at el b) _ _ d
        ∙ and_true (is_true (condition_of (condition_at el b) h)) (all (other_false el h b) b) (ap is_true (sym (truth-at b few_exits) ∙ t.0))
        (all_of (other_false el h b) b (λ j l.
        let r : j < exit_count el = omega (arith, l, few_exits) in
        by_test (default_at el j) (λ y. chosen (left_out el b j) true _ (out_default d j ∙ y))
        (λ y. passed (left_out el b j) true _ (out_default d j ∙ y) ∙ ap is_false (sym (truth-at j r) ∙ t.1 j l (λ z. false≢true (sym y ∙ default_back j r z))))))))
        (λ t.
        let d = default_back b few_exits t.0 in
        chosen (default_at el b) _ _ d
        ∙ all_of (other_false el h b) (exit_count el) (λ j l.
        by_test (eqb j b) (λ y. chosen (left_out el b j) true _ (out_itself d j ∙ y))
        (λ y. passed (left_out el b j) true _ (out_itself d j ∙ y) ∙ ap is_false (sym (truth-at j l) ∙ t.1 j l (eqb-false j b y)))))
        g

  pub grants_there : granted el h m b ≡ true → eqb m.asks on ≡ true → Grants el b L
  unfolding granted
  grants_there p ask = holds_to ask (chosen_true (eqb m.asks on) _ true p ask)

  pub grants_back : (eqb m.asks on ≡ true → Grants el b L) → granted el h m b ≡ true
  unfolding granted
  grants_back g = when (eqb m.asks on) (holds el h b) (λ ask. to_holds ask (g ask))

  -- AFTER THE TAKING
  module _ (w : List ℕ) (own : FieldsOnly h w) where
    abbrev T : List ℕ
    T = taken el m b w

    abbrev F : ℕ → Value
    F = (local_of w).σd

    T-long : length T ≡ copy_words
    T-long = taken_long el m b entry_in w own.long

    T-is : local_of T ≡ (L edges: decs L.σe (taken_edges el m b) fields: F)
    T-is = taken_is el m b entry_in w own.long ∙ ap (λ (K : Local). K edges: decs K.σe (taken_edges el m b)) own.rest

    tokens-T : (j : ℕ) → j < putting → tokens T (exit j) ≡ decs L.σe (taken_edges el m b) (exit j)
    tokens-T j l = let v = exit_in j l in sym (tokens_are T (exit j) v.0 v.1) ∙ ap (λ (K : Local). K.σe (exit j)) T-is

    active-T : 1 ≤ n → active_count T n ≡ L.active n
    active-T l = sym (active_is T n l few) ∙ ap (λ (K : Local). K.active n) T-is

    ready-T : 1 ≤ n → ready_count T n ≡ L.ready n
    ready-T l = sym (ready_is T n l few) ∙ ap (λ (K : Local). K.ready n) T-is

    -- 18
    abbrev roomed : Bool
    roomed = has_rooms el T m b

    abbrev raised : Bool
    raised = can_raise m.active (active_count T n)

    abbrev reraised : Bool
    reraised = can_raise m.ready (ready_count T n)

    module _ (r : roomy el T m b ≡ true) where
      rooms_at : (j : ℕ) → j < putting → tokens T (exit j) < count_most
      unfolding roomy has_rooms edge_has_room
      rooms_at j l = ltb-true (tokens T (exit j)) count_most (all_at (edge_has_room el T (first_touched m.puts b)) putting (and_left roomed raised (and_left (roomed && raised) reraised r)) j l)

      active_room : eqb m.active up ≡ true → active_count T n < count_most
      unfolding roomy can_raise
      active_room e = ltb-true (active_count T n) count_most (chosen_true (eqb m.active up) _ true (and_right roomed raised (and_left (roomed && raised) reraised r)) e)

      ready_room : eqb m.ready up ≡ true → ready_count T n < count_most
      unfolding roomy can_raise
      ready_room e = ltb-true (ready_count T n) count_most (chosen_true (eqb m.ready up) _ true (and_right (roomed && raised) reraised r) e)

      pub puts-room : Each (room (decs L.σe (taken_edges el m b))) (put_edges el m b)
      puts-room = each_from_zero exit (room (decs L.σe (taken_edges el m b))) putting (λ j l. subst (λ v. v < count_most) (tokens-T j l) (rooms_at j l))

      pub active_up : eqb m.active up ≡ true → room L.active n
      active_up e = subst (λ v. v < count_most) (active-T (site.task (inl (raises_task m.active e)))) (active_room e)

      pub ready_up : eqb m.ready up ≡ true → room L.ready n
      ready_up e = subst (λ v. v < count_most) (ready-T (site.task (inr (raises_task m.ready e)))) (ready_room e)

      -- WHAT IT DOES
      abbrev c : Bool
      c = eqb m.also clearing

      abbrev counted : List ℕ
      counted = ready_changed el m (active_changed el m T)

      clearing_is : c ≡ true → local_of (moved el m b T) ≡ effect m (parts_at (version_seen h) el m b) L F
      unfolding moved
      clearing_is e =
          ap local_of (chosen c (cleared T) _ e)
          ∙ cleared_is T T-long
          ∙ ap (λ (K : Local). K edges: unmarked active: unmarked ready: unmarked) T-is
          ∙ (λ i. record { σe = sym (chosen c unmarked (incs (decs L.σe (taken_edges el m b)) (put_edges el m b)) e) i; σd = F; active = sym (chosen c unmarked (changed m.active L.active n) e) i; ready = sym (chosen c unmarked (changed m.ready L.ready n) e) i })

      counted_is : local_of counted ≡ (L edges: decs L.σe (taken_edges el m b) fields: F active: changed m.active L.active n ready: changed m.ready L.ready n)
      counted_is =
          counts_are el m b site.task few T T-long (λ e. active_room (eq-eqb m.active up e)) (λ e. ready_room (eq-eqb m.ready up e))
          ∙ ap (λ (K : Local). K active: changed m.active K.active n ready: changed m.ready K.ready n) T-is

      moving_is : c ≡ false → local_of (moved el m b T) ≡ effect m (parts_at (version_seen h) el m b) L F
      unfolding moved
      moving_is e =
          ap local_of (passed c (cleared T) _ e)
          ∙ puts_is el m b exit_in exit_apart counted (counts_long el m b site.task few T T-long (λ e. active_room (eq-eqb m.active up e)) (λ e. ready_room (eq-eqb m.ready up e)))
          (λ j l. let v = exit_in j l in subst (λ y. y < count_most) (sym (counts_tokens el m b site.task few T T-long (λ e. active_room (eq-eqb m.active up e)) (λ e. ready_room (eq-eqb m.ready up e)) (token_place (exit j)) (omega (arith, v.0, v.1)))) (rooms_at j l))
          ∙ ap (λ (K : Local). K edges: incs K.σe (put_edges el m b)) counted_is
          ∙ (λ i. record { σe = sym (passed c unmarked (incs (decs L.σe (taken_edges el m b)) (put_edges el m b)) e) i; σd = F; active = sym (passed c unmarked (changed m.active L.active n) e) i; ready = sym (passed c unmarked (changed m.ready L.ready n) e) i })

      pub moved_is : local_of (moved el m b T) ≡ effect m (parts_at (version_seen h) el m b) L F
      moved_is = by_test c clearing_is moving_is

    pub rooms_back : Each (room (decs L.σe (taken_edges el m b))) (put_edges el m b) → (eqb m.active up ≡ true → room L.active n) → (eqb m.ready up ≡ true → room L.ready n) → roomy el T m b ≡ true
    unfolding roomy has_rooms edge_has_room can_raise
    rooms_back p u v =
        and_true (roomed && raised) reraised
        (and_true roomed raised
        (all_of (edge_has_room el T (first_touched m.puts b)) putting (λ j l. lt-ltb (tokens T (exit j)) count_most (subst (λ y. y < count_most) (sym (tokens-T j l)) (at_from_zero exit (room (decs L.σe (taken_edges el m b))) putting p j l))))
        (when (eqb m.active up) _ (λ e. lt-ltb (active_count T n) count_most (subst (λ y. y < count_most) (sym (active-T (site.task (inl (raises_task m.active e))))) (u e)))))
        (when (eqb m.ready up) _ (λ e. lt-ltb (ready_count T n) count_most (subst (λ y. y < count_most) (sym (ready-T (site.task (inr (raises_task m.ready e))))) (v e))))
