-- A NODE IS NEVER UNFIT: where nothing is amiss or beyond the limits, the element of each node is within its limits, and has neither values nor assignments. Assumes nothing.
use Prim.Native.Nat.{ℕ, zero, suc, ◌+◌, ◌≤◌, ◌<◌}
use mathlib.Core.Path.{◌≡◌, ◌∙◌, refl, sym, ap, ap₂, subst}
use mathlib.Core.Bool.{Bool, true, false, not, ◌&&◌, ◌||◌, false≢true}
use mathlib.Core.List.{List, [], ◌∷◌}
use native.Mathlib.Decide.{dec_lt}
use native.Mathlib.Omega.{arith}
use lib.Dec.{eqb, leb, ltb}
use lib.ListN.{length, set, replicate, length-set, length-replicate}
use lib.Seq.{get_or-set_same, get_or-set_other}
use borrow.Author.Tests.{eqb-true, eqb-false, eq-eqb, ne_eqb, leb-true, leb-false, ltb-true, ltb-false, le-leb, not-true}
use Rattle.std.proofs.lemmas.Bool.{not-false}
use Rattle.std.proofs.Math.Bool.{and-true}
use Rattle.base_words.specs.All.{all}
use Rattle.base_words.specs.Counts.{branches, edges, elements, names, tasks}
use Rattle.base_words.specs.Iter.{iter}
use Rattle.base_words.specs.Pick.{if◌then◌or_else◌}
use Rattle.base_words.specs.Seek.{seek}
use Rattle.base_words.specs.Sum.{sum, one_if}
use Rattle.base_words.specs.Words.{at}
use Rattle.base_words.proofs.AllLaws.{all_at, and_left, and_right}
use Rattle.base_words.proofs.PickLaws.{and_true}
use Rattle.base_words.proofs.SeekLaws.{sought}
use Rattle.base_words.proofs.SumLaws.{sum-zero}
use Rattle.base_kinds.specs.Kinds as kinds
use Rattle.base_kinds.specs.Kinds.{kind_of, used, none, one, many}
use Rattle.base_kinds.specs.Moves.{a, na_nc}
use Rattle.base_table.specs.Places.{kind_place, task_place, mode_place, entries_place, exits_place, message_place, element_words, always, default}
use Rattle.check_limits.specs.Limits.{within, zeros, condition_fits, count_fits, element_fits}
use Rattle.draw_things.specs.Things.{room, sort, place, source, target, kind, is_node, message_flow, sequence_flow, condition_expression, branch}
use Rattle.draw_things.specs.Things as things
use Rattle.draw_kinds.specs.Counting.{column, source_in, target_in, within_in, is_with, of_sort, count_with, first_with}
use Rattle.draw_kinds.specs.Roles.{flows_in, flows_out, kind_drawn}
use Rattle.draw_conditions.specs.declared.Condition.{Condition}
use Rattle.draw_conditions.specs.Conditions.{condition_at, absent, foreign}
use Rattle.draw_faults.specs.Amiss.{is_strange, is_of_no_kind, has_wrong_default, is_unheard, is_untold, is_loose, is_wrong_branch, is_second_condition, is_wrong_form, is_wrong_condition, is_wrong_message, amiss_as_flow, amiss_as_node, amiss_as_pool, is_repeated, is_amiss, is_right, is_drawing}
use Rattle.draw_numbers.specs.Who.{has_participants, has_pool, is_of_kind, is_split, sends, receives, is_sender, is_receiver}
use Rattle.draw_numbers.specs.Numbers.{count_before, is_element, is_task, is_edge, is_start, an_element, a_task, an_edge, is_of, task_of, edge_of, first_edge_of, message_of, default_of}
use Rattle.draw_limits.specs.Excess.{is_fifth_pool, is_one_too_many, is_start_beyond, is_node_beyond, is_ninth, is_flow_beyond, is_used, is_message_beyond, is_maximum_beyond, is_condition_beyond, is_beyond, first_beyond}
use Rattle.draw_model.specs.Drawn.{with_edge, with_condition, received_by, sent_by, with_message, with_form, with_task, with_first, head_of, said_or_true, guarded_by, with_guard, exit_behind, with_branch, exit_by, entering_by, leaving_by, by_flow, element_drawn}
use Rattle.proof_roundtrip.proofs.BlankLaws.{zero_word}
use Rattle.proof_roundtrip.proofs.KindLaws.{of_kind_lem}
use Rattle.proof_drawings.proofs.TestLaws.{and_then, or_left, or_right, more_low, more_high}
use Rattle.proof_drawings.proofs.Shapes.{Edges, Guards, Named, Elsewhere, put_else, Shape, shape_entry, shape_exit, shape_name, shape_fits}
use Rattle.proof_drawings.proofs.SettledLaws.{Settled, with_sort}
use Rattle.proof_drawings.proofs.SaidLaws.{words_of, Says, says_at}
use Rattle.proof_drawings.proofs.KindShapes.{Drawable, by_test, drawn_right, branch_out}
use Rattle.proof_drawings.proofs.GuardShapes.{shape_form, shape_condition}

-- COUNTING
with_column : (s c v : ℕ) (w : List ℕ) (j : ℕ) → is_with s c v w j ≡ true → column c w j ≡ v
unfolding is_with
with_column s c v w j h = eqb-true (column c w j) v (and_right (eqb (sort w j) s) (eqb (column c w j) v) h)

count_next : (s c v : ℕ) (w : List ℕ) (m : ℕ) → count_with s c v w (suc m) ≡ count_with s c v w m + one_if (is_with s c v w m)
unfolding count_with sum
count_next s c v w m = refl

count_none : (s c v : ℕ) (w : List ℕ) → count_with s c v w 0 ≡ 0
unfolding count_with sum
count_none s c v w = refl

counted_first : (s c v : ℕ) (w : List ℕ) (n : ℕ) → count_with s c v w n ≡ 1 → first_with s c v w n < n
unfolding count_with first_with
counted_first s c v w n e = go (dec_lt (seek (is_with s c v w) n) n)
  where
    go : Dec (seek (is_with s c v w) n < n) → seek (is_with s c v w) n < n
    go (yes l) = l
    go (no l) =
        let z = sum-zero (λ j. one_if (is_with s c v w j)) n (λ j h. ap one_if ((sought (is_with s c v w) n).2 j (omega (arith, h, l)))) in
        absurd (omega (arith, z, e))

first_with_lem : (s c v : ℕ) (w : List ℕ) (n : ℕ) → first_with s c v w n < n → is_with s c v w (first_with s c v w n) ≡ true
unfolding first_with
first_with_lem s c v w n l = (sought (is_with s c v w) n).1 l

some_counted : (f : ℕ → Bool) (n m : ℕ) → m < n → f m ≡ true → 0 < sum (λ j. one_if (f j)) n
unfolding sum
some_counted f zero m l h = absurd (omega (arith, l))
some_counted f (suc n) m l h = go (dec_lt m n) (some_counted f n m)
  where
    go : Dec (m < n) → (m < n → f m ≡ true → 0 < sum (λ j. one_if (f j)) n) → 0 < sum (λ j. one_if (f j)) n + one_if (f n)
    go (yes k) before = let p = before k h in omega (arith, p)
    go (no k) before = let e : m ≡ n = omega (arith, l, k) in let q : one_if (f n) ≡ 1 = ap one_if (ap f (sym e) ∙ h) in omega (arith, q)

or_second : (x y : Bool) → y ≡ true → x || y ≡ true
or_second true y h = refl
or_second false y h = h

and_same : (x y : Bool) → x && (y && true) ≡ x && y
and_same true true = refl
and_same true false = refl
and_same false y = refl

used_alike : (h x y : ℕ) → eqb h many ≡ false → used h x ≡ used h y
unfolding used if◌then◌or_else◌
used_alike h x y e = rw e

used_each : (h x : ℕ) → h ≡ many → used h x ≡ x
unfolding used if◌then◌or_else◌
used_each h x e = rw e

always_fits : (c : ℕ) → condition_fits c (always ∷ 0 ∷ 0 ∷ 0 ∷ 0 ∷ []) ≡ true
unfolding condition_fits if◌then◌or_else◌ zeros all
always_fits c = refl

default_fits : condition_fits many (default ∷ 0 ∷ 0 ∷ 0 ∷ 0 ∷ []) ≡ true
unfolding condition_fits if◌then◌or_else◌ zeros all
default_fits = refl

-- a drawing's things have room
pub drawing_few : (t w : List ℕ) (n : ℕ) → is_drawing t w n ≡ true → n ≤ room
unfolding is_drawing
drawing_few t w n h = leb-true n room (and_left (leb n room) _ h)

module _ (t w : List ℕ) (n : ℕ) (drawn : is_drawing t w n ≡ true) (beyond : ltb (first_beyond t w n) n ≡ false) (settled : Settled w n) where
  abbrev owned : Bool
  owned = has_participants w n

  -- NOTHING AMISS
  all_right_lem : all (is_right t w n) n ≡ true
  unfolding is_drawing
  all_right_lem = and_right (has_pool owned w n) (all (is_right t w n) n) (and_right (leb n room) (has_pool owned w n && all (is_right t w n) n) drawn)

  not_amiss : (j : ℕ) → j < n → is_amiss t w n j ≡ false
  unfolding is_right
  not_amiss j l = not-true (is_amiss t w n j) (all_at (is_right t w n) n all_right_lem j l)

  flow_right : (j : ℕ) → j < n → amiss_as_flow t w j ≡ false
  unfolding is_amiss
  flow_right j l = or_left (amiss_as_flow t w j) _ (or_right (is_strange w j) _ (not_amiss j l))

  node_right : (j : ℕ) → j < n → amiss_as_node t w n j ≡ false
  unfolding is_amiss
  node_right j l = or_left (amiss_as_node t w n j) _ (or_right (amiss_as_flow t w j) _ (or_right (is_strange w j) _ (not_amiss j l)))

  branch_right : (j : ℕ) → j < n → is_wrong_branch w j ≡ false
  unfolding amiss_as_flow
  branch_right j l = or_left (is_wrong_branch w j) _ (or_right (is_loose w j) _ (flow_right j l))

  condition_right : (j : ℕ) → j < n → is_wrong_condition t w j ≡ false
  unfolding amiss_as_flow
  condition_right j l = or_left (is_wrong_condition t w j) _ (or_right (is_second_condition w j) _ (or_right (is_wrong_branch w j) _ (or_right (is_loose w j) _ (flow_right j l))))

  some_kind : (j : ℕ) → j < n → is_of_no_kind w j ≡ false
  unfolding amiss_as_node
  some_kind j l = or_left (is_of_no_kind w j) _ (node_right j l)

  heard : (j : ℕ) → j < n → is_unheard w n j ≡ false
  unfolding amiss_as_node
  heard j l = or_left (is_unheard w n j) _ (or_right (has_wrong_default t w n j) _ (or_right (is_of_no_kind w j) _ (node_right j l)))

  told : (j : ℕ) → j < n → is_untold w n j ≡ false
  unfolding amiss_as_node
  told j l = or_right (is_unheard w n j) _ (or_right (has_wrong_default t w n j) _ (or_right (is_of_no_kind w j) _ (node_right j l)))

  -- NOTHING BEYOND
  none_beyond : (j : ℕ) → j < n → is_beyond owned t w n j ≡ false
  unfolding first_beyond
  none_beyond j l = let s = sought (is_beyond owned t w n) n in s.2 j (omega (arith, l, ltb-false (seek (is_beyond owned t w n) n) n beyond))

  node_within : (j : ℕ) → j < n → is_node_beyond w n j ≡ false
  unfolding is_beyond
  node_within j l = or_left (is_node_beyond w n j) _ (or_right (is_fifth_pool owned w j) _ (none_beyond j l))

  flow_within : (j : ℕ) → j < n → is_flow_beyond w j ≡ false
  unfolding is_beyond
  flow_within j l = or_left (is_flow_beyond w j) _ (or_right (is_node_beyond w n j) _ (or_right (is_fifth_pool owned w j) _ (none_beyond j l)))

  message_within : (j : ℕ) → j < n → is_message_beyond w j ≡ false
  unfolding is_beyond
  message_within j l = or_left (is_message_beyond w j) _ (or_right (is_flow_beyond w j) _ (or_right (is_node_beyond w n j) _ (or_right (is_fifth_pool owned w j) _ (none_beyond j l))))

  -- EDGES
  module _ (j : ℕ) (l : j < n) (flow : of_sort sequence_flow w j ≡ true) where
    flow_few : is_one_too_many an_edge edges w j || is_ninth w j ≡ false
    unfolding is_flow_beyond
    flow_few = and_then (of_sort sequence_flow w j) _ flow (flow_within j l)

    edge_few : is_one_too_many an_edge edges w j ≡ false
    edge_few = or_left (is_one_too_many an_edge edges w j) (is_ninth w j) flow_few

    few_out : count_with sequence_flow source_in (source w j) w j < branches
    unfolding is_ninth
    few_out =
        leb-false branches (count_with sequence_flow source_in (source w j) w j)
        (or_left (leb branches (count_with sequence_flow source_in (source w j) w j)) (leb branches (count_with sequence_flow target_in (target w j) w j)) (or_right (is_one_too_many an_edge edges w j) _ flow_few))

    few_in : count_with sequence_flow target_in (target w j) w j < branches
    unfolding is_ninth
    few_in =
        leb-false branches (count_with sequence_flow target_in (target w j) w j)
        (or_right (leb branches (count_with sequence_flow source_in (source w j) w j)) (leb branches (count_with sequence_flow target_in (target w j) w j)) (or_right (is_one_too_many an_edge edges w j) _ flow_few))

    is_edge_lem : is_of_kind kinds.event_based w (source w j) ≡ false → is_of an_edge (things.within w j) w j ≡ true
    unfolding is_of is_edge if◌then◌or_else◌
    is_edge_lem e = and_true (of_sort sequence_flow w j) _ flow (and_true (eqb (things.within w j) (things.within w j)) _ (eq-eqb (things.within w j) (things.within w j) refl) (ap not e))

    edge_low : 1 ≤ edge_of w j
    unfolding edge_of
    edge_low = more_low _

    edge_high : is_of_kind kinds.event_based w (source w j) ≡ false → edge_of w j ≤ edges
    unfolding is_one_too_many edge_of
    edge_high e =
        let c = leb-false edges (count_before (is_of an_edge (things.within w j) w) j) (and_then (is_of an_edge (things.within w j) w j) _ (is_edge_lem e) edge_few) in
        omega (arith, c, more_high (count_before (is_of an_edge (things.within w j) w) j))

  -- MESSAGES
  message_low : (f : ℕ) → f < n → of_sort message_flow w f ≡ true → is_used w f ≡ true → message_of w f < names
  unfolding is_message_beyond
  message_low f l s u = leb-false names (message_of w f) (and_then (is_used w f) _ u (and_then (of_sort message_flow w f) _ s (message_within f l)))

  of_sort_lem : (s f : ℕ) → sort w f ≡ s → of_sort s w f ≡ true
  unfolding of_sort
  of_sort_lem s f e = eq-eqb (sort w f) s e

  received_low : (k : ℕ) → k < n → is_receiver w k ≡ true → received_by w n k < names
  unfolding received_by is_untold is_used is_receiver
  received_low k l r =
      let c = eqb-true (count_with message_flow target_in k w n) 1 (not-false _ (and_then (is_receiver w k) _ r (told k l))) in
      let f = counted_first message_flow target_in k w n c in
      let h = first_with_lem message_flow target_in k w n f in
      let e : target w (first_with message_flow target_in k w n) ≡ k = with_column message_flow target_in k w _ h in
      message_low (first_with message_flow target_in k w n) f (of_sort_lem message_flow _ (with_sort message_flow target_in k w _ h))
      (or_second (is_node (sort w (source w (first_with message_flow target_in k w n)))) (is_node (sort w (target w (first_with message_flow target_in k w n)))) (ap (λ (v : ℕ). is_node (sort w v)) e ∙ and_left (is_node (sort w k)) (receives (kind w k)) r))

  sent_low : (k : ℕ) → k < n → is_sender w k ≡ true → sent_by w n k < names
  unfolding sent_by is_unheard is_used is_sender
  sent_low k l r =
      let c = eqb-true (count_with message_flow source_in k w n) 1 (not-false _ (and_then (is_sender w k) _ r (heard k l))) in
      let f = counted_first message_flow source_in k w n c in
      let h = first_with_lem message_flow source_in k w n f in
      let e : source w (first_with message_flow source_in k w n) ≡ k = with_column message_flow source_in k w _ h in
      message_low (first_with message_flow source_in k w n) f (of_sort_lem message_flow _ (with_sort message_flow source_in k w _ h))
      (or_first _ _ (ap (λ (v : ℕ). is_node (sort w v)) e ∙ and_left (is_node (sort w k)) (sends (kind w k)) r))
    where
      or_first : (x y : Bool) → x ≡ true → x || y ≡ true
      or_first true y h = refl
      or_first false y h = absurd (false≢true h)

  -- A NODE that is an element
  module _ (k : ℕ) (l : k < n) (is : is_element (things.within w k) w k ≡ true) where
    abbrev c : ℕ
    c = kind w k

    node : is_node (sort w k) ≡ true
    unfolding is_element
    node = and_left (is_node (sort w k)) _ is

    not-branch : c ≡ branch → ⊥
    unfolding is_element
    not-branch = eqb-false c branch (not-true (eqb c branch) (and_right (eqb (things.within w k) (things.within w k)) _ (and_right (is_node (sort w k)) _ is)))

    not_none : c ≡ 0 → ⊥
    unfolding is_of_no_kind is_of_kind
    not_none = eqb-false c 0 (and_then (is_node (sort w k)) (eqb c 0) node (some_kind k l))

    kind_is : c ≡ kind_drawn w n k
    kind_is = settled.kinds k l node

    pub its : Drawable c (sort w k) (flows_in w n k) (flows_out w n k)
    its = subst (λ (v : ℕ). Drawable v (sort w k) (flows_in w n k) (flows_out w n k)) (sym kind_is) (drawn_right w n k (λ e. not_none (kind_is ∙ e)) (λ e. not-branch (kind_is ∙ e)))

    -- its row
    row : (f : ℕ → Bool) → all (λ j. f (j + 1)) 15 ≡ true → f c ≡ true
    row f h = of_kind_lem f h c its.low its.high

    abbrev C : ℕ
    C = (kind_of c).conditions

    abbrev M : ℕ
    M = (kind_of c).receives + (kind_of c).sends

    row_letters : not (eqb (kind_of c).letters 0) ≡ true
    unfolding all kind_of
    row_letters = row (λ j. not (eqb (kind_of j).letters 0)) refl

    row_conditions : used C 0 ≡ one_if (eqb (kind_of c).task one)
    unfolding all kind_of used if◌then◌or_else◌
    row_conditions = eqb-true (used C 0) _ (row (λ j. eqb (used (kind_of j).conditions 0) (one_if (eqb (kind_of j).task one))) refl)

    row_messages : used M 0 ≡ one_if (receives c || sends c)
    unfolding all kind_of used receives sends if◌then◌or_else◌
    row_messages = eqb-true (used M 0) _ (row (λ j. eqb (used ((kind_of j).receives + (kind_of j).sends) 0) (one_if (receives j || sends j))) refl)

    row_start : eqb (kind_of c).task one && eqb c kinds.start ≡ false
    unfolding all kind_of
    row_start = not-true _ (row (λ j. not (eqb (kind_of j).task one && eqb j kinds.start)) refl)

    row_branches : eqb c kinds.event_based ≡ false → eqb M many ≡ false
    unfolding all kind_of
    row_branches e = not-true (eqb M many) (subst (λ (b : Bool). b || not (eqb M many) ≡ true) e (row (λ j. eqb j kinds.event_based || not (eqb ((kind_of j).receives + (kind_of j).sends) many)) refl))

    row_guards : eqb c kinds.xor_split ≡ false → eqb C many ≡ false
    unfolding all kind_of
    row_guards e = not-true (eqb C many) (subst (λ (b : Bool). b || not (eqb C many) ≡ true) e (row (λ j. eqb j kinds.xor_split || not (eqb (kind_of j).conditions many)) refl))

    -- THE HEAD
    abbrev x₀ : List ℕ
    x₀ = set (replicate element_words 0) kind_place c

    blank : (i : ℕ) → 0 < i → at x₀ i ≡ 0
    blank i h = get_or-set_other (replicate element_words 0) kind_place i c 0 (λ e. omega (arith, e, h)) ∙ zero_word element_words i

    no_edges : (list : ℕ) → 0 < list → Edges list 0 x₀
    no_edges list h =
        record { few = omega arith; count = blank list h; low = λ j r. absurd (omega (arith, r)); high = λ j r. absurd (omega (arith, r)); none = λ i r u. blank i (omega (arith, r)) }

    base : Shape c 0 0 0 0 0 0 x₀
    base =
        record {
          long = length-set (replicate element_words 0) kind_place c ∙ length-replicate {A = ℕ} element_words 0;
          kind = get_or-set_same (replicate element_words 0) kind_place c 0 (omega (arith, length-replicate {A = ℕ} element_words 0));
          task = blank task_place (omega arith);
          mode = blank mode_place (omega arith);
          entries = no_edges entries_place (omega arith);
          exits = no_edges exits_place (omega arith);
          guards = record { few = omega arith; each = λ b r. absurd (omega (arith, r)); none = λ i r u. blank i (omega (arith, r)) };
          named = record { few = omega arith; each = λ b r. absurd (omega (arith, r)); none = λ i r u h. blank i (omega (arith, r)) };
          tail = λ j r. blank j (omega (arith, r));
        }

    abbrev x₁ : List ℕ
    x₁ = set (set x₀ task_place (task_of w k)) mode_place a

    numbered : Shape c (task_of w k) a 0 0 0 0 x₁
    numbered =
        record {
          long = length-set (set x₀ task_place (task_of w k)) mode_place a ∙ length-set x₀ task_place (task_of w k) ∙ base.long;
          kind = keep kind_place (λ e. omega (arith, e)) (λ e. omega (arith, e)) ∙ base.kind;
          task =
              get_or-set_other (set x₀ task_place (task_of w k)) mode_place task_place a 0 (λ e. omega (arith, e))
              ∙ get_or-set_same x₀ task_place (task_of w k) 0 (omega (arith, base.long));
          mode = get_or-set_same (set x₀ task_place (task_of w k)) mode_place a 0 (omega (arith, length-set x₀ task_place (task_of w k), base.long));
          entries = edges_still entries_place (omega arith) base.entries;
          exits = edges_still exits_place (omega arith) base.exits;
          guards = record { few = omega arith; each = λ b r. absurd (omega (arith, r)); none = λ i r u. still i (omega (arith, r)) };
          named = record { few = omega arith; each = λ b r. absurd (omega (arith, r)); none = λ i r u h. still i (omega (arith, r)) };
          tail = λ j r. still j (omega (arith, r));
        }
      where
        keep : (i : ℕ) → (i ≡ mode_place → ⊥) → (i ≡ task_place → ⊥) → at x₁ i ≡ at x₀ i
        keep i p q = get_or-set_other (set x₀ task_place (task_of w k)) mode_place i a 0 p ∙ get_or-set_other x₀ task_place i (task_of w k) 0 q

        still : (i : ℕ) → mode_place < i → at x₁ i ≡ 0
        still i h = keep i (λ e. omega (arith, e, h)) (λ e. omega (arith, e, h)) ∙ blank i (omega (arith, h))

        edges_still : (list : ℕ) → mode_place < list → Edges list 0 x₀ → Edges list 0 x₁
        edges_still list h e =
            record { few = omega arith; count = still list h; low = λ j r. absurd (omega (arith, r)); high = λ j r. absurd (omega (arith, r)); none = λ i r u. still i (omega (arith, r, h)) }

    -- tasks and starts, by their kinds
    pub task_test : is_task (things.within w k) w k ≡ eqb (kind_of c).task one
    unfolding is_task
    task_test =
        ap (λ (b : Bool). leb things.task (sort w k) && (leb (sort w k) things.receive_task && b)) (eq-eqb (things.within w k) (things.within w k) refl)
        ∙ and_same (leb things.task (sort w k)) (leb (sort w k) things.receive_task)
        ∙ sym its.tasks

    start_test : is_start (things.within w k) w k ≡ eqb c kinds.start
    unfolding is_start is_of_kind
    start_test =
        ap₂ (λ x y. (x && eqb c kinds.start) && y) node (eq-eqb (things.within w k) (things.within w k) refl)
        ∙ and-true (eqb c kinds.start)

    abbrev number : Bool → ℕ
    number b = if b then task_of w k or_else 0

    abbrev mode : Bool → ℕ
    mode b = if b then a or_else 0

    task_high : eqb (kind_of c).task one ≡ true → task_of w k ≤ tasks
    unfolding is_node_beyond is_one_too_many task_of
    task_high e =
        let m = or_left (is_one_too_many a_task tasks w k) _ (or_right (is_one_too_many an_element elements w k) _ (node_within k l)) in
        let h : is_of a_task (things.within w k) w k ≡ true = (unfold is_of if◌then◌or_else◌ in task_test ∙ e) in
        let d = leb-false tasks (count_before (is_of a_task (things.within w k) w) k) (and_then (is_of a_task (things.within w k) w k) _ h m) in
        omega (arith, d, more_high (count_before (is_of a_task (things.within w k) w) k))

    first_high : eqb c kinds.start ≡ true → first_edge_of w n k ≤ edges
    unfolding is_node_beyond is_start_beyond
    first_high e =
        ltb-false edges (first_edge_of w n k)
        (and_then (is_start (things.within w k) w k) _ (start_test ∙ e) (or_right (is_one_too_many a_task tasks w k) _ (or_right (is_one_too_many an_element elements w k) _ (node_within k l))))

    first_low : 1 ≤ first_edge_of w n k
    unfolding first_edge_of
    first_low = more_low _

    with_first_is : with_first w n k x₀ ≡ (if eqb (kind_of c).task one then with_task w k x₀ or_else if eqb c kinds.start then with_edge entries_place (first_edge_of w n k) x₀ or_else x₀)
    unfolding with_first
    with_first_is = ap₂ (λ x y. if x then with_task w k x₀ or_else if y then with_edge entries_place (first_edge_of w n k) x₀ or_else x₀) task_test start_test

    first_shape : (x y : Bool) → eqb (kind_of c).task one ≡ x → eqb c kinds.start ≡ y
        → Shape c (number x) (mode x) (one_if y) 0 (one_if x) 0 (if x then with_task w k x₀ or_else if y then with_edge entries_place (first_edge_of w n k) x₀ or_else x₀)
    unfolding if◌then◌or_else◌ with_task
    first_shape true true p q = absurd (false≢true (sym row_start ∙ ap₂ ◌&&◌ p q))
    first_shape true false p q = shape_form c (task_of w k) a 0 0 0 0 x₁ numbered (omega arith) always (always_fits C)
    first_shape false true p q = shape_entry c 0 0 0 0 0 0 x₀ base (first_edge_of w n k) (omega arith) first_low (first_high q)
    first_shape false false p q = base

    abbrev T : ℕ
    T = number (eqb (kind_of c).task one)

    abbrev D : ℕ
    D = mode (eqb (kind_of c).task one)

    message_shape : (i g : ℕ) (x : List ℕ) → Shape c T D i 0 g 0 x → (p q : Bool) → is_receiver w k ≡ p → is_sender w k ≡ q
        → Shape c T D i 0 g (one_if (p || q)) (if p then set x (message_place 0) (received_by w n k) or_else if q then set x (message_place 0) (sent_by w n k) or_else x)
    unfolding if◌then◌or_else◌
    message_shape i g x s true q e f = shape_name c T D i 0 g 0 x s (received_by w n k) (omega arith) (received_low k l e)
    message_shape i g x s false true e f = shape_name c T D i 0 g 0 x s (sent_by w n k) (omega arith) (sent_low k l f)
    message_shape i g x s false false e f = s

    receiver_is : is_receiver w k ≡ receives c
    unfolding is_receiver
    receiver_is = ap (λ (b : Bool). b && receives c) node

    sender_is : is_sender w k ≡ sends c
    unfolding is_sender
    sender_is = ap (λ (b : Bool). b && sends c) node

    head_shape : Shape c T D (one_if (eqb c kinds.start)) 0 (used C 0) (used M 0) (head_of w n k)
    unfolding head_of with_message
    head_shape =
        subst (λ (q : ℕ). Shape c T D (one_if (eqb c kinds.start)) 0 (used C 0) q (head_of w n k)) (ap one_if (ap₂ ◌||◌ receiver_is sender_is) ∙ sym row_messages)
        (message_shape (one_if (eqb c kinds.start)) (used C 0) (with_first w n k x₀)
        (subst (λ (g : ℕ). Shape c T D (one_if (eqb c kinds.start)) 0 g 0 (with_first w n k x₀)) (sym row_conditions)
        (subst (Shape c T D (one_if (eqb c kinds.start)) 0 (one_if (eqb (kind_of c).task one)) 0) (sym with_first_is) (first_shape (eqb (kind_of c).task one) (eqb c kinds.start) refl refl)))
        (is_receiver w k) (is_sender w k) refl refl)

    -- GUARDS
    right_form : (f : ℕ) → f < n → sort w f ≡ condition_expression → ((condition_at t (place w f)).form ≡ absent → ⊥) → (condition_at t (place w f)).form ≡ foreign → ⊥
    unfolding is_wrong_condition is_wrong_form
    right_form f h s p q =
        let e = and_then (of_sort condition_expression w f) _ (of_sort_lem condition_expression f s) (condition_right f h) in
        let u = and_then (not (eqb (condition_at t (place w f)).form absent)) _ (ap not (ne_eqb (condition_at t (place w f)).form absent p)) e in
        eqb-false (condition_at t (place w f)).form foreign (or_left (eqb (condition_at t (place w f)).form foreign) _ u) q

    module _ (j i o g q : ℕ) (x : List ℕ) (m : C ≡ many) (h : g < branches) (s : Shape c T D i o g q x) where
      abbrev f : ℕ
      f = first_with condition_expression within_in j w n

      abbrev Guarded : List ℕ → Type 0
      Guarded = Shape c T D i o (g + 1) q

      true_shape : Guarded (with_form g always x)
      true_shape = shape_form c T D i o g q x s h always (always_fits C)

      said_shape : f < n → ((condition_at t (place w f)).form ≡ absent → ⊥) → Guarded (with_condition (condition_at t (place w f)) g x)
      said_shape u v =
          let y = with_sort condition_expression within_in j w f (first_with_lem condition_expression within_in j w n u) in
          shape_condition c T D i o g q x s h (condition_at t (place w f))
          (ap (λ (z : ℕ). condition_fits z (words_of (condition_at t (place w f)))) m ∙ (says_at t (place w f)).fits v (right_form f u y v))

      guard_shape : Guarded (with_guard t w n k j g x)
      unfolding with_guard guarded_by said_or_true
      guard_shape =
          by_test Guarded (eqb (default_of t w n k) j) _ _ (λ e. shape_form c T D i o g q x s h default (ap (λ (v : ℕ). condition_fits v (default ∷ 0 ∷ 0 ∷ 0 ∷ 0 ∷ [])) m ∙ default_fits))
          (λ e. by_test Guarded (ltb f n) _ _ (λ u. by_test Guarded (eqb (condition_at t (place w f)).form absent) _ _ (λ v. true_shape) (λ v. said_shape (ltb-true f n u) (eqb-false (condition_at t (place w f)).form absent v)))
          (λ u. true_shape))

    -- EXITS
    module _ (j : ℕ) (h : j < n) (flow : of_sort sequence_flow w j ≡ true) (from : source w j ≡ k) where
      room_out : count_with sequence_flow source_in k w j < branches
      room_out = subst (λ (v : ℕ). count_with sequence_flow source_in v w j < branches) from (few_out j h flow)

      -- what stands behind an event gateway
      module _ (e : eqb c kinds.event_based ≡ true) where
        gateway : is_of_kind kinds.event_based w (source w j) ≡ true
        unfolding is_of_kind
        gateway = ap (λ (v : ℕ). is_node (sort w v) && eqb (kind w v) kinds.event_based) from ∙ and_true (is_node (sort w k)) (eqb c kinds.event_based) node e

        caught : is_of_kind branch w (target w j) ≡ true
        unfolding is_wrong_branch
        caught = not-false (is_of_kind branch w (target w j)) (and_then (is_of_kind kinds.event_based w (source w j)) _ gateway (and_then (of_sort sequence_flow w j) _ flow (branch_right j h)))

        caught_node : is_node (sort w (target w j)) ≡ true
        unfolding is_of_kind
        caught_node = and_left (is_node (sort w (target w j))) (eqb (kind w (target w j)) branch) caught

        caught_kind : kind w (target w j) ≡ branch
        unfolding is_of_kind
        caught_kind = eqb-true (kind w (target w j)) branch (and_right (is_node (sort w (target w j))) (eqb (kind w (target w j)) branch) caught)

        its_target : target w j < n
        unfolding of_sort
        its_target = settled.targets j h (eqb-true (sort w j) sequence_flow flow)

        receiver : is_receiver w (target w j) ≡ true
        unfolding is_receiver receives
        receiver = and_true (is_node (sort w (target w j))) _ caught_node (ap receives caught_kind)

        message_name_lem : received_by w n (target w j) < names
        message_name_lem = received_low (target w j) its_target receiver

        abbrev behind : ℕ
        behind = first_with sequence_flow source_in (target w j) w n

        behind_low : behind < n
        behind_low = counted_first sequence_flow source_in (target w j) w n (unfold flows_out in branch_out w n (target w j) (sym (settled.kinds (target w j) its_target caught_node) ∙ caught_kind))

        behind_is : is_with sequence_flow source_in (target w j) w behind ≡ true
        behind_is = first_with_lem sequence_flow source_in (target w j) w n behind_low

        behind_flow : of_sort sequence_flow w behind ≡ true
        behind_flow = of_sort_lem sequence_flow behind (with_sort sequence_flow source_in (target w j) w behind behind_is)

        behind_from : is_of_kind kinds.event_based w (source w behind) ≡ false
        unfolding is_of_kind
        behind_from =
            ap (λ (v : ℕ). is_node (sort w v) && eqb (kind w v) kinds.event_based) (with_column sequence_flow source_in (target w j) w behind behind_is)
            ∙ ap₂ (λ x v. x && eqb v kinds.event_based) caught_node caught_kind

      plain_from : eqb c kinds.event_based ≡ false → is_of_kind kinds.event_based w (source w j) ≡ false
      unfolding is_of_kind
      plain_from e = ap (λ (v : ℕ). is_node (sort w v) && eqb (kind w v) kinds.event_based) from ∙ ap₂ ◌&&◌ node e

      module _ (i o : ℕ) (x : List ℕ) (r : o ≡ count_with sequence_flow source_in k w j) (s : Shape c T D i o (used C o) (used M o) x) where
        abbrev Left : List ℕ → Type 0
        Left = Shape c T D i (o + 1) (used C (o + 1)) (used M (o + 1))

        room_now : o < branches
        room_now = omega (arith, r, room_out)

        again : (g q : ℕ) (y : List ℕ) → used C (o + 1) ≡ g → used M (o + 1) ≡ q → Shape c T D i (o + 1) g q y → Left y
        again g q y p e z = subst (λ (v : ℕ). Shape c T D i (o + 1) v (used M (o + 1)) y) (sym p) (subst (λ (v : ℕ). Shape c T D i (o + 1) g v y) (sym e) z)

        events : eqb c kinds.event_based ≡ true → Left (with_branch w n j x)
        unfolding with_branch exit_behind kind_of
        events e =
            let eight = eqb-true c kinds.event_based e in
            let m : M ≡ many = ap (λ (v : ℕ). (kind_of v).receives + (kind_of v).sends) eight in
            let g : eqb C many ≡ false = ap (λ (v : ℕ). eqb (kind_of v).conditions many) eight in
            let f : ℕ = received_by w n (target w j) in
            let y : List ℕ = set x (message_place (at x exits_place)) f in
            let z : Shape c T D i o (used C o) (used M o + 1) y =
            subst (λ (b : ℕ). Shape c T D i o (used C o) (used M o + 1) (set x (message_place b) f)) (used_each M o m ∙ sym s.exits.count)
            (shape_name c T D i o (used C o) (used M o) x s f (omega (arith, room_now, used_each M o m)) (message_name_lem e)) in
            again (used C o) (used M o + 1) _ (used_alike C (o + 1) o g) (used_each M (o + 1) m ∙ ap (λ (v : ℕ). v + 1) (sym (used_each M o m)))
            (shape_exit c T D i o (used C o) (used M o + 1) y z (edge_of w (behind e)) room_now (edge_low (behind e) (behind_low e) (behind_flow e)) (edge_high (behind e) (behind_low e) (behind_flow e) (behind_from e)))

        guarded : eqb c kinds.event_based ≡ false → eqb c kinds.xor_split ≡ true → Left (with_edge exits_place (edge_of w j) (with_guard t w n k j (at x exits_place) x))
        unfolding kind_of
        guarded p e =
            let m : C ≡ many = ap (λ (v : ℕ). (kind_of v).conditions) (eqb-true c kinds.xor_split e) in
            let y : List ℕ = with_guard t w n k j (at x exits_place) x in
            let z : Shape c T D i o (used C o + 1) (used M o) y =
            subst (λ (b : ℕ). Shape c T D i o (used C o + 1) (used M o) (with_guard t w n k j b x)) (used_each C o m ∙ sym s.exits.count)
            (guard_shape j i o (used C o) (used M o) x m (omega (arith, room_now, used_each C o m)) s) in
            again (used C o + 1) (used M o) _ (used_each C (o + 1) m ∙ ap (λ (v : ℕ). v + 1) (sym (used_each C o m))) (used_alike M (o + 1) o (row_branches p))
            (shape_exit c T D i o (used C o + 1) (used M o) y z (edge_of w j) room_now (edge_low j h flow) (edge_high j h flow (plain_from p)))

        plain : eqb c kinds.event_based ≡ false → eqb c kinds.xor_split ≡ false → Left (with_edge exits_place (edge_of w j) x)
        plain p q =
            again (used C o) (used M o) _ (used_alike C (o + 1) o (row_guards q)) (used_alike M (o + 1) o (row_branches p))
            (shape_exit c T D i o (used C o) (used M o) x s (edge_of w j) room_now (edge_low j h flow) (edge_high j h flow (plain_from p)))

        exit_shape : Left (exit_by t w n k j x)
        unfolding exit_by
        exit_shape = by_test Left (eqb c kinds.event_based) _ _ events (λ p. by_test Left (eqb c kinds.xor_split) _ _ (guarded p) (plain p))

    -- FLOW BY FLOW
    pub record After (m : ℕ) (x : List ℕ) : Type 0 where
      pub ins : ℕ
      pub outs : ℕ
      pub ins_are : ins ≡ one_if (eqb c kinds.start) + count_with sequence_flow target_in k w m
      pub outs_are : outs ≡ count_with sequence_flow source_in k w m
      pub shape : Shape c T D ins outs (used C outs) (used M outs) x

    module _ (j : ℕ) (h : j < n) (flow : of_sort sequence_flow w j ≡ true) where
      abbrev into : Bool
      into = eqb (target w j) k

      abbrev out : Bool
      out = eqb (source w j) k

      is_into : is_with sequence_flow target_in k w j ≡ into
      unfolding is_with of_sort
      is_into = ap (λ (b : Bool). b && eqb (target w j) k) flow

      is_out : is_with sequence_flow source_in k w j ≡ out
      unfolding is_with of_sort
      is_out = ap (λ (b : Bool). b && eqb (source w j) k) flow

      plain_into : target w j ≡ k → is_of_kind kinds.event_based w (source w j) ≡ false
      plain_into e = go (is_of_kind kinds.event_based w (source w j)) refl
        where
          kind_of_lem : is_of_kind branch w (target w j) ≡ true → kind w k ≡ branch
          kind_of_lem u = unfold is_of_kind in ap (kind w) (sym e) ∙ eqb-true (kind w (target w j)) branch (and_right (is_node (sort w (target w j))) (eqb (kind w (target w j)) branch) u)

          wrong : is_of_kind kinds.event_based w (source w j) ≡ true → is_of_kind branch w (target w j) ≡ true
          wrong u = unfold is_wrong_branch in not-false (is_of_kind branch w (target w j)) (and_then (is_of_kind kinds.event_based w (source w j)) _ u (and_then (of_sort sequence_flow w j) _ flow (branch_right j h)))

          go : (b : Bool) → is_of_kind kinds.event_based w (source w j) ≡ b → b ≡ false
          go true u = absurd (not-branch (kind_of_lem (wrong u)))
          go false u = refl

      -- a start has no flow in
      no_start : target w j ≡ k → one_if (eqb c kinds.start) ≡ 0
      no_start e = go (eqb c kinds.start) refl
        where
          some : 0 < count_with sequence_flow target_in k w n
          some = unfold count_with in some_counted (is_with sequence_flow target_in k w) n j h (is_into ∙ eq-eqb (target w j) k e)

          go : (b : Bool) → eqb c kinds.start ≡ b → one_if b ≡ 0
          go true u = absurd (let z : count_with sequence_flow target_in k w n ≡ 0 = (unfold flows_in in its.first u) in omega (arith, z, some))
          go false u = refl

      room_in : target w j ≡ k → one_if (eqb c kinds.start) + count_with sequence_flow target_in k w j < branches
      room_in e =
          let z = no_start e in
          let f : count_with sequence_flow target_in k w j < branches = subst (λ (v : ℕ). count_with sequence_flow target_in v w j < branches) e (few_in j h flow) in
          omega (arith, z, f)

      entered : (i o g q : ℕ) (x : List ℕ) → i ≡ one_if (eqb c kinds.start) + count_with sequence_flow target_in k w j → Shape c T D i o g q x → (b : Bool) → into ≡ b
          → Shape c T D (i + one_if b) o g q (if b then with_edge entries_place (edge_of w j) x or_else x)
      unfolding if◌then◌or_else◌
      entered i o g q x r s true e =
          let to = eqb-true (target w j) k e in
          let z = room_in to in
          shape_entry c T D i o g q x s (edge_of w j) (omega (arith, r, z)) (edge_low j h flow) (edge_high j h flow (plain_into to))
      entered i o g q x r s false e = subst (λ (v : ℕ). Shape c T D v o g q x) (let z : i ≡ i + 0 = omega arith in z) s

      left : (i o : ℕ) (x : List ℕ) → o ≡ count_with sequence_flow source_in k w j → Shape c T D i o (used C o) (used M o) x → (b : Bool) → out ≡ b
          → Shape c T D i (o + one_if b) (used C (o + one_if b)) (used M (o + one_if b)) (if b then exit_by t w n k j x or_else x)
      unfolding if◌then◌or_else◌
      left i o x r s true e = exit_shape j h flow (eqb-true (source w j) k e) i o x r s
      left i o x r s false e = subst (λ (v : ℕ). Shape c T D i v (used C v) (used M v) x) (let z : o ≡ o + 0 = omega arith in z) s

      next_flow : (x : List ℕ) → After j x → After (suc j) (leaving_by t w n k j (entering_by w k j x))
      unfolding leaving_by entering_by
      next_flow x s =
          let p = count_next sequence_flow target_in k w j in
          let q = count_next sequence_flow source_in k w j in
          let u = ap one_if is_into in
          let v = ap one_if is_out in
          record {
            ins = s.ins + one_if into;
            outs = s.outs + one_if out;
            ins_are = omega (arith, s.ins_are, p, u);
            outs_are = omega (arith, s.outs_are, q, v);
            shape =
                left (s.ins + one_if into) s.outs (if into then with_edge entries_place (edge_of w j) x or_else x) s.outs_are
                (entered s.ins s.outs (used C s.outs) (used M s.outs) x s.ins_are s.shape into refl) out refl;
          }

    no_flow : (j c' : ℕ) → of_sort sequence_flow w j ≡ false → is_with sequence_flow c' k w j ≡ false
    unfolding is_with of_sort
    no_flow j c' e = ap (λ (b : Bool). b && eqb (column c' w j) k) e

    next : (j : ℕ) → j < n → (x : List ℕ) → After j x → After (suc j) (by_flow t w n k j x)
    unfolding by_flow
    next j h x s =
        by_test (After (suc j)) (of_sort sequence_flow w j) _ _ (λ e. next_flow j h e x s)
        (λ e.
        let p = count_next sequence_flow target_in k w j in
        let q = count_next sequence_flow source_in k w j in
        let u = ap one_if (no_flow j target_in e) in
        let v = ap one_if (no_flow j source_in e) in
        record { ins = s.ins; outs = s.outs; ins_are = omega (arith, s.ins_are, p, u); outs_are = omega (arith, s.outs_are, q, v); shape = s.shape })

    all_flows : (m : ℕ) → m ≤ n → After m (iter (by_flow t w n k) (head_of w n k) m)
    unfolding iter
    all_flows zero h =
        let p = count_none sequence_flow target_in k w in
        record { ins = one_if (eqb c kinds.start); outs = 0; ins_are = omega (arith, p); outs_are = sym (count_none sequence_flow source_in k w); shape = head_shape }
    all_flows (suc m) h = next m (omega (arith, h)) (iter (by_flow t w n k) (head_of w n k) m) (all_flows m (omega (arith, h)))

    task_low : 1 ≤ task_of w k
    unfolding task_of
    task_low = more_low _

    task_fits_lem : (b : Bool) → eqb (kind_of c).task one ≡ b → (if b then within 1 tasks (number b) && within a na_nc (mode b) or_else eqb (number b) 0 && eqb (mode b) 0) ≡ true
    unfolding if◌then◌or_else◌
    task_fits_lem true e = and_true _ _ (and_true _ _ (le-leb 1 (task_of w k) task_low) (le-leb (task_of w k) tasks (task_high e))) refl
    task_fits_lem false e = refl

    -- what the element is, whole
    pub whole : After n (element_drawn t w n k)
    unfolding element_drawn
    whole = all_flows n (omega arith)

    -- THE LAW
    pub never_unfit : element_fits (element_drawn t w n k) ≡ true
    unfolding flows_in flows_out
    never_unfit =
        let s = whole in
        let i = s.ins_are in
        let o = s.outs_are in
        shape_fits c T D s.ins s.outs (used C s.outs) (used M s.outs) (element_drawn t w n k) s.shape row_letters (task_fits_lem (eqb (kind_of c).task one) refl)
        (ap (count_fits (kind_of c).entries) i ∙ its.entries (let e = s.shape.entries.few in omega (arith, e, i)))
        (ap (count_fits (kind_of c).exits) o ∙ its.exits (let e = s.shape.exits.few in omega (arith, e, o)))
        refl refl
