-- What things draw round a node, one more of them; and which nodes are settled. Assumes nothing.
use mathlib.Core.Path.{◌≡◌, ◌∙◌, refl, sym, ap}
use mathlib.Core.Bool.{Bool, true, false}
use mathlib.Core.List.{List}
use mathlib.Core.Logic.{⊎_elim}
use Prim.Native.Nat.{ℕ, zero, suc, ◌+◌, ◌-◌, ◌≤◌, ◌<◌}
use native.Mathlib.Nat.{not-suc-le-zero, le_of_suc-le-suc, eq-or-lt_of_le, min-eq_left, min-eq_right}
use native.Mathlib.Omega.{arith}
use lib.Dec.{eqb}
use lib.Seq.{get_or-set_other}
use borrow.Author.Tests.{eq-eqb, ne_eqb, le-leb, lt-leb, leb-true, leb-false}
use Rattle.base_words.specs.Iter.{iter}
use Rattle.base_words.specs.Pick.{if◌then◌or_else◌}
use Rattle.base_words.specs.Seek.{seek}
use Rattle.base_words.specs.Sum.{sum, one_if}
use Rattle.base_words.proofs.IterLaws.{iter_more}
use Rattle.base_words.proofs.SumLaws.{sum_more, sum_le}
use Rattle.base_words.proofs.SeekLaws.{seek_more, seek_found, seek_done, sought}
use Rattle.draw_things.specs.Things.{sort, source, target, within, is_node, with_source, source_place, sort_place, sequence_flow, message_event_definition, terminate_event_definition, start_event, end_event, intermediate_catch_event}
use Rattle.draw_kinds.specs.declared.Shape.{Shape}
use Rattle.draw_kinds.specs.Counting.{within_in, source_in, target_in, column, is_with, count_with}
use Rattle.draw_kinds.specs.Roles.{flows_in, flows_out, messages_of, terminates_of, shape_of, Before, start_drawn, end_drawn, intermediate, kind_by, kind_drawn, kind_settled, roles, is_unsettled, first_unsettled, are_settled, settled_up_to}

-- COUNTS, one thing more
one_few : (b : Bool) → one_if b ≤ 1
one_few true = omega arith
one_few false = omega arith

module _ (s c v : ℕ) (w : List ℕ) where
  pub count_few : (n : ℕ) → count_with s c v w n ≤ n
  unfolding count_with
  count_few n = omega (arith, sum_le (λ j. one_if (is_with s c v w j)) 1 n (λ k l. one_few (is_with s c v w k)))

  -- with thing j
  count_last : (j x a : ℕ) → x ≡ count_with s c v w j → a ≡ one_if (is_with s c v w j) → x + a ≡ count_with s c v w (j + 1)
  unfolding count_with
  count_last j x a p q = sum_more (λ j. one_if (is_with s c v w j)) j x a p q

  count_same : (j x : ℕ) → x ≡ count_with s c v w j → 0 ≡ one_if (is_with s c v w j) → x ≡ count_with s c v w (j + 1)
  count_same j x p q = let z : x ≡ x + 0 = omega arith in z ∙ count_last j x 0 p q

module _ (w : List ℕ) (s c v j : ℕ) where
  -- of that sort, by its column x; of another sort
  one_here : (x r : ℕ) → sort w j ≡ s → x ≡ column c w j → r ≡ one_if (eqb x v) → r ≡ one_if (is_with s c v w j)
  unfolding is_with
  one_here x r e f h = rw (eq-eqb (sort w j) s e, ← f) h

  none_here : (sort w j ≡ s → ⊥) → 0 ≡ one_if (is_with s c v w j)
  unfolding is_with
  none_here e = rw (ne_eqb (sort w j) s e) refl

module _ (w : List ℕ) (j k : ℕ) (d : Shape) (b : Before w (j + 1) k d) where
  was : d ≡ shape_of w j k
  was = b.5 ∙ ap (λ (m : ℕ). shape_of w m k) (let z : j + 1 - 1 ≡ j = omega arith in z)

  shape_by : (i o m e : ℕ) → i ≡ flows_in w (j + 1) k → o ≡ flows_out w (j + 1) k → m ≡ messages_of w (j + 1) k → e ≡ terminates_of w (j + 1) k → record { ins = i; outs = o; messages = m; terminates = e } ≡ shape_of w (j + 1) k
  unfolding shape_of
  shape_by i o m e pi po pm pe = λ z. record { ins = pi z; outs = po z; messages = pm z; terminates = pe z }

  was_ins : d.ins ≡ flows_in w j k
  unfolding shape_of
  was_ins = ap (λ (x : Shape). x.ins) was

  was_outs : d.outs ≡ flows_out w j k
  unfolding shape_of
  was_outs = ap (λ (x : Shape). x.outs) was

  was_messages : d.messages ≡ messages_of w j k
  unfolding shape_of
  was_messages = ap (λ (x : Shape). x.messages) was

  was_terminates : d.terminates ≡ terminates_of w j k
  unfolding shape_of
  was_terminates = ap (λ (x : Shape). x.terminates) was

  -- the last thing is no flow, no message, no terminate
  no_flow_in : (sort w j ≡ sequence_flow → ⊥) → d.ins ≡ flows_in w (j + 1) k
  unfolding flows_in
  no_flow_in e = count_same sequence_flow target_in k w j d.ins was_ins (none_here w sequence_flow target_in k j e)

  no_flow_out : (sort w j ≡ sequence_flow → ⊥) → d.outs ≡ flows_out w (j + 1) k
  unfolding flows_out
  no_flow_out e = count_same sequence_flow source_in k w j d.outs was_outs (none_here w sequence_flow source_in k j e)

  no_message : (sort w j ≡ message_event_definition → ⊥) → d.messages ≡ messages_of w (j + 1) k
  unfolding messages_of
  no_message e = count_same message_event_definition within_in k w j d.messages was_messages (none_here w message_event_definition within_in k j e)

  no_terminate : (sort w j ≡ terminate_event_definition → ⊥) → d.terminates ≡ terminates_of w (j + 1) k
  unfolding terminates_of
  no_terminate e = count_same terminate_event_definition within_in k w j d.terminates was_terminates (none_here w terminate_event_definition within_in k j e)

  pub shape_flow : sort w j ≡ sequence_flow → (x y i o : ℕ) → x ≡ target w j → i ≡ one_if (eqb x k) → y ≡ source w j → o ≡ one_if (eqb y k) → record { ins = d.ins + i; outs = d.outs + o; messages = d.messages; terminates = d.terminates } ≡ shape_of w (j + 1) k
  unfolding flows_in flows_out
  shape_flow e x y i o ex hi ey ho =
      shape_by (d.ins + i) (d.outs + o) d.messages d.terminates
      (count_last sequence_flow target_in k w j d.ins i was_ins (one_here w sequence_flow target_in k j x i e ex hi))
      (count_last sequence_flow source_in k w j d.outs o was_outs (one_here w sequence_flow source_in k j y o e ey ho))
      (no_message (λ q. omega (arith, e, q)))
      (no_terminate (λ q. omega (arith, e, q)))

  pub shape_message : sort w j ≡ message_event_definition → (x m : ℕ) → x ≡ within w j → m ≡ one_if (eqb x k) → record { ins = d.ins; outs = d.outs; messages = d.messages + m; terminates = d.terminates } ≡ shape_of w (j + 1) k
  unfolding messages_of
  shape_message e x m ex hm =
      shape_by d.ins d.outs (d.messages + m) d.terminates
      (no_flow_in (λ q. omega (arith, e, q)))
      (no_flow_out (λ q. omega (arith, e, q)))
      (count_last message_event_definition within_in k w j d.messages m was_messages (one_here w message_event_definition within_in k j x m e ex hm))
      (no_terminate (λ q. omega (arith, e, q)))

  pub shape_terminate : sort w j ≡ terminate_event_definition → (x t : ℕ) → x ≡ within w j → t ≡ one_if (eqb x k) → record { ins = d.ins; outs = d.outs; messages = d.messages; terminates = d.terminates + t } ≡ shape_of w (j + 1) k
  unfolding terminates_of
  shape_terminate e x t ex ht =
      shape_by d.ins d.outs d.messages (d.terminates + t)
      (no_flow_in (λ q. omega (arith, e, q)))
      (no_flow_out (λ q. omega (arith, e, q)))
      (no_message (λ q. omega (arith, e, q)))
      (count_last terminate_event_definition within_in k w j d.terminates t was_terminates (one_here w terminate_event_definition within_in k j x t e ex ht))

  pub shape_other : (s : ℕ) → s ≡ sort w j → (s ≡ sequence_flow → ⊥) → (s ≡ message_event_definition → ⊥) → (s ≡ terminate_event_definition → ⊥) → d ≡ shape_of w (j + 1) k
  unfolding shape_of
  shape_other s es f m t =
      shape_by d.ins d.outs d.messages d.terminates (no_flow_in (λ q. f (es ∙ q))) (no_flow_out (λ q. f (es ∙ q))) (no_message (λ q. m (es ∙ q))) (no_terminate (λ q. t (es ∙ q)))

-- the loop's next turn, and its first
module _ (w : List ℕ) (k : ℕ) where
  pub before_next : (j : ℕ) (d : Shape) → d ≡ shape_of w j k → Before w (j + 1) k d
  unfolding shape_of flows_in flows_out messages_of terminates_of
  before_next j d e =
      rw (let z : j + 1 - 1 ≡ j = omega arith in z)
      (omega arith, omega (arith, ap (λ (x : Shape). x.ins) e, count_few sequence_flow target_in k w j), omega (arith, ap (λ (x : Shape). x.outs) e, count_few sequence_flow source_in k w j), omega (arith, ap (λ (x : Shape). x.messages) e, count_few message_event_definition within_in k w j), omega (arith, ap (λ (x : Shape). x.terminates) e, count_few terminate_event_definition within_in k w j), e)

  pub shape_none : record { ins = 0; outs = 0; messages = 0; terminates = 0 } ≡ shape_of w 0 k
  unfolding shape_of flows_in flows_out messages_of terminates_of count_with sum
  shape_none = refl

-- WHAT IS CAUGHT is asked of a catch event alone
caught_once : (b : Bool) (f : ℕ → ℕ) (c y : ℕ) → (if b then f (if b then c or_else 0) or_else y) ≡ (if b then f c or_else y)
unfolding if◌then◌or_else◌
caught_once true f c y = refl
caught_once false f c y = refl

pub kind_caught : (s c : ℕ) (d : Shape) → kind_by s (if eqb s intermediate_catch_event then c or_else 0) d ≡ kind_by s c d
unfolding kind_by
kind_caught s c d = ap (λ z. if eqb s start_event then start_drawn d or_else if eqb s end_event then end_drawn d or_else z) (caught_once (eqb s intermediate_catch_event) (λ v. intermediate v d) c _)

-- SETTLED NODES stay as they are
module _ (n : ℕ) where
  unsettled_in : (b : Bool) (m k x : ℕ) (v : List ℕ) → k < m → is_unsettled (if b then with_source v m x or_else v) k ≡ is_unsettled v k
  unfolding is_unsettled if◌then◌or_else◌
  unsettled_in true m k x v h = rw (get_or-set_other v (source_place m) (sort_place k) x 0 (λ e. omega arith), get_or-set_other v (source_place m) (source_place k) x 0 (λ e. omega arith)) refl
  unsettled_in false m k x v h = refl

  stays : (m k : ℕ) (v : List ℕ) → k < m → is_unsettled (kind_settled n m v) k ≡ is_unsettled v k
  unfolding kind_settled
  stays m k v h = unsettled_in (is_node (sort v m)) m k (kind_drawn v n m) v h

  later : (w : List ℕ) (m k : ℕ) → k < m → is_unsettled (iter (kind_settled n) w m) k ≡ is_unsettled (iter (kind_settled n) w (k + 1)) k
  unfolding iter
  later w zero k h = absurd (not-suc-le-zero h)
  later w (suc m) k h =
      ⊎_elim (λ q. ap (λ (j : ℕ). is_unsettled (iter (kind_settled n) w j) k) (let z : suc m ≡ k + 1 = omega arith in z))
      (λ lt. stays m k (iter (kind_settled n) w m) lt ∙ later w m k lt)
      (eq-or-lt_of_le (le_of_suc-le-suc h))

-- a turn of the loop, from v to u at node k
module _ (n : ℕ) (w : List ℕ) (k : ℕ) (v u : List ℕ) (h : k < n) (ev : v ≡ iter (kind_settled n) w k) (eu : u ≡ kind_settled n k v) (es : seek (is_unsettled (roles n w)) k ≡ k) (r : Bool) (er : r ≡ is_unsettled u k) where
  on : u ≡ iter (kind_settled n) w (k + 1)
  on = iter_more (kind_settled n) w k v u ev eu

  told : (b : Bool) → r ≡ b → is_unsettled (roles n w) k ≡ b
  unfolding roles
  told b e = later n w n k h ∙ ap (λ (x : List ℕ). is_unsettled x k) (sym on) ∙ sym er ∙ e

  pub kinds_on : r ≡ false → seek (is_unsettled (roles n w)) (k + 1) ≡ k + 1
  kinds_on e = seek_more (is_unsettled (roles n w)) k es (told false e)

  pub kinds_stop : r ≡ true → (false ≡ are_settled n w) × (u ≡ settled_up_to n w)
  unfolding are_settled settled_up_to first_unsettled
  kinds_stop e =
      let f : k ≡ seek (is_unsettled (roles n w)) n = seek_found (is_unsettled (roles n w)) n k h es (told true e) in
      rw (← f) (sym (lt-leb n k h), on ∙ ap (iter (kind_settled n) w) (sym (min-eq_left (let z : k + 1 ≤ n = omega arith in z))))

module _ (n : ℕ) (w : List ℕ) (k : ℕ) (v : List ℕ) (ev : v ≡ iter (kind_settled n) w k) (es : seek (is_unsettled (roles n w)) k ≡ k) where
  pub kinds_end : n ≤ k → k ≤ n → (true ≡ are_settled n w) × (v ≡ settled_up_to n w)
  unfolding are_settled settled_up_to first_unsettled
  kinds_end h l =
      let f : k ≡ seek (is_unsettled (roles n w)) n = seek_done (is_unsettled (roles n w)) n k h l es in
      rw (← f) (sym (le-leb n k h), ev ∙ ap (iter (kind_settled n) w) (let z : k ≡ n = omega arith in z ∙ sym (min-eq_right (let y : n ≤ k + 1 = omega arith in y))))

-- where none is of no kind all are settled
pub kinds_all : (n : ℕ) (w : List ℕ) → are_settled n w ≡ true → settled_up_to n w ≡ roles n w
unfolding are_settled settled_up_to roles
kinds_all n w e = ap (iter (kind_settled n) w) (min-eq_right (let z : n ≤ first_unsettled n w + 1 = omega (arith, leb-true n (first_unsettled n w) e) in z))

-- else one is
pub kinds_not : (n : ℕ) (w : List ℕ) → are_settled n w ≡ false → (first_unsettled n w < n) × (is_unsettled (roles n w) (first_unsettled n w) ≡ true)
unfolding are_settled first_unsettled
kinds_not n w e =
    let l : seek (is_unsettled (roles n w)) n < n = omega (arith, leb-false n (seek (is_unsettled (roles n w)) n) e) in
    (l, (sought (is_unsettled (roles n w)) n).1 l)
