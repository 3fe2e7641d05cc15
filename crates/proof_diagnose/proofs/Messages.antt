-- WHERE CHECK 6 IS BROKEN: a message flow that is told for it, from a node to one that is not behind an event gateway, has its name sent and received in one pool. Assumes nothing.
use Prim.Native.Nat.{ℕ, zero, suc, ◌+◌, ◌≤◌, ◌<◌}
use mathlib.Core.Path.{◌≡◌, refl, sym, ◌∙◌, ap, subst}
use mathlib.Core.Bool.{Bool, true, false, not, ◌&&◌, ◌||◌, false≢true}
use mathlib.Core.List.{List, [], ◌∷◌}
use mathlib.Core.Logic.{⊎_elim}
use native.Mathlib.Nat.{le_of_suc-le-suc, eq-or-lt_of_le}
use native.Mathlib.Omega.{arith}
use lib.Dec.{eqb, ltb}
use lib.ListN.{length, set, length-set, replicate, length-replicate}
use lib.Seq.{get_or-set_same, get_or-set_other}
use borrow.Author.Tests.{eqb-true, eq-eqb, lt-ltb, ltb-true, ltb-false}
use Rattle.base_words.specs.Counts.{branches, names}
use Rattle.base_words.specs.Each.{joined, total}
use Rattle.base_words.specs.Pick.{if◌then◌or_else◌}
use Rattle.base_words.specs.Seek.{seek}
use Rattle.base_words.specs.Sum.{sum, hit, one_if}
use Rattle.base_words.specs.Words.{at}
use Rattle.base_words.proofs.AllLaws.{and_left, and_right, all_fails}
use Rattle.base_words.proofs.EachLaws.{total_append}
use Rattle.base_words.proofs.IterLaws.{iter_keeps}
use Rattle.base_words.proofs.PickLaws.{and_true}
use Rattle.base_words.proofs.SeekLaws.{sought}
use Rattle.base_kinds.specs.Kinds as kinds
use Rattle.base_table.specs.Places.{kind_place, entries_place, exits_place, message_place, element_words}
use Rattle.base_table.specs.Table.{kind_in, exit_count, message_name}
use Rattle.check_occurrences.specs.Occurrences.{received_count, sent_count, as_received, as_sent}
use Rattle.check_model.specs.Checks.{Pool, pool_receives, pool_sends, not_sent_there}
use Rattle.draw_things.specs.Things.{one_more, is_node, sort, within, source, target, kind, branch, message_flow, greatest_note}
use Rattle.draw_kinds.specs.Counting.{source_in, target_in, is_with, count_with, first_with, of_sort}
use Rattle.draw_numbers.specs.Who.{sends, receives, is_sender, is_receiver}
use Rattle.draw_numbers.specs.Numbers.{is_element, edge_of, first_edge_of, message_of}
use Rattle.draw_model.specs.Drawn.{with_edge, received_by, sent_by, with_message, with_form, with_task, with_first, head_of, exit_by, entering_by, leaving_by, by_flow, element_drawn}
use Rattle.draw_model.specs.Content.{element_if, elements_of, process_of, pool_drawn}
use Rattle.draw_diagnose.specs.Seats.{joins_own, is_own_message}
use Rattle.proof_map.proofs.KindLaws.{kind_drawn}
use Rattle.proof_diagnose.proofs.Choices.{choice}

-- an element's words
pub record Long (x : List ℕ) : Type 0 where
  pub is : length x ≡ element_words

pub set_long : (x : List ℕ) (i v : ℕ) → Long x → Long (set x i v)
set_long x i v e = record { is = length-set x i v ∙ e.is }

pub few_before : (a : ℕ) → one_more a ≤ branches → a < branches
unfolding one_more if◌then◌or_else◌
few_before a = go (ltb a greatest_note)
  where
    go : (b : Bool) → (if b then a + 1 or_else greatest_note) ≤ branches → a < branches
    go true l = omega (arith, l)
    go false l = absurd (omega (arith, l))

-- one more edge in the list at L: its count, and every word but that and the edge's own
module _ (x : List ℕ) (L e : ℕ) (long : Long x) (low : L < message_place 0) where
  abbrev pub y : List ℕ
  y = set x (L + 1 + at x L) e

  pub count_is : at (set y L (one_more (at x L))) L ≡ one_more (at x L)
  count_is = get_or-set_same y L (one_more (at x L)) 0 (omega (arith, low, long.is, length-set x (L + 1 + at x L) e))

  pub else_is : (j : ℕ) → (j ≡ L → ⊥) → (j ≡ L + 1 + at x L → ⊥) → at (set y L (one_more (at x L))) j ≡ at x j
  else_is j p q = get_or-set_other y L j (one_more (at x L)) 0 p ∙ get_or-set_other x (L + 1 + at x L) j e 0 q

-- while the lists are short, the message of an element is c
module _ (c : ℕ) where
  record Kept (x : List ℕ) : Type 0 where
    pub long : Long x
    pub name : at x entries_place ≤ branches → at x exits_place ≤ branches → at x (message_place 0) ≡ c

  entry : (x : List ℕ) (e : ℕ) → Kept x → Kept (with_edge entries_place e x)
  unfolding with_edge
  entry x e o =
      record {
        long = set_long _ _ _ (set_long _ _ _ o.long);
        name = λ l m.
            let a = few_before (at x entries_place) (rw (← count_is x entries_place e o.long (omega arith)) l) in
            let i = else_is x entries_place e o.long (omega arith) exits_place (λ q. omega (arith, q)) (λ q. omega (arith, q, a)) in
            let j = else_is x entries_place e o.long (omega arith) (message_place 0) (λ q. omega (arith, q)) (λ q. omega (arith, q, a)) in
            j ∙ o.name (omega (arith, a)) (rw (← i) m);
      }

  exit : (x : List ℕ) (e : ℕ) → Kept x → Kept (with_edge exits_place e x)
  unfolding with_edge
  exit x e o =
      record {
        long = set_long _ _ _ (set_long _ _ _ o.long);
        name = λ l m.
            let a = few_before (at x exits_place) (rw (← count_is x exits_place e o.long (omega arith)) m) in
            let i = else_is x exits_place e o.long (omega arith) entries_place (λ q. omega (arith, q)) (λ q. omega (arith, q, a)) in
            let j = else_is x exits_place e o.long (omega arith) (message_place 0) (λ q. omega (arith, q)) (λ q. omega (arith, q, a)) in
            j ∙ o.name (rw (← i) l) (omega (arith, a));
      }

edge_long : (list e : ℕ) (x : List ℕ) → Long x → Long (with_edge list e x)
unfolding with_edge
edge_long list e x o = set_long _ _ _ (set_long _ _ _ o)

module _ (t w : List ℕ) (n k : ℕ) where
  task_long : (x : List ℕ) → Long x → Long (with_task w k x)
  unfolding with_task with_form
  task_long x o = set_long _ _ _ (set_long _ _ _ (set_long _ _ _ o))

  first_long : (x : List ℕ) → Long x → Long (with_first w n k x)
  unfolding with_first
  first_long x o = choice Long _ _ _ (task_long x o) (choice Long _ _ _ (edge_long entries_place (first_edge_of w n k) x o) o)

  bare_long : Long (with_first w n k (set (replicate element_words 0) kind_place (kind w k)))
  bare_long = first_long _ (set_long (replicate element_words 0) kind_place (kind w k) (record { is = length-replicate {A = ℕ} element_words 0 }))

  pub head_long : Long (head_of w n k)
  unfolding head_of with_message
  head_long = choice Long _ _ _ (set_long _ _ _ bare_long) (choice Long _ _ _ (set_long _ _ _ bare_long) bare_long)

  pub entry_long : (j : ℕ) (x : List ℕ) → Long x → Long (entering_by w k j x)
  unfolding entering_by
  entry_long j x o = choice Long _ _ _ (edge_long entries_place (edge_of w j) x o) o

  -- a node that is no event gateway and no exclusive split keeps the message that its head has
  module _ (one : eqb (kind w k) kinds.event_based ≡ false) (two : eqb (kind w k) kinds.xor_split ≡ false) where
    abbrev named : ℕ
    named = at (head_of w n k) (message_place 0)

    entered : (j : ℕ) (x : List ℕ) → Kept named x → Kept named (entering_by w k j x)
    unfolding entering_by
    entered j x o = choice (Kept named) _ _ _ (entry named x (edge_of w j) o) o

    left : (j : ℕ) (x : List ℕ) → Kept named x → Kept named (exit_by t w n k j x)
    unfolding exit_by if◌then◌or_else◌
    left j x o = rw (one, two) (exit named x (edge_of w j) o)

    by_flow_lem : (j : ℕ) (x : List ℕ) → Kept named x → Kept named (by_flow t w n k j x)
    unfolding by_flow leaving_by
    by_flow_lem j x o = let e = entered j x o in choice (Kept named) _ _ _ (choice (Kept named) _ _ _ (left j (entering_by w k j x) e) e) o

    message_kept : at (element_drawn t w n k) entries_place ≤ branches → at (element_drawn t w n k) exits_place ≤ branches → message_name (element_drawn t w n k) 0 ≡ named
    unfolding element_drawn
    message_kept = (iter_keeps (by_flow t w n k) (head_of w n k) (Kept named) n (λ j x h o. by_flow_lem j x o) (record { long = head_long; name = λ l m. refl })).name

  head_sent : is_receiver w k ≡ false → is_sender w k ≡ true → at (head_of w n k) (message_place 0) ≡ sent_by w n k
  unfolding head_of with_message if◌then◌or_else◌
  head_sent p q = rw (p, q) (get_or-set_same (with_first w n k (set (replicate element_words 0) kind_place (kind w k))) (message_place 0) (sent_by w n k) 0 (omega (arith, bare_long.is)))

  head_received : is_receiver w k ≡ true → at (head_of w n k) (message_place 0) ≡ received_by w n k
  unfolding head_of with_message if◌then◌or_else◌
  head_received p = rw p (get_or-set_same (with_first w n k (set (replicate element_words 0) kind_place (kind w k))) (message_place 0) (received_by w n k) 0 (omega (arith, bare_long.is)))

-- the kinds that send, and those that receive and are elements: one message each
record OneSent (c : ℕ) : Type 0 where
  pub once : (e : ℕ) → kinds.used (kinds.kind_of c).sends e ≡ 1
  pub other : receives c ≡ false
  pub no_gateway : eqb c kinds.event_based ≡ false
  pub no_split : eqb c kinds.xor_split ≡ false
  pub no_branch : eqb c branch ≡ false

record OneReceived (c : ℕ) : Type 0 where
  pub once : (e : ℕ) → kinds.used (kinds.kind_of c).receives e ≡ 1
  pub no_gateway : eqb c kinds.event_based ≡ false
  pub no_split : eqb c kinds.xor_split ≡ false

one_sent : (c : ℕ) → sends c ≡ true → OneSent c
unfolding sends receives kinds.used kinds.kind_of if◌then◌or_else◌
one_sent c = go (eqb c kinds.task_snd) refl (eqb c kinds.inter_snd) refl (eqb c kinds.end_snd) refl
  where
    go : (p : Bool) → eqb c kinds.task_snd ≡ p → (q : Bool) → eqb c kinds.inter_snd ≡ q → (r : Bool) → eqb c kinds.end_snd ≡ r → p || (q || r) ≡ true → OneSent c
    go true e q f r g h = subst OneSent (sym (eqb-true c kinds.task_snd e)) (record { once = λ e. refl; other = refl; no_gateway = refl; no_split = refl; no_branch = refl })
    go false e true f r g h = subst OneSent (sym (eqb-true c kinds.inter_snd f)) (record { once = λ e. refl; other = refl; no_gateway = refl; no_split = refl; no_branch = refl })
    go false e false f true g h = subst OneSent (sym (eqb-true c kinds.end_snd g)) (record { once = λ e. refl; other = refl; no_gateway = refl; no_split = refl; no_branch = refl })
    go false e false f false g h = absurd (false≢true h)

one_received : (c : ℕ) → receives c ≡ true → eqb c branch ≡ false → OneReceived c
unfolding receives kinds.used kinds.kind_of if◌then◌or_else◌
one_received c = go (eqb c kinds.task_rcv) refl (eqb c kinds.start_rcv) refl (eqb c kinds.inter_rcv) refl (eqb c branch)
  where
    go : (p : Bool) → eqb c kinds.task_rcv ≡ p → (q : Bool) → eqb c kinds.start_rcv ≡ q → (r : Bool) → eqb c kinds.inter_rcv ≡ r → (s : Bool) → p || (q || (r || s)) ≡ true → s ≡ false → OneReceived c
    go true e q f r g s h z = subst OneReceived (sym (eqb-true c kinds.task_rcv e)) (record { once = λ e. refl; no_gateway = refl; no_split = refl })
    go false e true f r g s h z = subst OneReceived (sym (eqb-true c kinds.start_rcv f)) (record { once = λ e. refl; no_gateway = refl; no_split = refl })
    go false e false f true g s h z = subst OneReceived (sym (eqb-true c kinds.inter_rcv g)) (record { once = λ e. refl; no_gateway = refl; no_split = refl })
    go false e false f false g s h z = absurd (false≢true (sym z ∙ h))

-- where a test passes at one number alone, that is the first
count_less : (f : ℕ → Bool) (n k : ℕ) → k < n → f k ≡ true → sum (λ j. one_if (f j)) k < sum (λ j. one_if (f j)) n
unfolding sum
count_less f zero k l h = absurd (omega (arith, l))
count_less f (suc n) k l h =
    ⊎_elim
    (λ e. let o : one_if (f n) ≡ 1 = ap one_if (ap f (sym e) ∙ h) in omega (arith, o, ap (λ (m : ℕ). sum (λ j. one_if (f j)) m) e))
    (λ q. omega (arith, count_less f n k q h))
    (eq-or-lt_of_le (le_of_suc-le-suc l))

only_one : (f : ℕ → Bool) (n k : ℕ) → k < n → f k ≡ true → sum (λ j. one_if (f j)) n ≡ 1 → seek f n ≡ k
only_one f n k l h c = go (ltb (seek f n) k) refl (ltb k (seek f n)) refl
  where
    go : (p : Bool) → ltb (seek f n) k ≡ p → (q : Bool) → ltb k (seek f n) ≡ q → seek f n ≡ k
    go true p q r =
        let s = ltb-true (seek f n) k p in
        absurd (omega (arith, count_less f k (seek f n) s ((sought f n).1 (omega (arith, s, l))), count_less f n k l h, c))
    go false p true r = absurd (false≢true (sym ((sought f n).2 k (ltb-true k (seek f n) r)) ∙ h))
    go false p false r = omega (arith, ltb-false (seek f n) k p, ltb-false k (seek f n) r)

module _ (t w : List ℕ) (n p : ℕ) (f : List ℕ → ℕ) where
  -- what an element adds to a pool's total
  at_least : (m a : ℕ) → a < m → is_element p w a ≡ true → f (element_drawn t w n a) ≤ total f (joined (element_if t w n p) m)
  unfolding joined element_if total if◌then◌or_else◌
  at_least zero a l h = absurd (omega (arith, l))
  at_least (suc m) a l h =
      let s = total_append f (joined (element_if t w n p) m) (element_if t w n p m) in
      ⊎_elim
      (λ e.
      let z : total f (element_if t w n p m) ≡ f (element_drawn t w n a) + 0 = rw (← e, h) refl in
      omega (arith, s, z))
      (λ q. omega (arith, s, at_least m a q h))
      (eq-or-lt_of_le (le_of_suc-le-suc l))

  pub some_total : (a : ℕ) → a < n → is_element p w a ≡ true → 0 < f (element_drawn t w n a) → ltb 0 (total f (elements_of t w n p)) ≡ true
  unfolding elements_of
  some_total a l h e = lt-ltb 0 (total f (joined (element_if t w n p) n)) (omega (arith, at_least n a l h, e))

-- THE ENDS OF A MESSAGE FLOW k that is told for 6, in a drawing in which nothing is amiss or beyond
pub record Sent (t w : List ℕ) (n k : ℕ) : Type 0 where
  pub sender : is_sender w (source w k) ≡ true
  pub heard : count_with message_flow source_in (source w k) w n ≡ 1
  pub inside : source w k < n
  pub entries : at (element_drawn t w n (source w k)) entries_place ≤ branches
  pub exits : at (element_drawn t w n (source w k)) exits_place ≤ branches

pub record Received (t w : List ℕ) (n k : ℕ) : Type 0 where
  pub receiver : is_receiver w (target w k) ≡ true
  pub no_branch : eqb (kind w (target w k)) branch ≡ false
  pub told : count_with message_flow target_in (target w k) w n ≡ 1
  pub inside : target w k < n
  pub entries : at (element_drawn t w n (target w k)) entries_place ≤ branches
  pub exits : at (element_drawn t w n (target w k)) exits_place ≤ branches

module _ (t w : List ℕ) (n k : ℕ) (inside : k < n) (own : is_own_message w k ≡ true) where
  abbrev a : ℕ
  a = source w k

  abbrev b : ℕ
  b = target w k

  abbrev m : ℕ
  m = message_of w k

  flow : eqb (sort w k) message_flow ≡ true
  unfolding is_own_message of_sort
  flow = and_left _ _ own

  nodes : is_node (sort w a) && (is_node (sort w b) && eqb (within w a) (within w b)) ≡ true
  unfolding is_own_message joins_own
  nodes = and_right (of_sort message_flow w k) _ own

  hit_name : (x : ℕ) → x ≡ m → hit x m ≡ 1
  hit_name x e = ap one_if (eq-eqb x m e)

  pub same_process : within w a ≡ within w b
  same_process = eqb-true (within w a) (within w b) (and_right (is_node (sort w b)) _ (and_right (is_node (sort w a)) _ nodes))

  pub first_received : count_with message_flow target_in b w n ≡ 1 → first_with message_flow target_in b w n ≡ k
  unfolding first_with count_with is_with
  first_received c = only_one (is_with message_flow target_in b w) n k inside (and_true _ _ flow (eq-eqb (target w k) b refl)) c

  -- its name is sent in the pool where it begins
  module _ (s : Sent t w n k) where
    sending : OneSent (kind w a)
    unfolding is_sender
    sending = one_sent (kind w a) (and_right (is_node (sort w a)) _ s.sender)

    unreceived : is_receiver w a ≡ false
    unfolding is_receiver
    unreceived = rw (and_left (is_node (sort w a)) _ nodes) sending.other

    first_sent : first_with message_flow source_in a w n ≡ k
    unfolding first_with count_with is_with
    first_sent = only_one (is_with message_flow source_in a w) n k inside (and_true _ _ flow (eq-eqb (source w k) a refl)) s.heard

    sent_name : message_name (element_drawn t w n a) 0 ≡ m
    unfolding sent_by
    sent_name = message_kept t w n a sending.no_gateway sending.no_split s.entries s.exits ∙ head_sent t w n a unreceived s.sender ∙ ap (message_of w) first_sent

    sent_once : as_sent m (element_drawn t w n a) ≡ 1
    unfolding as_sent sent_count sum
    sent_once = rw (kind_drawn t w n a, sending.once (exit_count (element_drawn t w n a))) (let z : 0 + hit (message_name (element_drawn t w n a) 0) m ≡ 1 = omega (arith, hit_name (message_name (element_drawn t w n a) 0) sent_name) in z)

    pub sent_there : (owned : Bool) (i : ℕ) → process_of owned w i ≡ within w a → pool_sends m (pool_drawn owned t w n i) ≡ true
    unfolding pool_sends pool_drawn is_element
    sent_there owned i here =
        some_total t w n (process_of owned w i) (as_sent m) a s.inside
        (and_true _ _ (and_left (is_node (sort w a)) _ nodes) (and_true _ _ (eq-eqb _ _ (sym here)) (ap not sending.no_branch)))
        (omega (arith, sent_once))

  -- and received there
  module _ (s : Received t w n k) where
    receiving : OneReceived (kind w b)
    unfolding is_receiver
    receiving = one_received (kind w b) (and_right (is_node (sort w b)) _ s.receiver) s.no_branch

    received_name : message_name (element_drawn t w n b) 0 ≡ m
    unfolding received_by
    received_name = message_kept t w n b receiving.no_gateway receiving.no_split s.entries s.exits ∙ head_received t w n b s.receiver ∙ ap (message_of w) (first_received s.told)

    received_once : as_received m (element_drawn t w n b) ≡ 1
    unfolding as_received received_count sum
    received_once = rw (kind_drawn t w n b, receiving.once (exit_count (element_drawn t w n b))) (let z : 0 + hit (message_name (element_drawn t w n b) 0) m ≡ 1 = omega (arith, hit_name (message_name (element_drawn t w n b) 0) received_name) in z)

    pub received_there : (owned : Bool) (i : ℕ) → process_of owned w i ≡ within w a → pool_receives m (pool_drawn owned t w n i) ≡ true
    unfolding pool_receives pool_drawn is_element
    received_there owned i here =
        some_total t w n (process_of owned w i) (as_received m) b s.inside
        (and_true _ _ (and_left (is_node (sort w b)) _ (and_right (is_node (sort w a)) _ nodes)) (and_true _ _ (eq-eqb _ _ (sym same_process ∙ sym here)) (ap not s.no_branch)))
        (omega (arith, received_once))

-- A NAME THAT IS SENT AND RECEIVED IN ONE POOL breaks check 6
pub message_told : (m : ℕ) (p : Pool) → m < names → pool_receives m p ≡ true → pool_sends m p ≡ true → not_sent_there p ≡ false
unfolding not_sent_there
message_told m p l r s = all_fails (λ i. not (pool_receives i p && pool_sends i p)) names m l (ap not (and_true _ _ r s))
