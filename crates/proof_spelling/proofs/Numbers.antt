-- THE NUMBERS AS THEY ARE SPELLED are those of the drawing's edges, tasks and messages. t is the text, w the things of a drawing, n their count. Assumes nothing.
use Prim.Native.Nat.{ℕ, suc, ◌+◌, ◌≤◌, ◌<◌}
use mathlib.Core.Path.{◌≡◌, refl, sym, ◌∙◌, ap, ap₂}
use mathlib.Core.Bool.{Bool, true, false, not, ◌&&◌, ◌||◌}
use mathlib.Core.List.{List, ◌++◌, map}
use native.Mathlib.Omega.{arith}
use lib.Dec.{eqb, leb, ltb}
use lib.ListN.{length}
use borrow.Author.Tests.{eqb-true, leb-true, le-leb}
use Rattle.base_words.proofs.AllLaws.{and_left}
use Rattle.base_words.specs.Each.{joined, those}
use Rattle.base_words.specs.Pick.{if◌then◌or_else◌}
use Rattle.base_words.specs.Seek.{seek}
use Rattle.base_words.specs.Sum.{sum, one_if}
use Rattle.base_words.specs.Text.{bytes}
use Rattle.base_words.proofs.SumLaws.{sum_ext, sum_add}
use Rattle.base_kinds.specs.Kinds as kinds
use Rattle.write_decimals.specs.Decimals.{shown}
use Rattle.draw_things.specs.Things.{room, one_more, sort, within, source, target, kind, is_node, message_flow, sequence_flow, task, receive_task}
use Rattle.draw_kinds.specs.Counting.{source_in, target_in, is_with, first_with, of_sort, count_sort}
use Rattle.draw_numbers.specs.Who.{is_of_kind}
use Rattle.draw_numbers.specs.Numbers.{count_before, is_task, is_edge, is_start, is_before_first, is_of, a_task, an_edge, task_of, edge_of, first_edge_of, message_of}
use Rattle.draw_model.specs.Drawn.{received_by, sent_by, exit_behind}
use Rattle.proof_map.proofs.Picked.{as_many}
use Rattle.proof_spelling.specs.Spelling.{Collaboration, Node, Flow, Message, gathered, node_at, flow_at, message_at, collaboration_in, numbered_flows, flows_before, edge, starts_before, first_edge, tasks_before, work, received, sent, flows_into, flows_from, first_at, foremost}
use Rattle.proof_spelling.proofs.Lists.{first_gathered, foremost-gathered, those-gathered, map-gathered, gathered_same, count_before_lem, count_same}
use Rattle.proof_spelling.proofs.Runs.{more_is, count_most_lem}

-- TESTS
last_of_three : (a b c d : Bool) → a && (b && (c && d)) ≡ (a && (b && c)) && d
last_of_three true true true d = refl
last_of_three true true false d = refl
last_of_three true false c d = refl
last_of_three false b c d = refl

last_of_starts : (a b c d : Bool) → a && (b && (c && d)) ≡ ((a && b) && c) && d
last_of_starts true true true d = refl
last_of_starts true true false d = refl
last_of_starts true false c d = refl
last_of_starts false b c d = refl

either_one : (a b : Bool) → (a ≡ true → b ≡ false) → one_if (a || b) ≡ one_if a + one_if b
either_one true b h = (let z : 1 ≡ 1 + one_if b = omega (arith, ap one_if (h refl)) in z)
either_one false true h = refl
either_one false false h = refl

none_both : (b c d : Bool) → ((false && b) && c) && d ≡ false
none_both b c d = refl

-- a task is a node
task_node : (s : ℕ) (x : Bool) → is_node s && (leb task s && (leb s receive_task && x)) ≡ leb task s && (leb s receive_task && x)
unfolding is_node
task_node s x = go (leb task s) (leb s receive_task) refl refl
  where
    go : (a b : Bool) → leb task s ≡ a → leb s receive_task ≡ b → (leb 12 s && leb s 21) && (a && (b && x)) ≡ a && (b && x)
    go true true p q =
        let l = leb-true task s p in
        let m = leb-true s receive_task q in
        ap (λ (y : Bool). (y && leb s 21) && x) (le-leb 12 s (omega (arith, l))) ∙ ap (λ (y : Bool). y && x) (le-leb s 21 (omega (arith, m)))
    go true false p q = none (leb 12 s && leb s 21)
      where
        none : (y : Bool) → y && false ≡ false
        none true = refl
        none false = refl
    go false b p q = none (leb 12 s && leb s 21)
      where
        none : (y : Bool) → y && false ≡ false
        none true = refl
        none false = refl

module _ (t w : List ℕ) (n : ℕ) (few : n ≤ room) where
  abbrev d : Collaboration
  d = collaboration_in t w n

  -- EDGES
  before_is : (j : ℕ) → j ≤ n → length (flows_before d (flow_at t w n j)) ≡ count_before (is_edge (within w j) w) j
  unfolding flows_before collaboration_in is_edge
  before_is j l =
      ap length (those-gathered (of_sort sequence_flow w) (flow_at t w n) (λ g. eqb g.process (within w j) && (not g.leaves_gateway && ltb g.name j)) n)
      ∙ as_many (λ i. of_sort sequence_flow w i && (eqb (within w i) (within w j) && (not (is_of_kind kinds.event_based w (source w i)) && ltb i j))) (flow_at t w n) n
      ∙ count_same (λ i. of_sort sequence_flow w i && (eqb (within w i) (within w j) && (not (is_of_kind kinds.event_based w (source w i)) && ltb i j)))
      (λ i. (of_sort sequence_flow w i && (eqb (within w i) (within w j) && not (is_of_kind kinds.event_based w (source w i)))) && ltb i j) n
      (λ i h. last_of_three (of_sort sequence_flow w i) (eqb (within w i) (within w j)) (not (is_of_kind kinds.event_based w (source w i))) (ltb i j))
      ∙ count_before_lem (λ i. of_sort sequence_flow w i && (eqb (within w i) (within w j) && not (is_of_kind kinds.event_based w (source w i)))) n j l

  edge_number : (j : ℕ) → edge_of w j ≡ one_more (count_before (is_edge (within w j) w) j)
  unfolding edge_of is_of if◌then◌or_else◌
  edge_number j = refl

  pub edge_is : (j : ℕ) → j ≤ n → edge d (flow_at t w n j) ≡ shown (edge_of w j)
  unfolding edge
  edge_is j l =
      ap shown
      (ap (λ (v : ℕ). 1 + v) (before_is j l)
      ∙ (let z : 1 + count_before (is_edge (within w j) w) j ≡ count_before (is_edge (within w j) w) j + 1 = omega arith in z)
      ∙ sym (more_is (count_before (is_edge (within w j) w) j) (omega (arith, count_most_lem (is_edge (within w j) w) j, l, few)))
      ∙ sym (edge_number j))

  -- those that enter a node, and those that leave one
  pub into_is : (k : ℕ) → map (edge d) (flows_into d k) ≡ gathered (λ j. of_sort sequence_flow w j && eqb (target w j) k) (λ j. shown (edge_of w j)) n
  unfolding flows_into collaboration_in
  into_is k =
      ap (map (edge d)) (those-gathered (of_sort sequence_flow w) (flow_at t w n) (λ f. eqb f.to k) n)
      ∙ map-gathered (λ j. of_sort sequence_flow w j && eqb (target w j) k) (flow_at t w n) (edge d) n
      ∙ gathered_same (λ j. of_sort sequence_flow w j && eqb (target w j) k) (λ j. of_sort sequence_flow w j && eqb (target w j) k) (λ j. edge d (flow_at t w n j)) (λ j. shown (edge_of w j)) n (λ j l. refl) (λ j l h. edge_is j (omega (arith, l)))

  pub from_is : (g : Flow → List ℕ) (new : ℕ → List ℕ) (k : ℕ) → ((j : ℕ) → j < n → of_sort sequence_flow w j && eqb (source w j) k ≡ true → g (flow_at t w n j) ≡ new j)
      → map g (flows_from d k) ≡ gathered (λ j. of_sort sequence_flow w j && eqb (source w j) k) new n
  unfolding flows_from collaboration_in
  from_is g new k h =
      ap (map g) (those-gathered (of_sort sequence_flow w) (flow_at t w n) (λ f. eqb f.from k) n)
      ∙ map-gathered (λ j. of_sort sequence_flow w j && eqb (source w j) k) (flow_at t w n) g n
      ∙ gathered_same (λ j. of_sort sequence_flow w j && eqb (source w j) k) (λ j. of_sort sequence_flow w j && eqb (source w j) k) (λ j. g (flow_at t w n j)) new n (λ j l. refl) h

  -- the exit behind a catch event
  pub behind_is : (k : ℕ) → first_with sequence_flow source_in k w n < n → foremost (map (edge d) (flows_from d k)) ≡ shown (edge_of w (first_with sequence_flow source_in k w n))
  unfolding first_with is_with of_sort
  behind_is k h =
      ap foremost (from_is (edge d) (λ j. shown (edge_of w j)) k (λ j l e. edge_is j (omega (arith, l))))
      ∙ foremost-gathered (λ j. of_sort sequence_flow w j && eqb (source w j) k) (λ j. shown (edge_of w j)) n h

  -- A START'S FIRST EDGE
  flows_are : (p : ℕ) → length (numbered_flows d p) ≡ count_before (is_edge p w) n
  unfolding numbered_flows collaboration_in is_edge
  flows_are p =
      ap length (those-gathered (of_sort sequence_flow w) (flow_at t w n) (λ g. eqb g.process p && not g.leaves_gateway) n)
      ∙ as_many (λ i. of_sort sequence_flow w i && (eqb (within w i) p && not (is_of_kind kinds.event_based w (source w i)))) (flow_at t w n) n

  starts_are : (k : ℕ) → length (starts_before d (node_at w k)) ≡ count_before (λ i. is_start (within w k) w i && ltb i k) n
  unfolding starts_before collaboration_in is_start is_of_kind
  starts_are k =
      ap length (those-gathered (λ i. is_node (sort w i)) (node_at w) (λ m. eqb m.kind kinds.start && (eqb m.process (within w k) && ltb m.name k)) n)
      ∙ as_many (λ i. is_node (sort w i) && (eqb (kind w i) kinds.start && (eqb (within w i) (within w k) && ltb i k))) (node_at w) n
      ∙ count_same (λ i. is_node (sort w i) && (eqb (kind w i) kinds.start && (eqb (within w i) (within w k) && ltb i k)))
      (λ i. ((is_node (sort w i) && eqb (kind w i) kinds.start) && eqb (within w i) (within w k)) && ltb i k) n
      (λ i h. last_of_starts (is_node (sort w i)) (eqb (kind w i) kinds.start) (eqb (within w i) (within w k)) (ltb i k))

  both_counted : (p k : ℕ) → count_before (is_before_first p k w) n ≡ count_before (is_edge p w) n + count_before (λ i. is_start p w i && ltb i k) n
  unfolding count_before
  both_counted p k =
      sum_ext (λ i. one_if (is_before_first p k w i)) (λ i. one_if (is_edge p w i) + one_if (is_start p w i && ltb i k)) n (λ i l. unfold is_before_first in either_one (is_edge p w i) (is_start p w i && ltb i k) (apart i))
      ∙ sum_add (λ i. one_if (is_edge p w i)) (λ i. one_if (is_start p w i && ltb i k)) n
    where
      apart : (i : ℕ) → is_edge p w i ≡ true → is_start p w i && ltb i k ≡ false
      apart i e =
          unfold is_start is_of_kind is_node in
          let s : sort w i ≡ sequence_flow = unfold is_edge of_sort in eqb-true (sort w i) sequence_flow (and_left (eqb (sort w i) sequence_flow) _ e) in
          ap (λ (c : ℕ). (((leb 12 c && leb c 21) && eqb (kind w i) kinds.start) && eqb (within w i) p) && ltb i k) s

  pub first_is : (k : ℕ) → first_edge d (node_at w k) ≡ shown (first_edge_of w n k)
  unfolding first_edge first_edge_of
  first_is k =
      ap shown
      (ap₂ (λ (u v : ℕ). 1 + (u + v)) (flows_are (within w k)) (starts_are k)
      ∙ (let z : 1 + (count_before (is_edge (within w k) w) n + count_before (λ i. is_start (within w k) w i && ltb i k) n) ≡ count_before (is_before_first (within w k) k w) n + 1 = omega (arith, both_counted (within w k) k) in z)
      ∙ sym (more_is (count_before (is_before_first (within w k) k w) n) (omega (arith, count_most_lem (is_before_first (within w k) k w) n, few))))

  -- TASKS
  tasks_are : (k : ℕ) → k ≤ n → length (tasks_before d (node_at w k)) ≡ count_before (is_task (within w k) w) k
  unfolding tasks_before collaboration_in is_task
  tasks_are k l =
      ap length (those-gathered (λ i. is_node (sort w i)) (node_at w) (λ m. leb task m.sort && (leb m.sort receive_task && (eqb m.process (within w k) && ltb m.name k))) n)
      ∙ as_many (λ i. is_node (sort w i) && (leb task (sort w i) && (leb (sort w i) receive_task && (eqb (within w i) (within w k) && ltb i k)))) (node_at w) n
      ∙ count_same (λ i. is_node (sort w i) && (leb task (sort w i) && (leb (sort w i) receive_task && (eqb (within w i) (within w k) && ltb i k))))
      (λ i. (leb task (sort w i) && (leb (sort w i) receive_task && eqb (within w i) (within w k))) && ltb i k) n
      (λ i h. task_node (sort w i) (eqb (within w i) (within w k) && ltb i k) ∙ last_of_three (leb task (sort w i)) (leb (sort w i) receive_task) (eqb (within w i) (within w k)) (ltb i k))
      ∙ count_before_lem (λ i. leb task (sort w i) && (leb (sort w i) receive_task && eqb (within w i) (within w k))) n k l

  task_number : (k : ℕ) → task_of w k ≡ one_more (count_before (is_task (within w k) w) k)
  unfolding task_of is_of if◌then◌or_else◌
  task_number k = refl

  pub work_is : (k : ℕ) → k ≤ n → work d (node_at w k) ≡ shown (task_of w k) ++ bytes ",a,true,{}"
  unfolding work
  work_is k l =
      ap (λ (v : ℕ). shown v ++ bytes ",a,true,{}")
      (ap (λ (v : ℕ). 1 + v) (tasks_are k l)
      ∙ (let z : 1 + count_before (is_task (within w k) w) k ≡ count_before (is_task (within w k) w) k + 1 = omega arith in z)
      ∙ sym (more_is (count_before (is_task (within w k) w) k) (omega (arith, count_most_lem (is_task (within w k) w) k, l, few)))
      ∙ sym (task_number k))

  -- MESSAGES
  pub received_is : (k : ℕ) → received d k ≡ shown (received_by w n k) ++ bytes ":<>"
  unfolding received received_by message_of count_sort first_with is_with collaboration_in
  received_is k = ap (λ (v : ℕ). shown v ++ bytes ":<>") (first_gathered (of_sort message_flow w) (message_at w) (λ m. eqb m.to k) n ∙ here)
    where
      here : count_before (of_sort message_flow w) (seek (λ j. of_sort message_flow w j && eqb (target w j) k) n) ≡ sum (λ j. one_if (of_sort message_flow w j)) (seek (λ j. eqb (sort w j) message_flow && eqb (target w j) k) n)
      here = unfold count_before of_sort in refl

  pub sent_is : (k : ℕ) → sent d k ≡ shown (sent_by w n k) ++ bytes ":<>"
  unfolding sent sent_by message_of count_sort first_with is_with collaboration_in
  sent_is k = ap (λ (v : ℕ). shown v ++ bytes ":<>") (first_gathered (of_sort message_flow w) (message_at w) (λ m. eqb m.from k) n ∙ here)
    where
      here : count_before (of_sort message_flow w) (seek (λ j. of_sort message_flow w j && eqb (source w j) k) n) ≡ sum (λ j. one_if (of_sort message_flow w j)) (seek (λ j. eqb (sort w j) message_flow && eqb (source w j) k) n)
      here = unfold count_before of_sort in refl
