-- THE ELEMENT THAT A NODE MEANS. "Pools, elements, tasks, edges and messages are numbered from the lowest allowed, and lists ordered, as participants, nodes, sequence and message flows stand."
-- t is the text, w the things of a drawing in which nothing is amiss or beyond, n their count, k a node, j a sequence flow, x the words of an element. (RULES: numbering)
use Rattle.std.specs.Prelude.{ℕ, ◌+◌, Bool, List, eqb, ltb, set, replicate}
use Rattle.base_words.specs.Blocks.{Bytes, Element, Drawing}
use Rattle.base_words.specs.Iter.{iter}
use Rattle.base_words.specs.Pick.{if◌then◌or_else◌}
use Rattle.base_words.specs.Words.{at}
use Rattle.base_kinds.specs.Kinds as kinds
use Rattle.base_kinds.specs.Moves.{a}
use Rattle.base_table.specs.Places.{form_place, left_place, right_place, operand_number, always, default, kind_place, task_place, mode_place, entries_place, exits_place, edge_place, condition_place, message_place, element_words}
use Rattle.draw_things.specs.Things.{one_more, place, within, source, target, kind, message_flow, sequence_flow, condition_expression}
use Rattle.draw_kinds.specs.Counting.{source_in, target_in, within_in, of_sort, first_with}
use Rattle.draw_conditions.specs.declared.Term.{Term}
use Rattle.draw_conditions.specs.declared.Condition.{Condition}
use Rattle.draw_conditions.specs.Conditions.{condition_at, absent}
use Rattle.draw_numbers.specs.Who.{is_sender, is_receiver}
use Rattle.draw_numbers.specs.Numbers.{is_task, is_start, task_of, edge_of, first_edge_of, message_of, default_of}

-- one more entry or exit, behind those that stand there
unfoldable pub with_edge : ℕ → ℕ → Element → Element
with_edge list e x = set (set x (edge_place list (at x list)) e) list (one_more (at x list))

-- MESSAGES: "messages are the empty tuple", so that only the name is stored (RULES: numbering)
unfoldable pub received_by : Drawing → ℕ → ℕ → ℕ
received_by w n k = message_of w (first_with message_flow target_in k w n)

unfoldable pub sent_by : Drawing → ℕ → ℕ → ℕ
sent_by w n k = message_of w (first_with message_flow source_in k w n)

unfoldable pub with_message : Drawing → ℕ → ℕ → Element → Element
with_message w n k x =
    if is_receiver w k then set x (message_place 0) (received_by w n k)
    or_else if is_sender w k then set x (message_place 0) (sent_by w n k)
    or_else x

-- THE HEAD of an element: its kind; "tasks are atomic, guard true, A `{}`"; start's first edge; its message (RULES: numbering)
unfoldable pub with_form : ℕ → ℕ → Element → Element
with_form b form x = set x (condition_place b + form_place) form

unfoldable pub with_task : Drawing → ℕ → Element → Element
with_task w k x = with_form 0 always (set (set x task_place (task_of w k)) mode_place a)

unfoldable pub with_first : Drawing → ℕ → ℕ → Element → Element
with_first w n k x =
    if is_task (within w k) w k then with_task w k x
    or_else if is_start (within w k) w k then with_edge entries_place (first_edge_of w n k) x
    or_else x

unfoldable pub head_of : Drawing → ℕ → ℕ → Element
head_of w n k = with_message w n k (with_first w n k (set (replicate element_words 0) kind_place (kind w k)))

-- THE CONDITION of branch b, by flow j out of the exclusive split k: "conditionExpression text is our condition, `true` if an exclusive split's flow has none, and its default flow is `default`" (RULES: numbering)
unfoldable pub with_term : Term → ℕ → ℕ → Element → Element
with_term o b side x = set (set x (condition_place b + side) o.flag) (condition_place b + side + operand_number) o.number

unfoldable pub with_condition : Condition → ℕ → Element → Element
with_condition c b x = with_term c.right b right_place (with_term c.left b left_place (with_form b c.form x))

unfoldable pub said_or_true : Condition → ℕ → Element → Element
said_or_true c b x = if eqb c.form absent then with_form b always x or_else with_condition c b x

unfoldable pub guarded_by : Bytes → Drawing → ℕ → ℕ → ℕ → Element → Element
guarded_by t w n j b x =
    if ltb (first_with condition_expression within_in j w n) n then said_or_true (condition_at t (place w (first_with condition_expression within_in j w n))) b x
    or_else with_form b always x

unfoldable pub with_guard : Bytes → Drawing → ℕ → ℕ → ℕ → ℕ → Element → Element
with_guard t w n k j b x = if eqb (default_of t w n k) j then with_form b default x or_else guarded_by t w n j b x

-- A BRANCH by flow j out of an event gateway: "a catch event behind an event gateway becomes its branch"; "each branch has its catch event's message and exit" (R27) (RULES: numbering)
unfoldable pub exit_behind : Drawing → ℕ → ℕ → ℕ
exit_behind w n j = edge_of w (first_with sequence_flow source_in (target w j) w n)

unfoldable pub with_branch : Drawing → ℕ → ℕ → Element → Element
with_branch w n j x = with_edge exits_place (exit_behind w n j) (set x (message_place (at x exits_place)) (received_by w n (target w j)))

-- AN EXIT by flow j
unfoldable pub exit_by : Bytes → Drawing → ℕ → ℕ → ℕ → Element → Element
exit_by t w n k j x =
    if eqb (kind w k) kinds.event_based then with_branch w n j x
    or_else if eqb (kind w k) kinds.xor_split then with_edge exits_place (edge_of w j) (with_guard t w n k j (at x exits_place) x)
    or_else with_edge exits_place (edge_of w j) x

-- "Entries, exits and branches as the sequence flows stand" (R27): what flow j is to node k (RULES: numbering)
unfoldable pub entering_by : Drawing → ℕ → ℕ → Element → Element
entering_by w k j x = if eqb (target w j) k then with_edge entries_place (edge_of w j) x or_else x

unfoldable pub leaving_by : Bytes → Drawing → ℕ → ℕ → ℕ → Element → Element
leaving_by t w n k j x = if eqb (source w j) k then exit_by t w n k j x or_else x

unfoldable pub by_flow : Bytes → Drawing → ℕ → ℕ → ℕ → Element → Element
by_flow t w n k j x = if of_sort sequence_flow w j then leaving_by t w n k j (entering_by w k j x) or_else x

-- THE ELEMENT that node k is
unfoldable pub element_drawn : Bytes → Drawing → ℕ → ℕ → Element
element_drawn t w n k = iter (by_flow t w n k) (head_of w n k) n
