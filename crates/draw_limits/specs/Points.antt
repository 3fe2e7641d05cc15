-- What R26, R28 and R29 say, tried at the boundary of each sentence: one table. A row says what is tried, and names a test at given things, and what it is. (RULES: numbering)
use Rattle.std.specs.Prelude.{ℕ, zero, suc, Bool, true, false, List, [], ◌∷◌, ◌++◌, eqb}
use Prim.Native.String.{String}
use Rattle.base_words.specs.Text.{bytes}
use Rattle.base_words.specs.Counts.{elements, edges, tasks}
use Rattle.base_kinds.specs.Kinds as kinds
use Rattle.draw_things.specs.Things.{definitions, participant, participant_multiplicity, message_flow, process, sequence_flow, start_event, end_event, intermediate_catch_event, task, send_task, exclusive_gateway, event_based_gateway, branch}
use Rattle.draw_numbers.specs.Numbers.{an_element, a_task, an_edge, task_of, edge_of, first_edge_of, message_of, maximum_of}
use Rattle.draw_limits.specs.Excess.{is_fifth_pool, is_one_too_many, is_start_beyond, is_ninth, is_message_beyond, is_maximum_beyond, is_guarded, value_place, beyond_at}

pub record Point : Type 0 where
  pub says : String
  pub tried : Bool
  pub is : Bool

abbrev yes : String → Bool → Point
yes s b = record { says = s; tried = b; is = true }

abbrev no : String → Bool → Point
no s b = record { says = s; tried = b; is = false }

-- a thing of a sort at a place, within another, with its source and target
abbrev thing : ℕ → ℕ → ℕ → ℕ → ℕ → List ℕ
thing s p i from to = s ∷ p ∷ i ∷ from ∷ to ∷ []

abbrev times : ℕ → List ℕ → List ℕ
times zero x = []
times (suc n) x = x ++ times n x

-- the root and a process, thing 1; then what is in it
abbrev inside : List ℕ → List ℕ
inside x = thing definitions 0 0 0 0 ++ (thing process 0 0 0 0 ++ x)

abbrev node : ℕ → ℕ → List ℕ
node s kind = thing s 0 1 kind 0

abbrev flow : ℕ → ℕ → List ℕ
flow from to = thing sequence_flow 0 1 from to

abbrev pooled : List ℕ
pooled = inside (times 5 (thing participant 0 0 1 0))

abbrev ends : ℕ → List ℕ
ends n = times n (node end_event kinds.end)

abbrev flows : ℕ → List ℕ
flows n = times n (flow 0 0)

-- thing 2 is an event gateway, thing 3 a catch event behind it
abbrev events : List ℕ
events = inside (node event_based_gateway kinds.event_based ++ (node intermediate_catch_event branch ++ (flow 2 3 ++ flow 3 2)))

abbrev started : ℕ → List ℕ
started n = inside (node start_event kinds.start ++ flows n)

abbrev counts : List Point
counts =
    yes "a fifth participant with a process" (is_fifth_pool true pooled 6)
    ∷ no "a fourth" (is_fifth_pool true pooled 5)
    ∷ no "one without is none" (is_fifth_pool true (inside (times 4 (thing participant 0 0 1 0) ++ thing participant 0 0 0 0)) 6)
    ∷ yes "a fifth process, without participants" (is_fifth_pool false (inside (times 4 (thing process 0 0 0 0))) 5)
    ∷ yes "the 33rd element" (is_one_too_many an_element elements (inside (ends 33)) 34)
    ∷ no "the 32nd" (is_one_too_many an_element elements (inside (ends 33)) 33)
    ∷ no "a branch is none" (is_one_too_many an_element elements (inside (node intermediate_catch_event branch ++ ends 32)) 34)
    ∷ yes "the 17th task" (is_one_too_many a_task tasks (inside (times 17 (node task kinds.task))) 18)
    ∷ no "the 16th" (is_one_too_many a_task tasks (inside (times 17 (node task kinds.task))) 17)
    ∷ yes "the 49th flow" (is_one_too_many an_edge edges (inside (flows 49)) 50)
    ∷ no "the 48th" (is_one_too_many an_edge edges (inside (flows 49)) 49)
    ∷ yes "the first edge behind 48 flows" (is_start_beyond (started 48) 51 2)
    ∷ no "behind 47" (is_start_beyond (started 47) 50 2)
    ∷ yes "the ninth exit" (is_ninth (inside (times 9 (flow 2 0))) 10)
    ∷ yes "the ninth entry" (is_ninth (inside (times 9 (flow 0 2))) 10)
    ∷ no "the eighth" (is_ninth (inside (times 9 (flow 2 2))) 9)
    ∷ []

abbrev numbers : List Point
numbers =
    yes "tasks of the three kinds" (eqb (task_of (inside (node task kinds.task ++ (ends 1 ++ node send_task kinds.task_snd))) 4) 2)
    ∷ yes "of its own process" (eqb (task_of (inside (thing task 0 7 kinds.task 0 ++ node task kinds.task)) 3) 1)
    ∷ yes "the flow into a catch event behind an event gateway has no number" (eqb (edge_of events 5) 1)
    ∷ yes "start's first edge comes behind the flows" (eqb (first_edge_of (started 3) 6 2) 4)
    ∷ yes "and behind those of earlier starts" (eqb (first_edge_of (inside (node start_event kinds.start ++ (flows 2 ++ node start_event kinds.start))) 6 5) 4)
    ∷ yes "messages from 0" (eqb (message_of (inside (times 2 (thing message_flow 0 0 0 0))) 2) 0)
    ∷ yes "one between two outsiders counted too" (eqb (message_of (inside (times 2 (thing message_flow 0 0 0 0))) 3) 1)
    ∷ []

-- thing 2 is a sender, 3 to 19 message flows
abbrev sending : ℕ → List ℕ
sending from = inside (node send_task kinds.task_snd ++ times 17 (thing message_flow 0 0 from 0))

-- thing 2 is a participant of a process, thing 3 its multiplicity
abbrev multiple : ℕ → List ℕ
multiple owned = inside (thing participant 0 0 owned 0 ++ thing participant_multiplicity 0 2 0 0)

-- thing 2 is an exclusive split, its default flow thing 3
abbrev split : List ℕ
split = inside (thing exclusive_gateway 0 1 kinds.xor_split 0 ++ (thing sequence_flow 15 1 2 0 ++ thing sequence_flow 26 1 2 0))

abbrev said : List ℕ
said = bytes "<g default='f'><f id='f'/><f id='h'/>"

abbrev values : List Point
values =
    yes "message 16 that a node sends" (is_message_beyond (sending 2) 19)
    ∷ no "message 15" (is_message_beyond (sending 2) 18)
    ∷ no "message 16 between outsiders" (is_message_beyond (sending 1) 19)
    ∷ yes "a maximum of 17" (is_maximum_beyond (bytes "<m maximum='17'/>") (multiple 1) 3)
    ∷ no "of 16" (is_maximum_beyond (bytes "<m maximum='16'/>") (multiple 1) 3)
    ∷ no "of 1" (is_maximum_beyond (bytes "<m maximum='1'/>") (multiple 1) 3)
    ∷ yes "of 0" (is_maximum_beyond (bytes "<m maximum='0'/>") (multiple 1) 3)
    ∷ yes "of 65,537" (is_maximum_beyond (bytes "<m maximum='65537'/>") (multiple 1) 3)
    ∷ no "an outsider's" (is_maximum_beyond (bytes "<m maximum='17'/>") (multiple 0) 3)
    ∷ yes "1 where it is absent" (eqb (maximum_of (bytes "<m/>") (multiple 1) 3) 1)
    ∷ yes "at the value's first byte" (eqb (beyond_at (bytes "<m maximum='17'/>") (multiple 1) 3) 12)
    ∷ no "the default flow's condition doesn't stand in the table" (is_guarded said split 5 3)
    ∷ yes "another one's does" (is_guarded said split 5 4)
    ∷ no "that of a flow out of another node doesn't" (is_guarded said (inside (node task kinds.task ++ flow 2 0)) 4 3)
    ∷ []

abbrev pub points : List Point
points = counts ++ (numbers ++ values)
