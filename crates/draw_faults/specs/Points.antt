-- What R17 to R24 say, tried at the boundary of each sentence: one table. A row says what is tried, and names a condition at given things, and what it is. (RULES: drawn)
use Rattle.std.specs.Prelude.{ℕ, ◌+◌, Bool, true, false, List, [], ◌∷◌, ◌++◌, length}
use Prim.Native.String.{String}
use Rattle.base_words.specs.Text.{bytes}
use Rattle.base_kinds.specs.Kinds as kinds
use Rattle.base_table.specs.Places.{always, default}
use Rattle.draw_things.specs.Things.{definitions, collaboration, participant, participant_multiplicity, message_flow, process, sequence_flow, condition_expression, stranger, start_event, end_event, intermediate_catch_event, task, send_task, receive_task, exclusive_gateway, event_based_gateway, branch}
use Rattle.draw_conditions.specs.Conditions.{absent, foreign}
use Rattle.draw_faults.specs.Amiss.{is_strange, is_repeated, is_second_collaboration, is_lost, is_unowned, is_second_multiplicity, is_of_no_kind, has_wrong_default, is_unheard, is_untold, is_loose, is_wrong_branch, is_second_condition, is_wrong_form, is_wrong_condition, is_wrong_message, is_drawing}
use Rattle.draw_numbers.specs.Who.{is_pool, has_pool, has_participants}

pub record Point : Type 0 where
  pub says : String
  pub tried : Bool
  pub is : Bool

abbrev yes : String → Bool → Point
yes s b = record { says = s; tried = b; is = true }

abbrev no : String → Bool → Point
no s b = record { says = s; tried = b; is = false }

-- a thing of a sort at a place, within another, with its source and target
abbrev thing : ℕ → ℕ → ℕ → ℕ → ℕ → List ℕ
thing s p i from to = s ∷ p ∷ i ∷ from ∷ to ∷ []

abbrev root : List ℕ
root = thing definitions 0 0 0 0

-- things 1 and 2 behind the root, without text
abbrev one : ℕ → ℕ → ℕ → List ℕ
one s from to = root ++ thing s 0 0 from to

abbrev two : ℕ → ℕ → ℕ → ℕ → List ℕ
two s from s' from' = one s from 0 ++ thing s' 0 0 from' 0

-- the tags of things 1 and 2, and their sorts
abbrev same_ids : List ℕ
same_ids = bytes "<a id='x'><b id='x'>"

abbrev both : ℕ → ℕ → List ℕ
both s s' = root ++ (thing s 0 0 0 0 ++ thing s' 10 0 0 0)

abbrev anywhere : List Point
anywhere =
    yes "an element that we don't run" (is_strange (one stranger 0 0) 1)
    ∷ no "one that we run" (is_strange (one task 0 0) 1)
    ∷ yes "the id of another" (is_repeated same_ids (both task process) 2)
    ∷ no "is told of the second alone" (is_repeated same_ids (both task process) 1)
    ∷ no "another id" (is_repeated (bytes "<a id='x'><b id='y'>") (both task process) 2)
    ∷ no "no id" (is_repeated (bytes "<a id='x'><b>") (both task process) 2)
    ∷ no "the id of an element that isn't read" (is_repeated same_ids (both collaboration process) 2)
    ∷ no "an element that isn't read" (is_repeated same_ids (both task collaboration) 2)
    ∷ []

abbrev pools : List Point
pools =
    yes "a participant with a process is a pool" (is_pool true (one participant 2 0) 1)
    ∷ no "one without is none" (is_pool true (one participant 0 0) 1)
    ∷ no "where there are participants a process is none" (is_pool true (one process 0 0) 1)
    ∷ yes "else it is" (is_pool false (one process 0 0) 1)
    ∷ yes "a participant" (has_participants (two process 0 participant 0) 3)
    ∷ no "none" (has_participants (two process 0 task 0) 3)
    ∷ yes "a pool" (has_pool true (two process 0 participant 1) 3)
    ∷ no "neither" (has_pool false (one collaboration 0 0) 2)
    ∷ yes "a second collaboration" (is_second_collaboration (two collaboration 0 collaboration 0) 2)
    ∷ no "the first one" (is_second_collaboration (two collaboration 0 collaboration 0) 1)
    ∷ yes "a processRef that names none" (is_lost (bytes "<a processRef='x'>") (one participant 0 0) 1)
    ∷ no "one that names a process" (is_lost (bytes "<a processRef='x'>") (one participant 2 0) 1)
    ∷ no "no processRef" (is_lost (bytes "<a id='x'>") (one participant 0 0) 1)
    ∷ no "a process that belongs to one" (is_unowned (two process 0 participant 1) 3 1)
    ∷ yes "an unused process" (is_unowned (two process 0 participant 0) 3 1)
    ∷ yes "a process that belongs to two" (is_unowned (two process 0 participant 1 ++ thing participant 0 0 1 0) 4 1)
    ∷ no "a process where there are no participants" (is_unowned (one process 0 0) 2 1)
    ∷ yes "a second multiplicity" (is_second_multiplicity (two participant_multiplicity 0 participant_multiplicity 0) 2)
    ∷ no "of another participant" (is_second_multiplicity (one participant_multiplicity 0 0 ++ thing participant_multiplicity 0 1 0 0) 2)
    ∷ []

abbrev with_default : List ℕ
with_default = bytes "<a default='f'><b id='f'>"

abbrev split : ℕ → ℕ → List ℕ
split kind from = root ++ (thing exclusive_gateway 0 0 kind 0 ++ thing sequence_flow 15 0 from 3)

-- a node of a kind, and message flows that leave it, or come to it
abbrev nodes : List Point
nodes =
    yes "a node of no kind" (is_of_no_kind (one task 0 0) 1)
    ∷ no "a node of a kind" (is_of_no_kind (one task kinds.task 0) 1)
    ∷ no "no node" (is_of_no_kind (one process 0 0) 1)
    ∷ no "a default that is its own flow" (has_wrong_default with_default (split kinds.xor_split 1) 3 1)
    ∷ yes "a default that leaves another" (has_wrong_default with_default (split kinds.xor_split 3) 3 1)
    ∷ yes "a default that is no flow" (has_wrong_default (bytes "<a default='f'><b id='g'>") (split kinds.xor_split 1) 3 1)
    ∷ no "no default" (has_wrong_default (bytes "<a id='f'>") (split kinds.xor_split 1) 3 1)
    ∷ no "a default of a join" (has_wrong_default with_default (split kinds.xor_join 3) 3 1)
    ∷ no "a sender with a message flow" (is_unheard (two send_task kinds.task_snd message_flow 1) 3 1)
    ∷ yes "a sender without" (is_unheard (two send_task kinds.task_snd message_flow 3) 3 1)
    ∷ yes "a sender with two" (is_unheard (two send_task kinds.task_snd message_flow 1 ++ thing message_flow 0 0 1 0) 4 1)
    ∷ yes "a message throw event sends" (is_unheard (one task kinds.inter_snd 0) 2 1)
    ∷ yes "a message end event sends" (is_unheard (one end_event kinds.end_snd 0) 2 1)
    ∷ no "a receiver doesn't" (is_unheard (one receive_task kinds.task_rcv 0) 2 1)
    ∷ no "a receiver with a message flow" (is_untold (one receive_task kinds.task_rcv 0 ++ thing message_flow 0 0 3 1) 3 1)
    ∷ yes "a receiver without" (is_untold (one receive_task kinds.task_rcv 0 ++ thing message_flow 0 0 1 3) 3 1)
    ∷ yes "a receiver with two" (is_untold (one receive_task kinds.task_rcv 0 ++ (thing message_flow 0 0 0 1 ++ thing message_flow 0 0 0 1)) 4 1)
    ∷ yes "a message start event receives" (is_untold (one start_event kinds.start_rcv 0) 2 1)
    ∷ yes "a message catch event receives" (is_untold (one intermediate_catch_event kinds.inter_rcv 0) 2 1)
    ∷ yes "behind an event gateway too" (is_untold (one intermediate_catch_event branch 0) 2 1)
    ∷ no "a sender doesn't" (is_untold (one send_task kinds.task_snd 0) 2 1)
    ∷ []

-- flow 1 from thing 2 to thing 3, of given sorts and kinds; the tags of things 2 and 3
abbrev joining : ℕ → ℕ → ℕ → ℕ → ℕ → List ℕ
joining flow s c s' c' = root ++ (thing flow 0 0 2 3 ++ (thing s 0 0 c 0 ++ thing s' 3 0 c' 0))

abbrev outsiders : List ℕ
outsiders = bytes "<a><b>"

abbrev with_process : List ℕ
with_process = bytes "<a><b processRef='x'>"

-- condition 1 of flow 2 from thing 3
abbrev guarded : ℕ → List ℕ
guarded kind = root ++ (thing condition_expression 0 2 0 0 ++ (thing sequence_flow 0 0 3 0 ++ thing exclusive_gateway 0 0 kind 0))

abbrev flows : List Point
flows =
    no "a flow with two ends" (is_loose (one sequence_flow 2 3) 1)
    ∷ yes "a flow from none" (is_loose (one sequence_flow 0 3) 1)
    ∷ yes "a flow to none" (is_loose (one sequence_flow 2 0) 1)
    ∷ no "no flow" (is_loose (one task 0 0) 1)
    ∷ no "a flow from an event gateway to its branch" (is_wrong_branch (joining sequence_flow event_based_gateway kinds.event_based intermediate_catch_event branch) 1)
    ∷ yes "a flow from it to a receive task" (is_wrong_branch (joining sequence_flow event_based_gateway kinds.event_based receive_task kinds.task_rcv) 1)
    ∷ no "a flow from a task to a receive task" (is_wrong_branch (joining sequence_flow task kinds.task receive_task kinds.task_rcv) 1)
    ∷ yes "a second condition of a flow" (is_second_condition (two condition_expression 0 condition_expression 0) 2)
    ∷ no "its first one" (is_second_condition (two condition_expression 0 condition_expression 0) 1)
    ∷ no "blank text on any flow" (is_wrong_form absent (guarded kinds.xor_join) 1)
    ∷ no "`true` behind an exclusive split" (is_wrong_form always (guarded kinds.xor_split) 1)
    ∷ no "`default` there" (is_wrong_form default (guarded kinds.xor_split) 1)
    ∷ yes "what is not in our notation" (is_wrong_form foreign (guarded kinds.xor_split) 1)
    ∷ yes "`true` behind a join" (is_wrong_form always (guarded kinds.xor_join) 1)
    ∷ yes "`true` behind a parallel split" (is_wrong_form always (guarded kinds.and_split) 1)
    ∷ no "no condition" (is_wrong_condition [] (one task 0 0) 1)
    ∷ no "from a sender to a receiver" (is_wrong_message [] (joining message_flow send_task kinds.task_snd receive_task kinds.task_rcv) 1)
    ∷ no "from a sender to an outsider" (is_wrong_message outsiders (joining message_flow send_task kinds.task_snd participant 0) 1)
    ∷ no "from an outsider to a receiver" (is_wrong_message outsiders (joining message_flow participant 0 receive_task kinds.task_rcv) 1)
    ∷ no "from an outsider to an outsider" (is_wrong_message outsiders (joining message_flow participant 0 participant 0) 1)
    ∷ yes "from a sender to a pool's edge" (is_wrong_message with_process (joining message_flow send_task kinds.task_snd participant 4) 1)
    ∷ yes "from a plain task" (is_wrong_message [] (joining message_flow task kinds.task receive_task kinds.task_rcv) 1)
    ∷ yes "from a receiver" (is_wrong_message [] (joining message_flow receive_task kinds.task_rcv receive_task kinds.task_rcv) 1)
    ∷ yes "to a sender" (is_wrong_message [] (joining message_flow send_task kinds.task_snd send_task kinds.task_snd) 1)
    ∷ yes "to none" (is_wrong_message [] (one message_flow 0 0) 1)
    ∷ []

-- WHOLE DRAWINGS: things of a sort, each within another, with their source and target, and their tags
pub record Tag : Type 0 where
  pub sort : ℕ
  pub within : ℕ
  pub source : ℕ
  pub target : ℕ
  pub tag : List ℕ

infix 70 ◌inside◌from◌to◌tagged◌
abbrev ◌inside◌from◌to◌tagged◌ : ℕ → ℕ → ℕ → ℕ → String → Tag
s inside i from f to g tagged b = record { sort = s; within = i; source = f; target = g; tag = bytes b }

abbrev text_of : List Tag → List ℕ
text_of [] = []
text_of (x ∷ xs) = x.tag ++ text_of xs

abbrev things_of : ℕ → List Tag → List ℕ
things_of p [] = []
things_of p (x ∷ xs) = thing x.sort p x.within x.source x.target ++ things_of (p + length x.tag) xs

abbrev judged : List Tag → Bool
judged d = is_drawing (text_of d) (things_of 0 d) (length d)

abbrev process' : String → Tag
process' tag = process inside 0 from 0 to 0 tagged tag

abbrev participant' : ℕ → String → Tag
participant' p tag = participant inside 0 from p to 0 tagged tag

abbrev plain : List Tag
plain =
    definitions inside 0 from 0 to 0 tagged "<a>"
    ∷ process' "<b id='p'>"
    ∷ start_event inside 1 from kinds.start to 0 tagged "<c id='s'>"
    ∷ end_event inside 1 from kinds.end to 0 tagged "<d id='e'>"
    ∷ sequence_flow inside 1 from 2 to 3 tagged "<f id='f'>"
    ∷ []

abbrev drawings : List Point
drawings =
    yes "a process from start to end" (judged plain)
    ∷ yes "and an empty one" (judged (plain ++ (process' "<b>" ∷ [])))
    ∷ no "with the same id" (judged (plain ++ (process' "<b id='p'>" ∷ [])))
    ∷ yes "with its participant and an outsider" (judged (plain ++ (participant' 1 "<g processRef='p'>" ∷ participant' 0 "<g>" ∷ [])))
    ∷ no "with an outsider alone" (judged (plain ++ (participant' 0 "<g>" ∷ [])))
    ∷ no "with an element that we don't run" (judged (plain ++ (stranger inside 1 from 0 to 0 tagged "<h>" ∷ [])))
    ∷ no "with an end that no flow comes to" (judged (plain ++ (end_event inside 1 from 0 to 0 tagged "<d>" ∷ [])))
    ∷ no "nothing" (judged (definitions inside 0 from 0 to 0 tagged "<a>" ∷ []))
    ∷ []

abbrev pub points : List Point
points = anywhere ++ (pools ++ (nodes ++ (flows ++ drawings)))
