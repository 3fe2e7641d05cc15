-- What R15, R16 and R23 say, tried at the boundary of each sentence: one table. A row says what is tried, and names the things drawn, of which thing 2 is the node, and its kind; 0 is no kind of ours. (RULES: nodes)
use Rattle.std.specs.Prelude.{ℕ, zero, suc, ◌+◌, List, [], ◌∷◌, ◌++◌}
use Prim.Native.String.{String}
use Rattle.base_kinds.specs.Kinds as kinds
use Rattle.draw_things.specs.Things.{definitions, sequence_flow, message_event_definition, terminate_event_definition, start_event, end_event, intermediate_catch_event, intermediate_throw_event, task, send_task, receive_task, parallel_gateway, exclusive_gateway, event_based_gateway, branch}

pub record Point : Type 0 where
  pub says : String
  pub things : List ℕ
  pub count : ℕ
  pub kind : ℕ

-- a thing of a sort, within another, with its source and target
abbrev pub thing : ℕ → ℕ → ℕ → ℕ → List ℕ
thing s i from to = s ∷ 0 ∷ i ∷ from ∷ to ∷ []

abbrev times : ℕ → List ℕ → List ℕ
times zero x = []
times (suc n) x = x ++ times n x

-- the root, what stands beside the node, and the node
abbrev pub node : ℕ → ℕ → List ℕ
node beside s = thing definitions 0 0 0 ++ (thing beside 0 0 0 ++ thing s 0 0 0)

-- flows in, flows out, message and terminate definitions of a node of sort s, its flows from and to what stands beside it
abbrev around : ℕ → ℕ → ℕ → ℕ → ℕ → ℕ → List ℕ
around beside s i o m e =
    node beside s
    ++ (times i (thing sequence_flow 0 1 2) ++ (times o (thing sequence_flow 0 2 1) ++ (times m (thing message_event_definition 2 0 0) ++ times e (thing terminate_event_definition 2 0 0))))

abbrev row : String → ℕ → ℕ → ℕ → ℕ → ℕ → ℕ → ℕ → Point
row says beside s i o m e kind = record { says = says; things = around beside s i o m e; count = 3 + i + o + m + e; kind = kind }

-- flows in, flows out, message definitions, terminate definitions
abbrev drawn : String → ℕ → ℕ → ℕ → ℕ → ℕ → ℕ → Point
drawn says s i o m e kind = row says task s i o m e kind

-- a node with a flow to itself, and i flows in and o out beside it
abbrev looped : String → ℕ → ℕ → ℕ → ℕ → Point
looped says s i o kind =
    record { says = says; things = around task s i o 0 0 ++ thing sequence_flow 0 2 2; count = 4 + i + o; kind = kind }

abbrev events : List Point
events =
    drawn "a start event without definition is start" start_event 0 1 0 0 kinds.start
    ∷ drawn "a start event with a message is startRcv" start_event 0 1 1 0 kinds.start_rcv
    ∷ drawn "a start event has one definition" start_event 0 1 2 0 0
    ∷ drawn "a start event doesn't terminate" start_event 0 1 0 1 0
    ∷ drawn "a start has no flow in" start_event 1 1 0 0 0
    ∷ drawn "a start has a flow out" start_event 0 0 0 0 0
    ∷ drawn "a start has one flow out" start_event 0 2 0 0 0
    ∷ drawn "an end event without definition is end" end_event 1 0 0 0 kinds.end
    ∷ drawn "an end event with a message is endSnd" end_event 1 0 1 0 kinds.end_snd
    ∷ drawn "an end event that terminates is terminate" end_event 1 0 0 1 kinds.terminate
    ∷ drawn "an end event has one definition" end_event 1 0 1 1 0
    ∷ drawn "an end doesn't terminate twice" end_event 1 0 0 2 0
    ∷ drawn "an end has no flow out" end_event 1 1 0 0 0
    ∷ drawn "an end has a flow in" end_event 0 0 0 0 0
    ∷ drawn "an end has one flow in" end_event 2 0 0 0 0
    ∷ drawn "a catch event with a message is interRcv" intermediate_catch_event 1 1 1 0 kinds.inter_rcv
    ∷ drawn "an intermediate none event is no kind of ours" intermediate_catch_event 1 1 0 0 0
    ∷ drawn "a catch event has one definition" intermediate_catch_event 1 1 2 0 0
    ∷ drawn "a catch event doesn't terminate" intermediate_catch_event 1 1 0 1 0
    ∷ drawn "a catch event has a flow in" intermediate_catch_event 0 1 1 0 0
    ∷ drawn "a catch event has one flow in" intermediate_catch_event 2 1 1 0 0
    ∷ drawn "a catch event has a flow out" intermediate_catch_event 1 0 1 0 0
    ∷ drawn "a catch event has one flow out" intermediate_catch_event 1 2 1 0 0
    ∷ drawn "a throw event with a message is interSnd" intermediate_throw_event 1 1 1 0 kinds.inter_snd
    ∷ drawn "a throw event without definition is no kind of ours" intermediate_throw_event 1 1 0 0 0
    ∷ drawn "a throw event has one flow out" intermediate_throw_event 1 2 1 0 0
    ∷ row "a catch event behind an event gateway is its branch" event_based_gateway intermediate_catch_event 1 1 1 0 branch
    ∷ row "a branch has one entry" event_based_gateway intermediate_catch_event 2 1 1 0 0
    ∷ row "a branch has one exit" event_based_gateway intermediate_catch_event 1 2 1 0 0
    ∷ row "a branch receives" event_based_gateway intermediate_catch_event 1 1 0 0 0
    ∷ row "a receive task behind an event gateway is no branch" event_based_gateway receive_task 1 1 0 0 kinds.task_rcv
    ∷ []

abbrev others : List Point
others =
    drawn "a task" task 1 1 0 0 kinds.task
    ∷ drawn "a send task" send_task 1 1 0 0 kinds.task_snd
    ∷ drawn "a receive task" receive_task 1 1 0 0 kinds.task_rcv
    ∷ drawn "a task has a flow in" task 0 1 0 0 0
    ∷ drawn "a task has one flow in" task 2 1 0 0 0
    ∷ drawn "a task has a flow out" send_task 1 0 0 0 0
    ∷ drawn "a task has one flow out" receive_task 1 2 0 0 0
    ∷ looped "a flow to the node itself is one in and one out" task 0 0 kinds.task
    ∷ drawn "one in and two out splits" parallel_gateway 1 2 0 0 kinds.and_split
    ∷ drawn "two in and one out joins" parallel_gateway 2 1 0 0 kinds.and_join
    ∷ drawn "one in and one out does neither" parallel_gateway 1 1 0 0 0
    ∷ drawn "two in and two out does neither" parallel_gateway 2 2 0 0 0
    ∷ drawn "none in doesn't split" parallel_gateway 0 2 0 0 0
    ∷ drawn "none out doesn't join" parallel_gateway 2 0 0 0 0
    ∷ drawn "nine out split" exclusive_gateway 1 9 0 0 kinds.xor_split
    ∷ drawn "nine in join" exclusive_gateway 9 1 0 0 kinds.xor_join
    ∷ looped "a flow to the gateway itself is an entry of a join" exclusive_gateway 1 0 kinds.xor_join
    ∷ looped "a flow to the gateway itself is an exit of a split" exclusive_gateway 0 1 kinds.xor_split
    ∷ looped "and counts at both ends" exclusive_gateway 1 1 0
    ∷ drawn "an event gateway splits" event_based_gateway 1 2 0 0 kinds.event_based
    ∷ drawn "an event gateway doesn't join" event_based_gateway 2 1 0 0 0
    ∷ []

abbrev pub points : List Point
points = events ++ others
