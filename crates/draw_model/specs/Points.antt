-- One drawing for each of the fifteen kinds: the element that a node means is the one that the notation reads. A row names its text in the notation, the drawing's text and things, of which thing 2 is the node, and their count.
use Rattle.std.specs.Prelude.{ℕ, List, [], ◌∷◌, ◌++◌}
use Prim.Native.String.{String}
use Rattle.base_words.specs.Text.{bytes}
use Rattle.base_kinds.specs.Kinds as kinds
use Rattle.draw_things.specs.Things.{definitions, message_flow, process, sequence_flow, condition_expression, start_event, end_event, intermediate_catch_event, intermediate_throw_event, task, send_task, receive_task, parallel_gateway, exclusive_gateway, event_based_gateway, branch}

pub record Point : Type 0 where
  pub says : List ℕ
  pub text : List ℕ
  pub things : List ℕ
  pub count : ℕ

-- a thing of a sort at a place, within another, with its source and target
abbrev thing : ℕ → ℕ → ℕ → ℕ → ℕ → List ℕ
thing s p i from to = s ∷ p ∷ i ∷ from ∷ to ∷ []

-- the root, a process, and the node, thing 2, with what else is drawn
abbrev drawn : String → ℕ → ℕ → ℕ → List ℕ → Point
drawn says s kind count others =
    record { says = bytes says; text = []; things = thing definitions 0 0 0 0 ++ (thing process 0 0 0 0 ++ (thing s 0 1 kind 0 ++ others)); count = count }

abbrev flow : ℕ → ℕ → List ℕ
flow from to = thing sequence_flow 0 1 from to

abbrev message : ℕ → ℕ → List ℕ
message from to = thing message_flow 0 0 from to

abbrev through : List ℕ
through = flow 0 2 ++ flow 2 0

-- an exclusive split with a default flow, thing 4, and a condition of the flow that is thing 5
abbrev conditional : Point
conditional =
    record {
      says = bytes "xorSplit(1,{(2,default),(3,d0<7),(4,true)})";
      text = bytes "<g default='f'><f id='f'/><c>d0&lt;7</c>";
      things =
          thing definitions 0 0 0 0
          ++ (thing process 0 0 0 0
          ++ (thing exclusive_gateway 0 1 kinds.xor_split 0
          ++ (flow 0 2 ++ (thing sequence_flow 15 1 2 0 ++ (flow 2 0 ++ (flow 2 0 ++ thing condition_expression 26 5 0 0))))));
      count = 8;
    }

abbrev pub points : List Point
points =
    drawn "start(2,1)" start_event kinds.start 4 (flow 2 0)
    ∷ drawn "startRcv(0:<>,1)" start_event kinds.start_rcv 5 (flow 2 0 ++ message 1 2)
    ∷ drawn "end(1)" end_event kinds.end 4 (flow 0 2)
    ∷ drawn "terminate(1)" end_event kinds.terminate 4 (flow 0 2)
    ∷ drawn "endSnd(1,1:<>)" end_event kinds.end_snd 6 (flow 0 2 ++ (message 1 1 ++ message 2 1))
    ∷ drawn "interRcv(1,0:<>,2)" intermediate_catch_event kinds.inter_rcv 6 (through ++ message 1 2)
    ∷ drawn "interSnd(1,0:<>,2)" intermediate_throw_event kinds.inter_snd 6 (through ++ message 2 1)
    ∷ drawn "eventBased(1,(1:<>,3),(0:<>,2))" event_based_gateway kinds.event_based 12
    (thing intermediate_catch_event 0 1 branch 0
    ++ (thing intermediate_catch_event 0 1 branch 0
    ++ (flow 0 2 ++ (flow 2 4 ++ (flow 2 3 ++ (flow 3 0 ++ (flow 4 0 ++ (message 1 3 ++ message 1 4))))))))
    ∷ drawn "andSplit(1,{2,3})" parallel_gateway kinds.and_split 6 (through ++ flow 2 0)
    ∷ drawn "andJoin({1,3},2)" parallel_gateway kinds.and_join 6 (through ++ flow 0 2)
    ∷ drawn "xorJoin({1,3},2)" exclusive_gateway kinds.xor_join 6 (through ++ flow 0 2)
    ∷ conditional
    ∷ drawn "task(1,1,a,true,{},2)" task kinds.task 5 through
    ∷ drawn "taskRcv(1,1,a,true,{},0:<>,2)" receive_task kinds.task_rcv 6 (through ++ message 1 2)
    ∷ drawn "taskSnd(1,1,a,true,{},0:<>,2)" send_task kinds.task_snd 6 (through ++ message 2 1)
    ∷ []
