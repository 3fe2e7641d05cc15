-- The map of two small drawings, given as their things and what their table has before a start and before the end of a message end event. (RULES: drawings)
use Rattle.std.specs.Prelude.{ℕ, ◌+◌, List, [], ◌∷◌, ◌++◌, set, replicate}
use Prim.Native.String.{String}
use Rattle.base_words.specs.Text.{bytes}
use Rattle.base_kinds.specs.Kinds as kinds
use Rattle.base_table.specs.Places.{entries_place, edge_place, element_place}
use Rattle.draw_things.specs.Things.{definitions, collaboration, participant, message_flow, process, sequence_flow, start_event, end_event, intermediate_catch_event, task, event_based_gateway, branch}
use Rattle.draw_map.specs.Map.{map_of}

pub record Point : Type 0 where
  pub says : String
  pub found : List ℕ
  pub due : List ℕ

-- a thing of a sort at a place, within another, with its source and target
abbrev thing : ℕ → ℕ → ℕ → ℕ → ℕ → List ℕ
thing s p i from to = s ∷ p ∷ i ∷ from ∷ to ∷ []

abbrev node : ℕ → ℕ → ℕ → List ℕ
node s p kind = thing s p 1 kind 0

abbrev flow : ℕ → ℕ → ℕ → List ℕ
flow p from to = thing sequence_flow p 1 from to

-- a table whose first pool has the edge a before element 0, and b before element e
abbrev entered : ℕ → ℕ → ℕ → List ℕ
entered a e b = set (set (replicate (element_place 0 (e + 1)) 0) (element_place 0 0 + edge_place entries_place 0) a) (element_place 0 e + edge_place entries_place 0) b

-- process 1; a start, an event gateway, two catch events behind it, a message end event, an end; the gateway's flows lead to the second catch event first
abbrev chosen : List ℕ
chosen =
    thing definitions 0 0 0 0
    ++ (thing process 12 0 0 0
    ++ (node start_event 20 kinds.start
    ++ (node event_based_gateway 30 kinds.event_based
    ++ (node intermediate_catch_event 40 branch
    ++ (node intermediate_catch_event 50 branch
    ++ (node end_event 60 kinds.end_snd
    ++ (node end_event 65 kinds.end
    ++ (flow 70 2 3 ++ (flow 80 3 5 ++ (flow 90 3 4 ++ (flow 100 5 6 ++ flow 110 4 7)))))))))))

-- a participant without a process, one with process 1; a task; a message flow from the one without to itself
abbrev participants : List ℕ
participants = bytes "<participant id='a'/><participant processRef='p'/>"

abbrev owned : List ℕ
owned =
    thing definitions 0 0 0 0
    ++ (thing process 12 0 0 0
    ++ (node task 20 kinds.task
    ++ (thing collaboration 30 0 0 0
    ++ (thing participant 0 3 0 0
    ++ (thing participant 21 3 1 0
    ++ thing message_flow 60 3 4 4)))))

abbrev pub points : List Point
points =
    record {
      says = "a catch event behind an event gateway has no number, branches stand as the flows do, a message end event is two elements";
      found = map_of [] (entered 4 4 5) chosen 13;
      due = bytes "pool 1 12\nelement 1 0 20\nwithin 1 4 20\nelement 1 1 30\nbranch 1 1 0 80 50\nbranch 1 1 1 90 40\nelement 1 2 60\nelement 1 3 65\nelement 1 4 60\nwithin 1 5 60\nedge 1 1 70\nedge 1 2 100\nedge 1 3 110\nend\n";
    }
    ∷ record {
      says = "pools are the participants with a process; the others are outside; messages between these have numbers too";
      found = map_of participants [] owned 7;
      due = bytes "pool 1 21\nelement 1 0 20\noutside 0\nmessage 0 60\nend\n";
    }
    ∷ []
