-- A DRAWING AS DATA, and `spell`, the text in the notation that has the same content: straight from participants, nodes, sequence flows and message flows, by neither a table nor the words of an element.
-- "Pools, elements, tasks, edges and messages are numbered from the lowest allowed, and lists ordered, as participants, nodes, sequence and message flows stand." (RULES: numbering)
use Prim.Native.Char.{code}
use Rattle.std.specs.Prelude.{ℕ, suc, ◌+◌, Bool, not, ◌&&◌, List, [], ◌∷◌, ◌++◌, map, eqb, leb, ltb, length}
use Prim.Native.String.{String}
use Rattle.base_words.specs.Blocks.{Bytes, Drawing}
use Rattle.base_words.specs.Each.{joined, those}
use Rattle.base_words.specs.Pick.{if◌then◌or_else◌}
use Rattle.base_words.specs.Text.{bytes}
use Rattle.base_kinds.specs.Kinds as kinds
use Rattle.base_table.specs.Places.{a_field, always, default, equals}
use Rattle.write_decimals.specs.Decimals.{shown}
use Rattle.write_shown.specs.Shown.{enclosed_by, shown_field}
use Rattle.draw_things.specs.Things.{sort, place, within, source, target, kind, is_node, participant_multiplicity, message_flow, sequence_flow, condition_expression, task, receive_task, branch}
use Rattle.draw_walk.specs.Walk.{Walk}
use Rattle.draw_kinds.specs.Counting.{within_in, of_sort, first_with}
use Rattle.draw_conditions.specs.declared.Term.{Term}
use Rattle.draw_conditions.specs.declared.Condition.{Condition}
use Rattle.draw_conditions.specs.Conditions.{condition_at, absent, bare}
use Rattle.draw_numbers.specs.Who.{is_of_kind, has_participants, is_pool}
use Rattle.draw_numbers.specs.Numbers.{maximum_of, default_of}
use Rattle.draw_model.specs.Content.{process_of}
use Rattle.draw_read.specs.Drawings.{walked_text, things_of}

-- THE DATA. What is drawn is named by which of the things that the walk meets it is.
-- A participant with a process, or a process where there are no participants; "participantMultiplicity makes a miPool, n its maximum; none makes a `pool`" (R20)
pub record Participant : Type 0 where
  pub process : ℕ
  pub is_many : Bool
  pub maximum : ℕ

-- a node, the process that it stands in, and which of the fifteen kinds it is by its definitions and flows, or `branch`: a catch event behind an event gateway (R15, R16, R23)
pub record Node : Type 0 where
  pub name : ℕ
  pub process : ℕ
  pub sort : ℕ
  pub kind : ℕ

-- a sequence flow with the nodes that it joins; whether it leaves an event gateway; whether it is the default of the split that it leaves, and the condition that it says (R21, R22)
pub record Flow : Type 0 where
  pub name : ℕ
  pub process : ℕ
  pub from : ℕ
  pub to : ℕ
  pub leaves_gateway : Bool
  pub is_default : Bool
  pub condition : Condition

-- a message flow
pub record Message : Type 0 where
  pub from : ℕ
  pub to : ℕ

pub record Collaboration : Type 0 where
  pub participants : List Participant
  pub nodes : List Node
  pub flows : List Flow
  pub messages : List Message

-- AS THE WALK FINDS THEM: t is the text, w the things, n their count. Those of n things that pass a test, as what is made of them.
abbrev pub gathered : {A : Type 0} → (ℕ → Bool) → (ℕ → A) → ℕ → List A
gathered test make n = joined (λ k. if test k then make k ∷ [] or_else []) n

abbrev pub multiplicity_of : Drawing → ℕ → ℕ → ℕ
multiplicity_of w n k = first_with participant_multiplicity within_in k w n

abbrev pub participant_at : Bool → Bytes → Drawing → ℕ → ℕ → Participant
participant_at owned t w n k = record { process = process_of owned w k; is_many = ltb (multiplicity_of w n k) n; maximum = maximum_of t w (multiplicity_of w n k) }

abbrev pub node_at : Drawing → ℕ → Node
node_at w k = record { name = k; process = within w k; sort = sort w k; kind = kind w k }

-- "Blank text is no condition" (R21)
unfoldable pub said_on : Bytes → Drawing → ℕ → ℕ → Condition
said_on t w n j =
    if ltb (first_with condition_expression within_in j w n) n then condition_at t (place w (first_with condition_expression within_in j w n)) or_else bare absent

abbrev pub flow_at : Bytes → Drawing → ℕ → ℕ → Flow
flow_at t w n j =
    record {
      name = j;
      process = within w j;
      from = source w j;
      to = target w j;
      leaves_gateway = is_of_kind kinds.event_based w (source w j);
      is_default = eqb (default_of t w n (source w j)) j;
      condition = said_on t w n j;
    }

abbrev pub message_at : Drawing → ℕ → Message
message_at w j = record { from = source w j; to = target w j }

unfoldable pub collaboration_in : Bytes → Drawing → ℕ → Collaboration
collaboration_in t w n =
    record {
      participants = gathered (is_pool (has_participants w n) w) (participant_at (has_participants w n) t w n) n;
      nodes = gathered (λ k. is_node (sort w k)) (node_at w) n;
      flows = gathered (of_sort sequence_flow w) (flow_at t w n) n;
      messages = gathered (of_sort message_flow w) (message_at w) n;
    }

unfoldable pub collaboration_of : Bytes → Collaboration
collaboration_of text = collaboration_in text (things_of text) (walked_text text).count

-- TEXTS: pieces with a sign between them; the place of the first in a list that passes a test; the first piece
unfoldable pub parted : ℕ → List Bytes → Bytes
parted s [] = []
parted s (x ∷ []) = x
parted s (x ∷ y ∷ ys) = x ++ (s ∷ parted s (y ∷ ys))

unfoldable pub first_at : {A : Type 0} → (A → Bool) → List A → ℕ
first_at f [] = 0
first_at f (x ∷ xs) = if f x then 0 or_else suc (first_at f xs)

unfoldable pub foremost : List Bytes → Bytes
foremost [] = []
foremost (x ∷ xs) = x

-- NUMBERS. "edge 1.. as the process's sequence flows stand, those into a catch event behind an event gateway left out" (R26): one more than stand before the flow
unfoldable pub numbered_flows : Collaboration → ℕ → List Flow
numbered_flows d p = those (λ g. eqb g.process p && not g.leaves_gateway) d.flows

unfoldable pub flows_before : Collaboration → Flow → List Flow
flows_before d f = those (λ g. eqb g.process f.process && (not g.leaves_gateway && ltb g.name f.name)) d.flows

unfoldable pub edge : Collaboration → Flow → Bytes
edge d f = shown (1 + length (flows_before d f))

-- "then each start's first edge, in node order" (R26)
unfoldable pub starts_before : Collaboration → Node → List Node
starts_before d k = those (λ m. eqb m.kind kinds.start && (eqb m.process k.process && ltb m.name k.name)) d.nodes

unfoldable pub first_edge : Collaboration → Node → Bytes
first_edge d k = shown (1 + (length (numbered_flows d k.process) + length (starts_before d k)))

-- "task 1.. as tasks of the three kinds stand" (R26); "tasks are atomic, guard true, A `{}`"
unfoldable pub tasks_before : Collaboration → Node → List Node
tasks_before d k = those (λ m. leb task m.sort && (leb m.sort receive_task && (eqb m.process k.process && ltb m.name k.name))) d.nodes

unfoldable pub work : Collaboration → Node → Bytes
work d k = shown (1 + length (tasks_before d k)) ++ bytes ",a,true,{}"

-- "message 0.. as message flows stand" (R26); "messages are the empty tuple"
unfoldable pub received : Collaboration → ℕ → Bytes
received d k = shown (first_at (λ m. eqb m.to k) d.messages) ++ bytes ":<>"

unfoldable pub sent : Collaboration → ℕ → Bytes
sent d k = shown (first_at (λ m. eqb m.from k) d.messages) ++ bytes ":<>"

-- LISTS: "entries, exits and branches as the sequence flows stand" (R27)
unfoldable pub flows_into : Collaboration → ℕ → List Flow
flows_into d k = those (λ f. eqb f.to k) d.flows

unfoldable pub flows_from : Collaboration → ℕ → List Flow
flows_from d k = those (λ f. eqb f.from k) d.flows

unfoldable pub entries : Collaboration → Node → Bytes
entries d k = parted (code ",") (map (edge d) (flows_into d k.name))

unfoldable pub exits : Collaboration → Node → Bytes
exits d k = parted (code ",") (map (edge d) (flows_from d k.name))

-- "conditionExpression text is our condition, `true` if an exclusive split's flow has none, and its default flow is `default`"
unfoldable pub operand : Term → Bytes
operand o = if eqb o.flag a_field then shown_field o.number or_else shown o.number

unfoldable pub comparison : ℕ → Condition → Bytes
comparison s c = operand c.left ++ (s ∷ operand c.right)

unfoldable pub condition : Condition → Bytes
condition c =
    if eqb c.form absent then bytes "true"
    or_else if eqb c.form always then bytes "true"
    or_else if eqb c.form default then bytes "default"
    or_else if eqb c.form equals then comparison (code "=") c
    or_else comparison (code "<") c

unfoldable pub guard : Flow → Bytes
guard f = if f.is_default then bytes "default" or_else condition f.condition

unfoldable pub guarded : Collaboration → Flow → Bytes
guarded d f = enclosed_by (code "(") (code ")") (edge d f ++ (code "," ∷ guard f))

unfoldable pub choices : Collaboration → Node → Bytes
choices d k = enclosed_by (code "{") (code "}") (parted (code ",") (map (guarded d) (flows_from d k.name)))

-- "An event gateway's branches as the gateway's own flows stand; each branch has its catch event's message and exit" (R27)
unfoldable pub caught : Collaboration → Flow → Bytes
caught d f = enclosed_by (code "(") (code ")") (received d f.to ++ (code "," ∷ foremost (map (edge d) (flows_from d f.to))))

unfoldable pub catches : Collaboration → Node → Bytes
catches d k = parted (code ",") (map (caught d) (flows_from d k.name))

-- AN ELEMENT, in the form that document 01 gives its kind
abbrev pub braced : Bytes → Bytes
braced w = enclosed_by (code "{") (code "}") w

abbrev pub called : String → List Bytes → Bytes
called word parts = bytes word ++ enclosed_by (code "(") (code ")") (parted (code ",") parts)

unfoldable pub element_by : ℕ → Collaboration → Node → Bytes
element_by c d k =
    if eqb c kinds.start then called "start" (first_edge d k ∷ exits d k ∷ [])
    or_else if eqb c kinds.start_rcv then called "startRcv" (received d k.name ∷ exits d k ∷ [])
    or_else if eqb c kinds.end then called "end" (entries d k ∷ [])
    or_else if eqb c kinds.terminate then called "terminate" (entries d k ∷ [])
    or_else if eqb c kinds.end_snd then called "endSnd" (entries d k ∷ sent d k.name ∷ [])
    or_else if eqb c kinds.inter_rcv then called "interRcv" (entries d k ∷ received d k.name ∷ exits d k ∷ [])
    or_else if eqb c kinds.inter_snd then called "interSnd" (entries d k ∷ sent d k.name ∷ exits d k ∷ [])
    or_else if eqb c kinds.event_based then called "eventBased" (entries d k ∷ catches d k ∷ [])
    or_else if eqb c kinds.and_split then called "andSplit" (entries d k ∷ braced (exits d k) ∷ [])
    or_else if eqb c kinds.and_join then called "andJoin" (braced (entries d k) ∷ exits d k ∷ [])
    or_else if eqb c kinds.xor_join then called "xorJoin" (braced (entries d k) ∷ exits d k ∷ [])
    or_else if eqb c kinds.xor_split then called "xorSplit" (entries d k ∷ choices d k ∷ [])
    or_else if eqb c kinds.task then called "task" (entries d k ∷ work d k ∷ exits d k ∷ [])
    or_else if eqb c kinds.task_rcv then called "taskRcv" (entries d k ∷ work d k ∷ received d k.name ∷ exits d k ∷ [])
    or_else called "taskSnd" (entries d k ∷ work d k ∷ sent d k.name ∷ exits d k ∷ [])

unfoldable pub element : Collaboration → Node → Bytes
element d k = element_by k.kind d k

-- A POOL: "Pool 1.. by participant; elements as nodes stand" (R26); "a catch event behind an event gateway becomes its branch, and neither it nor the flow into it is numbered"
unfoldable pub elements_in : Collaboration → ℕ → List Node
elements_in d p = those (λ k. eqb k.process p && not (eqb k.kind branch)) d.nodes

unfoldable pub elements : Collaboration → Participant → Bytes
elements d p = parted (code "|") (map (element d) (elements_in d p.process))

unfoldable pub pool : Collaboration → ℕ → Participant → Bytes
pool d i p =
    if p.is_many then bytes "miPool" ++ enclosed_by (code "(") (code ")") (shown i ++ (code "," ∷ (elements d p ++ (code "," ∷ shown p.maximum))))
    or_else bytes "pool" ++ enclosed_by (code "(") (code ")") (shown i ++ (code "," ∷ elements d p))

unfoldable pub pools_from : Collaboration → ℕ → List Participant → List Bytes
pools_from d i [] = []
pools_from d i (p ∷ ps) = pool d i p ∷ pools_from d (suc i) ps

-- THE TEXT
unfoldable pub spell : Collaboration → Bytes
spell d = parted (code "|") (pools_from d 1 d.participants) ++ (code "\n" ∷ [])
