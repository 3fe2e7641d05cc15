-- WHICH ELEMENT IS WHICH THING. "A child that is none of these here and is not in R13 is 'an element we don't run'. So an unknown name is refused, never passed over" (R12). (RULES: drawn)
use Rattle.std.specs.Prelude.{ℕ, ◌+◌, ◌-◌, Bool, true, false, not, ◌&&◌, List, [], ◌∷◌, ◌++◌, map, eqb, leb, length, get_or, drop, replicate, Option, Some, None}
use Prim.Native.String.{String}
use Rattle.base_words.specs.Blocks.{Bytes}
use Rattle.base_words.specs.Pick.{if◌then◌or_else◌}
use Rattle.base_words.specs.Text.{bytes}
use Rattle.base_words.specs.Words.{at, part}
use Rattle.base_bytes.specs.Bytes.{same_bytes}
use Rattle.xml_markup.specs.declared.Cursor.{Cursor}
use Rattle.xml_markup.specs.Tokens.{whole, moved, if_on, if_attribute, begun}
use Rattle.xml_markup.specs.Spans.{name_at, bytes_of, local_of, quote_at, value_at}
use Rattle.draw_things.specs.Things.{nothing, definitions, collaboration, participant, participant_multiplicity, message_flow, process, sequence_flow, condition_expression, message_event_definition, terminate_event_definition, stranger, start_event, end_event, intermediate_catch_event, intermediate_throw_event, task, send_task, receive_task, parallel_gateway, exclusive_gateway, event_based_gateway}

-- a name, what it draws, and what that stands in
pub record Row : Type 0 where
  pub name : List ℕ
  pub sort : ℕ
  pub parent : ℕ

infix 70 ◌draws◌in_a◌
abbrev ◌draws◌in_a◌ : String → ℕ → ℕ → Row
name draws s in_a parent = record { name = bytes name; sort = s; parent = parent }

-- the four events are one parent
abbrev event : ℕ
event = start_event

-- "Read into: `definitions` (collaboration, process), `collaboration` (participant, messageFlow), `participant` (participantMultiplicity), `process` (the ten nodes, sequenceFlow), events
-- (messageEventDefinition, terminateEventDefinition), `sequenceFlow` (conditionExpression), other nodes and `messageFlow` (nothing)" (R12) (RULES: drawn)
abbrev read_into : List Row
read_into =
    "collaboration" draws collaboration in_a definitions ∷
    "process" draws process in_a definitions ∷
    "participant" draws participant in_a collaboration ∷
    "messageFlow" draws message_flow in_a collaboration ∷
    "participantMultiplicity" draws participant_multiplicity in_a participant ∷
    "startEvent" draws start_event in_a process ∷
    "endEvent" draws end_event in_a process ∷
    "intermediateCatchEvent" draws intermediate_catch_event in_a process ∷
    "intermediateThrowEvent" draws intermediate_throw_event in_a process ∷
    "task" draws task in_a process ∷
    "sendTask" draws send_task in_a process ∷
    "receiveTask" draws receive_task in_a process ∷
    "parallelGateway" draws parallel_gateway in_a process ∷
    "exclusiveGateway" draws exclusive_gateway in_a process ∷
    "eventBasedGateway" draws event_based_gateway in_a process ∷
    "sequenceFlow" draws sequence_flow in_a process ∷
    "messageEventDefinition" draws message_event_definition in_a event ∷
    "terminateEventDefinition" draws terminate_event_definition in_a event ∷
    "conditionExpression" draws condition_expression in_a sequence_flow ∷ []

-- "Skipped whole wherever they stand, since they say nothing about the run" (R13) (RULES: drawn)
abbrev skipped_whole : List String
skipped_whole =
    "documentation" ∷ "extensionElements" ∷
    "BPMNDiagram" ∷ "import" ∷ "extension" ∷ "relationship" ∷ "message" ∷ "itemDefinition" ∷ "category" ∷ "interface" ∷ "resource" ∷ "error" ∷ "escalation" ∷ "signal" ∷ "dataStore" ∷ "endPoint" ∷ "partnerEntity" ∷ "partnerRole" ∷ "correlationProperty" ∷
    "textAnnotation" ∷ "association" ∷ "group" ∷ "interfaceRef" ∷ "endPointRef" ∷
    "laneSet" ∷ "dataObject" ∷ "dataObjectReference" ∷ "property" ∷ "ioSpecification" ∷ "ioBinding" ∷ "auditing" ∷ "monitoring" ∷ "supports" ∷ "supportedInterfaceRef" ∷ "correlationSubscription" ∷ "categoryValueRef" ∷
    "incoming" ∷ "outgoing" ∷ "dataInputAssociation" ∷ "dataOutputAssociation" ∷ "dataInput" ∷ "dataOutput" ∷ "inputSet" ∷ "outputSet" ∷ "resourceRole" ∷ "performer" ∷ "humanPerformer" ∷ "potentialOwner" ∷ []

abbrev says_nothing : String → Row
says_nothing name = record { name = bytes name; sort = nothing; parent = nothing }

unfoldable pub rows : List Row
rows = read_into ++ map says_nothing skipped_whole

abbrev pub row_count : ℕ
row_count = 67

abbrev pub unknown : Row
unknown = record { name = []; sort = stranger; parent = nothing }

-- the row of a name, of those from row i on; behind them all where there is none
unfoldable pub row_from : Bytes → List Row → ℕ → ℕ
row_from name [] i = i
row_from name (r ∷ rs) i = if same_bytes name r.name then i or_else row_from name rs (i + 1)

unfoldable pub row_named : Bytes → ℕ
row_named name = row_from name rows 0

unfoldable pub row_of : ℕ → Row
row_of i = get_or rows i unknown

-- a name with blanks behind it, as the code keeps it
abbrev pub padded : Bytes → Bytes
padded name = name ++ replicate (24 - length name) 32

-- "On a process's children the attributes instantiate, isForCompensation, isCollection (`false`), eventGatewayType (`Exclusive`), startQuantity, completionQuantity (`1`) may only have that value:
-- another one draws another element. All other attributes are ignored" (R14) (RULES: drawn)
unfoldable pub is_false : Bytes → Bool
is_false name =
    if same_bytes name (bytes "instantiate") then true
    or_else if same_bytes name (bytes "isForCompensation") then true
    or_else same_bytes name (bytes "isCollection")

unfoldable pub is_one : Bytes → Bool
is_one name = if same_bytes name (bytes "startQuantity") then true or_else same_bytes name (bytes "completionQuantity")

unfoldable pub differs : Bytes → Bytes → Bool
differs name value =
    if is_false name then not (same_bytes value (bytes "false"))
    or_else if is_one name then not (same_bytes value (bytes "1"))
    or_else if same_bytes name (bytes "eventGatewayType") then not (same_bytes value (bytes "Exclusive"))
    or_else false

unfoldable pub value_bytes : Bytes → Option (ℕ × ℕ) → Bytes
value_bytes t (Some (from, to)) = part t from to
value_bytes t None = []

-- the value of the attribute whose name ends at i
unfoldable pub value_behind : Bytes → ℕ → Bytes
value_behind t i = value_bytes t (value_at t (quote_at t i))

-- the byte at i shows an attribute's name to be whole, and it has another value
unfoldable pub differs_at : Bytes → Cursor → ℕ → Bool
differs_at t c i = if_attribute (whole c.state (at t i)) (differs (part t c.mark i) (value_behind t i)) false

-- in the tag that is read so far, with the bytes s from the place i on
unfoldable pub differs_from : Bytes → Cursor → List ℕ → ℕ → Bool
differs_from t c [] i = false
differs_from t c (b ∷ s) i = if differs_at t c i then true or_else if_on (moved c (at t i) i (i + 1)) (λ next. differs_from t next s (i + 1)) false

unfoldable pub draws_another : Bytes → ℕ → Bool
draws_another t p = differs_from t (begun p) (drop p t) p

unfoldable pub is_event : ℕ → Bool
is_event s = leb start_event s && leb s intermediate_throw_event

unfoldable pub family : ℕ → ℕ
family s = if is_event s then event or_else s

-- what a name with this row draws inside a thing of the sort `parent`
unfoldable pub named_in : Row → ℕ → ℕ
named_in r parent = if eqb r.sort nothing then nothing or_else if not (eqb r.parent (family parent)) then stranger or_else r.sort

unfoldable pub named_at : ℕ → Bytes → ℕ → ℕ
named_at parent t p = named_in (row_of (row_named (local_of (bytes_of t (name_at t p))))) parent

-- what is drawn by the element whose tag is at p and whose name draws s: a process's child may draw another one, a collection too
unfoldable pub drawn_as : ℕ → ℕ → Bytes → ℕ → ℕ
drawn_as s parent t p =
    if not (eqb parent process) then s
    or_else if draws_another t p then stranger
    or_else s
