-- Walks tried at the boundary of each sentence: two tables. A row of the first says what is tried, and names a text and the place of its first fault; a row of the second a text without a fault, and its things.
use Rattle.xml_skip.specs.Skipping.{Reached, fault_at}
use Rattle.std.specs.Prelude.{ℕ, zero, suc, List, [], ◌∷◌, ◌++◌, length, Ok}
use Prim.Native.String.{String}
use Rattle.base_words.specs.Text.{bytes}
use Rattle.draw_things.specs.Things.{definitions, collaboration, participant, participant_multiplicity, message_flow, process, sequence_flow, condition_expression, message_event_definition, terminate_event_definition, stranger, start_event, end_event, intermediate_catch_event, task, receive_task, exclusive_gateway, event_based_gateway}
use Rattle.draw_walk.specs.Walk.{Walk}

pub record Refusal : Type 0 where
  pub says : String
  pub text : List ℕ
  pub place : Reached

abbrev at : String → List ℕ → ℕ → Refusal
at s t p = record { says = s; text = t; place = fault_at p }

-- a text n times
unfoldable pub times : ℕ → List ℕ → List ℕ
times zero w = []
times (suc n) w = w ++ times n w

-- a participantMultiplicity with this behind its name; the value of a maximum that stands there first is at 75
abbrev many : String → List ℕ
many w = bytes "<definitions><collaboration><participant><participantMultiplicity" ++ bytes w

abbrev pub refusals : List Refusal
refusals =
    at "the root's name is `definitions`, else at its `<`" (bytes " <process/>") 1 ∷
    at "whatever follows the name" (bytes "<process =") 0 ∷
    at "a name that is cut off is not judged" (bytes "<process") 8 ∷
    at "no root" (bytes " <!---->") 8 ∷
    at "a second root" (bytes "<definitions/> <definitions/>") 15 ∷
    at "text behind the root" (bytes "<definitions/>x") 14 ∷
    at "an end tag with another name, inside a process" (bytes "<definitions><process></definitions>") 22 ∷
    at "a fault inside what is skipped" (bytes "<definitions><documentation>&x;") 28 ∷
    at "no end tag" (bytes "<definitions><process></process>") 32 ∷
    at "the 17th element of extensionElements: at its `<`" (bytes "<definitions><extensionElements>" ++ times 16 (bytes "<a>")) 77 ∷
    at "16 of them, cut off" (bytes "<definitions><extensionElements>" ++ times 15 (bytes "<a>")) 77 ∷
    at "the 17th element of an element that we don't run" (bytes "<definitions><x>" ++ times 16 (bytes "<a>")) 61 ∷
    at "a maximum with a leading zero: at its first byte" (many " maximum='01'/>") 75 ∷
    at "no number" (many " maximum='x'/>") 75 ∷
    at "a sign" (many " maximum='-1'/>") 75 ∷
    at "a reference" (many " maximum='1&#49;'/>") 75 ∷
    at "an empty one" (many " maximum=''/>") 75 ∷
    at "cut off, not judged" (many " maximum='x") 76 ∷
    at "judged when it is whole" (many " maximum='x'") 75 ∷
    at "whatever follows it" (many " maximum='x'<") 75 ∷
    at "a fault inside it goes first" (many " maximum='x&y;'/>") 76 ∷
    at "a fault before it too" (many " b='&y;' maximum='x'/>") 69 ∷
    at "a fault behind it" (many " maximum='1'<") 77 ∷
    at "`minimum` isn't read" (many " minimum='x'>") 78 ∷ []

-- a thing: its sort, its place, the thing that it stands in
abbrev thing : ℕ → ℕ → ℕ → List ℕ
thing s p k = s ∷ p ∷ k ∷ 0 ∷ 0 ∷ []

pub record DrawingPoint : Type 0 where
  pub says : String
  pub text : List ℕ
  pub count : ℕ
  pub things : List ℕ

abbrev drawing : String → List ℕ → ℕ → List ℕ → DrawingPoint
drawing s t n w = record { says = s; text = t; count = n; things = w }

-- what the walk gives, in a block with room for its things
abbrev pub filled : DrawingPoint → Walk
filled d = record { end = Ok (length d.text); count = d.count; words = d.things }

-- an element of a process
abbrev in_process : String → List ℕ
in_process e = bytes "<definitions><process>" ++ (bytes e ++ bytes "</process></definitions>")

abbrev one : String → String → ℕ → DrawingPoint
one s e sort = drawing s (in_process e) 3 (thing definitions 0 0 ++ (thing process 13 0 ++ thing sort 22 1))

abbrev pub drawings : List DrawingPoint
drawings =
    drawing "behind a BOM, with any prefix" (239 ∷ 187 ∷ 191 ∷ bytes "<?xml?><b:definitions/> ") 1 (thing definitions 10 0) ∷
    drawing "nodes and flows mixed" (in_process "<task/><sequenceFlow/><endEvent/>") 5 (thing definitions 0 0 ++ (thing process 13 0 ++ (thing task 22 1 ++ (thing sequence_flow 29 1 ++ thing end_event 44 1)))) ∷
    drawing "a collaboration" (bytes "<definitions><collaboration><participant><participantMultiplicity maximum='0'/></participant><messageFlow/></collaboration></definitions>") 5
    (thing definitions 0 0 ++ (thing collaboration 13 0 ++ (thing participant 28 1 ++ (thing participant_multiplicity 41 2 ++ thing message_flow 93 1)))) ∷
    drawing "what stands in an event, and in a flow" (in_process "<startEvent><messageEventDefinition/><terminateEventDefinition/></startEvent><sequenceFlow><conditionExpression>d0</conditionExpression></sequenceFlow>") 7
    (thing definitions 0 0 ++ (thing process 13 0 ++ (thing start_event 22 1 ++ (thing message_event_definition 34 2 ++ (thing terminate_event_definition 59 2 ++ (thing sequence_flow 99 1 ++ thing condition_expression 113 5)))))) ∷
    drawing "what is skipped is skipped wherever it stands, with all that is in it" (bytes "<definitions><BPMNDiagram><process/></BPMNDiagram><collaboration><documentation/><participant><documentation/></participant></collaboration><process><laneSet><task/></laneSet><task><incoming>a</incoming></task></process></definitions>") 5
    (thing definitions 0 0 ++ (thing collaboration 50 0 ++ (thing participant 81 1 ++ (thing process 140 0 ++ thing task 175 3)))) ∷
    drawing "an unknown name is never passed over" (bytes "<definitions><a/></definitions>") 2 (thing definitions 0 0 ++ thing stranger 13 0) ∷
    drawing "nor one that stands elsewhere, with what is in it" (bytes "<definitions><task><b/></task></definitions>") 2 (thing definitions 0 0 ++ thing stranger 13 0) ∷
    drawing "nor a definition in a task, nor a maximum elsewhere" (in_process "<task><messageEventDefinition/></task><participantMultiplicity maximum='x'/>") 5
    (thing definitions 0 0 ++ (thing process 13 0 ++ (thing task 22 1 ++ (thing stranger 28 2 ++ thing stranger 60 1)))) ∷
    drawing "16 deep in extensionElements" (bytes "<definitions><extensionElements>" ++ (times 15 (bytes "<a>") ++ (times 15 (bytes "</a>") ++ bytes "</extensionElements></definitions>"))) 1 (thing definitions 0 0) ∷
    drawing "16 deep in extensionElements too, where the element they stand in draws another one by its attributes" (bytes "<definitions><process><task isForCompensation=\"true\"><extensionElements>" ++ (times 15 (bytes "<a>") ++ (times 15 (bytes "</a>") ++ bytes "</extensionElements></task></process></definitions>"))) 3
    (thing definitions 0 0 ++ (thing process 13 0 ++ thing stranger 22 1)) ∷
    drawing "more things than there is room for: counted" (in_process "<task/><task/>") 4 (thing definitions 0 0 ++ (thing process 13 0 ++ thing task 22 1)) ∷
    one "another value draws another element" "<task isForCompensation='true'/>" stranger ∷
    one "the default is none" "<task a='1' isForCompensation=\"false\"/>" task ∷
    one "a quantity" "<task startQuantity='2'/>" stranger ∷
    one "its default" "<task completionQuantity='1'/>" task ∷
    one "an event gateway" "<eventBasedGateway eventGatewayType='Parallel'/>" stranger ∷
    one "its defaults" "<eventBasedGateway instantiate='false' eventGatewayType='Exclusive'/>" event_based_gateway ∷
    one "attributes are compared whole" "<receiveTask b:instantiate='true' gatewayDirection='x'/>" receive_task ∷
    one "a collection" "<exclusiveGateway isCollection = 'a'/>" stranger ∷
    one "a collection of data" "<dataObject isCollection='true'/>" stranger ∷
    one "values are not looked at for names" "<intermediateCatchEvent name='isCollection=\"true\"'/>" intermediate_catch_event ∷ []
