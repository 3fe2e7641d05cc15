-- WHICH OF THE FIFTEEN KINDS A NODE IS (R15, R16, R23). w is the things drawn, their flows joined; n their count. 0: no kind of ours. (RULES: nodes)
use Rattle.std.specs.Prelude.{ℕ, ◌+◌, ◌-◌, ◌<◌, min, ◌≡◌, Bool, ◌&&◌, eqb, leb}
use Rattle.base_words.specs.Blocks.{Drawing}
use Rattle.base_words.specs.Iter.{iter}
use Rattle.base_words.specs.Pick.{if◌then◌or_else◌}
use Rattle.base_words.specs.Seek.{seek}
use Rattle.base_kinds.specs.Kinds as kinds
use Rattle.draw_things.specs.Things.{sort, source, kind, is_node, with_source, sequence_flow, message_event_definition, terminate_event_definition, start_event, end_event, intermediate_catch_event, intermediate_throw_event, task, send_task, receive_task, parallel_gateway, exclusive_gateway, event_based_gateway, branch}
use Rattle.draw_kinds.specs.declared.Shape.{Shape}
use Rattle.draw_kinds.specs.Counting.{source_in, target_in, within_in, count_with, first_with}

-- "A flow counts once for each end, also from a node to itself." (RULES: nodes)
unfoldable pub flows_in : Drawing → ℕ → ℕ → ℕ
flows_in w n k = count_with sequence_flow target_in k w n

unfoldable pub flows_out : Drawing → ℕ → ℕ → ℕ
flows_out w n k = count_with sequence_flow source_in k w n

-- an event's definitions
unfoldable pub messages_of : Drawing → ℕ → ℕ → ℕ
messages_of w n k = count_with message_event_definition within_in k w n

unfoldable pub terminates_of : Drawing → ℕ → ℕ → ℕ
terminates_of w n k = count_with terminate_event_definition within_in k w n

-- What is drawn round a node.
unfoldable pub shape_of : Drawing → ℕ → ℕ → Shape
shape_of w n k = record { ins = flows_in w n k; outs = flows_out w n k; messages = messages_of w n k; terminates = terminates_of w n k }

-- d is what the things before the last of so many draw round node k, each a thing's
abbrev pub Before : Drawing → ℕ → ℕ → Shape → Type 0
Before w many k d = (0 < many) × (d.ins < many) × (d.outs < many) × (d.messages < many) × (d.terminates < many) × (d ≡ shape_of w (many - 1) k)

-- "A start has 0 flows in and 1 out, an end 1 and 0, the others 1 and 1." (RULES: nodes)
unfoldable pub flows : ℕ → ℕ → Shape → Bool
flows i o d = eqb d.ins i && eqb d.outs o

-- "Exactly one definition": none, a message, a terminate (RULES: nodes)
unfoldable pub defines : ℕ → ℕ → Shape → Bool
defines m e d = eqb d.messages m && eqb d.terminates e

unfoldable pub when : Bool → ℕ → ℕ
when right kind = if right then kind or_else 0

-- "startEvent none = start, message = startRcv" (RULES: nodes)
unfoldable pub start_drawn : Shape → ℕ
start_drawn d = when (flows 0 1 d) (if defines 0 0 d then kinds.start or_else when (defines 1 0 d) kinds.start_rcv)

-- "endEvent none = end, message = endSnd, terminate = terminate" (RULES: nodes)
unfoldable pub end_drawn : Shape → ℕ
end_drawn d =
    when (flows 1 0 d) (if defines 0 0 d then kinds.end or_else if defines 1 0 d then kinds.end_snd or_else when (defines 0 1 d) kinds.terminate)

-- "intermediateCatchEvent message = interRcv; intermediateThrowEvent message = interSnd", and "task, sendTask, receiveTask" (RULES: nodes)
unfoldable pub intermediate : ℕ → Shape → ℕ
intermediate kind d = when (flows 1 1 d) (when (defines 1 0 d) kind)

unfoldable pub activity : ℕ → Shape → ℕ
activity kind d = when (flows 1 1 d) kind

-- "Exactly 1 in and 2 or more out splits, 2 or more in and exactly 1 out joins" (RULES: nodes)
unfoldable pub splits : Shape → Bool
splits d = eqb d.ins 1 && leb 2 d.outs

unfoldable pub joins : Shape → Bool
joins d = leb 2 d.ins && eqb d.outs 1

unfoldable pub gateway : ℕ → ℕ → Shape → ℕ
gateway split join d = if splits d then split or_else when (joins d) join

unfoldable pub kind_by : ℕ → ℕ → Shape → ℕ
kind_by s caught d =
    if eqb s start_event then start_drawn d
    or_else if eqb s end_event then end_drawn d
    or_else if eqb s intermediate_catch_event then intermediate caught d
    or_else if eqb s intermediate_throw_event then intermediate kinds.inter_snd d
    or_else if eqb s task then activity kinds.task d
    or_else if eqb s send_task then activity kinds.task_snd d
    or_else if eqb s receive_task then activity kinds.task_rcv d
    or_else if eqb s parallel_gateway then gateway kinds.and_split kinds.and_join d
    or_else if eqb s exclusive_gateway then gateway kinds.xor_split kinds.xor_join d
    -- "an event gateway only splits" (RULES: nodes)
    or_else gateway kinds.event_based 0 d

-- "A catch event behind an event gateway becomes its branch": the first flow into it comes from one (RULES: nodes)
unfoldable pub caught_as : Drawing → ℕ → ℕ → ℕ
caught_as w n k = if eqb (sort w (source w (first_with sequence_flow target_in k w n))) event_based_gateway then branch or_else kinds.inter_rcv

unfoldable pub kind_drawn : Drawing → ℕ → ℕ → ℕ
kind_drawn w n k = kind_by (sort w k) (caught_as w n k) (shape_of w n k)

-- THE KINDS of nodes, stored in the things
unfoldable pub kind_settled : ℕ → ℕ → Drawing → Drawing
kind_settled n k w = if is_node (sort w k) then with_source w k (kind_drawn w n k) or_else w

unfoldable pub roles : ℕ → Drawing → Drawing
roles n w = iter (kind_settled n) w n

-- A node of no kind is 21, whatever the others are: kinds may be settled up to the first one, itself with them. (RULES: nodes)
unfoldable pub is_unsettled : Drawing → ℕ → Bool
is_unsettled w k = is_node (sort w k) && eqb (kind w k) 0

unfoldable pub first_unsettled : ℕ → Drawing → ℕ
first_unsettled n w = seek (is_unsettled (roles n w)) n

unfoldable pub are_settled : ℕ → Drawing → Bool
are_settled n w = leb n (first_unsettled n w)

unfoldable pub settled_up_to : ℕ → Drawing → Drawing
settled_up_to n w = iter (kind_settled n) w (min (first_unsettled n w + 1) n)
