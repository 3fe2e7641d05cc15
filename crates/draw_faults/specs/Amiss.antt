-- 21: WHAT IS AMISS IN A DRAWING, one list of named conditions. "21 is yes or no: any fault of the drawing, no place, so nothing has to be ordered", and "all of this is asked of every process, within
-- the limits or not" (R25). t is the text, w the things drawn, with their flows joined and their kinds; n their count; k a thing. (RULES: drawings)
use Rattle.std.specs.Prelude.{ℕ, Bool, true, false, not, ◌&&◌, ◌||◌, eqb, leb, ltb}
use Rattle.base_words.specs.Blocks.{Bytes, Drawing}
use Rattle.base_words.specs.All.{all}
use Rattle.base_words.specs.Seek.{seek}
use Rattle.base_words.specs.Text.{bytes}
use Rattle.base_words.specs.Words.{part}
use Rattle.base_kinds.specs.Kinds as kinds
use Rattle.xml_markup.specs.Spans.{attribute}
use Rattle.draw_things.specs.Things.{room, sort, place, within, source, target, is_node, collaboration, participant, participant_multiplicity, message_flow, process, sequence_flow, condition_expression, stranger, branch}
use Rattle.draw_links.specs.Links.{if_is, has_id, named}
use Rattle.draw_kinds.specs.Counting.{source_in, target_in, within_in, of_sort, count_with, count_sort}
use Rattle.draw_numbers.specs.Who.{has_participants, is_of_kind, is_split, is_sender, is_receiver, has_pool}
use Rattle.draw_conditions.specs.Conditions.{condition_at, absent, foreign}

-- an attribute of thing k is there
unfoldable pub has : Bytes → Bytes → Drawing → ℕ → Bool
has t name w k = if_is (attribute t (place w k) name) (λ from to. true) false

-- thing k is not the first of its sort in the thing that it stands in
unfoldable pub is_second : ℕ → Drawing → ℕ → Bool
is_second s w k = of_sort s w k && ltb 0 (count_with s within_in (within w k) w k)

-- ANYWHERE: "a child that is none of these here is 'an element we don't run'" (R12, R14) (RULES: drawn)
unfoldable pub is_strange : Drawing → ℕ → Bool
is_strange w k = of_sort stranger w k

-- "Two of the elements read (participants, message flows, processes, nodes, sequence flows) with the same id: 21" (R17): one before thing k has its id (RULES: drawn)
unfoldable pub is_read_sort : ℕ → Bool
is_read_sort s = is_node s || (eqb s participant || (eqb s message_flow || (eqb s process || eqb s sequence_flow)))

unfoldable pub is_read : Drawing → ℕ → Bool
is_read w j = is_read_sort (sort w j)

unfoldable pub is_taken : Bytes → Bytes → Drawing → ℕ → Bool
is_taken t v w k = ltb (seek (λ j. is_read w j && has_id t v w j) k) k

unfoldable pub is_repeated : Bytes → Drawing → ℕ → Bool
is_repeated t w k = is_read w k && if_is (attribute t (place w k) (bytes "id")) (λ from to. is_taken t (part t from to) w k) false

-- POOLS
-- "At most one collaboration" (R18) (RULES: drawn)
unfoldable pub is_second_collaboration : Drawing → ℕ → Bool
is_second_collaboration w k = of_sort collaboration w k && ltb 0 (count_sort collaboration w k)

-- a processRef that names no process (R17) (RULES: drawn)
unfoldable pub is_lost : Bytes → Drawing → ℕ → Bool
is_lost t w k = of_sort participant w k && (has t (bytes "processRef") w k && eqb (source w k) 0)

-- "Each process belongs to exactly one of them, else 21 (an unused process too)" (R18) (RULES: drawn)
unfoldable pub is_unowned : Drawing → ℕ → ℕ → Bool
is_unowned w n k = of_sort process w k && (has_participants w n && not (eqb (count_with participant source_in k w n) 1))

-- "participantMultiplicity makes a miPool .. two of them: 21" (R20) (RULES: drawn)
unfoldable pub is_second_multiplicity : Drawing → ℕ → Bool
is_second_multiplicity w k = is_second participant_multiplicity w k

-- NODES: one that is of no kind, by its definitions, its entries and exits (R15, R16) (RULES: nodes)
unfoldable pub is_of_no_kind : Drawing → ℕ → Bool
is_of_no_kind w k = is_of_kind 0 w k

-- "`default` of an exclusive split names one of its own outgoing flows, else 21; on any other element it is ignored" (R22) (RULES: flows)
unfoldable pub has_wrong_default : Bytes → Drawing → ℕ → ℕ → Bool
has_wrong_default t w n k = is_split w k && (has t (bytes "default") w k && eqb (named t w n k (bytes "default")) 0)

-- "Each sender is the source and each receiver the target of exactly one" message flow (R24) (RULES: flows)
unfoldable pub is_unheard : Drawing → ℕ → ℕ → Bool
is_unheard w n k = is_sender w k && not (eqb (count_with message_flow source_in k w n) 1)

unfoldable pub is_untold : Drawing → ℕ → ℕ → Bool
is_untold w n k = is_receiver w k && not (eqb (count_with message_flow target_in k w n) 1)

-- FLOWS: "A sequence flow joins two nodes of its own process" (R17) (RULES: drawn)
unfoldable pub is_loose : Drawing → ℕ → Bool
is_loose w k = of_sort sequence_flow w k && (eqb (source w k) 0 || eqb (target w k) 0)

-- "Behind an event gateway only a message intermediateCatchEvent, with its one entry from the gateway and one exit" (R23) (RULES: flows)
unfoldable pub is_wrong_branch : Drawing → ℕ → Bool
is_wrong_branch w k = of_sort sequence_flow w k && (is_of_kind kinds.event_based w (source w k) && not (is_of_kind branch w (target w k)))

-- "A condition is the text of the conditionExpression" (R21): a flow has one (RULES: flows)
unfoldable pub is_second_condition : Drawing → ℕ → Bool
is_second_condition w k = is_second condition_expression w k

-- "Blank text is no condition"; "'in our notation': 01's C of an xorSplit"; "a condition on a flow that doesn't leave an exclusive split: 21, also `true`" (R21) (RULES: flows)
unfoldable pub is_wrong_form : ℕ → Drawing → ℕ → Bool
is_wrong_form form w k = not (eqb form absent) && (eqb form foreign || not (is_split w (source w (within w k))))

unfoldable pub is_wrong_condition : Bytes → Drawing → ℕ → Bool
is_wrong_condition t w k = of_sort condition_expression w k && is_wrong_form (condition_at t (place w k)).form w k

-- "Message flow: source a sender or an outside participant, target a receiver or an outside participant; else 21" (R24); "a participant without processRef is outside" (R18) (RULES: flows)
unfoldable pub is_outside : Bytes → Drawing → ℕ → Bool
is_outside t w j = of_sort participant w j && not (has t (bytes "processRef") w j)

unfoldable pub may_send : Bytes → Drawing → ℕ → Bool
may_send t w j = is_sender w j || is_outside t w j

unfoldable pub may_receive : Bytes → Drawing → ℕ → Bool
may_receive t w j = is_receiver w j || is_outside t w j

unfoldable pub is_wrong_message : Bytes → Drawing → ℕ → Bool
is_wrong_message t w k = of_sort message_flow w k && not (may_send t w (source w k) && may_receive t w (target w k))

-- THE LIST
unfoldable pub amiss_as_flow : Bytes → Drawing → ℕ → Bool
amiss_as_flow t w k = is_loose w k || (is_wrong_branch w k || (is_second_condition w k || (is_wrong_condition t w k || is_wrong_message t w k)))

unfoldable pub amiss_as_node : Bytes → Drawing → ℕ → ℕ → Bool
amiss_as_node t w n k = is_of_no_kind w k || (has_wrong_default t w n k || (is_unheard w n k || is_untold w n k))

unfoldable pub amiss_as_pool : Bytes → Drawing → ℕ → ℕ → Bool
amiss_as_pool t w n k = is_second_collaboration w k || (is_lost t w k || (is_unowned w n k || is_second_multiplicity w k))

unfoldable pub is_amiss : Bytes → Drawing → ℕ → ℕ → Bool
is_amiss t w n k = is_strange w k || (amiss_as_flow t w k || (amiss_as_node t w n k || (amiss_as_pool t w n k || is_repeated t w k)))

unfoldable pub is_right : Bytes → Drawing → ℕ → ℕ → Bool
is_right t w n k = not (is_amiss t w n k)

-- "Neither: 21" (R19): no pool at all. More things than there is room for are always amiss: the shortest that is right is `<process/>`. (RULES: drawn)
unfoldable pub is_drawing : Bytes → Drawing → ℕ → Bool
is_drawing t w n = leb n room && (has_pool (has_participants w n) w n && all (is_right t w n) n)
