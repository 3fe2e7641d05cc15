-- WHAT A REFERENCE NAMES. "References (sourceRef, targetRef, processRef, default) name what has that id: the bytes as they stand in the tag, without the reference's part up to its last
-- colon, no entity resolved. Missing, or naming nothing of the right sort: 21" (R17): then it names thing 0. t is the text, w the things drawn, n their count. (RULES: drawn)
use Rattle.std.specs.Prelude.{ℕ, Bool, false, ◌&&◌, ◌||◌, eqb, ltb, Option, Some, None}
use Rattle.base_words.specs.Blocks.{Bytes, Drawing}
use Rattle.base_words.specs.Iter.{iter}
use Rattle.base_words.specs.Pick.{if◌then◌or_else◌}
use Rattle.base_words.specs.Seek.{seek}
use Rattle.base_words.specs.Text.{bytes}
use Rattle.base_words.specs.Words.{part}
use Rattle.base_bytes.specs.Bytes.{same_bytes}
use Rattle.xml_markup.specs.Spans.{local_of, attribute}
use Rattle.draw_things.specs.Things.{sort, place, within, source, is_node, with_source, with_target, participant, message_flow, process, sequence_flow}

unfoldable pub if_is : {A : Type 0} → Option (ℕ × ℕ) → (ℕ → ℕ → A) → A → A
if_is (Some (from, to)) f a = f from to
if_is None f a = a

-- thing j has the id v
unfoldable pub has_id : Bytes → Bytes → Drawing → ℕ → Bool
has_id t v w j = if_is (attribute t (place w j) (bytes "id")) (λ from to. same_bytes (part t from to) v) false

-- "A sequence flow joins two nodes of its own process" (R17); a message flow's ends are nodes or participants (R24); a participant's process (R18); "`default` names one of its own outgoing flows" (R22) (RULES: drawn)
unfoldable pub may_name : Drawing → ℕ → ℕ → Bool
may_name w k j =
    if eqb (sort w k) sequence_flow then is_node (sort w j) && eqb (within w j) (within w k)
    or_else if eqb (sort w k) message_flow then is_node (sort w j) || eqb (sort w j) participant
    or_else if eqb (sort w k) participant then eqb (sort w j) process
    or_else eqb (sort w j) sequence_flow && eqb (source w j) k

unfoldable pub or_none : ℕ → ℕ → ℕ
or_none n j = if ltb j n then j or_else 0

-- the thing that is meant by the bytes v in thing k
unfoldable pub meant : Bytes → Drawing → ℕ → ℕ → Bytes → ℕ
meant t w n k v = or_none n (seek (λ j. may_name w k j && has_id t v w j) n)

-- the thing that an attribute of thing k names
unfoldable pub named : Bytes → Drawing → ℕ → ℕ → Bytes → ℕ
named t w n k name = if_is (attribute t (place w k) name) (λ from to. meant t w n k (local_of (part t from to))) 0

-- THE ENDS of flows, and the processes of participants, stored in the things
unfoldable pub flow_joined : Bytes → ℕ → ℕ → Drawing → Drawing
flow_joined t n k w =
    with_target (with_source w k (named t w n k (bytes "sourceRef"))) k (named t w n k (bytes "targetRef"))

unfoldable pub owned : Bytes → ℕ → ℕ → Drawing → Drawing
owned t n k w = with_source w k (named t w n k (bytes "processRef"))

unfoldable pub linked : Bytes → ℕ → ℕ → Drawing → Drawing
linked t n k w =
    if eqb (sort w k) sequence_flow || eqb (sort w k) message_flow then flow_joined t n k w
    or_else if eqb (sort w k) participant then owned t n k w
    or_else w

unfoldable pub links : Bytes → ℕ → Drawing → Drawing
links t n w = iter (linked t n) w n
