-- WHO IS WHO IN A DRAWING: a pool, a node of a kind, a split, a sender, a receiver. w is the things drawn, with their flows joined and their kinds; n their count. (RULES: drawn)
use Rattle.std.specs.Prelude.{ℕ, Bool, not, ◌&&◌, ◌||◌, eqb, ltb}
use Rattle.base_words.specs.Blocks.{Drawing}
use Rattle.base_words.specs.Pick.{if◌then◌or_else◌}
use Rattle.base_words.specs.Seek.{seek}
use Rattle.base_kinds.specs.Kinds as kinds
use Rattle.draw_things.specs.Things.{sort, source, kind, is_node, participant, process, branch}
use Rattle.draw_kinds.specs.Counting.{of_sort}

-- POOLS: "the participants with a processRef, in their order" (R18) or, with no participant, each process (R19) (RULES: drawn)
unfoldable pub has_participants : Drawing → ℕ → Bool
has_participants w n = ltb (seek (of_sort participant w) n) n

unfoldable pub is_pool : Bool → Drawing → ℕ → Bool
is_pool owned w k = if owned then of_sort participant w k && not (eqb (source w k) 0) or_else of_sort process w k

-- a node of a kind
unfoldable pub is_of_kind : ℕ → Drawing → ℕ → Bool
is_of_kind c w j = is_node (sort w j) && eqb (kind w j) c

-- an exclusive split
unfoldable pub is_split : Drawing → ℕ → Bool
is_split w k = is_of_kind kinds.xor_split w k

-- "a sender (sendTask, message throw or end)", "a receiver (receiveTask, message start or catch)" (R24) (RULES: flows)
unfoldable pub sends : ℕ → Bool
sends c = eqb c kinds.task_snd || (eqb c kinds.inter_snd || eqb c kinds.end_snd)

unfoldable pub receives : ℕ → Bool
receives c = eqb c kinds.task_rcv || (eqb c kinds.start_rcv || (eqb c kinds.inter_rcv || eqb c branch))

unfoldable pub is_sender : Drawing → ℕ → Bool
is_sender w j = is_node (sort w j) && sends (kind w j)

unfoldable pub is_receiver : Drawing → ℕ → Bool
is_receiver w j = is_node (sort w j) && receives (kind w j)

-- there is a pool
unfoldable pub has_pool : Bool → Drawing → ℕ → Bool
has_pool owned w n = ltb (seek (is_pool owned w) n) n
