-- The refusals of a step, in the pieces that the code looks at one after the other.
use Rattle.std.specs.Prelude.{ℕ, ◌+◌, Bool, true, not, ◌&&◌, ◌||◌, List, [], ◌∷◌, eqb, ltb, length, get_or}
use Rattle.base_words.specs.Blocks.{Table, Element, Queues, Instance}
use Rattle.base_words.specs.Pick.{if◌then◌or_else◌}
use Rattle.base_words.specs.Counts.{messages}
use Rattle.base_kinds.specs.declared.moves.Move.{Move}
use Rattle.base_kinds.specs.Moves.{on, no_move}
use Rattle.base_table.specs.Table.{pool_count, element_count}
use Rattle.meaning.specs.declared.Tuple.{Tuple}
use Rattle.meaning.specs.Tuples.{empty}
use Rattle.meaning.specs.Messages.{has}
use Rattle.meaning.specs.Queues.{messages_of}
use Rattle.meaning.specs.Refusals.{Refusal, ◌unless◌}
use Rattle.meaning.specs.Requirements.{branch_count, instance_named, counts_permit, granted, roomy}
use Rattle.meaning.specs.Step.{Site, refusals_at}

-- 11, of the table and of the move
unfoldable pub is_in_table : Table → ℕ → ℕ → Bool
is_in_table t p e = ltb p (pool_count t) && ltb e (element_count t p)

unfoldable pub offered : Element → Move → ℕ → ℕ → ℕ → Bool
offered el m b i made = not (eqb m.kind 0) && ltb b (branch_count el m) && instance_named m i made

-- The numbers stand in `meaning` alone: conditions in a row have those of its list of refusals, from place k on.
abbrev nowhere : Site
nowhere = record { element = []; move = no_move; branch = 0; given = empty; made = 0; limit = 0; instance = [] }

unfoldable pub number_at : ℕ → ℕ
number_at k = (get_or (refusals_at nowhere []) k (0 unless true)).number

unfoldable pub listed : ℕ → List Bool → List Refusal
listed k [] = []
listed k (b ∷ bs) = number_at k unless b ∷ listed (k + 1) bs

-- 12 and the first 13; the other 13 and 14, the template being defined; 15 to 18, h being the instance after the taking
unfoldable pub before_fields : Element → Instance → Move → ℕ → List Refusal
before_fields el h m b = listed 0 (counts_permit el h m b ∷ granted el h m b ∷ [])

unfoldable pub of_fields : Move → Bool → Bool → List Refusal
of_fields m defined matches = listed 3 ((eqb m.receives on || defined) ∷ matches ∷ defined ∷ [])

unfoldable pub queued_for : Move → Queues → ℕ → Tuple → Bool
queued_for m q name g = if eqb m.receives on then has g (messages_of q name) or_else true

unfoldable pub space_for : Move → Queues → ℕ → Bool
space_for m q name = if eqb m.sends on then ltb (length (messages_of q name)) messages or_else true

unfoldable pub of_queues : Element → Instance → Move → ℕ → Bool → Bool → Bool → List Refusal
of_queues el h m b queued below space = listed 6 (queued ∷ below ∷ space ∷ roomy el h m b ∷ [])
