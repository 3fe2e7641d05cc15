-- The listing as the code goes through it: an element that cannot move is passed over before anything else is worked out. On a table that passes the
-- checks it is the listing (crate listed).
use Rattle.std.specs.Prelude.{ℕ, ◌+◌, Bool, false, not, ◌&&◌, List, [], eqb, ltb}
use Rattle.base_words.specs.Blocks.{Table, Element, Instances, Queues, Instance}
use Rattle.base_words.specs.All.{all}
use Rattle.base_words.specs.Each.{joined, those}
use Rattle.base_words.specs.Pick.{if◌then◌or_else◌}
use Rattle.base_kinds.specs.Kinds.{start_rcv}
use Rattle.base_kinds.specs.Moves.{phases}
use Rattle.base_table.specs.Table.{pool_count, element_count, element_at, kind_in, task_in, entry_count, entry_at}
use Rattle.base_state.specs.Instances.{made_count, instance_at, tokens, active_count, ready_count}
use Rattle.meaning.specs.declared.Name.{Name}
use Rattle.state_figures.specs.Figures.{is_finished}
use Rattle.step_names.specs.Names.{accepted}
use Rattle.step_list.specs.Listing.{move_at, by_phase}

-- no entry edge of an element carries a token, and its task's counts are 0
unfoldable pub is_bare : Element → Instance → ℕ → Bool
is_bare el h j = eqb (tokens h (entry_at el j)) 0

unfoldable pub idle : Element → Instance → Bool
idle el h = all (is_bare el h) (entry_count el) && eqb (active_count h (task_in el)) 0 && eqb (ready_count h (task_in el)) 0

-- element el could move in instance h, which is number i of the made ones, or the unmade one
unfoldable pub stirs : Element → Instance → ℕ → ℕ → Bool
stirs el h i made =
    if eqb (kind_in el) start_rcv then eqb i made
    or_else if ltb i made then not (idle el h)
    or_else false

-- instance i of pool p is made, and has no token and no task count left
unfoldable pub still : Instances → ℕ → ℕ → Bool
still s p i = ltb i (made_count s p) && is_finished (instance_at s p i)

-- a phase without a move is passed over, an element that does not stir, an instance that is still
unfoldable pub scan_phase : Table → Instances → Queues → ℕ → ℕ → ℕ → ℕ → List Name
scan_phase t s q p i e f = if eqb (move_at t p e f).kind 0 then [] or_else those (accepted t s q) (by_phase t q p i e f)

unfoldable pub scan_element : Table → Instances → Queues → ℕ → ℕ → ℕ → List Name
scan_element t s q p i e = if stirs (element_at t p e) (instance_at s p i) i (made_count s p) then joined (scan_phase t s q p i e) phases or_else []

unfoldable pub scan_instance : Table → Instances → Queues → ℕ → ℕ → List Name
scan_instance t s q p i = joined (scan_element t s q p i) (element_count t p)

unfoldable pub scan_made : Table → Instances → Queues → ℕ → ℕ → List Name
scan_made t s q p i = if still s p i then [] or_else scan_instance t s q p i

unfoldable pub scan_pool : Table → Instances → Queues → ℕ → List Name
scan_pool t s q p = joined (scan_made t s q p) (made_count s p + 1)

unfoldable pub scanned : Table → Instances → Queues → List Name
scanned t s q = joined (scan_pool t s q) (pool_count t)
