-- What a move m (a row of the table of moves) asks for at an element el, in an instance h, for a branch b.
use Rattle.std.specs.Prelude.{ℕ, ◌+◌, Bool, true, ◌&&◌, ◌||◌, List, eqb, ltb}
use Rattle.base_words.specs.Blocks.{Element, Instance}
use Rattle.base_words.specs.All.{all}
use Rattle.base_words.specs.Pick.{if◌then◌or_else◌}
use Rattle.base_words.specs.Counts.{count_most}
use Rattle.base_kinds.specs.declared.moves.Move.{Move}
use Rattle.base_kinds.specs.Moves.{every, branch, on, up, down, na_nc, making}
use Rattle.base_table.specs.Table.{task_in, mode_in, entry_count, exit_count, entry_at, exit_at}
use Rattle.base_state.specs.Instances.{tokens, active_count, ready_count, version_seen}
use Rattle.base_state.specs.Versions.{former}
use Rattle.meaning.specs.Conditions.{holds}

-- Which edges of a list a cell of the table of moves means: as many as there are, the branch's alone, or none; from which one on.
unfoldable pub touched : ℕ → ℕ → ℕ
touched cell count = if eqb cell every then count or_else if eqb cell branch then 1 or_else 0

unfoldable pub first_touched : ℕ → ℕ → ℕ
first_touched cell b = if eqb cell branch then b or_else 0

-- "Branch is 0 but for xorSplit, xorJoin and eventBased": those whose moves touch the branch's edge alone have as many branches as edges. (RULES: names)
unfoldable pub branch_count : Element → Move → ℕ
branch_count el m = if eqb m.takes branch then entry_count el or_else if eqb m.puts branch then exit_count el or_else 1

-- "startRcv: the instance named is the next unmade one, any other gives 11." The others name one that is made. (RULES: names)
unfoldable pub instance_named : Move → ℕ → ℕ → Bool
instance_named m i made = if eqb m.also making then eqb i made or_else ltb i made

-- 12. Each edge to be taken has a token;
unfoldable pub has_token : Element → Instance → ℕ → ℕ → Bool
has_token el h from j = ltb 0 (tokens h (entry_at el (from + j)))

unfoldable pub has_tokens : Element → Instance → Move → ℕ → Bool
has_tokens el h m b = all (has_token el h (first_touched m.takes b)) (touched m.takes (entry_count el))

-- a count to be lowered is not 0;
unfoldable pub can_lower : ℕ → ℕ → Bool
can_lower cell count = if eqb cell down then ltb 0 count or_else true

-- "na_nc needs both counts 0"; "under 10 an `na_c` task waits for both counts to be 0, as `na_nc` does". (RULES: versions)
unfoldable pub waits : Element → Instance → Bool
waits el h = eqb (mode_in el) na_nc || eqb (version_seen h) former

unfoldable pub is_alone : Element → Instance → Move → Bool
is_alone el h m =
    if eqb m.alone on then
    if waits el h then eqb (active_count h (task_in el)) 0 && eqb (ready_count h (task_in el)) 0 or_else true
    or_else true

unfoldable pub counts_permit : Element → Instance → Move → ℕ → Bool
counts_permit el h m b =
    has_tokens el h m b
    && can_lower m.active (active_count h (task_in el))
    && can_lower m.ready (ready_count h (task_in el))
    && is_alone el h m

-- 13. The guard, or the branch's condition, is true.
unfoldable pub granted : Element → Instance → Move → ℕ → Bool
granted el h m b = if eqb m.asks on then holds el h b or_else true

-- 16. "A `pool` makes at most 1 instance, a `miPool` at most n." (RULES: model)
unfoldable pub below_limit : Move → ℕ → ℕ → Bool
below_limit m made limit = if eqb m.also making then ltb made limit or_else true

-- 18. h is the instance after the taking: no edge to be put and no count to be raised would pass 255.
unfoldable pub edge_has_room : Element → Instance → ℕ → ℕ → Bool
edge_has_room el h from j = ltb (tokens h (exit_at el (from + j))) count_most

unfoldable pub has_rooms : Element → Instance → Move → ℕ → Bool
has_rooms el h m b = all (edge_has_room el h (first_touched m.puts b)) (touched m.puts (exit_count el))

unfoldable pub can_raise : ℕ → ℕ → Bool
can_raise cell count = if eqb cell up then ltb count count_most or_else true

unfoldable pub roomy : Element → Instance → Move → ℕ → Bool
roomy el h m b =
    has_rooms el h m b
    && can_raise m.active (active_count h (task_in el))
    && can_raise m.ready (ready_count h (task_in el))
