-- What a move m does at an element el to an instance h, for a branch b and given values g; what it expects and sends.
use Rattle.std.specs.Prelude.{ℕ, ◌+◌, ◌-◌, Bool, true, List, eqb, ltb, replicate}
use Rattle.base_words.specs.Blocks.{Element, Instance}
use Rattle.base_words.specs.Iter.{iter}
use Rattle.base_words.specs.Pick.{if◌then◌or_else◌}
use Rattle.base_words.specs.Writes.{writes}
use Rattle.base_words.specs.Counts.{count_most}
use Rattle.meaning.specs.declared.Tuple.{Tuple}
use Rattle.meaning.specs.Tuples.{empty}
use Rattle.base_kinds.specs.declared.moves.Move.{Move}
use Rattle.base_kinds.specs.Moves.{on, up, down, making, clearing}
use Rattle.base_table.specs.Table.{task_in, entry_count, exit_count, entry_at, exit_at}
use Rattle.base_state.specs.Places.{defined_place}
use Rattle.base_state.specs.Instances.{tokens, active_count, ready_count, with_tokens, with_active, with_ready}
use Rattle.meaning.specs.declared.Evaluated.{Evaluated}
use Rattle.meaning.specs.Templates.{evaluated, bound}
use Rattle.meaning.specs.Assignments.{Assigned, assigned}
use Rattle.meaning.specs.Requirements.{touched, first_touched}

-- FIELDS. What is expected of the given values: the template worked out, or no values at all.
unfoldable pub expected : Element → Instance → Move → ℕ → Tuple → Evaluated
expected el h m b g = if eqb m.receives on then evaluated el b h g or_else record { defined = true; tuple = empty }

-- "taskRcv binds, then assigns; taskSnd assigns, then works out its message." (RULES: steps)
unfoldable pub received : Element → Instance → Move → ℕ → Tuple → Instance
received el h m b g = if eqb m.receives on then bound el b g h or_else h

unfoldable pub worked : Element → Instance → Move → Assigned
worked el h m = if eqb m.assigns on then assigned el h or_else record { defined = true; instance = h }

unfoldable pub message_sent : Element → Instance → Move → ℕ → Evaluated
message_sent el h m b = if eqb m.sends on then evaluated el b h empty or_else record { defined = true; tuple = empty }

-- TOKENS AND COUNTS. "Entry tokens are taken and exit tokens put, one each." (RULES: steps)
unfoldable pub take_one : Element → ℕ → ℕ → Instance → Instance
take_one el from j h = with_tokens h (entry_at el (from + j)) (tokens h (entry_at el (from + j)) - 1)

unfoldable pub taken : Element → Move → ℕ → Instance → Instance
taken el m b h = iter (take_one el (first_touched m.takes b)) h (touched m.takes (entry_count el))

-- one more; that an accepted step never meets the end, 255, is what refusal 18 is for
unfoldable pub more : ℕ → ℕ
more count = if ltb count count_most then count + 1 or_else count

unfoldable pub count_changed : ℕ → ℕ → ℕ
count_changed cell count = if eqb cell up then more count or_else if eqb cell down then count - 1 or_else count

unfoldable pub active_changed : Element → Move → Instance → Instance
active_changed el m h = with_active h (task_in el) (count_changed m.active (active_count h (task_in el)))

unfoldable pub ready_changed : Element → Move → Instance → Instance
ready_changed el m h = with_ready h (task_in el) (count_changed m.ready (ready_count h (task_in el)))

unfoldable pub put_one : Element → ℕ → ℕ → Instance → Instance
put_one el from j h = with_tokens h (exit_at el (from + j)) (more (tokens h (exit_at el (from + j))))

unfoldable pub puts : Element → Move → ℕ → Instance → Instance
puts el m b h = iter (put_one el (first_touched m.puts b)) h (touched m.puts (exit_count el))

-- "terminate clears all tokens and task counts of its instance." (RULES: steps)
unfoldable pub cleared : Instance → Instance
cleared h = writes (λ k. 0) h 0 (defined_place 0)

-- the instance after the taking, and whatever else is done to it, in this order
unfoldable pub moved : Element → Move → ℕ → Instance → Instance
moved el m b h = if eqb m.also clearing then cleared h or_else puts el m b (ready_changed el m (active_changed el m h))
