-- What a move writes into the instances and into the queues, and its answer.
use Rattle.std.specs.Prelude.{ℕ, ◌+◌, List, eqb, set}
use Rattle.base_words.specs.Blocks.{Instances, Queues, Instance}
use Rattle.base_words.specs.Pick.{if◌then◌or_else◌}
use Rattle.base_words.specs.Words.{at}
use Rattle.base_words.specs.Writes.{writes}
use Rattle.base_kinds.specs.declared.moves.Move.{Move}
use Rattle.base_kinds.specs.Moves.{on, making}
use Rattle.base_state.specs.Places.{instance_words, made_place, instance_place, store_words, shared_place}
use Rattle.meaning.specs.declared.Tuple.{Tuple}
use Rattle.meaning.specs.declared.Answer.{Answer}
use Rattle.meaning.specs.declared.Traffic.TheVariants.{Nothing, Consumed, Sent}
use Rattle.meaning.specs.Tuples.{empty}
use Rattle.meaning.specs.Changes.{more}
use Rattle.step_queues.specs.Changes.{oldest, extended, removed}

-- the instances with the words h that a step leaves, of an instance and of the stores, and another count of made ones
abbrev pub stored_in : Instances → ℕ → ℕ → Instance → ℕ → Instances
stored_in s p i h made =
    set (writes (λ k. at h (instance_words + k)) (writes (at h) s (instance_place p i) instance_words) shared_place store_words) (made_place p) made

unfoldable pub made_by : Move → ℕ → ℕ
made_by m made = if eqb m.also making then more made or_else made

-- the queues after a move, and its answer
unfoldable pub delivered_by : Move → ℕ → Tuple → Tuple → Queues → Queues
delivered_by m name g sent q =
    if eqb m.receives on then removed q name (oldest q name g)
    or_else if eqb m.sends on then extended q name sent
    or_else q

unfoldable pub answer_by : Move → ℕ → Tuple → Tuple → Answer
answer_by m name expected sent =
    if eqb m.receives on then record { number = 0; traffic = Consumed; name = name; tuple = expected }
    or_else if eqb m.sends on then record { number = 0; traffic = Sent; name = name; tuple = sent }
    or_else record { number = 0; traffic = Nothing; name = 0; tuple = empty }
