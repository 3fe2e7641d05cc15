-- The line of a step: "prints pool, instance, element, phase, branch, then `!` sent or `?` consumed with name, colon, values joined by commas, or `-`". No newline is in it. (RULES: lines)
use Rattle.std.specs.Prelude.{ℕ, ◌+◌, ◌*◌, ◌-◌, List, [], ◌∷◌, ◌++◌, eqb}
use Rattle.base_words.specs.Blocks.{Bytes}
use Rattle.base_words.specs.Counts.{values}
use Rattle.base_words.specs.Pick.{if◌then◌or_else◌}
use Rattle.base_words.specs.Text.{bytes}
use Rattle.base_words.specs.Words.{at, digits}
use Rattle.base_words.specs.Each.{joined}
use Rattle.write_buffer.specs.Buffers.{lesser}
use Rattle.write_decimals.specs.Decimals.{shown}
use Rattle.meaning.specs.declared.Name.{Name}
use Rattle.meaning.specs.declared.Answer.{Answer}
use Rattle.meaning.specs.declared.Tuple.{Tuple}
use Rattle.meaning.specs.declared.Traffic.{Traffic}
use Rattle.meaning.specs.declared.Traffic.TheVariants.{Nothing, Consumed, Sent}

-- number x, the j-th of a row: a mark stands before each but the first
unfoldable pub marked_off : Bytes → ℕ → ℕ → Bytes
marked_off mark j x = if eqb j 0 then shown x or_else mark ++ shown x

-- the first n numbers of s, joined by a mark
unfoldable pub row : Bytes → List ℕ → ℕ → Bytes
row mark s n = joined (λ j. marked_off mark j (at s j)) n

-- "values joined by commas": what a tuple has behind its values is not written (RULES: lines)
unfoldable pub values_line : Tuple → Bytes
values_line g = row (bytes ",") g.values (lesser g.length values)

-- a tuple by itself
unfoldable pub tuple_line : Tuple → Bytes
tuple_line g = if eqb g.length 0 then bytes "-" or_else values_line g

-- "name, colon, values" (RULES: lines)
unfoldable pub message_line : Answer → Bytes
message_line a = shown a.name ++ bytes ":" ++ values_line a.tuple

-- "`!` sent or `?` consumed .., or `-`" (RULES: lines)
unfoldable pub signed : Traffic → Bytes → Bytes
signed Nothing m = bytes "-"
signed Consumed m = bytes "?" ++ m
signed Sent m = bytes "!" ++ m

unfoldable pub traffic_line : Answer → Bytes
traffic_line a = signed a.traffic (message_line a)

-- how many numbers stand before a step's traffic
abbrev pub place_numbers : ℕ
place_numbers = 5

-- "pool, instance, element, phase, branch" (RULES: lines)
unfoldable pub place_line : Name → Bytes
place_line n = row (bytes " ") (n.pool ∷ n.instance ∷ n.element ∷ n.phase ∷ n.branch ∷ []) place_numbers

-- a step as it was taken
unfoldable pub step_line : Name → Answer → Bytes
step_line n a = place_line n ++ bytes " " ++ traffic_line a

-- a step as it is named
unfoldable pub name_line : Name → Bytes
name_line n = place_line n ++ bytes " " ++ tuple_line n.given

-- the greatest length of each
abbrev pub row_most : ℕ → ℕ
row_most n = n * (digits + 1) - 1

abbrev pub values_most : ℕ
values_most = row_most values

abbrev pub traffic_most : ℕ
traffic_most = 1 + digits + 1 + values_most

abbrev pub place_most : ℕ
place_most = row_most place_numbers

abbrev pub step_most : ℕ
step_most = place_most + 1 + traffic_most

abbrev pub name_most : ℕ
name_most = place_most + 1 + values_most

-- "A refused text prints `refused`, the number and what stands beside it, on one line", its newline with it (RULES: lines)
unfoldable pub unread_line : ℕ → ℕ → Bytes
unread_line number beside = bytes "refused " ++ shown number ++ bytes " " ++ shown beside ++ bytes "\n"

abbrev pub unread_most : ℕ
unread_most = 8 + digits + 1 + digits + 1
