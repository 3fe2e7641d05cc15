-- A PIECE OF A LOG in a lent buffer, whole or not at all; and the line of a post.
use Rattle.std.specs.Prelude.{ℕ, ◌+◌, List, ◌++◌, ltb, length, drop}
use Rattle.base_words.specs.Blocks.{Bytes}
use Rattle.base_words.specs.Pick.{if◌then◌or_else◌}
use Rattle.base_words.specs.Text.{bytes}
use Rattle.base_words.specs.Words.{digits}
use Rattle.meaning.specs.declared.Tuple.{Tuple}
use Rattle.write_decimals.specs.Decimals.{shown}
use Rattle.write_lines.specs.Lines.{values_line, values_most}
use Rattle.log_write.specs.Xes.{closing_most}

-- "`post M:V`. V is values joined by commas, possibly none" (RULES: lawful)
unfoldable pub post_line : ℕ → Tuple → Bytes
post_line name g = bytes "post " ++ (shown name ++ (bytes ":" ++ values_line g))

-- the greatest length of it, and of its event
abbrev pub post_most : ℕ
post_most = 5 + digits + 1 + values_most

abbrev pub post_event_most : ℕ
post_event_most = 41 + post_most + closing_most

-- "5: the writer's buffer is shorter than the text", and nothing is written; else the text, its length, and the later bytes stay
pub record Pieced : Type 0 where
  pub number : ℕ
  pub length : ℕ
  pub buffer : Bytes

unfoldable pub piece_in : Bytes → Bytes → Pieced
piece_in w out =
    if ltb (length out) (length w) then record { number = 5; length = 0; buffer = out }
    or_else record { number = 0; length = length w; buffer = w ++ drop (length w) out }
