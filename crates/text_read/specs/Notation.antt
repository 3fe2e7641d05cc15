-- THE NOTATION: a text read into a lent table.
use Rattle.std.specs.Prelude.{ℕ, Bool, List, map, eqb, ltb, length}
use Rattle.base_words.specs.Blocks.{Bytes, Table}
use Rattle.base_words.specs.Each.{each}
use Rattle.base_words.specs.Pick.{if◌then◌or_else◌}
use Rattle.base_words.specs.Counts.{text_most}
use Rattle.text_read.specs.declared.Reading.{Reading}
use Rattle.std.specs.declared.result.Result.TheVariants.{Ok, Err}
use Rattle.check_model.specs.Checks.{Pool, lowest}
use Rattle.text_readers.specs.Reading.{Read}
unfoldable pub use Rattle.text_ends.specs.Rewriting.{rewritten, has_room}
unfoldable pub use Rattle.text_bounds.specs.Bounds.{one_too_many}
pub use Rattle.text_passes.specs.Model.{Got, plain, multiple, no_pool, unread}
unfoldable pub use Rattle.text_passes.specs.Model.{put_before, barred, element_alone, elements_at, pool_word, opening, closing, closed, inside_pool, pool_of_word, pool, starts_pool, pools_at, model, flat, filled, pool_table, table_of}

-- READING a text into a lent table t: "1: text above 65,536 bytes"; 2 and 3 with their place; "4 with the lowest check broken"; "28 no edge or element number free, after 4"; else 0, and every word is the model's, with
-- each pool rewritten: the text is read, counted and checked as it stands, endSnds and all (RULES: reading)
pub record ReadInto : Type 0 where
  pub number : ℕ
  pub beside : ℕ
  pub table : Table

unfoldable pub checked : ℕ → List Pool → Table → ReadInto
checked k ps t =
    if eqb k 0 then
    (if each has_room ps then record { number = 0; beside = 0; table = table_of (map rewritten ps) } or_else record { number = 28; beside = 0; table = t })
    or_else record { number = 4; beside = k; table = t }

-- number and what stands beside it, where k is the lowest check broken and `room` says whether every pool has room
unfoldable pub answer_for : ℕ → Bool → Reading
answer_for k room = record { number = if eqb k 0 then (if room then 0 or_else 28) or_else 4; beside = k }

unfoldable pub judged : Read → List Pool → Table → ReadInto
judged (Ok q) ps t = checked (lowest ps) ps t
judged (Err e) ps t = record { number = e.number; beside = e.place; table = t }

unfoldable pub read_into : Bytes → Table → ReadInto
read_into text t =
    if ltb text_most (length text) then record { number = 1; beside = 0; table = t }
    or_else judged (model text).end (model text).value t
