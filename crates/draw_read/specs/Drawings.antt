-- A DRAWING READ into a lent table t. "Refusals: 1 above 65,536 bytes; 20 not the XML named here or nested deeper, with its place; 21 ..; then 3 and 4 as they are", and 28 after 4: a message end event is an endSnd of the same content (wish 11). "By class, not by position: a 20 at the
-- end of the text goes before a 21 at its start; 21 before 3; 3 before 4" (R1). (RULES: drawings)
use Rattle.xml_skip.specs.Skipping.{Reached}
use Rattle.std.specs.Prelude.{ℕ, not, List, map, eqb, ltb, length, replicate, Ok, Err}
use Rattle.base_words.specs.Blocks.{Bytes, Table, Drawing}
use Rattle.base_words.specs.Each.{each}
use Rattle.base_words.specs.Pick.{if◌then◌or_else◌}
use Rattle.check_model.specs.Checks.{Pool, lowest}
use Rattle.text_readers.specs.Reading.{excessive}
use Rattle.text_read.specs.declared.Reading.{Reading}
use Rattle.text_read.specs.Notation.{ReadInto, table_of, rewritten, has_room, answer_for}
use Rattle.draw_things.specs.Things.{block_words}
use Rattle.draw_walk.specs.Walk.{Walk, walk}
use Rattle.draw_links.specs.Links.{links}
use Rattle.draw_kinds.specs.Roles.{roles}
use Rattle.draw_faults.specs.Amiss.{is_drawing}
use Rattle.draw_limits.specs.Excess.{first_beyond, beyond_at}
use Rattle.draw_model.specs.Content.{content}

-- bytes of a drawing
abbrev pub drawing_most : ℕ
drawing_most = 65536

abbrev pub too_long : ℕ
too_long = 1

-- "not the XML named here or nested deeper" (RULES: drawings)
abbrev pub not_xml : ℕ
not_xml = 20

-- "an element we don't run", or another fault of what is drawn (RULES: drawings)
abbrev pub not_run : ℕ
not_run = 21

abbrev pub answer : ℕ → ℕ → Reading
answer number beside = record { number = number; beside = beside }

-- w is the things of the drawing, n their count: "no 3": 4 with the lowest check broken, then 28, else 0, as of a text
unfoldable pub checked_as : List Pool → Reading
checked_as ps = answer_for (lowest ps) (each has_room ps)

-- 21 beside 0; "no 21": 3 at the first thing that is beyond the limits
unfoldable pub meant_by : Bytes → Drawing → ℕ → Reading
meant_by text w n =
    if not (is_drawing text w n) then answer not_run 0
    or_else if ltb (first_beyond text w n) n then answer excessive (beyond_at text w (first_beyond text w n))
    or_else checked_as (content text w n)

-- what the walk meets, then with the ends of flows and the kinds of nodes
unfoldable pub walked_text : Bytes → Walk
walked_text text = walk text (replicate block_words 0)

unfoldable pub settled_by : Bytes → ℕ → Drawing → Drawing
settled_by text n w = roles n (links text n w)

unfoldable pub things_of : Bytes → Drawing
things_of text = settled_by text (walked_text text).count (walked_text text).words

-- 20 where the walk stops
unfoldable pub unless_fault : Reached → Reading → Reading
unless_fault (Ok q) a = a
unless_fault (Err q) a = answer not_xml q.place

unfoldable pub answered : Bytes → Reading
answered text =
    if ltb drawing_most (length text) then answer too_long 0
    or_else unless_fault (walked_text text).end (meant_by text (things_of text) (walked_text text).count)

-- a refusal leaves the table; else every word of it is the model's
unfoldable pub filled_by : Reading → List Pool → Table → ReadInto
filled_by a ps t = record { number = a.number; beside = a.beside; table = if eqb a.number 0 then table_of (map rewritten ps) or_else t }

unfoldable pub draw_into : Bytes → Table → ReadInto
draw_into text t = filled_by (answered text) (content text (things_of text) (walked_text text).count) t
