-- HOW MANY ITEMS A LIST HAS: what can start an item, one item too many, too few of them.
use Prim.Native.Char.{code}
use Rattle.std.specs.Prelude.{ℕ, Bool, ◌||◌, eqb, ltb, set}
use Rattle.base_words.specs.Blocks.{Block, Bytes}
use Rattle.base_words.specs.Pick.{if◌then◌or_else◌}
use Rattle.text_readers.specs.Reading.{Read, Refused, Parsed, Reader, misplaced, excessive, passed_to, refused_at, place_of, starts_number, starts_field, starts_sign}

-- What the items are: edges, items of a template, of a message, assignments, guarded branches, branches that receive.
abbrev pub an_edge : ℕ
an_edge = code "E"

abbrev pub a_template_item : ℕ
a_template_item = code "T"

abbrev pub a_message_item : ℕ
a_message_item = code "S"

abbrev pub an_assignment : ℕ
an_assignment = code "A"

abbrev pub a_guarded_branch : ℕ
a_guarded_branch = code "G"

-- what an expression starts with
abbrev pub starts_operand : Bytes → ℕ → Bool
starts_operand text at = starts_field text at || starts_number text at

-- what an item starts with
unfoldable pub starts : ℕ → Bytes → ℕ → Bool
starts item text at =
    if eqb item an_edge then starts_number text at
    or_else if eqb item a_template_item then starts_sign (code "?") text at || starts_operand text at
    or_else if eqb item a_message_item then starts_operand text at
    or_else if eqb item an_assignment then starts_field text at
    or_else starts_sign (code "(") text at

-- "3: the place of the first item too many", where the token there can start such an item; else it is 2
unfoldable pub one_too_many : Bool → ℕ → Read
one_too_many item p = Refused (if item then excessive or_else misplaced) p

unfoldable pub too_many : Bool → ℕ → Block → Parsed
too_many item p x = refused_at (if item then excessive or_else misplaced) p x

-- the count stored behind k items; "a list that closes too early is 2 at the closing sign" (RULES: places)
unfoldable pub counted : ℕ → ℕ → ℕ → Reader
counted least count k text at x = if ltb k least then refused_at misplaced (place_of text at) x or_else passed_to at (set x count k)
