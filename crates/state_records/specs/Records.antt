-- THE LIST OF POOL RECORDS THAT THE DESK LENDS: what a list of structs stands for, and how its first four are taken out and put back.
use Rattle.std.specs.Prelude.{ℕ, List, [], ◌∷◌, ◌++◌, map, ltb, length, get_or, set, take, drop}
use Rattle.base_words.specs.Blocks.{Block}
use Rattle.base_words.specs.Pick.{if◌then◌or_else◌}
use Rattle.base_words.specs.Words.{at}
use Rattle.state_figures.specs.Figures.{record_at}
use Rattle.state_records.specs.declared.Record.{Record}
use Rattle.state_records.specs.declared.Four.{Four}

-- the three words of a record, as `state_figures` has one, and of each in a list
abbrev pub triple_of : Record → List ℕ
triple_of r = r.made ∷ r.unfinished ∷ r.finished ∷ []

unfoldable pub triples : List Record → List (List ℕ)
triples rs = map triple_of rs

abbrev pub no_record : Record
no_record = record { made = 0; unfinished = 0; finished = 0 }

-- THE FIRST FOUR of a list, and how many it has
unfoldable pub four_of : List Record → Four
four_of rs = record { first = get_or rs 0 no_record; second = get_or rs 1 no_record; third = get_or rs 2 no_record; fourth = get_or rs 3 no_record; count = length rs }

-- a list with its first four set, as many as it has
unfoldable pub put_back : List Record → Four → List Record
put_back rs f = set (set (set (set rs 0 f.first) 1 f.second) 2 f.third) 3 f.fourth

-- THE WORDS of four records, as the calls on words take them. A fifth stands for all that are too many: no table has five pools
unfoldable pub words_of : Four → List (List ℕ)
words_of f = triple_of f.first ∷ triple_of f.second ∷ triple_of f.third ∷ triple_of f.fourth ∷ (0 ∷ 0 ∷ 0 ∷ []) ∷ []

unfoldable pub lent_count : Four → ℕ
lent_count f = if ltb f.count 5 then f.count or_else 5

abbrev pub lent_words : Four → List (List ℕ)
lent_words f = take (lent_count f) (words_of f)

-- and the records of those words, the lent ones being ws now
abbrev pub struct_of : Block → Record
struct_of w = record { made = at w 0; unfinished = at w 1; finished = at w 2 }

unfoldable pub four_from : List (List ℕ) → ℕ → Four
four_from ws n = record { first = struct_of (record_at ws 0); second = struct_of (record_at ws 1); third = struct_of (record_at ws 2); fourth = struct_of (record_at ws 3); count = n }

abbrev pub four_left : Four → List (List ℕ) → Four
four_left f ws = four_from (ws ++ drop (lent_count f) (words_of f)) f.count
