-- What opens a block: only from there are branches walked.
use Rattle.std.specs.Prelude.{Bool, ◌||◌, eqb}
use Rattle.base_kinds.specs.Kinds.{event_based, and_split, xor_split}
use Rattle.base_table.specs.Table.{kind_in}
use Rattle.base_words.specs.Blocks.{Element}

unfoldable pub splits : Element → Bool
splits el = eqb (kind_in el) and_split || (eqb (kind_in el) xor_split || eqb (kind_in el) event_based)
