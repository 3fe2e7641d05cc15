-- "A template matches a tuple of equal length whose values equal its expressions, worked out before any binding; the rest is bound." So the template
-- of branch b is worked out with the given values g where it binds, and matches when that is g. A message is the same without binds. (RULES: templates)
use Rattle.std.specs.Prelude.{ℕ, ◌+◌, Bool, ◌&&◌, List, [], ◌∷◌, eqb, ltb, leb, Some}
use Rattle.base_words.specs.Blocks.{Element, Instance}
use Rattle.base_words.specs.Iter.{iter}
use Rattle.base_words.specs.Pick.{if◌then◌or_else◌}
use Rattle.base_words.specs.Words.{at}
use Rattle.base_words.specs.Counts.{values}
use Rattle.meaning.specs.declared.Tuple.{Tuple}
use Rattle.meaning.specs.Values.{Value, is_defined, number_in}
use Rattle.meaning.specs.Tuples.{value_of}
use Rattle.base_table.specs.Places.{operand_number, form_place, left_place, binding}
use Rattle.base_table.specs.Table.{item_at, message_length}
use Rattle.base_state.specs.Instances.{with_field}
use Rattle.meaning.specs.declared.Evaluated.{Evaluated}
use Rattle.meaning.specs.Expressions.{expression_of}

-- item j binds a field
unfoldable pub binds : Element → ℕ → ℕ → Bool
binds el b j = ltb j (message_length el b) && eqb (at (item_at el b j) form_place) binding

unfoldable pub item_value : Element → ℕ → Instance → Tuple → ℕ → Value
item_value el b h g j =
    if leb (message_length el b) j then Some 0
    or_else if binds el b j then Some (value_of g j)
    or_else expression_of (item_at el b j) h

-- the message or template worked out: whether all of it is defined, and the tuple
unfoldable pub gathered : ℕ → Value → Value → Value → Value → Evaluated
gathered length u v w x =
    record {
      defined = is_defined u && is_defined v && is_defined w && is_defined x;
      tuple = record { length = length; values = number_in u ∷ number_in v ∷ number_in w ∷ number_in x ∷ [] };
    }

unfoldable pub evaluated : Element → ℕ → Instance → Tuple → Evaluated
evaluated el b h g = gathered (message_length el b) (item_value el b h g 0) (item_value el b h g 1) (item_value el b h g 2) (item_value el b h g 3)

-- the instance after the binds of branch b's template
unfoldable pub bind_one : Element → ℕ → Tuple → ℕ → Instance → Instance
bind_one el b g j h = if binds el b j then with_field h (at (item_at el b j) (left_place + operand_number)) (value_of g j) or_else h

unfoldable pub bound : Element → ℕ → Tuple → Instance → Instance
bound el b g h = iter (bind_one el b g) h values
