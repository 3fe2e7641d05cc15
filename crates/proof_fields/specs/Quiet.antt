-- A TABLE IN WHICH NOTHING CAN SET A FIELD, and instances none of whose fields are defined. t is a table, s the instances of a state.
use Rattle.std.specs.Prelude.{ℕ, ◌+◌, ◌*◌, ◌<◌, ◌≡◌, Bool, not, ◌&&◌, ◌||◌, eqb, ltb, None}
use Rattle.base_words.specs.Blocks.{Block, Table, Instances}
use Rattle.base_words.specs.Counts.{pools, branches, instances, fields, stores, fields_named}
use Rattle.base_words.specs.Words.{at}
use Rattle.base_table.specs.Places.{operand_number, form_place, left_place, right_place, always}
use Rattle.base_table.specs.Table.{pool_count, element_count, element_at, message_length, assignment_count}
use Rattle.base_state.specs.Places.{instance_place, shared_place}
use Rattle.meaning.specs.Expressions.{field_of}
use Rattle.meaning.specs.Step.{instance_of}

-- "messages are the empty tuple", "tasks are atomic, guard true, A `{}`" (RULES: numbering)
pub record Quiet (t : Table) : Type 0 where
  pub carries : (p e b : ℕ) → p < pool_count t → e < element_count t p → b < branches → message_length (element_at t p e) b ≡ 0
  pub assigns : (p e : ℕ) → p < pool_count t → e < element_count t p → assignment_count (element_at t p e) ≡ 0

-- every field of every instance is undefined, and every store: "A field is 0 to 4,294,967,295 or undefined" (RULES: state)
pub record Unset (s : Instances) : Type 0 where
  pub own : (p i d : ℕ) → p < pools → i < instances → d < fields → field_of (instance_of s p i) d ≡ None
  pub shared : (d : ℕ) → d < stores → at s (shared_place + 2 * d) ≡ 0

-- a condition names a field or a store: w is its words, place that of an operand
unfoldable pub is_named : Block → ℕ → Bool
is_named w place = not (eqb (at w place) 0) && ltb (at w (place + operand_number)) fields_named

unfoldable pub names_field : Block → Bool
names_field w = not (eqb (at w form_place) always) && (is_named w left_place || is_named w right_place)
