-- What a function of its own reads: the second half of a long chain of readers, or of a choice.
use Prim.Native.Char.{code}
use Rattle.std.specs.Prelude.{ℕ, ◌+◌, Bool, true, ◌&&◌}
use Rattle.base_words.specs.Blocks.{Bytes}
use Rattle.base_words.specs.Pick.{if◌then◌or_else◌}
use Rattle.base_words.specs.Text.{bytes}
use Rattle.base_table.specs.Places.{always, default, form_place, left_place, right_place, condition_place}
use Rattle.base_bytes.specs.Bytes.{same_bytes}
use Rattle.text_readers.specs.Reading.{Reader, behind, letters, ◌then◌, sign, operand}
use Rattle.text_terms.specs.Terms.{store, comparison, condition}

-- No place of an element lies beyond it, whatever bytes number the branch and the item; and what stands behind it still has a place that fits.
abbrev pub farthest : ℕ
farthest = 16777216

-- a form and the second operand; two operands compared
abbrev pub joined_by : ℕ → ℕ → Reader
joined_by form place = store (place + form_place) form then operand (place + right_place)

abbrev pub compared : ℕ → Reader
compared place = operand (place + left_place) then comparison place

-- a condition that starts with a word
abbrev pub is_default_word : Bool → Bytes → ℕ → Bool
is_default_word defaults text at = defaults && same_bytes (letters text at) (bytes "default")

abbrev pub keep_form : ℕ → ℕ → Reader
keep_form form place text at x = store (place + form_place) form text (behind text at) x

abbrev pub condition_word : Bool → ℕ → Reader
condition_word defaults place text at x =
    if same_bytes (letters text at) (bytes "true") then keep_form always place text at x
    or_else if is_default_word defaults text at then keep_form default place text at x
    or_else compared place text at x

-- behind the edge of a guarded branch
abbrev pub guard : ℕ → Reader
guard b = sign (code ",") then condition true (condition_place b) then sign (code ")")
