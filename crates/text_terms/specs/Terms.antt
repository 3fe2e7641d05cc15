-- THE TERMS OF AN ELEMENT'S TEXT, in the words of document 01: expressions, items of a template, conditions, assignments, guarded branches. x is the words
-- of the element, in which each is stored at its place. (RULES: reading)
use Prim.Native.Char.{code}
use Rattle.std.specs.Prelude.{ℕ, ◌+◌, Bool, true, ◌&&◌, set}
use Rattle.base_words.specs.Pick.{if◌then◌or_else◌}
use Rattle.base_words.specs.Text.{bytes}
use Rattle.base_words.specs.Counts.{edges}
use Rattle.base_table.specs.Places.{form_place, left_place, right_place, single, plus, minus, binding, always, default, equals, below, a_field, operand_number, exits_place, edge_place, condition_place, assigned_in, assignment_place}
use Rattle.text_lexer.specs.Lexer.{token_at, if_word}
use Rattle.base_bytes.specs.Bytes.{same_bytes}
use Rattle.text_readers.specs.Reading.{Reader, misplaced, passed_to, refused_at, if_at, ◌then◌, place_of, behind, letters, sign_at, sign, assign, number, field, operand}

-- a word stored, nothing read
abbrev pub store : ℕ → ℕ → Reader
store place v text at x = passed_to at (set x place v)

-- "An expression is an operand, or two joined by `+` or `-`." (RULES: reading)
unfoldable pub joint : ℕ → Reader
joint place text at x =
    if_at (sign_at (code "+") text at) (λ q. (store (place + form_place) plus then operand (place + right_place)) text q x)
    (if_at (sign_at (code "-") text at) (λ q. (store (place + form_place) minus then operand (place + right_place)) text q x)
    (store (place + form_place) single text at x))

unfoldable pub expression : ℕ → Reader
expression place = operand (place + left_place) then joint place

-- "T is the same, but an item may be `?d3`, which binds that field." (RULES: reading)
unfoldable pub bind : ℕ → Reader
bind place = store (place + form_place) binding then store (place + left_place) a_field then field (place + left_place + operand_number)

unfoldable pub template_item : ℕ → Reader
template_item place text at x = if_at (sign_at (code "?") text at) (λ q. bind place text q x) (expression place text at x)

-- "C is `true`, or two operands joined by `=` or `<`; in xorSplit also `default`." (RULES: reading)
unfoldable pub comparison : ℕ → Reader
comparison place text at x =
    if_at (sign_at (code "=") text at) (λ q. (store (place + form_place) equals then operand (place + right_place)) text q x)
    ((sign (code "<") then store (place + form_place) below then operand (place + right_place)) text at x)

unfoldable pub condition : Bool → ℕ → Reader
condition defaults place text at x =
    if_word (token_at text at).form
    (if same_bytes (letters text at) (bytes "true") then store (place + form_place) always text (behind text at) x
    or_else if defaults && same_bytes (letters text at) (bytes "default") then store (place + form_place) default text (behind text at) x
    or_else (operand (place + left_place) then comparison place) text at x)
    (refused_at misplaced (place_of text at) x)

-- "A is `{}` or up to 4 of `d3:=expression`." (RULES: reading)
unfoldable pub assignment : ℕ → Reader
assignment j = field (assignment_place j) then assign then expression (assignment_place j + assigned_in)

-- an edge, 1 to 48
abbrev pub edge : ℕ → Reader
edge place = number 1 edges place

-- a branch `(f,C)` of an xorSplit
unfoldable pub guarded : ℕ → Reader
guarded b = sign (code "(") then edge (edge_place exits_place b) then sign (code ",") then condition true (condition_place b) then sign (code ")")
