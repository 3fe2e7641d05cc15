-- "In our notation": document 01's C of an xorSplit without ranges (R21): "`true`, or two operands joined by `=` or `<`; in xorSplit also `default`". "Blank text is no condition." (RULES: flows)
use Prim.Native.Char.{code}
use Rattle.std.specs.Prelude.{ℕ, not, List, [], ◌∷◌, eqb}
use Rattle.base_words.specs.Blocks.{Bytes}
use Rattle.base_words.specs.Pick.{if◌then◌or_else◌}
use Rattle.base_words.specs.Text.{bytes}
use Rattle.base_table.specs.Places.{always, default, equals, below}
use Rattle.base_bytes.specs.Bytes.{same_bytes}
use Rattle.draw_conditions.specs.declared.Condition.{Condition}
use Rattle.draw_conditions.specs.declared.spelled.Side.{Side}
use Rattle.draw_conditions.specs.declared.spelled.Class.TheVariants.{Blanks, Word}
use Rattle.draw_conditions.specs.Saying.{Said, said_at}
use Rattle.draw_conditions.specs.Words.{behind, letters, is_over, nothing, side_at}

-- forms beside those of a table: no condition; not in our notation
abbrev pub absent : ℕ
absent = 0

abbrev pub foreign : ℕ
foreign = 5

-- a condition without operands
abbrev pub bare : ℕ → Condition
bare form = record { form = form; left = nothing; right = nothing; beyond = 0 }

-- a word that is the whole condition
unfoldable pub alone : ℕ → List Said → Condition
alone form s = if is_over (behind Blanks (behind Word s)) then bare form or_else bare foreign

-- "the leftmost of all decides" (R28) (RULES: beyond)
unfoldable pub leftmost : ℕ → ℕ → ℕ
leftmost a b = if eqb a 0 then b or_else a

unfoldable pub both : ℕ → Side → Side → Condition
both form l r =
    if not l.stands then bare foreign
    or_else if not r.stands then bare foreign
    or_else record { form = form; left = l.term; right = r.term; beyond = leftmost l.beyond r.beyond }

unfoldable pub form_of : ℕ → ℕ
form_of b = if eqb b (code "=") then equals or_else if eqb b (code "<") then below or_else foreign

-- the second operand, and nothing behind it
unfoldable pub second : ℕ → Side → List Said → Condition
second form l s = if is_over (behind Blanks (behind Word s)) then both form l (side_at s) or_else bare foreign

-- the sign between them
unfoldable pub joined : Side → List Said → Condition
joined l [] = bare foreign
joined l (x ∷ s) = if eqb (form_of x.byte) foreign then bare foreign or_else second (form_of x.byte) l (behind Blanks s)

unfoldable pub compared : List Said → Condition
compared s = joined (side_at s) (behind Blanks (behind Word s))

-- what is said, no blank first
unfoldable pub condition_of : List Said → Condition
condition_of s =
    if is_over s then bare absent
    or_else if same_bytes (letters s) (bytes "true") then alone always s
    or_else if same_bytes (letters s) (bytes "default") then alone default s
    or_else compared s

-- the condition that the element whose tag is at p says
unfoldable pub condition_at : Bytes → ℕ → Condition
condition_at t p = condition_of (behind Blanks (said_at t p))
