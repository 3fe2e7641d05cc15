-- A condition's form and its operands' numbers are words. Assumes nothing.
use Prim.Native.Nat.{ℕ, ◌+◌, ◌≤◌}
use mathlib.Core.Path.{◌≡◌, refl}
use mathlib.Core.Bool.{Bool, true, false}
use mathlib.Core.List.{List, [], ◌∷◌}
use native.Mathlib.Omega.{arith}
use lib.Dec.{leb, ltb}
use borrow.Author.Tests.{leb-true, ltb-true}
use Rattle.base_words.specs.Counts.{fields, stores, fields_named}
use Rattle.base_words.specs.Pick.{if◌then◌or_else◌}
use Rattle.base_words.specs.Words.{greatest}
use Rattle.base_table.specs.Places.{always, default}
use Rattle.text_numerals.specs.declared.Number.{Number}
use Rattle.text_numerals.specs.declared.Number.TheVariants.{Value, TooLarge, NotANumber}
use Rattle.text_numerals.specs.declared.Operand.{Operand}
use Rattle.text_numerals.specs.declared.Operand.TheVariants.{Number as Constant, Field, OutOfRange, NotAnOperand}
use Rattle.text_numerals.specs.Numerals.{value_from, number_of, field_behind, field_from, field_of, as_number, as_field, operand_of}
use Rattle.draw_conditions.specs.declared.Term.{Term}
use Rattle.draw_conditions.specs.declared.Condition.{Condition}
use Rattle.draw_conditions.specs.declared.spelled.Side.{Side}
use Rattle.draw_conditions.specs.declared.spelled.Class.TheVariants.{Blanks}
use Rattle.draw_conditions.specs.Saying.{Said, said_at}
use Rattle.draw_conditions.specs.Words.{behind, letters, place_said, side_of, side_at}
use Rattle.draw_conditions.specs.Conditions.{absent, foreign, bare, alone, both, form_of, second, joined, compared, condition_of, condition_at}

-- what both ways of a choice are, the choice is
pub either : {A : Type 0} (P : A → Type 0) (b : Bool) (x y : A) → P x → P y → P (if b then x or_else y)
unfolding if◌then◌or_else◌
either P true x y p q = p
either P false x y p q = q

-- NUMBERS
abbrev Bound : Number → Type 0
Bound (Value v) = v ≤ greatest
Bound TooLarge = 0 ≤ greatest
Bound NotANumber = 0 ≤ greatest

value_bound : (word : List ℕ) (v : ℕ) → Bound (value_from v word)
unfolding value_from
value_bound [] v = go (leb v greatest) refl
  where
    go : (b : Bool) → leb v greatest ≡ b → Bound (if b then Value v or_else TooLarge)
    go true e = unfold if◌then◌or_else◌ in leb-true v greatest e
    go false e = unfold if◌then◌or_else◌ in omega arith
value_bound (d ∷ word) v = either Bound _ _ NotANumber (value_bound word _) (omega arith)

number_bound : (word : List ℕ) → Bound (number_of word)
unfolding number_of
number_bound word = either Bound _ NotANumber _ (omega arith) (either Bound _ NotANumber _ (omega arith) (value_bound word 0))

-- OPERANDS
abbrev Held : Operand → Type 0
Held (Constant v) = v ≤ greatest
Held (Field f) = f ≤ greatest
Held OutOfRange = 0 ≤ greatest
Held NotAnOperand = 0 ≤ greatest

as_number_lem : (r : Number) → Bound r → Held (as_number r)
unfolding as_number
as_number_lem (Value v) h = h
as_number_lem TooLarge h = h
as_number_lem NotANumber h = h

as_field_lem : (r : Number) → Bound r → Held (as_field r)
unfolding as_field
as_field_lem (Value v) h = h
as_field_lem TooLarge h = h
as_field_lem NotANumber h = h

behind_bound : (before count : ℕ) → before + count ≤ fields_named → (r : Number) → Bound (field_behind before count r)
unfolding field_behind
behind_bound before count h (Value v) = go (ltb v count) refl
  where
    go : (b : Bool) → ltb v count ≡ b → Bound (if b then Value (v + before) or_else TooLarge)
    go true e = unfold if◌then◌or_else◌ in omega (arith, h, ltb-true v count e)
    go false e = unfold if◌then◌or_else◌ in omega arith
behind_bound before count h TooLarge = omega arith
behind_bound before count h NotANumber = omega arith

field_bound : (word : List ℕ) → Bound (field_of word)
unfolding field_of field_from
field_bound word = either Bound _ _ _ (behind_bound 0 fields (omega arith) _) (either Bound _ _ NotANumber (behind_bound fields stores (omega arith) _) (omega arith))

operand_held : (word : List ℕ) → Held (operand_of word)
unfolding operand_of
operand_held word = either Held _ _ _ (as_field_lem (field_of word) (field_bound word)) (as_number_lem (number_of word) (number_bound word))

pub record Stored (o : Term) : Type 0 where
  pub flag : o.flag ≤ greatest
  pub number : o.number ≤ greatest

side_stored : (o : Operand) (place : ℕ) → Held o → Stored (side_of o place).term
unfolding side_of
side_stored (Constant v) place h = record { flag = omega arith; number = h }
side_stored (Field f) place h = record { flag = omega arith; number = h }
side_stored OutOfRange place h = record { flag = omega arith; number = omega arith }
side_stored NotAnOperand place h = record { flag = omega arith; number = omega arith }

at_stored : (s : List Said) → Stored (side_at s).term
unfolding side_at
at_stored s = side_stored (operand_of (letters s)) (place_said s) (operand_held (letters s))

-- CONDITIONS
pub record Plain (c : Condition) : Type 0 where
  pub form : c.form ≤ greatest
  pub left : Stored c.left
  pub right : Stored c.right

bare_plain : (form : ℕ) → form ≤ greatest → Plain (bare form)
bare_plain form h = record { form = h; left = record { flag = omega arith; number = omega arith }; right = record { flag = omega arith; number = omega arith } }

alone_plain : (form : ℕ) (s : List Said) → form ≤ greatest → Plain (alone form s)
unfolding alone
alone_plain form s h = either Plain _ _ _ (bare_plain form h) (bare_plain foreign (omega arith))

both_plain : (form : ℕ) (l r : Side) → form ≤ greatest → Stored l.term → Stored r.term → Plain (both form l r)
unfolding both
both_plain form l r h p q =
    either Plain _ _ _ (bare_plain foreign (omega arith)) (either Plain _ _ _ (bare_plain foreign (omega arith)) (record { form = h; left = p; right = q }))

form_small : (b : ℕ) → form_of b ≤ greatest
unfolding form_of
form_small b = either (λ (k : ℕ). k ≤ greatest) _ _ _ (omega arith) (either (λ (k : ℕ). k ≤ greatest) _ _ _ (omega arith) (omega arith))

joined_plain : (l : Side) (s : List Said) → Stored l.term → Plain (joined l s)
unfolding joined second
joined_plain l [] p = bare_plain foreign (omega arith)
joined_plain l (x ∷ s) p =
    either Plain _ _ _ (bare_plain foreign (omega arith)) (either Plain _ _ _ (both_plain (form_of x.byte) l (side_at (behind Blanks s)) (form_small x.byte) p (at_stored (behind Blanks s))) (bare_plain foreign (omega arith)))

condition_plain : (s : List Said) → Plain (condition_of s)
unfolding condition_of compared
condition_plain s =
    either Plain _ _ _ (bare_plain absent (omega arith))
    (either Plain _ _ _ (alone_plain always s (omega arith)) (either Plain _ _ _ (alone_plain default s (omega arith)) (joined_plain (side_at s) _ (at_stored s))))

pub plain_at_lem : (t : List ℕ) (p : ℕ) → Plain (condition_at t p)
unfolding condition_at
plain_at_lem t p = condition_plain (behind Blanks (said_at t p))
