-- A condition that a conditionExpression says, in our notation, is within its limits. Assumes nothing.
use Prim.Native.Nat.{ℕ, ◌+◌, ◌≤◌, ◌<◌}
use mathlib.Core.Path.{◌≡◌, refl}
use mathlib.Core.Bool.{Bool, true, false, ◌&&◌}
use mathlib.Core.List.{List, [], ◌∷◌}
use native.Mathlib.Omega.{arith}
use lib.Dec.{eqb, leb, ltb}
use borrow.Author.Tests.{ltb-true, lt-ltb}
use Rattle.base_words.specs.All.{all}
use Rattle.base_words.specs.Counts.{fields, stores, fields_named}
use Rattle.base_words.specs.Pick.{if◌then◌or_else◌}
use Rattle.base_words.proofs.PickLaws.{and_true}
use Rattle.base_kinds.specs.Kinds.{many}
use Rattle.base_table.specs.Places.{a_field, always, default, equals, below}
use Rattle.check_limits.specs.Limits.{zeros, operand_fits, condition_fits}
use Rattle.text_numerals.specs.declared.Number.{Number}
use Rattle.text_numerals.specs.declared.Number.TheVariants.{Value, TooLarge, NotANumber}
use Rattle.text_numerals.specs.declared.Operand.{Operand}
use Rattle.text_numerals.specs.declared.Operand.TheVariants.{Number as Constant, Field, OutOfRange, NotAnOperand}
use Rattle.text_numerals.specs.Numerals.{field_behind, field_from, field_of, as_number, as_field, number_of, operand_of}
use Rattle.draw_conditions.specs.declared.Term.{Term}
use Rattle.draw_conditions.specs.declared.Condition.{Condition}
use Rattle.draw_conditions.specs.declared.spelled.Side.{Side}
use Rattle.draw_conditions.specs.declared.spelled.Class.TheVariants.{Blanks}
use Rattle.draw_conditions.specs.Saying.{Said, said_at}
use Rattle.draw_conditions.specs.Words.{behind, letters, place_said, side_of, side_at}
use Rattle.draw_conditions.specs.Conditions.{absent, foreign, bare, alone, both, form_of, second, joined, compared, condition_of, condition_at}
use Rattle.proof_drawings.proofs.TermLaws.{either}

-- OPERANDS: a field is one of those that may be named
abbrev Low : Number → Type 0
Low (Value v) = v < fields_named
Low TooLarge = 0 < fields_named
Low NotANumber = 0 < fields_named

behind_low : (before count : ℕ) → before + count ≤ fields_named → (r : Number) → Low (field_behind before count r)
unfolding field_behind
behind_low before count h (Value v) = go (ltb v count) refl
  where
    go : (b : Bool) → ltb v count ≡ b → Low (if b then Value (v + before) or_else TooLarge)
    go true e = unfold if◌then◌or_else◌ in omega (arith, h, ltb-true v count e)
    go false e = unfold if◌then◌or_else◌ in omega arith
behind_low before count h TooLarge = omega arith
behind_low before count h NotANumber = omega arith

field_low : (word : List ℕ) → Low (field_of word)
unfolding field_of field_from
field_low word = either Low _ _ _ (behind_low 0 fields (omega arith) _) (either Low _ _ NotANumber (behind_low fields stores (omega arith) _) (omega arith))

abbrev TermFits : Term → Type 0
TermFits o = operand_fits (o.flag ∷ o.number ∷ []) ≡ true

abbrev Held : Operand → Type 0
Held (Constant v) = 0 ≤ v
Held (Field f) = f < fields_named
Held OutOfRange = 0 < fields_named
Held NotAnOperand = 0 < fields_named

as_field_lem : (r : Number) → Low r → Held (as_field r)
unfolding as_field
as_field_lem (Value v) h = h
as_field_lem TooLarge h = h
as_field_lem NotANumber h = h

as_number_lem : (r : Number) → Held (as_number r)
unfolding as_number
as_number_lem (Value v) = omega arith
as_number_lem TooLarge = omega arith
as_number_lem NotANumber = omega arith

operand_held : (word : List ℕ) → Held (operand_of word)
unfolding operand_of
operand_held word = either Held _ _ _ (as_field_lem (field_of word) (field_low word)) (as_number_lem (number_of word))

side_fits : (o : Operand) (place : ℕ) → Held o → TermFits (side_of o place).term
unfolding side_of operand_fits if◌then◌or_else◌
side_fits (Constant v) place h = refl
side_fits (Field f) place h = lt-ltb f fields_named h
side_fits OutOfRange place h = refl
side_fits NotAnOperand place h = refl

at_fits : (s : List Said) → TermFits (side_at s).term
unfolding side_at
at_fits s = side_fits (operand_of (letters s)) (place_said s) (operand_held (letters s))

-- CONDITIONS: the words of one
abbrev pub words_of : Condition → List ℕ
words_of c = c.form ∷ c.left.flag ∷ c.left.number ∷ c.right.flag ∷ c.right.number ∷ []

pub record Says (c : Condition) : Type 0 where
  pub fits : (c.form ≡ absent → ⊥) → (c.form ≡ foreign → ⊥) → condition_fits many (words_of c) ≡ true

says_foreign : Says (bare foreign)
says_foreign = record { fits = λ a f. absurd (f refl) }

says_absent : Says (bare absent)
says_absent = record { fits = λ a f. absurd (a refl) }

says_always : Says (bare always)
unfolding condition_fits if◌then◌or_else◌ zeros all
says_always = record { fits = λ a f. refl }

says_default : Says (bare default)
unfolding condition_fits if◌then◌or_else◌ zeros all
says_default = record { fits = λ a f. refl }

alone_says : (form : ℕ) (s : List Said) → Says (bare form) → Says (alone form s)
unfolding alone
alone_says form s h = either Says _ _ _ h says_foreign

-- two operands joined
compare : (l r : Term) (beyond : ℕ) → TermFits l → TermFits r → Says (record { form = equals; left = l; right = r; beyond = beyond }) × Says (record { form = below; left = l; right = r; beyond = beyond })
unfolding condition_fits operand_fits if◌then◌or_else◌
compare l r beyond p q = (record { fits = λ a f. and_true _ _ p q }, record { fits = λ a f. and_true _ _ p q })

module _ (l r : Side) (p : TermFits l.term) (q : TermFits r.term) where
  abbrev Both : ℕ → Type 0
  Both form = Says (both form l r)

  both-equals : Both equals
  unfolding both
  both-equals = either Says _ _ _ says_foreign (either Says _ _ _ says_foreign (compare l.term r.term _ p q).0)

  both_below : Both below
  unfolding both
  both_below = either Says _ _ _ says_foreign (either Says _ _ _ says_foreign (compare l.term r.term _ p q).1)

  both-foreign : Both foreign
  unfolding both
  both-foreign = either Says _ _ _ says_foreign (either Says _ _ _ says_foreign (record { fits = λ a f. absurd (f refl) }))

  both_says : (b : ℕ) → Both (form_of b)
  unfolding form_of
  both_says b = either Both _ _ _ both-equals (either Both _ _ _ both_below both-foreign)

joined_says : (l : Side) (s : List Said) → TermFits l.term → Says (joined l s)
unfolding joined second
joined_says l [] p = says_foreign
joined_says l (x ∷ s) p = either Says _ _ _ says_foreign (either Says _ _ _ (both_says l (side_at (behind Blanks s)) p (at_fits (behind Blanks s)) x.byte) says_foreign)

condition_says : (s : List Said) → Says (condition_of s)
unfolding condition_of compared
condition_says s =
    either Says _ _ _ says_absent
    (either Says _ _ _ (alone_says always s says_always) (either Says _ _ _ (alone_says default s says_default) (joined_says (side_at s) _ (at_fits s))))

pub says_at : (t : List ℕ) (p : ℕ) → Says (condition_at t p)
unfolding condition_at
says_at t p = condition_says (behind Blanks (said_at t p))
