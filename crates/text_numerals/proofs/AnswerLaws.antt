-- An answer taken apart: the arm of `let Number::Value(v) = n else ..` and its else, and so for operands. Assumes nothing.
use mathlib.Core.Path.{◌≡◌, refl}
use Prim.Native.Nat.{ℕ}
use Rattle.text_numerals.specs.declared.Number.{Number}
use Rattle.text_numerals.specs.declared.Number.TheVariants.{Value, TooLarge, NotANumber}
use Rattle.text_numerals.specs.declared.Operand.{Operand}
use Rattle.text_numerals.specs.declared.Operand.TheVariants.{Number as Constant, Field, OutOfRange, NotAnOperand}
use Rattle.text_numerals.specs.Numerals.{if_value, if_too_large, if_number, if_field, if_out_of_range}

module _ {A : Type 0} (n : Number) where
  pub is_value : (a : ℕ → A) (b : A) (v : ℕ) → n ≡ Value v → if_value n a b ≡ a v
  unfolding if_value
  is_value a b v e = rw e

  pub is_too_large : (a b : A) → n ≡ TooLarge → if_too_large n a b ≡ a
  unfolding if_too_large
  is_too_large a b e = rw e

pub not_value : {A : Type 0} (n : Number) (a : ℕ → A) (b : A) → ((v : ℕ) → n ≡ Value v → ⊥) → if_value n a b ≡ b
unfolding if_value
not_value (Value v) a b e = absurd (e v refl)
not_value TooLarge a b e = refl
not_value NotANumber a b e = refl

pub not_too_large : {A : Type 0} (n : Number) (a b : A) → (n ≡ TooLarge → ⊥) → if_too_large n a b ≡ b
unfolding if_too_large
not_too_large (Value v) a b e = refl
not_too_large TooLarge a b e = absurd (e refl)
not_too_large NotANumber a b e = refl

module _ {A : Type 0} (o : Operand) where
  pub is_number : (a : ℕ → A) (b : A) (v : ℕ) → o ≡ Constant v → if_number o a b ≡ a v
  unfolding if_number
  is_number a b v e = rw e

  pub is_field : (a : ℕ → A) (b : A) (f : ℕ) → o ≡ Field f → if_field o a b ≡ a f
  unfolding if_field
  is_field a b f e = rw e

  pub is_out_of_range : (a b : A) → o ≡ OutOfRange → if_out_of_range o a b ≡ a
  unfolding if_out_of_range
  is_out_of_range a b e = rw e

pub not_number : {A : Type 0} (o : Operand) (a : ℕ → A) (b : A) → ((v : ℕ) → o ≡ Constant v → ⊥) → if_number o a b ≡ b
unfolding if_number
not_number (Constant v) a b e = absurd (e v refl)
not_number (Field f) a b e = refl
not_number OutOfRange a b e = refl
not_number NotAnOperand a b e = refl

pub not_field : {A : Type 0} (o : Operand) (a : ℕ → A) (b : A) → ((v : ℕ) → o ≡ Field v → ⊥) → if_field o a b ≡ b
unfolding if_field
not_field (Constant v) a b e = refl
not_field (Field f) a b e = absurd (e f refl)
not_field OutOfRange a b e = refl
not_field NotAnOperand a b e = refl

pub not_out_of_range : {A : Type 0} (o : Operand) (a b : A) → (o ≡ OutOfRange → ⊥) → if_out_of_range o a b ≡ b
unfolding if_out_of_range
not_out_of_range (Constant v) a b e = refl
not_out_of_range (Field f) a b e = refl
not_out_of_range OutOfRange a b e = absurd (e refl)
not_out_of_range NotAnOperand a b e = refl
