-- The value of a word, where it says one. Assumes nothing.
use mathlib.Core.Path.{◌≡◌, sym}
use Prim.Native.Nat.{ℕ}
use Rattle.text_numerals.specs.declared.Number.{Number}
use Rattle.text_numerals.specs.declared.Number.TheVariants.{Value}
use Rattle.text_numerals.specs.Numerals.{if_value}
use Rattle.text_numerals.proofs.AnswerLaws.{is_value, not_value}

pub value_is : (r n : Number) (v : ℕ) → r ≡ n → r ≡ Value v → v ≡ if_value n (λ x. x) 0
value_is r n v e h = rw (← e) (sym (is_value r (λ x. x) 0 v h))

pub no_value : (r n : Number) → r ≡ n → ((v : ℕ) → r ≡ Value v → ⊥) → 0 ≡ if_value n (λ x. x) 0
no_value r n e h = rw (← e) (sym (not_value r (λ x. x) 0 h))
