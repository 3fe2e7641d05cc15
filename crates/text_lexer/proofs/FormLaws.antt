-- A form taken apart: the arm of `let Form::X = form else ..`, and its else. Assumes nothing.
use mathlib.Core.Path.{◌≡◌, refl}
use Prim.Native.Nat.{ℕ}
use Rattle.text_lexer.specs.declared.Form.{Form}
use Rattle.text_lexer.specs.declared.Form.TheVariants.{Word, Sign, Assign, End, Other}
use Rattle.text_lexer.specs.Lexer.{if_word, if_sign, if_assign, if_end}

module _ {A : Type 0} (f : Form) where
  pub is_word_lem : (a b : A) → f ≡ Word → if_word f a b ≡ a
  unfolding if_word
  is_word_lem a b e = rw e

  pub is_sign : (a : ℕ → A) (b : A) (s : ℕ) → f ≡ Sign s → if_sign f a b ≡ a s
  unfolding if_sign
  is_sign a b s e = rw e

  pub is_assign : (a b : A) → f ≡ Assign → if_assign f a b ≡ a
  unfolding if_assign
  is_assign a b e = rw e

  pub is_end : (a b : A) → f ≡ End → if_end f a b ≡ a
  unfolding if_end
  is_end a b e = rw e

pub not_word : {A : Type 0} (f : Form) (a b : A) → (f ≡ Word → ⊥) → if_word f a b ≡ b
unfolding if_word
not_word Word a b e = absurd (e refl)
not_word (Sign s) a b e = refl
not_word Assign a b e = refl
not_word End a b e = refl
not_word Other a b e = refl

pub not_sign : {A : Type 0} (f : Form) (a : ℕ → A) (b : A) → ((v : ℕ) → f ≡ Sign v → ⊥) → if_sign f a b ≡ b
unfolding if_sign
not_sign Word a b e = refl
not_sign (Sign s) a b e = absurd (e s refl)
not_sign Assign a b e = refl
not_sign End a b e = refl
not_sign Other a b e = refl

pub not_assign : {A : Type 0} (f : Form) (a b : A) → (f ≡ Assign → ⊥) → if_assign f a b ≡ b
unfolding if_assign
not_assign Word a b e = refl
not_assign (Sign s) a b e = refl
not_assign Assign a b e = absurd (e refl)
not_assign End a b e = refl
not_assign Other a b e = refl

pub not_end : {A : Type 0} (f : Form) (a b : A) → (f ≡ End → ⊥) → if_end f a b ≡ b
unfolding if_end
not_end Word a b e = refl
not_end (Sign s) a b e = refl
not_end Assign a b e = refl
not_end End a b e = absurd (e refl)
not_end Other a b e = refl
