-- A GRAMMAR says of each token whether it is taken, and how the text goes on then; or that the grammar ends before it; or a refusal. Assumes nothing.
use Prim.Native.Char.{code}
use Prim.Native.Nat.{ℕ, ◌<◌}
use mathlib.Core.Path.{◌≡◌, ◌∙◌, refl, sym, ap}
use mathlib.Core.Bool.{Bool, true, false, not, ◌||◌}
use mathlib.Core.List.{List, [], ◌∷◌}
use native.Mathlib.Omega.{arith}
use lib.Dec.{eqb}
use lib.ListN.{length}
use Rattle.base_words.specs.Each.{each}
use Rattle.base_words.specs.Pick.{if◌then◌or_else◌}
use Rattle.text_lexer.specs.declared.Form.{Form}
use Rattle.text_lexer.specs.Lexer.{is_word, token_at, if_word, if_sign}
use Rattle.base_bytes.specs.Bytes.{between, is_digit, is_letter}
use Rattle.text_numerals.specs.Numerals.{number_of, field_behind, field_from, field_of, leading_zero, value_from}
use Rattle.std.specs.declared.result.Result.TheVariants.{Ok}
use Rattle.text_readers.specs.Reading.{Read, Refused, excessive, place_of, behind, is_spelled}
use Rattle.text_elements.specs.Elements.{kind_named}
use Rattle.text_read.specs.Notation.{pool_word}
use Rattle.proof_places.proofs.Pieces.{Lexeme, lexeme, is_end, Piece, met, worded}

-- what becomes of a token
pub data Turn : Type 0 where
  takes : Turn
  passes : Turn
  refuses : ℕ → Turn

abbrev tag : Turn → ℕ
tag takes = 0
tag passes = 1
tag (refuses n) = 2

pub takes_passes : {A : Type 0} (x : Turn) → x ≡ takes → x ≡ passes → A
takes_passes x a b = let e : ◌≡◌ {A = ℕ} 0 1 = ap tag (sym a ∙ b) in absurd (omega (arith, e))

pub takes_refuses : {A : Type 0} (x : Turn) (n : ℕ) → x ≡ takes → x ≡ refuses n → A
takes_refuses x n a b = let e : ◌≡◌ {A = ℕ} 0 2 = ap tag (sym a ∙ b) in absurd (omega (arith, e))

pub passes_refuses : {A : Type 0} (x : Turn) (n : ℕ) → x ≡ passes → x ≡ refuses n → A
passes_refuses x n a b = let e : ◌≡◌ {A = ℕ} 1 2 = ap tag (sym a ∙ b) in absurd (omega (arith, e))

abbrev number_in : Turn → ℕ
number_in takes = 0
number_in passes = 0
number_in (refuses n) = n

pub refused_alike : (x : Turn) (n m : ℕ) → x ≡ refuses n → x ≡ refuses m → n ≡ m
refused_alike x n m a b = ap number_in (sym a ∙ b)

pub by_turn : {A : Type 0} (x : Turn) → (x ≡ takes → A) → (x ≡ passes → A) → ((n : ℕ) → x ≡ refuses n → A) → A
by_turn {A} x f g h = go x refl
  where
    go : (y : Turn) → x ≡ y → A
    go takes e = f e
    go passes e = g e
    go (refuses n) e = h n e

-- nothing more; or, for each token, what becomes of it, and what follows where it is taken
pub data Grammar : Type 0 where
  done : Grammar
  node : (Lexeme → Turn) → (Lexeme → Grammar) → Grammar

abbrev pub turn : Grammar → Lexeme → Turn
turn done k = passes
turn (node f g) k = f k

abbrev pub next : Grammar → Lexeme → Grammar
next done k = done
next (node f g) k = g k

-- WHERE READING ENDS by a grammar, from a place of a text
pub data Leads (t : List ℕ) (r : Read) : Grammar → ℕ → Type 0 where
  ends : {g : Grammar} {from : ℕ} → turn g (lexeme t from) ≡ passes → r ≡ Ok from → Leads t r g from
  fails : {g : Grammar} {from : ℕ} (n : ℕ) → turn g (lexeme t from) ≡ refuses n → r ≡ Refused n (place_of t from) → Leads t r g from
  steps : {g : Grammar} {from : ℕ} → turn g (lexeme t from) ≡ takes → is_end (token_at t from).form ≡ false → Leads t r (next g (lexeme t from)) (behind t from) → Leads t r g from

-- there is one end
pub same_end : (t : List ℕ) (r s : Read) (g : Grammar) (from : ℕ) → Leads t r g from → Leads t s g from → r ≡ s
same_end t r s g from (ends e z) (ends a b) = z ∙ sym b
same_end t r s g from (ends e z) (fails n a b) = passes_refuses (turn g (lexeme t from)) n e a
same_end t r s g from (ends e z) (steps a b l) = takes_passes (turn g (lexeme t from)) a e
same_end t r s g from (fails n e z) (ends a b) = passes_refuses (turn g (lexeme t from)) n a e
same_end t r s g from (fails n e z) (fails m a b) = z ∙ ap (λ (k : ℕ). Refused k (place_of t from)) (refused_alike (turn g (lexeme t from)) n m e a) ∙ sym b
same_end t r s g from (fails n e z) (steps a b l) = takes_refuses (turn g (lexeme t from)) n a e
same_end t r s g from (steps e z l) (ends a b) = takes_passes (turn g (lexeme t from)) e a
same_end t r s g from (steps e z l) (fails n a b) = takes_refuses (turn g (lexeme t from)) n e a
same_end t r s g from (steps e z l) (steps a b m) = same_end t r s (next g (lexeme t from)) (behind t from) l m

-- READ WHOLE: pieces that a grammar takes one after the other, up to where it ends before every form that may follow
pub data Whole (P : Form → Bool) : Grammar → List Piece → Type 0 where
  over : {g : Grammar} → ((k : Lexeme) → P k.form ≡ true → turn g k ≡ passes) → Whole P g []
  more : {g : Grammar} {bs : List Piece} (b : Piece) → turn g (met b) ≡ takes → Whole P (next g (met b)) bs → Whole P g (b ∷ bs)

-- WHAT A TOKEN CAN START: a number or a field, of any size; something with a sign before it; an element; a pool
abbrev pub of_number : Lexeme → Bool
of_number k = if_word k.form (is_spelled (number_of k.letters)) false

abbrev pub of_field : Lexeme → Bool
of_field k = if_word k.form (is_spelled (field_of k.letters)) false

abbrev pub of_sign : ℕ → Lexeme → Bool
of_sign s k = if_sign k.form (λ b. eqb b s) false

abbrev pub of_element : Lexeme → Bool
of_element k = if_word k.form (not (eqb (kind_named k.letters) 0)) false

abbrev pub of_pool : Lexeme → Bool
of_pool k = if_word k.form (not (eqb (pool_word k.letters) 0)) false

abbrev pub numeral : Lexeme → Bool
numeral k = of_number k || of_field k

-- whatever there may be too many of
abbrev pub starts_one : Lexeme → Bool
starts_one k = numeral k || (of_sign (code "?") k || (of_sign (code "(") k || (of_element k || of_pool k)))

-- a number, and a field, that are in every range
pub one_word : each is_word (49 ∷ []) ≡ true
unfolding each is_word is_letter is_digit between
one_word = refl

pub field_word : each is_word (100 ∷ 48 ∷ []) ≡ true
unfolding each is_word is_letter is_digit between
field_word = refl

pub one_long : 0 < length {A = ℕ} (49 ∷ [])
one_long = omega arith

pub two_long : 0 < length {A = ℕ} (100 ∷ 48 ∷ [])
two_long = omega arith

abbrev pub sample : Bool → Piece
sample true = worded (49 ∷ []) one_long one_word
sample false = worded (100 ∷ 48 ∷ []) two_long field_word

pub sample_numeral : (s : Bool) → numeral (met (sample s)) ≡ true
unfolding if_word is_spelled number_of field_of field_from field_behind leading_zero value_from is_digit between if◌then◌or_else◌
sample_numeral true = refl
sample_numeral false = refl

-- the token is out of its range, and a number or field stands in its stead in a text that is read whole
pub record Ranged (P : Form → Bool) (g : Grammar) (k : Lexeme) : Type 0 where
  pub spelled : numeral k ≡ true
  pub better : Bool
  pub taken : turn g (met (sample better)) ≡ takes
  pub pieces : List Piece
  pub whole : Whole P (next g (met (sample better))) pieces

-- "a count above it": the token starts an item, and no token is taken
pub record Counted (g : Grammar) (k : Lexeme) : Type 0 where
  pub starting : starts_one k ≡ true
  pub none : (j : Lexeme) → (n : ℕ) × (turn g j ≡ refuses n)

pub data Excess (P : Form → Bool) (g : Grammar) (k : Lexeme) : Type 0 where
  range : Ranged P g k → Excess P g k
  count : Counted g k → Excess P g k

-- what a grammar can be brought to: it is read whole, or it has one item too many
pub data Hope (P : Form → Bool) (g : Grammar) : Type 0 where
  goes : (bs : List Piece) → Whole P g bs → Hope P g
  full : (b : Piece) → turn g (met b) ≡ refuses excessive → Hope P g

-- and so can whatever it comes to
pub data Live (P : Form → Bool) : Grammar → Type 0 where
  live : {g : Grammar} → Hope P g → ((k : Lexeme) → turn g k ≡ refuses excessive → Excess P g k) → ((k : Lexeme) → turn g k ≡ takes → Live P (next g k)) → Live P g

-- ONE GRAMMAR AFTER THE OTHER
abbrev pub onto : {A : Type 0} → Turn → A → A → A
onto takes a b = a
onto passes a b = b
onto (refuses n) a b = a

abbrev pub seq : Grammar → Grammar → Grammar
seq done h = h
seq (node f g) h = node (λ k. onto (f k) (f k) (turn h k)) (λ k. onto (f k) (seq (g k) h) (next h k))

pub seq_takes : (g h : Grammar) (k : Lexeme) → turn g k ≡ takes → (turn (seq g h) k ≡ takes) × (next (seq g h) k ≡ seq (next g k) h)
seq_takes done h k e = takes_passes passes e refl
seq_takes (node f g) h k e = (ap (λ (x : Turn). onto x x (turn h k)) e, ap (λ (x : Turn). onto x (seq (g k) h) (next h k)) e)

pub seq_passes : (g h : Grammar) (k : Lexeme) → turn g k ≡ passes → (turn (seq g h) k ≡ turn h k) × (next (seq g h) k ≡ next h k)
seq_passes done h k e = (refl, refl)
seq_passes (node f g) h k e = (ap (λ (x : Turn). onto x x (turn h k)) e, ap (λ (x : Turn). onto x (seq (g k) h) (next h k)) e)

pub seq_refuses : (g h : Grammar) (k : Lexeme) (n : ℕ) → turn g k ≡ refuses n → turn (seq g h) k ≡ refuses n
seq_refuses done h k n e = passes_refuses passes n refl e
seq_refuses (node f g) h k n e = ap (λ (x : Turn). onto x x (turn h k)) e
