-- Readers one after the other, by what each of them gave; and that they keep the length of the words. Assumes nothing.
use mathlib.Core.Path.{◌≡◌, ◌∙◌, refl, sym, ap}
use mathlib.Core.Bool.{Bool, true, false, ◌&&◌}
use mathlib.Core.List.{List}
use Prim.Native.Nat.{ℕ, ◌+◌, ◌-◌}
use lib.Dec.{eqb, leb}
use lib.ListN.{length, set, length-set}
use Rattle.base_words.specs.Counts.{fields_named}
use Rattle.base_words.specs.Pick.{if◌then◌or_else◌}
use Rattle.base_table.specs.Places.{a_field, operand_number, mode_place}
use Rattle.text_lexer.specs.declared.Form.{Form}
use Rattle.text_lexer.specs.declared.Form.TheVariants.{Word, Sign, Assign, End, Other}
use Rattle.text_lexer.specs.Lexer.{token_at, if_word}
use Rattle.text_numerals.specs.declared.Number.{Number}
use Rattle.text_numerals.specs.declared.Number.TheVariants.{Value, TooLarge, NotANumber}
use Rattle.text_numerals.specs.declared.Operand.{Operand}
use Rattle.text_numerals.specs.declared.Operand.TheVariants.{Number as OfNumber, Field, OutOfRange, NotAnOperand}
use Rattle.text_numerals.specs.Numerals.{number_of, field_of, operand_of}
use Rattle.std.specs.Result.{IsErrAnd}
use Rattle.std.specs.declared.result.Result.TheVariants.{Ok, Err}
use Rattle.text_readers.specs.declared.Refusal.{Refusal}
use Rattle.text_readers.specs.Reading.{Read, Parsed, Reader, passed_to, refused_at, if_at, onward, ◌then◌, place_of, behind, letters, sign_at, assign_at, sign, assign, keep_number, number, field, keep_operand, operand, mode_named, keep_mode, mode}

-- THE DEFINITIONS, by the answer they start from
module _ {A : Type 0} (r : Read) (go : ℕ → A) (stay : A) where
  pub if_at_at : (q : ℕ) → r ≡ Ok q → if_at r go stay ≡ go q
  unfolding if_at
  if_at_at q e = rw e

  pub if_at_refused : (d : Refusal) → r ≡ Err d → if_at r go stay ≡ stay
  unfolding if_at
  if_at_refused d e = rw e

module _ (f : Parsed) (go : ℕ → List ℕ → Parsed) where
  pub onward_at : (q : ℕ) (y : List ℕ) → f ≡ passed_to q y → onward f go ≡ go q y
  unfolding onward if_at
  onward_at q y e = rw e

  pub onward_refused : (n p : ℕ) (y : List ℕ) → f ≡ refused_at n p y → onward f go ≡ refused_at n p y
  unfolding onward if_at
  onward_refused n p y e = rw e

module _ (f g : Reader) (text : List ℕ) (at : ℕ) (x : List ℕ) where
  pub then_at : (q : ℕ) (y : List ℕ) → f text at x ≡ passed_to q y → (f then g) text at x ≡ g text q y
  unfolding ◌then◌
  then_at q y e = onward_at (f text at x) (g text) q y e

  pub then_refused : (n p : ℕ) (y : List ℕ) → f text at x ≡ refused_at n p y → (f then g) text at x ≡ refused_at n p y
  unfolding ◌then◌
  then_refused n p y e = onward_refused (f text at x) (g text) n p y e

-- a sign is read without the words
as_reader : (r s : Read) (x : List ℕ) → r ≡ s → ◌≡◌ {A = Parsed} (record { end = r; words = x }) (record { end = s; words = x })
as_reader r s x e = ap (λ (z : Read). record { end = z; words = x }) e

-- THE SAME AS A PROOF HAS IT behind `let q = ..?;`: r is what the call gave, e the call's promise, h what the `?` told of r, and
-- w is what the function gives in the end.
answer : (r s : Read) (y : List ℕ) (f : Parsed) → record { end = r; words = y } ≡ f → r ≡ s → f ≡ record { end = s; words = y }
answer r s y f e h = sym e ∙ ap (λ (z : Read). record { end = z; words = y }) h

-- what a `?` returns is the call's own refusal
pub handed : (r s : Read) (d : Refusal) → r ≡ Err d → IsErrAnd s (λ (z : Refusal). z ≡ d) → s ≡ r
handed r (Ok q) d h k = absurd k
handed r (Err z) d h k = ap Err k ∙ sym h

module _ {A : Type 0} (r s : Read) (e : r ≡ s) (w : A) (go : ℕ → A) (stay : A) where
  pub if_passed : (q : ℕ) → r ≡ Ok q → w ≡ go q → w ≡ if_at s go stay
  if_passed q h k = k ∙ sym (if_at_at s go stay q (sym e ∙ h))

  pub if_stopped : (d : Refusal) → r ≡ Err d → w ≡ stay → w ≡ if_at s go stay
  if_stopped d h k = k ∙ sym (if_at_refused s go stay d (sym e ∙ h))

module _ (r : Read) (y : List ℕ) (f : Parsed) (e : record { end = r; words = y } ≡ f) (go : ℕ → List ℕ → Parsed) where
  pub onward_passed : (q : ℕ) (w : Parsed) → r ≡ Ok q → w ≡ go q y → w ≡ onward f go
  onward_passed q w h k = k ∙ sym (onward_at f go q y (answer r (Ok q) y f e h))

  pub onward_stopped : (d : Refusal) (s : Read) → r ≡ Err d → IsErrAnd s (λ (z : Refusal). z ≡ d) → record { end = s; words = y } ≡ onward f go
  onward_stopped d s h k =
      as_reader s (Err d) y (handed r s d h k ∙ h) ∙ sym (onward_refused f go d.number d.place y (answer r (Err d) y f e h))

module _ (f g : Reader) (text : List ℕ) (at : ℕ) (x : List ℕ) (r : Read) (y : List ℕ) (e : record { end = r; words = y } ≡ f text at x) where
  pub then_passed : (q : ℕ) (w : Parsed) → r ≡ Ok q → w ≡ g text q y → w ≡ (f then g) text at x
  unfolding ◌then◌
  then_passed q w h k = onward_passed r y (f text at x) e (g text) q w h k

  pub then_stopped : (d : Refusal) (s : Read) → r ≡ Err d → IsErrAnd s (λ (z : Refusal). z ≡ d) → record { end = s; words = y } ≡ (f then g) text at x
  unfolding ◌then◌
  then_stopped d s h k = onward_stopped r y (f text at x) e (g text) d s h k

module _ (s : ℕ) (g : Reader) (text : List ℕ) (at : ℕ) (x : List ℕ) (r : Read) (e : r ≡ sign_at s text at) where
  pub sign_passed : (q : ℕ) (w : Parsed) → r ≡ Ok q → w ≡ g text q x → w ≡ (sign s then g) text at x
  sign_passed q w h k = then_passed (sign s) g text at x r x (as_reader r (sign_at s text at) x e) q w h k

  pub sign_stopped : (d : Refusal) (z : Read) → r ≡ Err d → IsErrAnd z (λ (v : Refusal). v ≡ d) → record { end = z; words = x } ≡ (sign s then g) text at x
  sign_stopped d z h k = then_stopped (sign s) g text at x r x (as_reader r (sign_at s text at) x e) d z h k

module _ (g : Reader) (text : List ℕ) (at : ℕ) (x : List ℕ) (r : Read) (e : r ≡ assign_at text at) where
  pub assign_passed : (q : ℕ) (w : Parsed) → r ≡ Ok q → w ≡ g text q x → w ≡ (assign then g) text at x
  assign_passed q w h k = then_passed assign g text at x r x (as_reader r (assign_at text at) x e) q w h k

  pub assign_stopped : (d : Refusal) (z : Read) → r ≡ Err d → IsErrAnd z (λ (v : Refusal). v ≡ d) → record { end = z; words = x } ≡ (assign then g) text at x
  assign_stopped d z h k = then_stopped assign g text at x r x (as_reader r (assign_at text at) x e) d z h k

-- a sign last
pub sign_last : (s : ℕ) (text : List ℕ) (at : ℕ) (x : List ℕ) (r : Read) → r ≡ sign_at s text at → record { end = r; words = x } ≡ sign s text at x
sign_last s text at x r e = as_reader r (sign_at s text at) x e

-- THE LENGTH OF THE WORDS
abbrev pub Keeps : Reader → Type 0
Keeps f = (text : List ℕ) (at : ℕ) (x : List ℕ) → length (f text at x).words ≡ length x

pub onward-length : (f : Parsed) (go : ℕ → List ℕ → Parsed) (n : ℕ) → length f.words ≡ n → ((q : ℕ) → length (go q f.words).words ≡ n) → length (onward f go).words ≡ n
unfolding onward if_at
onward-length f go n e k = go_on f.end
  where
    go_on : (r : Read) → length (if_at r (λ q. go q f.words) f).words ≡ n
    go_on (Ok q) = k q
    go_on (Err d) = e

pub keeps_then : (f g : Reader) → Keeps f → Keeps g → Keeps (f then g)
unfolding ◌then◌
keeps_then f g kf kg text at x =
    onward-length (f text at x) (g text) (length x) (kf text at x)
    (λ q. kg text q (f text at x).words ∙ kf text at x)

pick_length : (b : Bool) (x : List ℕ) (u v : Parsed) → length u.words ≡ length x → length v.words ≡ length x → length (if b then u or_else v).words ≡ length x
unfolding if◌then◌or_else◌
pick_length true x u v e h = e
pick_length false x u v e h = h

pub word_length : (form : Form) (x : List ℕ) (u v : Parsed) → length u.words ≡ length x → length v.words ≡ length x → length (if_word form u v).words ≡ length x
unfolding if_word
word_length Word x u v e h = e
word_length (Sign s) x u v e h = h
word_length Assign x u v e h = h
word_length End x u v e h = h
word_length Other x u v e h = h

keep_number-length : (n : Number) (least most place p q : ℕ) (x : List ℕ) → length (keep_number n least most place p q x).words ≡ length x
unfolding keep_number
keep_number-length (Value v) least most place p q x = pick_length (leb least v && leb v most) x _ _ (length-set x place v) refl
keep_number-length TooLarge least most place p q x = refl
keep_number-length NotANumber least most place p q x = refl

keep_operand-length : (o : Operand) (place p q : ℕ) (x : List ℕ) → length (keep_operand o place p q x).words ≡ length x
unfolding keep_operand
keep_operand-length (OfNumber v) place p q x = length-set (set x place 0) (place + operand_number) v ∙ length-set x place 0
keep_operand-length (Field d) place p q x = length-set (set x place a_field) (place + operand_number) d ∙ length-set x place a_field
keep_operand-length OutOfRange place p q x = refl
keep_operand-length NotAnOperand place p q x = refl

keep_mode-length : (m p q : ℕ) (x : List ℕ) → length (keep_mode m p q x).words ≡ length x
unfolding keep_mode
keep_mode-length m p q x = pick_length (eqb m 0) x _ _ refl (length-set x mode_place m)

pub keeps_number : (least most place : ℕ) → Keeps (number least most place)
unfolding number
keeps_number least most place text at x =
    word_length (token_at text at).form x _ _ (keep_number-length (number_of (letters text at)) least most place (place_of text at) (behind text at) x) refl

pub keeps_field : (place : ℕ) → Keeps (field place)
unfolding field
keeps_field place text at x =
    word_length (token_at text at).form x _ _ (keep_number-length (field_of (letters text at)) 0 (fields_named - 1) place (place_of text at) (behind text at) x) refl

pub keeps_operand : (place : ℕ) → Keeps (operand place)
unfolding operand
keeps_operand place text at x =
    word_length (token_at text at).form x _ _ (keep_operand-length (operand_of (letters text at)) place (place_of text at) (behind text at) x) refl

pub keeps_mode : Keeps mode
unfolding mode
keeps_mode text at x =
    word_length (token_at text at).form x _ _ (keep_mode-length (mode_named (letters text at)) (place_of text at) (behind text at) x) refl
