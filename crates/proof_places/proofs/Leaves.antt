-- READERS OF ONE TOKEN by a grammar: a sign, `:=`, a number, a field, an operand, a mode. Assumes nothing.
use Prim.Native.Char.{code}
use Prim.Native.Nat.{ℕ, ◌-◌, ◌<◌}
use mathlib.Core.Path.{◌≡◌, ◌∙◌, refl, sym, ap}
use mathlib.Core.Bool.{Bool, true, false, not, ◌&&◌, ◌||◌}
use mathlib.Core.List.{List, [], ◌∷◌}
use native.Mathlib.Omega.{arith}
use lib.Dec.{eqb, leb}
use lib.ListN.{length, drop, set}
use borrow.Author.Tests.{eq-eqb}
use Rattle.std.proofs.lemmas.Bool.{or_left, or_right}
use Rattle.base_words.specs.Counts.{fields_named}
use Rattle.base_words.specs.Each.{each}
use Rattle.base_words.specs.Pick.{if◌then◌or_else◌}
use Rattle.base_words.specs.Text.{bytes}
use Rattle.base_words.specs.Words.{at}
use Rattle.base_kinds.specs.Moves.{a}
use Rattle.text_lexer.specs.declared.Form.{Form}
use Rattle.text_lexer.specs.declared.Form.TheVariants.{Word, Sign, Assign, End, Other}
use Rattle.text_lexer.specs.declared.Token.{Token}
use Rattle.text_lexer.specs.Lexer.{is_word, token_at, if_word, if_sign, if_assign}
use Rattle.base_bytes.specs.Bytes.{between, is_digit, is_letter}
use Rattle.text_numerals.specs.declared.Number.{Number}
use Rattle.text_numerals.specs.declared.Number.TheVariants.{Value, TooLarge, NotANumber}
use Rattle.text_numerals.specs.declared.Operand.{Operand}
use Rattle.text_numerals.specs.declared.Operand.TheVariants.{Number as OfNumber, Field, OutOfRange, NotAnOperand}
use Rattle.text_numerals.specs.Numerals.{value_from, leading_zero, number_of, is_field_letter, field_behind, field_from, field_of, as_number, as_field, operand_of}
use Rattle.base_bytes.specs.Bytes.{same_bytes}
use Rattle.std.specs.declared.result.Result.TheVariants.{Ok}
use Rattle.text_readers.specs.Reading.{Read, Refused, Parsed, Reader, misplaced, excessive, passed_to, refused_at, place_of, behind, letters, sign_at, assign_at, sign, assign, keep_number, number, field, keep_operand, operand, mode_named, keep_mode, mode, is_spelled}
use Rattle.proof_places.proofs.Tests.{choose}
use Rattle.proof_places.proofs.Pieces.{Lexeme, lexeme, is_end, Piece, met, becomes, worded}
use Rattle.proof_places.proofs.Grammar.{Turn, takes, passes, refuses, takes_passes, takes_refuses, passes_refuses, refused_alike, sample, one_long, one_word, two_long, field_word}
use Rattle.proof_places.proofs.Runs.{Judged, on, off, Ranging, Once, Signal, token_once, token_signal}

-- the sign s
abbrev pub showing : ℕ → Form → Bool
showing s Word = false
showing s (Sign b) = eqb b s
showing s Assign = false
showing s End = false
showing s Other = false

pub showing_sign : (s : ℕ) (m : Form) → m ≡ Sign s → showing s m ≡ true
showing_sign s m e = ap (showing s) e ∙ eq-eqb s s refl

-- two and three are two numbers
pub two_three : {A : Type 0} → refuses misplaced ≡ refuses excessive → A
two_three e = let z : ◌≡◌ {A = ℕ} 2 3 = refused_alike (refuses misplaced) misplaced excessive refl e in absurd (omega (arith, z))

abbrev or_misplaced : Bool → Turn
or_misplaced c = choose c takes (refuses misplaced)

else_firm : (c : Bool) → or_misplaced c ≡ passes → ⊥
else_firm true e = takes_passes takes refl e
else_firm false e = passes_refuses passes misplaced refl (sym e)

else_calm : (c : Bool) → or_misplaced c ≡ refuses excessive → ⊥
else_calm true e = takes_refuses takes excessive refl e
else_calm false e = two_three e

-- whether the sign s stands there
pub data Sighted (s : ℕ) (k : Token) (r : Read) : Type 0 where
  seen : showing s k.form ≡ true → is_end k.form ≡ false → r ≡ Ok k.next → Sighted s k r
  unseen : showing s k.form ≡ false → r ≡ Refused misplaced k.at → Sighted s k r

module _ (s : ℕ) (k : Token) where
  sign_pick : (c : Bool) → showing s k.form ≡ c → is_end k.form ≡ false → Sighted s k (if c then Ok k.next or_else Refused misplaced k.at)
  unfolding if◌then◌or_else◌
  sign_pick true e h = seen e h refl
  sign_pick false e h = unseen e refl

  sign_form : (m : Form) → k.form ≡ m → Sighted s k (if_sign m (λ b. if eqb b s then Ok k.next or_else Refused misplaced k.at) (Refused misplaced k.at))
  unfolding if_sign
  sign_form Word e = unseen (ap (showing s) e) refl
  sign_form (Sign b) e = sign_pick (eqb b s) (ap (showing s) e) (ap is_end e)
  sign_form Assign e = unseen (ap (showing s) e) refl
  sign_form End e = unseen (ap (showing s) e) refl
  sign_form Other e = unseen (ap (showing s) e) refl

pub sighted : (s : ℕ) (t : List ℕ) (from : ℕ) → Sighted s (token_at t from) (sign_at s t from)
unfolding sign_at
sighted s t from = sign_form s (token_at t from) (token_at t from).form refl

sign_judged : (s : ℕ) (k : Token) (r : Read) → Sighted s k r → Judged (or_misplaced (showing s k.form)) k r
sign_judged s k r (seen c h z) = on (ap or_misplaced c) h z
sign_judged s k r (unseen c z) = off misplaced (ap or_misplaced c) z

pub sign_signal : (s : ℕ) (b : Piece) → b.form ≡ Sign s → Signal s (sign s)
sign_signal s b e =
    token_signal (sign s) (λ k. or_misplaced (showing s k.form)) (λ t from x. sign_judged s (token_at t from) (sign_at s t from) (sighted s t from)) s
    (λ k. else_firm (showing s k.form)) (λ k. else_calm (showing s k.form))
    b e (ap or_misplaced (showing_sign s b.form e))

-- `:=`
abbrev assigns : Form → Bool
assigns Word = false
assigns (Sign b) = false
assigns Assign = true
assigns End = false
assigns Other = false

assign_form : (k : Token) (m : Form) → k.form ≡ m → Judged (or_misplaced (assigns m)) k (if_assign m (Ok k.next) (Refused misplaced k.at))
unfolding if_assign
assign_form k Word e = off misplaced refl refl
assign_form k (Sign b) e = off misplaced refl refl
assign_form k Assign e = on refl (ap is_end e) refl
assign_form k End e = off misplaced refl refl
assign_form k Other e = off misplaced refl refl

pub assign_once : Once assign
unfolding assign_at
assign_once =
    token_once assign (λ k. or_misplaced (assigns k.form)) (λ t from x. assign_form (token_at t from) (token_at t from).form refl)
    (λ k. else_firm (assigns k.form)) becomes refl (λ k z. absurd (else_calm (assigns k.form) z))

-- A WORD, judged by its letters
pub data Verdict (v : Turn) (p q : ℕ) (r : Read) : Type 0 where
  good : v ≡ takes → r ≡ Ok q → Verdict v p q r
  bad : (n : ℕ) → v ≡ refuses n → r ≡ Refused n p → Verdict v p q r

-- the letters of a number or field
abbrev pub numeric : List ℕ → Bool
numeric w = is_spelled (number_of w) || is_spelled (field_of w)

pub record Bettered (judge : List ℕ → Turn) (w : List ℕ) : Type 0 where
  pub spelled : numeric w ≡ true
  pub better : Bool
  pub taken : judge (sample better).spelled ≡ takes

module _ (f : Reader) (judge : List ℕ → Turn) (kept : List ℕ → ℕ → ℕ → List ℕ → Parsed)
    (e : (t : List ℕ) (from : ℕ) (x : List ℕ) → f t from x ≡ if_word (token_at t from).form (kept (letters t from) (place_of t from) (behind t from) x) (refused_at misplaced (place_of t from) x))
    (verdict : (w : List ℕ) (p q : ℕ) (x : List ℕ) → Verdict (judge w) p q (kept w p q x).end)
    (firm : (w : List ℕ) → judge w ≡ passes → ⊥) where
  of_word : Lexeme → Turn
  of_word k = if_word k.form (judge k.letters) (refuses misplaced)

  word_judged : (k : Token) (w x : List ℕ) (m : Form) → k.form ≡ m → Judged (if_word m (judge w) (refuses misplaced)) k (if_word m (kept w k.at k.next x) (refused_at misplaced k.at x)).end
  unfolding if_word
  word_judged k w x Word h = go (verdict w k.at k.next x)
    where
      go : Verdict (judge w) k.at k.next (kept w k.at k.next x).end → Judged (judge w) k (kept w k.at k.next x).end
      go (good v z) = on v (ap is_end h) z
      go (bad n v z) = off n v z
  word_judged k w x (Sign b) h = off misplaced refl refl
  word_judged k w x Assign h = off misplaced refl refl
  word_judged k w x End h = off misplaced refl refl
  word_judged k w x Other h = off misplaced refl refl

  judged : (t : List ℕ) (from : ℕ) (x : List ℕ) → Judged (of_word (lexeme t from)) (token_at t from) (f t from x).end
  unfolding of_word
  judged t from x =
      rw (e t from x) (word_judged (token_at t from) (letters t from) x (token_at t from).form refl)

  word_firm : (m : Form) (w : List ℕ) → if_word m (judge w) (refuses misplaced) ≡ passes → ⊥
  unfolding if_word
  word_firm Word w z = firm w z
  word_firm (Sign b) w z = passes_refuses passes misplaced refl (sym z)
  word_firm Assign w z = passes_refuses passes misplaced refl (sym z)
  word_firm End w z = passes_refuses passes misplaced refl (sym z)
  word_firm Other w z = passes_refuses passes misplaced refl (sym z)

  word_ranging : ((w : List ℕ) → judge w ≡ refuses excessive → Bettered judge w) → (m : Form) (w : List ℕ) → if_word m (judge w) (refuses misplaced) ≡ refuses excessive → Ranging of_word (record { form = m; letters = w })
  unfolding if_word of_word
  word_ranging bettered Word w z = go (bettered w z)
    where
      sampled : (b : Bool) → judge (sample b).spelled ≡ takes → of_word (met (sample b)) ≡ takes
      sampled true h = h
      sampled false h = h

      go : Bettered judge w → Ranging of_word (record { form = Word; letters = w })
      go b = record { spelled = b.spelled; better = b.better; taken = sampled b.better b.taken }
  word_ranging bettered (Sign b) w z = two_three z
  word_ranging bettered Assign w z = two_three z
  word_ranging bettered End w z = two_three z
  word_ranging bettered Other w z = two_three z

  pub word_once : (w : List ℕ) (l : 0 < length w) (h : each is_word w ≡ true) → judge w ≡ takes → ((w : List ℕ) → judge w ≡ refuses excessive → Bettered judge w) → Once f
  unfolding of_word if_word
  word_once w l h fit bettered =
      token_once f of_word judged (λ k. word_firm k.form k.letters) (worded w l h) fit (λ k z. word_ranging bettered k.form k.letters z)

-- a number from least to most
abbrev number_turn : ℕ → ℕ → Number → Turn
number_turn least most (Value v) = choose (leb least v && leb v most) takes (refuses excessive)
number_turn least most TooLarge = refuses excessive
number_turn least most NotANumber = refuses misplaced

number_verdict : (least most place : ℕ) (v : Number) (p q : ℕ) (x : List ℕ) → Verdict (number_turn least most v) p q (keep_number v least most place p q x).end
unfolding keep_number if◌then◌or_else◌
number_verdict least most place (Value v) p q x = go (leb least v && leb v most)
  where
    go : (c : Bool) → Verdict (choose c takes (refuses excessive)) p q (if c then passed_to q (set x place v) or_else refused_at excessive p x).end
    go true = good refl refl
    go false = bad excessive refl refl
number_verdict least most place TooLarge p q x = bad excessive refl refl
number_verdict least most place NotANumber p q x = bad misplaced refl refl

number_firm : (least most : ℕ) (v : Number) → number_turn least most v ≡ passes → ⊥
number_firm least most (Value v) z = go (leb least v && leb v most) z
  where
    go : (c : Bool) → choose c takes (refuses excessive) ≡ passes → ⊥
    go true z = takes_passes takes refl z
    go false z = passes_refuses passes excessive refl (sym z)
number_firm least most TooLarge z = passes_refuses passes excessive refl (sym z)
number_firm least most NotANumber z = passes_refuses passes misplaced refl (sym z)

number_spelled : (least most : ℕ) (v : Number) → number_turn least most v ≡ refuses excessive → is_spelled v ≡ true
unfolding is_spelled
number_spelled least most (Value v) z = refl
number_spelled least most TooLarge z = refl
number_spelled least most NotANumber z = two_three z

one_value : number_of (49 ∷ []) ≡ Value 1
unfolding number_of leading_zero value_from is_digit between if◌then◌or_else◌
one_value = refl

field_value : field_of (100 ∷ 48 ∷ []) ≡ Value 0
unfolding field_of field_from field_behind number_of leading_zero value_from is_digit between if◌then◌or_else◌
field_value = refl

pub number_once : (least most place : ℕ) → leb least 1 && leb 1 most ≡ true → Once (number least most place)
unfolding number
number_once least most place h =
    let fits : number_turn least most (number_of (49 ∷ [])) ≡ takes = ap (number_turn least most) one_value ∙ ap (λ (c : Bool). choose c takes (refuses excessive)) h in
    word_once (number least most place) (λ w. number_turn least most (number_of w)) (λ w p q x. keep_number (number_of w) least most place p q x) (λ t from x. refl)
    (λ w p q x. number_verdict least most place (number_of w) p q x) (λ w. number_firm least most (number_of w))
    (49 ∷ []) one_long one_word fits
    (λ w z. record { spelled = or_left (is_spelled (number_of w)) (is_spelled (field_of w)) (number_spelled least most (number_of w) z); better = true; taken = fits })

pub field_once : (place : ℕ) → Once (field place)
unfolding field
field_once place =
    let fits : number_turn 0 (fields_named - 1) (field_of (100 ∷ 48 ∷ [])) ≡ takes = ap (number_turn 0 (fields_named - 1)) field_value in
    word_once (field place) (λ w. number_turn 0 (fields_named - 1) (field_of w)) (λ w p q x. keep_number (field_of w) 0 (fields_named - 1) place p q x) (λ t from x. refl)
    (λ w p q x. number_verdict 0 (fields_named - 1) place (field_of w) p q x) (λ w. number_firm 0 (fields_named - 1) (field_of w))
    (100 ∷ 48 ∷ []) two_long field_word fits
    (λ w z. record { spelled = or_right (is_spelled (number_of w)) (is_spelled (field_of w)) (number_spelled 0 (fields_named - 1) (field_of w) z); better = false; taken = fits })

-- an operand
abbrev operand_turn : Operand → Turn
operand_turn (OfNumber v) = takes
operand_turn (Field d) = takes
operand_turn OutOfRange = refuses excessive
operand_turn NotAnOperand = refuses misplaced

operand_verdict : (place : ℕ) (v : Operand) (p q : ℕ) (x : List ℕ) → Verdict (operand_turn v) p q (keep_operand v place p q x).end
unfolding keep_operand
operand_verdict place (OfNumber v) p q x = good refl refl
operand_verdict place (Field d) p q x = good refl refl
operand_verdict place OutOfRange p q x = bad excessive refl refl
operand_verdict place NotAnOperand p q x = bad misplaced refl refl

operand_firm : (v : Operand) → operand_turn v ≡ passes → ⊥
operand_firm (OfNumber v) z = takes_passes takes refl z
operand_firm (Field d) z = takes_passes takes refl z
operand_firm OutOfRange z = passes_refuses passes excessive refl (sym z)
operand_firm NotAnOperand z = passes_refuses passes misplaced refl (sym z)

spelled_number : (v : Number) → operand_turn (as_number v) ≡ refuses excessive → is_spelled v ≡ true
unfolding as_number is_spelled
spelled_number (Value v) z = refl
spelled_number TooLarge z = refl
spelled_number NotANumber z = two_three z

spelled_field : (v : Number) → operand_turn (as_field v) ≡ refuses excessive → is_spelled v ≡ true
unfolding as_field is_spelled
spelled_field (Value v) z = refl
spelled_field TooLarge z = refl
spelled_field NotANumber z = two_three z

operand_spelled : (w : List ℕ) → operand_turn (operand_of w) ≡ refuses excessive → numeric w ≡ true
unfolding operand_of if◌then◌or_else◌
operand_spelled w z = go (is_field_letter (at w 0)) z
  where
    go : (c : Bool) → operand_turn (if c then as_field (field_of w) or_else as_number (number_of w)) ≡ refuses excessive → is_spelled (number_of w) || is_spelled (field_of w) ≡ true
    go true h = or_right (is_spelled (number_of w)) _ (spelled_field (field_of w) h)
    go false h = or_left (is_spelled (number_of w)) _ (spelled_number (number_of w) h)

one_operand : operand_of (49 ∷ []) ≡ OfNumber 1
unfolding operand_of is_field_letter as_number if◌then◌or_else◌
one_operand = ap as_number one_value

pub operand_once : (place : ℕ) → Once (operand place)
unfolding operand
operand_once place =
    let fits : operand_turn (operand_of (49 ∷ [])) ≡ takes = ap operand_turn one_operand in
    word_once (operand place) (λ w. operand_turn (operand_of w)) (λ w p q x. keep_operand (operand_of w) place p q x) (λ t from x. refl)
    (λ w p q x. operand_verdict place (operand_of w) p q x) (λ w. operand_firm (operand_of w))
    (49 ∷ []) one_long one_word fits
    (λ w z. record { spelled = operand_spelled w z; better = true; taken = fits })

-- a mode
mode_verdict : (c : Bool) (p q : ℕ) (x y : List ℕ) → Verdict (or_misplaced (not c)) p q (if c then refused_at misplaced p x or_else passed_to q y).end
unfolding if◌then◌or_else◌
mode_verdict true p q x y = bad misplaced refl refl
mode_verdict false p q x y = good refl refl

mode_word : each is_word (bytes "a") ≡ true
unfolding each is_word is_letter is_digit between
mode_word = refl

mode_named_lem : mode_named (bytes "a") ≡ a
unfolding mode_named same_bytes if◌then◌or_else◌
mode_named_lem = refl

pub mode_once : Once mode
unfolding mode keep_mode
mode_once =
    word_once mode (λ w. or_misplaced (not (eqb (mode_named w) 0))) (λ w p q x. keep_mode (mode_named w) p q x) (λ t from x. refl)
    (λ w p q x. mode_verdict (eqb (mode_named w) 0) p q x _) (λ w. else_firm (not (eqb (mode_named w) 0)))
    (bytes "a") (omega arith) mode_word (ap (λ (m : ℕ). or_misplaced (not (eqb m 0))) mode_named_lem)
    (λ w z. absurd (else_calm (not (eqb (mode_named w) 0)) z))
