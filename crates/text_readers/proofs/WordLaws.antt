-- The token at a place, by the answers of the calls that take it apart. Assumes nothing.
use mathlib.Core.Path.{◌≡◌, ◌∙◌, refl, sym, ap}
use mathlib.Core.Bool.{Bool, false}
use mathlib.Core.List.{List, []}
use Prim.Native.Nat.{ℕ, ◌-◌, ◌<◌, ◌≤◌}
use native.Mathlib.Omega.{arith}
use lib.Dec.{eqb}
use lib.ListN.{take, drop}
use Rattle.base_words.specs.Pick.{if◌then◌or_else◌}
use Rattle.base_words.specs.Counts.{fields_named}
use Rattle.base_words.specs.Words.{part}
use Rattle.text_lexer.specs.declared.Token.{Token}
use Rattle.text_lexer.specs.declared.Form.TheVariants.{Word, Sign, Assign, End}
use Rattle.text_lexer.specs.Lexer.{is_blank, is_word, token_at, if_word, if_assign, if_end, sign_behind}
use Rattle.base_bytes.specs.Bytes.{past}
use Rattle.text_lexer.proofs.FormLaws.{is_word_lem, is_sign, is_assign, is_end, not_word, not_sign, not_assign, not_end}
use Rattle.text_lexer.proofs.PlaceLaws.{Worded, some_word, no_word, not_worded, worded, sign_hit, sign_miss}
use Rattle.text_numerals.specs.declared.Number.{Number}
use Rattle.text_numerals.specs.declared.Numeral.{Numeral}
use Rattle.text_numerals.specs.declared.Term.{Term}
use Rattle.text_numerals.specs.Numerals.{number_of, is_field_letter, field_from, field_of, as_number, operand_of, word_end, numeral_at, operand_at}
use Rattle.std.specs.declared.result.Result.TheVariants.{Ok}
use Rattle.text_readers.specs.Reading.{Refused, Parsed, passed_to, refused_at, misplaced, place_of, behind, letters, sign_at, assign_at, end_at, keep_number, number, field, keep_operand, operand, mode_named, keep_mode, mode, is_spelled, starts_number, starts_field, starts_sign}

-- what a token gives where a word is asked for
abbrev word_of : {A : Type 0} → List ℕ → (List ℕ → ℕ → ℕ → A) → (ℕ → A) → Token → A
word_of text keep miss t = if_word t.form (keep (part text t.at t.next) t.at t.next) (miss t.at)

module _ (text : List ℕ) (at : ℕ) (t : Token) (e : t ≡ token_at text at) where
  -- a word, whose bytes are l; w is what is given in the end
  module _ {A : Type 0} (keep : List ℕ → ℕ → ℕ → A) (miss : ℕ → A) (w : A) where
    pub word_read : (l : List ℕ) → t.form ≡ Word → l ≡ part text t.at t.next → w ≡ keep l t.at t.next
        → w ≡ if_word (token_at text at).form (keep (letters text at) (place_of text at) (behind text at)) (miss (place_of text at))
    word_read l f h k =
        k
        ∙ ap (λ (z : List ℕ). keep z t.at t.next) h
        ∙ sym (is_word_lem t.form (keep (part text t.at t.next) t.at t.next) (miss t.at) f)
        ∙ ap (word_of text keep miss) e

    pub word_missed : (t.form ≡ Word → ⊥) → w ≡ miss t.at
        → w ≡ if_word (token_at text at).form (keep (letters text at) (place_of text at) (behind text at)) (miss (place_of text at))
    word_missed f k =
        k
        ∙ sym (not_word t.form (keep (part text t.at t.next) t.at t.next) (miss t.at) f)
        ∙ ap (word_of text keep miss) e

  -- the readers of a word, and whether one starts; n is what its bytes say
  module _ (l : List ℕ) (f : t.form ≡ Word) (h : l ≡ part text t.at t.next) where
    pub mode_read : (x : List ℕ) (n : ℕ) (w : Parsed) → n ≡ mode_named l → w ≡ keep_mode n t.at t.next x → w ≡ mode text at x
    unfolding mode
    mode_read x n w g k =
        word_read (λ z p q. keep_mode (mode_named z) p q x) (λ p. refused_at misplaced p x) w l f h
        (k ∙ ap (λ (z : ℕ). keep_mode z t.at t.next x) g)

    pub starts_number_lem : (n : Number) (w : Bool) → n ≡ number_of l → w ≡ is_spelled n → w ≡ starts_number text at
    unfolding starts_number
    starts_number_lem n w g k = word_read (λ z p q. is_spelled (number_of z)) (λ p. false) w l f h (k ∙ ap is_spelled g)

    pub starts_field_lem : (n : Number) (w : Bool) → n ≡ field_of l → w ≡ is_spelled n → w ≡ starts_field text at
    unfolding starts_field
    starts_field_lem n w g k = word_read (λ z p q. is_spelled (field_of z)) (λ p. false) w l f h (k ∙ ap is_spelled g)

  module _ (f : (t.form ≡ Word → ⊥)) where
    pub mode_missed : (x : List ℕ) → refused_at misplaced t.at x ≡ mode text at x
    unfolding mode
    mode_missed x = word_missed (λ z p q. keep_mode (mode_named z) p q x) (λ p. refused_at misplaced p x) (refused_at misplaced t.at x) f refl

    pub starts_no_number : false ≡ starts_number text at
    unfolding starts_number
    starts_no_number = word_missed (λ z p q. is_spelled (number_of z)) (λ p. false) false f refl

    pub starts_no_field : false ≡ starts_field text at
    unfolding starts_field
    starts_no_field = word_missed (λ z p q. is_spelled (field_of z)) (λ p. false) false f refl

  -- a word whose readings are chosen by tests
  pub word_known : {A : Type 0} (a b w : A) → t.form ≡ Word → w ≡ a → w ≡ if_word (token_at text at).form a b
  word_known a b w f k = k ∙ sym (is_word_lem t.form a b f) ∙ ap (λ (z : Token). if_word z.form a b) e

  pub word_unknown : {A : Type 0} (a b w : A) → (t.form ≡ Word → ⊥) → w ≡ b → w ≡ if_word (token_at text at).form a b
  word_unknown a b w f k = k ∙ sym (not_word t.form a b f) ∙ ap (λ (z : Token). if_word z.form a b) e

  pub place_known : (n : ℕ) (x : List ℕ) → refused_at n t.at x ≡ refused_at n (place_of text at) x
  place_known n x = ap (λ (z : Token). refused_at n z.at x) e

  pub behind_known : (x : List ℕ) → passed_to t.next x ≡ passed_to (behind text at) x
  behind_known x = ap (λ (z : Token). passed_to z.next x) e

  -- whether a sign starts
  module _ (s : ℕ) where
    pub starts_read : (b : ℕ) → t.form ≡ Sign b → eqb b s ≡ starts_sign s text at
    unfolding starts_sign
    starts_read b f = rw (← e) (sym (is_sign t.form (λ z. eqb z s) false b f))

    pub starts_missed : ((v : ℕ) → t.form ≡ Sign v → ⊥) → false ≡ starts_sign s text at
    unfolding starts_sign
    starts_missed f = rw (← e) (sym (not_sign t.form (λ z. eqb z s) false f))

  -- `:=` and the end
  by_assign : if_assign t.form (Ok t.next) (Refused misplaced t.at) ≡ assign_at text at
  unfolding assign_at
  by_assign = ap (λ (z : Token). if_assign z.form (Ok z.next) (Refused misplaced z.at)) e

  pub assign_read : t.form ≡ Assign → Ok t.next ≡ assign_at text at
  assign_read f = sym (is_assign t.form (Ok t.next) (Refused misplaced t.at) f) ∙ by_assign

  pub assign_missed : (t.form ≡ Assign → ⊥) → Refused misplaced t.at ≡ assign_at text at
  assign_missed f = sym (not_assign t.form (Ok t.next) (Refused misplaced t.at) f) ∙ by_assign

  by_end : if_end t.form (Ok t.next) (Refused misplaced t.at) ≡ end_at text at
  unfolding end_at
  by_end = ap (λ (z : Token). if_end z.form (Ok z.next) (Refused misplaced z.at)) e

  pub end_read : t.form ≡ End → Ok t.next ≡ end_at text at
  end_read f = sym (is_end t.form (Ok t.next) (Refused misplaced t.at) f) ∙ by_end

  pub end_missed : (t.form ≡ End → ⊥) → Refused misplaced t.at ≡ end_at text at
  end_missed f = sym (not_end t.form (Ok t.next) (Refused misplaced t.at) f) ∙ by_end

-- A TOKEN WITH NO TOKEN MADE: p is where the blanks end, q where the letters behind them end, or the place behind a sign
module _ (text : List ℕ) (at p q : ℕ) (e : p ≡ past is_blank (drop at text) at) where
  module _ (g : q ≡ past is_word (drop p text) p) (l : List ℕ) (h : l ≡ part text p q) where
    pub word_direct : {A : Type 0} (keep : List ℕ → ℕ → ℕ → A) (miss : ℕ → A) → ((z : ℕ) → keep [] z z ≡ miss z)
        → keep l p q ≡ if_word (token_at text at).form (keep (letters text at) (place_of text at) (behind text at)) (miss (place_of text at))
    word_direct keep miss none = ap (λ (z : List ℕ). keep z p q) h ∙ go (worded text at p q e g)
      where
        go : Worded text at p q → keep (part text p q) p q ≡ word_of text keep miss (token_at text at)
        go (some_word k) = sym (is_word_lem Word (keep (part text p q) p q) (miss p) refl) ∙ ap (word_of text keep miss) (sym k)
        go (no_word f n k o r) =
            let none_left : q - p ≡ 0 = omega (arith, r) in
            let nothing : part text p q ≡ [] = ap (λ n. take n (drop p text)) none_left in
            ap (λ (z : List ℕ). keep z p q) nothing ∙ ap (keep [] p) r ∙ none p
            ∙ sym (not_worded f (keep (part text p n) p n) (miss p) o) ∙ ap (word_of text keep miss) (sym k)

    pub field_read : (place : ℕ) (x : List ℕ) (n : Number) (w : Parsed) → n ≡ field_of l → w ≡ keep_number n 0 (fields_named - 1) place p q x → w ≡ field place text at x
    unfolding field field_of field_from keep_number if◌then◌or_else◌
    field_read place x n w d k =
        k ∙ ap (λ (z : Number). keep_number z 0 (fields_named - 1) place p q x) d
        ∙ word_direct (λ z a b. keep_number (field_of z) 0 (fields_named - 1) place a b x) (λ a. refused_at misplaced a x) (λ z. refl)

  module _ (s : ℕ) (g : q ≡ sign_behind s (drop p text) p) where
    pub sign_read : p < q → Ok q ≡ sign_at s text at
    unfolding sign_at
    sign_read l = sign_hit s Ok (Refused misplaced) text at p q e g l

    pub sign_missed : q ≤ p → Refused misplaced p ≡ sign_at s text at
    unfolding sign_at
    sign_missed l = sign_miss s Ok (Refused misplaced) text at p q e g l

-- the same for words that were taken digit by digit
module _ (text : List ℕ) (at p : ℕ) (e : p ≡ past is_blank (drop at text) at) where
  abbrev word_here : {A : Type 0} (keep : List ℕ → ℕ → ℕ → A) (miss : ℕ → A) → ((z : ℕ) → keep [] z z ≡ miss z)
      → keep (part text p (word_end text p)) p (word_end text p) ≡ word_of text keep miss (token_at text at)
  word_here = word_direct text at p (word_end text p) e refl (part text p (word_end text p)) refl

  pub number_read : (n : Numeral) → n ≡ numeral_at text p → (least most place : ℕ) (x : List ℕ) (w : Parsed) → w ≡ keep_number n.number least most place p n.next x → w ≡ number least most place text at x
  unfolding number number_of keep_number numeral_at if◌then◌or_else◌
  number_read n g least most place x w k =
      k ∙ ap (λ (z : Numeral). keep_number z.number least most place p z.next x) g
      ∙ word_here (λ z a b. keep_number (number_of z) least most place a b x) (λ a. refused_at misplaced a x) (λ z. refl)

  pub operand_read : (n : Term) → n ≡ operand_at text p → (place : ℕ) (x : List ℕ) (w : Parsed) → w ≡ keep_operand n.operand place p n.next x → w ≡ operand place text at x
  unfolding operand operand_of is_field_letter number_of as_number keep_operand operand_at if◌then◌or_else◌
  operand_read n g place x w k =
      k ∙ ap (λ (z : Term). keep_operand z.operand place p z.next x) g
      ∙ word_here (λ z a b. keep_operand (operand_of z) place a b x) (λ a. refused_at misplaced a x) (λ z. refl)
