-- What is left of a text from a place on decides the tokens from there on; and counting further than the end finds no more. Assumes nothing.
use Prim.Native.Nat.{ℕ, zero, suc, ◌+◌, ◌-◌}
use mathlib.Core.Path.{◌≡◌, ◌∙◌, refl, sym, ap}
use mathlib.Core.Bool.{Bool, true, false}
use mathlib.Core.List.{List, [], ◌∷◌}
use native.Mathlib.Omega.{arith}
use lib.ListN.{length, take, drop}
use lib.Seq.{drop-drop}
use Rattle.base_words.specs.Pick.{if◌then◌or_else◌}
use Rattle.base_words.specs.Words.{part}
use Rattle.text_lexer.specs.declared.Form.{Form}
use Rattle.text_lexer.specs.declared.Form.TheVariants.{End}
use Rattle.text_lexer.specs.declared.Token.{Token}
use Rattle.text_lexer.specs.Lexer.{is_blank, is_word, placed, token_of, token_here, token_at, if_end}
use Rattle.base_bytes.specs.Bytes.{past}
use Rattle.base_bytes.proofs.PieceLaws.{by_order}
use Rattle.text_lexer.proofs.TokenLaws.{Begun, word, sign, assign, colon, other, begun, of_word, of_sign, of_assign, of_colon, of_other, end_beyond}
use Rattle.text_readers.specs.Reading.{place_of, behind, letters}
use Rattle.proof_places.specs.Sequence.{Lexeme, lexeme, tokens_from}
use Rattle.proof_places.proofs.Tokens.{Enough, at_end, behind_enough}

-- the same token from another place on
past_shift : (class : ℕ → Bool) (s : List ℕ) (p : ℕ) → past class s p ≡ p + past class s 0
unfolding past if◌then◌or_else◌
past_shift class [] p = omega arith
past_shift class (b ∷ s) p = go (class b) (past_shift class s (p + 1)) (past_shift class s (0 + 1))
  where
    go : (c : Bool) → past class s (p + 1) ≡ p + 1 + past class s 0 → past class s (0 + 1) ≡ 0 + 1 + past class s 0 → (if c then past class s (p + 1) or_else p) ≡ p + (if c then past class s (0 + 1) or_else 0)
    go true e f = omega (arith, e, f)
    go false e f = omega arith

abbrev moved : ℕ → Token → Token
moved p k = placed k.form p (p + k.next)

of_shift : (b : ℕ) (s : List ℕ) (p : ℕ) → token_of b s p ≡ moved p (token_of b s 0)
of_shift b s p = go (begun b s p)
  where
    by : (m : Form) (q n : ℕ) → token_of b s p ≡ placed m p q → token_of b s 0 ≡ placed m 0 n → q ≡ p + n → token_of b s p ≡ moved p (token_of b s 0)
    by m q n e f g = e ∙ ap (placed m p) g ∙ sym (ap (moved p) f)

    go : Begun b s p → token_of b s p ≡ moved p (token_of b s 0)
    go (word h e) = by _ _ _ e (of_word b s 0 h) (let z : past is_word s (p + 1) ≡ p + past is_word s (0 + 1) = omega (arith, past_shift is_word s (p + 1), past_shift is_word s (0 + 1)) in z)
    go (sign h e) = by _ _ _ e (of_sign b s 0 h) (let z : p + 1 ≡ p + (0 + 1) = omega arith in z)
    go (assign h n e) = by _ _ _ e (of_assign b s 0 h n) (let z : p + 2 ≡ p + (0 + 2) = omega arith in z)
    go (colon h n e) = by _ _ _ e (of_colon b s 0 h n) (let z : p + 1 ≡ p + (0 + 1) = omega arith in z)
    go (other h g n e) = by _ _ _ e (of_other b s 0 h g n) (let z : p + 1 ≡ p + (0 + 1) = omega arith in z)

here_shift : (s : List ℕ) (p : ℕ) → token_here s p ≡ moved p (token_here s 0)
unfolding token_here
here_shift [] p = ap (placed End p) (let z : p ≡ p + 0 = omega arith in z)
here_shift (b ∷ s) p = of_shift b s p

-- how many blanks stand first, and the token behind them
abbrev blanks_in : List ℕ → ℕ
blanks_in s = past is_blank s 0

abbrev first_in : List ℕ → Token
first_in s = token_here (drop (blanks_in s) s) 0

abbrev lexeme_in : List ℕ → Lexeme
lexeme_in s = record { form = (first_in s).form; letters = take (first_in s).next (drop (blanks_in s) s) }

abbrev left_in : List ℕ → List ℕ
left_in s = drop (blanks_in s + (first_in s).next) s

module _ (t : List ℕ) (a : ℕ) where
  start : ℕ
  start = a + blanks_in (drop a t)

  by_left : token_at t a ≡ moved start (first_in (drop a t))
  unfolding token_at start
  by_left =
      ap (λ (p : ℕ). token_here (drop p t) p) (past_shift is_blank (drop a t) a)
      ∙ ap (λ (s : List ℕ). token_here s start) (sym (drop-drop (blanks_in (drop a t)) a t))
      ∙ here_shift (drop (blanks_in (drop a t)) (drop a t)) start

  lexeme_left : lexeme t a ≡ lexeme_in (drop a t)
  unfolding start
  lexeme_left =
      let n : ℕ = (first_in (drop a t)).next in
      ap (λ (k : Token). record { form = k.form; letters = part t k.at k.next }) by_left
      ∙ ap (λ (k : ℕ). record { form = (first_in (drop a t)).form; letters = take k (drop start t) }) (let z : start + n - start ≡ n = omega arith in z)
      ∙ ap (λ (s : List ℕ). record { form = (first_in (drop a t)).form; letters = take n s }) (sym (drop-drop (blanks_in (drop a t)) a t))

  left_left : drop (behind t a) t ≡ left_in (drop a t)
  unfolding start
  left_left =
      let n : ℕ = (first_in (drop a t)).next in
      ap (λ (k : Token). drop k.next t) by_left
      ∙ ap (λ (k : ℕ). drop k t) (let z : start + n ≡ a + (blanks_in (drop a t) + n) = omega arith in z)
      ∙ sym (drop-drop (blanks_in (drop a t) + n) a t)

-- the first token the same, and those behind it
pub tokens_on : (n m : ℕ) (t u : List ℕ) (a b : ℕ) → lexeme t a ≡ lexeme u b → tokens_from n t (behind t a) ≡ tokens_from m u (behind u b) → tokens_from (suc n) t a ≡ tokens_from (suc m) u b
unfolding tokens_from
tokens_on n m t u a b e r = λ i. if_end (e i).form [] (e i ∷ r i)

pub tokens_left : (n : ℕ) (t u : List ℕ) (a b : ℕ) → drop a t ≡ drop b u → tokens_from n t a ≡ tokens_from n u b
unfolding tokens_from
tokens_left zero t u a b e = refl
tokens_left (suc n) t u a b e =
    tokens_on n n t u a b (lexeme_left t a ∙ ap lexeme_in e ∙ sym (lexeme_left u b))
    (tokens_left n t u (behind t a) (behind u b) (left_left t a ∙ ap left_in e ∙ sym (left_left u b)))

pub tokens_by : (n : ℕ) (t : List ℕ) (a b : ℕ) → token_at t a ≡ token_at t b → tokens_from n t a ≡ tokens_from n t b
unfolding tokens_from
tokens_by zero t a b e = refl
tokens_by (suc n) t a b e = ap (λ (k : Token). if_end k.form [] (record { form = k.form; letters = part t k.at k.next } ∷ tokens_from n t k.next)) e

-- how many may be counted makes no difference where they are enough
none_left : (n : ℕ) (t : List ℕ) (a : ℕ) → (token_at t a).form ≡ End → tokens_from n t a ≡ []
unfolding tokens_from if_end
none_left zero t a e = refl
none_left (suc n) t a e = ap (λ (m : Form). if_end m [] (lexeme t a ∷ tokens_from n t (behind t a))) e

both_none : (n m : ℕ) (t : List ℕ) (a : ℕ) → (token_at t a).form ≡ End → tokens_from n t a ≡ tokens_from m t a
both_none n m t a e = none_left n t a e ∙ sym (none_left m t a e)

beyond : (t : List ℕ) (a : ℕ) → Enough 0 t a → (token_at t a).form ≡ End
beyond t a enough = ap (λ (k : Token). k.form) (end_beyond t a (omega (arith, enough.left)))

pub tokens_enough : (n m : ℕ) (t : List ℕ) (a : ℕ) → Enough n t a → Enough m t a → tokens_from n t a ≡ tokens_from m t a
tokens_enough zero m t a g h = both_none zero m t a (beyond t a g)
tokens_enough (suc n) zero t a g h = both_none (suc n) zero t a (beyond t a h)
tokens_enough (suc n) (suc m) t a g h =
    by_order (length t) (place_of t a)
    (λ l. both_none (suc n) (suc m) t a (at_end t a l))
    (λ l. tokens_on n m t t a a refl (tokens_enough n m t (behind t a) (behind_enough n t a g l) (behind_enough m t a h l)))
