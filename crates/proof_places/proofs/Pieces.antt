-- WHAT A READER SEES OF A TOKEN, pieces that are written with a blank behind each, and the tokens of a text that was cut at a place and goes on
-- with a blank there. Assumes nothing.
use Prim.Native.Nat.{ℕ, ◌+◌, ◌<◌, ◌≤◌}
use mathlib.Core.Path.{◌≡◌, ◌∙◌, refl, sym, ap}
use mathlib.Core.Bool.{Bool, true, false, false≢true}
use mathlib.Core.List.{List, [], ◌∷◌, ◌++◌}
use native.Mathlib.Nat.{add-zero}
use native.Mathlib.Omega.{arith}
use lib.ListN.{length, take, drop}
use lib.Seq.{get_or-drop, length-take-le, take-append_seam, drop-append_seam}
use Rattle.base_words.specs.Each.{each}
use Rattle.base_words.specs.Pick.{if◌then◌or_else◌}
use Rattle.base_words.specs.Words.{at, part}
use Rattle.text_lexer.specs.declared.Form.{Form}
use Rattle.text_lexer.specs.declared.Form.TheVariants.{Word, Sign, Assign, End, Other}
use Rattle.text_lexer.specs.declared.Token.{Token}
use Rattle.text_lexer.specs.Lexer.{is_blank, is_sign, is_word, placed, token_here, token_at}
use Rattle.base_bytes.specs.Bytes.{among, between, is_digit, is_letter, past}
use Rattle.base_bytes.proofs.PieceLaws.{by_order}
use Rattle.text_lexer.proofs.TokenLaws.{sign_at_lem, colon_at, assign_at_lem, word_at, bytes_at, left_at, token_place, token_from, token_order}
use Rattle.text_lexer.proofs.LocalLaws.{past_class, past_to, same_byte, same_long, token_same, token_edge}
use Rattle.text_readers.specs.Reading.{place_of, behind, letters}
use Rattle.proof_places.proofs.Same.{part_same}
use Rattle.proof_places.specs.Continued.{resumed}

-- a token without its place
pub record Lexeme : Type 0 where
  pub form : Form
  pub letters : List ℕ

abbrev pub lexeme : List ℕ → ℕ → Lexeme
lexeme t from = record { form = (token_at t from).form; letters = letters t from }

abbrev pub is_end : Form → Bool
is_end Word = false
is_end (Sign b) = false
is_end Assign = false
is_end End = true
is_end Other = false

not_end : (m : Form) → is_end m ≡ false → m ≡ End → ⊥
not_end m e q = false≢true (sym e ∙ ap is_end q)

-- a piece of text that is one token wherever it stands between blanks
pub record Piece : Type 0 where
  pub form : Form
  pub spelled : List ℕ
  pub some : is_end form ≡ false
  pub found : (t : List ℕ) (p : ℕ) (rest : List ℕ) → drop p t ≡ spelled ++ (32 ∷ rest) → token_at t p ≡ placed form p (p + length spelled)

abbrev pub met : Piece → Lexeme
met b = record { form = b.form; letters = b.spelled }

unfoldable pub written : List Piece → List ℕ
written [] = []
written (b ∷ bs) = b.spelled ++ (32 ∷ written bs)

-- A BLANK is passed
module _ (t : List ℕ) (p : ℕ) (s : List ℕ) (e : drop p t ≡ 32 ∷ s) where
  pub left_blank : drop (p + 1) t ≡ s
  left_blank = left_at t p (32 ∷ []) s e

  blank_past : past is_blank (drop p t) p ≡ past is_blank (drop (p + 1) t) (p + 1)
  unfolding past is_blank among if◌then◌or_else◌
  blank_past = ap (λ (l : List ℕ). past is_blank l p) e ∙ sym (ap (λ (l : List ℕ). past is_blank l (p + 1)) left_blank)

  pub blank_token : token_at t p ≡ token_at t (p + 1)
  unfolding token_at
  blank_token = ap (λ (k : ℕ). token_here (drop k t) k) blank_past

-- A PIECE behind a blank
module _ (b : Piece) (t : List ℕ) (p : ℕ) (rest : List ℕ) (e : drop p t ≡ 32 ∷ (b.spelled ++ (32 ∷ rest))) where
  pub piece_token : token_at t p ≡ placed b.form (p + 1) (p + 1 + length b.spelled)
  piece_token = blank_token t p _ e ∙ b.found t (p + 1) rest (left_blank t p _ e)

  pub piece_lexeme : lexeme t p ≡ met b
  piece_lexeme =
      ap (λ (k : Token). record { form = k.form; letters = part t k.at k.next }) piece_token
      ∙ ap (λ (w : List ℕ). record { form = b.form; letters = w }) (bytes_at t (p + 1) b.spelled (32 ∷ rest) (left_blank t p _ e))

  pub piece_left : drop (behind t p) t ≡ 32 ∷ rest
  piece_left = ap (λ (k : Token). drop k.next t) piece_token ∙ left_at t (p + 1) b.spelled (32 ∷ rest) (left_blank t p _ e)

-- the pieces that there are
abbrev pub signed : (s : ℕ) → is_sign s ≡ true → Piece
signed s h = record {
  form = Sign s;
  spelled = s ∷ [];
  some = refl;
  found = λ t p rest e. sign_at_lem t p s (32 ∷ rest) e h;
}

pub blank_no_equal : ◌≡◌ {A = ℕ} 32 61 → ⊥
blank_no_equal e = absurd (omega (arith, e))

abbrev pub colon : Piece
colon = record {
  form = Sign 58;
  spelled = 58 ∷ [];
  some = refl;
  found = λ t p rest e. colon_at t p (32 ∷ rest) e blank_no_equal;
}

abbrev pub becomes : Piece
becomes = record {
  form = Assign;
  spelled = 58 ∷ 61 ∷ [];
  some = refl;
  found = λ t p rest e. assign_at_lem t p (32 ∷ rest) e;
}

pub blank_no_word : is_word 32 ≡ false
unfolding is_word is_letter is_digit between
blank_no_word = refl

abbrev pub worded : (w : List ℕ) → 0 < length w → each is_word w ≡ true → Piece
worded w l h = record {
  form = Word;
  spelled = w;
  some = refl;
  found = λ t p rest e. word_at t p w (32 ∷ rest) e l h blank_no_word;
}

-- A TEXT CUT at p: u has the bytes of t before p, then a blank, then w
pub record Cut (t u : List ℕ) (p : ℕ) (w : List ℕ) : Type 0 where
  pub inside : p ≤ length t
  pub same : take p t ≡ take p u
  pub left : drop p u ≡ 32 ∷ w

pub cut_resumed : (t : List ℕ) (p : ℕ) (w : List ℕ) → p ≤ length t → Cut t (resumed t p w) p w
cut_resumed t p w h =
    let n : length (take p t) ≡ p = length-take-le p t h in
    record {
      inside = h;
      same = sym (ap (λ (k : ℕ). take k (resumed t p w)) (sym n) ∙ take-append_seam (take p t) (32 ∷ w));
      left = ap (λ (k : ℕ). drop k (resumed t p w)) (sym n) ∙ drop-append_seam (take p t) (32 ∷ w);
    }

module _ (t u : List ℕ) (p : ℕ) (w : List ℕ) (c : Cut t u p w) where
  behind_cut : at u p ≡ 32
  behind_cut = ap (at u) (sym (add-zero p)) ∙ sym (get_or-drop p u 0 0) ∙ ap (λ (l : List ℕ). at l 0) c.left

  -- tokens before the cut stay
  pub cut_token : (from : ℕ) → is_end (token_at t from).form ≡ false → behind t from ≤ p → token_at u from ≡ token_at t from
  cut_token from some h =
      by_order p (behind t from)
      (λ l.
      token_edge t u from p (let z : behind t from ≡ p = omega (arith, h, l) in z) c.same (not_end (token_at t from).form some)
      (ap is_word behind_cut ∙ blank_no_word)
      (λ q. absurd (omega (arith, behind_cut, q))))
      (λ l. token_same t u from p c.same l)

  pub cut_lexeme : (from : ℕ) → is_end (token_at t from).form ≡ false → behind t from ≤ p → lexeme u from ≡ lexeme t from
  cut_lexeme from some h =
      let e : token_at u from ≡ token_at t from = cut_token from some h in
      ap (λ (k : Token). record { form = k.form; letters = part u k.at k.next }) e
      ∙ ap (λ (l : List ℕ). record { form = (token_at t from).form; letters = l })
      (sym (part_same t u (place_of t from) (behind t from) p c.same (token_order t from) h))

  -- what was the token at p is the one behind the blank now
  pub cut_here : (from : ℕ) → place_of t from ≡ p → token_at u from ≡ token_at u p
  unfolding token_at
  cut_here from e =
      ap (λ (k : ℕ). token_here (drop k u) k)
      (past_to is_blank u from p (omega (arith, e, token_from t from)) (same_long t u p c.same c.inside)
      (λ i a b. ap is_blank (sym (same_byte t u p c.same i b)) ∙ past_class is_blank t from i a (omega (arith, b, e, token_place t from))))
