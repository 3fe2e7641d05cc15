-- Texts with the same sequence of tokens have the same k-th token, for every k. Assumes nothing.
use Prim.Native.Nat.{ℕ, zero, suc, ◌+◌, ◌-◌, ◌≤◌, ◌<◌}
use mathlib.Core.Path.{◌≡◌, ◌∙◌, refl, sym, ap}
use mathlib.Core.List.{List, [], ◌∷◌, nil≢cons, cons≢nil, head-eq_of_cons-eq, tail-eq_of_cons-eq}
use native.Mathlib.Omega.{arith}
use lib.ListN.{length, take, drop}
use Rattle.base_words.specs.Words.{part}
use Rattle.text_lexer.specs.declared.Form.{Form}
use Rattle.text_lexer.specs.declared.Form.TheVariants.{Word, Sign, Assign, End, Other}
use Rattle.text_lexer.specs.declared.Token.{Token}
use Rattle.text_lexer.specs.Lexer.{token_at, if_end}
use Rattle.base_bytes.proofs.PieceLaws.{by_order}
use Rattle.text_lexer.proofs.TokenLaws.{token_place, token_from, token_some, token_end, at_none, end_beyond}
use Rattle.text_readers.specs.Reading.{place_of, behind, letters}
use Rattle.proof_places.specs.Places.{behind_first}
use Rattle.proof_places.proofs.Same.{not_end}
use Rattle.proof_places.proofs.Steady.{Level}
use Rattle.proof_places.specs.Sequence.{Lexeme, lexeme, tokens_from, tokens}

-- n tokens are enough from the place a of t on
pub record Enough (n : ℕ) (t : List ℕ) (a : ℕ) : Type 0 where
  pub within : a ≤ length t
  pub left : length t ≤ a + n

-- where the blanks go to the end, that is the token; else another, and one less is enough behind it
pub at_end : (t : List ℕ) (a : ℕ) → length t ≤ place_of t a → (token_at t a).form ≡ End
at_end t a h = ap (λ (k : Token). k.form) (at_none t a _ refl (rw (sym (token_place t a)) h))

pub behind_enough : (n : ℕ) (t : List ℕ) (a : ℕ) → Enough (suc n) t a → place_of t a < length t → Enough n t (behind t a)
behind_enough n t a enough h =
    let some = token_some t a (not_end t a h) in
    record { within = some.1; left = omega (arith, some.0, token_from t a, enough.left) }

-- the text's end, or a token and the others behind it
data Turn (n : ℕ) (t : List ℕ) (a : ℕ) : Type 0 where
  done : (token_at t a).form ≡ End → tokens_from n t a ≡ [] → Turn n t a
  more : (m : ℕ) → tokens_from n t a ≡ lexeme t a ∷ tokens_from m t (behind t a) → Enough m t (behind t a) → Turn n t a

other_form : {A : Type 0} (m : Form) (x y : A) → (m ≡ End → ⊥) → if_end m x y ≡ y
unfolding if_end
other_form Word x y e = refl
other_form (Sign b) x y e = refl
other_form Assign x y e = refl
other_form End x y e = absurd (e refl)
other_form Other x y e = refl

turn : (n : ℕ) (t : List ℕ) (a : ℕ) → Enough n t a → Turn n t a
unfolding tokens_from if_end
turn zero t a enough = done (ap (λ (k : Token). k.form) (end_beyond t a (omega (arith, enough.left)))) refl
turn (suc n) t a enough =
    by_order (length t) (place_of t a)
    (λ h. done (at_end t a h) (ap (λ (m : Form). if_end m [] (lexeme t a ∷ tokens_from n t (behind t a))) (at_end t a h)))
    (λ h. more n (other_form (token_at t a).form [] (lexeme t a ∷ tokens_from n t (behind t a)) (not_end t a h)) (behind_enough n t a enough h))

-- the end has no letters, and it is behind itself
none : (n : ℕ) (t : List ℕ) → n ≡ 0 → take n t ≡ []
none n t e = rw e

end_lexeme : (t : List ℕ) (a : ℕ) → a ≤ length t → (token_at t a).form ≡ End → lexeme t a ≡ record { form = End; letters = [] }
end_lexeme t a l e =
    let word : letters t a ≡ [] = ap (λ (k : Token). part t k.at k.next) (token_end t a e l) ∙ none (length t - length t) (drop (length t) t) (omega arith) in
    λ i. record { form = e i; letters = word i }

end_enough : (t : List ℕ) (a : ℕ) → a ≤ length t → (token_at t a).form ≡ End → Enough 0 t (behind t a)
end_enough t a l e =
    let z : behind t a ≡ length t = ap (λ (k : Token). k.next) (token_end t a e l) in
    record { within = omega (arith, z); left = omega (arith, z) }

-- the tokens of t from a on are those of u from b on
record Beside (t u : List ℕ) (a b : ℕ) : Type 0 where
  n : ℕ
  m : ℕ
  enough : Enough n t a
  enough_too : Enough m u b
  same : tokens_from n t a ≡ tokens_from m u b

record Onward (t u : List ℕ) (a b : ℕ) : Type 0 where
  token : lexeme t a ≡ lexeme u b
  rest : Beside t u (behind t a) (behind u b)

onward : (t u : List ℕ) (a b : ℕ) → Beside t u a b → Onward t u a b
unfolding tokens_from
onward t u a b s = go (turn s.n t a s.enough) (turn s.m u b s.enough_too)
  where
    go : Turn s.n t a → Turn s.m u b → Onward t u a b
    go (done e p) (done f q) =
        record {
          token = end_lexeme t a s.enough.within e ∙ sym (end_lexeme u b s.enough_too.within f);
          rest = record {
            n = 0;
            m = 0;
            enough = end_enough t a s.enough.within e;
            enough_too = end_enough u b s.enough_too.within f;
            same = refl;
          };
        }
    go (done e p) (more m q g) = absurd (nil≢cons (sym p ∙ s.same ∙ q))
    go (more n p g) (done f q) = absurd (cons≢nil (sym p ∙ s.same ∙ q))
    go (more n p g) (more m q h) =
        record {
          token = head-eq_of_cons-eq (sym p ∙ s.same ∙ q);
          rest = record { n = n; m = m; enough = g; enough_too = h; same = tail-eq_of_cons-eq (sym p ∙ s.same ∙ q) };
        }

module _ (t u : List ℕ) (same : tokens t ≡ tokens u) where
  along : (k : ℕ) → Beside t u (behind_first t k) (behind_first u k)
  unfolding behind_first tokens
  along zero =
      record {
        n = length t;
        m = length u;
        enough = record { within = omega arith; left = omega arith };
        enough_too = record { within = omega arith; left = omega arith };
        same = same;
      }
  along (suc k) = (onward t u (behind_first t k) (behind_first u k) (along k)).rest

  kth_same : (k : ℕ) → lexeme t (behind_first t k) ≡ lexeme u (behind_first u k)
  kth_same k = (onward t u (behind_first t k) (behind_first u k) (along k)).token

  pub tokens_level : Level t u
  tokens_level = record { form = λ k. ap (λ (x : Lexeme). x.form) (kth_same k); word = λ k. ap (λ (x : Lexeme). x.letters) (kth_same k) }
