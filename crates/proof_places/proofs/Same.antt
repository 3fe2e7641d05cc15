-- Which tokens of a text lie in what two texts share: those that end at or before the place p, and the one that stands at it. Assumes nothing.
use mathlib.Core.Path.{◌≡◌, ◌∙◌, refl, sym, ap, subst}
use mathlib.Core.List.{List, [], ◌∷◌}
use Prim.Native.Nat.{ℕ, zero, suc, ◌+◌, ◌-◌, ◌<◌, ◌≤◌}
use native.Mathlib.Numerals.{unary_clauses}
use native.Mathlib.Omega.{arith}
use lib.ListN.{length, take, drop}
use lib.Seq.{take_all}
use Rattle.base_words.specs.Words.{part}
use Rattle.text_lexer.specs.declared.Token.{Token}
use Rattle.text_lexer.specs.declared.Form.TheVariants.{End}
use Rattle.text_lexer.specs.Lexer.{token_at}
use Rattle.base_bytes.proofs.PieceLaws.{by_order}
use Rattle.text_lexer.proofs.TokenLaws.{token_place, token_from, token_order, token_some, token_end, at_none}
use Rattle.text_lexer.proofs.LocalLaws.{same_less, token_again, token_local, token_same}
use Rattle.text_readers.specs.Reading.{place_of, behind, letters}
use Rattle.proof_places.specs.Places.{Agree}

pub data Seen (t : List ℕ) (p at : ℕ) : Type 0 where
  whole : behind t at ≤ p → Seen t p at
  itself : place_of t at ≡ p → Seen t p at

-- those tokens are the same in both texts, with the same letters
pub record Same (t u : List ℕ) (p : ℕ) : Type 0 where
  pub token : (at : ℕ) → Seen t p at → token_at u at ≡ token_at t at
  pub word : (at : ℕ) → Seen t p at → letters u at ≡ letters t at

-- what is seen behind a token was seen from it on
pub seen_before : (t : List ℕ) (p at : ℕ) → Seen t p (behind t at) → Seen t p at
seen_before t p at (whole h) = whole (omega (arith, token_from t (behind t at), token_order t (behind t at)))
seen_before t p at (itself h) = whole (omega (arith, token_from t (behind t at)))

cut : (n a : ℕ) (t : List ℕ) → take n (drop a t) ≡ drop a (take (a + n) t)
cut n zero t = ap (λ (k : ℕ). take k t) (let e : n ≡ zero + n = omega arith in e)
cut zero (suc a) [] = simp unary_clauses refl
cut (suc n) (suc a) [] = simp unary_clauses refl
cut n (suc a) (x ∷ t) = cut n a t ∙ ap (λ (k : ℕ). drop (suc a) (take k (x ∷ t))) (let e : suc (a + n) ≡ suc a + n = omega arith in e)

pub part_same : (t u : List ℕ) (a b e : ℕ) → take e t ≡ take e u → a ≤ b → b ≤ e → part t a b ≡ part u a b
part_same t u a b e h l m =
    let z : a + (b - a) ≡ b = omega arith in
    cut (b - a) a t ∙ ap (drop a) (ap (λ (k : ℕ). take k t) z ∙ same_less t u e h b m ∙ sym (ap (λ (k : ℕ). take k u) z)) ∙ sym (cut (b - a) a u)

pub same_text : (t u : List ℕ) (p : ℕ) → t ≡ u → Same t u p
same_text t u p e = subst (λ (v : List ℕ). Same t v p) e (record { token = λ at s. refl; word = λ at s. refl })

-- a token before the text's length is not the end
pub not_end : (t : List ℕ) (p : ℕ) → place_of t p < length t → (token_at t p).form ≡ End → ⊥
not_end t p h e =
    let z : place_of t p ≡ length t = ap (λ (k : Token). k.at) (token_end t p e (omega (arith, h, token_from t p))) in
    omega (arith, h, z)

module _ (t u : List ℕ) (p : ℕ) (agree : Agree t u p) where
  token_seen : p < behind t p → (at : ℕ) → Seen t p at → token_at u at ≡ token_at t at
  token_seen l at (whole h) = token_same t u at (behind t p) agree.bytes (omega (arith, h, l))
  token_seen l at (itself h) =
      token_local t at u
      (rw h (same_less t u (behind t p) agree.bytes p (omega (arith, l))))
      (rw h agree.token)

  next_seen : p < behind t p → (at : ℕ) → Seen t p at → behind t at ≤ behind t p
  next_seen l at (whole h) = omega (arith, h, l)
  next_seen l at (itself h) =
      let z : behind t at ≡ behind t p = ap (λ (k : Token). k.next) (sym (token_again t at) ∙ ap (token_at t) h) in
      omega (arith, z)

  some_same : p < behind t p → Same t u p
  some_same l =
      record {
        token = token_seen l;
        word = λ at s.
            ap (λ (k : Token). part u k.at k.next) (token_seen l at s)
            ∙ sym (part_same t u (place_of t at) (behind t at) (behind t p) agree.bytes (token_order t at) (next_seen l at s));
      }

  -- where the token is the text's end, the texts are the same
  none_same : length t ≤ place_of t p → length u ≤ place_of u p → t ≡ u
  none_same h k =
      let e : place_of u p ≡ place_of t p = ap (λ (x : Token). x.at) agree.token in
      sym (take_all (behind t p) t (omega (arith, h, token_order t p))) ∙ agree.bytes ∙ take_all (behind t p) u (omega (arith, k, e, token_order t p))

  pub agree_same : Same t u p
  agree_same =
      by_order (length t) (place_of t p)
      (λ h.
      by_order (length u) (place_of u p)
      (λ k. same_text t u p (none_same h k))
      (λ k. absurd (not_end u p k (ap (λ (x : Token). x.form) (agree.token ∙ at_none t p _ refl (rw (sym (token_place t p)) h))))))
      (λ h. some_same (omega (arith, token_from t p, (token_some t p (not_end t p h)).0)))
