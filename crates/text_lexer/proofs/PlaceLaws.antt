-- The token at or after a place, by where the blanks and then the letters end, and by the place behind a sign. Assumes nothing.
use mathlib.Core.Path.{◌≡◌, ◌∙◌, refl, sym, ap}
use mathlib.Core.Bool.{Bool, true, false, false≢true}
use mathlib.Core.List.{List}
use Prim.Native.Nat.{ℕ, ◌+◌, ◌<◌, ◌≤◌, max}
use native.Mathlib.Omega.{arith}
use lib.Dec.{eqb}
use lib.ListN.{length, drop}
use borrow.Author.Tests.{eq-eqb, ne_eqb}
use Rattle.base_words.specs.Pick.{if◌then◌or_else◌}
use Rattle.base_words.specs.Words.{at}
use Rattle.text_lexer.specs.declared.Form.{Form}
use Rattle.text_lexer.specs.declared.Form.TheVariants.{Word, Sign, Assign, End, Other}
use Rattle.text_lexer.specs.declared.Token.{Token}
use Rattle.text_lexer.specs.Lexer.{is_blank, is_word, is_sign, placed, token_here, token_at, if_word, if_sign, sign_behind}
use Rattle.base_bytes.specs.Bytes.{past}
use Rattle.text_lexer.proofs.ClassLaws.{sign_not_word}
use Rattle.base_bytes.proofs.PieceLaws.{by_order}
use Rattle.base_bytes.proofs.PastLaws.{past_more, past_stop, past_end, past_all}
use Rattle.text_lexer.proofs.TokenLaws.{colon_not_word, here_some, here_none, here_assign, here_colon, of_sign, at_some, at_none, Begun, word, sign, assign, colon, other, begun}

-- the end of the text, or the place itself beyond it, where a loop over the places from `from` on has come to i
pub past_farthest : (class : ℕ → Bool) (t : List ℕ) (from i : ℕ) → past class (drop i t) i ≡ past class (drop from t) from → length t ≤ i → (from ≤ length t → i ≤ length t) → max from (length t) ≡ past class (drop from t) from
past_farthest class t from i e l far =
    by_order (length t) from
    (λ h. let z : max from (length t) ≡ from = omega arith in z ∙ sym (past_end class t from h))
    (λ h. let k : i ≤ length t = far (omega arith) in let z : max from (length t) ≡ i = omega arith in z ∙ past_all class t i _ e l)

-- WHERE THE BLANKS END, p, AND WHERE THE LETTERS BEHIND THEM END, q: the token is a word there, or it is none and q is p
pub data Worded (t : List ℕ) (from p q : ℕ) : Type 0 where
  some_word : token_at t from ≡ placed Word p q → Worded t from p q
  no_word : (f : Form) (n : ℕ) → token_at t from ≡ placed f p n → if_word f false true ≡ true → q ≡ p → Worded t from p q

pub not_worded : {A : Type 0} (f : Form) (a b : A) → if_word f false true ≡ true → if_word f a b ≡ b
unfolding if_word
not_worded Word a b e = absurd (false≢true e)
not_worded (Sign s) a b e = refl
not_worded Assign a b e = refl
not_worded End a b e = refl
not_worded Other a b e = refl

pub worded : (t : List ℕ) (from p q : ℕ) → p ≡ past is_blank (drop from t) from → q ≡ past is_word (drop p t) p → Worded t from p q
unfolding if_word
worded t from p q e w =
    by_order (length t) p
    (λ h. no_word End p (at_none t from p (sym e) h) refl (w ∙ past_end is_word t p h))
    (λ h. go h (begun (at t p) (drop (p + 1) t) p))
  where
    go : p < length t → Begun (at t p) (drop (p + 1) t) p → Worded t from p q
    go h (word c k) = some_word (at_some t from p (sym e) h ∙ k ∙ ap (placed Word p) (sym (past_more is_word t p h c) ∙ sym w))
    go h (sign c k) = no_word (Sign (at t p)) (p + 1) (at_some t from p (sym e) h ∙ k) refl (w ∙ past_stop is_word t p h (sign_not_word (at t p) c))
    go h (assign c _ k) = no_word Assign (p + 2) (at_some t from p (sym e) h ∙ k) refl (w ∙ past_stop is_word t p h (ap is_word c ∙ colon_not_word))
    go h (colon c _ k) = no_word (Sign (at t p)) (p + 1) (at_some t from p (sym e) h ∙ k) refl (w ∙ past_stop is_word t p h (ap is_word c ∙ colon_not_word))
    go h (other c _ _ k) = no_word Other (p + 1) (at_some t from p (sym e) h ∙ k) refl (w ∙ past_stop is_word t p h c)

-- THE PLACE BEHIND A SIGN s, by the byte at p
module _ (t : List ℕ) (p s : ℕ) where
  abbrev after : Token → ℕ
  after k = if_sign k.form (λ b. if eqb b s then p + 1 or_else p) p

  by_token : (k : Token) → token_here (drop p t) p ≡ k → sign_behind s (drop p t) p ≡ after k
  unfolding sign_behind
  by_token k e = ap after e

  pub behind_end : length t ≤ p → p ≡ sign_behind s (drop p t) p
  unfolding if_sign
  behind_end h = sym (by_token _ (here_none t p h))

  pub behind_other : p < length t → (at t p ≡ s → ⊥) → p ≡ sign_behind s (drop p t) p
  unfolding if_sign if◌then◌or_else◌
  behind_other h n = go (begun (at t p) (drop (p + 1) t) p)
    where
      go : Begun (at t p) (drop (p + 1) t) p → p ≡ sign_behind s (drop p t) p
      go (word _ k) = sym (by_token _ (here_some t p h ∙ k))
      go (sign _ k) = sym (by_token _ (here_some t p h ∙ k) ∙ rw (ne_eqb (at t p) s n))
      go (assign _ _ k) = sym (by_token _ (here_some t p h ∙ k))
      go (colon _ _ k) = sym (by_token _ (here_some t p h ∙ k) ∙ rw (ne_eqb (at t p) s n))
      go (other _ _ _ k) = sym (by_token _ (here_some t p h ∙ k))

  module _ (h : p < length t) (e : at t p ≡ s) where
    pub behind_sign : is_sign s ≡ true → p + 1 ≡ sign_behind s (drop p t) p
    unfolding if_sign if◌then◌or_else◌
    behind_sign g =
        sym (by_token _ (here_some t p h ∙ of_sign (at t p) (drop (p + 1) t) p (ap is_sign e ∙ g)) ∙ rw (eq-eqb (at t p) s e))

    pub behind_none : is_sign s ≡ false → (s ≡ 58 → ⊥) → p ≡ sign_behind s (drop p t) p
    unfolding if_sign
    behind_none g n = go (begun (at t p) (drop (p + 1) t) p)
      where
        go : Begun (at t p) (drop (p + 1) t) p → p ≡ sign_behind s (drop p t) p
        go (word _ k) = sym (by_token _ (here_some t p h ∙ k))
        go (sign c _) = absurd (false≢true (sym g ∙ ap is_sign (sym e) ∙ c))
        go (assign c _ _) = absurd (n (sym e ∙ c))
        go (colon c _ _) = absurd (n (sym e ∙ c))
        go (other _ _ _ k) = sym (by_token _ (here_some t p h ∙ k))

    pub behind_assign : (m : ℕ) → s ≡ 58 → m ≡ at t (p + 1) → m ≡ 61 → p ≡ sign_behind s (drop p t) p
    unfolding if_sign
    behind_assign m c q g = sym (by_token _ (here_assign t p m h (e ∙ c) q g))

    pub behind_colon : (m : ℕ) → s ≡ 58 → m ≡ at t (p + 1) → (m ≡ 61 → ⊥) → p + 1 ≡ sign_behind s (drop p t) p
    unfolding if_sign if◌then◌or_else◌
    behind_colon m c q g = sym (by_token _ (here_colon t p m h (e ∙ c) q g) ∙ rw (eq-eqb (at t p) s e))

-- WHAT A TOKEN GIVES WHERE THE SIGN s IS ASKED FOR, p where the blanks end, q the place behind the sign
module _ {A : Type 0} (s : ℕ) (hit miss : ℕ → A) where
  abbrev pub signed : Token → A
  signed k = if_sign k.form (λ b. if eqb b s then hit k.next or_else miss k.at) (miss k.at)

  module _ (t : List ℕ) (from p q : ℕ) (e : p ≡ past is_blank (drop from t) from) (g : q ≡ sign_behind s (drop p t) p) where
    hits : p < q → Begun (at t p) (drop (p + 1) t) p → p < length t → hit q ≡ signed (token_at t from)
    unfolding if_sign if◌then◌or_else◌
    hits l (word _ k) h = absurd (omega (arith, l, g ∙ by_token t p s _ (here_some t p h ∙ k)))
    hits l (sign _ k) h = told (eqb (at t p) s) (g ∙ by_token t p s _ (here_some t p h ∙ k)) ∙ ap signed (sym (at_some t from p (sym e) h ∙ k))
      where
        told : (b : Bool) → q ≡ (if b then p + 1 or_else p) → hit q ≡ (if b then hit (p + 1) or_else miss p)
        told true r = ap hit r
        told false r = absurd (omega (arith, l, r))
    hits l (assign _ _ k) h = absurd (omega (arith, l, g ∙ by_token t p s _ (here_some t p h ∙ k)))
    hits l (colon _ _ k) h = told (eqb (at t p) s) (g ∙ by_token t p s _ (here_some t p h ∙ k)) ∙ ap signed (sym (at_some t from p (sym e) h ∙ k))
      where
        told : (b : Bool) → q ≡ (if b then p + 1 or_else p) → hit q ≡ (if b then hit (p + 1) or_else miss p)
        told true r = ap hit r
        told false r = absurd (omega (arith, l, r))
    hits l (other _ _ _ k) h = absurd (omega (arith, l, g ∙ by_token t p s _ (here_some t p h ∙ k)))

    pub sign_hit : p < q → hit q ≡ signed (token_at t from)
    unfolding if_sign
    sign_hit l =
        by_order (length t) p
        (λ h. absurd (omega (arith, l, g ∙ by_token t p s _ (here_none t p h))))
        (λ h. hits l (begun (at t p) (drop (p + 1) t) p) h)

    misses : q ≤ p → Begun (at t p) (drop (p + 1) t) p → p < length t → miss p ≡ signed (token_at t from)
    unfolding if_sign if◌then◌or_else◌
    misses l (word _ k) h = ap signed (sym (at_some t from p (sym e) h ∙ k))
    misses l (sign _ k) h = told (eqb (at t p) s) (g ∙ by_token t p s _ (here_some t p h ∙ k)) ∙ ap signed (sym (at_some t from p (sym e) h ∙ k))
      where
        told : (b : Bool) → q ≡ (if b then p + 1 or_else p) → miss p ≡ (if b then hit (p + 1) or_else miss p)
        told true r = absurd (omega (arith, l, r))
        told false r = refl
    misses l (assign _ _ k) h = ap signed (sym (at_some t from p (sym e) h ∙ k))
    misses l (colon _ _ k) h = told (eqb (at t p) s) (g ∙ by_token t p s _ (here_some t p h ∙ k)) ∙ ap signed (sym (at_some t from p (sym e) h ∙ k))
      where
        told : (b : Bool) → q ≡ (if b then p + 1 or_else p) → miss p ≡ (if b then hit (p + 1) or_else miss p)
        told true r = absurd (omega (arith, l, r))
        told false r = refl
    misses l (other _ _ _ k) h = ap signed (sym (at_some t from p (sym e) h ∙ k))

    pub sign_miss : q ≤ p → miss p ≡ signed (token_at t from)
    unfolding if_sign
    sign_miss l =
        by_order (length t) p
        (λ h. ap signed (sym (at_none t from p (sym e) h)))
        (λ h. misses l (begun (at t p) (drop (p + 1) t) p) h)
