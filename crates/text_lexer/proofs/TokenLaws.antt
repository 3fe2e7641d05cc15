-- The token at a place, by the byte that begins it. The laws that take `drop p t ≡ ..`, what is left of the text at a place, are those of
-- reading back a text. Assumes nothing.
use mathlib.Core.Path.{◌≡◌, ◌∙◌, refl, sym, ap}
use mathlib.Core.Bool.{Bool, true, false}
use mathlib.Core.List.{List, [], ◌∷◌, ◌++◌}
use Prim.Native.Nat.{ℕ, suc, ◌+◌, ◌<◌, ◌≤◌}
use native.Mathlib.Nat.{add-zero, add-sub_cancel_left}
use native.Mathlib.Numerals.{add-one}
use native.Mathlib.Omega.{arith}
use lib.Dec.{eqb}
use lib.ListN.{length, drop, drop_of_length-le, length-drop}
use lib.Seq.{drop-cons, get_or-drop, drop-drop, drop-append_seam, take-append_seam}
use borrow.Author.Tests.{ne_eqb, eqb-true, eqb-false}
use Rattle.base_words.specs.Each.{each}
use Rattle.base_words.specs.Pick.{if◌then◌or_else◌}
use Rattle.base_words.specs.Words.{at, part}
use Rattle.base_words.proofs.AllLaws.{and_left, and_right}
use Rattle.text_lexer.specs.declared.Token.{Token}
use Rattle.text_lexer.specs.declared.Form.TheVariants.{Word, Sign, Assign, End, Other}
use Rattle.text_lexer.specs.Lexer.{is_blank, is_word, is_sign, placed, token_of, token_here, token_at}
use Rattle.base_bytes.specs.Bytes.{among, between, is_digit, is_letter, past}
use Rattle.text_lexer.proofs.ClassLaws.{sign_not_word, sign_not_blank, word_not_blank}
use Rattle.base_bytes.proofs.PieceLaws.{by_order}
use Rattle.base_bytes.proofs.PastLaws.{past_end, past_from, past_within, past_run, past_whole}

pub colon_not_word : is_word 58 ≡ false
unfolding is_word is_letter is_digit between
colon_not_word = refl

colon_not_sign : is_sign 58 ≡ false
unfolding is_sign among
colon_not_sign = refl

colon_not_blank : is_blank 58 ≡ false
unfolding is_blank among
colon_not_blank = refl

-- the token that a byte begins
module _ (b : ℕ) (s : List ℕ) (p : ℕ) where
  pub of_word : is_word b ≡ true → token_of b s p ≡ placed Word p (past is_word s (p + 1))
  unfolding token_of if◌then◌or_else◌
  of_word e = rw e

  pub of_sign : is_sign b ≡ true → token_of b s p ≡ placed (Sign b) p (p + 1)
  unfolding token_of if◌then◌or_else◌
  of_sign e = rw (sign_not_word b e, e)

  pub of_assign : b ≡ 58 → at s 0 ≡ 61 → token_of b s p ≡ placed Assign p (p + 2)
  unfolding token_of if◌then◌or_else◌
  of_assign e n = rw (e, colon_not_word, colon_not_sign, n)

  pub of_colon : b ≡ 58 → (at s 0 ≡ 61 → ⊥) → token_of b s p ≡ placed (Sign b) p (p + 1)
  unfolding token_of if◌then◌or_else◌
  of_colon e n = rw (e, colon_not_word, colon_not_sign, ne_eqb (at s 0) 61 n)

  pub of_other : is_word b ≡ false → is_sign b ≡ false → (b ≡ 58 → ⊥) → token_of b s p ≡ placed Other p (p + 1)
  unfolding token_of if◌then◌or_else◌
  of_other w g n = rw (w, g, ne_eqb b 58 n)

  -- which of the five it is
  pub data Begun : Type 0 where
    word : is_word b ≡ true → token_of b s p ≡ placed Word p (past is_word s (p + 1)) → Begun
    sign : is_sign b ≡ true → token_of b s p ≡ placed (Sign b) p (p + 1) → Begun
    assign : b ≡ 58 → at s 0 ≡ 61 → token_of b s p ≡ placed Assign p (p + 2) → Begun
    colon : b ≡ 58 → (at s 0 ≡ 61 → ⊥) → token_of b s p ≡ placed (Sign b) p (p + 1) → Begun
    other : is_word b ≡ false → is_sign b ≡ false → (b ≡ 58 → ⊥) → token_of b s p ≡ placed Other p (p + 1) → Begun

  pub begun : Begun
  begun = go (is_word b) (is_sign b) (eqb b 58) (eqb (at s 0) 61) refl refl refl refl
    where
      go : (w g c e : Bool) → is_word b ≡ w → is_sign b ≡ g → eqb b 58 ≡ c → eqb (at s 0) 61 ≡ e → Begun
      go true g c e hw hg hc he = word hw (of_word hw)
      go false true c e hw hg hc he = sign hg (of_sign hg)
      go false false true true hw hg hc he = assign (eqb-true b 58 hc) (eqb-true (at s 0) 61 he) (of_assign (eqb-true b 58 hc) (eqb-true (at s 0) 61 he))
      go false false true false hw hg hc he = colon (eqb-true b 58 hc) (eqb-false (at s 0) 61 he) (of_colon (eqb-true b 58 hc) (eqb-false (at s 0) 61 he))
      go false false false e hw hg hc he = other hw hg (eqb-false b 58 hc) (of_other hw hg (eqb-false b 58 hc))

-- the token at a place where no blank stands
pub here_some : (t : List ℕ) (p : ℕ) → p < length t → token_here (drop p t) p ≡ token_of (at t p) (drop (p + 1) t) p
unfolding token_here
here_some t p h = rw (drop-cons t p 0 h, add-one p)

pub here_none : (t : List ℕ) (p : ℕ) → length t ≤ p → token_here (drop p t) p ≡ placed End p p
unfolding token_here
here_none t p h = rw (drop_of_length-le t h)

pub next_byte : (t : List ℕ) (p : ℕ) → at (drop (p + 1) t) 0 ≡ at t (p + 1)
next_byte t p = rw (get_or-drop, add-zero)

pub here_assign : (t : List ℕ) (p n : ℕ) → p < length t → at t p ≡ 58 → n ≡ at t (p + 1) → n ≡ 61 → token_here (drop p t) p ≡ placed Assign p (p + 2)
here_assign t p n h e q g = here_some t p h ∙ of_assign (at t p) (drop (p + 1) t) p e (next_byte t p ∙ sym q ∙ g)

pub here_colon : (t : List ℕ) (p n : ℕ) → p < length t → at t p ≡ 58 → n ≡ at t (p + 1) → (n ≡ 61 → ⊥) → token_here (drop p t) p ≡ placed (Sign (at t p)) p (p + 1)
here_colon t p n h e q g = here_some t p h ∙ of_colon (at t p) (drop (p + 1) t) p e (λ k. g (q ∙ sym (next_byte t p) ∙ k))

-- the token at or after a place, by the place where the blanks end
module _ (t : List ℕ) (from p : ℕ) (e : past is_blank (drop from t) from ≡ p) where
  pub at_some : p < length t → token_at t from ≡ token_of (at t p) (drop (p + 1) t) p
  unfolding token_at
  at_some h = rw e (here_some t p h)

  pub at_none : length t ≤ p → token_at t from ≡ placed End p p
  unfolding token_at
  at_none h = rw e (here_none t p h)

-- WHAT IS LEFT OF THE TEXT at the place p, and the token there
module _ (t : List ℕ) (p : ℕ) where
  begins : (b : ℕ) (s : List ℕ) → drop p t ≡ b ∷ s → is_blank b ≡ false → token_at t p ≡ token_of b s p
  unfolding token_at token_here past if◌then◌or_else◌
  begins b s e n = rw (e, n, e)

  pub sign_at_lem : (b : ℕ) (s : List ℕ) → drop p t ≡ b ∷ s → is_sign b ≡ true → token_at t p ≡ placed (Sign b) p (p + 1)
  sign_at_lem b s e g = begins b s e (sign_not_blank b g) ∙ of_sign b s p g

  pub colon_at : (s : List ℕ) → drop p t ≡ 58 ∷ s → (at s 0 ≡ 61 → ⊥) → token_at t p ≡ placed (Sign 58) p (p + 1)
  colon_at s e n = begins 58 s e colon_not_blank ∙ of_colon 58 s p refl n

  pub assign_at_lem : (s : List ℕ) → drop p t ≡ 58 ∷ 61 ∷ s → token_at t p ≡ placed Assign p (p + 2)
  assign_at_lem s e = begins 58 (61 ∷ s) e colon_not_blank ∙ of_assign 58 (61 ∷ s) p refl refl

  pub word_at : (w s : List ℕ) → drop p t ≡ w ++ s → 0 < length w → each is_word w ≡ true → is_word (at s 0) ≡ false → token_at t p ≡ placed Word p (p + length w)
  unfolding each
  word_at [] s e l a h = absurd (omega arith)
  word_at (b ∷ w) s e l a h =
      let g : is_word b ≡ true = and_left (is_word b) (each is_word w) a in
      begins b (w ++ s) e (word_not_blank b g)
      ∙ of_word b (w ++ s) p g
      ∙ ap (placed Word p)
      (past_run is_word w s (p + 1) (and_right (is_word b) (each is_word w) a) h
      ∙ (let z : p + 1 + length w ≡ p + suc (length w) = omega arith in z))

  -- only blanks up to the end
  pub end_at_lem : each is_blank (drop p t) ≡ true → p ≤ length t → token_at t p ≡ placed End (length t) (length t)
  end_at_lem a h =
      at_none t p (length t)
      (past_whole is_blank (drop p t) p a ∙ (let z : p + length (drop p t) ≡ length t = omega (arith, length-drop p t) in z))
      (omega arith)

  pub end_beyond : length t ≤ p → token_at t p ≡ placed End p p
  end_beyond h = at_none t p p (past_end is_blank t p h) h

  -- the bytes of a word, and what is left behind it
  pub bytes_at : (w s : List ℕ) → drop p t ≡ w ++ s → part t p (p + length w) ≡ w
  bytes_at w s e = rw (e, add-sub_cancel_left, take-append_seam)

  pub left_at : (w s : List ℕ) → drop p t ≡ w ++ s → drop (p + length w) t ≡ s
  left_at w s e = sym (drop-drop (length w) p t) ∙ ap (drop (length w)) e ∙ drop-append_seam w s

-- WHERE A TOKEN STANDS
module _ (b : ℕ) (s : List ℕ) (p : ℕ) where
  of_place : (token_of b s p).at ≡ p
  of_place = go (begun b s p)
    where
      go : Begun b s p → (token_of b s p).at ≡ p
      go (word _ e) = ap (λ (k : Token). k.at) e
      go (sign _ e) = ap (λ (k : Token). k.at) e
      go (assign _ _ e) = ap (λ (k : Token). k.at) e
      go (colon _ _ e) = ap (λ (k : Token). k.at) e
      go (other _ _ _ e) = ap (λ (k : Token). k.at) e

  -- it is never the end
  of_not_end : (token_of b s p).form ≡ End → ⊥
  of_not_end = go (begun b s p)
    where
      go : Begun b s p → (token_of b s p).form ≡ End → ⊥
      go (word _ e) q = let n : ◌≡◌ {A = ℕ} 0 1 = cc in absurd (omega arith)
      go (sign _ e) q = let n : ◌≡◌ {A = ℕ} 0 1 = cc in absurd (omega arith)
      go (assign _ _ e) q = let n : ◌≡◌ {A = ℕ} 0 1 = cc in absurd (omega arith)
      go (colon _ _ e) q = let n : ◌≡◌ {A = ℕ} 0 1 = cc in absurd (omega arith)
      go (other _ _ _ e) q = let n : ◌≡◌ {A = ℕ} 0 1 = cc in absurd (omega arith)

  of_next : (p < (token_of b s p).next) × ((token_of b s p).next ≤ p + 1 + length s)
  of_next = go (begun b s p)
    where
      filled : (l : List ℕ) → at l 0 ≡ 61 → 0 < length l
      filled [] e = absurd (omega arith)
      filled (x ∷ l) e = omega arith

      go : Begun b s p → (p < (token_of b s p).next) × ((token_of b s p).next ≤ p + 1 + length s)
      go (word _ e) = rw e (omega (arith, past_from is_word s (p + 1)), omega (arith, past_within is_word s (p + 1)))
      go (sign _ e) = rw e (omega arith, omega arith)
      go (assign _ n e) = rw e (omega arith, omega (arith, filled s n))
      go (colon _ _ e) = rw e (omega arith, omega arith)
      go (other _ _ _ e) = rw e (omega arith, omega arith)

module _ (t : List ℕ) (from : ℕ) where
  -- its place is where the blanks end
  pub token_place : (token_at t from).at ≡ past is_blank (drop from t) from
  token_place =
      by_order (length t) (past is_blank (drop from t) from)
      (λ h. ap (λ (k : Token). k.at) (at_none t from _ refl h))
      (λ h. ap (λ (k : Token). k.at) (at_some t from _ refl h) ∙ of_place _ _ _)

  pub token_from : from ≤ (token_at t from).at
  token_from = rw token_place (past_from is_blank (drop from t) from)

  some_next : past is_blank (drop from t) from < length t → ((token_at t from).at < (token_at t from).next) × ((token_at t from).next ≤ length t)
  some_next h =
      let p : ℕ = past is_blank (drop from t) from in
      let n = of_next (at t p) (drop (p + 1) t) p in
      (rw token_place (rw (at_some t from p refl h) n.0), rw (at_some t from p refl h) (omega (arith, n.1, length-drop (p + 1) t)))

  pub token_order : (token_at t from).at ≤ (token_at t from).next
  token_order =
      by_order (length t) (past is_blank (drop from t) from)
      (λ h. rw (at_none t from _ refl h) (omega arith))
      (λ h. omega (arith, (some_next h).0))

  -- a token other than the end is not empty, and lies in the text
  pub token_some : ((token_at t from).form ≡ End → ⊥) → ((token_at t from).at < (token_at t from).next) × ((token_at t from).next ≤ length t)
  token_some n =
      by_order (length t) (past is_blank (drop from t) from)
      (λ h. absurd (n (ap (λ (k : Token). k.form) (at_none t from _ refl h))))
      some_next

  pub word_in : (token_at t from).form ≡ Word → ((token_at t from).at < (token_at t from).next) × ((token_at t from).next ≤ length t)
  word_in e = token_some (λ q. let z : Word ≡ End = sym e ∙ q in let n : ◌≡◌ {A = ℕ} 0 1 = cc in absurd (omega arith))

  pub sign_in : (b : ℕ) → (token_at t from).form ≡ Sign b → ((token_at t from).at < (token_at t from).next) × ((token_at t from).next ≤ length t)
  sign_in b e = token_some (λ q. let z : Sign b ≡ End = sym e ∙ q in let n : ◌≡◌ {A = ℕ} 0 1 = cc in absurd (omega arith))

  pub assign_in : (token_at t from).form ≡ Assign → ((token_at t from).at < (token_at t from).next) × ((token_at t from).next ≤ length t)
  assign_in e = token_some (λ q. let z : Assign ≡ End = sym e ∙ q in let n : ◌≡◌ {A = ℕ} 0 1 = cc in absurd (omega arith))

  -- the end is at the text's length, and so within the text are all
  ends : from ≤ length t → length t ≤ past is_blank (drop from t) from → token_at t from ≡ placed End (length t) (length t)
  ends l h =
      at_none t from (length t)
      (let z : past is_blank (drop from t) from ≡ length t = omega (arith, past_within is_blank (drop from t) from, length-drop from t) in z)
      (omega arith)

  pub token_end : (token_at t from).form ≡ End → from ≤ length t → token_at t from ≡ placed End (length t) (length t)
  token_end e l =
      by_order (length t) (past is_blank (drop from t) from)
      (ends l)
      (λ h. absurd (of_not_end _ _ _ (sym (ap (λ (k : Token). k.form) (at_some t from _ refl h)) ∙ e)))

  pub token_within : from ≤ length t → (token_at t from).next ≤ length t
  token_within l =
      by_order (length t) (past is_blank (drop from t) from)
      (λ h. rw (ends l h) (omega arith))
      (λ h. (some_next h).1)
