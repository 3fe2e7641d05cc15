-- A token rests on its own bytes, the blanks before it, and the byte behind it: texts that agree there have the same token. Assumes nothing.
use mathlib.Core.Path.{◌≡◌, ◌∙◌, refl, sym, ap}
use mathlib.Core.Bool.{Bool, true, false}
use mathlib.Core.List.{List, [], ◌∷◌}
use Prim.Native.Nat.{ℕ, zero, suc, ◌+◌, ◌-◌, ◌<◌, ◌≤◌, min}
use native.Mathlib.Nat.{add-zero}
use native.Mathlib.Omega.{arith}
use lib.ListN.{length, take, drop, length-take, length-drop}
use lib.Seq.{get_or-take, get_or-drop, take_all, take-take}
use Rattle.base_words.specs.Pick.{if◌then◌or_else◌}
use Rattle.base_words.specs.Words.{at}
use Rattle.text_lexer.specs.declared.Token.{Token}
use Rattle.text_lexer.specs.declared.Form.TheVariants.{Word, End}
use Rattle.text_lexer.specs.Lexer.{is_blank, is_word, placed, token_of, token_here, token_at}
use Rattle.base_bytes.specs.Bytes.{past}
use Rattle.base_bytes.proofs.PastLaws.{past_more, past_stop, past_end, past_from, past_within}
use Rattle.base_bytes.proofs.PieceLaws.{by_order}
use Rattle.text_lexer.proofs.TokenLaws.{Begun, word, sign, assign, colon, other, begun, of_word, of_sign, of_assign, of_colon, of_other, next_byte, at_some, token_place, token_order, token_some}

-- how many bytes are passed: those are of the class, the one behind them is not
record Passed (class : ℕ → Bool) (s : List ℕ) (p : ℕ) : Type 0 where
  n : ℕ
  to : past class s p ≡ p + n
  each_is : (i : ℕ) → i < n → class (at s i) ≡ true
  next_not : n < length s → class (at s n) ≡ false

passed : (class : ℕ → Bool) (s : List ℕ) (p : ℕ) → Passed class s p
unfolding past if◌then◌or_else◌
passed class [] p = record { n = 0; to = sym (add-zero p); each_is = λ i h. absurd (omega arith); next_not = λ h. absurd (omega arith) }
passed class (b ∷ s) p = go (class b) refl (passed class s (p + 1))
  where
    go : (c : Bool) → class b ≡ c → Passed class s (p + 1) → Passed class (b ∷ s) p
    go true e r = record {
      n = suc r.n;
      to = rw e (r.to ∙ (let z : p + 1 + r.n ≡ p + suc r.n = omega arith in z));
      each_is = λ i h. at_each i h;
      next_not = λ h. r.next_not (omega arith);
    }
      where
        at_each : (i : ℕ) → i < suc r.n → class (at (b ∷ s) i) ≡ true
        at_each zero h = e
        at_each (suc i) h = r.each_is i (omega arith)
    go false e r = record { n = 0; to = rw e (sym (add-zero p)); each_is = λ i h. absurd (omega arith); next_not = λ h. e }

module _ (class : ℕ → Bool) (t : List ℕ) (from : ℕ) where
  -- in terms of the text's own places
  pub past_class : (i : ℕ) → from ≤ i → i < past class (drop from t) from → class (at t i) ≡ true
  past_class i l u =
      let r = passed class (drop from t) from in
      let e : from + (i - from) ≡ i = omega arith in
      ap class (sym (get_or-drop from t (i - from) 0 ∙ ap (at t) e)) ∙ r.each_is (i - from) (omega (arith, r.to))

  pub past_not : past class (drop from t) from < length t → class (at t (past class (drop from t) from)) ≡ false
  past_not h =
      let r = passed class (drop from t) from in
      rw r.to (ap class (sym (get_or-drop from t r.n 0)) ∙ r.next_not (omega (arith, r.to, length-drop from t)))

-- a run of the class that is known to go to a place
module _ (class : ℕ → Bool) (t : List ℕ) where
  pub past_skip : (n from : ℕ) → from + n ≤ length t → ((i : ℕ) → from ≤ i → i < from + n → class (at t i) ≡ true) → past class (drop from t) from ≡ past class (drop (from + n) t) (from + n)
  past_skip zero from h f = ap (λ (k : ℕ). past class (drop k t) k) (sym (add-zero from))
  past_skip (suc n) from h f =
      past_more class t from (omega arith) (f from (omega arith) (omega arith))
      ∙ past_skip n (from + 1) (omega arith) (λ i l u. f i (omega arith) (omega arith))
      ∙ ap (λ (k : ℕ). past class (drop k t) k) (let e : from + 1 + n ≡ from + suc n = omega arith in e)

  pub past_to : (from q : ℕ) → from ≤ q → q ≤ length t → ((i : ℕ) → from ≤ i → i < q → class (at t i) ≡ true) → past class (drop from t) from ≡ past class (drop q t) q
  past_to from q l h f =
      let e : from + (q - from) ≡ q = omega arith in
      past_skip (q - from) from (omega arith) (λ i a b. f i a (omega arith)) ∙ ap (λ (k : ℕ). past class (drop k t) k) e

-- two texts that agree on their first p bytes
module _ (t u : List ℕ) (p : ℕ) (same : take p t ≡ take p u) where
  pub same_byte : (i : ℕ) → i < p → at t i ≡ at u i
  same_byte i h = sym (get_or-take p t i 0 h) ∙ ap (λ (l : List ℕ). at l i) same ∙ get_or-take p u i 0 h

  pub same_less : (q : ℕ) → q ≤ p → take q t ≡ take q u
  same_less q h = sym (take-take q p t h) ∙ ap (take q) same ∙ take-take q p u h

  lengths : min p (length t) ≡ min p (length u)
  lengths = sym (length-take p t) ∙ ap length same ∙ length-take p u

  pub same_long : p ≤ length t → p ≤ length u
  same_long h = omega (arith, lengths)

  pub same_whole : length t < p → t ≡ u
  same_whole h = sym (take_all p t (omega arith)) ∙ same ∙ take_all p u (omega (arith, lengths))

  -- what is passed before p is passed in both
  pub past_same : (class : ℕ → Bool) (from : ℕ) → p ≤ length t → past class (drop from t) from < p → past class (drop from u) from ≡ past class (drop from t) from
  past_same class from h l =
      let q : ℕ = past class (drop from t) from in
      past_to class u from q (past_from class (drop from t) from) (omega (arith, l, same_long h))
      (λ i a b. ap class (sym (same_byte i (omega (arith, l, b)))) ∙ past_class class t from i a b)
      ∙ past_stop class u q (omega (arith, l, same_long h)) (ap class (sym (same_byte q l)) ∙ past_not class t from (omega (arith, l)))

-- where the blanks end decides the token
by_past : (t : List ℕ) (a b : ℕ) → past is_blank (drop a t) a ≡ past is_blank (drop b t) b → token_at t a ≡ token_at t b
unfolding token_at
by_past t a b e = ap (λ (k : ℕ). token_here (drop k t) k) e

-- the token again, from its own place
module _ (t : List ℕ) (from : ℕ) where
  settled : past is_blank (drop (token_at t from).at t) (token_at t from).at ≡ past is_blank (drop from t) from
  settled =
      let p : ℕ = past is_blank (drop from t) from in
      rw token_place
      (by_order (length t) p
      (past_end is_blank t p)
      (λ h. past_stop is_blank t p h (past_not is_blank t from h)))

  pub token_again : token_at t (token_at t from).at ≡ token_at t from
  token_again = by_past t (token_at t from).at from settled

  -- A text that agrees with t before the token, and has the same token at its place, has it from here on too.
  pub token_local : (u : List ℕ) → take (token_at t from).at t ≡ take (token_at t from).at u → token_at u (token_at t from).at ≡ token_at t (token_at t from).at → token_at u from ≡ token_at t from
  token_local u same here = to_place (token_at t from).at refl same ∙ here ∙ token_again
    where
      to_place : (p : ℕ) → (token_at t from).at ≡ p → take p t ≡ take p u → token_at u from ≡ token_at u p
      to_place p e same =
          let q : past is_blank (drop from t) from ≡ p = sym (token_place t from) ∙ e in
          by_order p (length t)
          (λ h.
          by_past u from p
          (past_to is_blank u from p (omega (arith, q, past_from is_blank (drop from t) from)) (same_long t u p same h)
          (λ i a b. ap is_blank (sym (same_byte t u p same i b)) ∙ past_class is_blank t from i a (omega (arith, b, q)))))
          (λ h. ap (token_at u) (omega (arith, q, past_from is_blank (drop from t) from, past_within is_blank (drop from t) from, length-drop from t)))

-- the token that one byte begins before two texts
of_same : (b : ℕ) (s r : List ℕ) (p : ℕ) → (is_word b ≡ true → past is_word r (p + 1) ≡ past is_word s (p + 1)) → (b ≡ 58 → at s 0 ≡ 61 → at r 0 ≡ 61) → (b ≡ 58 → (at s 0 ≡ 61 → ⊥) → at r 0 ≡ 61 → ⊥) → token_of b r p ≡ token_of b s p
of_same b s r p w a c = go (begun b s p)
  where
    go : Begun b s p → token_of b r p ≡ token_of b s p
    go (word h e) = of_word b r p h ∙ ap (placed Word p) (w h) ∙ sym e
    go (sign h e) = of_sign b r p h ∙ sym e
    go (assign h g e) = of_assign b r p h (a h g) ∙ sym e
    go (colon h g e) = of_colon b r p h (c h g) ∙ sym e
    go (other h g k e) = of_other b r p h g k ∙ sym e

module _ (t u : List ℕ) (from p : ℕ) (same : take p t ≡ take p u) (inside : p ≤ length t) where
  start : ℕ
  start = past is_blank (drop from t) from

  -- the same token, where the byte that begins it stands before p
  by_begin : start < p → token_of (at t start) (drop (start + 1) u) start ≡ token_of (at t start) (drop (start + 1) t) start → token_at u from ≡ token_at t from
  unfolding start
  by_begin l e =
      at_some u from start (past_same t u p same is_blank from inside l) (omega (arith, l, same_long t u p same inside))
      ∙ ap (λ (b : ℕ). token_of b (drop (start + 1) u) start) (sym (same_byte t u p same start l))
      ∙ e
      ∙ sym (at_some t from start refl (omega (arith, l)))

  -- the byte behind the one that begins it
  second : start + 1 < p → at (drop (start + 1) u) 0 ≡ at (drop (start + 1) t) 0
  unfolding start
  second l = next_byte u start ∙ sym (same_byte t u p same (start + 1) l) ∙ sym (next_byte t start)

  -- the place behind it, by what it is
  next_of : (k : Token) → start < p → token_of (at t start) (drop (start + 1) t) start ≡ k → (token_at t from).next ≡ k.next
  unfolding start
  next_of k l e = ap (λ (x : Token). x.next) (at_some t from start refl (omega (arith, l)) ∙ e)

  pub same_inside : (token_at t from).next < p → token_at u from ≡ token_at t from
  unfolding start
  same_inside l =
      let b : ℕ = at t start in
      let s : List ℕ = drop (start + 1) t in
      let h : start < p = omega (arith, l, token_place t from, token_order t from) in
      by_begin h
      (of_same b s (drop (start + 1) u) start
      (λ e. past_same t u p same is_word (start + 1) inside (omega (arith, l, next_of _ h (of_word b s start e))))
      (λ e g. second (omega (arith, l, next_of _ h (of_assign b s start e g))) ∙ g)
      (λ e g k. g (sym (second (omega (arith, l, next_of _ h (of_colon b s start e g)))) ∙ k)))

  same_edge : (token_at t from).next ≡ p → past is_blank (drop from t) from < p → is_word (at u p) ≡ false → (at u p ≡ 61 → ⊥) → token_at u from ≡ token_at t from
  unfolding start
  same_edge n h no_word no-equal =
      let b : ℕ = at t start in
      let s : List ℕ = drop (start + 1) t in
      let l : p ≤ length u = same_long t u p same inside in
      let to : is_word b ≡ true → past is_word s (start + 1) ≡ p = λ e. sym (next_of _ h (of_word b s start e)) ∙ n in
      by_begin h
      (of_same b s (drop (start + 1) u) start
      (λ e.
      past_to is_word u (start + 1) p (omega (arith, h)) l
      (λ i a z. ap is_word (sym (same_byte t u p same i z)) ∙ past_class is_word t (start + 1) i a (omega (arith, z, to e)))
      ∙ by_order (length u) p (past_end is_word u p) (λ k. past_stop is_word u p k no_word)
      ∙ sym (to e))
      (λ e g. second (omega (arith, n, next_of _ h (of_assign b s start e g))) ∙ g)
      (λ e g k.
      let z : p ≡ start + 1 = omega (arith, n, next_of _ h (of_colon b s start e g)) in
      no-equal (ap (at u) z ∙ sym (next_byte u start) ∙ k)))

-- Texts that agree on more than the token and all before it have the same token.
pub token_same : (t u : List ℕ) (from p : ℕ) → take p t ≡ take p u → (token_at t from).next < p → token_at u from ≡ token_at t from
token_same t u from p same l =
    by_order p (length t)
    (λ h. same_inside t u from p same h l)
    (λ h. ap (λ (x : List ℕ). token_at x from) (sym (same_whole t u p same h)))

-- Texts that agree on the token and all before it have the same token, where the byte behind it in the second is no part of a word and no `=`.
pub token_edge : (t u : List ℕ) (from p : ℕ) → (token_at t from).next ≡ p → take p t ≡ take p u → ((token_at t from).form ≡ End → ⊥) → is_word (at u p) ≡ false → (at u p ≡ 61 → ⊥) → token_at u from ≡ token_at t from
token_edge t u from p e same some w g =
    let k = token_some t from some in
    same_edge t u from p same (omega (arith, e, k.1)) e (omega (arith, e, k.0, token_place t from)) w g
