-- BLANK, TAB AND NEWLINE MAY STAND BETWEEN TOKENS: put in behind a token, they change no token. Assumes nothing.
use Prim.Native.Nat.{ℕ, zero, suc, ◌+◌, ◌≤◌, ◌<◌}
use mathlib.Core.Path.{◌≡◌, ◌∙◌, refl, sym, ap}
use mathlib.Core.Bool.{Bool, true, false≢true}
use mathlib.Core.List.{List, [], ◌∷◌, ◌++◌}
use native.Mathlib.Nat.{add-zero}
use native.Mathlib.Omega.{arith}
use lib.ListN.{length, take, drop, length-append, length-drop, take-append-drop}
use lib.Seq.{length-take-le, take_at, drop_at, drop-drop, drop-append_seam, get_or_at}
use Rattle.base_words.specs.Each.{each}
use Rattle.base_words.specs.Pick.{if◌then◌or_else◌}
use Rattle.base_words.specs.Words.{at, part}
use Rattle.base_words.proofs.AllLaws.{and_left, and_right}
use Rattle.text_lexer.specs.declared.Token.{Token}
use Rattle.text_lexer.specs.Lexer.{is_blank, is_word, token_here, token_at}
use Rattle.base_bytes.specs.Bytes.{among, past}
use Rattle.text_lexer.proofs.ClassLaws.{blank_not_word}
use Rattle.base_bytes.proofs.PieceLaws.{by_order}
use Rattle.text_lexer.proofs.TokenLaws.{token_place, token_from, token_order, token_within}
use Rattle.text_lexer.proofs.LocalLaws.{past_class, past_to, same_byte, token_same, token_edge}
use Rattle.text_readers.specs.Reading.{place_of, behind, letters}
use Rattle.text_read.specs.Notation.{model}
use Rattle.proof_places.specs.Places.{behind_first, kth_token, ReadAlike}
use Rattle.proof_places.proofs.Same.{not_end, part_same}
use Rattle.proof_places.proofs.TokenPlaces.{behind_within}
use Rattle.proof_places.specs.Sequence.{lexeme, tokens_from, tokens, Between, spaced}
use Rattle.proof_places.proofs.SameTokens.{read_alike}
use Rattle.proof_places.proofs.Remainder.{tokens_on, tokens_left, tokens_by, tokens_enough}

-- where the blanks end decides the token
by_past : (t : List ℕ) (a b : ℕ) → past is_blank (drop a t) a ≡ past is_blank (drop b t) b → token_at t a ≡ token_at t b
unfolding token_at
by_past t a b e = ap (λ (k : ℕ). token_here (drop k t) k) e

past_over : (class : ℕ → Bool) (b s : List ℕ) (p : ℕ) → each class b ≡ true → past class (b ++ s) p ≡ past class s (p + length b)
unfolding past each if◌then◌or_else◌
past_over class [] s p h = ap (past class s) (sym (add-zero p))
past_over class (c ∷ b) s p h =
    rw (and_left (class c) (each class b) h)
    (past_over class b s (p + 1) (and_right (class c) (each class b) h) ∙ ap (past class s) (let z : p + 1 + length b ≡ p + suc (length b) = omega arith in z))

equal_not_blank : (c : ℕ) → is_blank c ≡ true → c ≡ 61 → ⊥
unfolding is_blank among
equal_not_blank c h e = false≢true (sym (ap is_blank e) ∙ h)

-- places behind tokens come one after the other
behind_on : (t : List ℕ) (d j k : ℕ) → j + d ≡ k → behind_first t j ≤ behind_first t k
unfolding behind_first
behind_on t zero j k e = omega (arith, ap (behind_first t) (let z : j ≡ k = omega (arith, e) in z))
behind_on t (suc d) j k e = omega (arith, token_from t (behind_first t j), token_order t (behind_first t j), behind_on t d (suc j) k (omega (arith, e)))

-- u is t with the blanks c and b put in at p
module _ (t : List ℕ) (p c : ℕ) (b : List ℕ) (blank : each is_blank (c ∷ b) ≡ true) (within : p ≤ length t) where
  u : List ℕ
  u = spaced t p (c ∷ b)

  before_same : take p t ≡ take p u
  unfolding u
  before_same = sym (take_at (take p t) (c ∷ b ++ drop p t) p (length-take-le p t within))

  left : drop p u ≡ c ∷ b ++ drop p t
  unfolding u
  left = drop_at (take p t) (c ∷ b ++ drop p t) p (length-take-le p t within)

  left_behind : drop (p + length (c ∷ b)) u ≡ drop p t
  left_behind = sym (drop-drop (length (c ∷ b)) p u) ∙ ap (drop (length (c ∷ b))) left ∙ drop-append_seam (c ∷ b) (drop p t)

  first_blank : at u p ≡ c
  unfolding u
  first_blank = get_or_at (take p t) c (b ++ drop p t) 0 p (length-take-le p t within)

  longer : length u ≡ length (take p t) + (length (c ∷ b) + length (drop p t))
  unfolding u
  longer = length-append (take p t) (c ∷ b ++ drop p t) ∙ ap (λ (n : ℕ). length (take p t) + n) (length-append (c ∷ b) (drop p t))

  p_within : p ≤ length u
  p_within = omega (arith, longer, length-take-le p t within)

  -- among blanks before p
  skipped : (a : ℕ) → a ≤ p → p ≤ place_of t a → (n : ℕ) → tokens_from n t a ≡ tokens_from n u a
  skipped a l h n =
      let blanks : (i : ℕ) → a ≤ i → i < p → is_blank (at t i) ≡ true = λ i m k. past_class is_blank t a i m (omega (arith, h, k, token_place t a)) in
      tokens_by n t a p (by_past t a p (past_to is_blank t a p l within blanks))
      ∙ tokens_left n t u p (p + length (c ∷ b)) (sym left_behind)
      ∙ sym (tokens_by n u p (p + length (c ∷ b)) (by_past u p (p + length (c ∷ b)) over))
      ∙ sym (tokens_by n u a p (by_past u a p (past_to is_blank u a p l p_within (λ i m k. ap is_blank (sym (same_byte t u p before_same i k)) ∙ blanks i m k))))
    where
      over : past is_blank (drop p u) p ≡ past is_blank (drop (p + length (c ∷ b)) u) (p + length (c ∷ b))
      over =
          ap (λ (s : List ℕ). past is_blank s p) left
          ∙ past_over is_blank (c ∷ b) (drop p t) p blank
          ∙ sym (ap (λ (s : List ℕ). past is_blank s (p + length (c ∷ b))) left_behind)

  -- a token that ends at p or before it
  token_stays : (a : ℕ) → place_of t a < length t → behind t a ≤ p → token_at u a ≡ token_at t a
  unfolding each
  token_stays a h l =
      let c-blank : is_blank c ≡ true = and_left (is_blank c) (each is_blank b) blank in
      by_order p (behind t a)
      (λ m.
      token_edge t u a p (let z : behind t a ≡ p = omega (arith, l, m) in z) before_same (not_end t a h)
      (ap is_word first_blank ∙ blank_not_word c c-blank)
      (λ q. equal_not_blank c c-blank (sym first_blank ∙ q)))
      (λ m. token_same t u a p before_same m)

  lexeme_stays : (a : ℕ) → place_of t a < length t → behind t a ≤ p → lexeme t a ≡ lexeme u a
  lexeme_stays a h l =
      ap (λ (w : List ℕ). record { form = (token_at t a).form; letters = w }) (part_same t u (place_of t a) (behind t a) p before_same (token_order t a) l)
      ∙ sym (ap (λ (k : Token). record { form = k.form; letters = part u k.at k.next }) (token_stays a h l))

  module _ (k : ℕ) (behind_it : behind_first t k ≤ p) (before_next : p ≤ (kth_token t k).at) where
    from_kth : (d j n : ℕ) → j + d ≡ k → tokens_from n t (behind_first t j) ≡ tokens_from n u (behind_first t j)
    unfolding behind_first tokens_from
    from_kth zero j n e =
        let z : j ≡ k = omega (arith, e) in
        skipped (behind_first t j) (omega (arith, behind_it, ap (behind_first t) z)) (omega (arith, before_next, ap (λ (i : ℕ). (kth_token t i).at) z)) n
    from_kth (suc d) j zero e = refl
    from_kth (suc d) j (suc n) e =
        let later : behind_first t (suc j) ≤ behind_first t k = behind_on t d (suc j) k (omega (arith, e)) in
        let a : ℕ = behind_first t j in
        by_order p (place_of t a)
        (λ h. skipped a (omega (arith, token_from t a, token_order t a, later, behind_it)) h (suc n))
        (λ h.
        let inside : place_of t a < length t = omega (arith, h, within) in
        let ends : behind t a ≤ p = omega (arith, later, behind_it) in
        tokens_on n n t u a a (lexeme_stays a inside ends)
        (from_kth d (suc j) n (omega (arith, e)) ∙ ap (λ (x : Token). tokens_from n u x.next) (sym (token_stays a inside ends))))

    spaced_same : tokens u ≡ tokens t
    unfolding tokens behind_first
    spaced_same =
        sym (from_kth k 0 (length u) (omega arith))
        ∙ tokens_enough (length u) (length t) t 0
        (record { within = omega arith; left = omega (arith, longer, length-take-le p t within, length-drop p t) })
        (record { within = omega arith; left = omega arith })

pub blanks_between : (t : List ℕ) (p : ℕ) (b : List ℕ) → Between t p → each is_blank b ≡ true → tokens (spaced t p b) ≡ tokens t
unfolding u
blanks_between t p [] between blank = ap tokens (take-append-drop p t)
blanks_between t p (c ∷ b) between blank =
    spaced_same t p c b blank
    (omega (arith, between.before_next, token_order t (behind_first t between.ordinal), token_within t (behind_first t between.ordinal) (behind_within t between.ordinal)))
    between.ordinal between.behind_it between.before_next

-- so they change nothing but places
pub blanks_alike : (t : List ℕ) (p : ℕ) (b : List ℕ) → Between t p → each is_blank b ≡ true → ReadAlike (spaced t p b) t (model (spaced t p b)) (model t)
blanks_alike t p b between blank = read_alike (spaced t p b) t (blanks_between t p b between blank)
