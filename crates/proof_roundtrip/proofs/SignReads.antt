-- SIGNS READ BACK: a sign, `:=`, and a choice by a sign. Assumes nothing.
use Prim.Native.Char.{code}
use Prim.Native.Nat.{ℕ, ◌+◌}
use mathlib.Core.Path.{◌≡◌, ◌∙◌, refl, sym, ap}
use mathlib.Core.Bool.{Bool, true, false, not, ◌&&◌, ◌||◌, false≢true}
use mathlib.Core.List.{List, [], ◌∷◌, ◌++◌}
use mathlib.Core.Logic.{inl, inr}
use lib.Dec.{eqb}
use lib.ListN.{drop}
use borrow.Author.Tests.{eq-eqb, eqb-false, not-true}
use Rattle.std.proofs.Math.Bool.{or-false}
use Rattle.base_words.specs.Each.{each}
use Rattle.base_words.specs.Pick.{if◌then◌or_else◌}
use Rattle.base_words.specs.Words.{at}
use Rattle.base_words.proofs.AllLaws.{and_left, and_right}
use Rattle.base_words.proofs.PickLaws.{pick_yes, pick_no}
use Rattle.text_lexer.specs.declared.Token.{Token}
use Rattle.text_lexer.specs.declared.Form.TheVariants.{Word, Sign}
use Rattle.text_lexer.specs.Lexer.{is_blank, is_word, is_sign, placed, token_here, token_at, if_sign, if_assign}
use Rattle.base_bytes.specs.Bytes.{is_letter, is_digit, between, among, past}
use Rattle.text_lexer.proofs.ClassLaws.{among-each, sign_not_word, word_not_blank}
use Rattle.text_lexer.proofs.TokenLaws.{sign_at_lem, colon_at, assign_at_lem, of_word}
use Rattle.std.specs.declared.result.Result.TheVariants.{Ok}
use Rattle.text_readers.specs.Reading.{Read, Refused, Parsed, Reader, misplaced, if_at, onward, ◌then◌, sign_at, assign_at, sign, assign}
use Rattle.proof_roundtrip.specs.Trip.{may_follow, may_close, ends}
use Rattle.proof_roundtrip.proofs.ReadsLaws.{Reads, anything, Nowhere, onto_same, reads_as, reads_then, reads_wider}

-- what begins with a token other than the sign s
unfoldable pub opens : ℕ → List ℕ → Bool
opens s [] = false
opens s (b ∷ w) = is_word b || (is_sign b && not (eqb b s))

-- a closing sign, not a comma
unfoldable pub shuts : List ℕ → Bool
shuts [] = false
shuts (b ∷ rest) = eqb b (code ")") || (eqb b (code "}") || eqb b (code ">"))

-- no `=`, which would make `:` a `:=`
unfoldable pub unequal : List ℕ → Bool
unequal rest = not (eqb (at rest 0) (code "="))

pub opens_on : (s : ℕ) (w rest : List ℕ) → opens s w ≡ true → opens s (w ++ rest) ≡ true
unfolding opens
opens_on s [] rest e = absurd (false≢true e)
opens_on s (b ∷ w) rest e = e

-- THE SIGN AT A PLACE
module _ (text : List ℕ) (from : ℕ) where
  by_sign : (s b p q : ℕ) → token_at text from ≡ placed (Sign b) p q → sign_at s text from ≡ (if eqb b s then Ok q or_else Refused misplaced p)
  unfolding sign_at if_sign
  by_sign s b p q e = ap (λ (k : Token). if_sign k.form (λ c. if eqb c s then Ok k.next or_else Refused misplaced k.at) (Refused misplaced k.at)) e

  by_word : (s p q : ℕ) → token_at text from ≡ placed Word p q → sign_at s text from ≡ Refused misplaced p
  unfolding sign_at if_sign
  by_word s p q e = ap (λ (k : Token). if_sign k.form (λ c. if eqb c s then Ok k.next or_else Refused misplaced k.at) (Refused misplaced k.at)) e

  pub sign_hit : (s : ℕ) (rest : List ℕ) → drop from text ≡ s ∷ rest → is_sign s ≡ true → sign_at s text from ≡ Ok (from + 1)
  sign_hit s rest d e = by_sign s s from (from + 1) (sign_at_lem text from s rest d e) ∙ sym (pick_yes (eqb s s) _ _ _ (eq-eqb s s refl) refl)

  pub colon_hit : (rest : List ℕ) → drop from text ≡ 58 ∷ rest → unequal rest ≡ true → sign_at 58 text from ≡ Ok (from + 1)
  unfolding unequal
  colon_hit rest d e =
      by_sign 58 58 from (from + 1) (colon_at text from rest d (eqb-false (at rest 0) 61 (not-true (eqb (at rest 0) 61) e)))
      ∙ sym (pick_yes (eqb 58 58) _ _ _ refl refl)

  pub assign_hit : (rest : List ℕ) → drop from text ≡ 58 ∷ 61 ∷ rest → assign_at text from ≡ Ok (from + 2)
  unfolding assign_at if_assign
  assign_hit rest d = ap (λ (k : Token). if_assign k.form (Ok k.next) (Refused misplaced k.at)) (assign_at_lem text from rest d)

  word_begins : (b : ℕ) (rest : List ℕ) → drop from text ≡ b ∷ rest → is_word b ≡ true → token_at text from ≡ placed Word from (past is_word rest (from + 1))
  unfolding token_at token_here
  word_begins b rest d e =
      blank (is_blank b) (word_not_blank b e)
    where
      blank : (t : Bool) → is_blank b ≡ false → token_at text from ≡ placed Word from (past is_word rest (from + 1))
      blank t n = unfold past if◌then◌or_else◌ in rw (d, n, d) (of_word b rest from e)

  pub sign_miss : (s : ℕ) (rest : List ℕ) → drop from text ≡ rest → opens s rest ≡ true → sign_at s text from ≡ Refused misplaced from
  unfolding opens
  sign_miss s [] d e = absurd (false≢true e)
  sign_miss s (b ∷ rest) d e = go (is_word b) refl e
    where
      go : (t : Bool) → is_word b ≡ t → t || (is_sign b && not (eqb b s)) ≡ true → sign_at s text from ≡ Refused misplaced from
      go true w e = by_word s from _ (word_begins b rest d w)
      go false w e =
          by_sign s b from (from + 1) (sign_at_lem text from b rest d (and_left (is_sign b) (not (eqb b s)) e))
          ∙ sym (pick_no (eqb b s) _ _ _ (not-true (eqb b s) (and_right (is_sign b) (not (eqb b s)) e)) refl)

-- as readers
module _ {el : List ℕ} where
  pub reads_sign : (s : ℕ) → is_sign s ≡ true → Reads el (sign s) (s ∷ []) anything Nowhere
  reads_sign s e =
      record {
        reads = λ text rest x from d k l b. (x, ap (λ (r : Read). record { end = r; words = x }) (sign_hit text from s rest d e), onto_same x b);
      }

  pub reads_colon : Reads el (sign 58) (58 ∷ []) unequal Nowhere
  reads_colon =
      record {
        reads = λ text rest x from d k l b. (x, ap (λ (r : Read). record { end = r; words = x }) (colon_hit text from rest d k), onto_same x b);
      }

  pub reads_assign : Reads el assign (58 ∷ 61 ∷ []) anything Nowhere
  reads_assign =
      record {
        reads = λ text rest x from d k l b. (x, ap (λ (r : Read). record { end = r; words = x }) (assign_hit text from rest d), onto_same x b);
      }

  -- a choice by a sign, which stands there; and where it does not
  pub reads_hit : (s : ℕ) {g : Reader} (h : Reader) {v : List ℕ} {F : List ℕ → Bool} {R : ℕ → Type 0} → is_sign s ≡ true → Reads el g v F R
      → Reads el (λ text at x. if_at (sign_at s text at) (λ q. g text q x) (h text at x)) (s ∷ v) F R
  reads_hit s {g} h {v} {F} {R} e r =
      reads_as (λ text rest x from d k. same text x from (v ++ rest) d) (reads_wider (λ i z. inl (inr z)) (reads_then (reads_sign s e) r (λ rest k. refl)))
    where
      same : (text x : List ℕ) (from : ℕ) (rest : List ℕ) → drop from text ≡ s ∷ rest → if_at (sign_at s text from) (λ q. g text q x) (h text from x) ≡ (sign s then g) text from x
      same text x from rest d = unfold ◌then◌ onward if_at in rw (sign_hit text from s rest d e)

  pub reads_miss : (s : ℕ) (g : ℕ → List ℕ → List ℕ → Parsed) {h : Reader} {w : List ℕ} {F : List ℕ → Bool} {R : ℕ → Type 0}
      → ((rest : List ℕ) → F rest ≡ true → opens s (w ++ rest) ≡ true) → Reads el h w F R
      → Reads el (λ text at x. if_at (sign_at s text at) (λ q. g q text x) (h text at x)) w F R
  reads_miss s g {h} {w} {F} {R} o r =
      reads_as (λ text rest x from d k. same text x from (w ++ rest) d (o rest k)) r
    where
      same : (text x : List ℕ) (from : ℕ) (rest : List ℕ) → drop from text ≡ rest → opens s rest ≡ true → if_at (sign_at s text from) (λ q. g q text x) (h text from x) ≡ h text from x
      same text x from rest d k = unfold if_at in rw (sign_miss text from s rest d k)

-- WHAT FOLLOWS: a byte of a list passes what every byte of the list passes
abbrev closers : List ℕ
closers = 41 ∷ 125 ∷ 62 ∷ []

abbrev closings : List ℕ
closings = 44 ∷ closers

shuts_among : (b : ℕ) (r : List ℕ) → shuts (b ∷ r) ≡ among closers b
unfolding shuts among
shuts_among b r = rw (or-false (eqb b 62))

closes_among : (b : ℕ) (r : List ℕ) → may_close (b ∷ r) ≡ among closings b
unfolding may_close among
closes_among b r = rw (or-false (eqb b 62))

abbrev opening : ℕ → ℕ → Bool
opening s b = is_word b || (is_sign b && not (eqb b s))

pub shuts_closes : (rest : List ℕ) → shuts rest ≡ true → may_close rest ≡ true
unfolding shuts
shuts_closes [] e = absurd (false≢true e)
shuts_closes (b ∷ r) e = closes_among b r ∙ among-each (among closings) closers b (unfold each among in refl) (sym (shuts_among b r) ∙ e)

pub ends_shuts : (rest : List ℕ) → ends rest ≡ true → shuts rest ≡ true
unfolding ends shuts
ends_shuts [] e = absurd (false≢true e)
ends_shuts (b ∷ r) e = rw e

pub closes_stops : (rest : List ℕ) → may_close rest ≡ true → may_follow rest ≡ true
unfolding may_follow may_close
closes_stops [] e = absurd (false≢true e)
closes_stops (b ∷ r) e =
    among-each (λ k. not (is_word k)) closings b (unfold each is_word is_letter is_digit between in refl) (sym (closes_among b r) ∙ e)

pub shuts_opens : (rest : List ℕ) → shuts rest ≡ true → opens 44 rest ≡ true
unfolding shuts opens
shuts_opens [] e = absurd (false≢true e)
shuts_opens (b ∷ r) e =
    among-each (opening 44) closers b (unfold each is_word is_letter is_digit is_sign between among in refl) (sym (shuts_among b r) ∙ e)

-- none of them is a given other sign
pub closes_opens : (s : ℕ) → each (opening s) closings ≡ true → (rest : List ℕ) → may_close rest ≡ true → opens s rest ≡ true
unfolding may_close opens
closes_opens s h [] e = absurd (false≢true e)
closes_opens s h (b ∷ r) e = among-each (opening s) closings b h (sym (closes_among b r) ∙ e)

pub closes_no_plus : (rest : List ℕ) → may_close rest ≡ true → opens 43 rest ≡ true
closes_no_plus = closes_opens 43 (unfold each is_word is_letter is_digit is_sign between among in refl)

pub closes_no_minus : (rest : List ℕ) → may_close rest ≡ true → opens 45 rest ≡ true
closes_no_minus = closes_opens 45 (unfold each is_word is_letter is_digit is_sign between among in refl)

-- a sign stops a word
pub sign_stops : (s : ℕ) (rest : List ℕ) → is_sign s ≡ true → may_follow (s ∷ rest) ≡ true
unfolding may_follow
sign_stops s rest e = rw (sign_not_word s e)

pub comma_closes : (rest : List ℕ) → may_close (44 ∷ rest) ≡ true
unfolding may_close
comma_closes rest = refl
