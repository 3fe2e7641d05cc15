-- EVERY PLACE OF A REFUSAL IS THAT OF A TOKEN of the text, or of its end, and no place lies beyond the text. Assumes nothing.
use Prim.Native.Nat.{ℕ, zero, suc, ◌≤◌}
use mathlib.Core.Path.{◌≡◌, ◌∙◌, sym, ap, subst}
use mathlib.Core.Bool.{Bool, true, false}
use mathlib.Core.List.{List, map}
use mathlib.Core.Logic.{◌⊎◌, inl, inr}
use native.Mathlib.Omega.{arith}
use lib.Dec.{eqb, ltb}
use lib.ListN.{length}
use Rattle.base_words.specs.Each.{each}
use Rattle.base_words.specs.Pick.{if◌then◌or_else◌}
use Rattle.base_words.specs.Counts.{text_most}
use Rattle.text_lexer.specs.declared.Token.{Token}
use Rattle.text_lexer.proofs.TokenLaws.{token_order, token_end, token_within}
use Rattle.text_lexer.proofs.LocalLaws.{token_again}
use Rattle.std.specs.declared.result.Result.TheVariants.{Ok, Err}
use Rattle.text_readers.specs.Reading.{Read, Refused, misplaced, excessive}
use Rattle.check_model.specs.Checks.{Pool, lowest}
use Rattle.text_read.specs.Notation.{model, table_of, rewritten, has_room, ReadInto, checked, judged, read_into}
use Rattle.proof_places.specs.Places.{behind_first, kth_token, TokenPlace, EndAlike, both_read, both_refused}
use Rattle.proof_places.proofs.Steady.{itself, model_steady}

pub behind_within : (t : List ℕ) (k : ℕ) → behind_first t k ≤ length t
unfolding behind_first
behind_within t zero = omega arith
behind_within t (suc k) = token_within t (behind_first t k) (behind_within t k)

pub kth_place : (t : List ℕ) (k : ℕ) → TokenPlace t (kth_token t k).at
kth_place t k =
    let again = token_again t (behind_first t k) in
    let within : (kth_token t k).at ≤ length t = omega (arith, token_order t (behind_first t k), token_within t (behind_first t k) (behind_within t k)) in
    record {
      ordinal = k;
      token = again;
      first_byte = ap (λ (x : Token). x.at) again;
      within = within;
      end = λ e. sym (ap (λ (x : Token). x.at) again) ∙ ap (λ (x : Token). x.at) (token_end t (kth_token t k).at e within);
    }

-- a refusal has such a place
unfoldable Placed : List ℕ → Read → Type 0
Placed t (Ok q) = record {}
Placed t (Err e) = TokenPlace t e.place

model_placed : (t : List ℕ) → Placed t (model t).end
unfolding Placed
model_placed t = go (model_steady t t (itself t)).end
  where
    go : EndAlike t t (model t).end (model t).end → Placed t (model t).end
    go (both_read k e f) = subst (Placed t) (sym e) (record {})
    go (both_refused n k e f) = subst (Placed t) (sym e) (kth_place t k)

pub refusal_place : (t : List ℕ) (n p : ℕ) → (model t).end ≡ Refused n p → TokenPlace t p
unfolding Placed
refusal_place t n p e = subst (Placed t) e (model_placed t)

-- and what reading a text into a table gives beside 2 and 3 is one
abbrev pub AtPlace : ReadInto → Type 0
AtPlace r = (r.number ≡ misplaced) ⊎ (r.number ≡ excessive)

neither : {P : Type 0} (n : ℕ) → (n ≡ 2 → ⊥) → (n ≡ 3 → ⊥) → (n ≡ 2) ⊎ (n ≡ 3) → P
neither n a b (inl e) = absurd (a e)
neither n a b (inr e) = absurd (b e)

judged_place : (t : List ℕ) (r : Read) (ps : List Pool) (table : List ℕ) → Placed t r → AtPlace (judged r ps table) → TokenPlace t (judged r ps table).beside
unfolding judged Placed checked if◌then◌or_else◌
judged_place t (Err d) ps table placed e = placed
judged_place t (Ok q) ps table placed e = go (eqb (lowest ps) 0) (each has_room ps) e
  where
    go : (b r : Bool)
        → AtPlace (if b then (if r then record { number = 0; beside = 0; table = table_of (map rewritten ps) } or_else record { number = 28; beside = 0; table = table }) or_else record { number = 4; beside = lowest ps; table = table })
        → TokenPlace t (judged (Ok q) ps table).beside
    go true true e = neither 0 (λ n. omega arith) (λ n. omega arith) e
    go true false e = neither 28 (λ n. omega arith) (λ n. omega arith) e
    go false r e = neither 4 (λ n. omega arith) (λ n. omega arith) e

pub answer_place : (t table : List ℕ) → AtPlace (read_into t table) → TokenPlace t (read_into t table).beside
unfolding read_into if◌then◌or_else◌
answer_place t table = go (ltb text_most (length t))
  where
    go : (b : Bool) → AtPlace (if b then record { number = 1; beside = 0; table = table } or_else judged (model t).end (model t).value table) → TokenPlace t (if b then record { number = 1; beside = 0; table = table } or_else judged (model t).end (model t).value table).beside
    go true e = neither 1 (λ n. omega arith) (λ n. omega arith) e
    go false e = judged_place t (model t).end (model t).value table (model_placed t) e
