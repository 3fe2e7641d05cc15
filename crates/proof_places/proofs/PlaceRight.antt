-- THE PLACE OF A REFUSAL IS RIGHT: no text that agrees with a refused one up to and including the token at the refusal's place is accepted, or refused
-- with another number or at another place. Assumes nothing.
use Prim.Native.Nat.{ℕ}
use mathlib.Core.Path.{◌≡◌, ◌∙◌, refl, sym, ap, subst}
use mathlib.Core.Bool.{false}
use mathlib.Core.List.{List}
use native.Mathlib.Omega.{arith}
use lib.Dec.{ltb}
use lib.ListN.{length}
use Rattle.base_words.specs.Pick.{if◌then◌or_else◌}
use Rattle.base_words.specs.Counts.{text_most}
use Rattle.text_lexer.specs.declared.Token.{Token}
use Rattle.text_lexer.specs.Lexer.{token_at}
use Rattle.std.specs.declared.result.Result.TheVariants.{Ok, Err}
use Rattle.text_readers.specs.Reading.{Read, Refused, misplaced, excessive, behind, letters}
use Rattle.check_model.specs.Checks.{Pool}
use Rattle.text_read.specs.Notation.{Got, model, judged, read_into}
use Rattle.proof_places.specs.Places.{Agree}
use Rattle.proof_places.proofs.Same.{Seen, itself, Same, seen_before, agree_same}
use Rattle.proof_places.proofs.Course.{Course, stop, refuse, pass, look, follow}
use Rattle.proof_places.proofs.Whole.{whole, whole_is}

-- an end that is seen from p
unfoldable Good : List ℕ → ℕ → Read → Type 0
Good t p (Ok q) = Seen t p q
Good t p (Err e) = e.place ≡ p

-- the result a in t is the result b in u, and the token where it began is seen
record Kept {A : Type 0} (t : List ℕ) (p at : ℕ) (a b : A) : Type 0 where
  same : b ≡ a
  seen : Seen t p at

-- What a course does rests on the tokens that it passed and on the one behind them: where its end is a refusal at p, or a place whose token is seen, it does
-- the same in every text with the same seen tokens.
module _ {A : Type 0} (t u : List ℕ) (p : ℕ) (same : Same t u p) where
  local : (c : Course A) (at : ℕ) → Good t p (follow c t at).end → Kept t p at (follow c t at) (follow c u at)
  unfolding follow Good
  local (stop v) at good = record { same = refl; seen = good }
  local (refuse above v) at good =
      record {
        same = ap (λ (k : Token). record { end = Refused (if above then excessive or_else misplaced) k.at; value = v }) (same.token at (itself good));
        seen = itself good;
      }
  local (pass c) at good =
      let a = local c (behind t at) good in
      let s : Seen t p at = seen_before t p at a.seen in
      record { same = ap (λ (k : Token). follow c u k.next) (same.token at s) ∙ a.same; seen = s }
  local (look f) at good =
      let a = local (f (token_at t at).form (letters t at)) at good in
      record {
        same = ap (λ (k : Token). follow (f k.form (letters u at)) u at) (same.token at a.seen)
            ∙ ap (λ (w : List ℕ). follow (f (token_at t at).form w) u at) (same.word at a.seen)
            ∙ a.same;
        seen = a.seen;
      }

module _ (t u : List ℕ) (n p : ℕ) where
  same_refused : Same t u p → (model t).end ≡ Refused n p → (model u).end ≡ Refused n p
  unfolding Good
  same_refused same refusal =
      let e : (follow whole t 0).end ≡ Refused n p = sym (ap (λ (r : Got (List Pool)). r.end) (whole_is t)) ∙ refusal in
      let a = local t u p same whole 0 (subst (Good t p) (sym e) refl) in
      ap (λ (r : Got (List Pool)). r.end) (whole_is u ∙ a.same) ∙ e

  pub place_right : (model t).end ≡ Refused n p → Agree t u p → (model u).end ≡ Refused n p
  place_right refusal agree = same_refused (agree_same t u p agree) refusal

  -- such a text is not accepted, and what reading it into a table answers is that number and place, and the table as it was
  pub not_accepted : (model t).end ≡ Refused n p → Agree t u p → (q : ℕ) → (model u).end ≡ Ok q → ⊥
  not_accepted refusal agree q e = let z : Refused n p ≡ Ok q = sym (place_right refusal agree) ∙ e in let c : ◌≡◌ {A = ℕ} 0 1 = cc in absurd (omega arith)

  pub answer_right : (model t).end ≡ Refused n p → Agree t u p → ltb text_most (length u) ≡ false → (table : List ℕ) → read_into u table ≡ record { number = n; beside = p; table = table }
  unfolding read_into judged if◌then◌or_else◌
  answer_right refusal agree short table = rw short (ap (λ (r : Read). judged r (model u).value table) (place_right refusal agree))
