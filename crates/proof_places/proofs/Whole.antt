-- A text's model is read by one course. Assumes nothing.
use Prim.Native.Char.{code}
use Prim.Native.Nat.{ℕ, zero, suc}
use mathlib.Core.Path.{◌≡◌, sym, subst}
use mathlib.Core.Bool.{Bool, true, false, not}
use mathlib.Core.List.{List, [], ◌∷◌}
use lib.Dec.{eqb}
use lib.ListN.{replicate}
use Rattle.base_words.specs.Pick.{if◌then◌or_else◌}
use Rattle.base_words.specs.Counts.{pools, elements}
use Rattle.base_table.specs.Places.{element_words}
use Rattle.check_model.specs.Checks.{Pool}
use Rattle.text_lexer.specs.Lexer.{token_at, if_word}
use Rattle.std.specs.declared.result.Result.TheVariants.{Ok}
use Rattle.text_readers.specs.Reading.{Read, Refused, Reader, misplaced, excessive, passed_to, if_at, onward, ◌then◌, place_of, behind, letters, sign_at, end_at}
use Rattle.text_read.specs.Notation.{Got, one_too_many, put_before, barred, element_alone, elements_at, plain, pool_word, opening, closing, no_pool, unread, closed, inside_pool, pool_of_word, pool, starts_pool, pools_at, model}
use Rattle.proof_places.proofs.Course.{Course, stop, refuse, pass, look, follow, Follows, Reads, got, by, stopped, refusing, after, if_end_lem, turned, ◌next◌, sign_or, by_token, if_follows, word_follows, if_reads, sign_reads, number_reads, skip, skip_reads, end_follows, Told, told, many_follows}
use Rattle.proof_places.proofs.Readers.{element_reads, element-told}

-- THINGS WITH BARS BETWEEN THEM
barred_follows : {A : Type 0} {thing : List ℕ → ℕ → Got A} {starting : List ℕ → ℕ → Bool} → Follows thing → Told starting → (n : ℕ) → Follows (barred thing starting n)
unfolding barred put_before one_too_many
barred_follows f o zero = many_follows [] o
barred_follows {A} {thing} {starting} f o (suc n) =
    after {f = thing} {g = λ v t q. if_at (sign_at (code "|") t q) (λ a. put_before v (barred thing starting n t a)) (record { end = Ok q; value = v ∷ [] })} (λ v. []) f
    (λ v. sign_or (code "|") (turned (λ vs. v ∷ vs) (barred_follows f o n)) (stopped (v ∷ [])))

elements-follow : Follows elements_at
unfolding elements_at element_alone
elements-follow = barred_follows (element_reads.from (replicate element_words 0)) element-told elements

-- A POOL
opening_reads : Reads opening
unfolding opening
opening_reads = sign_reads _ next number_reads _ _ _ next sign_reads _

closing_reads : (k : ℕ) → Reads (closing k)
unfolding closing
closing_reads k = if_reads (eqb k plain) (sign_reads _) (sign_reads _ next number_reads _ _ _ next sign_reads _)

abbrev start : Reader
start = skip (λ x. x) then opening

inside_follows : (k : ℕ) (x : List ℕ) → Follows (λ t at. inside_pool k t (start t at x))
unfolding inside_pool closed
inside_follows k x =
    after {f = λ t at. got (start t at x)}
    {g = λ y t a. if_at (elements_at t a).end (λ c. closed (closing k t c y) (elements_at t a).value) (unread (elements_at t a).end)}
    (λ y. no_pool)
    ((skip_reads (λ x. x) next opening_reads).from x)
    (λ y.
    after {f = elements_at} {g = λ els t c. closed (closing k t c y) els} (λ els. no_pool) elements-follow
    (λ els. turned (λ z. (closed (passed_to 0 z) els).value) ((closing_reads k).from y)))

pool_follows : Follows pool
unfolding pool pool_of_word ◌then◌ onward if_at
pool_follows =
    by_token
    (λ m w t at.
    if_word m
    (if eqb (pool_word w) 0 then unread (Refused misplaced (place_of t at)) or_else inside_pool (pool_word w) t (start t at (0 ∷ 0 ∷ [])))
    (unread (Refused misplaced (place_of t at))))
    (λ m w.
    word_follows m
    (if_follows (eqb (pool_word w) 0) (refusing no_pool) (inside_follows (pool_word w) (0 ∷ 0 ∷ [])))
    (refusing no_pool))

pool-told : Told starts_pool
unfolding starts_pool
pool-told = told (λ m w. if_word m (not (eqb (pool_word w) 0)) false)

pools-follow : Follows pools_at
unfolding pools_at
pools-follow = barred_follows pool_follows pool-told pools

-- THE TEXT
whole_follows : Follows (λ t at. record { end = if_at (pools_at t at).end (end_at t) (pools_at t at).end; value = (pools_at t at).value })
whole_follows =
    by (λ t at. if_end_lem (pools_at t at).end (pools_at t at).end (end_at t) (pools_at t at).value)
    (after {g = λ v t q. record { end = end_at t q; value = v }} (λ v. v) pools-follow end_follows)

pub whole : Course (List Pool)
whole = whole_follows.course

pub whole_is : (t : List ℕ) → model t ≡ follow whole t 0
unfolding model whole
whole_is t = whole_follows.is t 0

-- So a text is read to a place, or refused with 2 or with 3: what holds of all those ends holds of a text's.
module _ (P : Read → Type 0) (read : (q : ℕ) → P (Ok q)) (two : (p : ℕ) → P (Refused misplaced p)) (three : (p : ℕ) → P (Refused excessive p)) where
  follow_ends : {A : Type 0} (c : Course A) (t : List ℕ) (at : ℕ) → P (follow c t at).end
  unfolding follow if◌then◌or_else◌
  follow_ends (stop v) t at = read at
  follow_ends (refuse true v) t at = three (place_of t at)
  follow_ends (refuse false v) t at = two (place_of t at)
  follow_ends (pass c) t at = follow_ends c t (behind t at)
  follow_ends (look f) t at = follow_ends (f (token_at t at).form (letters t at)) t at

  pub model_ends : (t : List ℕ) → P (model t).end
  model_ends t = subst (λ (r : Got (List Pool)). P r.end) (sym (whole_is t)) (follow_ends whole t 0)
