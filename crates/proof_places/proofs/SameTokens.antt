-- ONLY THE SEQUENCE OF TOKENS COUNTS: texts that have the same are read to the same model, or refused at tokens with the same ordinal and with the same
-- number; blanks change nothing but places. Assumes nothing.
use Prim.Native.Nat.{ℕ, ◌≤◌}
use mathlib.Core.Path.{◌≡◌, ◌∙◌, sym, ap}
use mathlib.Core.List.{List}
use lib.ListN.{length}
use borrow.Author.Tests.{le-ltb}
use Rattle.base_words.specs.Pick.{if◌then◌or_else◌}
use Rattle.base_words.specs.Counts.{text_most}
use Rattle.check_model.specs.Checks.{Pool, lowest}
use Rattle.text_read.specs.Notation.{model, ReadInto, checked, judged, read_into}
use Rattle.proof_places.specs.Places.{EndAlike, both_read, both_refused, ReadAlike}
use Rattle.proof_places.proofs.Steady.{model_steady}
use Rattle.proof_places.specs.Sequence.{tokens, AnswerAlike, same, placed}
use Rattle.proof_places.proofs.Tokens.{tokens_level}
use Rattle.text_readers.specs.Reading.{Read}

module _ (t u : List ℕ) (alike : tokens t ≡ tokens u) where
  pub read_alike : ReadAlike t u (model t) (model u)
  read_alike = model_steady t u (tokens_level t u alike)

  -- so the lowest check broken is the same, and reading them into a table answers alike
  pub lowest_alike : lowest (model t).value ≡ lowest (model u).value
  lowest_alike = ap lowest read_alike.value

  module _ (x : List ℕ) (short : length t ≤ text_most) (short-too : length u ≤ text_most) where
    answer : (v : List ℕ) → length v ≤ text_most → (r : Read) → (model v).end ≡ r → read_into v x ≡ judged r (model v).value x
    unfolding read_into if◌then◌or_else◌
    answer v l r e = rw (le-ltb text_most (length v) l) (ap (λ (r : Read). judged r (model v).value x) e)

    pub answer_alike : AnswerAlike t u x (read_into t x) (read_into u x)
    unfolding judged
    answer_alike = go read_alike.end
      where
        go : EndAlike t u (model t).end (model u).end → AnswerAlike t u x (read_into t x) (read_into u x)
        go (both_read k e f) = same (answer t short _ e ∙ ap (λ (ps : List Pool). checked (lowest ps) ps x) read_alike.value ∙ sym (answer u short-too _ f))
        go (both_refused n k e f) = placed n k (answer t short _ e) (answer u short-too _ f)

    number_of : AnswerAlike t u x (read_into t x) (read_into u x) → (read_into t x).number ≡ (read_into u x).number
    number_of (same e) = ap (λ (r : ReadInto). r.number) e
    number_of (placed n k e f) = ap (λ (r : ReadInto). r.number) e ∙ sym (ap (λ (r : ReadInto). r.number) f)

    table_of : AnswerAlike t u x (read_into t x) (read_into u x) → (read_into t x).table ≡ (read_into u x).table
    table_of (same e) = ap (λ (r : ReadInto). r.table) e
    table_of (placed n k e f) = ap (λ (r : ReadInto). r.table) e ∙ sym (ap (λ (r : ReadInto). r.table) f)

    pub number_alike : (read_into t x).number ≡ (read_into u x).number
    number_alike = number_of answer_alike

    pub table_alike : (read_into t x).table ≡ (read_into u x).table
    table_alike = table_of answer_alike
