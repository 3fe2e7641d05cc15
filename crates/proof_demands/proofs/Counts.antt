-- Lists of messages by how often each is there: whether one is there, and that equal counts are equal lengths. Assumes nothing.
use Prim.Native.Nat.{◌+◌, ◌<◌}
use mathlib.Core.Path.{◌≡◌, refl, sym, ◌∙◌}
use mathlib.Core.Bool.{Bool, true, false, false≢true}
use mathlib.Core.List.{List, [], ◌∷◌, ◌++◌}
use native.Mathlib.Nat.{not-suc-le-zero}
use native.Mathlib.Omega.{arith}
use lib.ListN.{length, length-append}
use Rattle.base_words.specs.Pick.{if◌then◌or_else◌}
use Rattle.base_words.specs.Sum.{one_if}
use Rattle.meaning.specs.declared.Tuple.{Tuple}
use Rattle.meaning.specs.Tuples.{same_tuple}
use Rattle.meaning.specs.Messages.{has, without, times}
use Rattle.step_values.proofs.TupleLaws.{same_refl}
use Rattle.step_queues.proofs.MessageLaws.{length_without, times_append, times-without}

pub has-times : (g : Tuple) (ms : List Tuple) → has g ms ≡ true → 0 < times g ms
unfolding has times if◌then◌or_else◌
has-times g [] h = absurd (false≢true h)
has-times g (x ∷ xs) h = go (same_tuple x g) h (has-times g xs)
  where
    go : (b : Bool) → (if b then true or_else has g xs) ≡ true → (has g xs ≡ true → 0 < times g xs) → 0 < one_if b + times g xs
    go true e rest = omega arith
    go false e rest = omega (arith, rest e)

pub times-has : (g : Tuple) (ms : List Tuple) → 0 < times g ms → has g ms ≡ true
unfolding has times if◌then◌or_else◌
times-has g [] h = absurd (not-suc-le-zero h)
times-has g (x ∷ xs) h = go (same_tuple x g) h (times-has g xs)
  where
    go : (b : Bool) → 0 < one_if b + times g xs → (0 < times g xs → has g xs ≡ true) → (if b then true or_else has g xs) ≡ true
    go true l rest = refl
    go false l rest = rest (omega arith)

-- the first message of a list is there
times_first : (x : Tuple) (xs : List Tuple) → 0 < times x (x ∷ xs)
unfolding times
times_first x xs = rw (same_refl x) (omega arith)

-- one message more on both sides
times_next : (v x : Tuple) (xs : List Tuple) → times v (x ∷ xs) ≡ one_if (same_tuple x v) + times v xs
unfolding times
times_next v x xs = refl

times_none : (v : Tuple) → times v [] ≡ 0
unfolding times
times_none v = refl

-- EQUAL COUNTS, EQUAL LENGTHS
pub times-length : (a b : List Tuple) → ((v : Tuple) → times v a ≡ times v b) → length a ≡ length b
times-length [] [] h = refl
times-length [] (y ∷ b) h = absurd (omega (arith, h y, times_none y, times_first y b))
times-length (x ∷ a) b h =
    let here : has x b ≡ true = times-has x b (omega (arith, h x, times_first x a)) in
    omega (arith, length_without x b here, times-length a (without x b) (λ v. omega (arith, times-without x v b here, h v, times_next v x a)))

-- those of two lists together
pub times_lengths : (a b c : List Tuple) → ((v : Tuple) → times v a ≡ times v b + times v c) → length a ≡ length b + length c
times_lengths a b c h = times-length a (b ++ c) (λ v. h v ∙ sym (times_append v b c)) ∙ length-append b c
