-- Tests of the code, and refusals in parts. Assumes nothing.
use Prim.Native.Nat.{ℕ}
use mathlib.Core.Path.{◌≡◌, refl}
use mathlib.Core.Bool.{Bool, true, false, not, ◌&&◌, false≢true}
use mathlib.Core.List.{List, [], ◌∷◌, ◌++◌}
use lib.Dec.{eqb, ltb}
use lib.ListN.{length, get_or}
use borrow.Author.Tests.{eqb-false}
use Rattle.base_words.specs.Pick.{if◌then◌or_else◌}
use Rattle.base_words.specs.Each.{each}
use Rattle.base_words.specs.Counts.{messages}
use Rattle.base_words.proofs.AllLaws.{and_left, and_right}
use Rattle.base_words.proofs.ListLaws.{each_at}
use Rattle.base_kinds.specs.declared.moves.Move.{Move}
use Rattle.meaning.specs.declared.Tuple.{Tuple}
use Rattle.meaning.specs.Messages.{has}
use Rattle.meaning.specs.Queues.{message_count, messages_of}
use Rattle.meaning.specs.Refusals.{Refusal, ◌unless◌, first_refusal}
use Rattle.meaning.specs.Requirements.{roomy}
use Rattle.meaning.specs.Step.{refusals_at}
use Rattle.step_queues.specs.Changes.{oldest}
use Rattle.step_queues.proofs.QueueLaws.{count_is, present_is}
use Rattle.step_refusals.specs.Chain.{number_at, listed, of_queues}

-- 15 and 17, as the code tests them
pub present_by : (q : List ℕ) (m : ℕ) (g : Tuple) (r n : ℕ) → r ≡ oldest q m g → n ≡ message_count q m → ltb r n ≡ has g (messages_of q m)
present_by q m g r n e f = rw (e, f) (present_is q m g)

pub place_by : (q : List ℕ) (m r : ℕ) → r ≡ message_count q m → ltb r messages ≡ ltb (length (messages_of q m)) messages
place_by q m r e = rw (e, count_is q m)

-- 15 to 18, where nothing refuses
pub none_after : (el h : List ℕ) (m : Move) (b : ℕ) (message_count below space : Bool) → message_count ≡ true → below ≡ true → space ≡ true → roomy el h m b ≡ true
    → 0 ≡ first_refusal (of_queues el h m b message_count below space)
unfolding first_refusal if◌then◌or_else◌ number_at listed of_queues refusals_at
none_after el h m b message_count below space e₁ e₂ e₃ e₄ = rw (e₁, e₂, e₃, e₄)

-- Refusals in two parts: the first that does not hold stands in the first part, or all of that hold.
pub stops : (us vs : List Refusal) → (first_refusal us ≡ 0 → ⊥) → first_refusal (us ++ vs) ≡ first_refusal us
unfolding first_refusal if◌then◌or_else◌
stops [] vs h = absurd (h refl)
stops (a ∷ us) vs h = go a.holds h (λ k. stops us vs k)
  where
    go : (b : Bool) → ((if b then first_refusal us or_else a.number) ≡ 0 → ⊥) → ((first_refusal us ≡ 0 → ⊥) → first_refusal (us ++ vs) ≡ first_refusal us)
        → (if b then first_refusal (us ++ vs) or_else a.number) ≡ (if b then first_refusal us or_else a.number)
    go true k f = f k
    go false k f = refl

-- no number of these is 0
unfoldable pub numbered : List Refusal → Bool
numbered us = each (λ (a : Refusal). not (eqb a.number 0)) us

not_back : (b : Bool) → not b ≡ true → b ≡ false
not_back false h = refl
not_back true h = absurd (false≢true h)

pub passes : (us vs : List Refusal) → numbered us ≡ true → first_refusal us ≡ 0 → first_refusal (us ++ vs) ≡ first_refusal vs
unfolding first_refusal if◌then◌or_else◌ numbered each
passes [] vs k e = refl
passes (a ∷ us) vs k e =
    go a.holds e (λ f. passes us vs (and_right (not (eqb a.number 0)) (numbered us) k) f)
    (eqb-false a.number 0 (not_back (eqb a.number 0) (and_left (not (eqb a.number 0)) (numbered us) k)))
  where
    go : (b : Bool) → (if b then first_refusal us or_else a.number) ≡ 0 → (first_refusal us ≡ 0 → first_refusal (us ++ vs) ≡ first_refusal vs)
        → (a.number ≡ 0 → ⊥) → (if b then first_refusal (us ++ vs) or_else a.number) ≡ first_refusal vs
    go true e f n = f e
    go false e f n = absurd (n e)

-- where nothing is refused, all hold
pub all_hold : (us : List Refusal) → numbered us ≡ true → first_refusal us ≡ 0 → each (λ (a : Refusal). a.holds) us ≡ true
unfolding first_refusal if◌then◌or_else◌ numbered each
all_hold [] k e = refl
all_hold (a ∷ us) k e =
    go a.holds e (λ f. all_hold us (and_right (not (eqb a.number 0)) (numbered us) k) f)
    (eqb-false a.number 0 (not_back (eqb a.number 0) (and_left (not (eqb a.number 0)) (numbered us) k)))
  where
    go : (b : Bool) → (if b then first_refusal us or_else a.number) ≡ 0 → (first_refusal us ≡ 0 → each (λ (a : Refusal). a.holds) us ≡ true)
        → (a.number ≡ 0 → ⊥) → b && each (λ (a : Refusal). a.holds) us ≡ true
    go true e f n = f e
    go false e f n = absurd (n e)

-- the condition at place i
pub hold_at : (us : List Refusal) → numbered us ≡ true → first_refusal us ≡ 0 → (i : ℕ) → (get_or us i (1 unless true)).holds ≡ true
hold_at us k e i = each_at (λ (a : Refusal). a.holds) us (1 unless true) (all_hold us k e) refl i
