-- Sending and consuming, seen through the lists of messages: what is read after them, how often a message is then there, and that a queue stays
-- tidy. Assumes nothing.
use Prim.Native.Nat.{ℕ, zero, suc, ◌+◌, ◌*◌, ◌≤◌, ◌<◌}
use mathlib.Core.Path.{◌≡◌, ◌∙◌, refl, sym, ap}
use mathlib.Core.Bool.{Bool, true, false}
use mathlib.Core.List.{List, [], ◌∷◌, ◌++◌, map, map-append}
use native.Mathlib.Omega.{arith}
use lib.Dec.{eqb}
use lib.ListN.{length, length-append}
use borrow.Author.Tests.{eq-eqb, lt-ltb}
use Rattle.base_words.specs.All.{all}
use Rattle.base_words.specs.Pick.{if◌then◌or_else◌}
use Rattle.base_words.specs.Sum.{one_if}
use Rattle.base_words.specs.Words.{at}
use Rattle.base_words.specs.Counts.{values, messages, names}
use Rattle.base_words.proofs.AllLaws.{all_of}
use Rattle.base_words.proofs.PickLaws.{and_true}
use Rattle.meaning.specs.declared.Tuple.{Tuple}
use Rattle.meaning.specs.Tuples.{value_of, same_tuple}
use Rattle.base_state.specs.Places.{queue_words}
use Rattle.meaning.specs.Messages.{has, without, times}
use Rattle.meaning.specs.Queues.{message_count, messages_of, with_messages, sending, consuming, tidied, Tidy}
use Rattle.step_queues.proofs.MessageLaws.{times_append, times-without, same_both}
use Rattle.step_queues.proofs.SlotLaws.{is_with}
use Rattle.step_queues.proofs.QueueLaws.{count_is, fits, slot_is}
use Rattle.step_queues.proofs.ReadLaws.{messages_with, tidy_with}

-- A TIDIED MESSAGE is equal to the one that it was, where that has at most 4 values
value_in_lem : (g : Tuple) (j : ℕ) → j < g.length → value_of g j ≡ at g.values j
unfolding value_of if◌then◌or_else◌
value_in_lem g j h = rw (lt-ltb j g.length h)

pub tidied_same : (g : Tuple) → g.length ≤ values → same_tuple (tidied g) g ≡ true
unfolding same_tuple tidied
tidied_same g l =
    and_true (eqb g.length g.length) (all same g.length) (eq-eqb g.length g.length refl)
    (all_of same g.length (λ j h. eq-eqb (at vs j) (at g.values j) (stored_value j (omega arith) ∙ value_in_lem g j h)))
  where
    vs : List ℕ
    vs = value_of g 0 ∷ value_of g 1 ∷ value_of g 2 ∷ value_of g 3 ∷ []

    same : ℕ → Bool
    same j = eqb (at vs j) (at g.values j)

    stored_value : (j : ℕ) → j < values → at vs j ≡ value_of g j
    stored_value zero h = refl
    stored_value (suc zero) h = refl
    stored_value (suc (suc zero)) h = refl
    stored_value (suc (suc (suc zero))) h = refl
    stored_value (suc (suc (suc (suc j)))) h = absurd (omega arith)

-- what is left of tidied messages is tidied, and no more
without-tidied : (g : Tuple) (ms : List Tuple) → map tidied ms ≡ ms → map tidied (without g ms) ≡ without g ms
unfolding without if◌then◌or_else◌
without-tidied g [] e = refl
without-tidied g (x ∷ xs) e = go (same_tuple x g) (without-tidied g xs (cc))
  where
    go : (b : Bool) → map tidied (without g xs) ≡ without g xs → map tidied (if b then xs or_else x ∷ without g xs) ≡ (if b then xs or_else x ∷ without g xs)
    go true ih = cc
    go false ih = cc

without_le : (g : Tuple) (ms : List Tuple) → length (without g ms) ≤ length ms
unfolding without if◌then◌or_else◌
without_le g [] = omega arith
without_le g (x ∷ xs) = go (same_tuple x g) (without_le g xs)
  where
    go : (b : Bool) → length (without g xs) ≤ length xs → length (if b then xs or_else x ∷ without g xs) ≤ suc (length xs)
    go true ih = omega arith
    go false ih = omega arith

module _ (q : List ℕ) (m : ℕ) (long : length q ≡ queue_words * names) (name : m < names) (tidy : Tidy q m) where
  -- the words of its messages are its words
  pub unchanged : q ≡ with_messages q m (messages_of q m)
  unchanged = is_with q m (messages_of q m) q (fits q m long name tidy) refl (sym (count_is q m)) (slot_is q m long name tidy) (λ j l. refl) (λ j l. refl)

  few : length (messages_of q m) ≤ messages
  few = omega (arith, count_is q m, tidy.room)

  messages-tidied : map tidied (messages_of q m) ≡ messages_of q m
  messages-tidied = sym (messages_with q m (messages_of q m) long name few) ∙ ap (λ s. messages_of s m) (sym unchanged)

  module _ (g : Tuple) where
    -- SENDING
    module _ (room : message_count q m < messages) where
      more : length (messages_of q m ++ (g ∷ [])) ≤ messages
      more = simp length-append (omega (arith, count_is q m))

      pub tidy_sending : Tidy (sending q m g) m
      tidy_sending = tidy_with q m (messages_of q m ++ (g ∷ [])) long name more

      pub messages-sending : messages_of (sending q m g) m ≡ messages_of q m ++ (tidied g ∷ [])
      messages-sending =
          messages_with q m (messages_of q m ++ (g ∷ [])) long name more
          ∙ map-append tidied (messages_of q m) (g ∷ [])
          ∙ ap (λ l. l ++ (tidied g ∷ [])) messages-tidied

      pub times-sending : (v : Tuple) → g.length ≤ values → times v (messages_of (sending q m g) m) ≡ times v (messages_of q m) + one_if (same_tuple g v)
      unfolding times
      times-sending v l =
          ap (times v) messages-sending
          ∙ times_append v (messages_of q m) (tidied g ∷ [])
          ∙ rw (same_both (tidied g) g v (tidied_same g l)) (omega arith)

    -- CONSUMING
    fewer : length (without g (messages_of q m)) ≤ messages
    fewer = omega (arith, few, without_le g (messages_of q m))

    pub tidy_consuming : Tidy (consuming q m g) m
    tidy_consuming = tidy_with q m (without g (messages_of q m)) long name fewer

    pub messages-consuming : messages_of (consuming q m g) m ≡ without g (messages_of q m)
    messages-consuming = messages_with q m (without g (messages_of q m)) long name fewer ∙ without-tidied g (messages_of q m) messages-tidied

    pub times-consuming : (v : Tuple) → has g (messages_of q m) ≡ true → times v (messages_of (consuming q m g) m) + one_if (same_tuple g v) ≡ times v (messages_of q m)
    times-consuming v h = rw messages-consuming (times-without g v (messages_of q m) h)
