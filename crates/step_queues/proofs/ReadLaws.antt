-- What is read after the messages of a queue are written: these messages there, and what was there in every other queue. Assumes nothing.
use Prim.Native.Nat.{ℕ, zero, suc, ◌+◌, ◌-◌, ◌*◌, ◌≤◌, ◌<◌}
use mathlib.Core.Path.{◌≡◌, ◌∙◌, refl, sym, ap}
use mathlib.Core.Bool.{Bool, true, false}
use mathlib.Core.List.{List, map}
use native.Mathlib.Omega.{arith}
use lib.Dec.{ltb, eqb}
use lib.ListN.{length, get_or, length-map, get_or-map}
use lib.Seq.{ext_get_or}
use borrow.Author.Tests.{ne_eqb}
use Rattle.base_words.specs.Each.{tab}
use Rattle.base_words.specs.Pick.{if◌then◌or_else◌}
use Rattle.base_words.specs.Words.{at}
use Rattle.base_words.specs.Counts.{values, messages, names}
use Rattle.meaning.specs.declared.Tuple.{Tuple}
use Rattle.meaning.specs.Tuples.{empty, value_of}
use Rattle.base_state.specs.Places.{slot_words, queue_words, queue_place, slot_place}
use Rattle.meaning.specs.Queues.{message_count, message_at, messages_of, message_word, messages_word, queue_word, with_messages, tidied, Tidy}
use Rattle.step_queues.proofs.SlotLaws.{by_order, by_slots, queue_count, queue_word_lem, with_word, with_before, with_behind}
use Rattle.step_queues.proofs.QueueLaws.{count_is, message_is_lem}

-- A MESSAGE READ BACK
word_next : (g : Tuple) (j : ℕ) → message_word g (suc j) ≡ value_of g j
unfolding message_word if◌then◌or_else◌
word_next g j = let e : suc j - 1 ≡ j = omega arith in rw (ne_eqb (suc j) 0 (λ z. omega arith), e)

word_first : (g : Tuple) → message_word g 0 ≡ g.length
unfolding message_word if◌then◌or_else◌
word_first g = refl

-- a message read from words that are those of g
read_back : (q : List ℕ) (m k : ℕ) (g : Tuple) → ((d : ℕ) → d < slot_words → at q (slot_place m k + d) ≡ message_word g d) → message_at q m k ≡ tidied g
unfolding tidied
read_back q m k g h =
    let l : at q (slot_place m k) ≡ g.length = let e : slot_place m k + 0 ≡ slot_place m k = omega arith in rw e at (h 0 (omega arith) ∙ word_first g) in
    let v : (j : ℕ) → j < values → at q (slot_place m k + 1 + j) ≡ value_of g j =
    λ j r. let e : slot_place m k + 1 + j ≡ slot_place m k + suc j = omega arith in rw e (h (suc j) (omega arith) ∙ word_next g j) in
    cc (l, v 0 (omega arith), v 1 (omega arith), v 2 (omega arith), v 3 (omega arith))

-- its words are as they were
value_tidied : (g : Tuple) (j : ℕ) → j < values → value_of (tidied g) j ≡ value_of g j
unfolding tidied value_of if◌then◌or_else◌
value_tidied g j h = each j h
  where
    twice : (b : Bool) (x : ℕ) → (if b then if b then x or_else 0 or_else 0) ≡ (if b then x or_else 0)
    twice true x = refl
    twice false x = refl

    each : (j : ℕ) → j < values → value_of (tidied g) j ≡ value_of g j
    each zero h = twice (ltb 0 g.length) (at g.values 0)
    each (suc zero) h = twice (ltb 1 g.length) (at g.values 1)
    each (suc (suc zero)) h = twice (ltb 2 g.length) (at g.values 2)
    each (suc (suc (suc zero))) h = twice (ltb 3 g.length) (at g.values 3)
    each (suc (suc (suc (suc j)))) h = absurd (omega arith)

word_tidied : (g : Tuple) (d : ℕ) → d < slot_words → message_word (tidied g) d ≡ message_word g d
unfolding tidied
word_tidied g zero h = word_first (tidied g) ∙ sym (word_first g)
word_tidied g (suc j) h = word_next (tidied g) j ∙ value_tidied g j (omega arith) ∙ sym (word_next g j)

tidied-empty : tidied empty ≡ empty
unfolding tidied value_of if◌then◌or_else◌
tidied-empty = refl

tidied-at : (ms : List Tuple) (k : ℕ) → get_or (map tidied ms) k empty ≡ tidied (get_or ms k empty)
tidied-at ms k = rw tidied-empty at (get_or-map tidied ms k empty)

queue_tidied : (ms : List Tuple) (i : ℕ) → i < queue_words → queue_word ms i ≡ queue_word (map tidied ms) i
queue_tidied ms =
    by_slots (λ i. queue_word ms i ≡ queue_word (map tidied ms) i) (queue_count ms ∙ sym (length-map ms tidied) ∙ sym (queue_count (map tidied ms)))
    (λ k d l h. queue_word_lem ms k d h ∙ sym (queue_word_lem (map tidied ms) k d h ∙ ap (λ g. message_word g d) (tidied-at ms k) ∙ word_tidied (get_or ms k empty) d h))

-- THE QUEUE THAT IS WRITTEN
module _ (q : List ℕ) (m : ℕ) (ms : List Tuple) (long : length q ≡ queue_words * names) (name : m < names) (room : length ms ≤ messages) where
  queued_with : message_count (with_messages q m ms) m ≡ length ms
  queued_with = let e : queue_place m + 0 ≡ queue_place m = omega arith in rw e at (with_word q m ms (omega arith) 0 (omega arith) ∙ queue_count ms)

  pub messages_with : messages_of (with_messages q m ms) m ≡ map tidied ms
  messages_with =
      ext_get_or empty (messages_of w m) (map tidied ms) (count_is w m ∙ queued_with ∙ sym (length-map ms tidied))
      (λ k h.
      let l : k < length ms = omega (arith, count_is w m, queued_with) in
      message_is_lem w m k (omega (arith, count_is w m)) ∙ read_back w m k (get_or ms k empty) (λ d r. slot k d (omega arith) r) ∙ sym (tidied-at ms k))
    where
      w : List ℕ
      w = with_messages q m ms

      slot : (k d : ℕ) → k < messages → d < slot_words → at w (slot_place m k + d) ≡ message_word (get_or ms k empty) d
      slot k d l h =
          let e : slot_place m k + d ≡ queue_place m + (1 + slot_words * k + d) = omega arith in
          ap (at w) e ∙ with_word q m ms (omega arith) (1 + slot_words * k + d) (omega arith) ∙ queue_word_lem ms k d h

  pub tidy_with : Tidy (with_messages q m ms) m
  tidy_with = record {
    room = omega (arith, queued_with);
    words = λ i h. with_word q m ms (omega arith) i h ∙ queue_tidied ms i h ∙ ap (λ l. queue_word l i) (sym messages_with);
  }

-- ANOTHER QUEUE
module _ (q : List ℕ) (m : ℕ) (ms : List Tuple) (n : ℕ) (other : n ≡ m → ⊥) where
  pub words_other : (i : ℕ) → i < queue_words → at (with_messages q m ms) (queue_place n + i) ≡ at q (queue_place n + i)
  words_other i h =
      by_order n m (λ l. with_before q m ms (queue_place n + i) (omega arith)) (λ e. absurd (other (sym e)))
      (λ l. with_behind q m ms (queue_place n + i) (omega arith))

  queued_other : message_count (with_messages q m ms) n ≡ message_count q n
  queued_other = let e : queue_place n + 0 ≡ queue_place n = omega arith in rw e at (words_other 0 (omega arith))

  pub messages_other : message_count q n ≤ messages → messages_of (with_messages q m ms) n ≡ messages_of q n
  messages_other room =
      ext_get_or empty (messages_of w n) (messages_of q n) (count_is w n ∙ queued_other ∙ sym (count_is q n))
      (λ k h.
      let l : k < message_count q n = omega (arith, count_is w n, queued_other) in
      message_is_lem w n k (omega (arith, count_is w n)) ∙ message_same k (omega arith) ∙ sym (message_is_lem q n k l))
    where
      w : List ℕ
      w = with_messages q m ms

      message_same : (k : ℕ) → k < messages → message_at w n k ≡ message_at q n k
      message_same k l =
          let s : (d : ℕ) → d < slot_words → at w (slot_place n k + d) ≡ at q (slot_place n k + d) =
          λ d h. let e : slot_place n k + d ≡ queue_place n + (1 + slot_words * k + d) = omega arith in rw e (words_other (1 + slot_words * k + d) (omega arith)) in
          let a : at w (slot_place n k) ≡ at q (slot_place n k) = let e : slot_place n k + 0 ≡ slot_place n k = omega arith in rw e at (s 0 (omega arith)) in
          let v : (j : ℕ) → j < values → at w (slot_place n k + 1 + j) ≡ at q (slot_place n k + 1 + j) =
          λ j h. let e : slot_place n k + 1 + j ≡ slot_place n k + suc j = omega arith in rw e (s (suc j) (omega arith)) in
          cc (a, v 0 (omega arith), v 1 (omega arith), v 2 (omega arith), v 3 (omega arith))

  pub tidy_other : Tidy q n → Tidy (with_messages q m ms) n
  tidy_other t = record {
    room = omega (arith, queued_other, t.room);
    words = λ i h. words_other i h ∙ t.words i h ∙ ap (λ l. queue_word l i) (sym (messages_other t.room));
  }

-- A QUEUE OF ZEROS is tidy: it holds no message
pub tidy_blank : (q : List ℕ) (m : ℕ) → ((i : ℕ) → i < queue_words → at q (queue_place m + i) ≡ 0) → Tidy q m
unfolding messages_of tab queue_word messages_word if◌then◌or_else◌
tidy_blank q m blank = record { room = omega (arith, count); words = λ i h. rw count (blank i h ∙ zero_word (eqb i 0)) }
  where
    count : message_count q m ≡ 0
    count = let e : queue_place m + 0 ≡ queue_place m = omega arith in rw e at (blank 0 (omega arith))

    zero_word : (b : Bool) → ◌≡◌ {A = ℕ} 0 (if b then 0 or_else 0)
    zero_word true = refl
    zero_word false = refl
