-- What the code writes is the operation on the list of messages, where a queue holds 0 in what is not in use. Assumes nothing.
use Prim.Native.Nat.{ℕ, suc, ◌+◌, ◌-◌, ◌*◌, ◌≤◌, ◌<◌}
use mathlib.Core.Path.{◌≡◌, ◌∙◌, sym, ap}
use mathlib.Core.Bool.{true}
use mathlib.Core.List.{List, [], ◌∷◌, ◌++◌}
use native.Mathlib.Omega.{arith}
use lib.Dec.{ltb}
use lib.ListN.{length, get_or, length-set, length-append, get_or-append, get_or-eq_default}
use lib.Seq.{get_or_at, get_or-set_same, get_or-set_other}
use borrow.Author.Tests.{lt-ltb, ltb-true}
use Rattle.base_words.specs.Pick.{if◌then◌or_else◌}
use Rattle.base_words.specs.Words.{at}
use Rattle.base_words.specs.Counts.{messages, names}
use Rattle.base_words.proofs.SeekLaws.{sought}
use Rattle.base_words.proofs.WritesLaws.{length-writes, writes_in, writes_below, writes_above}
use Rattle.meaning.specs.declared.Tuple.{Tuple}
use Rattle.meaning.specs.Tuples.{empty}
use Rattle.base_state.specs.Places.{slot_words, queue_words, queue_place, slot_place}
use Rattle.meaning.specs.Messages.{has, without}
use Rattle.meaning.specs.Queues.{message_count, message_at, messages_of, message_word, sending, consuming, Tidy}
use Rattle.step_queues.specs.Changes.{message_is, oldest, stored, one_more, extended, closed_up, removed}
use Rattle.base_words.proofs.ListLaws.{length-tab, get_d_tab}
use Rattle.step_queues.proofs.MessageLaws.{seek-has, length_without, First, without_below, without_above}
use Rattle.step_queues.proofs.SlotLaws.{by_below, by_order, queue_word_lem, is_with, length_stored, stored_word, stored_before, stored_behind}

-- OF ANY QUEUE: the count, message k, whether a message equal to g is there, and where the oldest is
module _ (q : List ℕ) (m : ℕ) where
  pub count_is : length (messages_of q m) ≡ message_count q m
  unfolding messages_of
  count_is = length-tab (message_at q m) (message_count q m)

  pub message_is_lem : (k : ℕ) → k < message_count q m → get_or (messages_of q m) k empty ≡ message_at q m k
  unfolding messages_of
  message_is_lem k h = get_d_tab (message_at q m) (message_count q m) k empty h

  pub present_is : (g : Tuple) → ltb (oldest q m g) (message_count q m) ≡ has g (messages_of q m)
  unfolding oldest message_is messages_of
  present_is g = seek-has g (message_at q m) (message_count q m)

  pub oldest_first : (g : Tuple) → has g (messages_of q m) ≡ true → First g empty (messages_of q m) (oldest q m g)
  unfolding oldest message_is
  oldest_first g h =
      let s = sought (message_is q m g) (message_count q m) in
      let l : oldest q m g < message_count q m = ltb-true _ _ (present_is g ∙ h) in
      (omega (arith, count_is), rw (message_is_lem (oldest q m g) l) (s.1 l), (λ j r. rw (message_is_lem j (omega arith)) (s.2 j r)))

word : (d : ℕ) {x y : Tuple} → x ≡ y → message_word x d ≡ message_word y d
word d e = ap (λ z. message_word z d) e

-- OF A TIDY ONE
module _ (q : List ℕ) (m : ℕ) (long : length q ≡ queue_words * names) (name : m < names) (tidy : Tidy q m) where
  pub fits : queue_place m + queue_words ≤ length q
  fits = omega arith

  pub slot_is : (k d : ℕ) → k < messages → d < slot_words → at q (slot_place m k + d) ≡ message_word (get_or (messages_of q m) k empty) d
  slot_is k d l h =
      let e : slot_place m k + d ≡ queue_place m + (1 + slot_words * k + d) = omega arith in
      ap (at q) e ∙ tidy.words (1 + slot_words * k + d) (omega arith) ∙ queue_word_lem (messages_of q m) k d h

  -- appending puts a message behind the others
  pub extended_is : (g : Tuple) → message_count q m < messages → extended q m g ≡ sending q m g
  unfolding extended one_more if◌then◌or_else◌
  extended_is g room =
      is_with q m (ms ++ (g ∷ [])) (extended q m g) fits
      (length-set s (queue_place m) (one_more n) ∙ length_stored q m n g)
      (get_or-set_same s (queue_place m) (one_more n) 0 (omega (arith, length_stored q m n g)) ∙ rw (lt-ltb n messages room) (simp length-append (omega (arith, count_is q m))))
      (λ k d l h. get_or-set_other s (queue_place m) (slot_place m k + d) (one_more n) 0 (λ e. omega arith) ∙ slot k d l h)
      (λ j l. get_or-set_other s (queue_place m) j (one_more n) 0 (λ e. omega arith) ∙ stored_before q m n g j (omega arith))
      (λ j l. get_or-set_other s (queue_place m) j (one_more n) 0 (λ e. omega arith) ∙ stored_behind q m n g j (omega arith))
    where
      n : ℕ
      n = message_count q m

      ms : List Tuple
      ms = messages_of q m

      s : List ℕ
      s = stored q m n g

      slot : (k d : ℕ) → k < messages → d < slot_words → at s (slot_place m k + d) ≡ message_word (get_or (ms ++ (g ∷ [])) k empty) d
      slot k d l h =
          by_order k n
          (λ b. stored_before q m n g (slot_place m k + d) (omega arith) ∙ slot_is k d l h ∙ word d (sym (get_or-append ms (g ∷ []) empty k (omega (arith, count_is q m)))))
          (λ e. ap (λ i. at s (slot_place m i + d)) (sym e) ∙ stored_word q m n g (omega (arith, fits)) d h ∙ word d (sym (get_or_at ms g [] empty k (count_is q m ∙ e))))
          (λ a.
          stored_behind q m n g (slot_place m k + d) (omega arith)
          ∙ slot_is k d l h
          ∙ word d (get_or-eq_default ms empty (omega (arith, count_is q m)) ∙ sym (get_or-eq_default (ms ++ (g ∷ [])) empty (simp length-append (omega (arith, count_is q m))))))

  -- the slots behind slot p one up: word d of slot k
  module _ (p : ℕ) (here : p < message_count q m) where
    length_closed : length (closed_up q m p) ≡ length q
    unfolding closed_up
    length_closed = length-writes (λ i. at q (slot_place m p + i + slot_words)) q (slot_place m p) (slot_words * (message_count q m - 1 - p))

    closed_before : (j : ℕ) → j < slot_place m p → at (closed_up q m p) j ≡ at q j
    unfolding closed_up
    closed_before j h = writes_below (λ i. at q (slot_place m p + i + slot_words)) q (slot_place m p) (slot_words * (message_count q m - 1 - p)) j h

    closed_behind : (j : ℕ) → slot_place m (message_count q m - 1) ≤ j → at (closed_up q m p) j ≡ at q j
    unfolding closed_up
    closed_behind j h = writes_above (λ i. at q (slot_place m p + i + slot_words)) q (slot_place m p) (slot_words * (message_count q m - 1 - p)) j (omega arith)

    closed_slot : (k d : ℕ) → p ≤ k → k < message_count q m - 1 → d < slot_words → at (closed_up q m p) (slot_place m k + d) ≡ at q (slot_place m (suc k) + d)
    unfolding closed_up
    closed_slot k d l r h =
        let room : message_count q m ≤ messages = tidy.room in
        let e : slot_place m k + d ≡ slot_place m p + (slot_words * (k - p) + d) = omega arith in
        let f : slot_place m p + (slot_words * (k - p) + d) + slot_words ≡ slot_place m (suc k) + d = omega arith in
        ap (at (closed_up q m p)) e
        ∙ writes_in (λ i. at q (slot_place m p + i + slot_words)) q (slot_place m p) (slot_words * (message_count q m - 1 - p)) (slot_words * (k - p) + d) (omega arith) (omega (arith, fits))
        ∙ ap (at q) f

  -- removing takes the oldest equal message out; the others keep their order
  pub removed_is : (g : Tuple) → has g (messages_of q m) ≡ true → removed q m (oldest q m g) ≡ consuming q m g
  unfolding removed
  removed_is g there =
      is_with q m (without g ms) (removed q m p) fits
      (length-set s (queue_place m) n ∙ length_stored c m n empty ∙ length_closed p here)
      (get_or-set_same s (queue_place m) n 0 (omega (arith, fits, length_stored c m n empty, length_closed p here)) ∙ omega (arith, count))
      (λ k d l h. get_or-set_other s (queue_place m) (slot_place m k + d) n 0 (λ e. omega arith) ∙ slot k d l h)
      (λ j l. get_or-set_other s (queue_place m) j n 0 (λ e. omega arith) ∙ stored_before c m n empty j (omega arith) ∙ closed_before p here j (omega arith))
      (λ j l. get_or-set_other s (queue_place m) j n 0 (λ e. omega arith) ∙ stored_behind c m n empty j (omega (arith, tidy.room)) ∙ closed_behind p here j (omega (arith, tidy.room)))
    where
      ms : List Tuple
      ms = messages_of q m

      p : ℕ
      p = oldest q m g

      n : ℕ
      n = message_count q m - 1

      first : First g empty ms p
      first = oldest_first q m g there

      here : p < message_count q m
      here = ltb-true p (message_count q m) (present_is q m g ∙ there)

      c : List ℕ
      c = closed_up q m p

      s : List ℕ
      s = stored c m n empty

      count : length (without g ms) + 1 ≡ message_count q m
      count = length_without g ms there ∙ count_is q m

      slot : (k d : ℕ) → k < messages → d < slot_words → at s (slot_place m k + d) ≡ message_word (get_or (without g ms) k empty) d
      slot k d l h =
          by_order k n
          (λ b.
          stored_before c m n empty (slot_place m k + d) (omega arith)
          ∙ by_below k p
          (λ x. closed_before p here (slot_place m k + d) (omega arith) ∙ slot_is k d l h ∙ word d (sym (without_below g empty ms p k first x)))
          (λ x. closed_slot p here k d x b h ∙ slot_is (suc k) d (omega (arith, tidy.room)) h ∙ word d (sym (without_above g empty ms p k first x))))
          (λ e.
          ap (λ i. at s (slot_place m i + d)) (sym e)
          ∙ stored_word c m n empty (omega (arith, fits, length_closed p here, tidy.room)) d h
          ∙ word d (sym (get_or-eq_default (without g ms) empty (omega (arith, count)))))
          (λ a.
          stored_behind c m n empty (slot_place m k + d) (omega arith)
          ∙ closed_behind p here (slot_place m k + d) (omega arith)
          ∙ slot_is k d l h
          ∙ word d (get_or-eq_default ms empty (omega (arith, count_is q m)) ∙ sym (get_or-eq_default (without g ms) empty (omega (arith, count)))))
