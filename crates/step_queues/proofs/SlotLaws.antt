-- The words of a queue: those of one message after the other, and the queues with the messages of one queue written. Assumes nothing.
use Prim.Native.Nat.{ℕ, zero, suc, ◌+◌, ◌-◌, ◌*◌, ◌/◌, ◌%◌, ◌≤◌, ◌<◌}
use mathlib.Core.Path.{◌≡◌, ◌∙◌, refl, sym, ap, subst}
use mathlib.Core.Bool.{Bool, true, false}
use mathlib.Core.List.{List, [], ◌∷◌}
use mathlib.Core.Logic.{⊎_elim}
use native.Mathlib.Nat.{div-add-mod', mod-lt, eq-or-lt_of_le}
use native.Mathlib.Omega.{arith}
use lib.Dec.{ltb, eqb}
use lib.ListN.{length, get_or, set, length-set}
use lib.Seq.{ext_get_or, get_or-set_same, get_or-set_other}
use borrow.Author.Tests.{lt-ltb, le-ltb, ne_eqb, ltb-true, ltb-false}
use Rattle.base_words.specs.Pick.{if◌then◌or_else◌}
use Rattle.base_words.specs.Words.{at}
use Rattle.base_words.specs.Counts.{values, messages}
use Rattle.base_words.proofs.WritesLaws.{length-writes, writes_in, writes_below, writes_above}
use Rattle.meaning.specs.declared.Tuple.{Tuple}
use Rattle.meaning.specs.Tuples.{empty, value_of}
use Rattle.base_state.specs.Places.{slot_words, queue_words, queue_place, slot_place}
use Rattle.meaning.specs.Queues.{message_word, messages_word, queue_word, with_messages}
use Rattle.step_queues.specs.Changes.{stored}

-- by the order of two numbers
pub by_below : {C : Type 0} (a b : ℕ) → (a < b → C) → (b ≤ a → C) → C
by_below {C} a b l r = go (ltb a b) refl
  where
    go : (t : Bool) → ltb a b ≡ t → C
    go true e = l (ltb-true a b e)
    go false e = r (ltb-false a b e)

pub by_order : {C : Type 0} (a b : ℕ) → (a < b → C) → (b ≡ a → C) → (b < a → C) → C
by_order a b l e r = by_below a b l (λ h. ⊎_elim e r (eq-or-lt_of_le h))

-- THE WORDS OF MESSAGES: word d of message k; where there is no message k, of the empty one, which is 0
word_empty : (d : ℕ) → 0 ≡ message_word empty d
unfolding message_word value_of if◌then◌or_else◌
word_empty d = go (eqb d 0) (ltb (d - 1) 0) (le-ltb (d - 1) 0 (omega arith))
  where
    go : (b c : Bool) → c ≡ false → 0 ≡ (if b then 0 or_else if c then at empty.values (d - 1) or_else 0)
    go true c e = refl
    go false c e = rw e

pub messages_word_lem : (ms : List Tuple) (k d : ℕ) → d < slot_words → messages_word ms (slot_words * k + d) ≡ message_word (get_or ms k empty) d
unfolding messages_word if◌then◌or_else◌
messages_word_lem [] k d h = word_empty d
messages_word_lem (g ∷ gs) zero d h =
    let e : 5 * 0 + d ≡ d = omega arith in
    rw (lt-ltb (5 * 0 + d) 5 (omega arith), e)
messages_word_lem (g ∷ gs) (suc k) d h =
    let e : 5 * suc k + d - 5 ≡ 5 * k + d = omega arith in
    rw (le-ltb (5 * suc k + d) 5 (omega arith), e) (messages_word_lem gs k d h)

pub queue_count : (ms : List Tuple) → queue_word ms 0 ≡ length ms
unfolding queue_word if◌then◌or_else◌
queue_count ms = refl

pub queue_word_lem : (ms : List Tuple) (k d : ℕ) → d < slot_words → queue_word ms (1 + slot_words * k + d) ≡ message_word (get_or ms k empty) d
unfolding queue_word if◌then◌or_else◌
queue_word_lem ms k d h =
    let e : 1 + 5 * k + d - 1 ≡ 5 * k + d = omega arith in
    rw (ne_eqb (1 + 5 * k + d) 0 (λ z. omega arith), e) (messages_word_lem ms k d h)

-- what holds of the count and of each word of each slot holds of each word of a queue
pub by_slots : (P : ℕ → Type 0) → P 0 → ((k d : ℕ) → k < messages → d < slot_words → P (1 + slot_words * k + d)) → (i : ℕ) → i < queue_words → P i
by_slots P c s zero h = c
by_slots P c s (suc i) h =
    let r : i % 5 < 5 = mod-lt i (omega arith) in
    let e : 1 + 5 * (i / 5) + i % 5 ≡ suc i = omega (arith, div-add-mod' i 5) in
    subst P e (s (i / 5) (i % 5) (omega arith) r)

-- THE QUEUES WITH THE MESSAGES ms IN QUEUE m: each word of queue m, and the words before and behind it
module _ (q : List ℕ) (m : ℕ) (ms : List Tuple) where
  pub length_with : length (with_messages q m ms) ≡ length q
  unfolding with_messages
  length_with = length-writes (queue_word ms) q (queue_place m) queue_words

  pub with_word : queue_place m + queue_words ≤ length q → (i : ℕ) → i < queue_words → at (with_messages q m ms) (queue_place m + i) ≡ queue_word ms i
  unfolding with_messages
  with_word l i h = writes_in (queue_word ms) q (queue_place m) queue_words i h l

  pub with_before : (j : ℕ) → j < queue_place m → at (with_messages q m ms) j ≡ at q j
  unfolding with_messages
  with_before j h = writes_below (queue_word ms) q (queue_place m) queue_words j h

  pub with_behind : (j : ℕ) → queue_place m + queue_words ≤ j → at (with_messages q m ms) j ≡ at q j
  unfolding with_messages
  with_behind j h = writes_above (queue_word ms) q (queue_place m) queue_words j h

  -- words s are those queues, from its length, the count, each word of each slot, and the words before and behind
  pub is_with : (s : List ℕ)
      → queue_place m + queue_words ≤ length q
      → length s ≡ length q
      → at s (queue_place m) ≡ length ms
      → ((k d : ℕ) → k < messages → d < slot_words → at s (slot_place m k + d) ≡ message_word (get_or ms k empty) d)
      → ((j : ℕ) → j < queue_place m → at s j ≡ at q j)
      → ((j : ℕ) → queue_place m + queue_words ≤ j → at s j ≡ at q j)
      → s ≡ with_messages q m ms
  is_with s fits long count slots before behind = ext_get_or 0 s (with_messages q m ms) (long ∙ sym length_with) each
    where
      inside : (i : ℕ) → i < queue_words → at s (queue_place m + i) ≡ queue_word ms i
      inside =
          by_slots (λ i. at s (queue_place m + i) ≡ queue_word ms i)
          (let e : queue_place m + 0 ≡ queue_place m = omega arith in rw e (count ∙ sym (queue_count ms)))
          (λ k d l h.
          let e : queue_place m + (1 + slot_words * k + d) ≡ slot_place m k + d = omega arith in
          ap (at s) e ∙ slots k d l h ∙ sym (queue_word_lem ms k d h))

      each : (j : ℕ) → j < length s → at s j ≡ at (with_messages q m ms) j
      each j h =
          by_below j (queue_place m) (λ l. before j l ∙ sym (with_before j l))
          (λ l.
          by_below j (queue_place m + queue_words)
          (λ r.
          let e : queue_place m + (j - queue_place m) ≡ j = omega arith in
          let i : j - queue_place m < queue_words = omega arith in
          rw e at (inside (j - queue_place m) i ∙ sym (with_word fits (j - queue_place m) i)))
          (λ r. behind j r ∙ sym (with_behind j r)))

-- A MESSAGE STORED: its five words, and the words before and behind them
module _ (q : List ℕ) (m k : ℕ) (g : Tuple) where
  pub length_stored : length (stored q m k g) ≡ length q
  unfolding stored
  length_stored = length-writes (value_of g) (set q (slot_place m k) g.length) (slot_place m k + 1) values ∙ length-set q (slot_place m k) g.length

  pub stored_word : slot_place m k + slot_words ≤ length q → (d : ℕ) → d < slot_words → at (stored q m k g) (slot_place m k + d) ≡ message_word g d
  unfolding stored message_word if◌then◌or_else◌
  stored_word l zero h =
      let e : slot_place m k + 0 ≡ slot_place m k = omega arith in
      rw e
      (writes_below (value_of g) (set q (slot_place m k) g.length) (slot_place m k + 1) values (slot_place m k) (omega arith)
      ∙ get_or-set_same q (slot_place m k) g.length 0 (omega arith))
  stored_word l (suc d) h =
      let e : slot_place m k + suc d ≡ slot_place m k + 1 + d = omega arith in
      let f : suc d - 1 ≡ d = omega arith in
      rw (e, ne_eqb (suc d) 0 (λ z. omega arith), f)
      (writes_in (value_of g) (set q (slot_place m k) g.length) (slot_place m k + 1) values d (omega arith) (omega (arith, length-set q (slot_place m k) g.length)))

  pub stored_before : (j : ℕ) → j < slot_place m k → at (stored q m k g) j ≡ at q j
  unfolding stored
  stored_before j h =
      writes_below (value_of g) (set q (slot_place m k) g.length) (slot_place m k + 1) values j (omega arith)
      ∙ get_or-set_other q (slot_place m k) j g.length 0 (λ e. omega arith)

  pub stored_behind : (j : ℕ) → slot_place m k + slot_words ≤ j → at (stored q m k g) j ≡ at q j
  unfolding stored
  stored_behind j h =
      writes_above (value_of g) (set q (slot_place m k) g.length) (slot_place m k + 1) values j (omega arith)
      ∙ get_or-set_other q (slot_place m k) j g.length 0 (λ e. omega arith)
