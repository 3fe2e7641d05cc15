-- A queue that fits is tidy: its words are those of its messages. Assumes nothing.
use Prim.Native.Nat.{ℕ, zero, suc, ◌+◌, ◌-◌, ◌*◌, ◌≤◌, ◌<◌}
use mathlib.Core.Path.{◌≡◌, ◌∙◌, refl, sym, ap}
use mathlib.Core.Bool.{true, ◌&&◌}
use mathlib.Core.List.{List}
use native.Mathlib.Omega.{arith}
use lib.Dec.{eqb, leb}
use lib.ListN.{drop, get_or, get_or-eq_default}
use lib.Seq.{get_or-drop}
use borrow.Author.Tests.{eqb-true, leb-true, ne_eqb, le-ltb}
use Rattle.base_words.specs.All.{all}
use Rattle.base_words.specs.Pick.{if◌then◌or_else◌}
use Rattle.base_words.specs.Words.{at}
use Rattle.base_words.specs.Counts.{values, messages}
use Rattle.base_words.proofs.AllLaws.{and_left, and_right, all_at}
use Rattle.base_state.specs.Places.{slot_words, queue_place, slot_place}
use Rattle.check_limits.specs.Limits.{zeros}
use Rattle.meaning.specs.declared.Tuple.{Tuple}
use Rattle.meaning.specs.Tuples.{empty, value_of}
use Rattle.meaning.specs.Queues.{message_count, value_at, message_at, messages_of, message_word, queue_word, Tidy}
use Rattle.step_queues.proofs.SlotLaws.{by_below, by_slots, queue_count, queue_word_lem}
use Rattle.step_queues.proofs.QueueLaws.{count_is, message_is_lem}
use Rattle.state_fits.specs.Fits.{slot_fits, queue_fits}

-- words that are 0
pub zeros_at : (x : List ℕ) (n i : ℕ) → zeros x n ≡ true → i < n → at x i ≡ 0
unfolding zeros
zeros_at x n i e h = eqb-true (at x i) 0 (all_at (λ k. eqb (at x k) 0) n e i h)

-- THE WORDS of a message
word_first : (g : Tuple) → message_word g 0 ≡ g.length
unfolding message_word if◌then◌or_else◌
word_first g = refl

word_next : (g : Tuple) (j : ℕ) → message_word g (suc j) ≡ value_of g j
unfolding message_word if◌then◌or_else◌
word_next g j = let e : suc j - 1 ≡ j = omega arith in rw (ne_eqb (suc j) 0 (λ z. omega arith), e)

value_empty : (j : ℕ) → value_of empty j ≡ 0
unfolding value_of if◌then◌or_else◌
value_empty j = rw (le-ltb j 0 (omega arith))

word_empty : (d : ℕ) → message_word empty d ≡ 0
word_empty zero = word_first empty
word_empty (suc j) = word_next empty j ∙ value_empty j

-- A MESSAGE THAT FITS stands as its words
message_word_lem : (q : List ℕ) (m k : ℕ) → slot_fits q m k ≡ true → (d : ℕ) → d < slot_words → at q (slot_place m k + d) ≡ message_word (message_at q m k) d
unfolding slot_fits
message_word_lem q m k e zero h = let z : slot_place m k + 0 ≡ slot_place m k = omega arith in ap (at q) z ∙ sym (word_first (message_at q m k))
message_word_lem q m k e (suc j) h =
    let z : slot_place m k + suc j ≡ slot_place m k + 1 + j = omega arith in
    let same : all (λ j. eqb (value_at q m k j) (value_of (message_at q m k) j)) values ≡ true = and_right (leb (message_at q m k).length values) _ e in
    ap (at q) z
    ∙ eqb-true (value_at q m k j) (value_of (message_at q m k) j) (all_at (λ j. eqb (value_at q m k j) (value_of (message_at q m k) j)) values same j (omega arith))
    ∙ sym (word_next (message_at q m k) j)

-- A QUEUE THAT FITS
module _ (q : List ℕ) (m : ℕ) (fit : queue_fits q m ≡ true) where
  front : leb (message_count q m) messages && all (slot_fits q m) (message_count q m) ≡ true
  unfolding queue_fits
  front = and_left _ _ fit

  room : message_count q m ≤ messages
  room = leb-true (message_count q m) messages (and_left _ _ front)

  made : (k : ℕ) → k < message_count q m → slot_fits q m k ≡ true
  made = all_at (slot_fits q m) (message_count q m) (and_right (leb (message_count q m) messages) _ front)

  behind : zeros (drop (slot_place m (message_count q m)) q) (slot_words * (messages - message_count q m)) ≡ true
  unfolding queue_fits
  behind = and_right (leb (message_count q m) messages && all (slot_fits q m) (message_count q m)) _ fit

  slot : (k d : ℕ) → k < messages → d < slot_words → at q (slot_place m k + d) ≡ message_word (get_or (messages_of q m) k empty) d
  slot k d l h =
      by_below k (message_count q m)
      (λ r. message_word_lem q m k (made k r) d h ∙ ap (λ g. message_word g d) (sym (message_is_lem q m k r)))
      (λ r.
      let i : ℕ = slot_words * (k - message_count q m) + d in
      let e : slot_place m k + d ≡ slot_place m (message_count q m) + i = omega arith in
      ap (at q) e
      ∙ sym (get_or-drop (slot_place m (message_count q m)) q i 0)
      ∙ zeros_at (drop (slot_place m (message_count q m)) q) (slot_words * (messages - message_count q m)) i behind (omega arith)
      ∙ sym (ap (λ g. message_word g d) (get_or-eq_default (messages_of q m) empty (omega (arith, count_is q m))) ∙ word_empty d))

  pub queue_tidy : Tidy q m
  queue_tidy = record {
    room = room;
    words =
        by_slots (λ i. at q (queue_place m + i) ≡ queue_word (messages_of q m) i)
        (let e : queue_place m + 0 ≡ queue_place m = omega arith in ap (at q) e ∙ sym (queue_count (messages_of q m) ∙ count_is q m))
        (λ k d l h.
        let e : queue_place m + (1 + slot_words * k + d) ≡ slot_place m k + d = omega arith in
        ap (at q) e ∙ slot k d l h ∙ sym (queue_word_lem (messages_of q m) k d h));
  }
