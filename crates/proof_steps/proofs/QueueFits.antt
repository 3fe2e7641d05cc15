-- A queue fits just where its words are those of its messages and each has at most 4 values. Assumes nothing.
use Prim.Native.Nat.{ℕ, zero, suc, ◌+◌, ◌-◌, ◌*◌, ◌≤◌, ◌<◌}
use mathlib.Core.Path.{◌≡◌, refl, sym, ◌∙◌, ap, subst}
use mathlib.Core.Bool.{Bool, true, ◌&&◌}
use mathlib.Core.List.{List, [], ◌∷◌, ◌++◌}
use native.Mathlib.Omega.{arith}
use lib.Dec.{eqb, leb}
use lib.ListN.{length, drop}
use lib.Seq.{get_or-drop}
use borrow.Author.Tests.{eqb-true, leb-true, eq-eqb, ne_eqb, le-leb, le-ltb}
use Rattle.base_words.specs.All.{all}
use Rattle.base_words.specs.Each.{each, tab}
use Rattle.base_words.specs.Pick.{if◌then◌or_else◌}
use Rattle.base_words.specs.Words.{at}
use Rattle.base_words.specs.Counts.{values, messages}
use Rattle.base_words.proofs.AllLaws.{and_left, and_right, all_at, all_of}
use Rattle.base_words.proofs.EachLaws.{each_append}
use Rattle.base_words.proofs.ListLaws.{each_at}
use Rattle.base_words.proofs.PickLaws.{and_true}
use Rattle.base_state.specs.Places.{slot_words, queue_place, slot_place}
use Rattle.meaning.specs.declared.Tuple.{Tuple}
use Rattle.meaning.specs.Tuples.{empty, value_of, same_tuple}
use Rattle.meaning.specs.Messages.{without}
use Rattle.meaning.specs.Queues.{message_count, value_at, message_at, messages_of, message_word, messages_word, queue_word, Tidy}
use Rattle.check_limits.specs.Limits.{zeros}
use Rattle.step_queues.proofs.SlotLaws.{by_below, by_slots, queue_count, queue_word_lem}
use Rattle.step_queues.proofs.QueueLaws.{count_is, message_is_lem}
use Rattle.state_fits.specs.Fits.{slot_fits, queue_fits}
use Rattle.proof_steps.proofs.Choices.{by_choice}

-- SHORT MESSAGES: each has at most 4 values
abbrev pub is_short : Tuple → Bool
is_short g = leb g.length values

abbrev pub Short : List Tuple → Type 0
Short ms = each is_short ms ≡ true

each-tab : {A : Type 0} (f : A → Bool) (g : ℕ → A) (n : ℕ) → ((j : ℕ) → j < n → f (g j) ≡ true) → each f (tab g n) ≡ true
unfolding each tab
each-tab f g zero h = refl
each-tab f g (suc n) h =
    each_append f (tab g n) (g n ∷ [])
    ∙ and_true (each f (tab g n)) (f (g n) && true) (each-tab f g n (λ j l. h j (omega arith))) (and_true (f (g n)) true (h n (omega arith)) refl)

pub short_append : (ms : List Tuple) (g : Tuple) → Short ms → g.length ≤ values → Short (ms ++ (g ∷ []))
unfolding each
short_append ms g h l = each_append is_short ms (g ∷ []) ∙ and_true (each is_short ms) (is_short g && true) h (and_true (is_short g) true (le-leb g.length values l) refl)

pub short_without : (g : Tuple) (ms : List Tuple) → Short ms → Short (without g ms)
unfolding each without
short_without g [] h = refl
short_without g (x ∷ xs) h =
    by_choice Short (same_tuple x g) xs (x ∷ without g xs)
    (λ e. and_right (is_short x) (each is_short xs) h)
    (λ e. and_true (is_short x) (each is_short (without g xs)) (and_left (is_short x) (each is_short xs) h) (short_without g xs (and_right (is_short x) (each is_short xs) h)))

-- WORDS behind the last message are 0
messages_behind : (ms : List Tuple) (i : ℕ) → slot_words * length ms ≤ i → messages_word ms i ≡ 0
unfolding messages_word if◌then◌or_else◌
messages_behind [] i h = refl
messages_behind (g ∷ gs) i h = rw (le-ltb i slot_words (omega arith)) (messages_behind gs (i - slot_words) (omega arith))

queue_behind : (ms : List Tuple) (i : ℕ) → slot_words * length ms ≤ i → queue_word ms (1 + i) ≡ 0
unfolding queue_word if◌then◌or_else◌
queue_behind ms i h =
    let e : 1 + i - 1 ≡ i = omega arith in
    rw (ne_eqb (1 + i) 0 (λ z. omega arith), e) (messages_behind ms i h)

-- word d of a message
word_first : (g : Tuple) → message_word g 0 ≡ g.length
unfolding message_word if◌then◌or_else◌
word_first g = refl

word_next : (g : Tuple) (j : ℕ) → message_word g (suc j) ≡ value_of g j
unfolding message_word if◌then◌or_else◌
word_next g j = let e : suc j - 1 ≡ j = omega arith in rw (ne_eqb (suc j) 0 (λ z. omega arith), e)

module _ (q : List ℕ) (m : ℕ) where
  abbrev room_part : Bool
  room_part = leb (message_count q m) messages

  abbrev message_part : Bool
  message_part = all (slot_fits q m) (message_count q m)

  abbrev rest_part : Bool
  rest_part = zeros (drop (slot_place m (message_count q m)) q) (slot_words * (messages - message_count q m))

  -- FROM A QUEUE THAT FITS
  module _ (fits : queue_fits q m ≡ true) where
    fits_room : message_count q m ≤ messages
    unfolding queue_fits
    fits_room = leb-true (message_count q m) messages (and_left room_part message_part (and_left (room_part && message_part) rest_part fits))

    fits_message : (k : ℕ) → k < message_count q m → slot_fits q m k ≡ true
    unfolding queue_fits
    fits_message = all_at (slot_fits q m) (message_count q m) (and_right room_part message_part (and_left (room_part && message_part) rest_part fits))

    fits_value : (k : ℕ) → k < message_count q m → (j : ℕ) → j < values → value_at q m k j ≡ value_of (message_at q m k) j
    unfolding slot_fits
    fits_value k l j h =
        eqb-true (value_at q m k j) (value_of (message_at q m k) j)
        (all_at (λ j. eqb (value_at q m k j) (value_of (message_at q m k) j)) values (and_right (leb (message_at q m k).length values) _ (fits_message k l)) j h)

    fits_rest : (i : ℕ) → i < slot_words * (messages - message_count q m) → at q (slot_place m (message_count q m) + i) ≡ 0
    unfolding queue_fits zeros
    fits_rest i l =
        sym (get_or-drop (slot_place m (message_count q m)) q i 0)
        ∙ eqb-true _ 0 (all_at (λ k. eqb (at (drop (slot_place m (message_count q m)) q) k) 0) (slot_words * (messages - message_count q m)) (and_right (room_part && message_part) rest_part fits) i l)

    fits_slot : (k d : ℕ) → k < message_count q m → d < slot_words → at q (slot_place m k + d) ≡ message_word (message_at q m k) d
    fits_slot k zero l h = let e : slot_place m k + 0 ≡ slot_place m k = omega arith in ap (at q) e ∙ sym (word_first (message_at q m k))
    fits_slot k (suc j) l h =
        let e : slot_place m k + suc j ≡ slot_place m k + 1 + j = omega arith in
        ap (at q) e ∙ fits_value k l j (omega arith) ∙ sym (word_next (message_at q m k) j)

    pub fits_tidy : Tidy q m
    fits_tidy = record {
      room = fits_room;
      words = by_slots (λ i. at q (queue_place m + i) ≡ queue_word (messages_of q m) i)
          (let e : queue_place m + 0 ≡ queue_place m = omega arith in ap (at q) e ∙ sym (count_is q m) ∙ sym (queue_count (messages_of q m)))
          (λ k d l h.
          let e : queue_place m + (1 + slot_words * k + d) ≡ slot_place m k + d = omega arith in
          ap (at q) e
          ∙ by_below k (message_count q m)
          (λ r. fits_slot k d r h ∙ ap (λ g. message_word g d) (sym (message_is_lem q m k r)) ∙ sym (queue_word_lem (messages_of q m) k d h))
          (λ r.
          let f : slot_place m k + d ≡ slot_place m (message_count q m) + (slot_words * (k - message_count q m) + d) = omega arith in
          let g : 1 + slot_words * k + d ≡ 1 + (slot_words * k + d) = omega arith in
          ap (at q) f
          ∙ fits_rest (slot_words * (k - message_count q m) + d) (omega arith)
          ∙ sym (ap (queue_word (messages_of q m)) g ∙ queue_behind (messages_of q m) (slot_words * k + d) (omega (arith, count_is q m)))));
    }

    pub fits_short : Short (messages_of q m)
    unfolding messages_of slot_fits
    fits_short = each-tab is_short (message_at q m) (message_count q m) (λ k l. and_left (leb (message_at q m k).length values) _ (fits_message k l))

  -- AND BACK
  module _ (tidy : Tidy q m) (short : Short (messages_of q m)) where
    tidy_slot : (k d : ℕ) → k < message_count q m → d < slot_words → at q (slot_place m k + d) ≡ message_word (message_at q m k) d
    tidy_slot k d l h =
        let r : message_count q m ≤ messages = tidy.room in
        let e : slot_place m k + d ≡ queue_place m + (1 + slot_words * k + d) = omega arith in
        ap (at q) e ∙ tidy.words (1 + slot_words * k + d) (omega arith) ∙ queue_word_lem (messages_of q m) k d h ∙ ap (λ g. message_word g d) (message_is_lem q m k l)

    tidy_message : (k : ℕ) → k < message_count q m → slot_fits q m k ≡ true
    unfolding slot_fits
    tidy_message k l =
        and_true (leb (message_at q m k).length values) (all (λ j. eqb (value_at q m k j) (value_of (message_at q m k) j)) values)
        (subst (λ g. is_short g ≡ true) (message_is_lem q m k l) (each_at is_short (messages_of q m) empty short (le-leb 0 values (omega arith)) k))
        (all_of (λ j. eqb (value_at q m k j) (value_of (message_at q m k) j)) values
        (λ j h.
        let e : slot_place m k + 1 + j ≡ slot_place m k + suc j = omega arith in
        eq-eqb (value_at q m k j) (value_of (message_at q m k) j) (ap (at q) e ∙ tidy_slot k (suc j) l (omega arith) ∙ word_next (message_at q m k) j)))

    tidy_rest : (i : ℕ) → i < slot_words * (messages - message_count q m) → at (drop (slot_place m (message_count q m)) q) i ≡ 0
    tidy_rest i l =
        let r : message_count q m ≤ messages = tidy.room in
        let e : slot_place m (message_count q m) + i ≡ queue_place m + (1 + (slot_words * message_count q m + i)) = omega arith in
        get_or-drop (slot_place m (message_count q m)) q i 0
        ∙ ap (at q) e
        ∙ tidy.words (1 + (slot_words * message_count q m + i)) (omega arith)
        ∙ queue_behind (messages_of q m) (slot_words * message_count q m + i) (omega (arith, count_is q m))

    pub tidy_fits : queue_fits q m ≡ true
    unfolding queue_fits zeros
    tidy_fits =
        and_true (room_part && message_part) rest_part
        (and_true room_part message_part (le-leb (message_count q m) messages tidy.room) (all_of (slot_fits q m) (message_count q m) tidy_message))
        (all_of (λ k. eqb (at (drop (slot_place m (message_count q m)) q) k) 0) (slot_words * (messages - message_count q m)) (λ i l. eq-eqb _ 0 (tidy_rest i l)))
