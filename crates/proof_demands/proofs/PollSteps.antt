-- A poll is its items given one by one: how many are accepted, the number of the first refusal and the state, by the single calls. A poll of xs and ys
-- is the poll of xs and then, if all of xs were accepted, that of ys. Assumes nothing.
use Prim.Native.Nat.{ℕ, zero, suc, ◌+◌, ◌*◌, ◌≤◌, ◌<◌}
use mathlib.Core.Path.{◌≡◌, refl, sym, ◌∙◌, ap}
use mathlib.Core.Bool.{Bool, true, false}
use mathlib.Core.List.{List, [], ◌∷◌, ◌++◌}
use native.Mathlib.Omega.{arith}
use borrow.Author.Tests.{eqb-true, eqb-false, eq-eqb}
use lib.Dec.{eqb, ltb}
use lib.ListN.{length, take, drop}
use lib.Seq.{drop-drop}
use Rattle.base_words.specs.Pick.{if◌then◌or_else◌}
use Rattle.base_words.specs.Words.{at}
use Rattle.base_words.proofs.AllLaws.{and_left, and_right}
use Rattle.base_words.proofs.PickLaws.{and_true}
use Rattle.proof_steps.proofs.Choices.{by_choice}
use Rattle.step_poll.specs.Items.{item_words, items_most, act_in, acts_in}
use Rattle.step_poll.specs.Poll.{Left, Polling, one_before, polled_by, polled_from}
use Rattle.step_poll.proofs.PollLaws.{first_accepted}
use Rattle.engine.specs.Engine.{lent_number}
use Rattle.engine.specs.Calls.{Act, did, numbers, all_accepted, after, Valid, polled_to}
use Rattle.engine.proofs.KeepsValid.{after-valid}
use Rattle.proof_demands.specs.Polls.{until_refused, then_poll}
use Rattle.proof_demands.proofs.FirstDemand.{act_refused}

next : (n : ℕ) → n + 1 ≡ suc n
next n = omega arith

-- ONE BY ONE
module _ (t : List ℕ) where
  pub by_first : (P : Polling → Type 0) (a : Act) (rest : List Act) (z : List ℕ)
      → ((did t a z).number ≡ 0 → P (one_before (polled_by (did t) rest (did t a z).state)))
      → (((did t a z).number ≡ 0 → ⊥) → P (record { number = (did t a z).number; accepted = 0; state = (did t a z).state }))
      → P (polled_by (did t) (a ∷ rest) z)
  unfolding polled_by
  by_first P a rest z going stopping =
      by_choice P (eqb (did t a z).number 0) (one_before (polled_by (did t) rest (did t a z).state))
      (record { number = (did t a z).number; accepted = 0; state = (did t a z).state })
      (λ e. going (eqb-true (did t a z).number 0 e))
      (λ e. stopping (eqb-false (did t a z).number 0 e))

  pub accepted_count : (acts : List Act) (z : List ℕ) → (polled_by (did t) acts z).accepted ≡ until_refused (numbers t acts z)
  unfolding polled_by numbers until_refused one_before if◌then◌or_else◌
  accepted_count [] z = refl
  accepted_count (a ∷ rest) z = go (eqb (did t a z).number 0) (accepted_count rest (did t a z).state)
    where
      p : Polling
      p = polled_by (did t) rest (did t a z).state

      o : Bool → Polling
      o b = if b then record { number = p.number; accepted = p.accepted + 1; state = p.state } or_else record { number = (did t a z).number; accepted = 0; state = (did t a z).state }

      go : (b : Bool) → p.accepted ≡ until_refused (numbers t rest (did t a z).state) → (o b).accepted ≡ (if b then until_refused (numbers t rest (did t a z).state) + 1 or_else 0)
      go true e = ap (λ (k : ℕ). k + 1) e
      go false e = refl

  -- the number is that of the item behind the accepted ones, 0 if there is none
  pub number_at : (acts : List Act) (z : List ℕ) → (polled_by (did t) acts z).number ≡ at (numbers t acts z) (polled_by (did t) acts z).accepted
  unfolding polled_by numbers one_before
  number_at [] z = refl
  number_at (a ∷ rest) z =
      by_first (λ (p : Polling). p.number ≡ at (numbers t (a ∷ rest) z) p.accepted) a rest z
      (λ e. rw (next (polled_by (did t) rest (did t a z).state).accepted) (number_at rest (did t a z).state))
      (λ e. refl)

  -- the state is that after the accepted ones: the refused one changes nothing
  pub state_after : (acts : List Act) (z : List ℕ) → (polled_by (did t) acts z).state ≡ after t (take (polled_by (did t) acts z).accepted acts) z
  unfolding polled_by after one_before
  state_after [] z = refl
  state_after (a ∷ rest) z =
      by_first (λ (p : Polling). p.state ≡ after t (take p.accepted (a ∷ rest)) z) a rest z
      (λ e. rw (next (polled_by (did t) rest (did t a z).state).accepted) (state_after rest (did t a z).state))
      (λ e. act_refused t a z e)

  pub accepted_part : (acts : List Act) (z : List ℕ) → all_accepted t (take (polled_by (did t) acts z).accepted acts) z ≡ true
  unfolding polled_by all_accepted one_before
  accepted_part [] z = refl
  accepted_part (a ∷ rest) z =
      by_first (λ (p : Polling). all_accepted t (take p.accepted (a ∷ rest)) z ≡ true) a rest z
      (λ e.
      rw (next (polled_by (did t) rest (did t a z).state).accepted)
      (and_true (eqb (did t a z).number 0) (all_accepted t (take (polled_by (did t) rest (did t a z).state).accepted rest) (did t a z).state) (eq-eqb (did t a z).number 0 e)
      (accepted_part rest (did t a z).state)))
      (λ e. refl)

  -- where all are accepted
  pub whole_poll : (acts : List Act) (z : List ℕ) → all_accepted t acts z ≡ true → polled_by (did t) acts z ≡ record { number = 0; accepted = length acts; state = after t acts z }
  unfolding all_accepted after one_before polled_by
  whole_poll [] z h = refl
  whole_poll (a ∷ rest) z h =
      let k : (did t a z).number ≡ 0 = eqb-true (did t a z).number 0 (and_left (eqb (did t a z).number 0) (all_accepted t rest (did t a z).state) h) in
      let w : polled_by (did t) rest (did t a z).state ≡ record { number = 0; accepted = length rest; state = after t rest (did t a z).state }
      = whole_poll rest (did t a z).state (and_right (eqb (did t a z).number 0) (all_accepted t rest (did t a z).state) h) in
      first_accepted (did t) a rest z (did t a z).number (did t a z).state refl k
      ∙ ap one_before w
      ∙ (λ i. record { number = 0; accepted = next (length rest) i; state = after t rest (did t a z).state })

  -- as many calls as are accepted in a row, a poll accepts
  pub as_far : (acts : List Act) (z : List ℕ) (k : ℕ) → k ≤ length acts → all_accepted t (take k acts) z ≡ true → k ≤ (polled_by (did t) acts z).accepted
  unfolding one_before all_accepted
  as_far acts z zero l e = omega arith
  as_far [] z (suc k) l e = absurd (omega arith)
  as_far (a ∷ rest) z (suc k) l e =
      let n = eqb-true (did t a z).number 0 (and_left (eqb (did t a z).number 0) (all_accepted t (take k rest) (did t a z).state) e) in
      by_first (λ (p : Polling). suc k ≤ p.accepted) a rest z
      (λ y. omega (arith, as_far rest (did t a z).state k (omega arith) (and_right (eqb (did t a z).number 0) (all_accepted t (take k rest) (did t a z).state) e)))
      (λ y. absurd (y n))

  -- and no more than there are
  pub no_further : (acts : List Act) (z : List ℕ) → (polled_by (did t) acts z).accepted ≤ length acts
  unfolding polled_by one_before
  no_further [] z = omega arith
  no_further (a ∷ rest) z =
      by_first (λ (p : Polling). p.accepted ≤ suc (length rest)) a rest z (λ e. omega (arith, no_further rest (did t a z).state)) (λ e. omega arith)

  -- its number is 0 exactly where all are accepted
  pub zero_whole : (acts : List Act) (z : List ℕ) → (polled_by (did t) acts z).number ≡ 0 → (polled_by (did t) acts z).accepted ≡ length acts
  unfolding polled_by one_before
  zero_whole [] z = λ h. refl
  zero_whole (a ∷ rest) z =
      by_first (λ (p : Polling). p.number ≡ 0 → p.accepted ≡ suc (length rest)) a rest z
      (λ e h. omega (arith, zero_whole rest (did t a z).state h))
      (λ e h. absurd (e h))

  pub whole_zero : (acts : List Act) (z : List ℕ) → (polled_by (did t) acts z).accepted ≡ length acts → (polled_by (did t) acts z).number ≡ 0
  unfolding polled_by one_before
  whole_zero [] z = λ h. refl
  whole_zero (a ∷ rest) z =
      by_first (λ (p : Polling). p.accepted ≡ suc (length rest) → p.number ≡ 0) a rest z
      (λ e h. whole_zero rest (did t a z).state (omega (arith, h)))
      (λ e h. absurd (omega (arith, h)))

  pub poll_valid : (acts : List Act) (z : List ℕ) → Valid t z → Valid t (polled_by (did t) acts z).state
  poll_valid acts z v = rw (state_after acts z) (after-valid t (take (polled_by (did t) acts z).accepted acts) z v)

-- a poll leaves a valid state
pub polled_valid : (t z : List ℕ) → Valid t z → (w : List ℕ) (count : ℕ) → Valid t (polled_to t z w count).state
unfolding polled_to polled_from
polled_valid t z v w count =
    by_choice (λ (p : Polling). Valid t p.state) (ltb items_most count) (record { number = 22; accepted = 0; state = z }) _ (λ b. v)
    (λ b.
    by_choice (λ (p : Polling). Valid t p.state) (eqb (lent_number t z) 0) (polled_by (did t) (acts_in w count) z)
    (record { number = lent_number t z; accepted = 0; state = z }) (λ b. poll_valid t (acts_in w count) z v) (λ b. v))

-- TWO POLLS
before_then : (p q : Polling) → one_before (then_poll p q) ≡ then_poll (one_before p) q
unfolding one_before then_poll if◌then◌or_else◌
before_then p q = go (eqb p.number 0)
  where
    e : q.accepted + p.accepted + 1 ≡ q.accepted + (p.accepted + 1)
    e = omega arith

    o : Bool → Polling
    o b = if b then record { number = q.number; accepted = q.accepted + p.accepted; state = q.state } or_else p

    n : Bool → Polling
    n b = if b then record { number = q.number; accepted = q.accepted + (p.accepted + 1); state = q.state } or_else record { number = p.number; accepted = p.accepted + 1; state = p.state }

    go : (b : Bool) → ◌≡◌ {A = Polling} (record { number = (o b).number; accepted = (o b).accepted + 1; state = (o b).state }) (n b)
    go true = λ i. record { number = q.number; accepted = e i; state = q.state }
    go false = refl

module _ (give : Act → List ℕ → Left) (ys : List Act) where
  abbrev also : Polling → Polling
  also p = then_poll p (polled_by give ys p.state)

  pub two_polls : (xs : List Act) (z : List ℕ) → polled_by give (xs ++ ys) z ≡ then_poll (polled_by give xs z) (polled_by give ys (polled_by give xs z).state)
  unfolding polled_by then_poll one_before if◌then◌or_else◌
  two_polls [] z =
      let q : Polling = polled_by give ys z in
      let e : q.accepted ≡ q.accepted + 0 = omega arith in
      λ i. record { number = q.number; accepted = e i; state = q.state }
  two_polls (a ∷ xs) z = go (eqb (give a z).number 0) refl (two_polls xs (give a z).state)
    where
      r : Polling
      r = record { number = (give a z).number; accepted = 0; state = (give a z).state }

      p : Polling
      p = polled_by give xs (give a z).state

      refused : eqb (give a z).number 0 ≡ false → r ≡ also r
      refused e = rw e

      accepted : polled_by give (xs ++ ys) (give a z).state ≡ also p → one_before (polled_by give (xs ++ ys) (give a z).state) ≡ also (one_before p)
      accepted e = ap one_before e ∙ before_then p (polled_by give ys p.state)

      go : (b : Bool) → eqb (give a z).number 0 ≡ b → polled_by give (xs ++ ys) (give a z).state ≡ also p
          → (if b then one_before (polled_by give (xs ++ ys) (give a z).state) or_else r) ≡ also (if b then one_before p or_else r)
      go true e d = accepted d
      go false e d = refused e

-- HOW MANY ITEMS there are, and the first k of them
pub acts_length : (n : ℕ) (w : List ℕ) → length (acts_in w n) ≡ n
unfolding acts_in
acts_length zero w = refl
acts_length (suc n) w = ap suc (acts_length n _)

pub first_items : (k n : ℕ) (w : List ℕ) → k ≤ n → take k (acts_in w n) ≡ acts_in w k
unfolding acts_in
first_items zero n w l = refl
first_items (suc k) zero w l = absurd (omega arith)
first_items (suc k) (suc n) w l = ap (λ (acts : List Act). act_in w ∷ acts) (first_items k n (drop item_words w) (omega arith))

-- the items of both, out of the words of one block
pub two_lists : (n m : ℕ) (w : List ℕ) → acts_in w (n + m) ≡ acts_in w n ++ acts_in (drop (item_words * n) w) m
unfolding acts_in
two_lists zero m w = let e : 0 + m ≡ m = omega arith in rw e
two_lists (suc n) m w =
    let e : suc n + m ≡ suc (n + m) = omega arith in
    let d : drop (item_words * n) (drop item_words w) ≡ drop (item_words * suc n) w = moved item_words n w in
    rw (e, ← d) (ap (λ (acts : List Act). act_in w ∷ acts) (two_lists n m (drop item_words w)))
  where
    moved : (k n : ℕ) (w : List ℕ) → drop (k * n) (drop k w) ≡ drop (k * suc n) w
    moved k n w = let e : k + k * n ≡ k * suc n = omega arith in drop-drop (k * n) k w ∙ ap (λ (j : ℕ). drop j w) e
