-- What the code finds of one entry. Assumes nothing.
use Prim.Native.Nat.{ℕ, zero, suc, ◌+◌, ◌-◌, ◌≤◌}
use mathlib.Core.Path.{◌≡◌, refl, sym, ◌∙◌, ap}
use mathlib.Core.Bool.{Bool, true, false, ◌&&◌}
use mathlib.Core.List.{List, [], ◌∷◌}
use native.Mathlib.Omega.{arith}
use borrow.Author.Tests.{ne_eqb, eq-eqb, eqb-true, eqb-false}
use lib.Dec.{eqb}
use Rattle.base_words.specs.Each.{tab}
use Rattle.base_words.specs.Sum.{sum, one_if}
use Rattle.base_words.proofs.PickLaws.{and_no, and_yes, and_false_right, pick_yes, pick_no}
use Rattle.meaning.specs.declared.Name.{Name}
use Rattle.meaning.specs.declared.Answer.{Answer}
use Rattle.meaning.specs.declared.Traffic.{Traffic}
use Rattle.meaning.specs.declared.Traffic.TheVariants.{Nothing, Consumed, Sent}
use Rattle.meaning.specs.declared.Tuple.{Tuple}
use Rattle.meaning.specs.Tuples.{same_tuple}
use Rattle.meaning.specs.Messages.{times}
use Rattle.meaning.specs.Queues.{message_count, message_at, messages_of}
use Rattle.step_queues.proofs.MessageLaws.{times_append}
use Rattle.step_history.specs.declared.Accounts.{Accounts}
use Rattle.step_history.specs.declared.Moved.{Moved}
use Rattle.step_history.specs.declared.Noted.{Noted}
use Rattle.step_history.specs.History.{step_gave, post_gave, is_message, is_sent, is_consumed, is_quiet, is_accepted, as_posted, as_sent, as_consumed, posts, sends, consumes, nothing_moved, moved_by, entry_noted, balances}

not_sent : (x : Traffic) → (x ≡ Sent → ⊥) → is_sent x ≡ false
unfolding is_sent
not_sent Nothing o = refl
not_sent Consumed o = refl
not_sent Sent o = absurd (o refl)

not_consumed : (x : Traffic) → (x ≡ Consumed → ⊥) → is_consumed x ≡ false
unfolding is_consumed
not_consumed Nothing o = refl
not_consumed Consumed o = absurd (o refl)
not_consumed Sent o = refl

module _ (m : ℕ) (g : Tuple) (n : Name) (a : Answer) where
  pub sends_refused : (a.number ≡ 0 → ⊥) → false ≡ sends m g (step_gave n a)
  unfolding sends is_accepted
  sends_refused d = and_no (eqb a.number 0) (as_sent m g (step_gave n a)) (ne_eqb a.number 0 d)

  pub consumes_refused : (a.number ≡ 0 → ⊥) → false ≡ consumes m g (step_gave n a)
  unfolding consumes is_accepted
  consumes_refused d = and_no (eqb a.number 0) (as_consumed m g (step_gave n a)) (ne_eqb a.number 0 d)

  pub sends_other : (a.traffic ≡ Sent → ⊥) → false ≡ sends m g (step_gave n a)
  unfolding sends as_sent
  sends_other o = sym (and_false_right (is_accepted (step_gave n a)) _ (ap (λ (b : Bool). b && is_message m g a.name a.tuple) (not_sent a.traffic o)))

  pub consumes_other : (a.traffic ≡ Consumed → ⊥) → false ≡ consumes m g (step_gave n a)
  unfolding consumes as_consumed
  consumes_other o = sym (and_false_right (is_accepted (step_gave n a)) _ (ap (λ (b : Bool). b && is_message m g a.name a.tuple) (not_consumed a.traffic o)))

  pub sends_this : (r : Bool) → a.number ≡ 0 → a.traffic ≡ Sent → r ≡ is_message m g a.name a.tuple → r ≡ sends m g (step_gave n a)
  unfolding sends is_accepted as_sent is_sent
  sends_this r k e d =
      and_yes (eqb a.number 0) _ r (eq-eqb a.number 0 k) (and_yes (is_sent a.traffic) _ r (ap is_sent e) d)

  pub consumes_this : (r : Bool) → a.number ≡ 0 → a.traffic ≡ Consumed → r ≡ is_message m g a.name a.tuple → r ≡ consumes m g (step_gave n a)
  unfolding consumes is_accepted as_consumed is_consumed
  consumes_this r k e d =
      and_yes (eqb a.number 0) _ r (eq-eqb a.number 0 k) (and_yes (is_consumed a.traffic) _ r (ap is_consumed e) d)

-- the balance by differences
differences : (p s q c : ℕ) → q ≤ p → s ≤ c → eqb (p - q) (c - s) ≡ eqb (p + s) (q + c)
differences p s q c l r = go (eqb (p + s) (q + c)) refl
  where
    go : (b : Bool) → eqb (p + s) (q + c) ≡ b → eqb (p - q) (c - s) ≡ b
    go true e = let d = eqb-true (p + s) (q + c) e in eq-eqb (p - q) (c - s) (omega arith)
    go false e = ne_eqb (p - q) (c - s) (λ d. eqb-false (p + s) (q + c) e (omega arith))

eqb-sym : (a b : ℕ) → eqb a b ≡ eqb b a
eqb-sym a b = go (eqb b a) refl
  where
    go : (c : Bool) → eqb b a ≡ c → eqb a b ≡ c
    go true e = eq-eqb a b (sym (eqb-true b a e))
    go false e = ne_eqb a b (λ d. eqb-false b a e (sym d))

module _ (a : Accounts) where
  pub balance_not : (a.posted + a.sent ≡ a.queued + a.consumed → ⊥) → false ≡ balances a
  unfolding balances
  balance_not d = sym (ne_eqb (a.posted + a.sent) (a.queued + a.consumed) d)

  pub balance_over : a.queued ≤ a.posted → a.sent ≤ a.consumed → eqb (a.posted - a.queued) (a.consumed - a.sent) ≡ balances a
  unfolding balances
  balance_over l r = differences a.posted a.sent a.queued a.consumed l r

  pub balance_under : a.posted ≤ a.queued → a.consumed ≤ a.sent → eqb (a.queued - a.posted) (a.sent - a.consumed) ≡ balances a
  unfolding balances
  balance_under l r =
      differences a.queued a.consumed a.posted a.sent l r
      ∙ eqb-sym (a.queued + a.consumed) (a.posted + a.sent)

-- WHAT AN ENTRY MOVED
module _ (n : Name) (a : Answer) where
  pub moved_refused : (a.number ≡ 0 → ⊥) → nothing_moved ≡ moved_by (step_gave n a)
  unfolding moved_by
  moved_refused d = pick_no (eqb a.number 0) nothing_moved _ nothing_moved (ne_eqb a.number 0 d) refl

  pub moved_quiet : a.number ≡ 0 → a.traffic ≡ Nothing → nothing_moved ≡ moved_by (step_gave n a)
  unfolding moved_by is_quiet
  moved_quiet e q =
      pick_yes (eqb a.number 0) nothing_moved _ nothing_moved (eq-eqb a.number 0 e) (pick_yes (is_quiet a.traffic) nothing_moved nothing_moved _ (ap is_quiet q) refl)

  not_quiet : (x : Traffic) → (x ≡ Nothing → ⊥) → is_quiet x ≡ false
  unfolding is_quiet
  not_quiet Nothing o = absurd (o refl)
  not_quiet Consumed o = refl
  not_quiet Sent o = refl

  pub moved_some : a.number ≡ 0 → (a.traffic ≡ Nothing → ⊥) → record { some = true; name = a.name; tuple = a.tuple } ≡ moved_by (step_gave n a)
  unfolding moved_by
  moved_some e o =
      pick_yes (eqb a.number 0) _ _ nothing_moved (eq-eqb a.number 0 e) (pick_no (is_quiet a.traffic) _ nothing_moved _ (not_quiet a.traffic o) refl)

module _ (m : ℕ) (g : Tuple) (k : ℕ) where
  pub posted_refused : (k ≡ 0 → ⊥) → nothing_moved ≡ moved_by (post_gave m g k)
  unfolding moved_by
  posted_refused d = pick_no (eqb k 0) nothing_moved _ nothing_moved (ne_eqb k 0 d) refl

  pub posted_some : k ≡ 0 → record { some = true; name = m; tuple = g } ≡ moved_by (post_gave m g k)
  unfolding moved_by
  posted_some e = pick_yes (eqb k 0) _ _ nothing_moved (eq-eqb k 0 e) refl

-- a step posts nothing, a post neither sends nor consumes
and_never : (b : Bool) → 0 ≡ one_if (b && false)
and_never true = refl
and_never false = refl

module _ (m : ℕ) (g : Tuple) where
  pub step_noted : (n : Name) (a : Answer) (b c : Bool) (s d : ℕ) (v : Moved) → b ≡ sends m g (step_gave n a) → s ≡ one_if b → c ≡ consumes m g (step_gave n a) → d ≡ one_if c → v ≡ moved_by (step_gave n a)
      → ◌≡◌ {A = Noted} (record { posted = 0; sent = s; consumed = d; moved = v }) (entry_noted m g (step_gave n a))
  unfolding entry_noted posts as_posted
  step_noted n a b c s d v p q r u w =
      let x : s ≡ one_if (sends m g (step_gave n a)) = q ∙ ap one_if p in
      let y : d ≡ one_if (consumes m g (step_gave n a)) = u ∙ ap one_if r in
      λ i. record { posted = and_never (is_accepted (step_gave n a)) i; sent = x i; consumed = y i; moved = w i }

  pub post_noted : (name : ℕ) (t : Tuple) (k : ℕ) (b : Bool) (s : ℕ) (v : Moved) → b ≡ posts m g (post_gave name t k) → s ≡ one_if b → v ≡ moved_by (post_gave name t k)
      → ◌≡◌ {A = Noted} (record { posted = s; sent = 0; consumed = 0; moved = v }) (entry_noted m g (post_gave name t k))
  unfolding entry_noted sends consumes as_sent as_consumed
  post_noted name t k b s v p q w =
      let x : s ≡ one_if (posts m g (post_gave name t k)) = q ∙ ap one_if p in
      let y : 0 ≡ one_if (is_accepted (post_gave name t k) && false) = and_never (is_accepted (post_gave name t k)) in
      λ i. record { posted = x i; sent = y i; consumed = y i; moved = w i }

-- HOW MANY ARE QUEUED: of the first n messages
times_sum : (g : Tuple) (f : ℕ → Tuple) (n : ℕ) → sum (λ j. one_if (same_tuple (f j) g)) n ≡ times g (tab f n)
unfolding times tab sum
times_sum g f zero = refl
times_sum g f (suc n) = rw (times_append g (tab f n) (f n ∷ [])) (omega (arith, times_sum g f n))

pub times_counted : (q : List ℕ) (m : ℕ) (g : Tuple) (r n : ℕ) → r ≡ sum (λ j. one_if (same_tuple (message_at q m j) g)) n → n ≡ message_count q m → r ≡ times g (messages_of q m)
unfolding messages_of
times_counted q m g r n e d = e ∙ times_sum g (message_at q m) n ∙ ap (λ (j : ℕ). times g (tab (message_at q m) j)) d
