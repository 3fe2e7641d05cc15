-- EVERY REQUEST ACCOUNTED FOR: of a history from the fresh state of a valid table, in either version, with refused calls among them, the four numbers of each name and tuple add up, each consumption has a source of
-- its own, and no pool has more instances than its limit. It holds at any time, for a beginning of such a history is one. Assumes nothing.
use Prim.Native.Nat.{ℕ, ◌+◌, ◌≤◌, ◌<◌}
use mathlib.Core.Path.{◌≡◌, refl, sym, ◌∙◌, ap, subst}
use mathlib.Core.Bool.{Bool, true, false, ◌&&◌}
use mathlib.Core.List.{List, [], ◌∷◌, ◌++◌}
use native.Mathlib.Omega.{arith}
use lib.Dec.{eqb, leb}
use lib.ListN.{take, drop}
use lib.Seq.{get_or-drop, get_or-set_other}
use borrow.Author.Tests.{eq-eqb, eqb-true, eqb-false, leb-true, lt-leb}
use Rattle.base_words.specs.Each.{tab}
use Rattle.base_words.specs.Sum.{one_if}
use Rattle.base_words.specs.Words.{at}
use Rattle.base_table.specs.Places.{limit_place}
use Rattle.base_table.specs.Table.{pool_count, limit_of}
use Rattle.base_state.specs.Places.{version_at, instances_words, queue_place}
use Rattle.base_state.specs.Instances.{instances_of, queues_of, made_count}
use Rattle.meaning.specs.declared.Name.{Name}
use Rattle.meaning.specs.declared.Answer.{Answer}
use Rattle.meaning.specs.declared.Tuple.{Tuple}
use Rattle.meaning.specs.Messages.{times}
use Rattle.meaning.specs.Queues.{message_count, messages_of}
use Rattle.meaning.specs.Step.{pool_named}
use Rattle.state_fits.specs.Fits.{has_start, made_fits}
use Rattle.state_fits.specs.Fresh.{fresh}
use Rattle.state_fits.proofs.FreshLaws.{Startable, Pools, pools_behind}
use Rattle.state_fits.proofs.FreshFits.{startable}
use Rattle.proof_steps.proofs.Choices.{by_choice, by_test, chosen_true, passed_true}
use Rattle.proof_steps.proofs.Elements.{pools_few}
use Rattle.proof_steps.proofs.PoolFits.{pool_parts}
use Rattle.proof_steps.proofs.Traffic.{state_instances}
use Rattle.step_history.specs.History.{Entry, step_gave, post_gave, GivenBy, is_accepted, as_posted, as_sent, as_consumed, posts, sends, consumes, how_many, queued, accounts_of, balances}
use Rattle.step_history.specs.Matching.{brings}
use Rattle.step_history.proofs.CountLaws.{counted_none, counted_next}
use Rattle.step_history.proofs.HistoryLaws.{given_split, given_take}
use Rattle.step_history.proofs.MatchLaws.{counted_brings, all_matched}
use Rattle.engine.specs.Engine.{valid, stepped, posted_to}
use Rattle.engine.specs.Calls.{Valid}
use Rattle.engine.proofs.CallLaws.{table_fits_lem, state_fits_lem, asked_good}
use Rattle.engine.proofs.KeepsValid.{step-valid, post-valid, fresh-valid}
use Rattle.proof_valid.proofs.ChecksHold.{valid_fits}
use Rattle.proof_accounts.specs.Accounts.{Given, FromFresh, OneInstance, Accounted}
use Rattle.proof_accounts.proofs.OneCall.{step_moves, post_moves}
use Rattle.proof_accounts.proofs.OneInstance.{one_instance}

and_never : (b : Bool) → one_if (b && false) ≡ 0
and_never true = refl
and_never false = refl

module _ (m : ℕ) (g : Tuple) where
  -- a step posts nothing, a post neither sends nor consumes
  step_posts : (n : Name) (a : Answer) → one_if (posts m g (step_gave n a)) ≡ 0
  unfolding posts as_posted
  step_posts n a = and_never (is_accepted (step_gave n a))

  post_sends : (name : ℕ) (x : Tuple) (k : ℕ) → one_if (sends m g (post_gave name x k)) ≡ 0
  unfolding sends as_sent
  post_sends name x k = and_never (is_accepted (post_gave name x k))

  post_consumes : (name : ℕ) (x : Tuple) (k : ℕ) → one_if (consumes m g (post_gave name x k)) ≡ 0
  unfolding consumes as_consumed
  post_consumes name x k = and_never (is_accepted (post_gave name x k))

module _ (t : List ℕ) where
  -- VALID all along
  pub given_valid : (h : List Entry) (z y : List ℕ) → Valid t z → Given t z h y → Valid t y
  unfolding GivenBy
  given_valid [] z y v d = subst (Valid t) (sym d) v
  given_valid (step_gave n a ∷ h) z y v d = given_valid h (stepped t z n).state y (step-valid t z v n) d.1
  given_valid (post_gave m g k ∷ h) z y v d = given_valid h (posted_to t z m g).state y (post-valid t z v m g) d.1

  -- THE BALANCE from any valid state: what was queued at first counts too
  pub given_balance : (m : ℕ) (g : Tuple) (h : List Entry) (z y : List ℕ) → Valid t z → Given t z h y
      → queued m g z + (how_many (posts m g) h + how_many (sends m g) h) ≡ queued m g y + how_many (consumes m g) h
  unfolding GivenBy
  given_balance m g [] z y v d = omega (arith, counted_none (posts m g), counted_none (sends m g), counted_none (consumes m g), ap (queued m g) d)
  given_balance m g (step_gave n a ∷ h) z y v d =
      let later = given_balance m g h (stepped t z n).state y (step-valid t z v n) d.1 in
      let one : queued m g (stepped t z n).state + one_if (consumes m g (step_gave n a)) ≡ queued m g z + one_if (sends m g (step_gave n a))
      = subst (λ (b : Answer). queued m g (stepped t z n).state + one_if (consumes m g (step_gave n b)) ≡ queued m g z + one_if (sends m g (step_gave n b))) (sym d.0) (step_moves t z v n m g) in
      omega (arith, later, one, step_posts m g n a, counted_next (posts m g) (step_gave n a) h, counted_next (sends m g) (step_gave n a) h, counted_next (consumes m g) (step_gave n a) h)
  given_balance m g (post_gave name x k ∷ h) z y v d =
      let later = given_balance m g h (posted_to t z name x).state y (post-valid t z v name x) d.1 in
      let one : queued m g (posted_to t z name x).state ≡ queued m g z + one_if (posts m g (post_gave name x k))
      = subst (λ (j : ℕ). queued m g (posted_to t z name x).state ≡ queued m g z + one_if (posts m g (post_gave name x j))) (sym d.0) (post_moves t z v name x m g) in
      omega (arith, later, one, post_sends m g name x k, post_consumes m g name x k, counted_next (posts m g) (post_gave name x k) h, counted_next (sends m g) (post_gave name x k) h, counted_next (consumes m g) (post_gave name x k) h)

  -- THE LIMIT of a pool, in a valid state
  limit_some : (p : ℕ) → 1 ≤ limit_of t p
  unfolding limit_of
  limit_some p =
      by_choice (λ (k : ℕ). 1 ≤ k) (eqb (at t (limit_place p)) 0) 1 (at t (limit_place p)) (λ e. omega arith) (λ e. let d = eqb-false (at t (limit_place p)) 0 e in omega (arith, d))

  pub within_limit : (z : List ℕ) → Valid t z → (p : ℕ) → p < pool_count t → made_count (instances_of z) p ≤ limit_of t p
  unfolding made_fits
  within_limit z v p l =
      let few = pools_few t (table_fits_lem t z v.fits) in
      let made = (pool_parts t (instances_of z) p (state_instances t (instances_of z) (queues_of z) (state_fits_lem t z v.fits) p (omega (arith, few, l)))).made in
      let own = passed_true (leb (pool_count t) p) (eqb (made_count (instances_of z) p) 0) _ made (lt-leb (pool_count t) p l) in
      by_test (has_start t p)
      (λ e. let one = eqb-true (made_count (instances_of z) p) 1 (chosen_true (has_start t p) _ _ own e) in omega (arith, one, limit_some p))
      (λ e. leb-true (made_count (instances_of z) p) (limit_of t p) (passed_true (has_start t p) _ _ own e))

-- THE FRESH STATE has nothing queued
module _ (t : List ℕ) (right : valid t ≡ true) (v : ℕ) where
  ask : Startable t
  ask = startable t (valid_fits t right)

  no_messages : (m : ℕ) → message_count (queues_of (fresh t v)) m ≡ 0
  unfolding fresh
  no_messages m =
      get_or-drop instances_words (fresh t v) (queue_place m) 0
      ∙ get_or-set_other (Pools t ask (pool_count t)) version_at (instances_words + queue_place m) v 0 (λ e. omega arith)
      ∙ pools_behind t ask (pool_count t) (instances_words + queue_place m) (omega arith) (omega arith)

  pub fresh_none : (m : ℕ) (g : Tuple) → queued m g (fresh t v) ≡ 0
  unfolding queued messages_of times tab
  fresh_none m g = rw (no_messages m)

-- WHAT IS CLAIMED
module _ (t : List ℕ) (v : ℕ) where
  module _ (h : List Entry) (y : List ℕ) (f : FromFresh t v h y) where
    pub from_valid : Valid t (fresh t v)
    from_valid = fresh-valid t v (asked_good t v f.table f.version)

    -- a beginning is a history too, and what is behind it goes on from its last state
    pub any_time : (i : ℕ) → (x : List ℕ) × FromFresh t v (take i h) x × Given t x (drop i h) y
    any_time i =
        let r = given_take (stepped t) (posted_to t) i h (fresh t v) y f.given in
        (r.0, record { table = f.table; version = f.version; given = r.1 }, r.2)

  pub adds_up : (h : List Entry) (y : List ℕ) → FromFresh t v h y → (m : ℕ) (g : Tuple) → how_many (posts m g) h + how_many (sends m g) h ≡ queued m g y + how_many (consumes m g) h
  adds_up h y f m g = omega (arith, given_balance t m g h (fresh t v) y (from_valid h y f) f.given, fresh_none t f.table v m g)

  module _ (h : List Entry) (y : List ℕ) (f : FromFresh t v h y) where
    balanced : (m : ℕ) (g : Tuple) → balances (accounts_of m g h y) ≡ true
    unfolding accounts_of balances
    balanced m g = eq-eqb (how_many (posts m g) h + how_many (sends m g) h) (queued m g y + how_many (consumes m g) h) (adds_up h y f m g)

    ahead : (m : ℕ) (g : Tuple) (i : ℕ) → how_many (consumes m g) (take i h) ≤ how_many (brings m g) (take i h)
    ahead m g i = let r = any_time h y f i in omega (arith, adds_up (take i h) r.0 r.1 m g, counted_brings m g (take i h))

    pub accounted : Accounted t h y
    accounted = record {
      balanced = balanced;
      matched = all_matched h ahead;
      limited = within_limit t y (given_valid t h (fresh t v) y (from_valid h y f) f.given);
    }

  -- EXACTLY ONE INSTANCE, wherever the step stands in the history
  pub step_of_one : (h : List Entry) (n : Name) (a : Answer) (k : List Entry) (y : List ℕ) → FromFresh t v (h ++ (step_gave n a ∷ k)) y → a.number ≡ 0
      → (z : List ℕ) × FromFresh t v h z × Given t (stepped t z n).state k y × OneInstance t n z (stepped t z n).state (pool_named t n)
  unfolding GivenBy
  step_of_one h n a k y f e =
      let r = given_split (stepped t) (posted_to t) h (step_gave n a ∷ k) (fresh t v) y f.given in
      let b : FromFresh t v h r.0 = record { table = f.table; version = f.version; given = r.1 } in
      (r.0, b, r.2.1, one_instance t r.0 (given_valid t h (fresh t v) r.0 (from_valid h r.0 b) r.1) n (sym (ap (λ (c : Answer). c.number) r.2.0) ∙ e))
