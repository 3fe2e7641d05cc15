-- WHAT ONE CALL DOES TO THE NUMBER QUEUED, for each name and tuple: an accepted post and a step that sends add one, a step that consumes takes one away, a refused call alters nothing. t is a table, z a valid state.
-- Assumes nothing.
use Prim.Native.Nat.{ℕ, ◌+◌, ◌*◌, ◌≤◌, ◌<◌}
use mathlib.Core.Path.{◌≡◌, refl, sym, ◌∙◌, ap, subst}
use mathlib.Core.Bool.{Bool, true, false, ◌&&◌}
use mathlib.Core.List.{List}
use native.Mathlib.Omega.{arith}
use lib.Dec.{eqb, ltb}
use lib.ListN.{length, get_or-eq_default}
use borrow.Author.Tests.{eqb-true, eqb-false, eq-eqb, ne_eqb, ltb-true, ltb-false}
use Rattle.base_words.specs.Sum.{one_if}
use Rattle.base_words.specs.Pick.{if◌then◌or_else◌}
use Rattle.base_words.specs.Counts.{names, messages}
use Rattle.base_words.proofs.PickLaws.{and_false_left}
use Rattle.base_state.specs.Places.{queue_words}
use Rattle.base_state.specs.Instances.{instances_of, queues_of}
use Rattle.check_limits.specs.Limits.{table_fits}
use Rattle.meaning.specs.declared.Name.{Name}
use Rattle.meaning.specs.declared.Answer.{Answer}
use Rattle.meaning.specs.declared.Traffic.TheVariants.{Nothing, Consumed, Sent}
use Rattle.meaning.specs.declared.Tuple.{Tuple}
use Rattle.meaning.specs.Tuples.{empty, same_tuple}
use Rattle.meaning.specs.Messages.{times, appended}
use Rattle.meaning.specs.Queues.{message_count, messages_of, sending}
use Rattle.meaning.specs.Refusals.{first_refusal}
use Rattle.meaning.specs.Post.{post_refusals}
use Rattle.meaning.specs.Step.{Site, site_of, receives, sends as sendsAt, matches, message_named, template, sent, refusals, queues_after, traffic}
use Rattle.step_queues.proofs.MessageLaws.{same_both}
use Rattle.step_queues.proofs.QueueLaws.{count_is}
use Rattle.step_queues.proofs.ReadLaws.{messages_other}
use Rattle.step_queues.proofs.ChangeLaws.{times-sending}
use Rattle.state_fits.specs.Fits.{state_fits}
use Rattle.proof_steps.proofs.Choices.{by_test, chosen, passed}
use Rattle.proof_steps.proofs.ConsumesOne.{consumes_one, sends_one}
use Rattle.proof_steps.proofs.OnlyOwn.{only_messages}
use Rattle.proof_steps.proofs.QueueFits.{fits_tidy}
use Rattle.proof_steps.proofs.Traffic.{site, state_queues}
use Rattle.engine.specs.Engine.{stepped, posted_to}
use Rattle.engine.specs.Calls.{a_step, a_post, did, Valid}
use Rattle.engine.proofs.CallLaws.{table_fits_lem, state_fits_lem, long_queues}
use Rattle.proof_demands.proofs.FirstDemand.{act_refused}
use Rattle.proof_demands.proofs.Numbers.{stepped-traffic}
use Rattle.proof_demands.proofs.StatesLeft.{step_number, post_number, step_queues, post_queues}
use Rattle.proof_demands.proofs.StepMore.{post_named, post_short, post_room}
use Rattle.step_history.specs.History.{step_gave, post_gave, is_message, is_consumed, is_sent, is_accepted, as_posted, as_sent, as_consumed, posts, sends, consumes, queued}

-- another name, or this one
module _ (m : ℕ) (g : Tuple) (name : ℕ) (x : Tuple) where
  other_name : (name ≡ m → ⊥) → is_message m g name x ≡ false
  unfolding is_message
  other_name d = and_false_left (eqb name m) (same_tuple x g) (ne_eqb name m d)

  own_name : name ≡ m → is_message m g name x ≡ same_tuple x g
  unfolding is_message
  own_name e = ap (λ (b : Bool). b && same_tuple x g) (eq-eqb name m e)

-- WHAT AN ANSWER SAYS of a name and a tuple
module _ (m : ℕ) (g : Tuple) (n : Name) (name : ℕ) (x : Tuple) where
  abbrev consumed_it : Answer
  consumed_it = record { number = 0; traffic = Consumed; name = name; tuple = x }

  abbrev sent_it : Answer
  sent_it = record { number = 0; traffic = Sent; name = name; tuple = x }

  consumed_consumes : consumes m g (step_gave n consumed_it) ≡ is_message m g name x
  unfolding consumes is_accepted as_consumed is_consumed
  consumed_consumes = refl

  consumed_sends : sends m g (step_gave n consumed_it) ≡ false
  unfolding sends is_accepted as_sent is_sent
  consumed_sends = refl

  sent-consumes : consumes m g (step_gave n sent_it) ≡ false
  unfolding consumes is_accepted as_consumed is_consumed
  sent-consumes = refl

  sent-sends : sends m g (step_gave n sent_it) ≡ is_message m g name x
  unfolding sends is_accepted as_sent is_sent
  sent-sends = refl

none_consumes : (m : ℕ) (g : Tuple) (n : Name) → consumes m g (step_gave n (record { number = 0; traffic = Nothing; name = 0; tuple = empty })) ≡ false
unfolding consumes is_accepted as_consumed is_consumed
none_consumes m g n = refl

none_sends : (m : ℕ) (g : Tuple) (n : Name) → sends m g (step_gave n (record { number = 0; traffic = Nothing; name = 0; tuple = empty })) ≡ false
unfolding sends is_accepted as_sent is_sent
none_sends m g n = refl

module _ (m : ℕ) (g : Tuple) (n : Name) (a : Answer) (refused : a.number ≡ 0 → ⊥) where
  refused_consumes : consumes m g (step_gave n a) ≡ false
  unfolding consumes is_accepted
  refused_consumes = and_false_left (eqb a.number 0) (as_consumed m g (step_gave n a)) (ne_eqb a.number 0 refused)

  refused_sends : sends m g (step_gave n a) ≡ false
  unfolding sends is_accepted
  refused_sends = and_false_left (eqb a.number 0) (as_sent m g (step_gave n a)) (ne_eqb a.number 0 refused)

refused_posts : (m : ℕ) (g : Tuple) (name : ℕ) (x : Tuple) (k : ℕ) → (k ≡ 0 → ⊥) → posts m g (post_gave name x k) ≡ false
unfolding posts is_accepted
refused_posts m g name x k d = and_false_left (eqb k 0) (as_posted m g (post_gave name x k)) (ne_eqb k 0 d)

accepted_posts : (m : ℕ) (g : Tuple) (name : ℕ) (x : Tuple) → posts m g (post_gave name x 0) ≡ is_message m g name x
unfolding posts is_accepted as_posted
accepted_posts m g name x = refl

-- EVERY QUEUE HAS AT MOST 64; a name above 15 has none
module _ (q : List ℕ) (long : length q ≡ queue_words * names) where
  no_queue : (m : ℕ) → names ≤ m → message_count q m ≡ 0
  no_queue m l = get_or-eq_default q 0 (omega (arith, long, l))

module _ (t z : List ℕ) (v : Valid t z) where
  abbrev q : List ℕ
  q = queues_of z

  fits : table_fits t ≡ true
  fits = table_fits_lem t z v.fits

  state : state_fits t (instances_of z) q ≡ true
  state = state_fits_lem t z v.fits

  long : length q ≡ queue_words * names
  long = long_queues z v.long

  room : (m : ℕ) → message_count q m ≤ messages
  room m =
      by_test (ltb m names)
      (λ e. (fits_tidy q m (state_queues t (instances_of z) q state m (ltb-true m names e))).room)
      (λ e. omega (arith, no_queue q long m (ltb-false m names e)))

  -- A STEP
  module _ (n : Name) (m : ℕ) (g : Tuple) where
    abbrev a : Answer
    a = (stepped t z n).answer

    abbrev y : List ℕ
    y = (stepped t z n).state

    abbrev x : Site
    x = site_of t (instances_of z) n

    abbrev Moves : Answer → List ℕ → Type 0
    Moves b r = times g (messages_of r m) + one_if (consumes m g (step_gave n b)) ≡ times g (messages_of q m) + one_if (sends m g (step_gave n b))

    module _ (accepted : a.number ≡ 0) where
      allowed : first_refusal (refusals t (instances_of z) q n) ≡ 0
      unfolding did
      allowed = sym (step_number t z v n) ∙ accepted

      matched : matches x ≡ true
      matched = (site t (instances_of z) q n fits allowed).matched

      -- another queue than the step's
      elsewhere : (message_named x ≡ m → ⊥) → messages_of (queues_after x q) m ≡ messages_of q m
      elsewhere d = only_messages x q m (λ e. d (sym e)) (room m)

      receiving : receives x ≡ true → Moves (consumed_it m g n (message_named x) (template x).tuple) (queues_after x q)
      unfolding matches
      receiving e =
          let none : one_if (sends m g (step_gave n (consumed_it m g n (message_named x) (template x).tuple))) ≡ 0 = ap one_if (consumed_sends m g n (message_named x) (template x).tuple) in
          by_test (eqb (message_named x) m)
          (λ f.
          let here : message_named x ≡ m = eqb-true (message_named x) m f in
          let one : one_if (consumes m g (step_gave n (consumed_it m g n (message_named x) (template x).tuple))) ≡ one_if (same_tuple x.given g)
          = ap one_if (consumed_consumes m g n (message_named x) (template x).tuple ∙ own_name m g (message_named x) (template x).tuple here ∙ same_both (template x).tuple x.given g matched) in
          let moved : times g (messages_of (queues_after x q) m) + one_if (same_tuple x.given g) ≡ times g (messages_of q m)
          = subst (λ (k : ℕ). times g (messages_of (queues_after x q) k) + one_if (same_tuple x.given g) ≡ times g (messages_of q k)) here
          (consumes_one t (instances_of z) q n fits long state allowed e g) in
          omega (arith, none, one, moved))
          (λ f.
          let there = eqb-false (message_named x) m f in
          let one : one_if (consumes m g (step_gave n (consumed_it m g n (message_named x) (template x).tuple))) ≡ 0
          = ap one_if (consumed_consumes m g n (message_named x) (template x).tuple ∙ other_name m g (message_named x) (template x).tuple there) in
          omega (arith, none, one, ap (times g) (elsewhere there)))

      sending_one : sendsAt x ≡ true → Moves (sent_it m g n (message_named x) (sent x).tuple) (queues_after x q)
      sending_one e =
          let none : one_if (consumes m g (step_gave n (sent_it m g n (message_named x) (sent x).tuple))) ≡ 0 = ap one_if (sent-consumes m g n (message_named x) (sent x).tuple) in
          by_test (eqb (message_named x) m)
          (λ f.
          let here : message_named x ≡ m = eqb-true (message_named x) m f in
          let one : one_if (sends m g (step_gave n (sent_it m g n (message_named x) (sent x).tuple))) ≡ one_if (same_tuple (sent x).tuple g)
          = ap one_if (sent-sends m g n (message_named x) (sent x).tuple ∙ own_name m g (message_named x) (sent x).tuple here) in
          let moved : times g (messages_of (queues_after x q) m) ≡ times g (messages_of q m) + one_if (same_tuple (sent x).tuple g)
          = subst (λ (k : ℕ). times g (messages_of (queues_after x q) k) ≡ times g (messages_of q k) + one_if (same_tuple (sent x).tuple g)) here
          (sends_one t (instances_of z) q n fits long state allowed e g) in
          omega (arith, none, one, moved))
          (λ f.
          let there = eqb-false (message_named x) m f in
          let one : one_if (sends m g (step_gave n (sent_it m g n (message_named x) (sent x).tuple))) ≡ 0
          = ap one_if (sent-sends m g n (message_named x) (sent x).tuple ∙ other_name m g (message_named x) (sent x).tuple there) in
          omega (arith, none, one, ap (times g) (elsewhere there)))

      neither : receives x ≡ false → sendsAt x ≡ false → Moves (record { number = 0; traffic = Nothing; name = 0; tuple = empty }) (queues_after x q)
      unfolding queues_after if◌then◌or_else◌
      neither e f = rw (e, f) (omega (arith, ap one_if (none_consumes m g n), ap one_if (none_sends m g n)))

      moves_so : Moves (traffic x) (queues_after x q)
      unfolding traffic
      moves_so =
          by_test (receives x)
          (λ e. subst (λ (b : Answer). Moves b (queues_after x q)) (sym (chosen (receives x) _ _ e)) (receiving e))
          (λ e. by_test (sendsAt x)
          (λ f. subst (λ (b : Answer). Moves b (queues_after x q)) (sym (passed (receives x) _ _ e ∙ chosen (sendsAt x) _ _ f)) (sending_one f))
          (λ f. subst (λ (b : Answer). Moves b (queues_after x q)) (sym (passed (receives x) _ _ e ∙ passed (sendsAt x) _ _ f)) (neither e f)))

      accepted_moves : Moves a (queues_of y)
      unfolding did
      accepted_moves =
          subst (λ (b : Answer). Moves b (queues_of y)) (sym (stepped-traffic t z n accepted))
          (subst (Moves (traffic x)) (sym (step_queues t z v n accepted)) moves_so)

    refused_moves : (a.number ≡ 0 → ⊥) → Moves a (queues_of y)
    unfolding did
    refused_moves d =
        omega (arith, ap one_if (refused_consumes m g n a d), ap one_if (refused_sends m g n a d), ap (λ (r : List ℕ). times g (messages_of (queues_of r) m)) (act_refused t (a_step n) z d))

    pub step_moves : queued m g y + one_if (consumes m g (step_gave n a)) ≡ queued m g z + one_if (sends m g (step_gave n a))
    unfolding queued
    step_moves = by_test (eqb a.number 0) (λ e. accepted_moves (eqb-true a.number 0 e)) (λ e. refused_moves (eqb-false a.number 0 e))

  -- A POST
  module _ (name : ℕ) (b : Tuple) (m : ℕ) (g : Tuple) where
    abbrev k : ℕ
    k = (posted_to t z name b).number

    abbrev r : List ℕ
    r = queues_of (posted_to t z name b).state

    module _ (accepted : k ≡ 0) where
      first : first_refusal (post_refusals q name b) ≡ 0
      unfolding did
      first = sym (post_number t z v name b) ∙ accepted

      few : name < names
      few = post_named q name b first

      after_is : r ≡ sending q name b
      unfolding did
      after_is = post_queues t z v name b accepted

      here : name ≡ m → times g (messages_of (sending q name b) m) ≡ times g (messages_of q m) + one_if (same_tuple b g)
      here e =
          subst (λ (j : ℕ). times g (messages_of (sending q name b) j) ≡ times g (messages_of q j) + one_if (same_tuple b g)) e
          (times-sending q name long few (fits_tidy q name (state_queues t (instances_of z) q state name few)) b (omega (arith, post_room q name b first, count_is q name)) g (post_short q name b first))

      there : (name ≡ m → ⊥) → messages_of (sending q name b) m ≡ messages_of q m
      there d = messages_other q name (appended (messages_of q name) b) m (λ e. d (sym e)) (room m)

      accepted_post : times g (messages_of r m) ≡ times g (messages_of q m) + one_if (posts m g (post_gave name b k))
      accepted_post =
          let said : posts m g (post_gave name b k) ≡ is_message m g name b = ap (λ (j : ℕ). posts m g (post_gave name b j)) accepted ∙ accepted_posts m g name b in
          let is : times g (messages_of r m) ≡ times g (messages_of (sending q name b) m) = ap (λ (u : List ℕ). times g (messages_of u m)) after_is in
          by_test (eqb name m)
          (λ e. let f = eqb-true name m e in omega (arith, is, here f, ap one_if (said ∙ own_name m g name b f)))
          (λ e. let f = eqb-false name m e in omega (arith, is, ap (times g) (there f), ap one_if (said ∙ other_name m g name b f)))

    refused_post : (k ≡ 0 → ⊥) → times g (messages_of r m) ≡ times g (messages_of q m) + one_if (posts m g (post_gave name b k))
    unfolding did
    refused_post d =
        omega (arith, ap one_if (refused_posts m g name b k d), ap (λ (u : List ℕ). times g (messages_of (queues_of u) m)) (act_refused t (a_post name b) z d))

    pub post_moves : queued m g (posted_to t z name b).state ≡ queued m g z + one_if (posts m g (post_gave name b k))
    unfolding queued
    post_moves = by_test (eqb k 0) (λ e. accepted_post (eqb-true k 0 e)) (λ e. refused_post (eqb-false k 0 e))
