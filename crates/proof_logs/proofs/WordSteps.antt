-- WHAT IS SENT, CONSUMED OR POSTED IS IN WORDS, where the table's words and what is posted are. t is a table, s the instances and q the queues of a state. Assumes nothing.
use Prim.Native.Nat.{ℕ, zero, suc, ◌+◌, ◌-◌, ◌<◌, ◌≤◌}
use mathlib.Core.Path.{◌≡◌, ◌∙◌, sym, subst}
use mathlib.Core.Bool.{true, ◌&&◌, false≢true}
use mathlib.Core.Logic.{⊎_elim}
use mathlib.Core.List.{List, [], ◌∷◌, ◌++◌}
use native.Mathlib.Omega.{arith}
use lib.Dec.{eqb, leb, ltb}
use lib.ListN.{length, length-append, set, replicate}
use borrow.Author.Tests.{eqb-true, ltb-true, leb-true}
use Rattle.std.proofs.lemmas.Bool.{or_cases}
use Rattle.base_words.specs.Counts.{names, values, messages}
use Rattle.base_words.specs.Each.{tab}
use Rattle.base_words.specs.Pick.{if◌then◌or_else◌}
use Rattle.base_words.specs.Words.{at, greatest}
use Rattle.base_words.proofs.AllLaws.{and_left, and_right}
use Rattle.base_words.specs.Iter.{iter}
use Rattle.base_words.proofs.IterLaws.{iter_keeps}
use Rattle.base_words.proofs.ListLaws.{length-tab}
use Rattle.base_kinds.specs.Moves.{on, making}
use Rattle.base_table.specs.Places.{element_place}
use Rattle.base_table.specs.Table.{pool_count}
use Rattle.base_state.specs.Places.{state_words, instances_words, instance_words, instance_place, made_place, store_words, shared_words, shared_place, version_at, token_place, values_in, slots_in, slot_words, queue_words, queue_place, slot_place}
use Rattle.base_state.specs.Instances.{instances_of, queues_of, made_count, with_instance, with_stores}
use Rattle.base_state.specs.Versions.{former, present, is_version}
use Rattle.check_limits.specs.Limits.{table_fits}
use Rattle.state_fits.specs.Fits.{has_start}
use Rattle.state_fits.specs.Fresh.{start_edge, pool_begun, fresh}
use Rattle.meaning.specs.declared.Answer.{Answer}
use Rattle.meaning.specs.declared.Evaluated.{Evaluated}
use Rattle.meaning.specs.declared.Name.{Name}
use Rattle.meaning.specs.declared.Tuple.{Tuple}
use Rattle.meaning.specs.declared.Traffic.TheVariants.{Nothing, Consumed, Sent}
use Rattle.meaning.specs.Tuples.{empty, value_of, same_tuple}
use Rattle.meaning.specs.Messages.{has, without}
use Rattle.meaning.specs.Queues.{message_count, message_at, messages_of, message_word, messages_word, queue_word, with_messages, sending, consuming}
use Rattle.meaning.specs.Templates.{evaluated, bound}
use Rattle.meaning.specs.Assignments.{Assigned, assigned}
use Rattle.meaning.specs.Changes.{expected, received, worked, message_sent, taken, more}
use Rattle.meaning.specs.Refusals.{first_refusal}
use Rattle.meaning.specs.Post.{post_refusals}
use Rattle.meaning.specs.Step.{Site, site_of, pool_named, element_named, move_named, instance_of, shared_of, before, receives, sends, message_named, template, work, sent, after_taking, instance_after, made_after, instances_after, queues_after, traffic, refusals}
use Rattle.step_values.proofs.TupleLaws.{same_value}
use Rattle.proof_steps.proofs.AcceptedParts.{first_holds}
use Rattle.proof_steps.proofs.Choices.{by_test, by_choice, passed_true}
use Rattle.proof_steps.proofs.Traffic.{received_there, sent-space, sent_short}
use Rattle.engine.specs.Engine.{stepped}
use Rattle.engine.specs.Calls.{Act, a_step, a_post, did, all_accepted, Valid}
use Rattle.engine.proofs.CallLaws.{table_fits_lem}
use Rattle.engine.proofs.KeepsValid.{did-valid}
use Rattle.proof_demands.proofs.Numbers.{stepped-traffic}
use Rattle.proof_demands.proofs.StatesLeft.{step_number, post_number, step_instances, step_queues, post_instances, post_queues}
use Rattle.proof_logs.specs.Told.{message, AllWords, AllPosted}
use Rattle.proof_logs.proofs.WordLaws.{append_worded, Worded, nothing, set_worded, take_worded, drop_worded, zeros_worded, four_worded, tab_worded, writes_worded, value_fine, evaluated_worded, bound_worded, assigned_worded, more_fine, taken_worded, moved_worded}

empty_worded : Worded empty.values
empty_worded = zeros_worded values

-- THE MESSAGES of a queue
abbrev Good : Tuple → Type 0
Good g = (g.length ≤ greatest) × ((j : ℕ) → value_of g j ≤ greatest)

unfoldable AllGood : List Tuple → Type 0
AllGood [] = Unit {0}
AllGood (g ∷ gs) = Good g × AllGood gs

good_append : (ms : List Tuple) (g : Tuple) → AllGood ms → Good g → AllGood (ms ++ (g ∷ []))
unfolding AllGood
good_append [] g a b = (b, tt)
good_append (m ∷ ms) g a b = (a.0, good_append ms g a.1 b)

good_tab : (f : ℕ → Tuple) → ((k : ℕ) → Good (f k)) → (n : ℕ) → AllGood (tab f n)
unfolding tab AllGood
good_tab f h zero = tt
good_tab f h (suc n) = good_append (tab f n) (f n) (good_tab f h n) (h n)

good_without : (g : Tuple) (ms : List Tuple) → AllGood ms → AllGood (without g ms)
unfolding without AllGood
good_without g [] a = tt
good_without g (m ∷ ms) a = by_choice AllGood (same_tuple m g) ms (m ∷ without g ms) (λ e. a.1) (λ e. (a.0, good_without g ms a.1))

fewer_without : (g : Tuple) (ms : List Tuple) → length (without g ms) ≤ length ms
unfolding without
fewer_without g [] = omega arith
fewer_without g (m ∷ ms) =
    let less : length ms ≤ length (m ∷ ms) = omega arith in
    let rest : length (without g ms) ≤ length ms = fewer_without g ms in
    let also : length (m ∷ without g ms) ≤ length (m ∷ ms) = omega (arith, rest) in
    by_choice (λ (ys : List Tuple). length ys ≤ length (m ∷ ms)) (same_tuple m g) ms (m ∷ without g ms) (λ e. less) (λ e. also)

has_good : (g : Tuple) (ms : List Tuple) → AllGood ms → has g ms ≡ true → (j : ℕ) → value_of g j ≤ greatest
unfolding has AllGood
has_good g [] a h j = absurd (false≢true h)
has_good g (m ∷ ms) a h j =
    by_test (same_tuple m g)
    (λ e. subst (λ (k : ℕ). k ≤ greatest) (same_value m g e j) (a.0.1 j))
    (λ e. has_good g ms a.1 (passed_true (same_tuple m g) true (has g ms) h e) j)

-- and their words
message_fine : (g : Tuple) → Good g → (i : ℕ) → message_word g i ≤ greatest
unfolding message_word
message_fine g a i = by_choice (λ (k : ℕ). k ≤ greatest) (eqb i 0) g.length (value_of g (i - values_in)) (λ e. a.0) (λ e. a.1 (i - values_in))

messages_fine : (ms : List Tuple) → AllGood ms → (i : ℕ) → messages_word ms i ≤ greatest
unfolding messages_word AllGood
messages_fine [] a i = nothing
messages_fine (m ∷ ms) a i =
    by_choice (λ (k : ℕ). k ≤ greatest) (ltb i slot_words) (message_word m i) (messages_word ms (i - slot_words)) (λ e. message_fine m a.0 i) (λ e. messages_fine ms a.1 (i - slot_words))

queue_fine : (ms : List Tuple) → AllGood ms → length ms ≤ greatest → (i : ℕ) → queue_word ms i ≤ greatest
unfolding queue_word
queue_fine ms a few i = by_choice (λ (k : ℕ). k ≤ greatest) (eqb i 0) (length ms) (messages_word ms (i - slots_in)) (λ e. few) (λ e. messages_fine ms a (i - slots_in))

module _ (q : List ℕ) (words : Worded q) (name : ℕ) where
  messages_good : AllGood (messages_of q name)
  unfolding messages_of
  messages_good =
      good_tab (message_at q name)
      (λ k. (words (slot_place name k), value_fine (message_at q name k) (four_worded _ _ _ _ (words (slot_place name k + values_in + 0)) (words (slot_place name k + values_in + 1)) (words (slot_place name k + values_in + 2)) (words (slot_place name k + values_in + 3)))))
      (message_count q name)

  with_worded : (ms : List Tuple) → AllGood ms → length ms ≤ greatest → Worded (with_messages q name ms)
  unfolding with_messages
  with_worded ms a few = writes_worded (queue_word ms) (queue_fine ms a few) q (queue_place name) queue_words words

  sending_worded : (g : Tuple) → Good g → length (messages_of q name) < messages → Worded (sending q name g)
  sending_worded g good room =
      with_worded (messages_of q name ++ (g ∷ [])) (good_append (messages_of q name) g messages_good good)
      (let l : length (messages_of q name ++ (g ∷ [])) ≡ length (messages_of q name) + 1 = length-append (messages_of q name) (g ∷ []) in omega (arith, l, room))

  long_fine : length (messages_of q name) ≤ greatest
  unfolding messages_of
  long_fine = subst (λ (k : ℕ). k ≤ greatest) (sym (length-tab (message_at q name) (message_count q name))) (words (queue_place name))

  consuming_worded : (g : Tuple) → Worded (consuming q name g)
  consuming_worded g = with_worded (without g (messages_of q name)) (good_without g (messages_of q name) messages_good) (omega (arith, long_fine, fewer_without g (messages_of q name)))

-- A SITE
module _ (x : Site) (el : Worded x.element) (h : Worded x.instance) (given : receives x ≡ true → (j : ℕ) → value_of x.given j ≤ greatest) where
  received_worded : Worded (received x.element x.instance x.move x.branch x.given)
  unfolding received
  received_worded =
      by_choice Worded (receives x) (bound x.element x.branch x.given x.instance) x.instance
      (λ e. bound_worded x.element x.instance x.branch x.given el h (given e))
      (λ e. h)

  work_worded : Worded (work x).instance
  unfolding work worked
  work_worded =
      let y : List ℕ = received x.element x.instance x.move x.branch x.given in
      by_choice (λ (r : Assigned). Worded r.instance) (eqb x.move.assigns on) (assigned x.element y) (record { defined = true; instance = y })
      (λ e. assigned_worded x.element el y received_worded)
      (λ e. received_worded)

  template_worded : Worded (template x).tuple.values
  unfolding template expected
  template_worded =
      by_choice (λ (v : Evaluated). Worded v.tuple.values) (receives x) (evaluated x.element x.branch x.instance x.given) (record { defined = true; tuple = empty })
      (λ e. evaluated_worded x.element x.instance x.branch x.given el h (given e))
      (λ e. empty_worded)

  sent_worded : Worded (sent x).tuple.values
  unfolding sent message_sent
  sent_worded =
      by_choice (λ (v : Evaluated). Worded v.tuple.values) (sends x) (evaluated x.element x.branch (work x).instance empty) (record { defined = true; tuple = empty })
      (λ e. evaluated_worded x.element (work x).instance x.branch empty el work_worded (value_fine empty empty_worded))
      (λ e. empty_worded)

  traffic_worded : Worded (traffic x).tuple.values
  unfolding traffic
  traffic_worded =
      by_choice (λ (r : Answer). Worded r.tuple.values) (receives x) (record { number = 0; traffic = Consumed; name = message_named x; tuple = (template x).tuple }) _
      (λ e. template_worded)
      (λ e.
      by_choice (λ (r : Answer). Worded r.tuple.values) (sends x) (record { number = 0; traffic = Sent; name = message_named x; tuple = (sent x).tuple })
      (record { number = 0; traffic = Nothing; name = 0; tuple = empty })
      (λ d. sent_worded)
      (λ d. empty_worded))

  after_worded : Worded (instance_after x)
  unfolding instance_after after_taking
  after_worded = moved_worded x.element x.move x.branch (taken x.element x.move x.branch (work x).instance) (taken_worded x.element x.move x.branch (work x).instance work_worded)

-- AN ACCEPTED STEP
module _ (t s q : List ℕ) (n : Name) (tw : Worded t) (sw : Worded s) (qw : Worded q) (fits : table_fits t ≡ true) (allowed : first_refusal (refusals t s q n) ≡ 0) where
  abbrev x : Site
  x = site_of t s n

  element_words : Worded x.element
  unfolding site_of element_named
  element_words = drop_worded (element_place (pool_named t n) n.element) t tw

  instance_words_lem : Worded x.instance
  unfolding site_of before instance_of shared_of
  instance_words_lem =
      append_worded (if eqb (move_named t n).also making then replicate instance_words 0 or_else instance_of s (pool_named t n) n.instance) (shared_of s)
      (by_choice Worded (eqb (move_named t n).also making) (replicate instance_words 0) (tab (λ k. at s (instance_place (pool_named t n) n.instance + k)) instance_words)
      (λ e. zeros_worded instance_words)
      (λ e. tab_worded (λ k. at s (instance_place (pool_named t n) n.instance + k)) (λ k. sw (instance_place (pool_named t n) n.instance + k)) instance_words))
      (tab_worded (λ k. at s (shared_place + k)) (λ k. sw (shared_place + k)) shared_words)

  given_words : receives x ≡ true → (j : ℕ) → value_of x.given j ≤ greatest
  given_words e = has_good x.given (messages_of q (message_named x)) (messages_good q qw (message_named x)) (received_there t s q n fits allowed e)

  made_words : made_after x ≤ greatest
  unfolding made_after site_of
  made_words =
      by_choice (λ (k : ℕ). k ≤ greatest) (eqb (move_named t n).also making) (more (made_count s (pool_named t n))) (made_count s (pool_named t n))
      (λ e. more_fine (made_count s (pool_named t n)) (sw (made_place (pool_named t n))))
      (λ e. sw (made_place (pool_named t n)))

  pub step_says : Worded (traffic x).tuple.values
  step_says = traffic_worded x element_words instance_words_lem given_words

  after_words : Worded (instance_after x)
  after_words = after_worded x element_words instance_words_lem given_words

  pub step_instances_worded : Worded (instances_after t s n)
  unfolding instances_after
  step_instances_worded =
      set_worded (with_stores (with_instance s (pool_named t n) n.instance (instance_after x)) (instance_after x)) (made_place (pool_named t n)) (made_after x)
      (writes_worded (λ k. at (instance_after x) (instance_words + k)) (λ k. after_words (instance_words + k)) (with_instance s (pool_named t n) n.instance (instance_after x)) shared_place store_words
      (writes_worded (at (instance_after x)) after_words s (instance_place (pool_named t n) n.instance) instance_words sw))
      made_words

  pub step_queues_worded : Worded (queues_after x q)
  unfolding queues_after
  step_queues_worded =
      by_choice Worded (receives x) (consuming q (message_named x) x.given) _
      (λ e. consuming_worded q qw (message_named x) x.given)
      (λ e.
      by_choice Worded (sends x) (sending q (message_named x) (sent x).tuple) q
      (λ d.
      let short = sent_short t s q n fits allowed d in
      let few : (sent x).tuple.length ≤ greatest = omega (arith, short) in
      sending_worded q qw (message_named x) (sent x).tuple (few, value_fine (sent x).tuple (sent_worded x element_words instance_words_lem given_words)) (sent-space t s q n fits allowed d))
      (λ d. qw))

-- A FRESH STATE
pub version_small : (v : ℕ) → is_version v ≡ true → v ≤ greatest
unfolding is_version
version_small v e =
    ⊎_elim (λ h. let is : v ≡ former = eqb-true v former h in omega arith) (λ h. let is : v ≡ present = eqb-true v present h in omega arith)
    (or_cases (eqb v former) (eqb v present) e)

pub fresh_worded : (t : List ℕ) (v : ℕ) → v ≤ greatest → Worded (fresh t v)
unfolding fresh pool_begun
fresh_worded t v few =
    set_worded (iter (pool_begun t) (replicate state_words 0) (pool_count t)) version_at v
    (iter_keeps (pool_begun t) (replicate state_words 0) Worded (pool_count t)
    (λ k z l w.
    by_choice Worded (has_start t k) (set (set z (made_place k) 1) (instance_place k 0 + token_place (start_edge t k)) 1) z
    (λ e. set_worded (set z (made_place k) 1) (instance_place k 0 + token_place (start_edge t k)) 1 (set_worded z (made_place k) 1 w (omega arith)) (omega arith))
    (λ e. w))
    (zeros_worded state_words))
    few

-- CALLS ONE AFTER THE OTHER
pub record Words (z : List ℕ) : Type 0 where
  pub instances : Worded (instances_of z)
  pub queues : Worded (queues_of z)

pub whole_words : (z : List ℕ) → Worded z → Words z
whole_words z w = record { instances = take_worded instances_words z w; queues = drop_worded instances_words z w }

module _ (t : List ℕ) (tw : Worded t) where
  module _ (z : List ℕ) (v : Valid t z) (w : Words z) where
    module _ (n : Name) (e : (did t (a_step n) z).number ≡ 0) where
      allowed : first_refusal (refusals t (instances_of z) (queues_of z) n) ≡ 0
      allowed = sym (step_number t z v n) ∙ e

      step_message : Worded (stepped t z n).answer.tuple.values
      unfolding did
      step_message =
          subst (λ (r : Answer). Worded r.tuple.values) (sym (stepped-traffic t z n e))
          (step_says t (instances_of z) (queues_of z) n tw w.instances w.queues (table_fits_lem t z v.fits) allowed)

      step_words : Words (did t (a_step n) z).state
      step_words = record {
        instances = subst Worded (sym (step_instances t z v n e)) (step_instances_worded t (instances_of z) (queues_of z) n tw w.instances w.queues (table_fits_lem t z v.fits) allowed);
        queues = subst Worded (sym (step_queues t z v n e)) (step_queues_worded t (instances_of z) (queues_of z) n tw w.instances w.queues (table_fits_lem t z v.fits) allowed);
      }

    module _ (name : ℕ) (g : Tuple) (e : (did t (a_post name g) z).number ≡ 0) (gw : Worded g.values) where
      right : ((ltb name names && leb g.length values) ≡ true) × (ltb (length (messages_of (queues_of z) name)) messages ≡ true)
      unfolding post_refusals
      right =
          let a = first_holds 19 (ltb name names && leb g.length values) _ (λ k. omega (arith, k)) (sym (post_number t z v name g) ∙ e) in
          (a.0, (first_holds 17 (ltb (length (messages_of (queues_of z) name)) messages) [] (λ k. omega (arith, k)) a.1).0)

      short : g.length ≤ greatest
      short = omega (arith, leb-true g.length values (and_right (ltb name names) (leb g.length values) right.0))

      post_words : Words (did t (a_post name g) z).state
      post_words = record {
        instances = subst Worded (sym (post_instances t z v name g e)) w.instances;
        queues = subst Worded (sym (post_queues t z v name g e)) (sending_worded (queues_of z) w.queues name g (short, value_fine g gw) (ltb-true (length (messages_of (queues_of z) name)) messages right.1));
      }

  pub words_hold : (acts : List Act) (z : List ℕ) → Valid t z → Words z → all_accepted t acts z ≡ true → AllPosted acts → AllWords t acts z
  unfolding all_accepted AllPosted AllWords message
  words_hold [] z v w h p = tt
  words_hold (a_step n ∷ rest) z v w h p =
      let e : (did t (a_step n) z).number ≡ 0 = eqb-true (did t (a_step n) z).number 0 (and_left (eqb (did t (a_step n) z).number 0) (all_accepted t rest (did t (a_step n) z).state) h) in (
        step_message z v w n e,
        words_hold rest (did t (a_step n) z).state (did-valid t (a_step n) z v) (step_words z v w n e) (and_right (eqb (did t (a_step n) z).number 0) (all_accepted t rest (did t (a_step n) z).state) h) p,
      )
  words_hold (a_post name g ∷ rest) z v w h p =
      let e : (did t (a_post name g) z).number ≡ 0 = eqb-true (did t (a_post name g) z).number 0 (and_left (eqb (did t (a_post name g) z).number 0) (all_accepted t rest (did t (a_post name g) z).state) h) in (
        p.0,
        words_hold rest (did t (a_post name g) z).state (did-valid t (a_post name g) z v) (post_words z v w name g e p.0) (and_right (eqb (did t (a_post name g) z).number 0) (all_accepted t rest (did t (a_post name g) z).state) h) p.1,
      )
