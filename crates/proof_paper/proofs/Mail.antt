-- THE MAIL: a queue of messages as the paper's multiset. Consuming takes one out of it, sending puts one in, and no other queue changes. Assumes nothing.
use Prim.Native.Nat.{ℕ, zero, suc, ◌+◌, ◌-◌, ◌*◌, ◌<◌, ◌≤◌}
use mathlib.Core.Path.{◌≡◌, refl, sym, ◌∙◌, ap, ap₂, subst}
use mathlib.Core.Bool.{Bool, true, false, false≢true}
use mathlib.Core.List.{List, [], ◌∷◌}
use native.Mathlib.Nat.{not-suc-le-zero, le_of_suc-le-suc}
use native.Mathlib.Omega.{arith}
use lib.Dec.{eqb, ltb}
use lib.ListN.{length, length-append}
use borrow.Author.Tests.{eqb-true, eq-eqb, ltb-true, lt-ltb}
use Rattle.base_words.specs.Pick.{if◌then◌or_else◌}
use Rattle.base_words.specs.Sum.{one_if}
use Rattle.base_words.specs.Words.{at}
use Rattle.base_words.specs.Counts.{names, values, messages}
use Rattle.base_words.proofs.AllLaws.{and_left, and_right, all_at, all_of}
use Rattle.base_words.proofs.PickLaws.{and_true}
use Rattle.base_state.specs.Places.{queue_words}
use Rattle.meaning.specs.declared.Tuple.{Tuple}
use Rattle.meaning.specs.Tuples.{empty, same_tuple}
use Rattle.meaning.specs.Messages.{has, times, without as leaving, appended}
use Rattle.meaning.specs.Queues.{message_count, messages_of, sending, consuming, tidied, Tidy}
use Rattle.step_queues.proofs.MessageLaws.{length_without}
use Rattle.step_queues.proofs.QueueLaws.{count_is}
use Rattle.step_queues.proofs.ReadLaws.{messages_other}
use Rattle.step_queues.proofs.ChangeLaws.{messages-sending, messages-consuming, times-sending, times-consuming}
use Rattle.proof_steps.proofs.Choices.{by_test, chosen, passed}
use Rattle.paper.specs.States.{put, Multiset, same, ◌joined◌, ◌without◌}
use Rattle.proof_paper.specs.Decoders.{span, inside_or, nothing, queue_of, tuple_of, values_of}
use Rattle.proof_paper.proofs.Stores.{same_if, put_is}
use Rattle.proof_paper.proofs.Spans.{from_here, from_next, length-span, get_d_span, span_alike}

bool_same : (a b : Bool) → (a ≡ true → b ≡ true) → (b ≡ true → a ≡ true) → a ≡ b
bool_same true b f g = sym (f refl)
bool_same false true f g = g refl
bool_same false false f g = refl

-- TUPLES: the engine's comparison and the paper's
same_to : (f : ℕ → ℕ) (k n : ℕ) (ws : List ℕ) → same (span f k n) ws ≡ true → (n ≡ length ws) × ((j : ℕ) → j < n → f (k + j) ≡ at ws j)
unfolding same span
same_to f k zero [] e = (refl, (λ j l. absurd (not-suc-le-zero l)))
same_to f k zero (w ∷ ws) e = absurd (false≢true e)
same_to f k (suc n) [] e = absurd (false≢true e)
same_to f k (suc n) (w ∷ ws) e =
    let r = same_to f (suc k) n ws (and_right (eqb (f k) w) (same (span f (suc k) n) ws) e) in
    (ap suc r.0, first (eqb-true (f k) w (and_left (eqb (f k) w) (same (span f (suc k) n) ws) e)) r.1)
  where
    first : f k ≡ w → ((j : ℕ) → j < n → f (suc k + j) ≡ at ws j) → (j : ℕ) → j < suc n → f (k + j) ≡ at (w ∷ ws) j
    first z r zero l = ap f (from_here k) ∙ z
    first z r (suc j) l = ap f (from_next k j) ∙ r j (le_of_suc-le-suc l)

to_same : (f : ℕ → ℕ) (k n : ℕ) (ws : List ℕ) → n ≡ length ws → ((j : ℕ) → j < n → f (k + j) ≡ at ws j) → same (span f k n) ws ≡ true
unfolding same span
to_same f k zero [] e h = refl
to_same f k zero (w ∷ ws) e h = absurd (omega arith)
to_same f k (suc n) [] e h = absurd (omega arith)
to_same f k (suc n) (w ∷ ws) e h =
    and_true (eqb (f k) w) (same (span f (suc k) n) ws) (eq-eqb (f k) w (ap f (sym (from_here k)) ∙ h 0 (omega arith)))
    (to_same f (suc k) n ws (omega arith) (λ j l. ap f (sym (from_next k j)) ∙ h (suc j) (omega arith)))

tuple_to : (g h : Tuple) → same_tuple g h ≡ true → (g.length ≡ h.length) × ((j : ℕ) → j < g.length → at g.values j ≡ at h.values j)
unfolding same_tuple
tuple_to g h e = (
  eqb-true g.length h.length (and_left (eqb g.length h.length) _ e),
  (λ j l. eqb-true _ _ (all_at (λ j. eqb (at g.values j) (at h.values j)) g.length (and_right (eqb g.length h.length) _ e) j l)),
)

to_tuple : (g h : Tuple) → g.length ≡ h.length → ((j : ℕ) → j < g.length → at g.values j ≡ at h.values j) → same_tuple g h ≡ true
unfolding same_tuple
to_tuple g h e f =
    and_true (eqb g.length h.length) _ (eq-eqb g.length h.length e) (all_of (λ j. eqb (at g.values j) (at h.values j)) g.length (λ j l. eq-eqb _ _ (f j l)))

same_is : (g : Tuple) (ws : List ℕ) → same_tuple g (tuple_of ws) ≡ same (values_of g) ws
unfolding values_of
same_is g ws =
    bool_same (same_tuple g (tuple_of ws)) (same (span (at g.values) 0 g.length) ws)
    (λ e. let r = tuple_to g (tuple_of ws) e in to_same (at g.values) 0 g.length ws r.0 (λ j l. let z : 0 + j ≡ j = omega arith in ap (at g.values) z ∙ r.1 j l))
    (λ e. let r = same_to (at g.values) 0 g.length ws e in to_tuple g (tuple_of ws) r.0 (λ j l. let z : j ≡ 0 + j = omega arith in ap (at g.values) z ∙ r.1 j l))

-- a tuple and its values are equal to the same tuples
read_back : (g : Tuple) (j : ℕ) → j < g.length → at (values_of g) j ≡ at g.values j
unfolding values_of
read_back g j l = let z : 0 + j ≡ j = omega arith in get_d_span (at g.values) 0 g.length j 0 l ∙ ap (at g.values) z

pub length-values : (g : Tuple) → length (values_of g) ≡ g.length
unfolding values_of
length-values g = length-span (at g.values) 0 g.length

values_is : (x g : Tuple) → same_tuple x (tuple_of (values_of g)) ≡ same_tuple x g
values_is x g =
    bool_same (same_tuple x (tuple_of (values_of g))) (same_tuple x g)
    (λ e. let r = tuple_to x (tuple_of (values_of g)) e in to_tuple x g (r.0 ∙ length-values g) (λ j l. r.1 j l ∙ read_back g j (omega (arith, r.0, length-values g))))
    (λ e. let r = tuple_to x g e in to_tuple x (tuple_of (values_of g)) (r.0 ∙ sym (length-values g)) (λ j l. r.1 j l ∙ sym (read_back g j (omega (arith, r.0)))))

-- equal tuples have equal values
pub equal_values : (x g : Tuple) → same_tuple x g ≡ true → values_of x ≡ values_of g
unfolding values_of
equal_values x g e =
    let r = tuple_to x g e in
    span_alike (at x.values) (at g.values) 0 x.length (λ j l. let z : 0 + j ≡ j = omega arith in subst (λ i. at x.values i ≡ at g.values i) (sym z) (r.1 j l))
    ∙ ap (span (at g.values) 0) r.0

-- no values
pub none_given : (g : Tuple) → same_tuple empty g ≡ true → values_of g ≡ []
unfolding values_of span
none_given g e = ap (span (at g.values) 0) (sym (tuple_to empty g e).0)

pub given_none : (g : Tuple) → values_of g ≡ [] → same_tuple empty g ≡ true
given_none g e = to_tuple empty g (sym (sym (length-values g) ∙ ap length e)) (λ j l. absurd (not-suc-le-zero l))

pub times-values : (g : Tuple) (ms : List Tuple) → times (tuple_of (values_of g)) ms ≡ times g ms
unfolding times
times-values g [] = refl
times-values g (x ∷ xs) = ap₂ ◌+◌ (ap one_if (values_is x g)) (times-values g xs)

-- ONE IS THERE
pub has-times : (g : Tuple) (ms : List Tuple) → has g ms ≡ true → 0 < times g ms
unfolding has times
has-times g [] e = absurd (false≢true e)
has-times g (x ∷ xs) e =
    by_test (same_tuple x g)
    (λ s. let z : one_if (same_tuple x g) ≡ 1 = ap one_if s in omega arith)
    (λ s. let r = has-times g xs (sym (passed (same_tuple x g) true (has g xs) s) ∙ e) in omega arith)

pub times-has : (g : Tuple) (ms : List Tuple) → 0 < times g ms → has g ms ≡ true
unfolding has times
times-has g [] l = absurd (not-suc-le-zero l)
times-has g (x ∷ xs) l =
    by_test (same_tuple x g)
    (λ s. chosen (same_tuple x g) true (has g xs) s)
    (λ s. let z : one_if (same_tuple x g) ≡ 0 = ap one_if s in passed (same_tuple x g) true (has g xs) s ∙ times-has g xs (omega arith))

-- THE MAIL, read from queues
abbrev pub mail_of : List ℕ → ℕ → Multiset
mail_of q m = inside_or nothing (ltb m names) (queue_of q m)

module _ (q : List ℕ) (m : ℕ) (long : length q ≡ queue_words * names) (name : m < names) (tidy : Tidy q m) (rooms : (k : ℕ) → k < names → message_count q k ≤ messages) (g : Tuple) where
  abbrev ms : List Tuple
  ms = messages_of q m

  here_is : (r : List ℕ) → mail_of r m ≡ queue_of r m
  here_is r = chosen (ltb m names) (queue_of r m) nothing (lt-ltb m names name)

  -- rm(σm, m, ṽ)
  taken_out : has g ms ≡ true → queue_of (consuming q m g) m ≡ (queue_of q m without values_of g)
  unfolding ◌without◌
  taken_out e = λ i. record { times = λ ws. at_each ws i; size = sizes i }
    where
      at_each : (ws : List ℕ) → times (tuple_of ws) (messages_of (consuming q m g) m) ≡ (if same (values_of g) ws then times (tuple_of ws) ms - 1 or_else times (tuple_of ws) ms)
      at_each ws =
          let c = times-consuming q m long name tidy g (tuple_of ws) e in
          by_test (same (values_of g) ws)
          (λ s. let z : one_if (same_tuple g (tuple_of ws)) ≡ 1 = ap one_if (same_is g ws ∙ s) in let y : times (tuple_of ws) (messages_of (consuming q m g) m) ≡ times (tuple_of ws) ms - 1 = omega (arith, c) in y ∙ sym (chosen (same (values_of g) ws) _ _ s))
          (λ s. let z : one_if (same_tuple g (tuple_of ws)) ≡ 0 = ap one_if (same_is g ws ∙ s) in let y : times (tuple_of ws) (messages_of (consuming q m g) m) ≡ times (tuple_of ws) ms = omega (arith, c) in y ∙ sym (passed (same (values_of g) ws) _ _ s))

      sizes : length (messages_of (consuming q m g) m) ≡ length ms - 1
      sizes = let z = length_without g ms e in ap length (messages-consuming q m long name tidy g) ∙ omega (arith, z)

  pub mail_consumed : has g ms ≡ true → mail_of (consuming q m g) ≡ put (mail_of q) m (mail_of q m without values_of g)
  mail_consumed e =
      put_is (mail_of q) (mail_of (consuming q m g)) m (mail_of q m without values_of g)
      (here_is (consuming q m g) ∙ taken_out e ∙ ap (λ (M : Multiset). M without values_of g) (sym (here_is q)))
      (λ k ne. same_if (ltb k names) nothing (queue_of (consuming q m g) k) (queue_of q k) (λ w. ap view (messages_other q m (leaving g ms) k ne (rooms k (ltb-true k names w)))))
    where
      view : List Tuple → Multiset
      view xs = record { times = λ vs. times (tuple_of vs) xs; size = length xs }

  -- add(σm, m, ṽ)
  put_in : length ms < messages → g.length ≤ values → queue_of (sending q m g) m ≡ (queue_of q m joined values_of g)
  unfolding ◌joined◌
  put_in l r = λ i. record { times = λ ws. at_each ws i; size = sizes i }
    where
      fewer : message_count q m < messages
      fewer = let c = count_is q m in omega arith

      at_each : (ws : List ℕ) → times (tuple_of ws) (messages_of (sending q m g) m) ≡ (if same (values_of g) ws then times (tuple_of ws) ms + 1 or_else times (tuple_of ws) ms)
      at_each ws =
          let c = times-sending q m long name tidy g fewer (tuple_of ws) r in
          by_test (same (values_of g) ws)
          (λ s. let z : one_if (same_tuple g (tuple_of ws)) ≡ 1 = ap one_if (same_is g ws ∙ s) in let y : times (tuple_of ws) (messages_of (sending q m g) m) ≡ times (tuple_of ws) ms + 1 = omega (arith, c) in y ∙ sym (chosen (same (values_of g) ws) _ _ s))
          (λ s. let z : one_if (same_tuple g (tuple_of ws)) ≡ 0 = ap one_if (same_is g ws ∙ s) in let y : times (tuple_of ws) (messages_of (sending q m g) m) ≡ times (tuple_of ws) ms = omega (arith, c) in y ∙ sym (passed (same (values_of g) ws) _ _ s))

      sizes : length (messages_of (sending q m g) m) ≡ length ms + 1
      sizes = ap length (messages-sending q m long name tidy g fewer) ∙ length-append ms (tidied g ∷ [])

  pub mail_sent : length ms < messages → g.length ≤ values → mail_of (sending q m g) ≡ put (mail_of q) m (mail_of q m joined values_of g)
  mail_sent l r =
      put_is (mail_of q) (mail_of (sending q m g)) m (mail_of q m joined values_of g)
      (here_is (sending q m g) ∙ put_in l r ∙ ap (λ (M : Multiset). M joined values_of g) (sym (here_is q)))
      (λ k ne. same_if (ltb k names) nothing (queue_of (sending q m g) k) (queue_of q k) (λ w. ap view (messages_other q m (appended ms g) k ne (rooms k (ltb-true k names w)))))
    where
      view : List Tuple → Multiset
      view xs = record { times = λ vs. times (tuple_of vs) xs; size = length xs }
