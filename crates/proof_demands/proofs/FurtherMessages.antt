-- What `Further` comes to: the second's queues are longer by the further messages; there is room for these at the start; each has at most 4 values, and
-- what stands behind its values plays no part. Every accepted post makes such a pair of states. Assumes nothing.
use Prim.Native.Nat.{ℕ, ◌+◌, ◌≤◌, ◌<◌}
use mathlib.Core.Path.{◌≡◌, refl, sym, ◌∙◌, ap, subst}
use mathlib.Core.Bool.{Bool, true, false, false≢true}
use mathlib.Core.List.{List, [], ◌∷◌}
use native.Mathlib.Omega.{arith}
use lib.Dec.{eqb, leb}
use lib.ListN.{length}
use borrow.Author.Tests.{leb-true, le-leb, eq-eqb, ne_eqb}
use Rattle.base_words.specs.Each.{each}
use Rattle.base_words.specs.Pick.{if◌then◌or_else◌}
use Rattle.base_words.specs.Sum.{one_if}
use Rattle.base_words.specs.Counts.{names, values, messages}
use Rattle.base_words.proofs.AllLaws.{all_of, and_left, and_right}
use Rattle.base_state.specs.Instances.{queues_of}
use Rattle.meaning.specs.declared.Tuple.{Tuple}
use Rattle.meaning.specs.Tuples.{same_tuple}
use Rattle.meaning.specs.Messages.{has, appended, times}
use Rattle.meaning.specs.Queues.{messages_of, sending}
use Rattle.meaning.specs.Refusals.{first_refusal}
use Rattle.meaning.specs.Post.{post_refusals}
use Rattle.step_values.proofs.TupleLaws.{same_length}
use Rattle.step_queues.proofs.SlotLaws.{by_order}
use Rattle.step_queues.proofs.QueueLaws.{count_is}
use Rattle.step_queues.proofs.ReadLaws.{messages_other}
use Rattle.step_queues.proofs.ChangeLaws.{times-sending}
use Rattle.proof_steps.proofs.Choices.{chosen, passed}
use Rattle.proof_steps.proofs.QueueFits.{is_short, Short, fits_short}
use Rattle.engine.specs.Calls.{Act, a_post, did, all_accepted, after, Valid}
use Rattle.proof_demands.specs.Demands.{Further, room_for_more, never_passes}
use Rattle.proof_demands.proofs.Counts.{times-has, times_lengths}
use Rattle.proof_demands.proofs.QueuesMore.{queue_tidy}
use Rattle.proof_demands.proofs.StepMore.{post_named, post_short, post_room}
use Rattle.engine.proofs.KeepsValid.{did-valid}
use Rattle.proof_demands.proofs.StatesLeft.{queues_fit, post_number, post_instances, post_queues}
use Rattle.proof_demands.proofs.ThirdDemand.{more_messages}

-- a message that is equal to one of short messages is short
has_short : (g : Tuple) (ms : List Tuple) → Short ms → has g ms ≡ true → g.length ≤ values
unfolding has each if◌then◌or_else◌
has_short g [] s h = absurd (false≢true h)
has_short g (x ∷ xs) s h = go (same_tuple x g) refl h (has_short g xs (and_right (is_short x) (each is_short xs) s))
  where
    go : (b : Bool) → same_tuple x g ≡ b → (if b then true or_else has g xs) ≡ true → (has g xs ≡ true → g.length ≤ values) → g.length ≤ values
    go true e k rest = omega (arith, same_length x g e, leb-true x.length values (and_left (is_short x) (each is_short xs) s))
    go false e k rest = rest k

module _ (t : List ℕ) (e : ℕ → List Tuple) (z₁ z₂ : List ℕ) (v : Valid t z₂) (further : Further e z₁ z₂) where
  pub further_lengths : (m : ℕ) → m < names → length (messages_of (queues_of z₂) m) ≡ length (messages_of (queues_of z₁) m) + length (e m)
  further_lengths m l = times_lengths (messages_of (queues_of z₂) m) (messages_of (queues_of z₁) m) (e m) (further.more m l)

  pub further_room : room_for_more e z₁ ≡ true
  unfolding room_for_more
  further_room =
      all_of (λ m. leb (length (messages_of (queues_of z₁) m) + length (e m)) messages) names
      (λ m l.
      le-leb (length (messages_of (queues_of z₁) m) + length (e m)) messages
      (omega (arith, further_lengths m l, count_is (queues_of z₂) m, (queue_tidy (queues_of z₂) (queues_fit t z₂ v) m l).room)))

  pub further_short : (m : ℕ) → m < names → (g : Tuple) → 0 < times g (e m) → g.length ≤ values
  further_short m l g h =
      has_short g (messages_of (queues_of z₂) m) (fits_short (queues_of z₂) m ((queues_fit t z₂ v).fits m l))
      (times-has g (messages_of (queues_of z₂) m) (omega (arith, further.more m l g)))

-- ONE MESSAGE under one name
unfoldable pub only : ℕ → Tuple → ℕ → List Tuple
only name g m = if eqb m name then g ∷ [] or_else []

only_here : (name : ℕ) (g v : Tuple) → times v (only name g name) ≡ one_if (same_tuple g v)
unfolding only times
only_here name g v = ap (times v) (chosen (eqb name name) (g ∷ []) [] (eq-eqb name name refl)) ∙ omega arith

only_other : (name : ℕ) (g v : Tuple) (m : ℕ) → (m ≡ name → ⊥) → times v (only name g m) ≡ 0
unfolding only times
only_other name g v m d = ap (times v) (passed (eqb m name) (g ∷ []) [] (ne_eqb m name d))

-- AN ACCEPTED POST leaves a state that is alike but for its message
module _ (t z : List ℕ) (v : Valid t z) (name : ℕ) (g : Tuple) (accepted : (did t (a_post name g) z).number ≡ 0) where
  abbrev q : List ℕ
  q = queues_of z

  abbrev y : List ℕ
  y = (did t (a_post name g) z).state

  pub post_further : Further (only name g) z y
  post_further = record { alike = sym (post_instances t z v name g accepted); more = λ m l w. rw (post_queues t z v name g accepted) (counted m l w) }
    where
      first : first_refusal (post_refusals q name g) ≡ 0
      first = sym (post_number t z v name g) ∙ accepted

      counted : (m : ℕ) → m < names → (w : Tuple) → times w (messages_of (sending q name g) m) ≡ times w (messages_of q m) + times w (only name g m)
      counted m l w =
          by_order m name (λ r. other (λ s. omega arith))
          (λ r.
          subst (λ k. times w (messages_of (sending q name g) k) ≡ times w (messages_of q k) + times w (only name g k)) r
          (times-sending q name (queues_fit t z v).wide (post_named q name g first) (queue_tidy q (queues_fit t z v) name (post_named q name g first)) g
          (omega (arith, post_room q name g first, count_is q name)) w (post_short q name g first)
          ∙ ap (λ k. times w (messages_of q name) + k) (sym (only_here name g w))))
          (λ r. other (λ s. omega arith))
        where
          other : (m ≡ name → ⊥) → times w (messages_of (sending q name g) m) ≡ times w (messages_of q m) + times w (only name g m)
          other d =
              ap (times w) (messages_other q name (appended (messages_of q name) g) m d (queue_tidy q (queues_fit t z v) m l).room)
              ∙ omega (arith, only_other name g w m d)

  -- what was accepted without it is accepted behind it
  pub post_first : (acts : List Act) → all_accepted t acts z ≡ true → never_passes t (only name g) acts z ≡ true → (all_accepted t acts y ≡ true) × Further (only name g) (after t acts z) (after t acts y)
  post_first acts = more_messages t (only name g) acts z y v (did-valid t (a_post name g) z v) post_further
