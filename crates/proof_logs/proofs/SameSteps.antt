-- WHAT IS GIVEN BEHIND THE VALUES IS IGNORED: an accepted step or post with equal values says the same and leaves the same. Assumes nothing.
use Prim.Native.Nat.{ℕ, suc, ◌+◌, ◌-◌, ◌≤◌}
use mathlib.Core.Path.{◌≡◌, refl, sym, ◌∙◌, ap, ap₂}
use mathlib.Core.Bool.{Bool, true}
use mathlib.Core.List.{List, [], ◌∷◌, ◌++◌}
use lib.Dec.{eqb, ltb}
use lib.ListN.{length}
use borrow.Author.Tests.{eq-eqb}
use Rattle.base_words.specs.Pick.{if◌then◌or_else◌}
use Rattle.base_words.specs.Words.{at}
use Rattle.base_words.specs.Writes.{writes}
use Rattle.base_words.specs.Counts.{values}
use Rattle.base_state.specs.Places.{values_in, slots_in, slot_words, queue_words, queue_place}
use Rattle.base_state.specs.Instances.{with_instance, with_stores, with_made}
use Rattle.meaning.specs.declared.Tuple.{Tuple}
use Rattle.meaning.specs.declared.Name.{Name}
use Rattle.meaning.specs.declared.Evaluated.{Evaluated}
use Rattle.meaning.specs.declared.Traffic.TheVariants.{Nothing, Consumed, Sent}
use Rattle.meaning.specs.Tuples.{empty, same_tuple}
use Rattle.meaning.specs.Messages.{without}
use Rattle.meaning.specs.Queues.{messages_of, message_word, messages_word, queue_word, with_messages, sending, tidied}
use Rattle.meaning.specs.Assignments.{Assigned}
use Rattle.meaning.specs.Changes.{taken, moved}
use Rattle.meaning.specs.Refusals.{Refusal, first_refusal}
use Rattle.meaning.specs.Step.{Site, Outcome, site_of, pool_named, element_named, move_named, receives, sends, after_taking, message_named, refusals, instance_after, made_after, instances_after, queues_after, traffic, step}
use Rattle.meaning.specs.Post.{post_refusals, post}
use Rattle.step_values.proofs.TupleLaws.{same_value, same_sym}
use Rattle.step_queues.proofs.MessageLaws.{same_both}
use Rattle.step_queues.proofs.ChangeLaws.{tidied_same}
use Rattle.proof_steps.proofs.Choices.{chosen}
use Rattle.proof_listing.proofs.SameValues.{y, template_same, work_same, sent_same, with_given, accepted_same}

-- TWO TUPLES WITH EQUAL VALUES
module _ (g k : Tuple) (same : same_tuple g k ≡ true) where
  without_same : (ms : List Tuple) → without g ms ≡ without k ms
  unfolding without
  without_same [] = refl
  without_same (x ∷ xs) =
      ap₂ (λ (b : Bool) (ys : List Tuple). if b then xs or_else x ∷ ys) (same_sym x g ∙ same_both g k x same ∙ same_sym k x) (without_same xs)

-- THE SAME SITE with equal values
module _ (x : Site) (g : Tuple) (same : same_tuple x.given g ≡ true) where
  after_same : instance_after x ≡ instance_after (y x g same)
  unfolding instance_after after_taking
  after_same = ap (λ (w : Assigned). moved x.element x.move x.branch (taken x.element x.move x.branch w.instance)) (work_same x g same)

  queues_same : (q : List ℕ) → queues_after x q ≡ queues_after (y x g same) q
  unfolding queues_after
  queues_same q =
      ap₂ (λ (ms : List Tuple) (e : Evaluated). if receives x then with_messages q (message_named x) ms or_else if sends x then sending q (message_named x) e.tuple or_else q)
      (without_same x.given g same (messages_of q (message_named x))) (sent_same x g same)

  traffic_same : traffic x ≡ traffic (y x g same)
  unfolding traffic
  traffic_same =
      ap₂ (λ (e d : Evaluated).
      if receives x then record { number = 0; traffic = Consumed; name = message_named x; tuple = e.tuple }
      or_else if sends x then record { number = 0; traffic = Sent; name = message_named x; tuple = d.tuple }
      or_else record { number = 0; traffic = Nothing; name = 0; tuple = empty })
      (template_same x g same) (sent_same x g same)

-- A STEP that is accepted
module _ (t s q : List ℕ) (n : Name) (allowed : first_refusal (refusals t s q n) ≡ 0) where
  accepted_step : step t s q n ≡ record { answer = traffic (site_of t s n); instances = instances_after t s n; queues = queues_after (site_of t s n) q }
  unfolding step
  accepted_step = chosen (eqb (first_refusal (refusals t s q n)) 0) _ _ (eq-eqb (first_refusal (refusals t s q n)) 0 allowed)

module _ (t s q : List ℕ) (n : Name) (g : Tuple) (same : same_tuple n.given g ≡ true) where
  abbrev k : Name
  k = with_given n g

  site_traffic : traffic (site_of t s n) ≡ traffic (site_of t s k)
  unfolding site_of element_named move_named
  site_traffic = traffic_same (site_of t s n) g same

  site_instances : instances_after t s n ≡ instances_after t s k
  unfolding instances_after site_of element_named move_named made_after
  site_instances =
      ap (λ (h : List ℕ). with_made (with_stores (with_instance s (pool_named t n) n.instance h) h) (pool_named t n) (made_after (site_of t s n))) (after_same (site_of t s n) g same)

  site_queues : queues_after (site_of t s n) q ≡ queues_after (site_of t s k) q
  unfolding site_of element_named move_named
  site_queues = queues_same (site_of t s n) g same q

  pub step_same : first_refusal (refusals t s q n) ≡ 0 → step t s q k ≡ step t s q n
  step_same allowed =
      let one : Outcome = record { answer = traffic (site_of t s n); instances = instances_after t s n; queues = queues_after (site_of t s n) q } in
      let other : Outcome = record { answer = traffic (site_of t s k); instances = instances_after t s k; queues = queues_after (site_of t s k) q } in
      let both : one ≡ other = λ i. record { answer = site_traffic i; instances = site_instances i; queues = site_queues i } in
      accepted_step t s q k (accepted_same t s q n g same allowed) ∙ sym both ∙ sym (accepted_step t s q n allowed)

-- A POST, of at most 4 values
module _ (g : Tuple) (few : g.length ≤ values) where
  word_same : (i : ℕ) → message_word (tidied g) i ≡ message_word g i
  unfolding message_word tidied
  word_same i = ap (λ (v : ℕ). if eqb i 0 then g.length or_else v) (same_value (tidied g) g (tidied_same g few) (i - values_in))

  words_same : (ms : List Tuple) (i : ℕ) → messages_word (ms ++ (tidied g ∷ [])) i ≡ messages_word (ms ++ (g ∷ [])) i
  unfolding messages_word
  words_same [] i = ap (λ (v : ℕ). if ltb i slot_words then v or_else 0) (word_same i)
  words_same (m ∷ ms) i = ap (λ (v : ℕ). if ltb i slot_words then message_word m i or_else v) (words_same ms (i - slot_words))

  longer_same : (ms : List Tuple) → length (ms ++ (tidied g ∷ [])) ≡ length (ms ++ (g ∷ []))
  longer_same [] = refl
  longer_same (m ∷ ms) = ap suc (longer_same ms)

  sending_same : (q : List ℕ) (name : ℕ) → sending q name (tidied g) ≡ sending q name g
  unfolding with_messages queue_word
  sending_same q name =
      let ms : List Tuple = messages_of q name in
      ap (λ (f : ℕ → ℕ). writes f q (queue_place name) queue_words)
      (λ i j. if eqb j 0 then longer_same ms i or_else words_same ms (j - slots_in) i)

  refusals_same : (q : List ℕ) (name : ℕ) → post_refusals q name (tidied g) ≡ post_refusals q name g
  unfolding post_refusals tidied
  refusals_same q name = refl

  pub post_same : (q : List ℕ) (name : ℕ) → post q name (tidied g) ≡ post q name g
  unfolding post
  post_same q name =
      ap₂ (λ (rs : List Refusal) (y : List ℕ). if eqb (first_refusal rs) 0 then record { number = 0; queues = y } or_else record { number = first_refusal rs; queues = q })
      (refusals_same q name) (sending_same q name)
