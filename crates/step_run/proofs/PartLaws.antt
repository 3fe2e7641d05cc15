-- The two parts of a state after a step: a step keeps the length of each. Assumes nothing.
use mathlib.Core.Path.{◌≡◌, ◌∙◌, refl, ap}
use mathlib.Core.Bool.{Bool, true, false}
use mathlib.Core.List.{List, [], ◌∷◌, ◌++◌}
use Prim.Native.Nat.{ℕ, zero, suc, ◌+◌, ◌-◌, ◌*◌}
use native.Mathlib.Omega.{arith}
use lib.Dec.{eqb}
use lib.ListN.{length, take, drop, length-set}
use Rattle.base_words.specs.Pick.{if◌then◌or_else◌}
use Rattle.base_words.specs.Words.{at}
use Rattle.base_words.proofs.WritesLaws.{length-writes}
use Rattle.base_state.specs.Places.{instance_words, instance_place, store_words, shared_place, instances_words, slot_place, slot_words}
use Rattle.base_state.specs.Instances.{instances_of, queues_of, with_instance}
use Rattle.meaning.specs.declared.Tuple.{Tuple}
use Rattle.meaning.specs.declared.Name.{Name}
use Rattle.meaning.specs.declared.Answer.{Answer}
use Rattle.meaning.specs.Tuples.{empty}
use Rattle.meaning.specs.Queues.{message_count}
use Rattle.meaning.specs.Refusals.{first_refusal}
use Rattle.meaning.specs.Step.{Site, Outcome, site_of, pool_named, receives, sends, message_named, sent, instance_after, refusals, instances_after}
use Rattle.step_queues.specs.Changes.{oldest, extended, closed_up, removed}
use Rattle.step_queues.proofs.SlotLaws.{length_stored}
use Rattle.step_take.specs.Settled.{queues_changed, settled, Done}

-- two parts that are as long as those of z
two_parts : (n : ℕ) (z s q : List ℕ) → length s ≡ length (take n z) → length q ≡ length (drop n z) → (take n (s ++ q) ≡ s) × (drop n (s ++ q) ≡ q)
two_parts zero z [] q e d = (refl, refl)
two_parts zero z (x ∷ s) q e d = absurd (omega (arith, e))
two_parts (suc n) [] [] [] e d = (refl, refl)
two_parts (suc n) [] [] (y ∷ q) e d = absurd (omega (arith, d))
two_parts (suc n) [] (x ∷ s) q e d = absurd (omega (arith, e))
two_parts (suc n) (w ∷ z) [] q e d = absurd (omega (arith, e))
two_parts (suc n) (w ∷ z) (x ∷ s) q e d =
    let both = two_parts n z s q (omega (arith, e)) d in (ap (λ (l : List ℕ). x ∷ l) both.0, both.1)

-- THE LENGTHS
long_instances : (t s : List ℕ) (n : Name) → length (instances_after t s n) ≡ length s
unfolding instances_after
long_instances t s n =
    simp length-set
    (length-writes (λ k. at (instance_after (site_of t s n)) (instance_words + k)) (with_instance s (pool_named t n) n.instance (instance_after (site_of t s n))) shared_place store_words
    ∙ length-writes (at (instance_after (site_of t s n))) s (instance_place (pool_named t n) n.instance) instance_words)

long_extended : (q : List ℕ) (m : ℕ) (g : Tuple) → length (extended q m g) ≡ length q
unfolding extended
long_extended q m g = simp length-set (length_stored q m (message_count q m) g)

long_removed : (q : List ℕ) (m k : ℕ) → length (removed q m k) ≡ length q
unfolding removed closed_up
long_removed q m k =
    simp length-set
    (length_stored (closed_up q m k) m (message_count q m - 1) empty
    ∙ length-writes (λ i. at q (slot_place m k + i + slot_words)) q (slot_place m k) (slot_words * (message_count q m - 1 - k)))

long_choice : {A : Type 0} (f : A → ℕ) (b : Bool) (x y : A) (l : ℕ) → f x ≡ l → f y ≡ l → f (if b then x or_else y) ≡ l
unfolding if◌then◌or_else◌
long_choice f true x y l e d = e
long_choice f false x y l e d = d

long_queues : (x : Site) (q : List ℕ) → length (queues_changed x q) ≡ length q
unfolding queues_changed
long_queues x q =
    long_choice length (receives x) _ _ (length q) (long_removed q (message_named x) (oldest q (message_named x) x.given))
    (long_choice length (sends x) _ _ (length q) (long_extended q (message_named x) (sent x).tuple) refl)

-- THE PARTS of the state w after a step on z
module _ (t z w : List ℕ) (n : Name) (r : Answer) (d : Done (settled t (instances_of z) (queues_of z) n) r w) where
  after : Outcome
  after = settled t (instances_of z) (queues_of z) n

  long_first : length after.instances ≡ length (instances_of z)
  unfolding after settled
  long_first =
      long_choice (λ (o : Outcome). length o.instances) (eqb (first_refusal (refusals t (instances_of z) (queues_of z) n)) 0) _ _ (length (instances_of z))
      (long_instances t (instances_of z) n) refl

  long_second : length after.queues ≡ length (queues_of z)
  unfolding after settled
  long_second =
      long_choice (λ (o : Outcome). length o.queues) (eqb (first_refusal (refusals t (instances_of z) (queues_of z) n)) 0) _ _ (length (queues_of z))
      (long_queues (site_of t (instances_of z) n) (queues_of z)) refl

  pub instances_then : instances_of w ≡ (settled t (instances_of z) (queues_of z) n).instances
  unfolding after
  instances_then = rw d.state (two_parts instances_words z after.instances after.queues long_first long_second).0

  pub queues_then : queues_of w ≡ (settled t (instances_of z) (queues_of z) n).queues
  unfolding after
  queues_then = rw d.state (two_parts instances_words z after.instances after.queues long_first long_second).1
