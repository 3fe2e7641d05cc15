-- From a valid state an accepted call leaves the instances and the queues that the rules give. Assumes nothing.
use Prim.Native.Nat.{ℕ}
use mathlib.Core.Path.{◌≡◌, ◌∙◌, ap}
use mathlib.Core.List.{List, ◌++◌}
use lib.ListN.{length}
use lib.Seq.{take_at, drop_at}
use Rattle.base_state.specs.Places.{instances_words}
use Rattle.base_state.specs.Instances.{instances_of, queues_of}
use Rattle.meaning.specs.declared.Name.{Name}
use Rattle.meaning.specs.declared.Tuple.{Tuple}
use Rattle.meaning.specs.Queues.{sending}
use Rattle.meaning.specs.Refusals.{first_refusal}
use Rattle.meaning.specs.Post.{post_refusals}
use Rattle.meaning.specs.Step.{site_of, refusals, instances_after, queues_after}
use Rattle.proof_steps.proofs.Choices.{chosen}
use Rattle.proof_steps.proofs.OnlyOwn.{length_after}
use Rattle.proof_steps.proofs.Traffic.{state_queues}
use Rattle.engine.specs.Engine.{fitting}
use Rattle.engine.proofs.CallLaws.{state_fits_lem, long_instances, long_queues}
use Rattle.engine.specs.Calls.{a_step, a_post, did, Valid}
use Rattle.proof_demands.specs.Demands.{after_act}
use Rattle.proof_demands.proofs.QueuesMore.{QueuesFit}
use Rattle.proof_valid.proofs.NumberGiven.{stepped_number, posted_number}
use Rattle.proof_demands.proofs.Exactly.{accepted_gives}

-- two parts that are put together
module _ (s q : List ℕ) (long : length s ≡ instances_words) where
  instances_of_lem : instances_of (s ++ q) ≡ s
  instances_of_lem = take_at s q instances_words long

  queues_of_lem : queues_of (s ++ q) ≡ q
  queues_of_lem = drop_at s q instances_words long

module _ (t : List ℕ) where
  module _ (z : List ℕ) (v : Valid t z) where
    pub queues_fit : QueuesFit (queues_of z)
    queues_fit = record { wide = long_queues z v.long; fits = state_queues t (instances_of z) (queues_of z) (state_fits_lem t z v.fits) }

    -- the number, where table and state are right
    pub step_number : (n : Name) → (did t (a_step n) z).number ≡ first_refusal (refusals t (instances_of z) (queues_of z) n)
    unfolding did
    step_number n = stepped_number t z n ∙ chosen (fitting t z) (first_refusal (refusals t (instances_of z) (queues_of z) n)) _ v.fits

    pub post_number : (name : ℕ) (g : Tuple) → (did t (a_post name g) z).number ≡ first_refusal (post_refusals (queues_of z) name g)
    unfolding did
    post_number name g = posted_number t z name g ∙ chosen (fitting t z) (first_refusal (post_refusals (queues_of z) name g)) _ v.fits

    -- WHAT AN ACCEPTED STEP LEAVES
    module _ (n : Name) (accepted : (did t (a_step n) z).number ≡ 0) where
      abbrev s : List ℕ
      s = instances_after t (instances_of z) n

      abbrev q : List ℕ
      q = queues_after (site_of t (instances_of z) n) (queues_of z)

      step_state : (did t (a_step n) z).state ≡ s ++ q
      unfolding after_act
      step_state = accepted_gives t (a_step n) z accepted

      long_after : length s ≡ instances_words
      long_after = length_after t (instances_of z) n ∙ long_instances z v.long

      pub step_instances : instances_of (did t (a_step n) z).state ≡ s
      step_instances = ap (λ (y : List ℕ). instances_of y) step_state ∙ instances_of_lem s q long_after

      pub step_queues : queues_of (did t (a_step n) z).state ≡ q
      step_queues = ap (λ (y : List ℕ). queues_of y) step_state ∙ queues_of_lem s q long_after

    -- and an accepted post
    module _ (name : ℕ) (g : Tuple) (accepted : (did t (a_post name g) z).number ≡ 0) where
      post_state : (did t (a_post name g) z).state ≡ instances_of z ++ sending (queues_of z) name g
      unfolding after_act
      post_state = accepted_gives t (a_post name g) z accepted

      pub post_instances : instances_of (did t (a_post name g) z).state ≡ instances_of z
      post_instances = ap (λ (y : List ℕ). instances_of y) post_state ∙ instances_of_lem (instances_of z) (sending (queues_of z) name g) (long_instances z v.long)

      pub post_queues : queues_of (did t (a_post name g) z).state ≡ sending (queues_of z) name g
      post_queues = ap (λ (y : List ℕ). queues_of y) post_state ∙ queues_of_lem (instances_of z) (sending (queues_of z) name g) (long_instances z v.long)
