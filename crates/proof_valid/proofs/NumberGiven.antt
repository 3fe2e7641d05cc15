-- The number of a step and of a post is that of the first condition that does not hold, 0 where all hold. Assumes nothing.
use Prim.Native.Nat.{ℕ}
use mathlib.Core.Path.{◌≡◌, refl, sym, ◌∙◌}
use mathlib.Core.Bool.{Bool, true, false}
use mathlib.Core.List.{List, ◌++◌}
use lib.Dec.{eqb}
use borrow.Author.Tests.{eqb-true}
use Rattle.base_words.specs.Pick.{if◌then◌or_else◌}
use Rattle.base_state.specs.Instances.{instances_of, queues_of}
use Rattle.meaning.specs.declared.Name.{Name}
use Rattle.meaning.specs.declared.Tuple.{Tuple}
use Rattle.meaning.specs.declared.Traffic.TheVariants.{Nothing}
use Rattle.meaning.specs.Tuples.{empty}
use Rattle.meaning.specs.Queues.{sending}
use Rattle.meaning.specs.Refusals.{first_refusal}
use Rattle.meaning.specs.Post.{Posted, post_refusals, post}
use Rattle.meaning.specs.Step.{Outcome, site_of, instances_after, queues_after, traffic, refusals, refused, step}
use Rattle.proof_steps.proofs.Choices.{by_choice}
use Rattle.proof_figures.proofs.EveryStep.{traffic_zero}
use Rattle.engine.specs.Engine.{Left, lent_number, fitting, Stepped, leaving, stepped, posted_to}

step_number : (t s q : List ℕ) (n : Name) → (step t s q n).answer.number ≡ first_refusal (refusals t s q n)
unfolding step
step_number t s q n =
    by_choice (λ (o : Outcome). o.answer.number ≡ first_refusal (refusals t s q n)) (eqb (first_refusal (refusals t s q n)) 0)
    (record { answer = traffic (site_of t s n); instances = instances_after t s n; queues = queues_after (site_of t s n) q })
    (refused (first_refusal (refusals t s q n)) s q)
    (λ e. traffic_zero (site_of t s n) ∙ sym (eqb-true (first_refusal (refusals t s q n)) 0 e))
    (λ e. refl)

post_number : (q : List ℕ) (name : ℕ) (g : Tuple) → (post q name g).number ≡ first_refusal (post_refusals q name g)
unfolding post
post_number q name g =
    by_choice (λ (o : Posted). o.number ≡ first_refusal (post_refusals q name g)) (eqb (first_refusal (post_refusals q name g)) 0)
    (record { number = 0; queues = sending q name g })
    (record { number = first_refusal (post_refusals q name g); queues = q })
    (λ e. sym (eqb-true (first_refusal (post_refusals q name g)) 0 e))
    (λ e. refl)

-- THE NUMBER of a step and of a post: 10 or 25 where table or state are bad, else that of the first condition that does not hold, 0 where all hold
pub stepped_number : (t z : List ℕ) (n : Name) → (stepped t z n).answer.number ≡ (if fitting t z then first_refusal (refusals t (instances_of z) (queues_of z) n) or_else lent_number t z)
unfolding stepped leaving if◌then◌or_else◌
stepped_number t z n = go (fitting t z)
  where
    o : Bool → Stepped
    o b = if b then leaving (step t (instances_of z) (queues_of z) n) or_else record { answer = record { number = lent_number t z; traffic = Nothing; name = 0; tuple = empty }; state = z }

    go : (b : Bool) → (o b).answer.number ≡ (if b then first_refusal (refusals t (instances_of z) (queues_of z) n) or_else lent_number t z)
    go true = step_number t (instances_of z) (queues_of z) n
    go false = refl

pub posted_number : (t z : List ℕ) (name : ℕ) (g : Tuple) → (posted_to t z name g).number ≡ (if fitting t z then first_refusal (post_refusals (queues_of z) name g) or_else lent_number t z)
unfolding posted_to if◌then◌or_else◌
posted_number t z name g = go (fitting t z)
  where
    o : Bool → Left
    o b = if b then record { number = (post (queues_of z) name g).number; state = instances_of z ++ (post (queues_of z) name g).queues } or_else record { number = lent_number t z; state = z }

    go : (b : Bool) → (o b).number ≡ (if b then first_refusal (post_refusals (queues_of z) name g) or_else lent_number t z)
    go true = post_number (queues_of z) name g
    go false = refl
