-- Whether a step is accepted, and the instances after it, depend on the queues only by 15 and 17. Assumes nothing.
use Prim.Native.Nat.{ℕ}
use mathlib.Core.Path.{◌≡◌, ◌∙◌, sym}
use mathlib.Core.Bool.{true}
use mathlib.Core.List.{List}
use borrow.Author.Tests.{eq-eqb}
use Rattle.base_words.specs.Pick.{if◌then◌or_else◌}
use Rattle.meaning.specs.declared.Name.{Name}
use Rattle.meaning.specs.Refusals.{first_refusal}
use Rattle.meaning.specs.Step.{Site, site_of, queued, space, refusals, instances_after, step}
use Rattle.proof_steps.proofs.AcceptedParts.{Accepted, accepted_parts, parts_accepted}

-- the same site with other queues in which the message is there and the queue sent to has space
other_queues : (x : Site) (q q' : List ℕ) → queued x q' ≡ true → space x q' ≡ true → Accepted x q → Accepted x q'
other_queues x q q' w p a =
    record {
      permits = a.permits;
      grants = a.grants;
      templated = a.templated;
      outright = a.outright;
      matched = a.matched;
      worked_out = a.worked_out;
      waiting = w;
      limited = a.limited;
      spacious = p;
      roomed = a.roomed;
    }

module _ (t s : List ℕ) (n : Name) where
  pub accepted_instances : (q : List ℕ) → first_refusal (refusals t s q n) ≡ 0 → (step t s q n).instances ≡ instances_after t s n
  unfolding step if◌then◌or_else◌
  accepted_instances q e = rw (eq-eqb (first_refusal (refusals t s q n)) 0 e)

  module _ (q q' : List ℕ) (accepted : first_refusal (refusals t s q n) ≡ 0) (waiting : queued (site_of t s n) q' ≡ true) (spacious : space (site_of t s n) q' ≡ true) where
    pub accepted_too : first_refusal (refusals t s q' n) ≡ 0
    accepted_too =
        let a = accepted_parts t s q n accepted in
        parts_accepted t s q' n a.0 (other_queues (site_of t s n) q q' waiting spacious a.1)

    pub same_instances : (step t s q n).instances ≡ (step t s q' n).instances
    same_instances = accepted_instances q accepted ∙ sym (accepted_instances q' accepted_too)
