-- A step as the code makes it, with as few words changed as it must, whatever stood in the queues before. Where the queues hold 0 in what is not in
-- use it is the step of `meaning` (proofs/StepLaws.antt).
use Rattle.std.specs.Prelude.{ℕ, ◌≡◌, List, ◌++◌, eqb}
use Rattle.base_words.specs.Blocks.{Table, Instances, Queues}
use Rattle.base_words.specs.Pick.{if◌then◌or_else◌}
use Rattle.meaning.specs.declared.Tuple.{Tuple}
use Rattle.meaning.specs.declared.Name.{Name}
use Rattle.meaning.specs.declared.Answer.{Answer}
use Rattle.meaning.specs.Refusals.{first_refusal}
use Rattle.meaning.specs.Step.{Site, site_of, receives, sends, message_named, sent, refusals, instances_after, traffic, Outcome, refused}
use Rattle.meaning.specs.Post.{Posted, post_refusals}
use Rattle.step_queues.specs.Changes.{oldest, extended, removed}

unfoldable pub queues_changed : Site → Queues → Queues
queues_changed x q =
    if receives x then removed q (message_named x) (oldest q (message_named x) x.given)
    or_else if sends x then extended q (message_named x) (sent x).tuple
    or_else q

unfoldable pub settled : Table → Instances → Queues → Name → Outcome
settled t s q n =
    if eqb (first_refusal (refusals t s q n)) 0 then
    record { answer = traffic (site_of t s n); instances = instances_after t s n; queues = queues_changed (site_of t s n) q }
    or_else refused (first_refusal (refusals t s q n)) s q

unfoldable pub posted : Queues → ℕ → Tuple → Posted
posted q name g =
    if eqb (first_refusal (post_refusals q name g)) 0 then record { number = 0; queues = extended q name g }
    or_else record { number = first_refusal (post_refusals q name g); queues = q }

-- what a call returns, r, and the state z that it leaves, are those of an outcome
pub record Done (o : Outcome) (r : Answer) (z : List ℕ) : Type 0 where
  pub answer : r ≡ o.answer
  pub state : z ≡ o.instances ++ o.queues
