-- A step from its plan, whose name has found its place; with the finding it is the step of Settled (proofs/StateLaws.antt).
use Rattle.std.specs.Prelude.{ℕ, ◌≡◌, List, ◌++◌, eqb}
use Rattle.base_words.specs.Blocks.{Instances, Queues}
use Rattle.base_words.specs.Pick.{if◌then◌or_else◌}
use Rattle.base_kinds.specs.declared.moves.Move.{Move}
use Rattle.base_state.specs.Instances.{instances_of, queues_of}
use Rattle.base_table.specs.Table.{message_name}
use Rattle.meaning.specs.declared.Name.{Name}
use Rattle.meaning.specs.declared.Answer.{Answer}
use Rattle.meaning.specs.Refusals.{first_refusal}
use Rattle.meaning.specs.Step.{Site, instance_after, made_after, refusals_at, traffic, Outcome, refused}
use Rattle.step_effects.specs.Effects.{stored_in, made_by, delivered_by, answer_by}
use Rattle.step_plan.specs.declared.Plan.{Plan}
use Rattle.step_take.specs.Settled.{queues_changed}

-- what an accepted step leaves, h being the words of its instance after it
pub record Applied (el h z : List ℕ) (m : Move) (p : ℕ) (n : Name) (made : ℕ) (plan : Plan) (r : Answer) (after : List ℕ) : Type 0 where
  pub answer : r ≡ answer_by m (message_name el n.branch) plan.expected plan.sent
  pub state : after ≡ stored_in (instances_of z) p n.instance h (made_by m made) ++ delivered_by m (message_name el n.branch) n.given plan.sent (queues_of z)

-- a step whose name finds x, instance i of pool p
unfoldable pub settled_at : Site → ℕ → ℕ → Instances → Queues → Outcome
settled_at x p i s q =
    if eqb (first_refusal (refusals_at x q)) 0 then
    record { answer = traffic x; instances = stored_in s p i (instance_after x) (made_after x); queues = queues_changed x q }
    or_else refused (first_refusal (refusals_at x q)) s q
