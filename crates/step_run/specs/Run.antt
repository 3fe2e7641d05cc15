-- THE RUN: "takes the first listed step until none is accepted or the limit is used up, and returns the number of steps taken and 1 or 0 for whether
-- one is still accepted. A limit of 0 takes none." s the instances, q the queues of a state.
use Rattle.std.specs.Prelude.{ℕ, zero, suc, ◌+◌, List, [], ◌∷◌}
use Rattle.meaning.specs.declared.Name.{Name}
use Rattle.meaning.specs.Step.{Outcome, step}
use Rattle.step_list.specs.Listing.{listed}
use Rattle.base_words.specs.Blocks.{Table, Instances, Queues}

pub record Run : Type 0 where
  pub steps : ℕ
  pub left : ℕ
  pub instances : Instances
  pub queues : Queues

-- 1 or 0 for whether there is one
unfoldable pub whether : List Name → ℕ
whether [] = 0
whether (n ∷ ns) = 1

-- one step before a run
unfoldable pub one_step : Run → Run
one_step r = record { steps = r.steps + 1; left = r.left; instances = r.instances; queues = r.queues }

-- by a way to list the steps of a state and a way to take one; by cases on the listing: nothing is listed, or the first one is taken before the rest
unfoldable pub ran_by : (Instances → Queues → List Name) → (Instances → Queues → Name → Outcome) → ℕ → Instances → Queues → Run
ran_by list take zero s q = record { steps = 0; left = whether (list s q); instances = s; queues = q }
ran_by list take (suc limit) s q =
    elim (list s q) [
      | [] ↦ record { steps = 0; left = 0; instances = s; queues = q }
      | n ∷ ns ↦ one_step (ran_by list take limit (take s q n).instances (take s q n).queues)
    ]

unfoldable pub ran : Table → ℕ → Instances → Queues → Run
ran t limit s q = ran_by (listed t) (step t) limit s q
