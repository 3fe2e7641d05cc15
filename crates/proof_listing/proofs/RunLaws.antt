-- What a run comes to: its flag is that of the state it leaves, it takes at most as many steps as its limit, and it stops before that only where
-- nothing is accepted; a state that fits still does after it. Assumes nothing.
use Prim.Native.Nat.{ℕ, zero, suc, ◌≤◌, ◌<◌}
use mathlib.Core.Path.{◌≡◌, refl, sym, ap}
use mathlib.Core.Bool.{true, false}
use mathlib.Core.List.{List, [], ◌∷◌}
use native.Mathlib.Omega.{arith}
use Rattle.check_limits.specs.Limits.{table_fits}
use Rattle.check_model.specs.Checks.{lowest}
use Rattle.check_lowest.specs.Model.{model_of}
use Rattle.meaning.specs.declared.Name.{Name}
use Rattle.meaning.specs.Step.{step}
use Rattle.state_fits.specs.Fits.{state_fits}
use Rattle.step_list.specs.declared.Listed.{Listed}
use Rattle.step_names.specs.Names.{accepted}
use Rattle.step_list.specs.Listing.{listed, chosen}
use Rattle.step_run.specs.Run.{Run, whether, one_step, ran_by, ran}
use Rattle.step_run.proofs.RunLaws.{by_listing}
use Rattle.proof_steps.proofs.Choices.{by_test}
use Rattle.proof_steps.proofs.EveryStep.{Fitting, step_keeps_fits}
use Rattle.proof_listing.proofs.ListedAll.{listed-all, listed-accepted}
use Rattle.proof_listing.proofs.StartUnique.{starts_once}

-- THE FLAG: whether a step is accepted
whether_empty : (ns : List Name) → whether ns ≡ 0 → (k : ℕ) → (chosen ns k).number ≡ 0 → ⊥
unfolding whether chosen
whether_empty [] e k h = omega arith
whether_empty (n ∷ ns) e k h = omega arith

whether_first : (ns : List Name) → whether ns ≡ 1 → (chosen ns 0).number ≡ 0
unfolding whether chosen
whether_first [] e = absurd (omega arith)
whether_first (n ∷ ns) e = refl

pub none_accepted : (t s q : List ℕ) → table_fits t ≡ true → state_fits t s q ≡ true → whether (listed t s q) ≡ 0 → (n : Name) → accepted t s q n ≡ false
none_accepted t s q fits state w n =
    by_test (accepted t s q n)
    (λ e. let z = listed-all t s q fits state n e in absurd (whether_empty (listed t s q) w z.0 (ap (λ (y : Listed). y.number) z.1)))
    (λ e. e)

pub one_accepted : (t s q : List ℕ) → whether (listed t s q) ≡ 1 → (n : Name) × (accepted t s q n ≡ true)
one_accepted t s q w = ((chosen (listed t s q) 0).name, listed-accepted t s q 0 (whether_first (listed t s q) w))

-- THE RUN
module _ (t : List ℕ) where
  pub run_left : (limit : ℕ) (s q : List ℕ) → (ran t limit s q).left ≡ whether (listed t (ran t limit s q).instances (ran t limit s q).queues)
  unfolding ran ran_by one_step whether
  run_left zero s q = refl
  run_left (suc limit) s q =
      by_listing (listed t) (step t) limit s q (λ (r : Run). r.left ≡ whether (listed t r.instances r.queues))
      (λ e. ap whether (sym e))
      (λ n. run_left limit (step t s q n).instances (step t s q n).queues)

  pub run_most : (limit : ℕ) (s q : List ℕ) → (ran t limit s q).steps ≤ limit
  unfolding ran ran_by one_step
  run_most zero s q = omega arith
  run_most (suc limit) s q =
      by_listing (listed t) (step t) limit s q (λ (r : Run). r.steps ≤ suc limit)
      (λ e. omega arith)
      (λ n. omega (arith, run_most limit (step t s q n).instances (step t s q n).queues))

  pub run_stops : (limit : ℕ) (s q : List ℕ) → (ran t limit s q).steps < limit → (ran t limit s q).left ≡ 0
  unfolding ran ran_by one_step
  run_stops zero s q = λ l. absurd (omega arith)
  run_stops (suc limit) s q =
      by_listing (listed t) (step t) limit s q (λ (r : Run). r.steps < suc limit → r.left ≡ 0)
      (λ e l. refl)
      (λ n l. run_stops limit (step t s q n).instances (step t s q n).queues (omega arith))

  pub run_keeps_fits : table_fits t ≡ true → lowest (model_of t) ≡ 0 → (limit : ℕ) (s q : List ℕ) → Fitting t s q → Fitting t (ran t limit s q).instances (ran t limit s q).queues
  unfolding ran ran_by one_step
  run_keeps_fits fits sound zero s q f = f
  run_keeps_fits fits sound (suc limit) s q f =
      by_listing (listed t) (step t) limit s q (λ (r : Run). Fitting t r.instances r.queues)
      (λ e. f)
      (λ n. run_keeps_fits fits sound limit (step t s q n).instances (step t s q n).queues (step_keeps_fits t s q fits f (starts_once t sound) n))
