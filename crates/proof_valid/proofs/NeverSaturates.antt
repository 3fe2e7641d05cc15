-- An accepted step on a state that fits puts exactly one token more on each exit that it touches, and raises a count by exactly one. Assumes nothing.
use Prim.Native.Nat.{ℕ, ◌+◌, ◌<◌}
use mathlib.Core.Path.{◌≡◌, sym, ◌∙◌}
use mathlib.Core.Bool.{true}
use mathlib.Core.List.{List}
use Rattle.base_words.proofs.AllLaws.{and_left}
use Rattle.base_kinds.specs.Moves.{up}
use Rattle.base_table.specs.Table.{task_in, exit_count, exit_at}
use Rattle.base_state.specs.Instances.{instances_of, queues_of, tokens, active_count, ready_count}
use Rattle.meaning.specs.declared.Name.{Name}
use Rattle.meaning.specs.Requirements.{touched, first_touched}
use Rattle.meaning.specs.Refusals.{first_refusal}
use Rattle.meaning.specs.Step.{Site, site_of, pool_named, element_named, move_named, after_taking, instance_after, refusals}
use Rattle.state_fits.specs.Fits.{state_fits}
use Rattle.proof_steps.proofs.Choices.{chosen}
use Rattle.proof_steps.proofs.Found.{Found}
use Rattle.proof_steps.proofs.NoSaturation.{ExitsApart, no_saturation, active_raised, ready_raised}
use Rattle.proof_steps.proofs.Traffic.{here}
use Rattle.engine.specs.Engine.{valid, fitting, stepped}
use Rattle.engine.proofs.CallLaws.{fitting_table, table_fits_lem, state_fits_lem}
use Rattle.proof_valid.proofs.ExitsOnce.{exits_apart}
use Rattle.proof_valid.proofs.NumberGiven.{stepped_number}

module _ (t z : List ℕ) (n : Name) (fits : fitting t z ≡ true) (accepted : (stepped t z n).answer.number ≡ 0) where
  abbrev s : List ℕ
  s = instances_of z

  abbrev q : List ℕ
  q = queues_of z

  -- the number 0 says that nothing was refused
  pub none_refused : first_refusal (refusals t s q n) ≡ 0
  none_refused = sym (chosen (fitting t z) (first_refusal (refusals t s q n)) _ fits) ∙ sym (stepped_number t z n) ∙ accepted

  abbrev x : Site
  x = site_of t s n

  -- the exits of its element differ
  pub named_apart : ExitsApart (element_named t n)
  unfolding element_named
  named_apart =
      let f : Found t s n = here t s q n (table_fits_lem t z fits) none_refused in
      exits_apart t (fitting_table t z fits) (pool_named t n) f.pool n.element f.element

  -- TOKENS
  pub never_saturates : (j : ℕ) → j < touched (move_named t n).puts (exit_count (element_named t n))
      → tokens (instance_after x) (exit_at (element_named t n) (first_touched (move_named t n).puts n.branch + j))
      ≡ tokens (after_taking x) (exit_at (element_named t n) (first_touched (move_named t n).puts n.branch + j)) + 1
  never_saturates = no_saturation t s q n (table_fits_lem t z fits) (state_fits_lem t z fits) none_refused named_apart

  -- COUNTS
  pub active_one_more : (move_named t n).active ≡ up → active_count (instance_after x) (task_in (element_named t n)) ≡ active_count (after_taking x) (task_in (element_named t n)) + 1
  active_one_more = active_raised t s q n (table_fits_lem t z fits) (state_fits_lem t z fits) none_refused

  pub ready_one_more : (move_named t n).ready ≡ up → ready_count (instance_after x) (task_in (element_named t n)) ≡ ready_count (after_taking x) (task_in (element_named t n)) + 1
  ready_one_more = ready_raised t s q n (table_fits_lem t z fits) (state_fits_lem t z fits) none_refused
