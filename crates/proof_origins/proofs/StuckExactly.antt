-- STUCK EXACTLY: the listing has no first step exactly where the paper's rules have no transition, and a run says that none is left exactly where its state has none; a run that ends before
-- its limit ends there. t is a table, z a valid state of it. Assumes nothing.
use Prim.Native.Nat.{ℕ, zero, suc, ◌+◌, ◌<◌}
use mathlib.Core.Path.{◌≡◌, sym, ◌∙◌, ap, subst}
use mathlib.Core.List.{List, [], ◌∷◌}
use native.Mathlib.Omega.{arith}
use lib.Dec.{eqb, ltb}
use lib.ListN.{length}
use lib.Seq.{ext_get_or}
use borrow.Author.Tests.{ltb-false, le-ltb}
use Rattle.base_words.specs.Sum.{one_if}
use Rattle.base_words.specs.Words.{at}
use Rattle.base_state.specs.Instances.{instances_of, version_of}
use Rattle.meaning.specs.declared.Name.{Name}
use Rattle.step_list.specs.declared.Listed.{Listed}
use Rattle.engine.specs.Engine.{listed_at, ran_to}
use Rattle.engine.specs.Calls.{Act, a_step, did, after, Valid}
use Rattle.proof_steps.proofs.Choices.{by_test, by_choice, chosen, passed}
use Rattle.proof_valid.proofs.KeepsFitting.{run_valid}
use Rattle.proof_demands.specs.Demands.{accepted_steps, run_steps, run_left}
use Rattle.proof_demands.proofs.ListAndRun.{list_all, list_number}
use Rattle.proof_demands.proofs.RunSteps.{listed_accepts}
use Rattle.paper.specs.Collaborations.{Named, Steps}
use Rattle.proof_paper.specs.Decoders.{collaboration_of, named_of, tuple_of, values_of}
use Rattle.proof_paper.specs.Calls.{state_of}
use Rattle.proof_paper.proofs.Mail.{length-values}
use Rattle.proof_paper.proofs.Spans.{get_d_span}
use Rattle.proof_paper.proofs.Theorems.{step-sound, step-complete}
use Rattle.proof_origins.specs.Stuck.{Stuck}
use Rattle.proof_origins.proofs.Traces.{run_after}

-- every name of the paper is a step's name
values_are : (vs : List ℕ) → values_of (tuple_of vs) ≡ vs
unfolding values_of
values_are vs =
    ext_get_or 0 (values_of (tuple_of vs)) vs (length-values (tuple_of vs))
    (λ j l. let z : 0 + j ≡ j = omega arith in get_d_span (at vs) 0 (length vs) j 0 (subst (λ n. j < n) (length-values (tuple_of vs)) l) ∙ ap (at vs) z)

abbrev name_of : Named → Name
name_of n = record { pool = n.pool; instance = n.instance; element = n.element; phase = n.phase; branch = n.branch; given = tuple_of n.values }

named_is : (n : Named) → named_of (name_of n) ≡ n
named_is n = λ i. record { pool = n.pool; instance = n.instance; element = n.element; phase = n.phase; branch = n.branch; values = values_are n.values i }

module _ (t : List ℕ) where
  module _ (z : List ℕ) (s : Valid t z) where
    -- none is accepted, and the first of those that are
    none_accepted : (listed_at t z 0).number ≡ 6 → accepted_steps t z ≡ 0
    none_accepted e =
        by_test (ltb 0 (accepted_steps t z)) (λ y. absurd (omega (arith, sym e ∙ list_number t z s 0 ∙ chosen (ltb 0 (accepted_steps t z)) 0 6 y)))
        (λ y. let l = ltb-false 0 (accepted_steps t z) y in omega (arith, l))

    six_otherwise : ((listed_at t z 0).number ≡ 0 → ⊥) → (listed_at t z 0).number ≡ 6
    six_otherwise no_step =
        by_test (ltb 0 (accepted_steps t z)) (λ y. absurd (no_step (list_number t z s 0 ∙ chosen (ltb 0 (accepted_steps t z)) 0 6 y)))
        (λ y. list_number t z s 0 ∙ passed (ltb 0 (accepted_steps t z)) 0 6 y)

    -- THE LISTING with 0 gives 6 exactly there
    pub listed_stuck : (listed_at t z 0).number ≡ 6 → Stuck (version_of (instances_of z)) (collaboration_of t) (state_of t z)
    listed_stuck e n l κ y =
        let w : Steps (version_of (instances_of z)) (collaboration_of t) (named_of (name_of n)) (state_of t z) l κ = subst (λ m. Steps (version_of (instances_of z)) (collaboration_of t) m (state_of t z) l κ) (sym (named_is n)) y in
        let (k, there) = list_all t z s (name_of n) (step-complete t z s (name_of n) w).0 in
        omega (arith, sym (ap (λ (x : Listed). x.number) there) ∙ list_number t z s k ∙ passed (ltb k (accepted_steps t z)) 0 6 (le-ltb k (accepted_steps t z) (omega (arith, none_accepted e))))

    pub stuck_listed : Stuck (version_of (instances_of z)) (collaboration_of t) (state_of t z) → (listed_at t z 0).number ≡ 6
    stuck_listed none =
        six_otherwise
        (λ e. let (l, w, u) = step-sound t z s (listed_at t z 0).name (listed_accepts t z s 0 e) in none (named_of (listed_at t z 0).name) l (state_of t (did t (a_step (listed_at t z 0).name) z).state) w)

    left_stuck : run_left t z ≡ 0 → Stuck (version_of (instances_of z)) (collaboration_of t) (state_of t z)
    unfolding run_left
    left_stuck e = listed_stuck (six_otherwise (λ y. omega (arith, sym e ∙ ap (λ k. one_if (eqb k 0)) y)))

    stuck_left : Stuck (version_of (instances_of z)) (collaboration_of t) (state_of t z) → run_left t z ≡ 0
    unfolding run_left
    stuck_left none = ap (λ k. one_if (eqb k 0)) (stuck_listed none)

  -- A RUN'S `left` is 0 exactly there
  module _ (z : List ℕ) (s : Valid t z) (limit : ℕ) where
    abbrev y : List ℕ
    y = (ran_to t z limit).state

    ran_valid : Valid t y
    ran_valid = run_valid t z s limit

    pub run_stuck : (ran_to t z limit).left ≡ 0 → Stuck (version_of (instances_of y)) (collaboration_of t) (state_of t y)
    run_stuck e = left_stuck y ran_valid (sym (run_after t z s limit).2 ∙ e)

    pub stuck_run : Stuck (version_of (instances_of y)) (collaboration_of t) (state_of t y) → (ran_to t z limit).left ≡ 0
    stuck_run none = (run_after t z s limit).2 ∙ stuck_left y ran_valid none

  -- fewer steps than the limit: nothing is listed any more
  ends : (limit : ℕ) (z : List ℕ) → length (run_steps t limit z) < limit → run_left t (after t (run_steps t limit z) z) ≡ 0
  unfolding run_steps after run_left
  ends zero z = λ l. absurd (omega (arith, l))
  ends (suc limit) z =
      by_choice (λ (acts : List Act). length acts < suc limit → run_left t (after t acts z) ≡ 0) (eqb (listed_at t z 0).number 0)
      (a_step (listed_at t z 0).name ∷ run_steps t limit (did t (a_step (listed_at t z 0).name) z).state) []
      (λ e l. ends limit (did t (a_step (listed_at t z 0).name) z).state (omega (arith, l)))
      (λ e l. ap one_if e)

  module _ (z : List ℕ) (s : Valid t z) (limit : ℕ) where
    pub run_ends : (ran_to t z limit).steps < limit → Stuck (version_of (instances_of (ran_to t z limit).state)) (collaboration_of t) (state_of t (ran_to t z limit).state)
    run_ends l =
        let (state, steps, left) = run_after t z s limit in
        run_stuck z s limit (left ∙ ap (run_left t) state ∙ ends limit z (subst (λ n. n < limit) steps l))
