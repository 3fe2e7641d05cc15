-- THE WEIGHT OF AN INSTANCE of a nested pool, by exact weights: 0 where it is finished, and 1 before. Assumes nothing.
use Prim.Native.Nat.{ℕ, zero, suc, ◌+◌, ◌≤◌, ◌<◌}
use mathlib.Core.Path.{◌≡◌, refl, sym, ◌∙◌, ap, ap₂}
use mathlib.Core.Bool.{Bool, true, false, ◌&&◌, false≢true}
use mathlib.Core.List.{List}
use mathlib.Core.Logic.{⊎_elim}
use native.Mathlib.Omega.{arith}
use lib.Dec.{eqb, leb}
use lib.Seq.{get_or-drop}
use borrow.Author.Tests.{eqb-true, eqb-false, ne_eqb}
use Rattle.base_words.specs.All.{all}
use Rattle.base_words.specs.Words.{at}
use Rattle.base_words.specs.Counts.{edges, tasks, count_most}
use Rattle.base_words.proofs.AllLaws.{all_at, and_left}
use Rattle.base_words.proofs.ListLaws.{get_d_tab}
use Rattle.base_words.proofs.SumLaws.{sum-zero}
use Rattle.base_kinds.specs.Kinds.{kind_of, start}
use Rattle.base_kinds.specs.Moves.{a}
use Rattle.base_table.specs.Table.{pool_count, element_count, element_at, kind_in, task_in, mode_in, entry_count, entry_at, exit_at}
use Rattle.base_state.specs.Places.{token_place, defined_place, instance_words, instance_place}
use Rattle.base_state.specs.Instances.{instances_of, queues_of, made_count, instance_at}
use Rattle.check_limits.specs.Limits.{zeros}
use Rattle.check_nesting.specs.Nesting.{Nested}
use Rattle.meaning.specs.Step.{instance_of}
use Rattle.state_figures.specs.Figures.{is_finished}
use Rattle.state_fits.specs.Fits.{usable, place_fits, instance_fits}
use Rattle.state_fits.proofs.FitsLaws.{zeros_at}
use Rattle.proof_steps.proofs.Choices.{by_test, passed_true}
use Rattle.proof_steps.proofs.Elements.{element_fits_lem, task_few, entry_within, exit_within}
use Rattle.proof_steps.proofs.PoolFits.{pool_parts}
use Rattle.proof_steps.proofs.Traffic.{state_instances}
use Rattle.proof_lengths.proofs.FewParts.{task_some}
use Rattle.engine.specs.Engine.{valid}
use Rattle.engine.specs.Calls.{Valid}
use Rattle.engine.proofs.KeepsValid.{parts}
use Rattle.proof_valid.proofs.ChecksHold.{valid_fits}
use Rattle.proof_nesting.proofs.Weights.{is_task}
use Rattle.proof_nesting.proofs.Events.{one_entry}
use Rattle.proof_nesting.proofs.Mass.{weigh, mass}
use Rattle.proof_nesting.proofs.Moved.{weight_at, weight, weight_token, weight_active, weight_ready}
use Rattle.proof_nesting.proofs.Weighing.{Weighing, Exact, Precise, started_by, exact_edge, exact_task}
use Rattle.proof_nesting.proofs.Precise.{exact_first}
use Rattle.proof_profile.proofs.Sounds.{sound, kind_task, task_mode, entry_leaves}
use Rattle.proof_profile.proofs.Places.{Uses, entry, exit, active, ready, usable_from}
use Rattle.proof_profile.proofs.Steady.{Steady, few, word_most}

-- a word of an instance, out of its copy and where it stands
pub same_word : (s : List ℕ) (p i k : ℕ) → k < instance_words → at (instance_of s p i) k ≡ at (instance_at s p i) k
unfolding instance_of
same_word s p i k l = get_d_tab (λ k. at s (instance_place p i + k)) instance_words k 0 l ∙ sym (get_or-drop (instance_place p i) s k 0)

-- where not all are there is one that is not
some_fails : (f : ℕ → Bool) (n : ℕ) → all f n ≡ false → (k : ℕ) × (k < n) × (f k ≡ false)
unfolding all
some_fails f zero h = absurd (false≢true (sym h))
some_fails f (suc n) h =
    by_test (f n)
    (λ e. let r = some_fails f n (sym (and_yes (all f n) (f n) e) ∙ h) in (r.0, (let l = r.1 in omega (arith, l)), r.2))
    (λ e. (n, omega arith, e))
  where
    and_yes : (b c : Bool) → c ≡ true → b && c ≡ b
    and_yes true c e = e
    and_yes false c e = refl

module _ (t : List ℕ) (v : valid t ≡ true) (p : ℕ) (there : p < pool_count t) (nest : Nested (element_at t p) (element_count t p)) where
  abbrev P : ℕ → List ℕ
  P = element_at t p

  abbrev c : ℕ
  c = element_count t p

  -- a task that is not atomic has a number
  pub moded : (e : ℕ) → e < c → a < mode_in (P e) → is_task (kind_in (P e)) ≡ true
  moded e l m = ⊎_elim (λ o. o.0) (λ o. absurd (let z = o.1 in omega (arith, z, m))) (task_mode t v p there e l)

  pub numbered : (e : ℕ) → e < c → a < mode_in (P e) → (1 ≤ task_in (P e)) × (task_in (P e) ≤ tasks)
  numbered e l m = let f = element_fits_lem t (valid_fits t v) p there e l in (task_some (P e) f (kind_task (kind_in (P e)) (moded e l m)), task_few (P e) f)

  -- EXACT WEIGHTS for a place that an element uses
  by_entry : (e j : ℕ) → e < c → j < entry_count (P e) → Precise P c (sound t v p there) nest (λ w d. 1 ≤ w (entry_at (P e) j))
  unfolding kind_of
  by_entry e j l r =
      by_test (eqb (kind_in (P e)) start)
      (λ q.
      let is : kind_in (P e) ≡ start = eqb-true _ start q in
      let same : e ≡ nest.first = (sound t v p there).one_start e nest.first l nest.first_there (started_by (P e) start is refl) nest.first-starts in
      let o : j ≡ 0 = (let n = one_entry (P e) start is refl in omega (arith, n, r)) in
      let x = exact_first P c (sound t v p there) nest (sym (ap (λ y. kind_in (P y)) same) ∙ is) in
      (x.0, x.1, x.2, x.3, (let y : x.0 (entry_at (P e) j) ≡ x.0 (entry_at (P nest.first) 0) = ap₂ (λ (e j : ℕ). x.0 (entry_at (P e) j)) same o in omega (arith, y, x.4))))
      (λ q.
      let o = entry_leaves t v p there e j l r (eqb-false _ start q) in
      exact_edge P c (sound t v p there) nest (entry_at (P e) j) o.0 o.1 o.2 o.3 o.4)

  abbrev Weighs : ℕ → Type 0
  Weighs k = Precise P c (sound t v p there) nest (λ w d. 1 ≤ weight_at w d k)

  by_place : (x k : ℕ) → 1 ≤ x → x ≤ edges → k ≡ token_place x → Precise P c (sound t v p there) nest (λ w d. 1 ≤ w x) → Weighs k
  by_place x k a b q y = (y.0, y.1, y.2, y.3, (let r : weight_at y.0 y.1 k ≡ y.0 x = ap (weight_at y.0 y.1) q ∙ weight_token y.0 y.1 x a b in omega (arith, r, y.4)))

  weighs : (k e : ℕ) → e < c → Uses (P e) k → Weighs k
  weighs k e l (entry j r q) = let w = entry_within (P e) (element_fits_lem t (valid_fits t v) p there e l) j r in by_place (entry_at (P e) j) k w.0 w.1 q (by_entry e j l r)
  weighs k e l (exit j r q) =
      let w = exit_within (P e) (element_fits_lem t (valid_fits t v) p there e l) j r in
      by_place (exit_at (P e) j) k w.0 w.1 q (exact_edge P c (sound t v p there) nest (exit_at (P e) j) e j l r refl)
  weighs k e l (active m q) =
      let n = numbered e l m in
      let y = exact_task P c (sound t v p there) nest (task_in (P e)) e (λ z. omega (arith, z, n.0)) l refl in
      (y.0, y.1, y.2, y.3, (let r : weight_at y.0 y.1 k ≡ y.1 (task_in (P e)) = ap (weight_at y.0 y.1) q ∙ weight_active y.0 y.1 (task_in (P e)) n.0 n.1 in omega (arith, r, y.4)))
  weighs k e l (ready m s q) =
      let n = numbered e l m in
      let y = exact_task P c (sound t v p there) nest (task_in (P e)) e (λ z. omega (arith, z, n.0)) l refl in
      (y.0, y.1, y.2, y.3, (let r : weight_at y.0 y.1 k ≡ y.1 (task_in (P e)) = ap (weight_at y.0 y.1) q ∙ weight_ready y.0 y.1 (task_in (P e)) n.0 n.1 in omega (arith, r, y.4)))

  module _ (z : List ℕ) (right : Valid t z) (i : ℕ) (made : i < made_count (instances_of z) p) where
    abbrev s : List ℕ
    s = instances_of z

    abbrev h : List ℕ
    h = instance_of s p i

    -- what is not 0 is used by an element
    pub used_by : (k : ℕ) → k < defined_place 0 → (at h k ≡ 0 → ⊥) → (e : ℕ) × (e < c) × Uses (P e) k
    unfolding instance_fits place_fits
    used_by k l n =
        let g : List ℕ = instance_at s p i in
        let f = (pool_parts t s p (state_instances t s (queues_of z) (parts t z right).fits p (few t v p there nest))).each i made in
        let o = all_at (place_fits (usable t p) g) (defined_place 0) (and_left (all (place_fits (usable t p) g) (defined_place 0)) _ f) k l in
        let q = passed_true (eqb (at g k) 0) true (eqb (at (usable t p) k) 1 && leb (at g k) count_most) o (ne_eqb (at g k) 0 (λ y. n (same_word s p i k (omega (arith, l)) ∙ y))) in
        usable_from t p k (eqb-true _ 1 (and_left (eqb (at (usable t p) k) 1) _ q))

    module _ (steady : Steady t v p there nest s) (w d : ℕ → ℕ) (weighing : Weighing P c w d) (exact : Exact P c w d) where
      pub weighs_none : is_finished (instance_at s p i) ≡ true → weight w d h ≡ 0
      unfolding is_finished mass weigh
      weighs_none e =
          sum-zero (λ k. weigh (weight_at w d k) (at h k)) (defined_place 0)
          (λ k l. ap (weigh (weight_at w d k)) (same_word s p i k (omega (arith, l)) ∙ zeros_at (instance_at s p i) (defined_place 0) k e l))

      pub weighs_one : is_finished (instance_at s p i) ≡ false → weight w d h ≡ 1
      unfolding is_finished zeros
      weighs_one e =
          let f = some_fails (λ k. eqb (at (instance_at s p i) k) 0) (defined_place 0) e in
          let k : ℕ = f.0 in
          let same = same_word s p i k (let l = f.1 in omega (arith, l)) in
          let n = eqb-false (at (instance_at s p i) k) 0 f.2 in
          let u = used_by k f.1 (λ y. n (sym same ∙ y)) in
          let y = weighs k u.0 u.1 u.2 in
          omega (
            arith,
            same,
            n,
            word_most y.0 y.1 h k f.1 y.4,
            steady.light y.0 y.1 y.2 i made,
            steady.even w d y.0 y.1 weighing y.2 exact y.3 i made,
          )
