-- AN ACCEPTED STEP KEEPS ALL INSTANCES LIGHT, of its own pool and of the others. Assumes nothing.
use Prim.Native.Nat.{ℕ, ◌+◌, ◌≤◌, ◌<◌}
use mathlib.Core.Path.{◌≡◌, sym, ◌∙◌, ap, subst}
use mathlib.Core.Bool.{true, false}
use mathlib.Core.List.{List}
use mathlib.Core.Logic.{◌⊎◌, inl, inr, ⊎_elim}
use native.Mathlib.Omega.{arith}
use lib.Dec.{eqb}
use lib.ListN.{length}
use borrow.Author.Tests.{eqb-true, eqb-false}
use Rattle.base_words.specs.Words.{at}
use Rattle.base_words.specs.Counts.{pools, instances}
use Rattle.base_words.proofs.ListLaws.{get_d_tab}
use Rattle.base_kinds.specs.Moves.{making}
use Rattle.base_kinds.specs.Kinds.{end}
use Rattle.base_table.specs.Table.{element_count, element_at, kind_in}
use Rattle.check_nesting.specs.Nesting.{Nested}
use Rattle.base_state.specs.Places.{defined_place, instance_words, instance_place, instances_words}
use Rattle.base_state.specs.Instances.{made_count}
use Rattle.check_limits.specs.Limits.{table_fits}
use Rattle.meaning.specs.declared.Name.{Name}
use Rattle.meaning.specs.Refusals.{first_refusal}
use Rattle.meaning.specs.Step.{Site, site_of, pool_named, element_named, move_named, instance_of, instance_after, made_after, instances_after, refusals}
use Rattle.state_fits.specs.Fits.{made_fits, state_fits}
use Rattle.step_queues.proofs.SlotLaws.{by_order}
use Rattle.proof_steps.proofs.Choices.{by_test}
use Rattle.proof_steps.proofs.Elements.{limit_few}
use Rattle.proof_steps.proofs.Found.{Found}
use Rattle.proof_steps.proofs.InstanceBefore.{pool_few}
use Rattle.proof_steps.proofs.MadeAfter.{StartsOnce, Makes, named_made, makes_one_lem, makes_none}
use Rattle.proof_steps.proofs.OnlyOwn.{only_own, own_words, own_made}
use Rattle.proof_steps.proofs.PoolFits.{pool_parts, made_few}
use Rattle.proof_steps.proofs.Traffic.{here, site, state_instances}
use Rattle.proof_nesting.proofs.Flows.{Sound}
use Rattle.proof_nesting.proofs.Mass.{mass_same}
use Rattle.proof_nesting.proofs.Moved.{weight_at, weight}
use Rattle.proof_nesting.proofs.Weighing.{Weighing, Exact, all_go}
use Rattle.proof_nesting.proofs.Kept.{step_light, step_same, step_end, step_made}

-- the instances of pool o, each weighed
abbrev pub Light : (ℕ → ℕ) → (ℕ → ℕ) → List ℕ → ℕ → Type 0
Light w d s o = (i : ℕ) → i < made_count s o → weight w d (instance_of s o i) ≤ 1

-- and by two weighings alike
abbrev pub Even : (ℕ → ℕ) → (ℕ → ℕ) → (ℕ → ℕ) → (ℕ → ℕ) → List ℕ → ℕ → Type 0
Even w d w' d' s o = (i : ℕ) → i < made_count s o → weight w d (instance_of s o i) ≡ weight w' d' (instance_of s o i)

word_of : (s : List ℕ) (o i k : ℕ) → k < instance_words → at (instance_of s o i) k ≡ at s (instance_place o i + k)
unfolding instance_of
word_of s o i k l = get_d_tab (λ k. at s (instance_place o i + k)) instance_words k 0 l

module _ (t s q : List ℕ) (n : Name) (fits : table_fits t ≡ true) (once : StartsOnce t) (long : length s ≡ instances_words) (state : state_fits t s q ≡ true) (accepted : first_refusal (refusals t s q n) ≡ 0) where
  abbrev p : ℕ
  p = pool_named t n

  abbrev r : List ℕ
  r = instances_after t s n

  abbrev x : Site
  x = site_of t s n

  few : p < pools
  few = pool_few t s q n fits state accepted

  f : Found t s n
  f = here t s q n fits accepted

  made_before : made_fits t p (made_count s p) ≡ true
  made_before = (pool_parts t s p (state_instances t s q state p few)).made

  makes : Makes t p n.instance (made_count s p) (made_after x)
  makes =
      by_test (eqb (move_named t n).also making)
      (λ e. makes_one_lem t s n f e once (limit_few t fits p f.pool) (site t s q n fits accepted).limited)
      (λ e. makes_none t s n f e made_before)

  made_is : made_count r p ≡ made_after x
  made_is = own_made t s n (omega (arith, few, long))

  mine : n.instance < instances
  mine = omega (arith, made_few t fits p (made_after x) makes.fits, makes.named)

  module _ (w d : ℕ → ℕ) (o : ℕ) (in-pools : o < pools) where
    made_most : made_count s o ≤ instances
    made_most = made_few t fits o (made_count s o) (pool_parts t s o (state_instances t s q state o in-pools)).made

    -- another instance
    same_words : (i : ℕ) → i < instances → ((o ≡ p → ⊥) ⊎ (i ≡ n.instance → ⊥)) → (k : ℕ) → k < instance_words → at r (instance_place o i + k) ≡ at s (instance_place o i + k)
    same_words i l ne k h =
        by_order o p
        (λ a. only_own t s n (instance_place o i + k) (omega (arith, in-pools, l, h)) (inl (omega (arith, mine))) (λ e. omega (arith, few)))
        (λ e.
        let z : o ≡ p = sym e in
        ⊎_elim (λ a. absurd (a z))
        (λ a.
        by_order i n.instance
        (λ b. only_own t s n (instance_place o i + k) (omega (arith, in-pools, l, h)) (inl (omega (arith, z))) (λ q. omega (arith, few)))
        (λ b. absurd (a (sym b)))
        (λ b. only_own t s n (instance_place o i + k) (omega (arith, in-pools, l, h)) (inr (omega (arith, z))) (λ q. omega (arith, few))))
        ne)
        (λ a. only_own t s n (instance_place o i + k) (omega (arith, in-pools, l, h)) (inr (omega (arith, mine))) (λ e. omega (arith, few)))

    weight_other : (i : ℕ) → i < instances → ((o ≡ p → ⊥) ⊎ (i ≡ n.instance → ⊥)) → weight w d (instance_of r o i) ≡ weight w d (instance_of s o i)
    weight_other i l ne =
        mass_same (weight_at w d) (instance_of r o i) (instance_of s o i)
        (λ k h. let a : k < instance_words = omega arith in word_of r o i k a ∙ same_words i l ne k a ∙ sym (word_of s o i k a))

    made_other : (o ≡ p → ⊥) → made_count r o ≡ made_count s o
    made_other ne = only_own t s n o (omega (arith, in-pools)) (inl (omega (arith, in-pools))) ne

    -- ANOTHER POOL
    light_other : (o ≡ p → ⊥) → Light w d s o → Light w d r o
    light_other ne light i l =
        let a : i < made_count s o = omega (arith, made_other ne) in
        omega (arith, light i a, weight_other i (omega (arith, a, made_most)) (inl ne))

  -- ITS OWN
  module _ (w d : ℕ → ℕ) (sound : Sound (element_at t p) (element_count t p)) (weighing : Weighing (element_at t p) (element_count t p) w d) where
    weight_own : weight w d (instance_of r p n.instance) ≡ weight w d (instance_after x)
    weight_own =
        mass_same (weight_at w d) (instance_of r p n.instance) (instance_after x)
        (λ k h. let a : k < instance_words = omega arith in word_of r p n.instance k a ∙ own_words t s n (omega (arith, few)) (omega (arith, few, mine)) (omega (arith, long)) k a)

    light_own : Light w d s p → Light w d r p
    unfolding element_named move_named
    light_own light i l =
        by_test (eqb i n.instance)
        (λ e.
        let q : weight w d (instance_of r p i) ≡ weight w d (instance_after x) = ap (λ j. weight w d (instance_of r p j)) (eqb-true i n.instance e) ∙ weight_own in
        omega (arith, q, step_light t s _ n fits state accepted sound w d weighing (λ u. light n.instance (named_made t s n f u))))
        (λ e.
        let a : i < made_count s p = makes.others i (omega (arith, made_is)) (eqb-false i n.instance e) in
        omega (arith, light i a, weight_other w d p few i (omega (arith, a, made_most w d p few)) (inr (eqb-false i n.instance e))))

  -- TWO EXACT WEIGHINGS of a nested pool stay even, where no count is above 1
  module _ (w d w' d' : ℕ → ℕ) (sound : Sound (element_at t p) (element_count t p)) (nest : Nested (element_at t p) (element_count t p))
      (one : Weighing (element_at t p) (element_count t p) w d) (two : Weighing (element_at t p) (element_count t p) w' d')
      (Exact-one : Exact (element_at t p) (element_count t p) w d) (Exact-two : Exact (element_at t p) (element_count t p) w' d') (small : (k : ℕ) → k < defined_place 0 → at x.instance k ≤ 1) where
    even_made : (eqb (move_named t n).also making ≡ false → weight w d (instance_of s p n.instance) ≡ weight w' d' (instance_of s p n.instance))
        → weight w d (instance_after x) ≡ weight w' d' (instance_after x)
    unfolding element_named move_named
    even_made even =
        by_test (eqb (move_named t n).also making)
        (λ u. step_made t s _ n fits state accepted sound w d one Exact-one small u ∙ sym (step_made t s _ n fits state accepted sound w' d' two Exact-two small u))
        (λ u.
        ⊎_elim
        (λ g. step_same t s _ n fits state accepted sound w d one Exact-one small g u ∙ even u ∙ sym (step_same t s _ n fits state accepted sound w' d' two Exact-two small g u))
        (λ e.
        let is : kind_in (element_at t p n.element) ≡ end = ap (λ y. kind_in (element_at t p y)) e ∙ nest.last_ends in
        omega (arith, step_end t s _ n fits state accepted sound w d one Exact-one small is, step_end t s _ n fits state accepted sound w' d' two Exact-two small is, even u))
        (all_go (element_at t p) (element_count t p) sound nest n.element f.element))

    even_own : Even w d w' d' s p → Even w d w' d' r p
    unfolding element_named move_named
    even_own even i l =
        by_test (eqb i n.instance)
        (λ e.
        let q : weight w d (instance_of r p i) ≡ weight w d (instance_after x) = ap (λ j. weight w d (instance_of r p j)) (eqb-true i n.instance e) ∙ weight_own w d sound one in
        let q' : weight w' d' (instance_of r p i) ≡ weight w' d' (instance_after x) = ap (λ j. weight w' d' (instance_of r p j)) (eqb-true i n.instance e) ∙ weight_own w' d' sound two in
        q ∙ even_made (λ u. even n.instance (named_made t s n f u)) ∙ sym q')
        (λ e.
        let a : i < made_count s p = makes.others i (omega (arith, made_is)) (eqb-false i n.instance e) in
        let b : i < instances = omega (arith, a, made_most w d p few) in
        weight_other w d p few i b (inr (eqb-false i n.instance e)) ∙ even i a ∙ sym (weight_other w' d' p few i b (inr (eqb-false i n.instance e))))

  even_other : (w d w' d' : ℕ → ℕ) (o : ℕ) (l : o < pools) → (o ≡ p → ⊥) → Even w d w' d' s o → Even w d w' d' r o
  even_other w d w' d' o l ne even i h =
      let a : i < made_count s o = omega (arith, made_other w d o l ne, h) in
      let b : i < instances = omega (arith, a, made_most w d o l) in
      weight_other w d o l i b (inl ne) ∙ even i a ∙ sym (weight_other w' d' o l i b (inl ne))

  pub even_after : (w d w' d' : ℕ → ℕ) (o : ℕ) → o < pools → Sound (element_at t o) (element_count t o) → Nested (element_at t o) (element_count t o)
      → Weighing (element_at t o) (element_count t o) w d → Weighing (element_at t o) (element_count t o) w' d' → Exact (element_at t o) (element_count t o) w d → Exact (element_at t o) (element_count t o) w' d'
      → (o ≡ p → (k : ℕ) → k < defined_place 0 → at x.instance k ≤ 1) → Even w d w' d' s o → Even w d w' d' r o
  even_after w d w' d' o l sound nest one two Exact-one Exact-two small even =
      by_test (eqb o p)
      (λ e.
      let z : o ≡ p = eqb-true o p e in
      subst (Even w d w' d' r) (sym z)
      (even_own w d w' d' (subst (λ y. Sound (element_at t y) (element_count t y)) z sound) (subst (λ y. Nested (element_at t y) (element_count t y)) z nest)
      (subst (λ y. Weighing (element_at t y) (element_count t y) w d) z one) (subst (λ y. Weighing (element_at t y) (element_count t y) w' d') z two)
      (subst (λ y. Exact (element_at t y) (element_count t y) w d) z Exact-one) (subst (λ y. Exact (element_at t y) (element_count t y) w' d') z Exact-two) (small z) (subst (Even w d w' d' s) z even)))
      (λ e. even_other w d w' d' o l (eqb-false o p e) even)

  pub light_after : (w d : ℕ → ℕ) (o : ℕ) → o < pools → Sound (element_at t o) (element_count t o) → Weighing (element_at t o) (element_count t o) w d → Light w d s o → Light w d r o
  light_after w d o l sound weighing light =
      by_test (eqb o p)
      (λ e.
      let z : o ≡ p = eqb-true o p e in
      subst (Light w d r) (sym z)
      (light_own w d (subst (λ y. Sound (element_at t y) (element_count t y)) z sound) (subst (λ y. Weighing (element_at t y) (element_count t y) w d) z weighing) (subst (Light w d s) z light)))
      (λ e. light_other w d o l (eqb-false o p e) light)
