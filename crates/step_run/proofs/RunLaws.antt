-- The run as the code makes it, step after step. Assumes nothing.
use mathlib.Core.Path.{◌≡◌, ◌∙◌, refl, sym, ap, subst}
use mathlib.Core.List.{List, [], ◌∷◌}
use Prim.Native.Nat.{ℕ, suc, ◌+◌, ◌-◌, ◌≤◌, ◌<◌}
use native.Mathlib.Omega.{arith}
use Rattle.meaning.specs.declared.Name.{Name}
use Rattle.meaning.specs.Step.{Outcome}
use Rattle.step_list.specs.declared.Listed.{Listed}
use Rattle.step_list.specs.Listing.{chosen}
use Rattle.step_run.specs.Run.{Run, whether, one_step, ran_by}

-- THE FIRST OF A LIST, as it is chosen: its number says whether there is one
module _ (x : Listed) where
  first_is : (ns : List Name) → x ≡ chosen ns 0 → x.number ≡ 0 → (others : List Name) × (ns ≡ x.name ∷ others)
  unfolding chosen
  first_is [] e h = absurd (omega (arith, sym h ∙ ap (λ (y : Listed). y.number) e))
  first_is (n ∷ ns) e h = (ns, ap (λ (y : Listed). y.name ∷ ns) (sym e))

  none_is : (ns : List Name) → x ≡ chosen ns 0 → (x.number ≡ 0 → ⊥) → ns ≡ []
  unfolding chosen
  none_is [] e h = refl
  none_is (n ∷ ns) e h = absurd (h (ap (λ (y : Listed). y.number) e))

  pub some_left : (ns : List Name) → x ≡ chosen ns 0 → x.number ≡ 0 → 1 ≡ whether ns
  unfolding whether
  some_left ns e h = rw (first_is ns e h).1

  pub none_left : (ns : List Name) → x ≡ chosen ns 0 → (x.number ≡ 0 → ⊥) → 0 ≡ whether ns
  unfolding whether
  none_left ns e h = rw (none_is ns e h)

-- d steps before a run
unfoldable pub later : ℕ → Run → Run
later d r = record { steps = r.steps + d; left = r.left; instances = r.instances; queues = r.queues }

later_step : (d : ℕ) (r : Run) → later (d + 1) r ≡ later d (one_step r)
unfolding later one_step
later_step d r = let e : r.steps + (d + 1) ≡ r.steps + 1 + d = omega arith in λ i. record { steps = e i; left = r.left; instances = r.instances; queues = r.queues }

later_none : (d l : ℕ) (s q : List ℕ) → ◌≡◌ {A = Run} (record { steps = d; left = l; instances = s; queues = q }) (later d (record { steps = 0; left = l; instances = s; queues = q }))
unfolding later
later_none d l s q = let e : d ≡ 0 + d = omega arith in λ i. record { steps = e i; left = l; instances = s; queues = q }

module _ (list : List ℕ → List ℕ → List Name) (take : List ℕ → List ℕ → Name → Outcome) (limit : ℕ) where
  -- BY CASES ON THE LISTING
  module _ (s q : List ℕ) where
    pub none_listed : list s q ≡ [] → ran_by list take (suc limit) s q ≡ record { steps = 0; left = 0; instances = s; queues = q }
    unfolding ran_by
    none_listed e = rw (e, ran_by)

    pub first_listed : (n : Name) (ns : List Name) → list s q ≡ n ∷ ns → ran_by list take (suc limit) s q ≡ one_step (ran_by list take limit (take s q n).instances (take s q n).queues)
    unfolding ran_by
    first_listed n ns e = rw (e, ran_by)

    -- what holds of a run that stops, and of one step before what follows, whatever step is taken
    pub by_listing : (P : Run → Type 0) → (list s q ≡ [] → P (record { steps = 0; left = 0; instances = s; queues = q }))
        → ((n : Name) → P (one_step (ran_by list take limit (take s q n).instances (take s q n).queues))) → P (ran_by list take (suc limit) s q)
    by_listing P a b = go (list s q) refl
      where
        go : (ns : List Name) → list s q ≡ ns → P (ran_by list take (suc limit) s q)
        go [] e = subst P (sym (none_listed e)) (a e)
        go (n ∷ ns) e = subst P (sym (first_listed n ns e)) (b n)

-- THE LOOP: d steps are taken, and what is left of the limit comes to the whole, R
module _ (list : List ℕ → List ℕ → List Name) (take : List ℕ → List ℕ → Name → Outcome) (limit : ℕ) where
  unfoldable pub Taken : ℕ → List ℕ → List ℕ → Run → Type 0
  Taken d s q r = later d (ran_by list take (limit - d) s q) ≡ r

  pub taken_none : (s q : List ℕ) → Taken 0 s q (ran_by list take limit s q)
  unfolding Taken later
  taken_none s q =
      let l : limit - 0 ≡ limit = omega arith in
      rw l (let r = ran_by list take limit s q in let e : r.steps + 0 ≡ r.steps = omega arith in λ i. record { steps = e i; left = r.left; instances = r.instances; queues = r.queues })

  module _ (d : ℕ) (s q : List ℕ) (r : Run) (taken : Taken d s q r) where
    module _ (more : d < limit) (x : Listed) (e : x ≡ chosen (list s q) 0) where
      one_more_lem : later d (ran_by list take (suc (limit - (d + 1))) s q) ≡ r
      unfolding Taken
      one_more_lem = let l : limit - d ≡ suc (limit - (d + 1)) = omega (arith, more) in rw l at taken

      pub taken_more : (s₁ q₁ : List ℕ) → x.number ≡ 0 → s₁ ≡ (take s q x.name).instances → q₁ ≡ (take s q x.name).queues → Taken (d + 1) s₁ q₁ r
      unfolding Taken
      taken_more s₁ q₁ h a b =
          let ns = first_is x (list s q) e h in
          let next : Run = ran_by list take (limit - (d + 1)) (take s q x.name).instances (take s q x.name).queues in
          rw (a, b) (later_step d next ∙ ap (later d) (sym (first_listed list take (limit - (d + 1)) s q x.name ns.0 ns.1)) ∙ one_more_lem)

      pub taken_stop : (x.number ≡ 0 → ⊥) → record { steps = d; left = 0; instances = s; queues = q } ≡ r
      taken_stop h = later_none d 0 s q ∙ ap (later d) (sym (none_listed list take (limit - (d + 1)) s q (none_is x (list s q) e h))) ∙ one_more_lem

    pub taken_end : (l : ℕ) → limit ≤ d → l ≡ whether (list s q) → record { steps = d; left = l; instances = s; queues = q } ≡ r
    unfolding Taken ran_by
    taken_end l h e =
        let z : limit - d ≡ 0 = omega (arith, h) in
        rw e (later_none d (whether (list s q)) s q ∙ ap (λ (n : ℕ). later d (ran_by list take n s q)) (sym z) ∙ taken)

    -- the same where the turns are counted up to the limit
    pub taken_full : (l : ℕ) → limit ≤ d → d ≤ limit → l ≡ whether (list s q) → record { steps = limit; left = l; instances = s; queues = q } ≡ r
    taken_full l h k e = let z : limit ≡ d = omega arith in ap (λ (n : ℕ). record { steps = n; left = l; instances = s; queues = q }) z ∙ taken_end l h e
