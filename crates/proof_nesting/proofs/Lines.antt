-- FROM A NESTING TO FLOWS: from each edge of its beginning there is a flow to the edge of its end; and for every exit of an element on the way, and every task, a flow by it. Assumes nothing.
use Prim.Native.Nat.{ℕ, ◌+◌, ◌≤◌, ◌<◌}
use mathlib.Core.Path.{◌≡◌, refl, sym, ◌∙◌, ap, subst}
use mathlib.Core.Bool.{Bool, true, false, ◌&&◌, ◌||◌}
use mathlib.Core.List.{List, [], ◌∷◌, ◌++◌}
use mathlib.Core.Logic.{◌⊎◌, inl, inr, ⊎_elim}
use native.Mathlib.Omega.{arith}
use lib.Dec.{eqb}
use borrow.Author.Tests.{eqb-true}
use Rattle.base_words.specs.Each.{total, tab}
use Rattle.base_words.specs.Sum.{hit, one_if}
use Rattle.base_words.proofs.AllLaws.{and_left, and_right}
use Rattle.base_words.proofs.EachLaws.{total-tab, total_one}
use Rattle.base_kinds.specs.Kinds.{start, start_rcv, inter_rcv, inter_snd, event_based, and_split, and_join, xor_join, xor_split, task, task_rcv, task_snd, one, kind_of}
use Rattle.base_table.specs.Table.{kind_in, task_in, entry_count, exit_count, entry_at, exit_at}
use Rattle.proof_steps.proofs.Choices.{by_test}
use Rattle.check_nesting.specs.Nesting.{passes, starts, closes_all, closes_one, closes, exits_of, entries_of, occ, Rearranged, Runs, none, stays, passing, block}
use Rattle.proof_nesting.proofs.Flows.{Sound, Flow, onward, beside, still, event, tasked, tasked_least}
use Rattle.proof_nesting.proofs.Events.{one_exit, one_entry, no_start, through_one, split_all, join_all, hit_same, sum_at, sum_some}

-- ONE OF SEVERAL KINDS
pub or_elim : {C : Type 0} (a b : Bool) → a || b ≡ true → (a ≡ true → C) → (b ≡ true → C) → C
or_elim true b h f g = f refl
or_elim false b h f g = g h

-- what is asked of a kind that is passed by one entry and one exit
pub record Plain (el : List ℕ) : Type 0 where
  pub exits : exit_count el ≡ 1
  pub entries : entry_count el ≡ 1
  pub inner : starts el ≡ false
  pub joins : kind_in el ≡ xor_join → ⊥
  pub splits : (kind_in el ≡ xor_split) ⊎ (kind_in el ≡ event_based) → ⊥

plain_of : (el : List ℕ) (q : ℕ) → eqb (kind_in el) q ≡ true → (kind_of q).exits ≡ one → (kind_of q).entries ≡ one → (eqb q start || eqb q start_rcv) ≡ false → (q ≡ xor_join → ⊥) → ((q ≡ xor_split) ⊎ (q ≡ event_based) → ⊥) → Plain el
plain_of el q e a b s n o =
    let i : kind_in el ≡ q = eqb-true (kind_in el) q e in
    record { exits = one_exit el q i a; entries = one_entry el q i b; inner = no_start el q i s; joins = λ z. n (sym i ∙ z); splits = λ z. o (⊎_elim (λ y. inl (sym i ∙ y)) (λ y. inr (sym i ∙ y)) z) }

pub plain : (el : List ℕ) → passes el ≡ true → Plain el
unfolding passes kind_of
plain el h =
    or_elim (eqb (kind_in el) inter_rcv) _ h (λ e. plain_of el inter_rcv e refl refl refl (λ z. omega arith) (λ z. ⊎_elim (λ y. omega (arith, y)) (λ y. omega (arith, y)) z)) λ h₂.
    or_elim (eqb (kind_in el) inter_snd) _ h₂ (λ e. plain_of el inter_snd e refl refl refl (λ z. omega arith) (λ z. ⊎_elim (λ y. omega (arith, y)) (λ y. omega (arith, y)) z)) λ h₃.
    or_elim (eqb (kind_in el) task) _ h₃ (λ e. plain_of el task e refl refl refl (λ z. omega arith) (λ z. ⊎_elim (λ y. omega (arith, y)) (λ y. omega (arith, y)) z)) λ h₄.
    or_elim (eqb (kind_in el) task_rcv) _ h₄ (λ e. plain_of el task_rcv e refl refl refl (λ z. omega arith) (λ z. ⊎_elim (λ y. omega (arith, y)) (λ y. omega (arith, y)) z)) (λ e. plain_of el task_snd e refl refl refl (λ z. omega arith) (λ z. ⊎_elim (λ y. omega (arith, y)) (λ y. omega (arith, y)) z))

-- the elements of a block
pub record Split (el : List ℕ) : Type 0 where
  pub entries : entry_count el ≡ 1
  pub inner : starts el ≡ false
  pub joins : kind_in el ≡ xor_join → ⊥

pub record Join (el : List ℕ) : Type 0 where
  pub exits : exit_count el ≡ 1
  pub inner : starts el ≡ false

split_of : (el : List ℕ) (q : ℕ) → kind_in el ≡ q → (kind_of q).entries ≡ one → (eqb q start || eqb q start_rcv) ≡ false → (q ≡ xor_join → ⊥) → Split el
split_of el q i b s n = record { entries = one_entry el q i b; inner = no_start el q i s; joins = λ z. n (sym i ∙ z) }

join_of_lem : (el : List ℕ) (q : ℕ) → kind_in el ≡ q → (kind_of q).exits ≡ one → (eqb q start || eqb q start_rcv) ≡ false → Join el
join_of_lem el q i b s = record { exits = one_exit el q i b; inner = no_start el q i s }

-- an and block or an xor block
pub data Closed (el join : List ℕ) : Type 0 where
  whole : kind_in el ≡ and_split → kind_in join ≡ and_join → Closed el join
  choice : (kind_in el ≡ xor_split) ⊎ (kind_in el ≡ event_based) → kind_in join ≡ xor_join → Closed el join

pub closed : (el join : List ℕ) → closes el join ≡ true → Closed el join
unfolding closes closes_all closes_one
closed el join h =
    or_elim (eqb (kind_in el) and_split && eqb (kind_in join) and_join) _ h
    (λ e. whole (eqb-true _ _ (and_left (eqb (kind_in el) and_split) _ e)) (eqb-true _ _ (and_right (eqb (kind_in el) and_split) _ e)))
    (λ e.
    choice
    (or_elim (eqb (kind_in el) xor_split) (eqb (kind_in el) event_based) (and_left (eqb (kind_in el) xor_split || eqb (kind_in el) event_based) _ e) (λ a. inl (eqb-true _ _ a)) (λ a. inr (eqb-true _ _ a)))
    (eqb-true _ _ (and_right (eqb (kind_in el) xor_split || eqb (kind_in el) event_based) _ e)))

pub split_parts : (el join : List ℕ) → Closed el join → Split el
unfolding kind_of
split_parts el join (whole a b) = split_of el and_split a refl refl (λ z. omega arith)
split_parts el join (choice (inl a) b) = split_of el xor_split a refl refl (λ z. omega arith)
split_parts el join (choice (inr a) b) = split_of el event_based a refl refl (λ z. omega arith)

pub join_parts : (el join : List ℕ) → Closed el join → Join join
unfolding kind_of
join_parts el join (whole a b) = join_of_lem join and_join b refl refl
join_parts el join (choice a b) = join_of_lem join xor_join b refl refl

-- AN EDGE of a list of entries or exits stands at a place of it
pub stands : (g : ℕ → ℕ) (n x : ℕ) → 1 ≤ occ (tab g n) x → (j : ℕ) × (j < n) × (x ≡ g j)
stands g n x h =
    let s = sum_some (λ j. hit x (g j)) n (omega (arith, h, total-tab (hit x) g n)) in
    (s.0, s.1, met x (g s.0) s.2)
  where
    met : (x y : ℕ) → 0 < hit x y → x ≡ y
    met x y l = by_test (eqb x y) (eqb-true x y) (λ e. absurd (let z : hit x y ≡ 0 = ap one_if e in omega arith))

-- WHAT IS REACHED: an edge that is put, a task that is passed
pub data Target : Type 0 where
  edge : ℕ → Target
  work : ℕ → Target

abbrev pub reading : Target → (ℕ → ℕ) → (ℕ → ℕ) → ℕ
reading (edge f) o d = o f
reading (work n) o d = d n

module _ (P : ℕ → List ℕ) (c : ℕ) (sound : Sound P c) where
  abbrev Line : ℕ → ℕ → Type 0
  Line x y = Flow P c (x ∷ []) (y ∷ [])

  abbrev pub value : (g : Target) {xs ys : List ℕ} → Flow P c xs ys → ℕ
  value g F = reading g F.outs F.tasks

  value_left : (g : Target) {xs ys zs : List ℕ} (p : Flow P c xs ys) (q : Flow P c ys zs) → value g p ≤ value g (onward P c p q)
  unfolding onward
  value_left (edge f) p q = omega arith
  value_left (work n) p q = omega arith

  value_right : (g : Target) {xs ys zs : List ℕ} (p : Flow P c xs ys) (q : Flow P c ys zs) → value g q ≤ value g (onward P c p q)
  unfolding onward
  value_right (edge f) p q = omega arith
  value_right (work n) p q = omega arith

  beside_left : (g : Target) {ws xs ys zs : List ℕ} (p : Flow P c ws xs) (q : Flow P c ys zs) → value g p ≤ value g (beside P c p q)
  unfolding beside
  beside_left (edge f) p q = omega arith
  beside_left (work n) p q = omega arith

  beside_right : (g : Target) {ws xs ys zs : List ℕ} (p : Flow P c ws xs) (q : Flow P c ys zs) → value g q ≤ value g (beside P c p q)
  unfolding beside
  beside_right (edge f) p q = omega arith
  beside_right (work n) p q = omega arith

  -- A FLOW FOR EACH, AND ONE FOR ALL
  abbrev Ones : List ℕ → List ℕ → Type 0
  Ones [] [] = Unit
  Ones [] (y ∷ ys) = ⊥
  Ones (x ∷ xs) [] = ⊥
  Ones (x ∷ xs) (y ∷ ys) = Line x y × Ones xs ys

  all_of : (xs ys : List ℕ) → Ones xs ys → Flow P c xs ys
  all_of [] [] u = still P c []
  all_of [] (y ∷ ys) u = absurd u
  all_of (x ∷ xs) [] u = absurd u
  all_of (x ∷ xs) (y ∷ ys) u = beside P c u.0 (all_of xs ys u.1)

  -- one of them, from the edge x
  pick : (xs ys : List ℕ) → Ones xs ys → (x : ℕ) → 1 ≤ occ xs x → (y : ℕ) × (1 ≤ occ ys y) × Line x y
  unfolding total
  pick [] ys u x h = absurd (omega arith)
  pick (x₁ ∷ xs) [] u x h = absurd u
  pick (x₁ ∷ xs) (y₁ ∷ ys) u x h =
      by_test (eqb x x₁)
      (λ e. (y₁, (let z = hit_same y₁ y₁ refl in omega arith), subst (λ v. Line v y₁) (sym (eqb-true x x₁ e)) u.0))
      (λ e. let r = pick xs ys u.1 x (let z : hit x x₁ ≡ 0 = ap one_if e in omega arith) in (r.0, (let w = r.1 in omega arith), r.2))

  -- one of them reaches the target
  abbrev Through : Target → List ℕ → List ℕ → Type 0
  Through g [] ys = ⊥
  Through g (x ∷ xs) [] = ⊥
  Through g (x ∷ xs) (y ∷ ys) = ((F : Line x y) × (1 ≤ value g F)) ⊎ Through g xs ys

  through_all : (g : Target) (xs ys : List ℕ) → Ones xs ys → Through g xs ys → (F : Flow P c xs ys) × (1 ≤ value g F)
  through_all g [] ys u t = absurd t
  through_all g (x ∷ xs) [] u t = absurd t
  through_all g (x ∷ xs) (y ∷ ys) u (inl t) = let r : Flow P c xs ys = all_of xs ys u.1 in (beside P c t.0 r, omega (arith, t.1, beside_left g t.0 r))
  through_all g (x ∷ xs) (y ∷ ys) u (inr t) = let r = through_all g xs ys u.1 t in (beside P c u.0 r.0, omega (arith, r.1, beside_right g u.0 r.0))

  through_pick : (g : Target) (xs ys : List ℕ) → Through g xs ys → (x y : ℕ) × (1 ≤ occ xs x) × (1 ≤ occ ys y) × (F : Line x y) × (1 ≤ value g F)
  unfolding total
  through_pick g [] ys t = absurd t
  through_pick g (x ∷ xs) [] t = absurd t
  through_pick g (x ∷ xs) (y ∷ ys) (inl t) = (x, y, (let z = hit_same x x refl in omega arith), (let z = hit_same y y refl in omega arith), t.0, t.1)
  through_pick g (x ∷ xs) (y ∷ ys) (inr t) = let r = through_pick g xs ys t in (r.0, r.1, (let w = r.2 in omega arith), (let w = r.3 in omega arith), r.4, r.5)

  -- AN EDGE BY ANOTHER NAME
  unfoldable pub from : {ys : List ℕ} (x x' : ℕ) → x ≡ x' → Flow P c (x ∷ []) ys → Flow P c (x' ∷ []) ys
  from {ys} x x' e F = record {
    ins = F.ins;
    outs = F.outs;
    tasks = F.tasks;
    kept = subst (λ v. (f : ℕ) → F.outs f + occ (v ∷ []) f ≡ F.ins f + occ ys f) e F.kept;
    fair = F.fair;
  }

  unfoldable pub to : {xs : List ℕ} (y y' : ℕ) → y ≡ y' → Flow P c xs (y ∷ []) → Flow P c xs (y' ∷ [])
  to {xs} y y' e F = record {
    ins = F.ins;
    outs = F.outs;
    tasks = F.tasks;
    kept = subst (λ v. (f : ℕ) → F.outs f + occ xs f ≡ F.ins f + occ (v ∷ []) f) e F.kept;
    fair = F.fair;
  }

  -- what an element puts or passes
  abbrev pub Hits : Target → ℕ → Type 0
  Hits (edge f) k = (j : ℕ) × (j < exit_count (P k)) × (exit_at (P k) j ≡ f)
  Hits (work n) k = (task_in (P k) ≡ n) × (n ≡ 0 → ⊥)

  -- AN ELEMENT by one entry and one exit
  module _ (k : ℕ) (there : k < c) (inner : starts (P k) ≡ false) (joins : kind_in (P k) ≡ xor_join → ⊥) (splits : (kind_in (P k) ≡ xor_split) ⊎ (kind_in (P k) ≡ event_based) → ⊥) (i : ℕ) (li : i < entry_count (P k)) where
    by_one : (j : ℕ) → j < exit_count (P k) → Line (entry_at (P k) i) (exit_at (P k) j)
    by_one j lj = through_one P c sound k there inner i j li lj joins splits

    by_one-task : (n j : ℕ) (lj : j < exit_count (P k)) → Hits (work n) k → 1 ≤ value (work n) (by_one j lj)
    unfolding by_one through_one event
    by_one-task n j lj h = subst (λ y. 1 ≤ tasked P c sound k there inner y) h.0 (tasked_least P c sound k there inner (λ z. h.1 (sym h.0 ∙ z)))

    by_one_edge : (f j : ℕ) (lj : j < exit_count (P k)) → exit_at (P k) j ≡ f → 1 ≤ value (edge f) (by_one j lj)
    unfolding by_one through_one event
    by_one_edge f j lj e = omega (arith, total_one (hit f) (exit_at (P k) j), hit_same f (exit_at (P k) j) (sym e))

    -- a flow by it that hits
    hit_by : (g : Target) → 0 < exit_count (P k) → Hits g k → (j : ℕ) × (lj : j < exit_count (P k)) × (1 ≤ value g (by_one j lj))
    hit_by (edge f) some h = (h.0, h.1, by_one_edge f h.0 h.1 h.2)
    hit_by (work n) some h = (0, some, by_one-task n 0 some h)

  -- AN AND BLOCK by one of its branches: the split k, the join m
  module _ (k m : ℕ) (kc : k < c) (mc : m < c) (is : kind_in (P k) ≡ and_split) (closes : kind_in (P m) ≡ and_join) (es : List ℕ) (same : Rearranged es (entries_of (P m))) where
    parts : Split (P k)
    parts = split_parts (P k) (P m) (whole is closes)

    ends : Join (P m)
    ends = join_parts (P k) (P m) (whole is closes)

    no_xor : kind_in (P m) ≡ xor_join → ⊥
    no_xor z = omega (arith, closes, z)

    no_choice : (kind_in (P k) ≡ xor_split) ⊎ (kind_in (P k) ≡ event_based) → ⊥
    no_choice z = ⊎_elim (λ y. omega (arith, is, y)) (λ y. omega (arith, is, y)) z

    no_split : (kind_in (P m) ≡ xor_split) ⊎ (kind_in (P m) ≡ event_based) → ⊥
    no_split z = ⊎_elim (λ y. omega (arith, closes, y)) (λ y. omega (arith, closes, y)) z

    entry_of : (y : ℕ) → 1 ≤ occ es y → (j : ℕ) × (j < entry_count (P m)) × (y ≡ entry_at (P m) j)
    entry_of y h = stands (entry_at (P m)) (entry_count (P m)) y (omega (arith, h, same y))

    before : (j : ℕ) → j < exit_count (P k) → Line (entry_at (P k) 0) (exit_at (P k) j)
    before j l = by_one k kc parts.inner parts.joins no_choice 0 (omega (arith, parts.entries)) j l

    behind : (i : ℕ) → i < entry_count (P m) → Line (entry_at (P m) i) (exit_at (P m) 0)
    behind i l = by_one m mc ends.inner no_xor no_split i l 0 (omega (arith, ends.exits))

    -- by the branch x to y
    along : (x y : ℕ) → (h : 1 ≤ occ (exits_of (P k)) x) → (h' : 1 ≤ occ es y) → Line x y → Line (entry_at (P k) 0) (exit_at (P m) 0)
    along x y h h' F =
        let s = stands (exit_at (P k)) (exit_count (P k)) x h in
        let e = entry_of y h' in
        onward P c (before s.0 s.1) (onward P c (from x (exit_at (P k) s.0) s.2 F) (from (entry_at (P m) e.0) y (sym e.2) (behind e.0 e.1)))

    along_keeps : (g : Target) (x y : ℕ) (h : 1 ≤ occ (exits_of (P k)) x) (h' : 1 ≤ occ es y) (F : Line x y) → value g F ≤ value g (along x y h h' F)
    unfolding along from
    along_keeps g x y h h' F =
        let s = stands (exit_at (P k)) (exit_count (P k)) x h in
        let e = entry_of y h' in
        let F' : Line (exit_at (P k) s.0) y = from x (exit_at (P k) s.0) s.2 F in
        let B : Line y (exit_at (P m) 0) = from (entry_at (P m) e.0) y (sym e.2) (behind e.0 e.1) in
        omega (arith, value_left g F' B, value_right g (before s.0 s.1) (onward P c F' B))

    along_split : (g : Target) (x y : ℕ) (h : 1 ≤ occ (exits_of (P k)) x) (h' : 1 ≤ occ es y) (F : Line x y) (v : ℕ)
        → ((j : ℕ) (l : j < exit_count (P k)) → x ≡ exit_at (P k) j → v ≤ value g (before j l)) → v ≤ value g (along x y h h' F)
    unfolding along
    along_split g x y h h' F v least =
        let s = stands (exit_at (P k)) (exit_count (P k)) x h in
        let e = entry_of y h' in
        let F' : Line (exit_at (P k) s.0) y = from x (exit_at (P k) s.0) s.2 F in
        let B : Line y (exit_at (P m) 0) = from (entry_at (P m) e.0) y (sym e.2) (behind e.0 e.1) in
        omega (arith, least s.0 s.1 s.2, value_left g (before s.0 s.1) (onward P c F' B))

    along_join : (g : Target) (x y : ℕ) (h : 1 ≤ occ (exits_of (P k)) x) (h' : 1 ≤ occ es y) (F : Line x y) (v : ℕ)
        → ((i : ℕ) (l : i < entry_count (P m)) → v ≤ value g (behind i l)) → v ≤ value g (along x y h h' F)
    unfolding along from
    along_join g x y h h' F v least =
        let s = stands (exit_at (P k)) (exit_count (P k)) x h in
        let e = entry_of y h' in
        let F' : Line (exit_at (P k) s.0) y = from x (exit_at (P k) s.0) s.2 F in
        let B : Line y (exit_at (P m) 0) = from (entry_at (P m) e.0) y (sym e.2) (behind e.0 e.1) in
        omega (arith, least e.0 e.1, value_right g F' B, value_right g (before s.0 s.1) (onward P c F' B))

    -- a branch that there is
    first_branch : 1 ≤ occ (exits_of (P k)) (exit_at (P k) 0)
    first_branch =
        omega (arith, total-tab (hit (exit_at (P k) 0)) (exit_at (P k)) (exit_count (P k)), sum_at (λ j. hit (exit_at (P k) 0) (exit_at (P k) j)) (exit_count (P k)) 0 (sound.branching k kc is), hit_same (exit_at (P k) 0) (exit_at (P k) 0) refl)

    exit_branch : (j : ℕ) → j < exit_count (P k) → 1 ≤ occ (exits_of (P k)) (exit_at (P k) j)
    exit_branch j l =
        omega (arith, total-tab (hit (exit_at (P k) j)) (exit_at (P k)) (exit_count (P k)), sum_at (λ i. hit (exit_at (P k) j) (exit_at (P k) i)) (exit_count (P k)) j l, hit_same (exit_at (P k) j) (exit_at (P k) j) refl)

    module _ (u : Ones (exits_of (P k)) es) where
      and_some : Line (entry_at (P k) 0) (exit_at (P m) 0)
      and_some = let r = pick (exits_of (P k)) es u (exit_at (P k) 0) first_branch in along (exit_at (P k) 0) r.0 first_branch r.1 r.2

      and_through : (g : Target) → Through g (exits_of (P k)) es → (F : Line (entry_at (P k) 0) (exit_at (P m) 0)) × (1 ≤ value g F)
      and_through g t =
          let r = through_pick g (exits_of (P k)) es t in
          (along r.0 r.1 r.2 r.3 r.4, omega (arith, r.5, along_keeps g r.0 r.1 r.2 r.3 r.4))

      and_split_lem : (g : Target) → Hits g k → (F : Line (entry_at (P k) 0) (exit_at (P m) 0)) × (1 ≤ value g F)
      unfolding before
      and_split_lem (edge f) h =
          let b = exit_branch h.0 h.1 in
          let r = pick (exits_of (P k)) es u (exit_at (P k) h.0) b in (
            along (exit_at (P k) h.0) r.0 b r.1 r.2,
            along_split (edge f) (exit_at (P k) h.0) r.0 b r.1 r.2 1
                (λ j l e. by_one_edge k kc parts.inner parts.joins no_choice 0 (omega (arith, parts.entries)) f j l (sym e ∙ h.2)),
          )
      and_split_lem (work n) h =
          let r = pick (exits_of (P k)) es u (exit_at (P k) 0) first_branch in (
            along (exit_at (P k) 0) r.0 first_branch r.1 r.2,
            along_split (work n) (exit_at (P k) 0) r.0 first_branch r.1 r.2 1
                (λ j l e. by_one-task k kc parts.inner parts.joins no_choice 0 (omega (arith, parts.entries)) n j l h),
          )

      and_join_lem : (g : Target) → Hits g m → (F : Line (entry_at (P k) 0) (exit_at (P m) 0)) × (1 ≤ value g F)
      unfolding behind
      and_join_lem (edge f) h =
          let z : 0 ≡ h.0 = (let w = h.1 in let z = ends.exits in omega arith) in
          let r = pick (exits_of (P k)) es u (exit_at (P k) 0) first_branch in (
            along (exit_at (P k) 0) r.0 first_branch r.1 r.2,
            along_join (edge f) (exit_at (P k) 0) r.0 first_branch r.1 r.2 1
                (λ i l. by_one_edge m mc ends.inner no_xor no_split i l f 0 (omega (arith, ends.exits)) (ap (exit_at (P m)) z ∙ h.2)),
          )
      and_join_lem (work n) h =
          let r = pick (exits_of (P k)) es u (exit_at (P k) 0) first_branch in (
            along (exit_at (P k) 0) r.0 first_branch r.1 r.2,
            along_join (work n) (exit_at (P k) 0) r.0 first_branch r.1 r.2 1 (λ i l. by_one-task m mc ends.inner no_xor no_split i l n 0 (omega (arith, ends.exits)) h),
          )

  -- AN XOR BLOCK by all its branches
  module _ (k m : ℕ) (kc : k < c) (mc : m < c) (is : (kind_in (P k) ≡ xor_split) ⊎ (kind_in (P k) ≡ event_based)) (closes : kind_in (P m) ≡ xor_join) (es : List ℕ) (same : Rearranged es (entries_of (P m))) where
    xor_parts : Split (P k)
    xor_parts = split_parts (P k) (P m) (choice is closes)

    xor_ends : Join (P m)
    xor_ends = join_parts (P k) (P m) (choice is closes)

    apart : Flow P c (entry_at (P k) 0 ∷ []) (exits_of (P k))
    apart = split_all P c sound k kc xor_parts.inner 0 (omega (arith, xor_parts.entries)) is xor_parts.joins

    together : Flow P c es (exit_at (P m) 0 ∷ [])
    together = join_all P c sound m mc xor_ends.inner es 0 (omega (arith, xor_ends.exits)) closes same

    over_all : Flow P c (exits_of (P k)) es → Line (entry_at (P k) 0) (exit_at (P m) 0)
    over_all W = onward P c apart (onward P c W together)

    xor_through : (g : Target) (W : Flow P c (exits_of (P k)) es) → 1 ≤ value g W → (F : Line (entry_at (P k) 0) (exit_at (P m) 0)) × (1 ≤ value g F)
    unfolding over_all
    xor_through g W h = (over_all W, omega (arith, h, value_left g W together, value_right g apart (onward P c W together)))

    xor_split_lem : (g : Target) (W : Flow P c (exits_of (P k)) es) → Hits g k → (F : Line (entry_at (P k) 0) (exit_at (P m) 0)) × (1 ≤ value g F)
    unfolding apart split_all event
    xor_split_lem (edge f) W h = (
      onward P c apart (onward P c W together),
      let v : 1 ≤ value (edge f) apart = omega (arith, total-tab (hit f) (exit_at (P k)) (exit_count (P k)), sum_at (λ j. hit f (exit_at (P k) j)) (exit_count (P k)) h.0 h.1, hit_same f (exit_at (P k) h.0) (sym h.2)) in
          omega (arith, v, value_left (edge f) apart (onward P c W together)),
    )
    xor_split_lem (work n) W h = (
      onward P c apart (onward P c W together),
      let v : 1 ≤ value (work n) apart = subst (λ y. 1 ≤ tasked P c sound k kc xor_parts.inner y) h.0 (tasked_least P c sound k kc xor_parts.inner (λ z. h.1 (sym h.0 ∙ z))) in
          omega (arith, v, value_left (work n) apart (onward P c W together)),
    )

    xor_join_lem : (g : Target) (W : Flow P c (exits_of (P k)) es) → Hits g m → (F : Line (entry_at (P k) 0) (exit_at (P m) 0)) × (1 ≤ value g F)
    unfolding together join_all event
    xor_join_lem (edge f) W h = (
      onward P c apart (onward P c W together),
      let z : h.0 ≡ 0 = (let w = h.1 in let q = xor_ends.exits in omega arith) in
          let v : 1 ≤ value (edge f) together = omega (arith, total_one (hit f) (exit_at (P m) 0), hit_same f (exit_at (P m) 0) (sym (ap (exit_at (P m)) (sym z) ∙ h.2))) in
          omega (arith, v, value_right (edge f) W together, value_right (edge f) apart (onward P c W together)),
    )
    xor_join_lem (work n) W h = (
      onward P c apart (onward P c W together),
      let v : 1 ≤ value (work n) together = subst (λ y. 1 ≤ tasked P c sound m mc xor_ends.inner y) h.0 (tasked_least P c sound m mc xor_ends.inner (λ z. h.1 (sym h.0 ∙ z))) in
          omega (arith, v, value_right (work n) W together, value_right (work n) apart (onward P c W together)),
    )

  -- ANY BLOCK
  module _ (k m : ℕ) (kc : k < c) (mc : m < c) (es : List ℕ) (same : Rearranged es (entries_of (P m))) (u : Ones (exits_of (P k)) es) where
    abbrev Blocked : Target → Type 0
    Blocked g = (F : Line (entry_at (P k) 0) (exit_at (P m) 0)) × (1 ≤ value g F)

    block_some : Closed (P k) (P m) → Line (entry_at (P k) 0) (exit_at (P m) 0)
    block_some (whole a b) = and_some k m kc mc a b es same u
    block_some (choice a b) = over_all k m kc mc a b es same (all_of (exits_of (P k)) es u)

    block_through : (g : Target) → Closed (P k) (P m) → Through g (exits_of (P k)) es → Blocked g
    block_through g (whole a b) t = and_through k m kc mc a b es same u g t
    block_through g (choice a b) t = let r = through_all g (exits_of (P k)) es u t in xor_through k m kc mc a b es same g r.0 r.1

    block_split : (g : Target) → Closed (P k) (P m) → Hits g k → Blocked g
    block_split g (whole a b) h = and_split_lem k m kc mc a b es same u g h
    block_split g (choice a b) h = xor_split_lem k m kc mc a b es same g (all_of (exits_of (P k)) es u) h

    block_join : (g : Target) → Closed (P k) (P m) → Hits g m → Blocked g
    block_join g (whole a b) h = and_join_lem k m kc mc a b es same u g h
    block_join g (choice a b) h = xor_join_lem k m kc mc a b es same g (all_of (exits_of (P k)) es u) h

  -- THE WHOLE NESTING
  over : (k : ℕ) → k < c → Plain (P k) → (a : ℕ) → entry_at (P k) 0 ≡ a → Line a (exit_at (P k) 0)
  over k l p a e = from (entry_at (P k) 0) a e (by_one k l p.inner p.joins p.splits 0 (omega (arith, p.entries)) 0 (omega (arith, p.exits)))

  pub ones : {xs ys ks : List ℕ} → Runs P c xs ys ks → Ones xs ys
  ones none = record {}
  ones (stays {a = a} r) = (still P c (a ∷ []), ones r)
  ones (passing {a = a} k l p e r) = let s = ones r in (onward P c (over k l (plain (P k) p) a e) s.0, s.1)
  ones (block {a = a} {es = es} k m kc mc cl e inner same r) =
      let s = ones r in
      (onward P c (from (entry_at (P k) 0) a e (block_some k m kc mc es same (ones inner) (closed (P k) (P m) cl))) s.0, s.1)

  abbrev pub Reaches : Target → List ℕ → Type 0
  Reaches g [] = ⊥
  Reaches g (k ∷ ks) = Hits g k ⊎ Reaches g ks

  reaches_either : (g : Target) (ks ls : List ℕ) → Reaches g (ks ++ ls) → Reaches g ks ⊎ Reaches g ls
  reaches_either g [] ls h = inr h
  reaches_either g (k ∷ ks) ls (inl h) = inl (inl h)
  reaches_either g (k ∷ ks) ls (inr h) = ⊎_elim (λ r. inl (inr r)) (λ r. inr r) (reaches_either g ks ls h)

  abbrev Head : Target → ℕ → List ℕ → ℕ → List ℕ → Type 0
  Head g x xs y ys = ((F : Line x y) × (1 ≤ value g F)) ⊎ Through g xs ys

  -- something before the head of the rest
  before_head : (g : Target) (a x y : ℕ) (xs ys : List ℕ) → Line a x → Head g x xs y ys → Head g a xs y ys
  before_head g a x y xs ys p (inl t) = inl (onward P c p t.0, omega (arith, t.1, value_right g p t.0))
  before_head g a x y xs ys p (inr t) = inr t

  at_head : (g : Target) (a x y : ℕ) (xs ys : List ℕ) (p : Line a x) → 1 ≤ value g p → Line x y → Head g a xs y ys
  at_head g a x y xs ys p h q = inl (onward P c p q, omega (arith, h, value_left g p q))

  moved_head : (g : Target) (a b x y : ℕ) (xs ys : List ℕ) → a ≡ b → Head g a xs y ys → Head g b xs y ys
  moved_head g a b x y xs ys e t = subst (λ v. Head g v xs y ys) e t

  hit_plain : (g : Target) (k : ℕ) (l : k < c) (p : Plain (P k)) → Hits g k → (F : Line (entry_at (P k) 0) (exit_at (P k) 0)) × (1 ≤ value g F)
  hit_plain (edge f) k l p h = (
    by_one k l p.inner p.joins p.splits 0 (omega (arith, p.entries)) 0 (omega (arith, p.exits)),
    let z : 0 ≡ h.0 = (let w = h.1 in let q = p.exits in omega arith) in
        by_one_edge k l p.inner p.joins p.splits 0 (omega (arith, p.entries)) f 0 (omega (arith, p.exits)) (ap (exit_at (P k)) z ∙ h.2),
  )
  hit_plain (work n) k l p h = (
    by_one k l p.inner p.joins p.splits 0 (omega (arith, p.entries)) 0 (omega (arith, p.exits)),
    by_one-task k l p.inner p.joins p.splits 0 (omega (arith, p.entries)) n 0 (omega (arith, p.exits)) h,
  )

  pub through : (g : Target) {xs ys ks : List ℕ} → Runs P c xs ys ks → Reaches g ks → Through g xs ys
  through g none h = absurd h
  through g (stays r) h = inr (through g r h)
  through g (passing {a = a} {b = y} {xs = xs} {ys = ys} k l p e r) (inl h) =
      let t = hit_plain g k l (plain (P k) p) h in
      moved_head g (entry_at (P k) 0) a 0 y xs ys e (at_head g (entry_at (P k) 0) (exit_at (P k) 0) y xs ys t.0 t.1 (ones r).0)
  through g (passing {a = a} {b = y} {xs = xs} {ys = ys} k l p e r) (inr h) =
      before_head g a (exit_at (P k) 0) y xs ys (over k l (plain (P k) p) a e) (through g r h)
  through g (block {a = a} {b = y} {xs = xs} {ys = ys} {es = es} k m kc mc cl e inner same r) (inl h) =
      let t = block_split k m kc mc es same (ones inner) g (closed (P k) (P m) cl) h in
      moved_head g (entry_at (P k) 0) a 0 y xs ys e (at_head g (entry_at (P k) 0) (exit_at (P m) 0) y xs ys t.0 t.1 (ones r).0)
  through g (block {a = a} {b = y} {xs = xs} {ys = ys} {es = es} k m kc mc cl e inner same r) (inr (inl h)) =
      let t = block_join k m kc mc es same (ones inner) g (closed (P k) (P m) cl) h in
      moved_head g (entry_at (P k) 0) a 0 y xs ys e (at_head g (entry_at (P k) 0) (exit_at (P m) 0) y xs ys t.0 t.1 (ones r).0)
  through g (block {a = a} {b = y} {xs = xs} {ys = ys} {ks = ks} {es = es} {is = is} k m kc mc cl e inner same r) (inr (inr h)) =
      either (λ i. through g inner i) (λ i. through g r i) (reaches_either g is ks h)
    where
      either : (Reaches g is → Through g (exits_of (P k)) es) → (Reaches g ks → Head g (exit_at (P m) 0) xs y ys) → Reaches g is ⊎ Reaches g ks → Head g a xs y ys
      either f q (inl i) =
          let t = block_through k m kc mc es same (ones inner) g (closed (P k) (P m) cl) (f i) in
          moved_head g (entry_at (P k) 0) a 0 y xs ys e (at_head g (entry_at (P k) 0) (exit_at (P m) 0) y xs ys t.0 t.1 (ones r).0)
      either f q (inr i) =
          before_head g a (exit_at (P m) 0) y xs ys (from (entry_at (P k) 0) a e (block_some k m kc mc es same (ones inner) (closed (P k) (P m) cl))) (q i)
