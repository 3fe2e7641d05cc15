-- A NESTED POOL CAN BE WEIGHED: for each edge, and each task, there are weights by which no move of an element adds to the mass, an instance begins with at most 1, and that edge or task weighs
-- something. Assumes nothing.
use Prim.Native.Nat.{ℕ, ◌+◌, ◌≤◌, ◌<◌}
use mathlib.Core.Path.{◌≡◌, refl, sym, ◌∙◌, ap, ap₂, subst}
use mathlib.Core.Bool.{true, false, ◌||◌, false≢true}
use mathlib.Core.List.{List, [], ◌∷◌}
use mathlib.Core.Logic.{◌⊎◌, inl, inr, ⊎_elim}
use native.Mathlib.Omega.{arith}
use lib.Dec.{eqb, ltb}
use borrow.Author.Tests.{eqb-true, eqb-false, eq-eqb, ltb-true, ltb-false}
use Rattle.base_words.specs.Each.{total}
use Rattle.base_words.specs.Pick.{if◌then◌or_else◌}
use Rattle.base_words.specs.Sum.{sum, hit, one_if}
use Rattle.base_words.proofs.EachLaws.{total_one, total_append}
use Rattle.base_kinds.specs.declared.moves.Move.{Move}
use Rattle.base_kinds.specs.Kinds.{none as noExits, kind_of, used, start, start_rcv, end, and_split, xor_split, event_based}
use Rattle.base_kinds.specs.Moves.{up, down}
use Rattle.base_words.specs.Words.{at}
use Rattle.base_table.specs.Places.{entries_place, exits_place}
use Rattle.base_table.specs.Table.{kind_in, task_in, mode_in, entry_count, exit_count, entry_at, exit_at}
use Rattle.meaning.specs.Requirements.{first_touched}
use Rattle.proof_steps.proofs.Choices.{by_test, by_choice, chosen}
use Rattle.proof_steps.proofs.ChangesFit.{touched_within}
use Rattle.check_nesting.specs.Nesting.{starts, Runs, none, stays, passing, block, Nested}
use Rattle.proof_nesting.proofs.Weights.{putting, taking, counts, some, putting_most, putting_same, putting_none, taking_least, taking_mono, counts_away, counts_least, counts_none, row_balanced, row_takes, row_join, row_raises, row_lowers, row_made, is_task}
use Rattle.proof_nesting.proofs.Flows.{move_in, Tried, Goes, Sound, Flow}
use Rattle.proof_nesting.proofs.Wholes.{putting_least, putting_mono, taking_most, taking_same, row_whole, row_puts, row_branch}
use Rattle.proof_nesting.proofs.Events.{hit_same, hit_other, hit_most, sum_at, sum_some, one_exit, one_entry}
use Rattle.proof_nesting.proofs.Lines.{or_elim, plain, Closed, closed, whole, choice, join_parts, Target, edge, work, reading, Hits, Reaches, ones, through}

pub record Weighing (P : ℕ → List ℕ) (c : ℕ) (w d : ℕ → ℕ) : Type 0 where
  pub balanced : (k : ℕ) → k < c → (phase b : ℕ) → Tried (P k) (move_in (P k) phase) b
      → putting w (P k) (move_in (P k) phase) b + counts up (d (task_in (P k))) (move_in (P k) phase) ≤ taking w (P k) (move_in (P k) phase) b + counts down (d (task_in (P k))) (move_in (P k) phase)
  pub begins : (k : ℕ) → k < c → kind_in (P k) ≡ start → w (entry_at (P k) 0) ≤ 1
  pub made : (k : ℕ) → k < c → kind_in (P k) ≡ start_rcv → w (exit_at (P k) 0) ≤ 1

-- by these weights nothing is lost but at an end, which takes 1, and an instance begins with 1
pub record Exact (P : ℕ → List ℕ) (c : ℕ) (w d : ℕ → ℕ) : Type 0 where
  pub whole : (k : ℕ) → k < c → Goes (P k) → (phase b : ℕ) → Tried (P k) (move_in (P k) phase) b
      → taking w (P k) (move_in (P k) phase) b + counts down (d (task_in (P k))) (move_in (P k) phase) ≤ putting w (P k) (move_in (P k) phase) b + counts up (d (task_in (P k))) (move_in (P k) phase)
  pub begun : (k : ℕ) → k < c → kind_in (P k) ≡ start → w (entry_at (P k) 0) ≡ 1
  pub born : (k : ℕ) → k < c → kind_in (P k) ≡ start_rcv → w (exit_at (P k) 0) ≡ 1
  pub ended : (k : ℕ) → k < c → kind_in (P k) ≡ end → w (entry_at (P k) 0) ≡ 1

met : (x y : ℕ) → 0 < hit x y → x ≡ y
met x y l = by_test (eqb x y) (eqb-true x y) (λ e. absurd (let z : hit x y ≡ 0 = ap one_if e in omega arith))

pub started_by : (el : List ℕ) (q : ℕ) → kind_in el ≡ q → (eqb q start || eqb q start_rcv) ≡ true → starts el ≡ true
unfolding starts
started_by el q e h = ap (λ y. eqb y start || eqb y start_rcv) e ∙ h

pub sum_first : (g : ℕ → ℕ) (n : ℕ) → n ≡ 1 → sum g n ≡ g 0
unfolding sum
sum_first g n e = rw e (omega arith)

-- a start is no task
start_no_task : (k : ℕ) → (k ≡ start) ⊎ (k ≡ start_rcv) → is_task k ≡ true → ⊥
start_no_task k (inl e) h = false≢true (sym (ap is_task e) ∙ h)
start_no_task k (inr e) h = false≢true (sym (ap is_task e) ∙ h)

module _ (P : ℕ → List ℕ) (c : ℕ) (sound : Sound P c) (nest : Nested P c) where
  abbrev p₀ : ℕ
  p₀ = nest.first

  abbrev f₀ : ℕ
  f₀ = exit_at (P p₀) 0

  abbrev s₀ : ℕ
  s₀ = entry_at (P p₀) 0

  abbrev x₀ : ℕ
  x₀ = entry_at (P nest.last) 0

  is_start_lem : (kind_in (P p₀) ≡ start) ⊎ (kind_in (P p₀) ≡ start_rcv)
  unfolding starts
  is_start_lem = or_elim (eqb (kind_in (P p₀)) start) (eqb (kind_in (P p₀)) start_rcv) nest.first-starts (λ e. inl (eqb-true _ _ e)) (λ e. inr (eqb-true _ _ e))

  exit_one : exit_count (P p₀) ≡ 1
  unfolding kind_of
  exit_one = ⊎_elim (λ e. one_exit (P p₀) start e refl) (λ e. one_exit (P p₀) start_rcv e refl) is_start_lem

  -- the first edge of a start
  unfoldable pub firstly : ℕ → ℕ
  firstly f = if eqb (kind_in (P p₀)) start then hit f s₀ or_else 0

  firstly_exit : (k j : ℕ) → k < c → j < exit_count (P k) → firstly (exit_at (P k) j) ≡ 0
  unfolding firstly
  firstly_exit k j l r =
      by_choice (λ (y : ℕ). y ≡ 0) (eqb (kind_in (P p₀)) start) (hit (exit_at (P k) j) s₀) 0
      (λ e. hit_other (exit_at (P k) j) s₀ (sound.first_entry p₀ k j nest.first_there l (eqb-true _ _ e) r)) (λ e. refl)

  -- EVERY ELEMENT but the last has exits
  kind_goes : (el : List ℕ) (q : ℕ) → kind_in el ≡ q → eqb (kind_of q).exits noExits ≡ false → Goes el
  kind_goes el q s h e = eqb-false (kind_of q).exits noExits h (sym (ap (λ y. (kind_of y).exits) s) ∙ e)

  exits_go : (el : List ℕ) → 0 < exit_count el → Goes el
  unfolding exit_count used if◌then◌or_else◌
  exits_go el l e = absurd (let z : exit_count el ≡ 0 = ap (λ y. used y (at el exits_place)) e in omega (arith, z, l))

  split_goes : (el join : List ℕ) → Closed el join → Goes el
  unfolding kind_of
  split_goes el join (whole a b) = kind_goes el and_split a refl
  split_goes el join (choice (inl a) b) = kind_goes el xor_split a refl
  split_goes el join (choice (inr a) b) = kind_goes el event_based a refl

  between_goes : {xs ys ks : List ℕ} → Runs P c xs ys ks → (k : ℕ) → 0 < total (hit k) ks → Goes (P k)
  unfolding total
  between_goes none k l = absurd (omega arith)
  between_goes (stays r) k l = between_goes r k l
  between_goes (passing {ks = ks} i il p e r) k l =
      by_test (eqb k i) (λ q. subst (λ y. Goes (P y)) (sym (eqb-true k i q)) (exits_go (P i) (omega (arith, (plain (P i) p).exits))))
      (λ q. between_goes r k (let z = hit_other k i (eqb-false k i q) in omega arith))
  between_goes (block {ks = ks} {is = is} i j il jl cl e inner same r) k l =
      by_test (eqb k i) (λ q. subst (λ y. Goes (P y)) (sym (eqb-true k i q)) (split_goes (P i) (P j) (closed (P i) (P j) cl)))
      (λ q.
      by_test (eqb k j) (λ v. subst (λ y. Goes (P y)) (sym (eqb-true k j v)) (exits_go (P j) (omega (arith, (join_parts (P i) (P j) (closed (P i) (P j) cl)).exits))))
      (λ v.
      let z = hit_other k i (eqb-false k i q) in
      let y = hit_other k j (eqb-false k j v) in
      let t = total_append (hit k) is ks in
      by_test (ltb 0 (total (hit k) is)) (λ u. between_goes inner k (ltb-true 0 _ u)) (λ u. between_goes r k (let n = ltb-false 0 (total (hit k) is) u in omega (arith, t, n, z, y, l)))))

  start_goes : Goes (P p₀)
  start_goes = exits_go (P p₀) (omega (arith, exit_one))

  pub all_go : (k : ℕ) → k < c → Goes (P k) ⊎ (k ≡ nest.last)
  unfolding total
  all_go k l =
      by_test (eqb k p₀) (λ e. inl (subst (λ y. Goes (P y)) (sym (eqb-true k p₀ e)) start_goes))
      (λ e.
      by_test (eqb k nest.last) (λ f. inr (eqb-true k nest.last f))
      (λ f. inl (between_goes nest.runs k (let o = nest.once k l in let x = hit_other k p₀ (eqb-false k p₀ e) in let y = hit_other k nest.last (eqb-false k nest.last f) in omega (arith, o, x, y)))))

  last_stops : Goes (P nest.last) → ⊥
  unfolding kind_of
  last_stops g = g (ap (λ y. (kind_of y).exits) nest.last_ends)

  pub only_end : (k : ℕ) → k < c → kind_in (P k) ≡ end → k ≡ nest.last
  unfolding kind_of
  only_end k l e = ⊎_elim (λ g. absurd (g (ap (λ y. (kind_of y).exits) e))) (λ q. q) (all_go k l)

  abbrev pub Weighed : ((ℕ → ℕ) → (ℕ → ℕ) → Type 0) → Type 0
  Weighed Q = (w d : ℕ → ℕ) × Weighing P c w d × Q w d

  abbrev pub Precise : ((ℕ → ℕ) → (ℕ → ℕ) → Type 0) → Type 0
  Precise Q = (w d : ℕ → ℕ) × Weighing P c w d × Exact P c w d × Q w d

  module _ (F : Flow P c (f₀ ∷ []) (x₀ ∷ [])) where
    abbrev w : ℕ → ℕ
    w f = F.outs f + (hit f f₀ + firstly f)

    abbrev d : ℕ → ℕ
    d = F.tasks

    kept : (f : ℕ) → F.outs f + hit f f₀ ≡ F.ins f + hit f x₀
    kept f = omega (arith, F.kept f, total_one (hit f) f₀, total_one (hit f) x₀)

    heavier : (f : ℕ) → F.ins f ≤ w f
    heavier f = omega (arith, kept f)

    -- nothing puts a token on the start's edges
    outs_exit : F.outs f₀ ≡ 0
    outs_exit = F.fair.own f₀ (λ k l i j r e. no k l i (sound.one_leaves k p₀ j 0 l nest.first_there r (omega (arith, exit_one)) e))
      where
        no : (k : ℕ) → k < c → starts (P k) ≡ false → k ≡ p₀ → ⊥
        no k l i e = false≢true (sym i ∙ ap (λ y. starts (P y)) e ∙ nest.first-starts)

    outs_first : kind_in (P p₀) ≡ start → F.outs s₀ ≡ 0
    outs_first is = F.fair.own s₀ (λ k l i j r e. sound.first_entry p₀ k j nest.first_there l is r e)

    w_exit : w f₀ ≡ 1
    w_exit = omega (arith, outs_exit, hit_same f₀ f₀ refl, firstly_exit p₀ 0 nest.first_there (omega (arith, exit_one)))

    firstly_first : kind_in (P p₀) ≡ start → firstly s₀ ≡ 1
    unfolding firstly
    firstly_first is = chosen (eqb (kind_in (P p₀)) start) (hit s₀ s₀) 0 (eq-eqb _ _ is) ∙ hit_same s₀ s₀ refl

    pub w_first : kind_in (P p₀) ≡ start → w s₀ ≡ 1
    w_first is =
        omega (arith, outs_first is, firstly_first is, hit_other s₀ f₀ (λ e. sound.first_entry p₀ p₀ 0 nest.first_there nest.first_there is (omega (arith, exit_one)) (sym e)))

    -- AT THE START
    module _ (phase b : ℕ) (t : Tried (P p₀) (move_in (P p₀) phase) b) where
      abbrev m₀ : Move
      m₀ = move_in (P p₀) phase

      put_most : putting w (P p₀) m₀ b ≤ some m₀.puts
      put_most =
          putting_most w (P p₀) m₀ b
          (λ e. omega (arith, sum_first (λ j. w (exit_at (P p₀) j)) (exit_count (P p₀)) exit_one, w_exit))
          (λ e. let z : b ≡ 0 = (let r = t.leaves e in omega (arith, r, exit_one)) in let q : w (exit_at (P p₀) b) ≡ w f₀ = ap (λ j. w (exit_at (P p₀) j)) z in omega (arith, q, w_exit))

      raises_none : counts up (d (task_in (P p₀))) m₀ ≡ 0
      raises_none = counts_away up (d (task_in (P p₀))) m₀ (λ e. start_no_task _ is_start_lem (row_raises _ _ phase (inl e))) (λ e. start_no_task _ is_start_lem (row_raises _ _ phase (inr e)))

      take_least : (is : kind_in (P p₀) ≡ start) → some m₀.takes ≤ taking w (P p₀) m₀ b
      unfolding kind_of
      take_least is =
          let n : entry_count (P p₀) ≡ 1 = one_entry (P p₀) start is refl in
          taking_least w (P p₀) m₀ b (row_takes _ _ phase)
          (λ e. omega (arith, sum_first (λ j. w (entry_at (P p₀) j)) (entry_count (P p₀)) n, w_first is))
          (λ e. absurd (let q = row_join (kind_in (P p₀)) (mode_in (P p₀)) phase e in omega (arith, q, is)))

      at_start : (is : kind_in (P p₀) ≡ start) → putting w (P p₀) m₀ b + counts up (d (task_in (P p₀))) m₀ ≤ taking w (P p₀) m₀ b + counts down (d (task_in (P p₀))) m₀
      at_start is =
          omega (
            arith,
            put_most,
            raises_none,
            take_least is,
            counts_least down (d (task_in (P p₀))) m₀ (λ e. absurd (start_no_task _ is_start_lem (row_lowers _ _ phase (inl e)))) (λ e. absurd (start_no_task _ is_start_lem (row_lowers _ _ phase (inr e)))),
            row_balanced (kind_in (P p₀)) (mode_in (P p₀)) phase t.old,
          )

      at-start_rcv : (is : kind_in (P p₀) ≡ start_rcv) → putting w (P p₀) m₀ b + counts up (d (task_in (P p₀))) m₀ ≤ taking w (P p₀) m₀ b + counts down (d (task_in (P p₀))) m₀
      at-start_rcv is =
          let z : some m₀.puts ≡ 0 = ap (λ y. some y) (row_made (kind_in (P p₀)) (mode_in (P p₀)) phase is t.old) in
          omega (arith, put_most, raises_none, z)

    -- ELSEWHERE
    elsewhere : (k : ℕ) → k < c → (k ≡ p₀ → ⊥) → (phase b : ℕ) → Tried (P k) (move_in (P k) phase) b
        → putting w (P k) (move_in (P k) phase) b + counts up (d (task_in (P k))) (move_in (P k) phase) ≤ taking w (P k) (move_in (P k) phase) b + counts down (d (task_in (P k))) (move_in (P k) phase)
    elsewhere k l ne phase b t =
        let m : Move = move_in (P k) phase in
        let s : putting w (P k) m b ≡ putting F.outs (P k) m b = putting_same w (P k) m b F.outs (λ j r.
        let y : ℕ = first_touched m.puts b + j in
        let i : y < exit_count (P k) = touched_within m.puts b (exit_count (P k)) j t.leaves r in
        omega (arith, firstly_exit k y l i, hit_other (exit_at (P k) y) f₀ (λ e. ne (sound.one_leaves k p₀ y 0 l nest.first_there i (omega (arith, exit_one)) e)))) in
        omega (arith, s, F.fair.balanced k l phase b t, taking_mono F.ins (P k) m b w heavier)

    pub flow_weighs : Weighing P c w d
    flow_weighs = record {
      balanced = λ k l phase b t.
          by_test (eqb k p₀)
          (λ e.
          subst (λ y. Tried (P y) (move_in (P y) phase) b → putting w (P y) (move_in (P y) phase) b + counts up (d (task_in (P y))) (move_in (P y) phase) ≤ taking w (P y) (move_in (P y) phase) b + counts down (d (task_in (P y))) (move_in (P y) phase))
          (sym (eqb-true k p₀ e)) (λ q. ⊎_elim (at_start phase b q) (at-start_rcv phase b q) is_start_lem) t)
          (λ e. elsewhere k l (eqb-false k p₀ e) phase b t);
      begins = λ k l is.
          let e : k ≡ p₀ = sound.one_start k p₀ l nest.first_there (started k (inl is)) nest.first-starts in
          let q : w (entry_at (P k) 0) ≡ 1 = ap (λ y. w (entry_at (P y) 0)) e ∙ w_first (sym (ap (λ y. kind_in (P y)) e) ∙ is) in
          omega (arith, q);
      made = λ k l is.
          let e : k ≡ p₀ = sound.one_start k p₀ l nest.first_there (started k (inr is)) nest.first-starts in
          let q : w (exit_at (P k) 0) ≡ 1 = ap (λ y. w (exit_at (P y) 0)) e ∙ w_exit in
          omega (arith, q);
    }
      where
        started : (k : ℕ) → (kind_in (P k) ≡ start) ⊎ (kind_in (P k) ≡ start_rcv) → starts (P k) ≡ true
        started k (inl e) = started_by (P k) start e refl
        started k (inr e) = started_by (P k) start_rcv e refl

    -- EXACT
    last_entry : entry_count (P nest.last) ≡ 1
    unfolding kind_of
    last_entry = one_entry (P nest.last) end nest.last_ends refl

    not_last : p₀ ≡ nest.last → ⊥
    not_last e = last_stops (subst (λ y. Goes (P y)) e start_goes)

    first_entry_one : kind_in (P p₀) ≡ start → entry_count (P p₀) ≡ 1
    unfolding kind_of
    first_entry_one is = one_entry (P p₀) start is refl

    firstly_entry : (k j : ℕ) → k < c → j < entry_count (P k) → (k ≡ p₀ → ⊥) → firstly (entry_at (P k) j) ≡ 0
    unfolding firstly
    firstly_entry k j l r ne =
        by_choice (λ (y : ℕ). y ≡ 0) (eqb (kind_in (P p₀)) start) (hit (entry_at (P k) j) s₀) 0
        (λ e. hit_other (entry_at (P k) j) s₀ (λ q. ne (sound.one_enters k p₀ j 0 l nest.first_there r (omega (arith, first_entry_one (eqb-true _ _ e))) q))) (λ e. refl)

    pub entry_ins : (k j : ℕ) → k < c → j < entry_count (P k) → (k ≡ p₀ → ⊥) → (k ≡ nest.last → ⊥) → w (entry_at (P k) j) ≡ F.ins (entry_at (P k) j)
    entry_ins k j l r ne nl =
        omega (arith, kept (entry_at (P k) j), firstly_entry k j l r ne, hit_other (entry_at (P k) j) x₀ (λ q. nl (sound.one_enters k nest.last j 0 l nest.last_there r (omega (arith, last_entry)) q)))

    w_last : w x₀ ≡ 1
    w_last =
        let t : F.ins x₀ ≡ 0 = F.fair.taken x₀ (λ k l i g j r e. last_stops (subst (λ y. Goes (P y)) (sound.one_enters k nest.last j 0 l nest.last_there r (omega (arith, last_entry)) e) g)) in
        omega (arith, kept x₀, t, hit_same x₀ x₀ refl, firstly_entry nest.last 0 nest.last_there (omega (arith, last_entry)) (λ q. not_last (sym q)))

    module _ (phase b : ℕ) (t : Tried (P p₀) (move_in (P p₀) phase) b) where
      entries_sum : sum (λ j. w (entry_at (P p₀) j)) (entry_count (P p₀)) ≤ 1
      unfolding kind_of entry_count used if◌then◌or_else◌ sum
      entries_sum =
          ⊎_elim
          (λ is. let z = sum_first (λ j. w (entry_at (P p₀) j)) (entry_count (P p₀)) (first_entry_one is) in omega (arith, z, w_first is))
          (λ is.
          let n : entry_count (P p₀) ≡ 0 = ap (λ y. used (kind_of y).entries (at (P p₀) entries_place)) is in
          let z : sum (λ j. w (entry_at (P p₀) j)) (entry_count (P p₀)) ≡ sum (λ j. w (entry_at (P p₀) j)) 0 = ap (sum (λ j. w (entry_at (P p₀) j))) n in omega (arith, z))
          is_start_lem

      no_split_here : (kind_in (P p₀) ≡ xor_split) ⊎ (kind_in (P p₀) ≡ event_based) → ⊥
      no_split_here (inl e) = ⊎_elim (λ s. omega (arith, s, e)) (λ s. omega (arith, s, e)) is_start_lem
      no_split_here (inr e) = ⊎_elim (λ s. omega (arith, s, e)) (λ s. omega (arith, s, e)) is_start_lem

      start-whole : taking w (P p₀) (move_in (P p₀) phase) b + counts down (d (task_in (P p₀))) (move_in (P p₀) phase) ≤ putting w (P p₀) (move_in (P p₀) phase) b + counts up (d (task_in (P p₀))) (move_in (P p₀) phase)
      start-whole =
          let m : Move = move_in (P p₀) phase in
          let tm = taking_most w (P p₀) m b (λ e. entries_sum) (λ e. absurd (let q = row_join (kind_in (P p₀)) (mode_in (P p₀)) phase e in ⊎_elim (λ s. omega (arith, s, q)) (λ s. omega (arith, s, q)) is_start_lem)) in
          let pl = putting_least w (P p₀) m b (row_puts (kind_in (P p₀)) (mode_in (P p₀)) phase)
          (λ e. omega (arith, sum_first (λ j. w (exit_at (P p₀) j)) (exit_count (P p₀)) exit_one, w_exit))
          (λ e. absurd (no_split_here (row_branch (kind_in (P p₀)) (mode_in (P p₀)) phase e))) in
          let dn = counts_away down (d (task_in (P p₀))) m (λ e. start_no_task _ is_start_lem (row_lowers _ _ phase (inl e))) (λ e. start_no_task _ is_start_lem (row_lowers _ _ phase (inr e))) in
          let rows = row_whole (kind_in (P p₀)) (mode_in (P p₀)) phase t.old start_goes in
          let ru = counts_least up 0 m (λ e. absurd (start_no_task _ is_start_lem (row_raises _ _ phase (inl e)))) (λ e. absurd (start_no_task _ is_start_lem (row_raises _ _ phase (inr e)))) in
          let zu = counts_none up 0 m refl in
          omega (arith, tm, pl, dn, rows, ru, zu)

    elsewhere_whole : (k : ℕ) → k < c → (k ≡ p₀ → ⊥) → Goes (P k) → (phase b : ℕ) → Tried (P k) (move_in (P k) phase) b
        → taking w (P k) (move_in (P k) phase) b + counts down (d (task_in (P k))) (move_in (P k) phase) ≤ putting w (P k) (move_in (P k) phase) b + counts up (d (task_in (P k))) (move_in (P k) phase)
    elsewhere_whole k l ne g phase b t =
        let m : Move = move_in (P k) phase in
        let nl : k ≡ nest.last → ⊥ = (λ e. last_stops (subst (λ y. Goes (P y)) e g)) in
        let s : taking w (P k) m b ≡ taking F.ins (P k) m b = taking_same w (P k) m b F.ins (λ j r. entry_ins k (first_touched m.takes b + j) l (touched_within m.takes b (entry_count (P k)) j t.enters r) ne nl) in
        let o : putting F.outs (P k) m b ≤ putting w (P k) m b = putting_mono F.outs (P k) m b w (λ f. omega arith) in
        omega (arith, s, o, F.fair.whole k l g phase b t)

    pub flow_exact : Exact P c w d
    flow_exact = record {
      whole = λ k l g phase b t.
          by_test (eqb k p₀)
          (λ e.
          subst (λ y. Tried (P y) (move_in (P y) phase) b → taking w (P y) (move_in (P y) phase) b + counts down (d (task_in (P y))) (move_in (P y) phase) ≤ putting w (P y) (move_in (P y) phase) b + counts up (d (task_in (P y))) (move_in (P y) phase))
          (sym (eqb-true k p₀ e)) (λ q. start-whole phase b q) t)
          (λ e. elsewhere_whole k l (eqb-false k p₀ e) g phase b t);
      begun = λ k l is.
          let e : k ≡ p₀ = sound.one_start k p₀ l nest.first_there (started_by (P k) start is refl) nest.first-starts in
          ap (λ y. w (entry_at (P y) 0)) e ∙ w_first (sym (ap (λ y. kind_in (P y)) e) ∙ is);
      born = λ k l is.
          let e : k ≡ p₀ = sound.one_start k p₀ l nest.first_there (started_by (P k) start_rcv is refl) nest.first-starts in
          ap (λ y. w (exit_at (P y) 0)) e ∙ w_exit;
      ended = λ k l is. ap (λ y. w (entry_at (P y) 0)) (only_end k l is) ∙ w_last;
    }

    pub by_flow_lem : (Q : (ℕ → ℕ) → (ℕ → ℕ) → Type 0) → Q w d → Precise Q
    by_flow_lem Q h = (w, d, flow_weighs, flow_exact, h)

  -- ONE OF THEM
  among : (k : ℕ) → k < c → (k ≡ p₀) ⊎ ((k ≡ nest.last) ⊎ (0 < total (hit k) nest.between))
  unfolding total
  among k l =
      by_test (eqb k p₀) (λ e. inl (eqb-true k p₀ e))
      (λ e.
      by_test (eqb k nest.last) (λ f. inr (inl (eqb-true k nest.last f)))
      (λ f. inr (inr (omega (arith, nest.once k l, hit_other k p₀ (eqb-false k p₀ e), hit_other k nest.last (eqb-false k nest.last f))))))

  reached : (g : Target) (k : ℕ) (ks : List ℕ) → 0 < total (hit k) ks → Hits P c sound g k → Reaches P c sound g ks
  unfolding total
  reached g k [] l h = absurd (omega arith)
  reached g k (i ∷ ks) l h =
      by_test (eqb k i) (λ e. inl (subst (λ y. Hits P c sound g y) (eqb-true k i e) h))
      (λ e. inr (reached g k ks (let z = hit_other k i (eqb-false k i e) in omega arith) h))

  line : (g : Target) → Reaches P c sound g nest.between → (F : Flow P c (f₀ ∷ []) (x₀ ∷ [])) × (1 ≤ reading g F.outs F.tasks)
  line g h = ⊎_elim (λ t. t) (λ t. absurd t) (through P c sound g nest.runs h)

  pub any_line : Flow P c (f₀ ∷ []) (x₀ ∷ [])
  any_line = (ones P c sound nest.runs).0

  end_exits : exit_count (P nest.last) ≡ 0
  unfolding exit_count used if◌then◌or_else◌ kind_of
  end_exits = ap (λ y. used (kind_of y).exits (at (P nest.last) exits_place)) nest.last_ends

  -- AN EDGE that leaves an element; that leaves none
  pub exact_edge : (e k j : ℕ) → k < c → j < exit_count (P k) → exit_at (P k) j ≡ e → Precise (λ w d. 1 ≤ w e)
  exact_edge e k j l r q =
      ⊎_elim
      (λ i.
      let z : j ≡ 0 = (let y : exit_count (P k) ≡ 1 = ap (λ y. exit_count (P y)) i ∙ exit_one in omega (arith, y, r)) in
      let same : e ≡ f₀ = sym q ∙ ap₂ (λ (a b : ℕ). exit_at (P a) b) i z in
      by_flow_lem any_line (λ w d. 1 ≤ w e) (let v : w any_line e ≡ w any_line f₀ = ap (w any_line) same in omega (arith, v, w_exit any_line)))
      (λ o.
      ⊎_elim (λ i. absurd (let y : exit_count (P k) ≡ 0 = ap (λ y. exit_count (P y)) i ∙ end_exits in omega (arith, y, r)))
      (λ i. let t = line (edge e) (reached (edge e) k nest.between i (j, r, q)) in by_flow_lem t.0 (λ w d. 1 ≤ w e) (omega (arith, t.1)))
      o)
      (among k l)

  alone : (e : ℕ) → ((k j : ℕ) → k < c → j < exit_count (P k) → exit_at (P k) j ≡ e → ⊥) → Weighing P c (λ f. hit f e) (λ n. 0)
  alone e away = record {
    balanced = λ k l phase b t.
        let m : Move = move_in (P k) phase in
        let z : putting (λ f. hit f e) (P k) m b ≡ 0 = putting_none (λ f. hit f e) (P k) m b (λ j r.
        let i : first_touched m.puts b + j < exit_count (P k) = touched_within m.puts b (exit_count (P k)) j t.leaves r in
        hit_other (exit_at (P k) (first_touched m.puts b + j)) e (away k (first_touched m.puts b + j) l i)) in
        omega (arith, z, counts_none up 0 m refl);
    begins = λ k l is. hit_most (entry_at (P k) 0) e;
    made = λ k l is. hit_most (exit_at (P k) 0) e;
  }

  pub weighs_edge : (e : ℕ) → Weighed (λ w d. 1 ≤ w e)
  weighs_edge e =
      by_test (ltb 0 (sum (λ k. sum (λ j. hit (exit_at (P k) j) e) (exit_count (P k))) c))
      (λ t.
      let s = sum_some (λ k. sum (λ j. hit (exit_at (P k) j) e) (exit_count (P k))) c (ltb-true 0 _ t) in
      let r = sum_some (λ j. hit (exit_at (P s.0) j) e) (exit_count (P s.0)) s.2 in
      let x = exact_edge e s.0 r.0 s.1 r.1 (met (exit_at (P s.0) r.0) e r.2) in
      (x.0, x.1, x.2, x.4))
      (λ t. (
        (λ f. hit f e),
        (λ n. 0),
        alone e (λ k j l r q.
            let z = ltb-false 0 (sum (λ k. sum (λ j. hit (exit_at (P k) j) e) (exit_count (P k))) c) t in
            let a = sum_at (λ k. sum (λ j. hit (exit_at (P k) j) e) (exit_count (P k))) c k l in
            let b = sum_at (λ j. hit (exit_at (P k) j) e) (exit_count (P k)) j r in
            omega (arith, z, a, b, hit_same (exit_at (P k) j) e q)),
        (let z = hit_same e e refl in omega arith),
      ))

  -- A TASK
  idle : (n : ℕ) → ((k : ℕ) → k < c → task_in (P k) ≡ n → ⊥) → Weighing P c (λ f. 0) (λ k. hit k n)
  idle n away = record {
    balanced = λ k l phase b t.
        let m : Move = move_in (P k) phase in
        omega (arith, putting_none (λ f. 0) (P k) m b (λ j r. refl), counts_none up (hit (task_in (P k)) n) m (hit_other (task_in (P k)) n (away k l)));
    begins = λ k l is. omega arith;
    made = λ k l is. omega arith;
  }

  no_task : (k : ℕ) → k < c → is_task (kind_in (P k)) ≡ true → (k ≡ p₀ → ⊥) × (k ≡ nest.last → ⊥)
  no_task k l h = (
    λ e. start_no_task (kind_in (P p₀)) is_start_lem (subst (λ y. is_task (kind_in (P y)) ≡ true) e h),
    λ e. false≢true (sym (ap is_task nest.last_ends) ∙ subst (λ y. is_task (kind_in (P y)) ≡ true) e h),
  )

  pub exact_task : (n k : ℕ) → (n ≡ 0 → ⊥) → k < c → task_in (P k) ≡ n → Precise (λ w d. 1 ≤ d n)
  exact_task n k ne l q =
      let o = no_task k l (sound.tasks_only k l (λ z. ne (sym q ∙ z))) in
      ⊎_elim (λ i. absurd (o.0 i))
      (λ r.
      ⊎_elim (λ i. absurd (o.1 i))
      (λ i. let y = line (work n) (reached (work n) k nest.between i (q, ne)) in by_flow_lem y.0 (λ w d. 1 ≤ d n) y.1)
      r)
      (among k l)

  pub weighs_task : (n : ℕ) → (n ≡ 0 → ⊥) → Weighed (λ w d. 1 ≤ d n)
  weighs_task n ne =
      by_test (ltb 0 (sum (λ k. hit (task_in (P k)) n) c))
      (λ t.
      let s = sum_some (λ k. hit (task_in (P k)) n) c (ltb-true 0 _ t) in
      let x = exact_task n s.0 ne s.1 (met (task_in (P s.0)) n s.2) in
      (x.0, x.1, x.2, x.4))
      (λ t. (
        (λ f. 0),
        (λ k. hit k n),
        idle n (λ k l q. let z = ltb-false 0 (sum (λ k. hit (task_in (P k)) n) c) t in let a = sum_at (λ k. hit (task_in (P k)) n) c k l in omega (arith, z, a, hit_same (task_in (P k)) n q)),
        (let z = hit_same n n refl in omega arith),
      ))
