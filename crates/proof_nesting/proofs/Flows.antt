-- FLOWS. A flow from the edges xs to the edges ys says how often each edge is taken (ins) and put (outs) and each task passed, where at every element no move gains more than it takes. Flows follow on
-- one another and stand side by side. An element that is passed is one; so is a split with one branch or all, and a join. P k is the words of element k of a pool, c how many it has. Assumes nothing.
use Prim.Native.Nat.{ℕ, ◌+◌, ◌≤◌, ◌<◌}
use mathlib.Core.Path.{◌≡◌, refl, sym, ap, subst}
use mathlib.Core.Bool.{true, false}
use mathlib.Core.List.{List, ◌++◌}
use mathlib.Core.Logic.{◌⊎◌, inl, inr}
use native.Mathlib.Omega.{arith}
use lib.Dec.{eqb}
use borrow.Author.Tests.{eqb-true, eqb-false, eq-eqb, ne_eqb}
use Rattle.base_words.specs.Pick.{if◌then◌or_else◌}
use Rattle.base_words.specs.Sum.{hit, one_if}
use Rattle.base_words.proofs.EachLaws.{total_append}
use Rattle.base_kinds.specs.declared.moves.Move.{Move}
use Rattle.proof_nesting.proofs.Wholes.{taking-none, row_whole}
use Rattle.base_kinds.specs.Kinds.{none, kind_of, start, and_split}
use Rattle.base_kinds.specs.Moves.{branch, up, down, making, move_of}
use Rattle.base_table.specs.Table.{kind_in, task_in, mode_in, entry_count, exit_count, entry_at, exit_at}
use Rattle.meaning.specs.Requirements.{first_touched}
use Rattle.proof_steps.proofs.Choices.{by_test, by_choice}
use Rattle.proof_steps.proofs.ChangesFit.{touched_within}
use Rattle.check_nesting.specs.Nesting.{starts, occ}
use Rattle.proof_nesting.proofs.Weights.{putting, taking, counts, some, putting_add, taking_add, counts_add, counts_most, counts_least, counts_none, putting_none, row_balanced, row_lowers, row_raises, is_task}

-- the move of an element in a phase; a branch that it has; it makes no instance
abbrev pub move_in : List ℕ → ℕ → Move
move_in el phase = move_of (kind_in el) (mode_in el) phase

pub record Tried (el : List ℕ) (m : Move) (b : ℕ) : Type 0 where
  pub old : m.also ≡ making → ⊥
  pub enters : m.takes ≡ branch → b < entry_count el
  pub leaves : m.puts ≡ branch → b < exit_count el

-- WHAT CHECKS 4 AND 5 AND THE LIMITS GIVE
pub record Sound (P : ℕ → List ℕ) (c : ℕ) : Type 0 where
  pub one_leaves : (k l i j : ℕ) → k < c → l < c → i < exit_count (P k) → j < exit_count (P l) → exit_at (P k) i ≡ exit_at (P l) j → k ≡ l
  pub one_enters : (k l i j : ℕ) → k < c → l < c → i < entry_count (P k) → j < entry_count (P l) → entry_at (P k) i ≡ entry_at (P l) j → k ≡ l
  pub exits_apart : (k i j : ℕ) → k < c → i < exit_count (P k) → j < exit_count (P k) → exit_at (P k) i ≡ exit_at (P k) j → i ≡ j
  pub entries_apart : (k i j : ℕ) → k < c → i < entry_count (P k) → j < entry_count (P k) → (i ≡ j → ⊥) → entry_at (P k) i ≡ entry_at (P k) j → ⊥
  pub tasks_once : (k l : ℕ) → k < c → l < c → (task_in (P k) ≡ 0 → ⊥) → task_in (P k) ≡ task_in (P l) → k ≡ l
  pub branching : (k : ℕ) → k < c → kind_in (P k) ≡ and_split → 0 < exit_count (P k)
  pub one_start : (k l : ℕ) → k < c → l < c → starts (P k) ≡ true → starts (P l) ≡ true → k ≡ l
  pub first_entry : (k l j : ℕ) → k < c → l < c → kind_in (P k) ≡ start → j < exit_count (P l) → exit_at (P l) j ≡ entry_at (P k) 0 → ⊥
  pub tasks_only : (k : ℕ) → k < c → (task_in (P k) ≡ 0 → ⊥) → is_task (kind_in (P k)) ≡ true
  pub tasks_numbered : (k : ℕ) → k < c → is_task (kind_in (P k)) ≡ true → task_in (P k) ≡ 0 → ⊥

-- an element that has exits: no end
abbrev pub Goes : List ℕ → Type 0
Goes el = (kind_of (kind_in el)).exits ≡ none → ⊥

module _ (P : ℕ → List ℕ) (c : ℕ) where
  -- at every element; nothing is lost but at an end; no edge is put or taken but by an element between
  pub record Fair (i o d : ℕ → ℕ) : Type 0 where
    pub balanced : (k : ℕ) → k < c → (phase b : ℕ) → Tried (P k) (move_in (P k) phase) b
        → putting o (P k) (move_in (P k) phase) b + counts up (d (task_in (P k))) (move_in (P k) phase) ≤ taking i (P k) (move_in (P k) phase) b + counts down (d (task_in (P k))) (move_in (P k) phase)
    pub whole : (k : ℕ) → k < c → Goes (P k) → (phase b : ℕ) → Tried (P k) (move_in (P k) phase) b
        → taking i (P k) (move_in (P k) phase) b + counts down (d (task_in (P k))) (move_in (P k) phase) ≤ putting o (P k) (move_in (P k) phase) b + counts up (d (task_in (P k))) (move_in (P k) phase)
    pub taken : (f : ℕ) → ((k : ℕ) → k < c → starts (P k) ≡ false → Goes (P k) → (j : ℕ) → j < entry_count (P k) → entry_at (P k) j ≡ f → ⊥) → i f ≡ 0
    pub own : (f : ℕ) → ((k : ℕ) → k < c → starts (P k) ≡ false → (j : ℕ) → j < exit_count (P k) → exit_at (P k) j ≡ f → ⊥) → o f ≡ 0

  pub record Flow (xs ys : List ℕ) : Type 0 where
    pub ins : ℕ → ℕ
    pub outs : ℕ → ℕ
    pub tasks : ℕ → ℕ
    pub kept : (f : ℕ) → outs f + occ xs f ≡ ins f + occ ys f
    pub fair : Fair ins outs tasks

  pub fair_add : (i o d i' o' d' : ℕ → ℕ) → Fair i o d → Fair i' o' d' → Fair (λ f. i f + i' f) (λ f. o f + o' f) (λ n. d n + d' n)
  fair_add i o d i' o' d' p q = record {
    balanced = λ k l phase b t.
        let m : Move = move_in (P k) phase in
        let n : ℕ = task_in (P k) in
        omega (
          arith,
          p.balanced k l phase b t,
          q.balanced k l phase b t,
          putting_add o o' (P k) m b,
          taking_add i i' (P k) m b,
          counts_add up (d n) (d' n) m,
          counts_add down (d n) (d' n) m,
        );
    whole = λ k l g phase b t.
        let m : Move = move_in (P k) phase in
        let n : ℕ = task_in (P k) in
        omega (
          arith,
          p.whole k l g phase b t,
          q.whole k l g phase b t,
          putting_add o o' (P k) m b,
          taking_add i i' (P k) m b,
          counts_add up (d n) (d' n) m,
          counts_add down (d n) (d' n) m,
        );
    taken = λ f e. omega (arith, p.taken f e, q.taken f e);
    own = λ f e. omega (arith, p.own f e, q.own f e);
  }

  -- ONE AFTER THE OTHER, SIDE BY SIDE, AND NONE
  unfoldable pub onward : {xs ys zs : List ℕ} → Flow xs ys → Flow ys zs → Flow xs zs
  onward p q = record {
    ins = λ f. p.ins f + q.ins f;
    outs = λ f. p.outs f + q.outs f;
    tasks = λ n. p.tasks n + q.tasks n;
    kept = λ f. omega (arith, p.kept f, q.kept f);
    fair = fair_add p.ins p.outs p.tasks q.ins q.outs q.tasks p.fair q.fair;
  }

  unfoldable pub beside : {ws xs ys zs : List ℕ} → Flow ws xs → Flow ys zs → Flow (ws ++ ys) (xs ++ zs)
  beside {ws} {xs} {ys} {zs} p q = record {
    ins = λ f. p.ins f + q.ins f;
    outs = λ f. p.outs f + q.outs f;
    tasks = λ n. p.tasks n + q.tasks n;
    kept = λ f. omega (arith, p.kept f, q.kept f, total_append (hit f) ws ys, total_append (hit f) xs zs);
    fair = fair_add p.ins p.outs p.tasks q.ins q.outs q.tasks p.fair q.fair;
  }

  pub fair_none : Fair (λ f. 0) (λ f. 0) (λ n. 0)
  fair_none = record {
    balanced = λ k l phase b t.
        omega (arith, putting_none (λ f. 0) (P k) (move_in (P k) phase) b (λ j r. refl), counts_none up 0 (move_in (P k) phase) refl);
    whole = λ k l g phase b t. omega (arith, taking-none (λ f. 0) (P k) (move_in (P k) phase) b (λ j r. refl), counts_none down 0 (move_in (P k) phase) refl);
    taken = λ f e. refl;
    own = λ f e. refl;
  }

  unfoldable pub still : (xs : List ℕ) → Flow xs xs
  still xs = record { ins = λ f. 0; outs = λ f. 0; tasks = λ n. 0; kept = λ f. refl; fair = fair_none }

  -- AN ELEMENT k THAT IS NO START, from some of its entries to some of its exits
  module _ (sound : Sound P c) (k : ℕ) (there : k < c) (inner : starts (P k) ≡ false) where
    pub record Enters (es : List ℕ) : Type 0 where
      pub within : (f : ℕ) → ((j : ℕ) → j < entry_count (P k) → entry_at (P k) j ≡ f → ⊥) → occ es f ≡ 0
      pub few : (phase b : ℕ) → Tried (P k) (move_in (P k) phase) b → taking (occ es) (P k) (move_in (P k) phase) b ≤ some (move_in (P k) phase).takes
      pub enough : (phase b : ℕ) → Tried (P k) (move_in (P k) phase) b → some (move_in (P k) phase).takes ≤ taking (occ es) (P k) (move_in (P k) phase) b

    pub record Leaves (xs : List ℕ) : Type 0 where
      pub goes : Goes (P k)
      pub enough : (phase b : ℕ) → Tried (P k) (move_in (P k) phase) b → some (move_in (P k) phase).puts ≤ putting (occ xs) (P k) (move_in (P k) phase) b
      pub within : (f : ℕ) → ((j : ℕ) → j < exit_count (P k) → exit_at (P k) j ≡ f → ⊥) → occ xs f ≡ 0
      pub few : (phase b : ℕ) → Tried (P k) (move_in (P k) phase) b → putting (occ xs) (P k) (move_in (P k) phase) b ≤ some (move_in (P k) phase).puts

    unfoldable pub tasked : ℕ → ℕ
    tasked n = if eqb (task_in (P k)) 0 then 0 or_else hit (task_in (P k)) n

    tasked_other : (l : ℕ) → l < c → (l ≡ k → ⊥) → tasked (task_in (P l)) ≡ 0
    unfolding tasked
    tasked_other l r d =
        by_choice (λ (y : ℕ). y ≡ 0) (eqb (task_in (P k)) 0) 0 (hit (task_in (P k)) (task_in (P l))) (λ e. refl)
        (λ e. ap one_if (ne_eqb (task_in (P k)) (task_in (P l)) (λ q. d (sym (sound.tasks_once k l there r (eqb-false (task_in (P k)) 0 e) q)))))

    tasked_most : tasked (task_in (P k)) ≤ 1
    unfolding tasked
    tasked_most =
        by_choice (λ (y : ℕ). y ≤ 1) (eqb (task_in (P k)) 0) 0 (hit (task_in (P k)) (task_in (P k))) (λ e. omega arith)
        (λ e. let h : hit (task_in (P k)) (task_in (P k)) ≡ 1 = ap one_if (eq-eqb (task_in (P k)) (task_in (P k)) refl) in omega arith)

    pub tasked_least : (task_in (P k) ≡ 0 → ⊥) → 1 ≤ tasked (task_in (P k))
    unfolding tasked
    tasked_least n =
        by_choice (λ (y : ℕ). 1 ≤ y) (eqb (task_in (P k)) 0) 0 (hit (task_in (P k)) (task_in (P k))) (λ e. absurd (n (eqb-true (task_in (P k)) 0 e)))
        (λ e. let h : hit (task_in (P k)) (task_in (P k)) ≡ 1 = ap one_if (eq-eqb (task_in (P k)) (task_in (P k)) refl) in omega arith)

    -- what row m does one way, x at edges, is at most what it does the other, y at edges
    level : (less more : ℕ) (m : Move) {x y few enough : ℕ} → x ≤ few → enough ≤ y
        → few + (one_if (eqb m.active less) + one_if (eqb m.ready less)) ≤ enough + (one_if (eqb m.active more) + one_if (eqb m.ready more))
        → ((m.active ≡ more) ⊎ (m.ready ≡ more) → is_task (kind_in (P k)) ≡ true)
        → x + counts less (tasked (task_in (P k))) m ≤ y + counts more (tasked (task_in (P k))) m
    level less more m f g row task =
        let n : (m.active ≡ more) ⊎ (m.ready ≡ more) → 1 ≤ tasked (task_in (P k)) = λ e. tasked_least (sound.tasks_numbered k there (task e)) in
        omega (arith, f, g, row, counts_most less (tasked (task_in (P k))) m tasked_most, counts_least more (tasked (task_in (P k))) m (λ e. n (inl e)) (λ e. n (inr e)))

    module _ (es xs : List ℕ) (p : Enters es) (q : Leaves xs) where
      abbrev pub Right : ℕ → ℕ → ℕ → Type 0
      Right l phase b =
          putting (occ xs) (P l) (move_in (P l) phase) b + counts up (tasked (task_in (P l))) (move_in (P l) phase)
          ≤ taking (occ es) (P l) (move_in (P l) phase) b + counts down (tasked (task_in (P l))) (move_in (P l) phase)

      here : (phase b : ℕ) → Tried (P k) (move_in (P k) phase) b → Right k phase b
      here phase b t =
          level up down (move_in (P k) phase) (q.few phase b t) (p.enough phase b t) (row_balanced (kind_in (P k)) (mode_in (P k)) phase t.old) (row_lowers (kind_in (P k)) (mode_in (P k)) phase)

      abbrev pub Whole : ℕ → ℕ → ℕ → Type 0
      Whole l phase b =
          taking (occ es) (P l) (move_in (P l) phase) b + counts down (tasked (task_in (P l))) (move_in (P l) phase)
          ≤ putting (occ xs) (P l) (move_in (P l) phase) b + counts up (tasked (task_in (P l))) (move_in (P l) phase)

      here_whole : (phase b : ℕ) → Tried (P k) (move_in (P k) phase) b → Whole k phase b
      here_whole phase b t =
          level down up (move_in (P k) phase) (p.few phase b t) (q.enough phase b t) (row_whole (kind_in (P k)) (mode_in (P k)) phase t.old q.goes) (row_raises (kind_in (P k)) (mode_in (P k)) phase)

      pub same_whole : (l : ℕ) → l ≡ k → (phase b : ℕ) → Tried (P l) (move_in (P l) phase) b → Whole l phase b
      same_whole l e phase b = subst (λ y. Tried (P y) (move_in (P y) phase) b → Whole y phase b) (sym e) (here_whole phase b)

      pub other_whole : (l : ℕ) → l < c → (l ≡ k → ⊥) → (phase b : ℕ) → Tried (P l) (move_in (P l) phase) b → Whole l phase b
      other_whole l r d phase b t =
          let m : Move = move_in (P l) phase in
          let z : taking (occ es) (P l) m b ≡ 0 = taking-none (occ es) (P l) m b (λ j s.
          p.within (entry_at (P l) (first_touched m.takes b + j)) (λ i w e. d (sym (sound.one_enters k l i (first_touched m.takes b + j) there r w (touched_within m.takes b (entry_count (P l)) j t.enters s) e)))) in
          omega (arith, z, counts_none down (tasked (task_in (P l))) m (tasked_other l r d))

      pub same : (l : ℕ) → l ≡ k → (phase b : ℕ) → Tried (P l) (move_in (P l) phase) b → Right l phase b
      same l e phase b = subst (λ y. Tried (P y) (move_in (P y) phase) b → Right y phase b) (sym e) (here phase b)

      pub other : (l : ℕ) → l < c → (l ≡ k → ⊥) → (phase b : ℕ) → Tried (P l) (move_in (P l) phase) b → Right l phase b
      other l r d phase b t =
          let m : Move = move_in (P l) phase in
          let z : putting (occ xs) (P l) m b ≡ 0 = putting_none (occ xs) (P l) m b (λ j s.
          q.within (exit_at (P l) (first_touched m.puts b + j)) (λ i w e. d (sym (sound.one_leaves k l i (first_touched m.puts b + j) there r w (touched_within m.puts b (exit_count (P l)) j t.leaves s) e)))) in
          omega (arith, z, counts_none up (tasked (task_in (P l))) m (tasked_other l r d))

      unfoldable pub event : Flow es xs
      event = record {
        ins = occ es;
        outs = occ xs;
        tasks = tasked;
        kept = λ f. omega arith;
        fair = record {
          balanced = λ l r phase b t. by_test (eqb l k) (λ e. same l (eqb-true l k e) phase b t) (λ e. other l r (eqb-false l k e) phase b t);
          whole = λ l r g phase b t. by_test (eqb l k) (λ e. same_whole l (eqb-true l k e) phase b t) (λ e. other_whole l r (eqb-false l k e) phase b t);
          taken = λ f e. p.within f (λ j. e k there inner q.goes j);
          own = λ f e. q.within f (λ j. e k there inner j);
        };
      }
