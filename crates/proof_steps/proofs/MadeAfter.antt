-- How many instances a pool has made after an accepted step, and which one the step names. Assumes nothing.
use Prim.Native.Nat.{ℕ, ◌+◌, ◌≤◌, ◌<◌}
use mathlib.Core.Path.{◌≡◌, sym, ◌∙◌, subst}
use mathlib.Core.Bool.{true, false}
use mathlib.Core.List.{List}
use native.Mathlib.Omega.{arith}
use lib.Dec.{eqb, leb, ltb}
use borrow.Author.Tests.{eqb-true, ltb-true, lt-ltb, lt-leb, le-leb}
use Rattle.base_words.specs.Counts.{instances, count_most}
use Rattle.base_kinds.specs.Kinds.{start_rcv}
use Rattle.base_kinds.specs.Moves.{making}
use Rattle.base_table.specs.Table.{pool_count, element_count, element_at, limit_of, kind_in, mode_in}
use Rattle.base_state.specs.Instances.{made_count}
use Rattle.meaning.specs.declared.Name.{Name}
use Rattle.meaning.specs.Requirements.{instance_named, below_limit}
use Rattle.meaning.specs.Changes.{more}
use Rattle.meaning.specs.Step.{Site, site_of, pool_named, element_named, move_named, made_after}
use Rattle.state_fits.specs.Fits.{has_start, made_fits}
use Rattle.proof_steps.proofs.Choices.{by_test, chosen, passed, chosen_true, passed_true}
use Rattle.proof_steps.proofs.Found.{Found}
use Rattle.proof_steps.proofs.Rows.{row_kind, row_making}

-- A pool with `start` has no startRcv: check 2 of a model gives this.
abbrev pub StartsOnce : List ℕ → Type 0
StartsOnce t = (p : ℕ) → p < pool_count t → has_start t p ≡ true → (e : ℕ) → e < element_count t p → kind_in (element_at t p e) ≡ start_rcv → ⊥

-- a is how many are made before, b how many after, i the instance named
pub record Makes (t : List ℕ) (p i a b : ℕ) : Type 0 where
  pub named : i < b
  pub least : a ≤ b
  pub others : (k : ℕ) → k < b → (k ≡ i → ⊥) → k < a
  pub fits : made_fits t p b ≡ true

pub more_one : (n : ℕ) → n < count_most → more n ≡ n + 1
unfolding more
more_one n l = chosen (ltb n count_most) (n + 1) n (lt-ltb n count_most l)

module _ (t s : List ℕ) (n : Name) (f : Found t s n) where
  abbrev x : Site
  x = site_of t s n

  abbrev p : ℕ
  p = pool_named t n

  -- a step that makes no instance
  module _ (o : eqb (move_named t n).also making ≡ false) where
    pub named_made : n.instance < made_count s p
    unfolding instance_named
    named_made = ltb-true n.instance (made_count s p) (passed_true (eqb (move_named t n).also making) (eqb n.instance (made_count s p)) (ltb n.instance (made_count s p)) f.instance o)

    made_kept : made_after x ≡ made_count s p
    unfolding made_after site_of
    made_kept = passed (eqb (move_named t n).also making) (more (made_count s p)) (made_count s p) o

    pub makes_none : made_fits t p (made_count s p) ≡ true → Makes t p n.instance (made_count s p) (made_after x)
    makes_none h =
        let e : made_after x ≡ made_count s p = made_kept in
        let l : n.instance < made_count s p = named_made in
        record {
          named = omega arith;
          least = omega arith;
          others = λ k r d. omega arith;
          fits = subst (λ k. made_fits t p k ≡ true) (sym e) h;
        }

  -- a step that makes one
  module _ (o : eqb (move_named t n).also making ≡ true) where
    next_made : n.instance ≡ made_count s p
    unfolding instance_named
    next_made = eqb-true n.instance (made_count s p) (chosen_true (eqb (move_named t n).also making) (eqb n.instance (made_count s p)) (ltb n.instance (made_count s p)) f.instance o)

    made_more : made_after x ≡ more (made_count s p)
    unfolding made_after site_of
    made_more = chosen (eqb (move_named t n).also making) (more (made_count s p)) (made_count s p) o

    below_limit_lem : below_limit x.move x.made x.limit ≡ true → made_count s p < limit_of t p
    unfolding below_limit site_of
    below_limit_lem h = ltb-true (made_count s p) (limit_of t p) (chosen_true (eqb (move_named t n).also making) (ltb (made_count s p) (limit_of t p)) true h o)

    makes_start_rcv : kind_in (element_named t n) ≡ start_rcv
    unfolding move_named
    makes_start_rcv =
        sym (row_kind (kind_in (element_named t n)) (mode_in (element_named t n)) n.phase f.move)
        ∙ row_making (kind_in (element_named t n)) (mode_in (element_named t n)) n.phase (eqb-true (move_named t n).also making o)

    no_start : StartsOnce t → has_start t p ≡ false
    unfolding element_named
    no_start once = by_test (has_start t p) (λ e. absurd (once p f.pool e n.element f.element makes_start_rcv)) (λ e. e)

    more_fits : (k : ℕ) → k ≤ limit_of t p → has_start t p ≡ false → made_fits t p k ≡ true
    unfolding made_fits
    more_fits k l e =
        passed (leb (pool_count t) p) (eqb k 0) _ (lt-leb (pool_count t) p f.pool)
        ∙ passed (has_start t p) (eqb k 1) (leb k (limit_of t p)) e
        ∙ le-leb k (limit_of t p) l

    pub makes_one_lem : StartsOnce t → limit_of t p ≤ instances → below_limit x.move x.made x.limit ≡ true → Makes t p n.instance (made_count s p) (made_after x)
    makes_one_lem once few h =
        let l : made_count s p < limit_of t p = below_limit_lem h in
        let e : made_after x ≡ made_count s p + 1 = made_more ∙ more_one (made_count s p) (omega arith) in
        let i : n.instance ≡ made_count s p = next_made in
        record {
          named = omega arith;
          least = omega arith;
          others = λ k r d. let z : k ≡ made_count s p → ⊥ = λ y. d (y ∙ sym i) in omega arith;
          fits = more_fits (made_after x) (omega arith) (no_start once);
        }
