-- ONE STORE in the words of an instance is one update of the paper's state, and nothing else. Assumes nothing.
use Prim.Native.Nat.{ℕ, ◌+◌, ◌<◌, ◌≤◌}
use mathlib.Core.Path.{◌≡◌, sym, ◌∙◌, ap, subst}
use mathlib.Core.Bool.{Bool, true}
use mathlib.Core.List.{List}
use native.Mathlib.Omega.{arith}
use lib.Dec.{eqb, leb, ltb}
use lib.ListN.{length, set, length-set}
use lib.Seq.{get_or-set_same, get_or-set_other}
use borrow.Author.Tests.{eqb-true, eqb-false, ltb-true, lt-ltb, le-leb, leb-true}
use Rattle.std.specs.Prelude.{None, Some}
use Rattle.base_words.specs.Words.{at}
use Rattle.base_words.specs.Counts.{edges, tasks, fields, fields_named}
use Rattle.base_words.proofs.AllLaws.{and_left, and_right}
use Rattle.base_words.proofs.PickLaws.{and_true}
use Rattle.base_words.proofs.WritesLaws.{writes_in, writes_above}
use Rattle.check_limits.specs.Limits.{within}
use Rattle.base_state.specs.Places.{token_place, active_place, ready_place, defined_place, value_place, copy_words}
use Rattle.base_state.specs.Instances.{with_tokens, with_active, with_ready, with_field}
use Rattle.meaning.specs.Values.{Value}
use Rattle.meaning.specs.Expressions.{field_of}
use Rattle.meaning.specs.Changes.{cleared}
use Rattle.proof_steps.proofs.Choices.{by_test, chosen, passed}
use Rattle.paper.specs.States.{unmarked, put, ◌edges:◌, ◌fields:◌, ◌active:◌, ◌ready:◌}
use Rattle.proof_paper.specs.Decoders.{inside_or, local_of}

-- a choice of equal things, and one that is made
pub same_if : {A : Type 0} (b : Bool) (none x y : A) → (b ≡ true → x ≡ y) → inside_or none b x ≡ inside_or none b y
same_if b none x y f = by_test b (λ e. chosen b x none e ∙ f e ∙ sym (chosen b y none e)) (λ e. passed b x none e ∙ sym (passed b y none e))

pub inside : (low high n : ℕ) → within low high n ≡ true → (low ≤ n) × (n ≤ high)
inside low high n w = (leb-true low n (and_left (leb low n) (leb n high) w), leb-true n high (and_right (leb low n) (leb n high) w))

pub is_inside : (low high n : ℕ) → low ≤ n → n ≤ high → within low high n ≡ true
is_inside low high n l r = and_true (leb low n) (leb n high) (le-leb low n l) (le-leb n high r)

-- an update, seen at every place
pub put_is : {A : Type 0} (σ τ : ℕ → A) (k : ℕ) (v : A) → τ k ≡ v → ((j : ℕ) → (j ≡ k → ⊥) → τ j ≡ σ j) → τ ≡ put σ k v
unfolding put
put_is σ τ k v e f = λ i j.
    by_test (eqb j k) (λ y. subst (λ n. τ n ≡ v) (sym (eqb-true j k y)) e ∙ sym (chosen (eqb j k) v (σ j) y)) (λ y. f j (eqb-false j k y) ∙ sym (passed (eqb j k) v (σ j) y)) i

-- NUMBERS 1 to top, number j at its place
module _ (place : ℕ → ℕ) (top : ℕ) (h : List ℕ) where
  abbrev seen : List ℕ → ℕ → ℕ
  seen g j = inside_or 0 (within 1 top j) (at g (place j))

  seen_same : (k v : ℕ) → ((j : ℕ) → 1 ≤ j → j ≤ top → place j ≡ k → ⊥) → seen (set h k v) ≡ seen h
  seen_same k v ne = λ i j. same_if (within 1 top j) 0 (at (set h k v) (place j)) (at h (place j)) (λ w. let b = inside 1 top j w in get_or-set_other h k (place j) v 0 (ne j b.0 b.1)) i

  seen_put : (n v : ℕ) → 1 ≤ n → n ≤ top → place n < length h → ((j : ℕ) → 1 ≤ j → j ≤ top → place j ≡ place n → j ≡ n) → seen (set h (place n) v) ≡ put (seen h) n v
  seen_put n v l r f one =
      put_is (seen h) (seen (set h (place n) v)) n v
      (chosen (within 1 top n) _ 0 (is_inside 1 top n l r) ∙ get_or-set_same h (place n) v 0 f)
      (λ j ne. same_if (within 1 top j) 0 _ _ (λ w. let b = inside 1 top j w in get_or-set_other h (place n) (place j) v 0 (λ e. ne (one j b.0 b.1 e))))

-- FIELDS
module _ (h : List ℕ) where
  abbrev known : List ℕ → ℕ → Value
  known g d = inside_or None (ltb d fields_named) (field_of g d)

  known_same : (g : List ℕ) → ((k : ℕ) → defined_place 0 ≤ k → at g k ≡ at h k) → known g ≡ known h
  unfolding field_of
  known_same g e = λ i d. same_if (ltb d fields_named) None (field_of g d) (field_of h d) (λ w.
      let a : at g (defined_place d) ≡ at h (defined_place d) = e (defined_place d) (omega arith) in
      let b : at g (value_place d) ≡ at h (value_place d) = e (value_place d) (omega arith) in
      rw (a, b)) i

module _ (h : List ℕ) (long : length h ≡ copy_words) where
  -- A COUNT
  pub tokens_put : (e v : ℕ) → 1 ≤ e → e ≤ edges → local_of (with_tokens h e v) ≡ (local_of h edges: put (local_of h).σe e v)
  tokens_put e v l r = λ i. record {
    σe = seen_put token_place edges h e v l r (omega arith) (λ j a b q. omega arith) i;
    σd = known_same h (with_tokens h e v) (λ k w. get_or-set_other h (token_place e) k v 0 (λ q. omega arith)) i;
    active = seen_same active_place tasks h (token_place e) v (λ j a b q. omega arith) i;
    ready = seen_same ready_place tasks h (token_place e) v (λ j a b q. omega arith) i;
  }

  pub active_put : (n v : ℕ) → 1 ≤ n → n ≤ tasks → local_of (with_active h n v) ≡ (local_of h active: put (local_of h).active n v)
  active_put n v l r = λ i. record {
    σe = seen_same token_place edges h (active_place n) v (λ j a b q. omega arith) i;
    σd = known_same h (with_active h n v) (λ k w. get_or-set_other h (active_place n) k v 0 (λ q. omega arith)) i;
    active = seen_put active_place tasks h n v l r (omega arith) (λ j a b q. omega arith) i;
    ready = seen_same ready_place tasks h (active_place n) v (λ j a b q. omega arith) i;
  }

  pub ready_put : (n v : ℕ) → 1 ≤ n → n ≤ tasks → local_of (with_ready h n v) ≡ (local_of h ready: put (local_of h).ready n v)
  ready_put n v l r = λ i. record {
    σe = seen_same token_place edges h (ready_place n) v (λ j a b q. omega arith) i;
    σd = known_same h (with_ready h n v) (λ k w. get_or-set_other h (ready_place n) k v 0 (λ q. omega arith)) i;
    active = seen_same active_place tasks h (ready_place n) v (λ j a b q. omega arith) i;
    ready = seen_put ready_place tasks h n v l r (omega arith) (λ j a b q. omega arith) i;
  }

  -- A FIELD
  module _ (d v : ℕ) (few : d < fields_named) where
    abbrev marked : List ℕ
    marked = set h (defined_place d) 1

    field_there : field_of (with_field h d v) d ≡ Some v
    unfolding field_of
    field_there =
        let a : at (with_field h d v) (defined_place d) ≡ 1 = get_or-set_other marked (value_place d) (defined_place d) v 0 (λ q. omega arith) ∙ get_or-set_same h (defined_place d) 1 0 (omega arith) in
        let b : at (with_field h d v) (value_place d) ≡ v = get_or-set_same marked (value_place d) v 0 (omega (arith, length-set h (defined_place d) 1)) in
        passed (eqb (at (with_field h d v) (defined_place d)) 0) None _ (ap (λ y. eqb y 0) a) ∙ ap Some b

    field_other : (j : ℕ) → j < fields_named → (j ≡ d → ⊥) → field_of (with_field h d v) j ≡ field_of h j
    unfolding field_of
    field_other j l ne =
        let a : at (with_field h d v) (defined_place j) ≡ at h (defined_place j) = get_or-set_other marked (value_place d) (defined_place j) v 0 (λ q. omega arith) ∙ get_or-set_other h (defined_place d) (defined_place j) 1 0 (λ q. ne (omega arith)) in
        let b : at (with_field h d v) (value_place j) ≡ at h (value_place j) = get_or-set_other marked (value_place d) (value_place j) v 0 (λ q. ne (omega arith)) ∙ get_or-set_other h (defined_place d) (value_place j) 1 0 (λ q. omega arith) in
        rw (a, b)

    pub field_put : local_of (with_field h d v) ≡ (local_of h fields: put (local_of h).σd d (Some v))
    field_put = λ i. record {
      σe = (seen_same token_place edges marked (value_place d) v (λ j a b q. omega arith) ∙ seen_same token_place edges h (defined_place d) 1 (λ j a b q. omega arith)) i;
      σd =
          put_is (local_of h).σd (local_of (with_field h d v)).σd d (Some v)
          (chosen (ltb d fields_named) _ None (lt-ltb d fields_named few) ∙ field_there)
          (λ j ne. same_if (ltb j fields_named) None _ _ (λ w. field_other j (ltb-true j fields_named w) ne)) i;
      active = (seen_same active_place tasks marked (value_place d) v (λ j a b q. omega arith) ∙ seen_same active_place tasks h (defined_place d) 1 (λ j a b q. omega arith)) i;
      ready = (seen_same ready_place tasks marked (value_place d) v (λ j a b q. omega arith) ∙ seen_same ready_place tasks h (defined_place d) 1 (λ j a b q. omega arith)) i;
    }

  -- ALL COUNTS CLEARED
  zeroed : (place : ℕ → ℕ) (top : ℕ) → ((j : ℕ) → 1 ≤ j → j ≤ top → place j < defined_place 0) → (j : ℕ) → inside_or 0 (within 1 top j) (at (cleared h) (place j)) ≡ 0
  unfolding cleared
  zeroed place top low j =
      by_test (within 1 top j)
      (λ w. let b = inside 1 top j w in let z : place j ≡ 0 + place j = omega arith in chosen (within 1 top j) _ 0 w ∙ ap (at (cleared h)) z ∙ writes_in (λ k. 0) h 0 (defined_place 0) (place j) (low j b.0 b.1) (omega arith))
      (λ w. passed (within 1 top j) _ 0 w)

  pub cleared_is : local_of (cleared h) ≡ (local_of h edges: unmarked active: unmarked ready: unmarked)
  unfolding cleared
  cleared_is = λ i. record {
    σe = λ e. zeroed token_place edges (λ j a b. omega arith) e i;
    σd = known_same h (cleared h) (λ k w. writes_above (λ k. 0) h 0 (defined_place 0) k w) i;
    active = λ n. zeroed active_place tasks (λ j a b. omega arith) n i;
    ready = λ n. zeroed ready_place tasks (λ j a b. omega arith) n i;
  }
