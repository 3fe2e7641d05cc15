-- Changes to an instance that keep it fit: a count at most 255 at a place it may use, a field defined, all counts cleared. u is the places it may
-- use, h its words and behind them what all share. Assumes nothing.
use Prim.Native.Nat.{ℕ, ◌+◌, ◌-◌, ◌*◌, ◌≤◌, ◌<◌}
use mathlib.Core.Path.{◌≡◌, sym, ◌∙◌, ap, subst}
use mathlib.Core.Bool.{Bool, true}
use mathlib.Core.List.{List}
use native.Mathlib.Omega.{arith}
use lib.Dec.{eqb, leb}
use lib.ListN.{length, set, drop, length-set}
use lib.Seq.{get_or-drop, get_or-set_same, get_or-set_other}
use borrow.Author.Tests.{eqb-true, leb-true, eq-eqb, le-leb}
use Rattle.base_words.specs.All.{all}
use Rattle.base_words.specs.Pick.{if◌then◌or_else◌}
use Rattle.base_words.specs.Words.{at}
use Rattle.base_words.specs.Counts.{fields, count_most, fields_named}
use Rattle.base_words.proofs.AllLaws.{and_left, and_right, all_at, all_of}
use Rattle.base_words.proofs.PickLaws.{and_true}
use Rattle.base_words.proofs.WritesLaws.{length-writes, writes_in, writes_above}
use Rattle.base_state.specs.Places.{defined_place, value_place, instance_words, copy_words}
use Rattle.base_state.specs.Instances.{with_field}
use Rattle.meaning.specs.Changes.{cleared}
use Rattle.state_fits.specs.Fits.{place_fits, field_fits, fields_fit, instance_fits}
use Rattle.step_queues.proofs.SlotLaws.{by_order, by_below}
use Rattle.proof_steps.proofs.Choices.{by_test, chosen, passed, passed_true}

-- ONE WORD
module _ (u h : List ℕ) (k : ℕ) where
  count_zero : at h k ≡ 0 → place_fits u h k ≡ true
  unfolding place_fits
  count_zero e = chosen (eqb (at h k) 0) true _ (eq-eqb (at h k) 0 e)

  count_in_lem : at u k ≡ 1 → at h k ≤ count_most → place_fits u h k ≡ true
  unfolding place_fits
  count_in_lem e l =
      by_test (eqb (at h k) 0) (λ z. chosen (eqb (at h k) 0) true _ z)
      (λ z. passed (eqb (at h k) 0) true _ z ∙ and_true (eqb (at u k) 1) (leb (at h k) count_most) (eq-eqb (at u k) 1 e) (le-leb (at h k) count_most l))

  pub count_most_lem : place_fits u h k ≡ true → at h k ≤ count_most
  unfolding place_fits
  count_most_lem f =
      by_test (eqb (at h k) 0) (λ z. let e = eqb-true (at h k) 0 z in omega arith)
      (λ z. leb-true (at h k) count_most (and_right (eqb (at u k) 1) (leb (at h k) count_most) (passed_true (eqb (at h k) 0) true _ f z)))

  count_same : (g : List ℕ) → at g k ≡ at h k → place_fits u h k ≡ true → place_fits u g k ≡ true
  unfolding place_fits
  count_same g e f = rw e f

-- A FIELD, or a store: two lists that have it alike, at one place or another
pub field_alike : (f g : List ℕ) (c d : ℕ) → at g (2 * d) ≡ at f (2 * c) → at g (2 * d + 1) ≡ at f (2 * c + 1) → field_fits f c ≡ true → field_fits g d ≡ true
unfolding field_fits
field_alike f g c d e v r = rw (e, v) r

-- field d of those that a step sees: from 16 on they are stores
abbrev pub seen_fits : List ℕ → ℕ → Bool
seen_fits h d = field_fits (drop (defined_place 0) h) d

module _ (h : List ℕ) (d : ℕ) where
  pub flag_is : at (drop (defined_place 0) h) (2 * d) ≡ at h (defined_place d)
  flag_is = let e : defined_place 0 + 2 * d ≡ defined_place d = omega arith in get_or-drop (defined_place 0) h (2 * d) 0 ∙ ap (at h) e

  pub value_is : at (drop (defined_place 0) h) (2 * d + 1) ≡ at h (value_place d)
  value_is = let e : defined_place 0 + (2 * d + 1) ≡ value_place d = omega arith in get_or-drop (defined_place 0) h (2 * d + 1) 0 ∙ ap (at h) e

  field_defined : at h (defined_place d) ≡ 1 → seen_fits h d ≡ true
  unfolding field_fits if◌then◌or_else◌
  field_defined e = rw (flag_is ∙ e)

  field_blank : at h (defined_place d) ≡ 0 → at h (value_place d) ≡ 0 → seen_fits h d ≡ true
  unfolding field_fits if◌then◌or_else◌
  field_blank e v = rw (flag_is ∙ e, value_is ∙ v)

field_same : (h : List ℕ) (d : ℕ) (g : List ℕ) → at g (defined_place d) ≡ at h (defined_place d) → at g (value_place d) ≡ at h (value_place d) → seen_fits h d ≡ true → seen_fits g d ≡ true
field_same h d g e v = field_alike (drop (defined_place 0) h) (drop (defined_place 0) g) d d (flag_is g d ∙ e ∙ sym (flag_is h d)) (value_is g d ∙ v ∙ sym (value_is h d))

-- AN INSTANCE, and the stores behind it
pub record Fit (u h : List ℕ) : Type 0 where
  pub long : length h ≡ copy_words
  pub counts : (k : ℕ) → k < defined_place 0 → place_fits u h k ≡ true
  pub filled : (d : ℕ) → d < fields_named → seen_fits h d ≡ true

own_or_store : (h : List ℕ) → ((d : ℕ) → d < fields → seen_fits h d ≡ true) → ((d : ℕ) → d < fields → seen_fits h (fields + d) ≡ true) → (d : ℕ) → d < fields_named → seen_fits h d ≡ true
own_or_store h own stored d r =
    by_below d fields (own d) (λ l. let e : fields + (d - fields) ≡ d = omega arith in subst (λ y. seen_fits h y ≡ true) e (stored (d - fields) (omega arith)))

-- the same words in another list
pub instance_same : (u h g : List ℕ) → ((k : ℕ) → k < instance_words → at g k ≡ at h k) → instance_fits u h ≡ true → instance_fits u g ≡ true
unfolding instance_fits fields_fit
instance_same u h g same f =
    and_true (all (place_fits u g) (defined_place 0)) (all (seen_fits g) fields)
    (all_of (place_fits u g) (defined_place 0)
    (λ k r. count_same u h k g (same k (omega arith)) (all_at (place_fits u h) (defined_place 0) (and_left (all (place_fits u h) (defined_place 0)) (all (seen_fits h) fields) f) k r)))
    (all_of (seen_fits g) fields
    (λ d r.
    field_same h d g (same (defined_place d) (omega arith)) (same (value_place d) (omega arith))
    (all_at (seen_fits h) fields (and_right (all (place_fits u h) (defined_place 0)) (all (seen_fits h) fields) f) d r)))

module _ (u h : List ℕ) where
  -- from the definition, whatever list its words are read from, and back
  pub fit_read : (g : List ℕ) → length g ≡ copy_words → ((k : ℕ) → k < instance_words → at g k ≡ at h k)
      → ((d : ℕ) → d < fields → seen_fits g (fields + d) ≡ true) → instance_fits u h ≡ true → Fit u g
  unfolding instance_fits fields_fit
  fit_read g l same stored f = record {
    long = l;
    counts = λ k r. count_same u h k g (same k (omega arith)) (all_at (place_fits u h) (defined_place 0) (and_left (all (place_fits u h) (defined_place 0)) (all (seen_fits h) fields) f) k r);
    filled =
        own_or_store g
        (λ d r.
        field_same h d g (same (defined_place d) (omega arith)) (same (value_place d) (omega arith))
        (all_at (seen_fits h) fields (and_right (all (place_fits u h) (defined_place 0)) (all (seen_fits h) fields) f) d r))
        stored;
  }

  pub fit_back : (g : List ℕ) → ((k : ℕ) → k < instance_words → at g k ≡ at h k) → Fit u h → instance_fits u g ≡ true
  unfolding instance_fits fields_fit
  fit_back g same f =
      instance_same u h g same
      (and_true (all (place_fits u h) (defined_place 0)) (all (seen_fits h) fields) (all_of (place_fits u h) (defined_place 0) f.counts) (all_of (seen_fits h) fields (λ d l. f.filled d (omega arith))))

  -- a count
  pub fit_set : (k v : ℕ) → k < defined_place 0 → at u k ≡ 1 → v ≤ count_most → Fit u h → Fit u (set h k v)
  fit_set k v l e r f = record {
    long = length-set h k v ∙ f.long;
    counts = λ j s.
        by_order j k (λ o. count_same u h j (set h k v) (get_or-set_other h k j v 0 (λ z. omega arith)) (f.counts j s))
        (λ o. let i : k < length h = omega (arith, f.long) in
        subst (λ y. place_fits u (set h k v) y ≡ true) o
        (count_in_lem u (set h k v) k e (let w : at (set h k v) k ≡ v = get_or-set_same h k v 0 i in omega (arith, w))))
        (λ o. count_same u h j (set h k v) (get_or-set_other h k j v 0 (λ z. omega arith)) (f.counts j s));
    filled = λ d s.
        field_same h d (set h k v) (get_or-set_other h k (defined_place d) v 0 (λ z. omega arith)) (get_or-set_other h k (value_place d) v 0 (λ z. omega arith)) (f.filled d s);
  }

  -- a field
  pub fit_field : (d v : ℕ) → d < fields_named → Fit u h → Fit u (with_field h d v)
  fit_field d v l f =
      let away : (k : ℕ) → (k ≡ defined_place d → ⊥) → (k ≡ value_place d → ⊥) → at (with_field h d v) k ≡ at h k =
      λ k a b. get_or-set_other (set h (defined_place d) 1) (value_place d) k v 0 b ∙ get_or-set_other h (defined_place d) k 1 0 a in
      record {
        long = length-set (set h (defined_place d) 1) (value_place d) v ∙ length-set h (defined_place d) 1 ∙ f.long;
        counts = λ k s. count_same u h k (with_field h d v) (away k (λ z. omega arith) (λ z. omega arith)) (f.counts k s);
        filled = λ c s.
            by_order c d (λ o. field_same h c (with_field h d v) (away (defined_place c) (λ z. omega arith) (λ z. omega arith)) (away (value_place c) (λ z. omega arith) (λ z. omega arith)) (f.filled c s))
            (λ o. subst (λ y. seen_fits (with_field h d v) y ≡ true) o
            (field_defined (with_field h d v) d
            (get_or-set_other (set h (defined_place d) 1) (value_place d) (defined_place d) v 0 (λ z. omega arith) ∙ get_or-set_same h (defined_place d) 1 0 (omega (arith, f.long)))))
            (λ o. field_same h c (with_field h d v) (away (defined_place c) (λ z. omega arith) (λ z. omega arith)) (away (value_place c) (λ z. omega arith) (λ z. omega arith)) (f.filled c s));
      }

  -- all counts
  pub fit_cleared : Fit u h → Fit u (cleared h)
  unfolding cleared
  fit_cleared f = record {
    long = length-writes (λ k. 0) h 0 (defined_place 0) ∙ f.long;
    counts = λ k s. count_zero u (cleared h) k (let e : 0 + k ≡ k = omega arith in ap (at (cleared h)) (sym e) ∙ writes_in (λ k. 0) h 0 (defined_place 0) k s (omega (arith, f.long)));
    filled = λ d s.
        field_same h d (cleared h) (writes_above (λ k. 0) h 0 (defined_place 0) (defined_place d) (omega arith)) (writes_above (λ k. 0) h 0 (defined_place 0) (value_place d) (omega arith)) (f.filled d s);
  }

-- nothing but zeros, up to the stores
pub fit_blank : (u h : List ℕ) → length h ≡ copy_words → ((k : ℕ) → k < instance_words → at h k ≡ 0) → ((d : ℕ) → d < fields → seen_fits h (fields + d) ≡ true) → Fit u h
fit_blank u h l none stored = record {
  long = l;
  counts = λ k s. count_zero u h k (none k (omega arith));
  filled = own_or_store h (λ d s. field_blank h d (none (defined_place d) (omega arith)) (none (value_place d) (omega arith))) stored;
}
