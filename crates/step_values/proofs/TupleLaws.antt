-- What callers need of `sameTuple`: it is an equivalence, and equal tuples have equal lengths and values. Assumes nothing.
use mathlib.Core.Path.{◌≡◌, ◌∙◌, refl, sym}
use mathlib.Core.Bool.{Bool, true, false}
use mathlib.Core.List.{List}
use Prim.Native.Nat.{ℕ, ◌<◌}
use native.Mathlib.Omega.{arith}
use lib.Dec.{ltb, eqb}
use borrow.Author.Tests.{eq-eqb, ne_eqb, eqb-true, ltb-true}
use Rattle.base_words.specs.Pick.{if◌then◌or_else◌}
use Rattle.base_words.specs.All.{all}
use Rattle.base_words.specs.Words.{at}
use Rattle.base_words.proofs.AllLaws.{all_at, all_of, and_left, and_right}
use Rattle.base_words.proofs.PickLaws.{and_true}
use Rattle.meaning.specs.Tuples.{value_of, same_tuple}
use Rattle.meaning.specs.declared.Tuple.{Tuple}

-- two Bools of which each is true where the other is
both : (a b : Bool) → (a ≡ true → b ≡ true) → (b ≡ true → a ≡ true) → a ≡ b
both true b f g = sym (f refl)
both false true f g = g refl
both false false f g = refl

module _ (g h : Tuple) where
  -- equal, from the length and the words within it
  same_by : g.length ≡ h.length → ((j : ℕ) → j < g.length → at g.values j ≡ at h.values j) → same_tuple g h ≡ true
  unfolding same_tuple
  same_by l w = and_true _ _ (eq-eqb _ _ l) (all_of (λ j. eqb (at g.values j) (at h.values j)) g.length (λ j k. eq-eqb _ _ (w j k)))

  pub same_length : same_tuple g h ≡ true → g.length ≡ h.length
  unfolding same_tuple
  same_length e = eqb-true _ _ (and_left _ (all (λ j. eqb (at g.values j) (at h.values j)) g.length) e)

  same_word : same_tuple g h ≡ true → (j : ℕ) → j < g.length → at g.values j ≡ at h.values j
  unfolding same_tuple
  same_word e j k =
      eqb-true _ _ (all_at (λ j. eqb (at g.values j) (at h.values j)) g.length (and_right (eqb g.length h.length) _ e) j k)

  -- the values, within the length and behind it
  pub same_value : same_tuple g h ≡ true → (j : ℕ) → value_of g j ≡ value_of h j
  unfolding value_of if◌then◌or_else◌
  same_value e j = go (ltb j g.length) refl
    where
      go : (b : Bool) → ltb j g.length ≡ b → value_of g j ≡ value_of h j
      go true t = rw (← same_length e, t) (same_word e j (ltb-true j g.length t))
      go false t = rw (← same_length e, t)

pub same_refl : (g : Tuple) → same_tuple g g ≡ true
same_refl g = same_by g g refl (λ j k. refl)

same_back : (g h : Tuple) → same_tuple g h ≡ true → same_tuple h g ≡ true
same_back g h e =
    let l : g.length ≡ h.length = same_length g h e in
    same_by h g (sym l) (λ j k. sym (same_word g h e j (omega arith)))

pub same_sym : (g h : Tuple) → same_tuple g h ≡ same_tuple h g
same_sym g h = both (same_tuple g h) (same_tuple h g) (same_back g h) (same_back h g)

pub same_trans : (g h k : Tuple) → same_tuple g h ≡ true → same_tuple h k ≡ true → same_tuple g k ≡ true
same_trans g h k e f =
    let l : g.length ≡ h.length = same_length g h e in
    same_by g k (l ∙ same_length h k f) (λ j m. same_word g h e j m ∙ same_word h k f j (omega arith))

-- a turn of the code's loop: both words are read at place j
module _ (s t : List ℕ) (j v w x y : ℕ) (p : v ≡ j) (q : w ≡ j) (l : x ≡ at s v) (r : y ≡ at t w) where
  pub words_equal : x ≡ y → eqb (at s j) (at t j) ≡ true
  words_equal e = eq-eqb (at s j) (at t j) (cc)

  pub words_differ : (x ≡ y → ⊥) → eqb (at s j) (at t j) ≡ false
  words_differ e = ne_eqb (at s j) (at t j) (λ z. e (cc))
