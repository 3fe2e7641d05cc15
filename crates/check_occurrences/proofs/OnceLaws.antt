-- A template binds no field twice exactly when no item binds a field that an item before it binds. Assumes nothing.
use mathlib.Core.Path.{◌≡◌, ◌∙◌, refl, sym, ap, subst}
use mathlib.Core.Bool.{Bool, true, false}
use mathlib.Core.List.{List}
use mathlib.Core.Logic.{⊎_elim}
use Prim.Native.Nat.{ℕ, zero, suc, ◌+◌, ◌≤◌, ◌<◌}
use native.Mathlib.Nat.{le_of_suc-le-suc, eq-or-lt_of_le}
use native.Mathlib.Omega.{arith}
use lib.Dec.{eqb, leb, ltb}
use borrow.Author.Tests.{lt-ltb, le-leb, leb-true, ltb-true, eqb-true, eq-eqb}
use Rattle.base_words.specs.All.{all}
use Rattle.base_words.specs.Sum.{sum}
use Rattle.base_words.specs.Words.{at}
use Rattle.base_words.specs.Counts.{fields_named}
use Rattle.base_words.specs.Pick.{if◌then◌or_else◌}
use Rattle.base_words.proofs.AllLaws.{all_of, all_at}
use Rattle.base_table.specs.Places.{form_place, left_place, operand_number, binding}
use Rattle.base_table.specs.Table.{item_at, message_length}
use Rattle.check_occurrences.specs.Occurrences.{binds_field, binds_anew, times_bound, template_once}

both : (a b : Bool) → (a ≡ true → b ≡ true) → (b ≡ true → a ≡ true) → a ≡ b
both true b h k = sym (h refl)
both false true h k = k refl
both false false h k = refl

grows : (f : ℕ → ℕ) (n m : ℕ) → m ≤ n → sum f m ≤ sum f n
unfolding sum
grows f zero m h = let e : m ≡ zero = omega arith in subst (λ (k : ℕ). sum f m ≤ sum f k) e (omega arith)
grows f (suc n) m h = ⊎_elim (λ q. subst (λ (k : ℕ). sum f m ≤ sum f k) q (omega arith)) (λ l. omega (arith, grows f n m (le_of_suc-le-suc l))) (eq-or-lt_of_le h)

-- the field that an item names; whether it binds one that S counts as not bound
abbrev field : List ℕ → ℕ
field y = at y (left_place + operand_number)

abbrev anew : List ℕ → (ℕ → ℕ) → Bool
anew y S = if eqb (at y form_place) binding then (if ltb (field y) fields_named then eqb (S (field y)) 0 or_else true) or_else true

module _ (y : List ℕ) (S : ℕ → ℕ) where
  in_bind : eqb (at y form_place) binding ≡ true → ltb (field y) fields_named ≡ true → anew y S ≡ true → S (field y) ≡ 0
  unfolding if◌then◌or_else◌
  in_bind e l h = eqb-true (S (field y)) 0 (rw (e, l) at h)

  up : (d : ℕ) → d < fields_named → S d ≤ 1 → anew y S ≡ true → (b c : Bool) → eqb (at y form_place) binding ≡ b → eqb (field y) d ≡ c → S d + binds_field d y ≤ 1
  unfolding binds_field
  up d l s h false c e q = rw e (omega arith)
  up d l s h true false e q = rw (e, q) (omega arith)
  up d l s h true true e q =
      let same : field y ≡ d = eqb-true (field y) d q in
      let none : S (field y) ≡ 0 = in_bind e (lt-ltb (field y) fields_named (omega arith)) h in
      let none-d : S d ≡ 0 = sym (ap S same) ∙ none in
      rw (e, q) (omega arith)

  down : ((d : ℕ) → d < fields_named → S d + binds_field d y ≤ 1) → (b c : Bool) → eqb (at y form_place) binding ≡ b → ltb (field y) fields_named ≡ c → anew y S ≡ true
  unfolding binds_field if◌then◌or_else◌
  down h false c e q = rw e
  down h true false e q = rw (e, q)
  down h true true e q =
      let few : S (field y) + 1 ≤ 1 = rw (e, eq-eqb (field y) (field y) refl) at (h (field y) (ltb-true (field y) fields_named q)) in
      rw (e, q) (eq-eqb (S (field y)) 0 (omega arith))

module _ (x : ℕ → List ℕ) where
  abbrev bound : ℕ → ℕ → ℕ
  bound i d = sum (λ k. binds_field d (x k)) i

  each_once : (n d : ℕ) → d < fields_named → ((i : ℕ) → i < n → anew (x i) (bound i) ≡ true) → bound n d ≤ 1
  unfolding sum
  each_once zero d l h = omega arith
  each_once (suc n) d l h = up (x n) (bound n) d l (each_once n d l (λ i k. h i (omega arith))) (h n (omega arith)) _ _ refl refl

  more_once : (n d i : ℕ) → i < n → bound n d ≤ 1 → bound i d + binds_field d (x i) ≤ 1
  unfolding sum
  more_once n d i l h = omega (arith, grows (λ k. binds_field d (x k)) n (suc i) l)

  pub once_by : (n : ℕ) → all (λ i. anew (x i) (bound i)) n ≡ all (λ d. leb (bound n d) 1) fields_named
  once_by n =
      both (all (λ i. anew (x i) (bound i)) n) (all (λ d. leb (bound n d) 1) fields_named)
      (λ h. all_of (λ d. leb (bound n d) 1) fields_named (λ d l. le-leb (bound n d) 1 (each_once n d l (all_at (λ i. anew (x i) (bound i)) n h))))
      (λ h. all_of (λ i. anew (x i) (bound i)) n
      (λ i l. down (x i) (bound i) (λ d k. more_once n d i l (leb-true (bound n d) 1 (all_at (λ d. leb (bound n d) 1) fields_named h d k))) _ _ refl refl))

pub template_by : (el : List ℕ) (j n : ℕ) → n ≡ message_length el j → all (binds_anew el j) n ≡ template_once el j
unfolding binds_anew template_once times_bound
template_by el j n e = once_by (item_at el j) n ∙ rw e
