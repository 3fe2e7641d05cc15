-- Records compared, counted and brought up to date, as the code does it. Assumes nothing.
use Prim.Native.Nat.{ℕ, suc, ◌+◌, ◌-◌, ◌≤◌, ◌<◌}
use mathlib.Core.Path.{◌≡◌, refl, sym, ◌∙◌, ap, ap₂, subst}
use mathlib.Core.Bool.{Bool, true, false, not, ◌&&◌, false≢true}
use mathlib.Core.List.{List, [], ◌∷◌, ◌++◌, append-nil, append_assoc}
use native.Mathlib.Nat.{le_antisymm}
use native.Mathlib.Numerals.{add-one}
use native.Mathlib.Omega.{arith}
use lib.Dec.{eqb}
use lib.Pointwise.{pointwise, bytes_decides}
use lib.ListN.{length, get_or, set, take, drop, drop_of_length-le}
use lib.Seq.{take-suc, take_all, drop-cons, set_at, set_out}
use borrow.Author.Tests.{eq-eqb, ne_eqb, eqb-true}
use Rattle.base_words.specs.All.{all}
use Rattle.base_words.specs.Each.{tab}
use Rattle.base_words.specs.Pick.{if◌then◌or_else◌}
use Rattle.base_words.specs.Words.{at}
use Rattle.base_words.proofs.AllLaws.{all_more, all_fails}
use Rattle.base_words.proofs.ListLaws.{length-tab}
use Rattle.base_words.proofs.PickLaws.{and_true, and_false_right, flag_yes, flag_no}
use Rattle.base_table.specs.Table.{pool_count}
use Rattle.base_state.specs.Instances.{made_count, instance_at}
use Rattle.state_figures.specs.Figures.{is_finished, record_of, counted, record_at, same_record, agree, record_after, updated}

-- a record of three words
three : (r : List ℕ) → length r ≡ 3 → r ≡ at r 0 ∷ at r 1 ∷ at r 2 ∷ []
three [] l = absurd (omega (arith, l))
three (a ∷ []) l = absurd (omega (arith, l))
three (a ∷ b ∷ []) l = absurd (omega (arith, l))
three (a ∷ b ∷ c ∷ []) l = refl
three (a ∷ b ∷ c ∷ d ∷ r) l = absurd (omega (arith, l))

-- ONE RECORD r beside another w, o being w as the code holds it
abbrev Told : List ℕ → List ℕ → Bool → Type 0
Told r w b = (b ≡ same_record r w) × (b ≡ true → r ≡ w)

ands : (a b c : Bool) → a && (b && (c && true)) ≡ a && b && c
ands true true true = refl
ands true true false = refl
ands true false c = refl
ands false b c = refl

pub told : (r w o : List ℕ) (b : Bool) → o ≡ w → length r ≡ 3 → length w ≡ 3 → b ≡ pointwise eqb r o → Told r w b
unfolding same_record
told r w o b e l k q =
    let p : b ≡ pointwise eqb r w = q ∙ ap (pointwise eqb r) e in (
      p ∙ ap₂ (pointwise eqb) (three r l) (three w k) ∙ ands (eqb (at r 0) (at w 0)) (eqb (at r 1) (at w 1)) (eqb (at r 2) (at w 2)),
      λ t. (bytes_decides r w).0 (sym p ∙ t),
    )

-- two records of three words
pub same_is : (r w : List ℕ) → length r ≡ 3 → length w ≡ 3 → same_record r w ≡ true → r ≡ w
same_is r w l k e = let t : Told r w (pointwise eqb r w) = told r w w (pointwise eqb r w) refl l k refl in t.1 (t.0 ∙ e)

-- the same word by word
module _ (r w o : List ℕ) (e : o ≡ w) where
  pub first_differs : (at r 0 ≡ at o 0 → ⊥) → Told r w false
  unfolding same_record
  first_differs d = (rw (ne_eqb (at r 0) (at w 0) (λ q. d (q ∙ ap (λ (y : List ℕ). at y 0) (sym e)))), λ q. absurd (false≢true q))

  pub second_differs : at r 0 ≡ at o 0 → (at r 1 ≡ at o 1 → ⊥) → Told r w false
  unfolding same_record
  second_differs a d = (rw (eq-eqb (at r 0) (at w 0) (a ∙ ap (λ (y : List ℕ). at y 0) e), ne_eqb (at r 1) (at w 1) (λ q. d (q ∙ ap (λ (y : List ℕ). at y 1) (sym e)))), λ q. absurd (false≢true q))

  pub third_tells : length r ≡ 3 → length w ≡ 3 → at r 0 ≡ at o 0 → at r 1 ≡ at o 1 → Told r w (eqb (at r 2) (at o 2))
  unfolding same_record
  third_tells l k a b =
      let a' : at r 0 ≡ at w 0 = a ∙ ap (λ (y : List ℕ). at y 0) e in
      let b' : at r 1 ≡ at w 1 = b ∙ ap (λ (y : List ℕ). at y 1) e in (
        rw (eq-eqb (at r 0) (at w 0) a', eq-eqb (at r 1) (at w 1) b', e),
        λ q. three r l ∙ rw (a', b', eqb-true (at r 2) (at o 2) q, e) (sym (three w k)),
      )

pub record_long : (s : List ℕ) (p : ℕ) → length (record_of s p) ≡ 3
unfolding record_of
record_long s p = refl

-- RECORDS filled by a loop: rs before it, y in it, u after a turn
module _ {A : Type 0} (f : ℕ → A) (rs : List A) where
  pub fill_none : rs ≡ tab f 0 ++ drop 0 rs
  unfolding tab
  fill_none = refl

  pub fill_more : (y u : List A) (p : ℕ) (r : A) → p < length rs → r ≡ f p → u ≡ set y p r → y ≡ tab f p ++ drop p rs → u ≡ tab f (p + 1) ++ drop (p + 1) rs
  unfolding tab
  fill_more y u p r h e q i =
      q
      ∙ ap (λ (l : List A). set l p r) (i ∙ ap (λ (l : List A). tab f p ++ l) (drop-cons rs p r h))
      ∙ set_at (tab f p) (get_or rs p r) (drop (suc p) rs) r p (length-tab f p)
      ∙ rw (e, add-one, tab) (sym (append_assoc (tab f p) (f p ∷ []) (drop (suc p) rs)))

  pub fill_done : (y : List A) (n p : ℕ) → length rs ≡ n → n ≤ p → p ≤ n → y ≡ tab f p ++ drop p rs → y ≡ tab f n
  fill_done y n p l h k i = let o : length rs ≤ p = omega (arith, l) in i ∙ rw (drop_of_length-le rs o) (append-nil (tab f p) ∙ ap (tab f) (le_antisymm k h))

  -- the first ones are known
  pub known_none : take 0 rs ≡ tab f 0
  unfolding tab
  known_none = refl

  pub known_more : (p : ℕ) (d : A) → p < length rs → get_or rs p d ≡ f p → take p rs ≡ tab f p → take (p + 1) rs ≡ tab f (p + 1)
  unfolding tab
  known_more p d h e i = rw (add-one, tab) (take-suc rs p d h ∙ rw (i, e))

  pub known_all : (n p : ℕ) → length rs ≡ n → n ≤ p → p ≤ n → take p rs ≡ tab f p → rs ≡ tab f n
  known_all n p l h k i = let o : length rs ≤ p = omega (arith, l) in sym (take_all p rs o) ∙ i ∙ ap (tab f) (le_antisymm k h)

-- the next one agrees
pub agrees_more : (rs : List (List ℕ)) (s : List ℕ) (p : ℕ) (r : List ℕ) (b : Bool) → p < length rs → r ≡ record_at rs p → Told r (record_of s p) b → not b ≡ false
    → (all (λ k. same_record (record_at rs k) (record_of s k)) p ≡ true) × (take p rs ≡ tab (record_of s) p)
    → (all (λ k. same_record (record_at rs k) (record_of s k)) (p + 1) ≡ true) × (take (p + 1) rs ≡ tab (record_of s) (p + 1))
agrees_more rs s p r b l i h o d =
    let f : same_record (record_at rs p) (record_of s p) ≡ true = ap (λ (y : List ℕ). same_record y (record_of s p)) (sym i) ∙ flag_yes b (same_record r (record_of s p)) h.0 o in
    let w : record_at rs p ≡ record_of s p = sym i ∙ h.1 (flag_yes b b refl o) in
    (all_more (λ k. same_record (record_at rs k) (record_of s k)) p d.0 f, known_more (record_of s) rs p [] l w d.1)

-- THE RECORDS rs beside the count
module _ (rs : List (List ℕ)) (t s : List ℕ) (n : ℕ) (e : n ≡ pool_count t) where
  abbrev Agreed : Bool → Type 0
  Agreed b = (b ≡ agree rs t s) × (b ≡ true → rs ≡ counted t s)

  pub wrong_number : (length rs ≡ n → ⊥) → Agreed false
  unfolding agree
  wrong_number d = (rw (ne_eqb (length rs) (pool_count t) (λ q. d (q ∙ sym e))), λ q. absurd (false≢true q))

  -- record r, at place p, differs
  pub differs : (p : ℕ) (r : List ℕ) (b : Bool) → p < n → r ≡ record_at rs p → b ≡ same_record r (record_of s p) → not b ≡ true → Agreed false
  unfolding agree
  differs p r b l i h o =
      let f : same_record (record_at rs p) (record_of s p) ≡ false = ap (λ (y : List ℕ). same_record y (record_of s p)) (sym i) ∙ flag_no b (same_record r (record_of s p)) h o in (
        sym (and_false_right (eqb (length rs) (pool_count t)) (all (λ k. same_record (record_at rs k) (record_of s k)) (pool_count t))
            (all_fails (λ k. same_record (record_at rs k) (record_of s k)) (pool_count t) p (subst (λ m. p < m) e l) f)),
        λ q. absurd (false≢true q),
      )

  pub all-agree : (p : ℕ) → length rs ≡ n → n ≤ p → p ≤ n → all (λ k. same_record (record_at rs k) (record_of s k)) p ≡ true → take p rs ≡ tab (record_of s) p → Agreed true
  unfolding agree counted
  all-agree p l h k a i =
      let w : p ≡ pool_count t = le_antisymm k h ∙ e in (
        sym (and_true (eqb (length rs) (pool_count t)) (all (λ k. same_record (record_at rs k) (record_of s k)) (pool_count t)) (eq-eqb (length rs) (pool_count t) (l ∙ e)) (subst (λ m. all (λ k. same_record (record_at rs k) (record_of s k)) m ≡ true) w a)),
        λ q. known_all (record_of s) rs n p l h k i ∙ ap (tab (record_of s)) e,
      )

-- THE RECORDS counted by a loop
pub counted_by : (t s : List ℕ) (rs y : List (List ℕ)) (n p : ℕ) → n ≡ pool_count t → length rs ≡ n → n ≤ p → p ≤ n → y ≡ tab (record_of s) p ++ drop p rs → y ≡ counted t s
unfolding counted
counted_by t s rs y n p e l h k i = fill_done (record_of s) rs y n p l h k i ∙ ap (tab (record_of s)) e

-- ONE RECORD after a step
module _ (r : List ℕ) (made : ℕ) where
  pub after_done : (done : Bool) (left rest : ℕ) → done ≡ true → left ≡ at r 1 - 1 → rest ≡ made - left → ◌≡◌ {A = List ℕ} (made ∷ left ∷ rest ∷ []) (record_after r made done)
  unfolding record_after if◌then◌or_else◌
  after_done done left rest d l e = rw (d, e, l)

  pub after_going : (done : Bool) (left : ℕ) → done ≡ false → left ≡ made - at r 2 → ◌≡◌ {A = List ℕ} (made ∷ left ∷ at r 2 ∷ []) (record_after r made done)
  unfolding record_after if◌then◌or_else◌
  after_going done left d l = rw (d, l)

-- THE RECORDS after a step of instance i of pool p, h its words as the code holds them
module _ (rs : List (List ℕ)) (s h : List ℕ) (p i made : ℕ) (done : Bool) (e : made ≡ made_count s p) (w : h ≡ instance_at s p i) (d : done ≡ is_finished h) where
  pub updated_there : (r u : List ℕ) → r ≡ record_at rs p → u ≡ record_after r made done → set rs p u ≡ updated rs s p i
  unfolding updated
  updated_there r u l o = rw (o, l, e, d, w)

  pub updated_none : length rs ≤ p → rs ≡ updated rs s p i
  unfolding updated
  updated_none o = sym (set_out rs p (record_after (record_at rs p) (made_count s p) (is_finished (instance_at s p i))) o)
