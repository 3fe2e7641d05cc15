-- THE MASS of an instance: its tokens and counts, each weighed. A move takes as much as it takes from entries and counts, and adds at most what it puts on exits and counts. u weighs the words of an
-- instance, h is one. Assumes nothing.
use Prim.Native.Nat.{ℕ, zero, suc, ◌+◌, ◌-◌, ◌≤◌, ◌<◌}
use mathlib.Core.Path.{◌≡◌, refl, sym, ◌∙◌, ap, subst}
use mathlib.Core.Bool.{Bool, true, false}
use mathlib.Core.List.{List}
use mathlib.Core.Logic.{⊎_elim}
use native.Mathlib.Nat.{not-suc-le-zero, le_of_suc-le-suc, eq-or-lt_of_le}
use native.Mathlib.Omega.{arith}
use lib.Dec.{eqb, ltb}
use lib.ListN.{length, set, length-set}
use lib.Seq.{get_or-set_same, get_or-set_other, set_out}
use borrow.Author.Tests.{eqb-true, eqb-false, ne_eqb, ltb-true, ltb-false, lt-ltb}
use Rattle.base_words.specs.Iter.{iter}
use Rattle.base_words.specs.Pick.{if◌then◌or_else◌}
use Rattle.base_words.specs.Sum.{sum}
use Rattle.base_words.specs.Words.{at}
use Rattle.base_words.specs.Counts.{count_most}
use Rattle.base_words.proofs.SumLaws.{sum_ext}
use Rattle.base_kinds.specs.Moves.{up, down}
use Rattle.base_state.specs.Places.{defined_place}
use Rattle.meaning.specs.Requirements.{can_lower}
use Rattle.meaning.specs.Changes.{more, count_changed}
use Rattle.proof_steps.proofs.Choices.{by_test, by_choice, chosen, passed, chosen_true}
use Rattle.proof_nesting.proofs.Weights.{counted}

-- a count n weighed by a
unfoldable pub weigh : ℕ → ℕ → ℕ
weigh a zero = 0
weigh a (suc n) = weigh a n + a

pub weigh_least : (a n : ℕ) → 1 ≤ a → n ≤ weigh a n
unfolding weigh
weigh_least a zero l = omega arith
weigh_least a (suc n) l = omega (arith, weigh_least a n l)

pub weigh_less : (a n : ℕ) → 0 < n → weigh a (n - 1) + a ≡ weigh a n
unfolding weigh
weigh_less a zero l = absurd (omega arith)
weigh_less a (suc n) l = let z : suc n - 1 ≡ n = omega arith in rw z

weigh_more : (a n : ℕ) → weigh a (more n) ≤ weigh a n + a
unfolding weigh more
weigh_more a n = by_choice (λ (y : ℕ). weigh a y ≤ weigh a n + a) (ltb n count_most) (n + 1) n (λ e. let z : n + 1 ≡ suc n = omega arith in rw z (omega arith)) (λ e. omega arith)

weigh_one : (a n : ℕ) → n < count_most → weigh a (more n) ≡ weigh a n + a
unfolding weigh more
weigh_one a n l = let e : n + 1 ≡ suc n = omega arith in chosen_weigh (ltb n count_most) (lt-ltb n count_most l) e
  where
    chosen_weigh : (b : Bool) → b ≡ true → n + 1 ≡ suc n → weigh a (if b then n + 1 or_else n) ≡ weigh a n + a
    chosen_weigh b h e = ap (weigh a) (chosen b (n + 1) n h ∙ e)

-- two sums that differ in one term
pub sum_change : (f g : ℕ → ℕ) (n k : ℕ) → k < n → ((j : ℕ) → (j ≡ k → ⊥) → f j ≡ g j) → sum f n + g k ≡ sum g n + f k
unfolding sum
sum_change f g zero k l same = absurd (not-suc-le-zero l)
sum_change f g (suc n) k l same =
    ⊎_elim
    (λ e. let z : sum f n ≡ sum g n = sum_ext f g n (λ j r. same j (λ q. omega arith)) in subst (λ y. (sum f n + f n) + g y ≡ (sum g n + g n) + f y) (sym e) (omega arith))
    (λ r. let z = sum_change f g n k r same in let y = same n (λ q. omega arith) in omega arith)
    (eq-or-lt_of_le (le_of_suc-le-suc l))

module _ (u : ℕ → ℕ) where
  unfoldable pub mass : List ℕ → ℕ
  mass h = sum (λ k. weigh (u k) (at h k)) (defined_place 0)

  pub mass_same : (g h : List ℕ) → ((k : ℕ) → k < defined_place 0 → at g k ≡ at h k) → mass g ≡ mass h
  unfolding mass
  mass_same g h same = sum_ext (λ k. weigh (u k) (at g k)) (λ k. weigh (u k) (at h k)) (defined_place 0) (λ k l. ap (weigh (u k)) (same k l))

  -- another word
  mass_set : (h : List ℕ) (k v : ℕ) → k < defined_place 0 → k < length h → mass (set h k v) + weigh (u k) (at h k) ≡ mass h + weigh (u k) v
  unfolding mass
  mass_set h k v l r =
      sum_change (λ j. weigh (u j) (at (set h k v) j)) (λ j. weigh (u j) (at h j)) (defined_place 0) k l (λ j n. ap (weigh (u j)) (get_or-set_other h k j v 0 n))
      ∙ ap (λ y. mass h + weigh (u k) y) (get_or-set_same h k v 0 r)

  mass_less : (h : List ℕ) (k : ℕ) → k < defined_place 0 → k < length h → 0 < at h k → mass (set h k (at h k - 1)) + u k ≡ mass h
  mass_less h k l r p = omega (arith, mass_set h k (at h k - 1) l r, weigh_less (u k) (at h k) p)

  mass_more : (h : List ℕ) (k : ℕ) → k < defined_place 0 → k < length h → mass (set h k (more (at h k))) ≤ mass h + u k
  mass_more h k l r = omega (arith, mass_set h k (more (at h k)) l r, weigh_more (u k) (at h k))

  mass_one : (h : List ℕ) (k : ℕ) → k < defined_place 0 → k < length h → at h k < count_most → mass (set h k (more (at h k))) ≡ mass h + u k
  mass_one h k l r room = let z = mass_set h k (more (at h k)) l r in let y = weigh_one (u k) (at h k) room in omega (arith, z, y)

  -- TAKEN one after the other at places that are apart
  module _ (place : ℕ → ℕ) (h : List ℕ) where
    abbrev pub lower : ℕ → List ℕ → List ℕ
    lower j y = set y (place j) (at y (place j) - 1)

    pub length_lowered : (n : ℕ) → length (iter lower h n) ≡ length h
    unfolding iter
    length_lowered zero = refl
    length_lowered (suc n) = length-set (iter lower h n) (place n) (at (iter lower h n) (place n) - 1) ∙ length_lowered n

    pub lowered_other : (n k : ℕ) → ((j : ℕ) → j < n → k ≡ place j → ⊥) → at (iter lower h n) k ≡ at h k
    unfolding iter
    lowered_other zero k d = refl
    lowered_other (suc n) k d =
        get_or-set_other (iter lower h n) (place n) k (at (iter lower h n) (place n) - 1) 0 (d n (omega arith)) ∙ lowered_other n k (λ j l. d j (omega arith))

    pub mass_lowered : (n : ℕ) → ((j k : ℕ) → j < n → k < n → (j ≡ k → ⊥) → place j ≡ place k → ⊥) → ((j : ℕ) → j < n → (place j < defined_place 0) × (place j < length h) × (0 < at h (place j)))
        → mass (iter lower h n) + sum (λ j. u (place j)) n ≡ mass h
    unfolding iter sum
    mass_lowered zero apart right = omega arith
    mass_lowered (suc n) apart right =
        let before = mass_lowered n (λ j k l r. apart j k (omega arith) (omega arith)) (λ j l. right j (omega arith)) in
        let w = right n (omega arith) in
        let same : at (iter lower h n) (place n) ≡ at h (place n) = lowered_other n (place n) (λ j l. apart n j (omega arith) (omega arith) (λ e. omega arith)) in
        let now = mass_less (iter lower h n) (place n) w.0 (omega (arith, w.1, length_lowered n)) (omega (arith, w.2, same)) in
        omega (arith, before, now)

    -- RAISED
    abbrev pub raise : ℕ → List ℕ → List ℕ
    raise j y = set y (place j) (more (at y (place j)))

    length_raised : (n : ℕ) → length (iter raise h n) ≡ length h
    unfolding iter
    length_raised zero = refl
    length_raised (suc n) = length-set (iter raise h n) (place n) (more (at (iter raise h n) (place n))) ∙ length_raised n

    pub mass_raised : (n : ℕ) → ((j : ℕ) → j < n → (place j < defined_place 0) × (place j < length h)) → mass (iter raise h n) ≤ mass h + sum (λ j. u (place j)) n
    unfolding iter sum
    mass_raised zero right = omega arith
    mass_raised (suc n) right =
        let w = right n (omega arith) in
        omega (arith, mass_raised n (λ j l. right j (omega arith)), mass_more (iter raise h n) (place n) w.0 (omega (arith, w.1, length_raised n)))

    pub raised_other : (n k : ℕ) → ((j : ℕ) → j < n → k ≡ place j → ⊥) → at (iter raise h n) k ≡ at h k
    unfolding iter
    raised_other zero k d = refl
    raised_other (suc n) k d =
        get_or-set_other (iter raise h n) (place n) k (more (at (iter raise h n) (place n))) 0 (d n (omega arith)) ∙ raised_other n k (λ j l. d j (omega arith))

    -- where there is room, by exactly as much
    pub mass_raised_one : (n : ℕ) → ((j k : ℕ) → j < n → k < n → (j ≡ k → ⊥) → place j ≡ place k → ⊥)
        → ((j : ℕ) → j < n → (place j < defined_place 0) × (place j < length h) × (at h (place j) < count_most)) → mass (iter raise h n) ≡ mass h + sum (λ j. u (place j)) n
    unfolding iter sum
    mass_raised_one zero apart right = omega arith
    mass_raised_one (suc n) apart right =
        let before = mass_raised_one n (λ j k l r. apart j k (omega arith) (omega arith)) (λ j l. right j (omega arith)) in
        let w = right n (omega arith) in
        let same : at (iter raise h n) (place n) ≡ at h (place n) = raised_other n (place n) (λ j l. apart n j (omega arith) (omega arith) (λ e. omega arith)) in
        let now = mass_one (iter raise h n) (place n) w.0 (omega (arith, w.1, length_raised n)) (omega (arith, w.2, same)) in
        omega (arith, before, now)

  -- taking raises no word
  pub lowered_less : (place : ℕ → ℕ) (h : List ℕ) (n k : ℕ) → at (iter (lower place h) h n) k ≤ at h k
  unfolding iter
  lowered_less place h zero k = omega arith
  lowered_less place h (suc n) k =
      let g : List ℕ = iter (lower place h) h n in
      let before : at g k ≤ at h k = lowered_less place h n k in
      by_test (eqb k (place n))
      (λ e.
      let z : k ≡ place n = eqb-true k (place n) e in
      by_test (ltb (place n) (length g))
      (λ l. let q : at (set g (place n) (at g (place n) - 1)) k ≡ at g k - 1 = ap (at (set g (place n) (at g (place n) - 1))) z ∙ get_or-set_same g (place n) (at g (place n) - 1) 0 (ltb-true _ _ l) ∙ ap (λ y. at g y - 1) (sym z) in omega (arith, q, before))
      (λ l. let q : set g (place n) (at g (place n) - 1) ≡ g = set_out g (place n) (at g (place n) - 1) (ltb-false _ _ l) in let r : at (set g (place n) (at g (place n) - 1)) k ≡ at g k = ap (λ (y : List ℕ). at y k) q in omega (arith, r, before)))
      (λ e. let q = get_or-set_other g (place n) k (at g (place n) - 1) 0 (eqb-false k (place n) e) in omega (arith, q, before))

  pub mass_count_one : (h : List ℕ) (k cell : ℕ) → k < defined_place 0 → k < length h → at h k < count_most → mass h + counted cell up (u k) ≤ mass (set h k (count_changed cell (at h k))) + counted cell down (u k)
  unfolding count_changed counted
  mass_count_one h k cell l r room =
      by_test (eqb cell up)
      (λ e.
      let a : eqb cell down ≡ false = ne_eqb cell down (λ z. let y = eqb-true cell up e in omega arith) in
      let x : (if eqb cell up then more (at h k) or_else (if eqb cell down then at h k - 1 or_else at h k)) ≡ more (at h k) = chosen (eqb cell up) _ _ e in
      let y : (if eqb cell down then u k or_else 0) ≡ 0 = passed (eqb cell down) _ _ a in
      let z : (if eqb cell up then u k or_else 0) ≡ u k = chosen (eqb cell up) _ _ e in
      rw (x, y, z) (omega (arith, mass_one h k l r room)))
      (λ e.
      by_test (eqb cell down)
      (λ f.
      let x : (if eqb cell up then more (at h k) or_else (if eqb cell down then at h k - 1 or_else at h k)) ≡ at h k - 1 = passed (eqb cell up) _ _ e ∙ chosen (eqb cell down) _ _ f in
      let y : (if eqb cell down then u k or_else 0) ≡ u k = chosen (eqb cell down) _ _ f in
      let z : (if eqb cell up then u k or_else 0) ≡ 0 = passed (eqb cell up) _ _ e in
      rw (x, y, z)
      (by_test (ltb 0 (at h k))
      (λ g. omega (arith, mass_less h k l r (ltb-true 0 (at h k) g)))
      (λ g. let n : at h k - 1 ≡ at h k = (let v = ltb-false 0 (at h k) g in omega arith) in let q = mass_set h k (at h k - 1) l r in let p : weigh (u k) (at h k - 1) ≡ weigh (u k) (at h k) = ap (weigh (u k)) n in omega (arith, q, p))))
      (λ f.
      let x : (if eqb cell up then more (at h k) or_else (if eqb cell down then at h k - 1 or_else at h k)) ≡ at h k = passed (eqb cell up) _ _ e ∙ passed (eqb cell down) _ _ f in
      let y : (if eqb cell down then u k or_else 0) ≡ 0 = passed (eqb cell down) _ _ f in
      let z : (if eqb cell up then u k or_else 0) ≡ 0 = passed (eqb cell up) _ _ e in
      rw (x, y, z) (omega (arith, mass_set h k (at h k) l r))))

  -- A COUNT changed by a cell
  pub mass_count : (h : List ℕ) (k cell : ℕ) → k < defined_place 0 → k < length h → can_lower cell (at h k) ≡ true → mass (set h k (count_changed cell (at h k))) + counted cell down (u k) ≤ mass h + counted cell up (u k)
  unfolding count_changed counted can_lower
  mass_count h k cell l r can =
      by_test (eqb cell up)
      (λ e.
      let a : eqb cell down ≡ false = ne_eqb cell down (λ z. let y = eqb-true cell up e in omega arith) in
      let x : (if eqb cell up then more (at h k) or_else (if eqb cell down then at h k - 1 or_else at h k)) ≡ more (at h k) = chosen (eqb cell up) _ _ e in
      let y : (if eqb cell down then u k or_else 0) ≡ 0 = passed (eqb cell down) _ _ a in
      let z : (if eqb cell up then u k or_else 0) ≡ u k = chosen (eqb cell up) _ _ e in
      rw (x, y, z) (omega (arith, mass_more h k l r)))
      (λ e.
      by_test (eqb cell down)
      (λ f.
      let x : (if eqb cell up then more (at h k) or_else (if eqb cell down then at h k - 1 or_else at h k)) ≡ at h k - 1 = passed (eqb cell up) _ _ e ∙ chosen (eqb cell down) _ _ f in
      let y : (if eqb cell down then u k or_else 0) ≡ u k = chosen (eqb cell down) _ _ f in
      let z : (if eqb cell up then u k or_else 0) ≡ 0 = passed (eqb cell up) _ _ e in
      rw (x, y, z) (omega (arith, mass_less h k l r (ltb-true 0 (at h k) (chosen_true (eqb cell down) (ltb 0 (at h k)) true can f)))))
      (λ f.
      let x : (if eqb cell up then more (at h k) or_else (if eqb cell down then at h k - 1 or_else at h k)) ≡ at h k = passed (eqb cell up) _ _ e ∙ passed (eqb cell down) _ _ f in
      let y : (if eqb cell down then u k or_else 0) ≡ 0 = passed (eqb cell down) _ _ f in
      let z : (if eqb cell up then u k or_else 0) ≡ 0 = passed (eqb cell up) _ _ e in
      rw (x, y, z) (omega (arith, mass_set h k (at h k) l r))))
