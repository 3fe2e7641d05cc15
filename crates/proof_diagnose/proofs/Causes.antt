-- WHY 21. A drawing breaks no rule exactly when nothing is amiss in it; else the rule named is broken at the place named, at no thing before it, and no earlier rule is broken anywhere. Assumes nothing.
use Prim.Native.Nat.{ℕ, zero, suc, ◌+◌, ◌-◌, ◌≤◌, ◌<◌}
use mathlib.Core.Path.{◌≡◌, refl, sym, ◌∙◌, ap, subst}
use mathlib.Core.Bool.{Bool, true, false, not, ◌&&◌, false≢true}
use mathlib.Core.List.{List}
use native.Mathlib.Omega.{arith}
use lib.Dec.{leb, ltb}
use borrow.Author.Tests.{ltb-true, ltb-false, leb-true, le-leb, le-ltb}
use Rattle.base_words.specs.All.{all}
use Rattle.base_words.specs.Pick.{if◌then◌or_else◌}
use Rattle.base_words.specs.Seek.{seek}
use Rattle.base_words.proofs.AllLaws.{all_at, all_of, and_left, and_right}
use Rattle.base_words.proofs.PickLaws.{and_true}
use Rattle.base_words.proofs.SeekLaws.{sought}
use Rattle.draw_things.specs.Things.{room, place}
use Rattle.draw_faults.specs.Amiss.{is_amiss, is_right, is_drawing}
use Rattle.draw_numbers.specs.Who.{has_participants, has_pool}
use Rattle.draw_diagnose.specs.declared.Broken.{Broken}
use Rattle.draw_diagnose.specs.Rules.{breaks, rules_of_things, no_pool, too_many, first_breaking, is_broken, first_broken, broken_by_all, broken_in}
use Rattle.proof_diagnose.proofs.Listed.{breaks_amiss, amiss_breaks}

abbrev rule_of : Broken → ℕ
rule_of b = b.rule

abbrev place_of : Broken → ℕ
place_of b = b.place

-- the rules of a whole drawing stand behind those of things
whole : (w : List ℕ) (n : ℕ) → 0 < (broken_by_all w n).rule → (broken_by_all w n).rule ≤ rules_of_things → ⊥
unfolding broken_by_all if◌then◌or_else◌
whole w n = go (has_pool (has_participants w n) w n) (ltb room n)
  where
    go : (a b : Bool) → 0 < rule_of (if a then (if b then record { rule = too_many; place = place w 0 } or_else record { rule = 0; place = 0 }) or_else record { rule = no_pool; place = place w 0 })
        → rule_of (if a then (if b then record { rule = too_many; place = place w 0 } or_else record { rule = 0; place = 0 }) or_else record { rule = no_pool; place = place w 0 }) ≤ rules_of_things → ⊥
    go true true h l = omega (arith, l)
    go true false h l = omega (arith, h)
    go false b h l = omega (arith, l)

module _ (t w : List ℕ) (n : ℕ) where
  -- a rule that is not broken is broken by no thing; one that is, by the first that breaks it
  unbroken_at : (r k : ℕ) → is_broken t w n r ≡ false → k < n → breaks (r + 1) t w n k ≡ false
  unfolding is_broken first_breaking
  unbroken_at r k e l = let s = sought (breaks (r + 1) t w n) n in s.2 k (omega (arith, ltb-false (seek (breaks (r + 1) t w n) n) n e, l))

  broken_at : (r : ℕ) → is_broken t w n r ≡ true → (first_breaking (r + 1) t w n < n) × (breaks (r + 1) t w n (first_breaking (r + 1) t w n) ≡ true)
  unfolding is_broken first_breaking
  broken_at r e = let s = sought (breaks (r + 1) t w n) n in let l = ltb-true (seek (breaks (r + 1) t w n) n) n e in (l, s.1 l)

  -- no rule broken: every thing is right
  all_right_lem : ((r : ℕ) → r < rules_of_things → is_broken t w n r ≡ false) → (k : ℕ) → k < n → is_right t w n k ≡ true
  unfolding is_right
  all_right_lem u k l = go (is_amiss t w n k) refl
    where
      go : (b : Bool) → is_amiss t w n k ≡ b → not b ≡ true
      go false e = refl
      go true e = let b = amiss_breaks t w n k e in absurd (false≢true (sym (unbroken_at b.0 k (u b.0 b.1) l) ∙ b.2))

  right_by_all : ((k : ℕ) → k < n → is_right t w n k ≡ true) → (broken_by_all w n).rule ≡ 0 → is_drawing t w n ≡ true
  unfolding broken_by_all is_drawing if◌then◌or_else◌
  right_by_all right = go (has_pool (has_participants w n) w n) refl (ltb room n) refl
    where
      go : (a : Bool) → has_pool (has_participants w n) w n ≡ a → (b : Bool) → ltb room n ≡ b
          → rule_of (if a then (if b then record { rule = too_many; place = place w 0 } or_else record { rule = 0; place = 0 }) or_else record { rule = no_pool; place = place w 0 }) ≡ 0
          → leb n room && (has_pool (has_participants w n) w n && all (is_right t w n) n) ≡ true
      go true p true q h = absurd (omega (arith, h))
      go true p false q h = and_true _ _ (le-leb n room (ltb-false room n q)) (and_true _ _ p (all_of (is_right t w n) n right))
      go false p b q h = absurd (omega (arith, h))

  none_broken : ltb (first_broken t w n) rules_of_things ≡ false → (r : ℕ) → r < rules_of_things → is_broken t w n r ≡ false
  unfolding first_broken
  none_broken e r l = let s = sought (is_broken t w n) rules_of_things in s.2 r (omega (arith, ltb-false (seek (is_broken t w n) rules_of_things) rules_of_things e, l))

  some_broken : ltb (first_broken t w n) rules_of_things ≡ true → is_broken t w n (first_broken t w n) ≡ true
  unfolding first_broken
  some_broken e = let s = sought (is_broken t w n) rules_of_things in s.1 (ltb-true (seek (is_broken t w n) rules_of_things) rules_of_things e)

  pub no_rule_drawn : (broken_in t w n).rule ≡ 0 → is_drawing t w n ≡ true
  unfolding broken_in if◌then◌or_else◌
  no_rule_drawn = go (ltb (first_broken t w n) rules_of_things) refl
    where
      go : (b : Bool) → ltb (first_broken t w n) rules_of_things ≡ b
          → rule_of (if b then record { rule = first_broken t w n + 1; place = place w (first_breaking (first_broken t w n + 1) t w n) } or_else broken_by_all w n) ≡ 0 → is_drawing t w n ≡ true
      go true e h = absurd (omega (arith, h))
      go false e h = right_by_all (all_right_lem (none_broken e)) h

  module _ (d : is_drawing t w n ≡ true) where
    fits : leb n room ≡ true
    unfolding is_drawing
    fits = and_left _ _ d

    pooled : has_pool (has_participants w n) w n ≡ true
    unfolding is_drawing
    pooled = and_left _ _ (and_right (leb n room) _ d)

    right : all (is_right t w n) n ≡ true
    unfolding is_drawing
    right = and_right (has_pool (has_participants w n) w n) _ (and_right (leb n room) _ d)

    not_amiss : (k : ℕ) → k < n → is_amiss t w n k ≡ true → ⊥
    unfolding is_right
    not_amiss k l e = false≢true (ap not (sym e) ∙ all_at (is_right t w n) n right k l)

    pub drawn_no_rule : (broken_in t w n).rule ≡ 0
    unfolding broken_in broken_by_all if◌then◌or_else◌
    drawn_no_rule = go (ltb (first_broken t w n) rules_of_things) refl
      where
        go : (b : Bool) → ltb (first_broken t w n) rules_of_things ≡ b
            → rule_of (if b then record { rule = first_broken t w n + 1; place = place w (first_breaking (first_broken t w n + 1) t w n) } or_else broken_by_all w n) ≡ 0
        go true e = let b = broken_at (first_broken t w n) (some_broken e) in absurd (not_amiss _ b.0 (breaks_amiss t w n _ (first_broken t w n + 1) b.1))
        go false e = rw (pooled, le-ltb room n (leb-true n room fits)) refl

  -- the rule of a thing that is named, and where
  pub record First (rule at : ℕ) : Type 0 where
    pub thing : ℕ
    pub inside : thing < n
    pub there : at ≡ place w thing
    pub broken : breaks rule t w n thing ≡ true
    pub leftmost : (j : ℕ) → j < thing → breaks rule t w n j ≡ false
    pub earliest : (r : ℕ) → r + 1 < rule → (j : ℕ) → j < n → breaks (r + 1) t w n j ≡ false

  pub rule_named : 0 < (broken_in t w n).rule → (broken_in t w n).rule ≤ rules_of_things → First (broken_in t w n).rule (broken_in t w n).place
  unfolding broken_in if◌then◌or_else◌
  rule_named = go (ltb (first_broken t w n) rules_of_things) refl
    where
      left : (j : ℕ) → j < first_breaking (first_broken t w n + 1) t w n → breaks (first_broken t w n + 1) t w n j ≡ false
      left j l = unfold first_breaking in (sought (breaks (first_broken t w n + 1) t w n) n).2 j l

      early : (r : ℕ) → r + 1 < first_broken t w n + 1 → (j : ℕ) → j < n → breaks (r + 1) t w n j ≡ false
      early r l j m = unbroken_at r j (unfold first_broken in (sought (is_broken t w n) rules_of_things).2 r (omega (arith, l))) m

      go : (b : Bool) → ltb (first_broken t w n) rules_of_things ≡ b
          → 0 < rule_of (if b then record { rule = first_broken t w n + 1; place = place w (first_breaking (first_broken t w n + 1) t w n) } or_else broken_by_all w n)
          → rule_of (if b then record { rule = first_broken t w n + 1; place = place w (first_breaking (first_broken t w n + 1) t w n) } or_else broken_by_all w n) ≤ rules_of_things
          → First (rule_of (if b then record { rule = first_broken t w n + 1; place = place w (first_breaking (first_broken t w n + 1) t w n) } or_else broken_by_all w n)) (place_of (if b then record { rule = first_broken t w n + 1; place = place w (first_breaking (first_broken t w n + 1) t w n) } or_else broken_by_all w n))
      go true e z l =
          let b = broken_at (first_broken t w n) (some_broken e) in
          record { thing = first_breaking (first_broken t w n + 1) t w n; inside = b.0; there = refl; broken = b.1; leftmost = left; earliest = early }
      go false e z l = absurd (whole w n z l)
