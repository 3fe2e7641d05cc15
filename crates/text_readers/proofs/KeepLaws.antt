-- What a word says, stored or refused, by the tests on the way: of `least <= v && v <= most` the second is known as a Bool. Assumes nothing.
use mathlib.Core.Path.{◌≡◌, refl, ap}
use mathlib.Core.Bool.{true, false}
use mathlib.Core.List.{List}
use Prim.Native.Nat.{ℕ, ◌+◌, ◌<◌, ◌≤◌}
use lib.Dec.{leb}
use lib.ListN.{set}
use borrow.Author.Tests.{eq-eqb, ne_eqb, le-leb, lt-leb}
use Rattle.base_words.specs.Pick.{if◌then◌or_else◌}
use Rattle.base_words.proofs.PickLaws.{and_false_right, pick_yes, pick_no}
use Rattle.base_table.specs.Places.{a_field, operand_number, mode_place}
use Rattle.text_numerals.specs.declared.Number.{Number}
use Rattle.text_numerals.specs.declared.Number.TheVariants.{Value, TooLarge, NotANumber}
use Rattle.text_numerals.specs.declared.Operand.{Operand}
use Rattle.text_numerals.specs.declared.Operand.TheVariants.{Number as OfNumber, Field, OutOfRange, NotAnOperand}
use Rattle.text_readers.specs.Reading.{passed_to, refused_at, misplaced, excessive, keep_number, keep_operand, keep_mode}

pub stored : (q : ℕ) (y z : List ℕ) → y ≡ z → passed_to q y ≡ passed_to q z
stored q y z e = ap (passed_to q) e

module _ (n : Number) (least most place p q : ℕ) (x : List ℕ) where
  module _ (v : ℕ) (e : n ≡ Value v) where
    pub number_within : (y : List ℕ) → least ≤ v → leb v most ≡ true → y ≡ set x place v → passed_to q y ≡ keep_number n least most place p q x
    unfolding keep_number if◌then◌or_else◌
    number_within y l m h = rw (e, le-leb least v l, m) (stored q y (set x place v) h)

    pub number_below : v < least → refused_at excessive p x ≡ keep_number n least most place p q x
    unfolding keep_number if◌then◌or_else◌
    number_below l = rw (e, lt-leb least v l)

    pub number_above : leb v most ≡ false → refused_at excessive p x ≡ keep_number n least most place p q x
    unfolding keep_number if◌then◌or_else◌
    number_above m = rw (e, and_false_right (leb least v) (leb v most) m)

  pub number_too_large : n ≡ TooLarge → refused_at excessive p x ≡ keep_number n least most place p q x
  unfolding keep_number
  number_too_large e = rw e

  pub number_none : n ≡ NotANumber → refused_at misplaced p x ≡ keep_number n least most place p q x
  unfolding keep_number
  number_none e = rw e

module _ (o : Operand) (place p q : ℕ) (x : List ℕ) where
  pub operand_number_lem : (v : ℕ) (y z : List ℕ) → o ≡ OfNumber v → y ≡ set x place 0 → z ≡ set y (place + operand_number) v → passed_to q z ≡ keep_operand o place p q x
  unfolding keep_operand
  operand_number_lem v y z e h k = rw (e, k, h)

  pub operand_field : (d : ℕ) (y z : List ℕ) → o ≡ Field d → y ≡ set x place a_field → z ≡ set y (place + operand_number) d → passed_to q z ≡ keep_operand o place p q x
  unfolding keep_operand
  operand_field d y z e h k = rw (e, k, h)

  pub operand_outside : o ≡ OutOfRange → refused_at excessive p x ≡ keep_operand o place p q x
  unfolding keep_operand
  operand_outside e = rw e

  pub operand_none : o ≡ NotAnOperand → refused_at misplaced p x ≡ keep_operand o place p q x
  unfolding keep_operand
  operand_none e = rw e

module _ (m p q : ℕ) (x : List ℕ) where
  pub mode_none : m ≡ 0 → refused_at misplaced p x ≡ keep_mode m p q x
  unfolding keep_mode
  mode_none e = pick_yes _ _ _ _ (eq-eqb m 0 e) refl

  pub mode_stored : (y : List ℕ) → (m ≡ 0 → ⊥) → y ≡ set x mode_place m → passed_to q y ≡ keep_mode m p q x
  unfolding keep_mode
  mode_stored y n h = pick_no _ _ _ _ (ne_eqb m 0 n) (stored q y (set x mode_place m) h)
