-- The longest text of each part of an element within the limits, beside the figures of its edges and of its task's number. Assumes nothing.
use Prim.Native.Char.{code}
use Prim.Native.Nat.{ℕ, ◌+◌, ◌-◌, ◌*◌, ◌≤◌, ◌<◌}
use mathlib.Core.Path.{◌≡◌}
use mathlib.Core.Bool.{Bool, true, false, ◌&&◌, false≢true}
use mathlib.Core.List.{List, ◌∷◌}
use native.Mathlib.Omega.{arith}
use lib.Dec.{eqb, ltb}
use lib.ListN.{length, drop, length-append}
use borrow.Author.Tests.{eqb-true, ne_eqb, ltb-true}
use Rattle.base_words.specs.Pick.{if◌then◌or_else◌}
use Rattle.base_words.specs.Sum.{sum}
use Rattle.base_words.specs.Text.{bytes}
use Rattle.base_words.specs.Words.{at, digits}
use Rattle.base_words.specs.Counts.{fields, fields_named}
use Rattle.base_words.proofs.AllLaws.{and_left, and_right}
use Rattle.base_words.proofs.SumLaws.{sum_add, sum_le}
use Rattle.base_kinds.specs.Kinds.{none, many}
use Rattle.base_kinds.specs.Moves.{a, na_c}
use Rattle.base_table.specs.Places.{a_field, operand_number, operand_words, form_place, left_place, right_place, single, plus, minus, binding, always, default, equals, below, assigned_in}
use Rattle.check_limits.specs.Limits.{within, zeros, operand_fits, expression_fits, bind_fits, item_fits, condition_fits, assignment_fits}
use Rattle.write_decimals.specs.Decimals.{shown}
use Rattle.write_decimals.proofs.DecimalLaws.{shown_short}
use Rattle.write_shown.specs.Shown.{commas, enclosed_by, shown_field, shown_operand, shown_pair, shown_expression, shown_item, shown_condition, shown_mode, shown_assignment}
use Rattle.proof_steps.proofs.Choices.{by_test, by_choice, chosen_true, passed_true}
use Rattle.proof_lengths.proofs.Pieces.{both_short, between_long, separated_some, separated_short}
use Rattle.proof_lengths.proofs.Figures.{two_figures}

-- the most bytes of a field; of two operands with a sign between them, and so of an expression, an item and a condition
abbrev field_most : ℕ
field_most = 3

abbrev pub pair_most : ℕ
pair_most = digits + 1 + digits

abbrev pub mode_most : ℕ
mode_most = 5

-- of an assignment: a field, `:=` and an expression
abbrev pub assignment_most : ℕ
assignment_most = field_most + 2 + pair_most

field_short : (d : ℕ) → d < fields_named → length (shown_field d) ≤ field_most
unfolding shown_field
field_short d h =
    by_choice (λ (w : List ℕ). length w ≤ field_most) (ltb d fields) (100 ∷ shown d) (115 ∷ shown (d - fields))
    (λ e. omega (arith, two_figures d (omega arith)))
    (λ e. omega (arith, two_figures (d - fields) (omega arith)))

operand_field : (x : List ℕ) → operand_fits x ≡ true → at x 0 ≡ a_field → at x operand_number < fields_named
unfolding operand_fits
operand_field x fits e =
    let off : eqb (at x 0) 0 ≡ false = ne_eqb (at x 0) 0 (λ z. omega arith) in
    ltb-true (at x operand_number) fields_named
    (and_right (eqb (at x 0) a_field) (ltb (at x operand_number) fields_named) (passed_true (eqb (at x 0) 0) true (eqb (at x 0) a_field && ltb (at x operand_number) fields_named) fits off))

operand_short : (x : List ℕ) → operand_fits x ≡ true → length (shown_operand x) ≤ digits
unfolding shown_operand
operand_short x fits =
    by_choice (λ (w : List ℕ). length w ≤ digits) (eqb (at x 0) a_field) (shown_field (at x operand_number)) (shown (at x operand_number))
    (λ e. omega (arith, field_short (at x operand_number) (operand_field x fits (eqb-true (at x 0) a_field e))))
    (λ e. shown_short (at x operand_number))

pair_short : (s : ℕ) (x : List ℕ) → operand_fits (drop left_place x) ≡ true → operand_fits (drop right_place x) ≡ true → length (shown_pair s x) ≤ pair_most
unfolding shown_pair
pair_short s x l r =
    omega (
      arith,
      length-append (shown_operand (drop left_place x)) (s ∷ shown_operand (drop right_place x)),
      operand_short (drop left_place x) l,
      operand_short (drop right_place x) r,
    )

-- AN EXPRESSION: its operands fit
module _ (x : List ℕ) (fits : expression_fits x ≡ true) where
  abbrev lone : Bool
  lone = operand_fits (drop left_place x) && zeros (drop right_place x) operand_words

  abbrev formed : Bool
  formed = within plus minus (at x form_place)

  abbrev two : Bool
  two = formed && operand_fits (drop left_place x) && operand_fits (drop right_place x)

  both_fit : (at x form_place ≡ single → ⊥) → (operand_fits (drop left_place x) ≡ true) × (operand_fits (drop right_place x) ≡ true)
  unfolding expression_fits
  both_fit n =
      let h : two ≡ true = passed_true (eqb (at x form_place) single) lone two fits (ne_eqb (at x form_place) single n) in
      (and_right formed (operand_fits (drop left_place x)) (and_left (formed && operand_fits (drop left_place x)) (operand_fits (drop right_place x)) h), and_right (formed && operand_fits (drop left_place x)) (operand_fits (drop right_place x)) h)

  left_fits : operand_fits (drop left_place x) ≡ true
  unfolding expression_fits
  left_fits =
      by_test (eqb (at x form_place) single)
      (λ e. and_left (operand_fits (drop left_place x)) (zeros (drop right_place x) operand_words) (chosen_true (eqb (at x form_place) single) lone two fits e))
      (λ e. let h : two ≡ true = passed_true (eqb (at x form_place) single) lone two fits e in and_right formed (operand_fits (drop left_place x)) (and_left (formed && operand_fits (drop left_place x)) (operand_fits (drop right_place x)) h))

  pub expression_short : length (shown_expression x) ≤ pair_most
  unfolding shown_expression
  expression_short =
      by_choice (λ (w : List ℕ). length w ≤ pair_most) (eqb (at x form_place) plus) (shown_pair (code "+") x) _
      (λ e. let f = eqb-true (at x form_place) plus e in let b = both_fit (λ z. omega arith) in pair_short (code "+") x b.0 b.1)
      (λ o.
      by_choice (λ (w : List ℕ). length w ≤ pair_most) (eqb (at x form_place) minus) (shown_pair (code "-") x) (shown_operand (drop left_place x))
      (λ e. let f = eqb-true (at x form_place) minus e in let b = both_fit (λ z. omega arith) in pair_short (code "-") x b.0 b.1)
      (λ e. omega (arith, operand_short (drop left_place x) left_fits)))

pub item_short : (receives : ℕ) (x : List ℕ) → item_fits receives x ≡ true → length (shown_item x) ≤ pair_most
unfolding shown_item item_fits bind_fits
item_short receives x fits =
    let bound : Bool = if eqb receives none then false or_else bind_fits x in
    by_choice (λ (w : List ℕ). length w ≤ pair_most) (eqb (at x form_place) binding) (code "?" ∷ shown_field (at x (left_place + operand_number))) (shown_expression x)
    (λ e.
    let h : bound ≡ true = chosen_true (eqb (at x form_place) binding) bound (expression_fits x) fits e in
    let g : bind_fits x ≡ true = by_test (eqb receives none)
    (λ y. absurd (false≢true (chosen_true (eqb receives none) false (bind_fits x) h y)))
    (λ y. passed_true (eqb receives none) false (bind_fits x) h y) in
    let small = ltb-true (at x (left_place + operand_number)) fields_named
    (and_right (eqb (at x left_place) a_field) (ltb (at x (left_place + operand_number)) fields_named)
    (and_left (eqb (at x left_place) a_field && ltb (at x (left_place + operand_number)) fields_named) (zeros (drop right_place x) operand_words) g)) in
    omega (arith, field_short (at x (left_place + operand_number)) small))
    (λ e. expression_short x (passed_true (eqb (at x form_place) binding) bound (expression_fits x) fits e))

pub condition_short : (conditions : ℕ) (x : List ℕ) → condition_fits conditions x ≡ true → length (shown_condition x) ≤ pair_most
unfolding shown_condition condition_fits
condition_short conditions x fits =
    let blank : Bool = zeros (drop left_place x) (operand_words + operand_words) in
    let formed : Bool = within equals below (at x form_place) in
    let left : Bool = operand_fits (drop left_place x) in
    let right : Bool = operand_fits (drop right_place x) in
    let compared : Bool = formed && left && right in
    let others : Bool = if eqb (at x form_place) default then eqb conditions many && blank or_else compared in
    by_choice (λ (w : List ℕ). length w ≤ pair_most) (eqb (at x form_place) always) (bytes "true") _ (λ e. omega arith)
    (λ o.
    let h : others ≡ true = passed_true (eqb (at x form_place) always) blank others fits o in
    by_choice (λ (w : List ℕ). length w ≤ pair_most) (eqb (at x form_place) default) (bytes "default") _ (λ e. omega arith)
    (λ e.
    let g : compared ≡ true = passed_true (eqb (at x form_place) default) (eqb conditions many && blank) compared h e in
    let l : left ≡ true = and_right formed left (and_left (formed && left) right g) in
    let r : right ≡ true = and_right (formed && left) right g in
    both_short (eqb (at x form_place) equals) (shown_pair (code "=") x) (shown_pair (code "<") x) pair_most (pair_short (code "=") x l r) (pair_short (code "<") x l r)))

pub mode_short : (m : ℕ) → length (shown_mode m) ≤ mode_most
unfolding shown_mode
mode_short m =
    both_short (eqb m a) (bytes "a") _ mode_most (omega arith) (both_short (eqb m na_c) (bytes "na_c") (bytes "na_nc") mode_most (omega arith) (omega arith))

pub assignment_short : (x : List ℕ) → assignment_fits x ≡ true → length (shown_assignment x) ≤ assignment_most
unfolding shown_assignment assignment_fits
assignment_short x fits =
    omega (
      arith,
      length-append (shown_field (at x 0)) (code ":" ∷ code "=" ∷ shown_expression (drop assigned_in x)),
      field_short (at x 0) (ltb-true (at x 0) fields_named (and_left (ltb (at x 0) fields_named) (expression_fits (drop assigned_in x)) fits)),
      expression_short (drop assigned_in x) (and_right (ltb (at x 0) fields_named) (expression_fits (drop assigned_in x)) fits),
    )

-- n pieces between signs, with commas between them
pub listed_short : (opener closer : ℕ) (f : ℕ → List ℕ) (most n : ℕ) → ((k : ℕ) → k < n → length (f k) ≤ most) → length (enclosed_by opener closer (commas f n)) ≤ n * (most + 1) - 1 + 2
listed_short opener closer f most n h =
    omega (arith, between_long opener closer (commas f n), separated_short (code ",") f most n h)

-- some of them, each beside the figures of a number
pub figured_short : (f : ℕ → List ℕ) (w : ℕ → ℕ) (most n : ℕ) → 1 ≤ n → ((k : ℕ) → k < n → length (f k) ≤ most + w k) → length (commas f n) + 1 ≤ n * (most + 1) + sum w n
figured_short f w most n some h =
    omega (
      arith,
      separated_some (code ",") f (λ k. most + 1 + w k) n some (λ k l. omega (arith, h k l)),
      sum_add (λ k. most + 1) w n,
      sum_le (λ k. most + 1) (most + 1) n (λ k l. omega arith),
    )
