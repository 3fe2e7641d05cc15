-- Operands, expressions and conditions, worked out in the words of an instance and in the paper's state. Assumes nothing.
use Prim.Native.Nat.{ℕ, ◌+◌, ◌<◌}
use mathlib.Core.Path.{◌≡◌, refl, sym, ◌∙◌, ap, ap₂}
use mathlib.Core.Bool.{Bool, true, false, ◌&&◌, false≢true}
use mathlib.Core.List.{List}
use native.Mathlib.Omega.{arith}
use lib.Dec.{eqb, ltb}
use lib.ListN.{drop}
use lib.Seq.{get_or-drop}
use borrow.Author.Tests.{eqb-true, eqb-false, ne_eqb, ltb-true, lt-ltb}
use Rattle.std.specs.Prelude.{None, Some}
use Rattle.base_words.specs.Words.{at}
use Rattle.base_words.specs.Counts.{fields_named}
use Rattle.base_words.proofs.AllLaws.{and_left, and_right}
use Rattle.base_table.specs.Places.{operand_words, a_field, operand_number, form_place, left_place, right_place, single, plus, minus, always, equals, below}
use Rattle.base_table.specs.Places as Places
use Rattle.check_limits.specs.Limits.{within, zeros, operand_fits, expression_fits, condition_fits}
use Rattle.meaning.specs.declared.Truth.{Truth}
use Rattle.meaning.specs.declared.Truth.TheVariants.{True, False, Neither}
use Rattle.meaning.specs.Values.{Value, sum_of, difference_of, equal_of, less_of, is_true, is_false, is_defined, number_in}
use Rattle.meaning.specs.Expressions.{operand_of, expression_of}
use Rattle.meaning.specs.Conditions.{condition_of}
use Rattle.proof_steps.proofs.Choices.{by_test, chosen, passed, chosen_true, passed_true}
use Rattle.paper.specs.Syntax.{number, sum, difference, Cond, default, equal, less}
use Rattle.paper.specs.Evaluation.{operand, worth, truth}
use Rattle.proof_paper.specs.Decoders.{operand_at, exp_at, cond_at, local_of}
use Rattle.proof_paper.proofs.Stores.{inside}

-- a value that is a number, a truth that is the one or the other
pub number_is : (w : Value) (v : ℕ) → is_defined w ≡ true → number_in w ≡ v → w ≡ Some v
unfolding is_defined number_in
number_is (Some x) v e f = ap Some f
number_is None v e f = absurd (false≢true e)

pub true_is : (w : Truth) → is_true w ≡ true → w ≡ True
unfolding is_true
true_is True e = refl
true_is False e = absurd (false≢true e)
true_is Neither e = absurd (false≢true e)

pub false_is : (w : Truth) → is_false w ≡ true → w ≡ False
unfolding is_false
false_is True e = absurd (false≢true e)
false_is False e = refl
false_is Neither e = absurd (false≢true e)

module _ (h : List ℕ) where
  abbrev σ : ℕ → Value
  σ = (local_of h).σd

  -- AN OPERAND at place p of x
  operand_is : (x : List ℕ) (p : ℕ) → operand_fits (drop p x) ≡ true → operand σ (operand_at x p) ≡ operand_of x h p
  unfolding operand operand_at operand_of operand_fits
  operand_is x p fits =
      let a : at (drop p x) 0 ≡ at x p = get_or-drop p x 0 0 ∙ ap (at x) (omega arith) in
      by_test (eqb (at x p) 0)
      (λ e. ap (operand σ) (chosen (eqb (at x p) 0) (number (at x (p + operand_number))) _ e) ∙ sym (chosen (eqb (at x p) 0) _ _ e))
      (λ e.
      let r = passed_true (eqb (at (drop p x) 0) 0) true _ fits (ap (λ y. eqb y 0) a ∙ e) in
      let l : at (drop p x) operand_number < fields_named = ltb-true (at (drop p x) operand_number) fields_named (and_right (eqb (at (drop p x) 0) a_field) (ltb (at (drop p x) operand_number) fields_named) r) in
      let d : at (drop p x) operand_number ≡ at x (p + operand_number) = get_or-drop p x operand_number 0 in
      ap (operand σ) (passed (eqb (at x p) 0) (number (at x (p + operand_number))) _ e)
      ∙ chosen (ltb (at x (p + operand_number)) fields_named) _ None (lt-ltb (at x (p + operand_number)) fields_named (omega (arith, l, d)))
      ∙ sym (passed (eqb (at x p) 0) _ _ e))

  -- AN EXPRESSION
  module _ (x : List ℕ) (fits : expression_fits x ≡ true) where
    left_fits : operand_fits (drop left_place x) ≡ true
    unfolding expression_fits
    left_fits =
        by_test (eqb (at x form_place) single)
        (λ e. and_left (operand_fits (drop left_place x)) (zeros (drop right_place x) operand_words) (chosen_true _ _ _ fits e))
        (λ e. and_right (within plus minus (at x form_place)) (operand_fits (drop left_place x)) (and_left (within plus minus (at x form_place) && operand_fits (drop left_place x)) (operand_fits (drop right_place x)) (passed_true _ _ _ fits e)))

    right_fits : (at x form_place ≡ single → ⊥) → operand_fits (drop right_place x) ≡ true
    unfolding expression_fits
    right_fits ne =
        and_right (within plus minus (at x form_place) && operand_fits (drop left_place x)) (operand_fits (drop right_place x)) (passed_true _ _ _ fits (ne_eqb (at x form_place) single ne))

    pub worth_is : worth σ (exp_at x) ≡ expression_of x h
    unfolding worth exp_at expression_of
    worth_is =
        by_test (eqb (at x form_place) plus)
        (λ e.
        let f : at x form_place ≡ plus = eqb-true (at x form_place) plus e in
        ap (worth σ) (chosen (eqb (at x form_place) plus) (sum (operand_at x left_place) (operand_at x right_place)) _ e)
        ∙ ap₂ sum_of (operand_is x left_place left_fits) (operand_is x right_place (right_fits (λ z. omega arith)))
        ∙ sym (chosen (eqb (at x form_place) plus) _ _ e))
        (λ e.
        ap (worth σ) (passed (eqb (at x form_place) plus) (sum (operand_at x left_place) (operand_at x right_place)) _ e)
        ∙ by_test (eqb (at x form_place) minus)
        (λ d.
        let f : at x form_place ≡ minus = eqb-true (at x form_place) minus d in
        ap (worth σ) (chosen (eqb (at x form_place) minus) (difference (operand_at x left_place) (operand_at x right_place)) _ d)
        ∙ ap₂ difference_of (operand_is x left_place left_fits) (operand_is x right_place (right_fits (λ z. omega arith)))
        ∙ sym (chosen (eqb (at x form_place) minus) _ _ d))
        (λ d.
        ap (worth σ) (passed (eqb (at x form_place) minus) (difference (operand_at x left_place) (operand_at x right_place)) _ d)
        ∙ operand_is x left_place left_fits
        ∙ sym (passed (eqb (at x form_place) minus) _ _ d))
        ∙ sym (passed (eqb (at x form_place) plus) _ _ e))

  -- A CONDITION
  module _ (column : ℕ) (x : List ℕ) (fits : condition_fits column x ≡ true) where
    both_fit : (at x form_place ≡ always → ⊥) → (at x form_place ≡ Places.default → ⊥) → (operand_fits (drop left_place x) ≡ true) × (operand_fits (drop right_place x) ≡ true)
    unfolding condition_fits
    both_fit na nd =
        let r = passed_true (eqb (at x form_place) Places.default) _ _ (passed_true (eqb (at x form_place) always) _ _ fits (ne_eqb (at x form_place) always na)) (ne_eqb (at x form_place) Places.default nd) in (
          and_right (within equals below (at x form_place)) (operand_fits (drop left_place x)) (and_left (within equals below (at x form_place) && operand_fits (drop left_place x)) (operand_fits (drop right_place x)) r),
          and_right (within equals below (at x form_place) && operand_fits (drop left_place x)) (operand_fits (drop right_place x)) r,
        )

    pub truth_is : truth σ (cond_at x) ≡ condition_of x h
    unfolding truth cond_at condition_of
    truth_is =
        by_test (eqb (at x form_place) always)
        (λ e. ap (truth σ) (chosen (eqb (at x form_place) always) Cond.always _ e) ∙ sym (chosen (eqb (at x form_place) always) True _ e))
        (λ e.
        ap (truth σ) (passed (eqb (at x form_place) always) Cond.always _ e)
        ∙ by_test (eqb (at x form_place) equals)
        (λ d.
        let f : at x form_place ≡ equals = eqb-true (at x form_place) equals d in
        let w = both_fit (λ z. omega arith) (λ z. omega arith) in
        ap (truth σ) (chosen (eqb (at x form_place) equals) (equal (operand_at x left_place) (operand_at x right_place)) _ d)
        ∙ ap₂ equal_of (operand_is x left_place w.0) (operand_is x right_place w.1)
        ∙ sym (chosen (eqb (at x form_place) equals) _ _ d))
        (λ d.
        ap (truth σ) (passed (eqb (at x form_place) equals) (equal (operand_at x left_place) (operand_at x right_place)) _ d)
        ∙ by_test (eqb (at x form_place) below)
        (λ c.
        let f : at x form_place ≡ below = eqb-true (at x form_place) below c in
        let w = both_fit (λ z. omega arith) (λ z. omega arith) in
        ap (truth σ) (chosen (eqb (at x form_place) below) (less (operand_at x left_place) (operand_at x right_place)) _ c)
        ∙ ap₂ less_of (operand_is x left_place w.0) (operand_is x right_place w.1)
        ∙ sym (chosen (eqb (at x form_place) below) _ _ c))
        (λ c. ap (truth σ) (passed (eqb (at x form_place) below) (less (operand_at x left_place) (operand_at x right_place)) default c) ∙ sym (passed (eqb (at x form_place) below) _ Neither c))
        ∙ sym (passed (eqb (at x form_place) equals) _ _ d))
        ∙ sym (passed (eqb (at x form_place) always) True _ e))

-- `default` in the words and in the paper's form
is_default : Cond → Bool
is_default Cond.always = false
is_default default = true
is_default (equal x y) = false
is_default (less x y) = false

not_default : (c : Cond) → is_default c ≡ false → c ≡ default → ⊥
unfolding is_default
not_default c e f = false≢true (sym e ∙ ap is_default f)

module _ (x : List ℕ) where
  pub is_default_lem : at x form_place ≡ Places.default → cond_at x ≡ default
  unfolding cond_at
  is_default_lem e =
      passed (eqb (at x form_place) always) _ _ (ne_eqb (at x form_place) always (λ z. omega arith))
      ∙ passed (eqb (at x form_place) equals) _ _ (ne_eqb (at x form_place) equals (λ z. omega arith))
      ∙ passed (eqb (at x form_place) below) _ default (ne_eqb (at x form_place) below (λ z. omega arith))

  pub default_is : (column : ℕ) → condition_fits column x ≡ true → cond_at x ≡ default → at x form_place ≡ Places.default
  unfolding cond_at condition_fits is_default
  default_is column fits e =
      by_test (eqb (at x form_place) Places.default) (λ d. eqb-true (at x form_place) Places.default d)
      (λ d.
      by_test (eqb (at x form_place) always)
      (λ a. absurd (not_default (cond_at x) (ap is_default (chosen (eqb (at x form_place) always) Cond.always _ a)) e))
      (λ a.
      by_test (eqb (at x form_place) equals)
      (λ c. absurd (not_default (cond_at x) (ap is_default (passed (eqb (at x form_place) always) Cond.always _ a ∙ chosen (eqb (at x form_place) equals) (equal (operand_at x left_place) (operand_at x right_place)) _ c)) e))
      (λ c.
      by_test (eqb (at x form_place) below)
      (λ b. absurd (not_default (cond_at x) (ap is_default (passed (eqb (at x form_place) always) Cond.always _ a ∙ passed (eqb (at x form_place) equals) (equal (operand_at x left_place) (operand_at x right_place)) _ c ∙ chosen (eqb (at x form_place) below) (less (operand_at x left_place) (operand_at x right_place)) default b)) e))
      (λ b.
      let r = passed_true (eqb (at x form_place) Places.default) _ _ (passed_true (eqb (at x form_place) always) _ _ fits a) d in
      let w = and_left (within equals below (at x form_place)) (operand_fits (drop left_place x)) (and_left (within equals below (at x form_place) && operand_fits (drop left_place x)) (operand_fits (drop right_place x)) r) in
      absurd (neither w c b)))))
    where
      neither : within equals below (at x form_place) ≡ true → eqb (at x form_place) equals ≡ false → eqb (at x form_place) below ≡ false → ⊥
      neither w c b =
          let i = inside equals below (at x form_place) w in
          eqb-false (at x form_place) below b (omega (arith, i.0, i.1, eqb-false (at x form_place) equals c))
