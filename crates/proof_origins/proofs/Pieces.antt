-- OPERANDS, EXPRESSIONS, CONDITIONS, ITEMS, MODES: the text of the words is the text of what they stand for. Assumes nothing.
use Prim.Native.Char.{code}
use Prim.Native.Nat.{ℕ, zero, suc, ◌+◌, ◌≤◌}
use mathlib.Core.Path.{◌≡◌, refl, sym, ◌∙◌, ap, ap₂}
use mathlib.Core.Bool.{Bool, true, false, ◌&&◌}
use mathlib.Core.List.{List, [], ◌∷◌, ◌++◌}
use native.Mathlib.Omega.{arith}
use lib.Dec.{eqb, ltb}
use lib.ListN.{drop, get_or}
use lib.Seq.{get_or-drop}
use borrow.Author.Tests.{eqb-true, eqb-false, eq-eqb, ne_eqb}
use Rattle.base_words.specs.Pick.{if◌then◌or_else◌}
use Rattle.base_words.specs.Words.{at}
use Rattle.base_words.specs.Counts.{fields_named}
use Rattle.base_words.proofs.AllLaws.{and_left, and_right}
use Rattle.base_kinds.specs.Moves as Row
use Rattle.base_table.specs.Places.{operand_words, a_field, operand_number, form_place, left_place, right_place, single, plus, minus, binding, equals, below}
use Rattle.base_table.specs.Places as Places
use Rattle.check_limits.specs.Limits.{within, zeros, operand_fits, expression_fits, condition_fits}
use Rattle.write_shown.specs.Shown.{shown_field, shown_operand, shown_pair, shown_expression, shown_item, shown_condition, shown_mode}
use Rattle.proof_steps.proofs.Choices.{by_test, chosen, passed, chosen_true, passed_true}
use Rattle.paper.specs.Syntax.{number, field, a, na_c, na_nc}
use Rattle.proof_paper.specs.Decoders.{operand_at, exp_at, cond_at, item_of}
use Rattle.proof_paper.proofs.Stores.{inside}
use Rattle.proof_origins.specs.Display.{field_text, operand_text, two_text, exp_text, item_text, cond_text, mode_text}
use Rattle.proof_origins.proofs.Lists.{each_way}

module _ (x : List ℕ) where
  -- AN OPERAND at place p
  operand_text_lem : (p : ℕ) → operand_fits (drop p x) ≡ true → shown_operand (drop p x) ≡ operand_text (operand_at x p)
  unfolding shown_operand shown_field operand_text field_text operand_at operand_fits
  operand_text_lem p fits =
      let u : at (drop p x) 0 ≡ at x p = get_or-drop p x 0 0 ∙ ap (at x) (omega arith) in
      let w : at (drop p x) operand_number ≡ at x (p + operand_number) = get_or-drop p x operand_number 0 in
      by_test (eqb (at x p) 0)
      (λ e.
      passed (eqb (at (drop p x) 0) a_field) _ (operand_text (number (at (drop p x) operand_number))) (ap (λ y. eqb y a_field) (u ∙ eqb-true (at x p) 0 e))
      ∙ ap (λ v. operand_text (number v)) w
      ∙ sym (ap operand_text (chosen (eqb (at x p) 0) (number (at x (p + operand_number))) _ e)))
      (λ e.
      let r = passed_true (eqb (at (drop p x) 0) 0) true _ fits (ap (λ y. eqb y 0) u ∙ e) in
      chosen (eqb (at (drop p x) 0) a_field) (shown_field (at (drop p x) operand_number)) _ (and_left (eqb (at (drop p x) 0) a_field) (ltb (at (drop p x) operand_number) fields_named) r)
      ∙ ap shown_field w
      ∙ sym (ap operand_text (passed (eqb (at x p) 0) _ (field (at x (p + operand_number))) e)))

  pair_text : (s : ℕ) → operand_fits (drop left_place x) ≡ true → operand_fits (drop right_place x) ≡ true → shown_pair s x ≡ two_text s (operand_at x left_place) (operand_at x right_place)
  unfolding shown_pair two_text
  pair_text s l r = ap₂ (λ u v. u ++ (s ∷ v)) (operand_text_lem left_place l) (operand_text_lem right_place r)

  abbrev form : ℕ
  form = at x form_place

  abbrev L : Bool
  L = operand_fits (drop left_place x)

  abbrev R : Bool
  R = operand_fits (drop right_place x)

  -- two operands joined, the form from low to high
  module _ (low high : ℕ) (fits : within low high form && L && R ≡ true) where
    form_is : (low ≤ form) × (form ≤ high)
    form_is = inside low high form (and_left (within low high form) L (and_left (within low high form && L) R fits))

    two_text_lem : (s : ℕ) → shown_pair s x ≡ two_text s (operand_at x left_place) (operand_at x right_place)
    two_text_lem s = pair_text s (and_right (within low high form) L (and_left (within low high form && L) R fits)) (and_right (within low high form && L) R fits)

  -- AN EXPRESSION
  module _ (fits : expression_fits x ≡ true) where
    two_fit : (form ≡ single → ⊥) → within plus minus form && L && R ≡ true
    unfolding expression_fits
    two_fit ne = passed_true (eqb form single) _ _ fits (ne_eqb form single ne)

    alone_fits : eqb form plus ≡ false → eqb form minus ≡ false → L ≡ true
    unfolding expression_fits
    alone_fits p m =
        by_test (eqb form single)
        (λ y. and_left L (zeros (drop right_place x) operand_words) (chosen_true (eqb form single) _ _ fits y))
        (λ y. let b = form_is plus minus (two_fit (eqb-false form single y)) in absurd (omega (arith, b.0, b.1, eqb-false form plus p, eqb-false form minus m)))

    pub expression_text : shown_expression x ≡ exp_text (exp_at x)
    unfolding shown_expression exp_text exp_at
    expression_text =
        each_way exp_text (eqb form plus) _ _ _ _
        (λ e. two_text_lem plus minus (two_fit (λ q. omega (arith, eqb-true form plus e))) (code "+"))
        (λ e.
        each_way exp_text (eqb form minus) _ _ _ _
        (λ m. two_text_lem plus minus (two_fit (λ q. omega (arith, eqb-true form minus m))) (code "-"))
        (λ m. operand_text_lem left_place (alone_fits e m)))

  -- AN ITEM, received or sent
  pub item_text_lem : (eqb form binding ≡ false → expression_fits x ≡ true) → shown_item x ≡ item_text (item_of x)
  unfolding shown_item item_text item_of shown_field field_text
  item_text_lem fits = each_way item_text (eqb form binding) _ _ _ _ (λ e. refl) (λ e. expression_text (fits e))

  pub sent_text : eqb form binding ≡ false → expression_fits x ≡ true → shown_item x ≡ exp_text (exp_at x)
  unfolding shown_item
  sent_text e fits = passed (eqb form binding) _ _ e ∙ expression_text fits

  -- A CONDITION
  module _ (c : ℕ) (fits : condition_fits c x ≡ true) where
    joined_fit : eqb form Places.always ≡ false → eqb form Places.default ≡ false → within equals below form && L && R ≡ true
    unfolding condition_fits
    joined_fit e d = passed_true (eqb form Places.default) _ _ (passed_true (eqb form Places.always) _ _ fits e) d

    pub condition_text : shown_condition x ≡ cond_text (cond_at x)
    unfolding shown_condition cond_text cond_at
    condition_text =
        each_way cond_text (eqb form Places.always) _ _ _ _ (λ e. refl)
        (λ e.
        by_test (eqb form Places.default)
        (λ d.
        let v = eqb-true form Places.default d in
        chosen (eqb form Places.default) _ _ d
        ∙ sym (ap cond_text (passed (eqb form equals) _ _ (ne_eqb form equals (λ q. omega arith)) ∙ passed (eqb form below) _ _ (ne_eqb form below (λ q. omega arith)))))
        (λ d.
        let w = joined_fit e d in
        let b = form_is equals below w in
        passed (eqb form Places.default) _ _ d
        ∙ each_way cond_text (eqb form equals) _ _ _ _
        (λ q. two_text_lem equals below w (code "="))
        (λ q.
        two_text_lem equals below w (code "<")
        ∙ sym (ap cond_text (chosen (eqb form below) _ _ (eq-eqb form below (omega (arith, b.0, b.1, eqb-false form equals q))))))))

-- A MODE
pub mode_text_lem : (k : ℕ) → k ≤ Row.na_nc → (k ≡ 0 → ⊥) → shown_mode k ≡ mode_text (get_or (a ∷ a ∷ na_c ∷ na_nc ∷ []) k a)
unfolding shown_mode mode_text if◌then◌or_else◌
mode_text_lem zero l z = absurd (z refl)
mode_text_lem (suc zero) l z = refl
mode_text_lem (suc (suc zero)) l z = refl
mode_text_lem (suc (suc (suc zero))) l z = refl
mode_text_lem (suc (suc (suc (suc k)))) l z = absurd (omega arith)
