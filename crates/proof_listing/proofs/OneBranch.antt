-- AT MOST ONE BRANCH of an xorSplit is permitted in a state: two accepted steps of an instance at it are one, and it stands in the listing at most once. Assumes nothing.
use Prim.Native.Nat.{ℕ, ◌<◌}
use mathlib.Core.Path.{◌≡◌, sym, ◌∙◌, subst}
use mathlib.Core.Bool.{true, false, false≢true}
use mathlib.Core.List.{List}
use native.Mathlib.Omega.{arith}
use lib.Dec.{eqb, ltb}
use borrow.Author.Tests.{eqb-true, eqb-false, eq-eqb, ne_eqb, ltb-true, ltb-false}
use Rattle.base_words.specs.All.{all}
use Rattle.base_words.specs.Pick.{if◌then◌or_else◌}
use Rattle.base_words.specs.Words.{at}
use Rattle.base_words.proofs.AllLaws.{and_left, and_right, all_at}
use Rattle.base_kinds.specs.declared.moves.Move.{Move}
use Rattle.base_kinds.specs.Kinds.{xor_split}
use Rattle.base_kinds.specs.Moves.{branch, on}
use Rattle.base_table.specs.Places.{form_place, default}
use Rattle.base_table.specs.Table.{element_at, pool_of, exit_count, kind_in, mode_in, condition_at}
use Rattle.check_limits.specs.Limits.{table_fits}
use Rattle.check_model.specs.Checks.{lowest}
use Rattle.check_lowest.specs.Model.{model_of}
use Rattle.state_fits.specs.Fits.{state_fits}
use Rattle.meaning.specs.declared.Truth.{Truth}
use Rattle.meaning.specs.declared.Truth.TheVariants.{True, False, Neither}
use Rattle.meaning.specs.declared.Tuple.{Tuple}
use Rattle.meaning.specs.declared.Evaluated.{Evaluated}
use Rattle.meaning.specs.declared.Name.{Name}
use Rattle.meaning.specs.Values.{is_true, is_false}
use Rattle.meaning.specs.Tuples.{empty, same_tuple}
use Rattle.meaning.specs.Conditions.{condition_of, default_at, left_out, other_false, holds}
use Rattle.meaning.specs.Requirements.{branch_count, granted}
use Rattle.meaning.specs.Changes.{expected}
use Rattle.meaning.specs.Step.{site_of, element_named, move_named, exists, template, matches}
use Rattle.step_values.proofs.TupleLaws.{same_sym, same_trans}
use Rattle.step_names.specs.Names.{accepted}
use Rattle.step_list.specs.Listing.{listed, chosen}
use Rattle.proof_steps.proofs.Choices.{by_test, passed, chosen_true, passed_true, chosen as picked}
use Rattle.proof_steps.proofs.AcceptedParts.{Accepted, accepted_parts}
use Rattle.proof_steps.proofs.Found.{Found, found}
use Rattle.proof_steps.proofs.Rows.{row_kind, row_branch}
use Rattle.proof_listing.proofs.MoveRows.{split_row, row_phase}
use Rattle.proof_listing.proofs.ListedAll.{listed-accepted}
use Rattle.proof_listing.proofs.ListedTidy.{listed_apart}

-- no condition is both true and false, and the default's by itself is neither
not_both : (x : Truth) → is_true x ≡ true → is_false x ≡ true → ⊥
unfolding is_true is_false
not_both True t f = false≢true f
not_both False t f = false≢true t
not_both Neither t f = false≢true t

module _ (el h : List ℕ) where
  abbrev is : ℕ → Truth
  is b = condition_of (condition_at el b) h

  default_neither : (b : ℕ) → default_at el b ≡ true → is_false (is b) ≡ true → ⊥
  unfolding default_at condition_of is_false if◌then◌or_else◌
  default_neither b d f = let e = eqb-true (at (condition_at el b) form_place) default d in false≢true (rw e at f)

  own_true : (b : ℕ) → holds el h b ≡ true → default_at el b ≡ false → is_true (is b) ≡ true
  unfolding holds
  own_true b p d = and_left (is_true (is b)) (all (other_false el h b) b) (passed_true (default_at el b) _ _ p d)

  -- the default shuts every other one out
  default_alone : (b c : ℕ) → b < exit_count el → (b ≡ c → ⊥) → default_at el c ≡ true → holds el h b ≡ true → holds el h c ≡ true → ⊥
  unfolding holds other_false left_out
  default_alone b c l ne d p r =
      let out : left_out el c b ≡ false = picked (default_at el c) (eqb b c) (default_at el b) d ∙ ne_eqb b c ne in
      let f : is_false (is b) ≡ true = passed_true (left_out el c b) true _ (all_at (other_false el h c) (exit_count el) (chosen_true (default_at el c) _ _ r d) b l) out in
      by_test (default_at el b) (λ y. default_neither b y f) (λ y. not_both (is b) (own_true b p y) f)

  -- an earlier true one shuts a later one out
  earlier_first : (b c : ℕ) → b < c → default_at el b ≡ false → default_at el c ≡ false → holds el h b ≡ true → holds el h c ≡ true → ⊥
  unfolding holds other_false left_out
  earlier_first b c l d e p r =
      let out : left_out el c b ≡ false = passed (default_at el c) (eqb b c) (default_at el b) e ∙ d in
      let w = and_right (is_true (is c)) (all (other_false el h c) c) (passed_true (default_at el c) _ _ r e) in
      not_both (is b) (own_true b p d) (passed_true (left_out el c b) true _ (all_at (other_false el h c) c w b l) out)

  -- ONE BRANCH
  pub one_holds : (b c : ℕ) → b < exit_count el → c < exit_count el → holds el h b ≡ true → holds el h c ≡ true → b ≡ c
  one_holds b c l m p r =
      by_test (eqb b c) (λ e. eqb-true b c e)
      (λ e.
      let ne : b ≡ c → ⊥ = eqb-false b c e in
      by_test (default_at el c) (λ d. absurd (default_alone b c l ne d p r))
      (λ d.
      by_test (default_at el b) (λ y. absurd (default_alone c b m (λ z. ne (sym z)) y r p))
      (λ y.
      by_test (ltb b c) (λ o. absurd (earlier_first b c (ltb-true b c o) y d p r))
      (λ o. absurd (earlier_first c b (omega (arith, ltb-false b c o, ne)) d y r p)))))

-- AN ACCEPTED STEP at an xorSplit
module _ (t s q : List ℕ) (n : Name) (split : kind_in (element_named t n) ≡ xor_split) (there : exists t s n ≡ true) (a : Accepted (site_of t s n) q) where
  abbrev el : List ℕ
  el = element_named t n

  abbrev m : Move
  m = move_named t n

  f : Found t s n
  f = found t s n there

  row : (m.puts ≡ branch) × (m.asks ≡ on) × (m.receives ≡ 0) × (m.phase ≡ 0)
  unfolding move_named
  row = split_row (kind_in el) (mode_in el) n.phase (row_kind (kind_in el) (mode_in el) n.phase f.move ∙ split)

  pub split_phase : n.phase ≡ 0
  unfolding move_named
  split_phase = sym (row_phase (kind_in el) (mode_in el) n.phase f.move) ∙ row.3

  pub split_few : n.branch < exit_count el
  unfolding branch_count move_named
  split_few =
      subst (λ k. n.branch < k)
      (passed (eqb m.takes branch) _ _ (ne_eqb m.takes branch (row_branch (kind_in el) (mode_in el) n.phase row.0))
      ∙ picked (eqb m.puts branch) (exit_count el) 1 (eq-eqb m.puts branch row.0)) f.branch

  pub split_holds : holds el (site_of t s n).instance n.branch ≡ true
  unfolding granted site_of
  split_holds = chosen_true (eqb m.asks on) _ true a.grants (eq-eqb m.asks on row.1)

  -- no values are given
  pub split_given : same_tuple empty n.given ≡ true
  unfolding matches template expected site_of
  split_given =
      subst (λ (v : Evaluated). same_tuple v.tuple n.given ≡ true) (passed (eqb m.receives on) _ _ (ne_eqb m.receives on (λ z. omega (arith, z, row.2)))) a.matched

abbrev pub with_branch : Name → ℕ → Tuple → Name
with_branch n b g = record { pool = n.pool; instance = n.instance; element = n.element; phase = n.phase; branch = b; given = g }

-- TWO ACCEPTED STEPS that agree but for branch and values
pub one_branch : (t s q : List ℕ) (n : Name) (b : ℕ) (g : Tuple) → kind_in (element_named t n) ≡ xor_split → exists t s n ≡ true → Accepted (site_of t s n) q
    → exists t s (with_branch n b g) ≡ true → Accepted (site_of t s (with_branch n b g)) q → n.branch ≡ b
unfolding site_of element_named move_named
one_branch t s q n b g split e a f c =
    one_holds (element_named t n) (site_of t s n).instance n.branch b (split_few t s q n split e a) (split_few t s q (with_branch n b g) split f c)
    (split_holds t s q n split e a) (split_holds t s q (with_branch n b g) split f c)

-- IN THE LISTING an instance has at most one step at an xorSplit
module _ (t s q : List ℕ) (fits : table_fits t ≡ true) (sound : lowest (model_of t) ≡ 0) (state : state_fits t s q ≡ true) where
  pub listed_one_branch : (j k : ℕ) → (chosen (listed t s q) j).number ≡ 0 → (chosen (listed t s q) k).number ≡ 0
      → (chosen (listed t s q) j).name.pool ≡ (chosen (listed t s q) k).name.pool
      → (chosen (listed t s q) j).name.instance ≡ (chosen (listed t s q) k).name.instance
      → (chosen (listed t s q) j).name.element ≡ (chosen (listed t s q) k).name.element
      → kind_in (element_named t (chosen (listed t s q) j).name) ≡ xor_split → j ≡ k
  unfolding accepted element_named
  listed_one_branch j k d e pool instance element split =
      let x : Name = (chosen (listed t s q) j).name in
      let y : Name = (chosen (listed t s q) k).name in
      let a = accepted_parts t s q x (eqb-true _ 0 (listed-accepted t s q j d)) in
      let b = accepted_parts t s q y (eqb-true _ 0 (listed-accepted t s q k e)) in
      let other : kind_in (element_named t y) ≡ xor_split = (λ i. kind_in (element_at t (pool_of t (sym pool i)) (sym element i))) ∙ split in
      let phase : x.phase ≡ y.phase = split_phase t s q x split a.0 a.1 ∙ sym (split_phase t s q y other b.0 b.1) in
      let same : y ≡ with_branch x y.branch y.given =
      λ i. record { pool = sym pool i; instance = sym instance i; element = sym element i; phase = sym phase i; branch = y.branch; given = y.given } in
      let one : x.branch ≡ y.branch =
      one_branch t s q x y.branch y.given split a.0 a.1 (subst (λ (n : Name). exists t s n ≡ true) same b.0) (subst (λ (n : Name). Accepted (site_of t s n) q) same b.1) in
      listed_apart t s q fits sound state j k d e
      (λ i. record { pool = pool i; instance = instance i; element = element i; phase = phase i; branch = one i; given = empty })
      (same_trans x.given empty y.given (same_sym x.given empty ∙ split_given t s q x split a.0 a.1) (split_given t s q y other b.0 b.1))
