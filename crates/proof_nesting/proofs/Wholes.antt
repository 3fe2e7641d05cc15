-- THE OTHER WAY ROUND: a move of an element that has exits loses no more than it gains, so that its weight stays. Assumes nothing.
use Prim.Native.Nat.{ℕ, ◌+◌, ◌≤◌, ◌<◌}
use mathlib.Core.Path.{◌≡◌, refl, sym, ◌∙◌, ap}
use mathlib.Core.Bool.{Bool, true, false, not, ◌||◌}
use mathlib.Core.List.{List}
use mathlib.Core.Logic.{◌⊎◌, inl, inr}
use native.Mathlib.Omega.{arith}
use lib.Dec.{eqb, leb}
use borrow.Author.Tests.{eqb-true, eqb-false, eq-eqb, ne_eqb, leb-true, not-true}
use Rattle.base_words.specs.Each.{each}
use Rattle.base_words.specs.Pick.{if◌then◌or_else◌}
use Rattle.base_words.specs.Sum.{sum, one_if}
use Rattle.base_words.proofs.SumLaws.{sum_ext, sum_mono, sum-zero}
use Rattle.base_kinds.specs.declared.moves.Move.{Move}
use Rattle.base_kinds.specs.Kinds.{none, kind_of, end, xor_split, event_based}
use Rattle.base_kinds.specs.Moves.{every, branch, making, clearing, move_of}
use Rattle.base_table.specs.Table.{entry_count, exit_count, entry_at, exit_at}
use Rattle.meaning.specs.Requirements.{touched, first_touched}
use Rattle.proof_steps.proofs.Rows.{row_kind}
use Rattle.proof_steps.proofs.Choices.{by_test, chosen_true, passed_true}
use Rattle.proof_nesting.proofs.Weights.{putting, taking, some, some_is, sum_one, sum_nil, by_touch, every_row, gained, lost}

module _ (f : ℕ → ℕ) (el : List ℕ) (m : Move) (b : ℕ) where
  pub putting_least : ((m.puts ≡ 0 → ⊥) → (m.puts ≡ every → ⊥) → m.puts ≡ branch) → (m.puts ≡ every → 1 ≤ sum (λ j. f (exit_at el j)) (exit_count el)) → (m.puts ≡ branch → 1 ≤ f (exit_at el b)) → some m.puts ≤ putting f el m b
  unfolding putting
  putting_least w p q =
      by_touch (λ a n. some m.puts ≤ sum (λ j. f (exit_at el (a + j))) n) m.puts b (exit_count el)
      (λ e. let h = p e in let s = some_is m.puts (λ z. omega arith) in let g : sum (λ j. f (exit_at el (0 + j))) (exit_count el) ≡ sum (λ j. f (exit_at el j)) (exit_count el) = sum_ext (λ j. f (exit_at el (0 + j))) (λ j. f (exit_at el j)) (exit_count el) (λ j l. let z : 0 + j ≡ j = omega arith in ap (λ y. f (exit_at el y)) z) in omega arith)
      (λ e. let h = q e in let s = some_is m.puts (λ z. omega arith) in let z : b + 0 ≡ b = omega arith in let g = sum_one (λ j. f (exit_at el (b + j))) ∙ ap (λ y. f (exit_at el y)) z in omega arith)
      (λ d e. by_test (eqb m.puts 0) (λ z. let s : some m.puts ≡ 0 = ap (λ t. one_if (not t)) z in omega arith) (λ z. absurd (e (w (eqb-false m.puts 0 z) d))))

  pub taking_most : (m.takes ≡ every → sum (λ j. f (entry_at el j)) (entry_count el) ≤ 1) → (m.takes ≡ branch → f (entry_at el b) ≤ 1) → taking f el m b ≤ some m.takes
  unfolding taking
  taking_most p q =
      by_touch (λ a n. sum (λ j. f (entry_at el (a + j))) n ≤ some m.takes) m.takes b (entry_count el)
      (λ e. let h = p e in let s = some_is m.takes (λ z. omega arith) in let g : sum (λ j. f (entry_at el (0 + j))) (entry_count el) ≡ sum (λ j. f (entry_at el j)) (entry_count el) = sum_ext (λ j. f (entry_at el (0 + j))) (λ j. f (entry_at el j)) (entry_count el) (λ j l. let z : 0 + j ≡ j = omega arith in ap (λ y. f (entry_at el y)) z) in omega arith)
      (λ e. let h = q e in let s = some_is m.takes (λ z. omega arith) in let z : b + 0 ≡ b = omega arith in let g = sum_one (λ j. f (entry_at el (b + j))) ∙ ap (λ y. f (entry_at el y)) z in omega arith)
      (λ d e. let g = sum_nil (λ j. f (entry_at el (0 + j))) in omega arith)

  pub taking-none : ((j : ℕ) → j < touched m.takes (entry_count el) → f (entry_at el (first_touched m.takes b + j)) ≡ 0) → taking f el m b ≡ 0
  unfolding taking
  taking-none h = sum-zero (λ j. f (entry_at el (first_touched m.takes b + j))) (touched m.takes (entry_count el)) h

  pub taking_same : (g : ℕ → ℕ) → ((j : ℕ) → j < touched m.takes (entry_count el) → f (entry_at el (first_touched m.takes b + j)) ≡ g (entry_at el (first_touched m.takes b + j))) → taking f el m b ≡ taking g el m b
  unfolding taking
  taking_same g h = sum_ext (λ j. f (entry_at el (first_touched m.takes b + j))) (λ j. g (entry_at el (first_touched m.takes b + j))) (touched m.takes (entry_count el)) h

  pub putting_mono : (g : ℕ → ℕ) → ((e : ℕ) → f e ≤ g e) → putting f el m b ≤ putting g el m b
  unfolding putting
  putting_mono g h = sum_mono (λ j. f (exit_at el (first_touched m.puts b + j))) (λ j. g (exit_at el (first_touched m.puts b + j))) (touched m.puts (exit_count el)) (λ j l. h (exit_at el (first_touched m.puts b + j)))

-- THE ROWS
module _ (k m p : ℕ) where
  abbrev r : Move
  r = move_of k m p

  pub row_whole : (r.also ≡ making → ⊥) → ((kind_of k).exits ≡ none → ⊥) → lost k m p r ≤ gained k m p r
  unfolding each if◌then◌or_else◌ kind_of
  row_whole n goes =
      let h = every_row k m p (λ r. if eqb r.also making then true or_else (if eqb (kind_of r.kind).exits none then true or_else leb (lost k m p r) (gained k m p r))) refl refl in
      let g = every_row k m p (λ r. if eqb r.kind 0 then leb (lost k m p r) (gained k m p r) or_else true) refl refl in
      by_test (eqb r.kind 0)
      (λ e. leb-true _ _ (chosen_true _ _ true g e))
      (λ e.
      let q : r.kind ≡ k = row_kind k m p (eqb-false _ 0 e) in
      leb-true _ _ (passed_true _ true _ (passed_true _ true _ h (ne_eqb _ making n)) (ne_eqb _ none (λ z. goes (ap (λ y. (kind_of y).exits) (sym q) ∙ z)))))

  pub row_puts : (r.puts ≡ 0 → ⊥) → (r.puts ≡ every → ⊥) → r.puts ≡ branch
  unfolding each if◌then◌or_else◌
  row_puts n e =
      let h = every_row k m p (λ r. if eqb r.puts 0 then true or_else (if eqb r.puts every then true or_else eqb r.puts branch)) refl refl in
      eqb-true _ branch (passed_true _ true _ (passed_true _ true _ h (ne_eqb _ 0 n)) (ne_eqb _ every e))

  -- only an xorSplit and an eventBased put on the branch's alone
  pub row_branch : r.puts ≡ branch → (k ≡ xor_split) ⊎ (k ≡ event_based)
  unfolding each if◌then◌or_else◌
  row_branch e =
      let h = every_row k m p (λ r. if eqb r.puts branch then (eqb r.kind xor_split || eqb r.kind event_based) or_else true) refl refl in
      let n = every_row k m p (λ r. if eqb r.puts branch then not (eqb r.kind 0) or_else true) refl refl in
      let c = eq-eqb _ branch e in
      let q : r.kind ≡ k = row_kind k m p (eqb-false _ 0 (not-true _ (chosen_true _ _ true n c))) in
      either r.kind q (chosen_true _ _ true h c)
    where
      either : (y : ℕ) → y ≡ k → (eqb y xor_split || eqb y event_based) ≡ true → (k ≡ xor_split) ⊎ (k ≡ event_based)
      either y q h = go (eqb y xor_split) refl (eqb y event_based) refl h
        where
          go : (a : Bool) → eqb y xor_split ≡ a → (b : Bool) → eqb y event_based ≡ b → a || b ≡ true → (k ≡ xor_split) ⊎ (k ≡ event_based)
          go true e b f h = inl (sym q ∙ eqb-true y xor_split e)
          go false e true f h = inr (sym q ∙ eqb-true y event_based f)
          go false e false f h = absurd (mathlib.Core.Bool.false≢true h)

  -- an end takes every entry and puts nothing
  pub row_end : (r.kind ≡ 0 → ⊥) → k ≡ end → (r.takes ≡ every) × (r.puts ≡ 0) × (r.also ≡ 0)
  unfolding each if◌then◌or_else◌
  row_end there is =
      let h = every_row k m p (λ r. if eqb r.kind end then eqb r.takes every or_else true) refl refl in
      let g = every_row k m p (λ r. if eqb r.kind end then eqb r.puts 0 or_else true) refl refl in
      let a = every_row k m p (λ r. if eqb r.kind end then eqb r.also 0 or_else true) refl refl in
      let c = eq-eqb r.kind end (row_kind k m p there ∙ is) in
      (eqb-true _ every (chosen_true _ _ true h c), eqb-true _ 0 (chosen_true _ _ true g c), eqb-true _ 0 (chosen_true _ _ true a c))

  -- what clears has no exits; what makes takes nothing and puts on every exit
  pub row_clearing : r.also ≡ clearing → (kind_of k).exits ≡ none
  unfolding each if◌then◌or_else◌ kind_of
  row_clearing e =
      let h = every_row k m p (λ r. if eqb r.also clearing then eqb (kind_of r.kind).exits none or_else true) refl refl in
      let n = every_row k m p (λ r. if eqb r.also clearing then not (eqb r.kind 0) or_else true) refl refl in
      let c = eq-eqb _ clearing e in
      let q : r.kind ≡ k = row_kind k m p (eqb-false _ 0 (not-true _ (chosen_true _ _ true n c))) in
      ap (λ y. (kind_of y).exits) (sym q) ∙ eqb-true _ none (chosen_true _ _ true h c)

  pub row_makes : r.also ≡ making → (r.takes ≡ 0) × (r.puts ≡ every)
  unfolding each if◌then◌or_else◌
  row_makes e =
      let h = every_row k m p (λ r. if eqb r.also making then eqb r.takes 0 or_else true) refl refl in
      let g = every_row k m p (λ r. if eqb r.also making then eqb r.puts every or_else true) refl refl in
      let c = eq-eqb _ making e in
      (eqb-true _ 0 (chosen_true _ _ true h c), eqb-true _ every (chosen_true _ _ true g c))
