-- A step that receives or sends names a branch that has a message: t is a table within the limits. Assumes nothing.
use Prim.Native.Nat.{ℕ, ◌+◌, ◌<◌}
use mathlib.Core.Path.{◌≡◌, sym, ◌∙◌, ap, subst}
use mathlib.Core.Bool.{true, false, ◌||◌}
use mathlib.Core.List.{List}
use lib.Dec.{eqb}
use borrow.Author.Tests.{eqb-true, eqb-false, ne_eqb}
use Rattle.base_words.specs.Pick.{if◌then◌or_else◌}
use Rattle.base_words.specs.Words.{at}
use Rattle.base_kinds.specs.declared.Kind.{Kind}
use Rattle.base_kinds.specs.declared.moves.Move.{Move}
use Rattle.base_kinds.specs.Kinds.{one, many, kind_of, used}
use Rattle.base_kinds.specs.Moves.{branch, on, move_of}
use Rattle.base_table.specs.Places.{exits_place}
use Rattle.base_table.specs.Table.{exit_count, kind_in, mode_in}
use Rattle.meaning.specs.Requirements.{branch_count}
use Rattle.proof_steps.proofs.Choices.{by_test, chosen, passed}
use Rattle.proof_steps.proofs.Rows.{row_kind, row_branch, row_alone, row_each}

module _ (el : List ℕ) (p : ℕ) where
  abbrev m : Move
  m = move_of (kind_in el) (mode_in el) p

  abbrev row : Kind
  row = kind_of (kind_in el)

  pub branch_message : (m.kind ≡ 0 → ⊥) → eqb m.receives on || eqb m.sends on ≡ true → (b : ℕ) → b < branch_count el m → b < used (row.receives + row.sends) (at el exits_place)
  unfolding branch_count exit_count used if◌then◌or_else◌
  branch_message there talks b l =
      let k : m.kind ≡ kind_in el = row_kind (kind_in el) (mode_in el) p there in
      by_test (eqb m.puts branch)
      (λ e.
      let r = row_each (kind_in el) (mode_in el) p talks (eqb-true m.puts branch e) in
      let f : eqb m.takes branch ≡ false = ne_eqb m.takes branch (row_branch (kind_in el) (mode_in el) p (eqb-true m.puts branch e)) in
      let c : branch_count el m ≡ exit_count el = passed (eqb m.takes branch) _ _ f ∙ chosen (eqb m.puts branch) _ _ e in
      let x : row.exits ≡ many = ap (λ y. (kind_of y).exits) (sym k) ∙ r.0 in
      let y : row.receives + row.sends ≡ many = ap (λ y. (kind_of y).receives + (kind_of y).sends) (sym k) ∙ r.1 in
      subst (λ n. b < n) (c ∙ ap (λ z. used z (at el exits_place)) (x ∙ sym y)) l)
      (λ e.
      let r = row_alone (kind_in el) (mode_in el) p talks (eqb-false m.puts branch e) in
      let f : eqb m.takes branch ≡ false = ne_eqb m.takes branch r.0 in
      let c : branch_count el m ≡ 1 = passed (eqb m.takes branch) _ _ f ∙ passed (eqb m.puts branch) _ _ e in
      let y : row.receives + row.sends ≡ one = ap (λ y. (kind_of y).receives + (kind_of y).sends) (sym k) ∙ r.1 in
      subst (λ n. b < n) (c ∙ ap (λ z. used z (at el exits_place)) (sym y)) l)
