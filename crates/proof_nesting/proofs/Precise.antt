-- EXACT WEIGHTS OF A NESTED POOL that weigh the first edge of its start, and that weigh, of the entries of each andJoin, only one that is chosen. Assumes nothing.
use Prim.Native.Nat.{ℕ, ◌≤◌, ◌<◌}
use mathlib.Core.Path.{◌≡◌, sym, ◌∙◌, ap}
use mathlib.Core.Bool.{true, ◌||◌, false≢true}
use mathlib.Core.List.{List}
use native.Mathlib.Omega.{arith}
use lib.Dec.{eqb}
use Rattle.base_kinds.specs.Kinds.{start, start_rcv, and_join}
use Rattle.base_table.specs.Table.{kind_in, entry_count, entry_at}
use Rattle.check_nesting.specs.Nesting.{starts, Nested}
use Rattle.proof_nesting.proofs.Flows.{Sound}
use Rattle.proof_nesting.proofs.Chosen.{chosen}
use Rattle.proof_nesting.proofs.Weighing.{Precise, any_line, w_first, entry_ins, by_flow_lem}

-- an andJoin is no start
join_starts : (el : List ℕ) → kind_in el ≡ and_join → starts el ≡ true → ⊥
unfolding starts
join_starts el is h = false≢true (sym (ap (λ y. eqb y start || eqb y start_rcv) is) ∙ h)

module _ (P : ℕ → List ℕ) (c : ℕ) (sound : Sound P c) (nest : Nested P c) where
  pub exact_first : kind_in (P nest.first) ≡ start → Precise P c sound nest (λ w d. 1 ≤ w (entry_at (P nest.first) 0))
  exact_first is =
      by_flow_lem P c sound nest (any_line P c sound nest) (λ w d. 1 ≤ w (entry_at (P nest.first) 0)) (omega (arith, w_first P c sound nest (any_line P c sound nest) is))

  pub exact_chosen : (pick : ℕ → ℕ) → ((j : ℕ) → j < c → kind_in (P j) ≡ and_join → pick j < entry_count (P j))
      → Precise P c sound nest (λ w d. (j : ℕ) → j < c → kind_in (P j) ≡ and_join → (i : ℕ) → i < entry_count (P j) → (i ≡ pick j → ⊥) → w (entry_at (P j) i) ≡ 0)
  exact_chosen pick right =
      let f = (chosen P c sound pick right nest.runs).0 in
      by_flow_lem P c sound nest f.0 _
      (λ j l is i r n.
      entry_ins P c sound nest f.0 j i l r
      (λ e. join_starts (P j) is (ap (λ y. starts (P y)) e ∙ nest.first-starts))
      (λ e. let k = sym (ap (λ y. kind_in (P y)) e) ∙ is in omega (arith, k, nest.last_ends))
      ∙ f.1 j l is i r n)
