-- Branches stored: with a condition each, and with a template each. Assumes nothing.
use Prim.Native.Char.{code}
use Prim.Native.Nat.{ℕ, ◌+◌, ◌-◌, ◌/◌, ◌≤◌, ◌<◌}
use mathlib.Core.Path.{◌≡◌, ◌∙◌, refl, ap}
use mathlib.Core.Bool.{true}
use mathlib.Core.List.{List}
use mathlib.Core.Logic.{inl, inr, ⊎_elim}
use native.Mathlib.Omega.{arith}
use lib.ListN.{drop}
use Rattle.base_words.specs.Counts.{fewest, branches, edges}
use Rattle.base_words.specs.Pick.{if◌then◌or_else◌}
use Rattle.base_words.specs.Words.{at, greatest}
use Rattle.base_kinds.specs.Kinds.{none, many}
use Rattle.base_table.specs.Places.{element_words, exits_place, edge_place, condition_place, message_place, expression_words, message_words}
use Rattle.check_limits.specs.Limits.{things, edges_fit, condition_fits, message_fits}
use Rattle.text_readers.specs.Reading.{starts_sign}
use Rattle.text_parts.specs.Parts.{guarded_list, guarded, item_of, starts, series, receiving, receiving_branches}
use Rattle.proof_roundtrip.proofs.ReadsLaws.{Both}
use Rattle.proof_roundtrip.proofs.NumberReads.{Span}
use Rattle.proof_roundtrip.proofs.FitLaws.{edges_most}
use Rattle.check_limits.proofs.SameLaws.{things_same, edges_same, condition_same, message_same}
use Rattle.proof_roundtrip.proofs.FillLaws.{Fills, span_region, either_region, idle_sign, fills_then, fills_before, fills_behind, fills_wider}
use Rattle.proof_roundtrip.proofs.WordFills.{Ranged, fills_number}
use Rattle.proof_roundtrip.proofs.ExpressionFills.{tail_same, fills_condition}
use Rattle.proof_roundtrip.proofs.ListFills.{things_of, region_cases, fills_all, fills_series}
use Rattle.proof_roundtrip.proofs.EdgeFills.{count_many, edges_of}
use Rattle.proof_roundtrip.proofs.MessageFills.{fills_template}

in_words : exits_place < element_words
in_words = omega arith

few : branches ≤ greatest
few = omega arith

-- BRANCHES WITH A CONDITION
abbrev pub Guarded : List ℕ → Type 0
Guarded y = (edges_fit many (drop exits_place y) ≡ true) × (things (drop (condition_place 0) y) expression_words branches (at y exits_place) (condition_fits many) ≡ true)

guarded_local : (y z : List ℕ) → ((i : ℕ) → Span exits_place 49 i → at z i ≡ at y i) → Guarded y → Guarded z
guarded_local y z s g =
    let e : at z exits_place ≡ at y exits_place = s exits_place (omega arith, omega arith) in
    let m = edges_most y many exits_place g.0 (omega arith) in (
      edges_same (drop exits_place y) (drop exits_place z) many (omega arith) (tail_same y z exits_place 9 (λ i r. s i (r.0, omega (arith, r.1)))) ∙ g.0,
      ap (λ (n : ℕ). things (drop (condition_place 0) z) expression_words branches n (condition_fits many)) e
          ∙ things_same (drop (condition_place 0) y) (drop (condition_place 0) z) expression_words branches (at y exits_place) 40 (condition_fits many) (λ j l. omega (arith, l, m)) (omega (arith, m))
          (λ c d e. condition_same c d many e) (tail_same y z (condition_place 0) 40 (λ i r. s i (omega (arith, r.0), omega (arith, r.1))))
          ∙ g.1,
    )

abbrev Place : ℕ → ℕ → Type 0
Place j = Both (λ i. i ≡ edge_place exits_place j) (Span (condition_place j) 5)

abbrev Right : ℕ → List ℕ → Type 0
Right j y = Ranged 1 edges (edge_place exits_place j) y × (condition_fits many (drop (condition_place j) y) ≡ true)

each_guarded : (j : ℕ) → j < branches → Fills (item_of guarded_list j) (Place j) (Right j)
unfolding item_of guarded if◌then◌or_else◌
each_guarded j l =
    fills_behind (idle_sign (code "("))
    (fills_then (fills_number 1 edges (edge_place exits_place j) (omega (arith, l)) (omega arith))
    (fills_behind (idle_sign (code ",")) (fills_before (fills_condition (condition_place j) (omega (arith, l)) many true (λ e. refl)) (idle_sign (code ")"))))
    (λ i e s. omega (arith, e, s.0, l)))

guarded_apart : (j k i : ℕ) → j < k → k < branches → Place j i → Place k i → ⊥
guarded_apart j k i l u =
    ⊎_elim (λ a. ⊎_elim (λ b. omega (arith, a, b, l)) (λ b. omega (arith, a, b.0, l, u))) (λ a. ⊎_elim (λ b. omega (arith, a.0, b, l, u)) (λ b. omega (arith, a.1, b.0, l)))

guarded_outside : (j : ℕ) → j < branches → Place j exits_place → ⊥
guarded_outside j l = ⊎_elim (λ e. omega (arith, e)) (λ s. omega (arith, s.0))

pub fills_guarded : Fills (series guarded_list) (Span exits_place 49) Guarded
fills_guarded =
    fills_series guarded_list
    (fills_wider (span_region exits_place 49)
    (λ i r. ⊎_elim (λ e. (omega (arith, e), omega (arith, e))) (λ m. ⊎_elim (λ e. (omega (arith, e), omega (arith, e, m.2))) (λ s. (omega (arith, s.0), omega (arith, s.1, m.2))) m.3)
    (region_cases (item_of guarded_list) (starts (code "G")) fewest exits_place branches Place Right each_guarded guarded_apart guarded_outside in_words few branches 0 i r))
    guarded_local
    (λ y m z. (
      edges_of many exits_place m.number y m.counts (omega (arith, m.most)) (count_many m.number m.enough (omega (arith, m.most)))
          (λ j l. (m.right j (omega arith) l).0) (λ i a b. m.rest (i - (exits_place + 1)) (omega (arith, a)) (omega (arith, b, a)) i (inl (omega (arith, a)))),
      ap (λ (n : ℕ). things (drop (condition_place 0) y) expression_words branches n (condition_fits many)) m.counts
          ∙ things_of y (condition_place 0) expression_words branches m.number (condition_fits many) (λ j l. (m.right j (omega arith) l).1)
          (λ i s. m.rest ((i - condition_place 0) / 5) (omega (arith, s.0)) (omega (arith, s.0, s.1, m.most)) i (inr (omega (arith, s.0), omega (arith, s.0)))),
    ))
    (fills_all (item_of guarded_list) (starts (code "G")) fewest exits_place branches Place Right each_guarded guarded_apart guarded_outside in_words few))
    (λ e. absurd (omega (arith, e)))

-- BRANCHES WITH A TEMPLATE
module _ (receives : ℕ) (n : receives ≡ none → ⊥) where
  abbrev pub Receiving : List ℕ → Type 0
  Receiving y = (edges_fit many (drop exits_place y) ≡ true) × (things (drop (message_place 0) y) message_words branches (at y exits_place) (message_fits receives) ≡ true)

  abbrev pub Wide : ℕ → Type 0
  Wide = Both (Span exits_place 9) (Span (message_place 0) 176)

  receiving_local : (y z : List ℕ) → ((i : ℕ) → Wide i → at z i ≡ at y i) → Receiving y → Receiving z
  receiving_local y z s g =
      let e : at z exits_place ≡ at y exits_place = s exits_place (inl (omega arith, omega arith)) in
      let m = edges_most y many exits_place g.0 (omega arith) in (
        edges_same (drop exits_place y) (drop exits_place z) many (omega arith) (tail_same y z exits_place 9 (λ i r. s i (inl r))) ∙ g.0,
        ap (λ (k : ℕ). things (drop (message_place 0) z) message_words branches k (message_fits receives)) e
            ∙ things_same (drop (message_place 0) y) (drop (message_place 0) z) message_words branches (at y exits_place) 176 (message_fits receives) (λ j l. omega (arith, l, m)) (omega (arith, m))
            (λ c d e. message_same c d receives e) (tail_same y z (message_place 0) 176 (λ i r. s i (inr r)))
            ∙ g.1,
      )

  abbrev Spot : ℕ → ℕ → Type 0
  Spot j = Both (Span (message_place j) 22) (λ i. i ≡ edge_place exits_place j)

  abbrev Good : ℕ → List ℕ → Type 0
  Good j y = (message_fits receives (drop (message_place j) y) ≡ true) × Ranged 1 edges (edge_place exits_place j) y

  each_receiving : (j : ℕ) → j < branches → Fills (receiving j) (Spot j) (Good j)
  unfolding receiving
  each_receiving j l =
      fills_behind (idle_sign (code "("))
      (fills_then (fills_template j receives l n)
      (fills_behind (idle_sign (code ",")) (fills_before (fills_number 1 edges (edge_place exits_place j) (omega (arith, l)) (omega arith)) (idle_sign (code ")"))))
      (λ i s e. omega (arith, e, s.0, l)))

  receiving_apart : (j k i : ℕ) → j < k → k < branches → Spot j i → Spot k i → ⊥
  receiving_apart j k i l u =
      ⊎_elim (λ a. ⊎_elim (λ b. omega (arith, a.1, b.0, l)) (λ b. omega (arith, a.0, b, l, u))) (λ a. ⊎_elim (λ b. omega (arith, a, b.0, l, u)) (λ b. omega (arith, a, b, l)))

  receiving_outside : (j : ℕ) → j < branches → Spot j exits_place → ⊥
  receiving_outside j l = ⊎_elim (λ s. omega (arith, s.0)) (λ e. omega (arith, e))

  pub fills_receiving : Fills receiving_branches Wide Receiving
  unfolding receiving_branches
  fills_receiving =
      fills_wider (λ i. either_region (Span exits_place 9) (Span (message_place 0) 176) i (span_region exits_place 9 i) (span_region (message_place 0) 176 i))
      (λ i r. ⊎_elim (λ e. inl (omega (arith, e), omega (arith, e))) (λ m. ⊎_elim (λ s. inr (omega (arith, s.0), omega (arith, s.1, m.2))) (λ e. inl (omega (arith, e), omega (arith, e, m.2))) m.3)
      (region_cases receiving (starts_sign 40) fewest exits_place branches Spot Good each_receiving receiving_apart receiving_outside in_words few branches 0 i r))
      receiving_local
      (λ y m z. (
        edges_of many exits_place m.number y m.counts (omega (arith, m.most)) (count_many m.number m.enough (omega (arith, m.most)))
            (λ j l. (m.right j (omega arith) l).1) (λ i a b. m.rest (i - (exits_place + 1)) (omega (arith, a)) (omega (arith, b, a)) i (inr (omega (arith, a)))),
        ap (λ (k : ℕ). things (drop (message_place 0) y) message_words branches k (message_fits receives)) m.counts
            ∙ things_of y (message_place 0) message_words branches m.number (message_fits receives) (λ j l. (m.right j (omega arith) l).0)
            (λ i s. m.rest ((i - message_place 0) / 22) (omega (arith, s.0)) (omega (arith, s.0, s.1, m.most)) i (inl (omega (arith, s.0), omega (arith, s.0)))),
      ))
      (fills_all receiving (starts_sign 40) fewest exits_place branches Spot Good each_receiving receiving_apart receiving_outside in_words few)
