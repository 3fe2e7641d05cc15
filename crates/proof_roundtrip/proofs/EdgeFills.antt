-- Entries and exits stored. Assumes nothing.
use Prim.Native.Char.{code}
use Prim.Native.Nat.{ℕ, ◌+◌, ◌-◌, ◌*◌, ◌≤◌, ◌<◌}
use mathlib.Core.Path.{◌≡◌, ◌∙◌, refl, ap, subst}
use mathlib.Core.Bool.{true}
use mathlib.Core.List.{List}
use mathlib.Core.Logic.{⊎_elim}
use native.Mathlib.Omega.{arith}
use lib.Dec.{leb}
use lib.ListN.{drop}
use lib.Seq.{get_or-drop, drop-drop}
use borrow.Author.Tests.{le-leb}
use Rattle.base_words.specs.Counts.{fewest, branches, edges}
use Rattle.base_words.specs.Pick.{if◌then◌or_else◌}
use Rattle.base_words.specs.Words.{at}
use Rattle.base_words.proofs.PickLaws.{and_true}
use Rattle.base_kinds.specs.Kinds.{one, many}
use Rattle.base_table.specs.Places.{element_words, edge_place}
use Rattle.check_limits.specs.Limits.{things, count_fits, edge_fits, edges_fit}
use Rattle.text_parts.specs.Parts.{edge_list, item_of, starts, series, one_edge}
use Rattle.proof_roundtrip.proofs.NumberReads.{Span}
use Rattle.check_limits.proofs.SameLaws.{edges_same}
use Rattle.proof_roundtrip.proofs.FillLaws.{Fills, span_region, fills_then, fills_wider, fills_store}
use Rattle.proof_roundtrip.proofs.WordFills.{Ranged, fills_number}
use Rattle.proof_roundtrip.proofs.ExpressionFills.{tail_same}
use Rattle.proof_roundtrip.proofs.ListFills.{things_of, region_cases, fills_all, fills_series}

pub count_one : count_fits one 1 ≡ true
unfolding count_fits if◌then◌or_else◌
count_one = refl

pub count_many : (n : ℕ) → fewest ≤ n → n ≤ branches → count_fits many n ≡ true
unfolding count_fits if◌then◌or_else◌
count_many n l u = and_true (leb fewest n) (leb n branches) (le-leb fewest n l) (le-leb n branches u)

edge_of : (x : List ℕ) → 1 ≤ at x 0 → at x 0 ≤ edges → edge_fits x ≡ true
unfolding edge_fits
edge_of x l u = and_true (leb 1 (at x 0)) (leb (at x 0) edges) (le-leb 1 (at x 0) l) (le-leb (at x 0) edges u)

-- a list of n edges at its place
pub edges_of : (column list n : ℕ) (y : List ℕ) → at y list ≡ n → n ≤ branches → count_fits column n ≡ true → ((j : ℕ) → j < n → Ranged 1 edges (edge_place list j) y)
    → ((i : ℕ) → list + 1 + n ≤ i → i < list + 9 → at y i ≡ 0) → edges_fit column (drop list y) ≡ true
unfolding edges_fit
edges_of column list n y e m c r z =
    let f : at (drop list y) 0 ≡ n = get_or-drop list y 0 0 ∙ ap (at y) (let q : list + 0 ≡ list = omega arith in q) ∙ e in
    rw f
    (and_true (count_fits column n) (things (drop 1 (drop list y)) 1 branches n edge_fits) c
    (ap (λ (x : List ℕ). things x 1 branches n edge_fits) (drop-drop 1 list y)
    ∙ things_of y (list + 1) 1 branches n edge_fits (λ j l. right j (r j l)) (λ i s. z i (omega (arith, s.0)) (omega (arith, s.1, m)))))
  where
    right : (j : ℕ) → Ranged 1 edges (edge_place list j) y → edge_fits (drop (list + 1 + 1 * j) y) ≡ true
    right j r =
        let f : at (drop (list + 1 + 1 * j) y) 0 ≡ at y (edge_place list j) = get_or-drop (list + 1 + 1 * j) y 0 0 ∙ ap (at y) (let q : list + 1 + 1 * j + 0 ≡ list + 1 + j = omega arith in q) in
        edge_of (drop (list + 1 + 1 * j) y) (omega (arith, f, r.0)) (omega (arith, f, r.1))

module _ (list : ℕ) (h : list + 9 ≤ element_words) where
  edges_local : (column : ℕ) → column ≤ many → (y z : List ℕ) → ((i : ℕ) → Span list 9 i → at z i ≡ at y i) → edges_fit column (drop list y) ≡ true → edges_fit column (drop list z) ≡ true
  edges_local column c y z s f = edges_same (drop list y) (drop list z) column c (tail_same y z list 9 s) ∙ f

  -- one
  pub fills_one : Fills (one_edge list) (Span list 9) (λ y. edges_fit one (drop list y) ≡ true)
  unfolding one_edge
  fills_one =
      fills_wider (span_region list 9) (λ i. ⊎_elim (λ e. (omega (arith, e), omega (arith, e))) (λ e. (omega (arith, e), omega (arith, e)))) (edges_local one (omega arith))
      (λ y q z. edges_of one list 1 y q.1 (omega arith) count_one (λ j l. subst (λ (k : ℕ). Ranged 1 edges (edge_place list k) y) (let e : 0 ≡ j = omega (arith, l) in e) q.0)
      (λ i a b. z i (omega (arith, a), b) (⊎_elim (λ e. omega (arith, e, a)) (λ e. omega (arith, e, a)))))
      (fills_then (fills_number 1 edges (edge_place list 0) (omega (arith, h)) (omega arith)) (fills_store list 1 (omega (arith, h)) (omega arith)) (λ i e f. omega (arith, e, f)))

  -- several
  abbrev Place : ℕ → ℕ → Type 0
  Place j i = i ≡ edge_place list j

  abbrev Right : ℕ → List ℕ → Type 0
  Right j y = Ranged 1 edges (edge_place list j) y

  each_edge : (j : ℕ) → j < branches → Fills (item_of (edge_list list) j) (Place j) (Right j)
  unfolding item_of if◌then◌or_else◌
  each_edge j l = fills_number 1 edges (edge_place list j) (omega (arith, h, l)) (omega arith)

  edges_apart : (j k i : ℕ) → j < k → k < branches → Place j i → Place k i → ⊥
  edges_apart j k i l u a b = omega (arith, l, a, b)

  edges_outside : (j : ℕ) → j < branches → Place j list → ⊥
  edges_outside j l e = omega (arith, e)

  pub fills_several : Fills (series (edge_list list)) (Span list 9) (λ y. edges_fit many (drop list y) ≡ true)
  fills_several =
      fills_series (edge_list list)
      (fills_wider (span_region list 9)
      (λ i r. ⊎_elim (λ e. (omega (arith, e), omega (arith, e))) (λ m. (omega (arith, m.3), omega (arith, m.3, m.2)))
      (region_cases (item_of (edge_list list)) (starts (code "E")) fewest list branches Place Right each_edge edges_apart edges_outside (omega (arith, h)) (omega arith) branches 0 i r))
      (edges_local many (omega arith))
      (λ y m z.
      edges_of many list m.number y m.counts (omega (arith, m.most)) (count_many m.number m.enough (omega (arith, m.most)))
      (λ j l. m.right j (omega arith) l) (λ i a b. m.rest (i - (list + 1)) (omega (arith, a)) (omega (arith, b, a)) i (omega (arith, a))))
      (fills_all (item_of (edge_list list)) (starts (code "E")) fewest list branches Place Right each_edge edges_apart edges_outside (omega (arith, h)) (omega arith)))
      (λ e. absurd (omega (arith, e)))
