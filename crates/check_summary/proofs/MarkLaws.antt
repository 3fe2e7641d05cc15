-- A count or a name by a call's result. Assumes nothing.
use mathlib.Core.Path.{◌≡◌, ◌∙◌, ap}
use mathlib.Core.List.{List}
use Prim.Native.Nat.{ℕ}
use Rattle.check_tally.specs.Tally.{tally, region_marks}
use Rattle.check_summary.specs.Summary.{edge_region, name_region}

pub edges_by : (from : ℕ) (el : List ℕ) (list n m : ℕ) (s u : List ℕ) →
    u ≡ tally s (region_marks (edge_region from el list n)) → n ≡ m → u ≡ tally s (region_marks (edge_region from el list m))
edges_by from el list n m s u q e = q ∙ ap (λ k. tally s (region_marks (edge_region from el list k))) e

pub names_by : (from : ℕ) (el : List ℕ) (n m : ℕ) (s u : List ℕ) →
    u ≡ tally s (region_marks (name_region from el n)) → n ≡ m → u ≡ tally s (region_marks (name_region from el m))
names_by from el n m s u q e = q ∙ ap (λ k. tally s (region_marks (name_region from el k))) e
