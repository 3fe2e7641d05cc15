-- Laws of a pool's decision, as the code makes it. Assumes nothing.
use Prim.Native.Nat.{ℕ}
use mathlib.Core.Path.{◌≡◌, ◌∙◌, ap, ap₂}
use mathlib.Core.Bool.{Bool, not}
use mathlib.Core.List.{List, ◌∷◌}
use lib.Dec.{eqb}
use lib.ListN.{replicate}
use Rattle.base_words.specs.All.{all}
use Rattle.base_words.specs.Seek.{seek}
use Rattle.base_words.specs.Words.{at}
use Rattle.base_words.specs.Counts.{elements}
use Rattle.base_table.specs.Table.{exit_at}
use Rattle.check_tally.specs.Tally.{marked, tally}
use Rattle.check_nesting.specs.Deciding.{sequence_walk, whole_walk, each_once, meets_all}
use Rattle.check_nesting.specs.Offending.{stray_of}

module _ (P : ℕ → List ℕ) (c : ℕ) where
  pub met_is : (first last x : ℕ) (m s t u : List ℕ) → s ≡ marked m first → t ≡ marked s last → x ≡ exit_at (P first) 0 → u ≡ tally t (sequence_walk P c elements x).on
      → u ≡ tally m (first ∷ last ∷ (whole_walk P c first).on)
  unfolding whole_walk tally
  met_is first last x m s t u e f g h = h ∙ ap₂ (λ (t : List ℕ) (x : ℕ). tally t (sequence_walk P c elements x).on) (f ∙ ap (λ (s : List ℕ). marked s last) e) g

  module _ (first last n : ℕ) (u : List ℕ) (met : u ≡ tally (replicate elements 0) (first ∷ last ∷ (whole_walk P c first).on)) (many : n ≡ c) where
    pub meets_is : (r : Bool) → r ≡ all (λ k. eqb (at u k) 1) n → r ≡ meets_all P c first last
    unfolding meets_all each_once
    meets_is r q = q ∙ ap₂ (λ (u : List ℕ) (n : ℕ). all (λ k. eqb (at u k) 1) n) met many

    pub stray_is : (r : ℕ) → r ≡ seek (λ k. not (eqb (at u k) 1)) n → r ≡ stray_of P c first last
    unfolding stray_of
    stray_is r q = q ∙ ap₂ (λ (u : List ℕ) (n : ℕ). seek (λ k. not (eqb (at u k) 1)) n) met many
