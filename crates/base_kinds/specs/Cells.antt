-- A row of a table of which only the cells that hold something are written: each says its column and what stands there.
use Rattle.std.specs.Prelude.{ℕ, List, [], ◌∷◌, eqb, cond}

infix 70 ◌holding◌
pub record Cell : Type 0 where
  pub column : ℕ
  pub holds : ℕ

-- a cell of a column with what it holds
abbrev pub ◌holding◌ : ℕ → ℕ → Cell
c holding n = record { column = c; holds = n }

-- what a row holds in column c; 0 where nothing is written
abbrev pub cell : ℕ → List Cell → ℕ
cell c [] = 0
cell c (x ∷ xs) = cond (eqb x.column c) x.holds (cell c xs)
