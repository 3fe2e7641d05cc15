-- The table of names as the code has it, and the search of it. Assumes nothing.
use mathlib.Core.Path.{◌≡◌, ◌∙◌, refl, sym, ap}
use mathlib.Core.Bool.{Bool, true, false}
use mathlib.Core.List.{List, ◌∷◌, map}
use Prim.Native.Nat.{ℕ, ◌+◌, ◌-◌, ◌<◌, ◌≤◌}
use native.Mathlib.Numerals.{add-one}
use native.Mathlib.Omega.{arith}
use lib.ListN.{length, get_or, drop, replicate, length-map, get_or-map, get_or-eq_default, drop_of_length-le}
use lib.Seq.{drop-cons, take_at}
use Rattle.base_words.specs.Pick.{if◌then◌or_else◌}
use Rattle.base_words.specs.Words.{part}
use Rattle.std.proofs.lemmas.List.{get_or_default}
use Rattle.base_bytes.specs.Bytes.{same_bytes}
use Rattle.base_bytes.proofs.SameLaws.{same_lengths}
use Rattle.draw_things.specs.Things.{stranger}
use Rattle.draw_things.specs.Names.{Row, rows, row_count, unknown, row_from, row_of, padded}

rows_many : length rows ≡ row_count
unfolding rows
rows_many = refl

column_in : {A : Type 0} (f : Row → A) (i : ℕ) (d : A) → i < row_count → get_or (map f rows) i d ≡ f (row_of i)
unfolding row_of
column_in f i d h = get_or_default (map f rows) i d (f unknown) (rw (length-map, rows_many) h) ∙ get_or-map f rows i unknown

column_at : {A : Type 0} (f : Row → A) (i : ℕ) → get_or (map f rows) i (f unknown) ≡ f (row_of i)
unfolding row_of
column_at f i = get_or-map f rows i unknown

-- The columns are the code's by computation.
pub name_in : (i : ℕ) (d : List ℕ) → i < row_count → get_or (map (λ (x : Row). padded x.name) rows) i d ≡ padded (row_of i).name
name_in i d h = column_in (λ x. padded x.name) i d h

pub length_is : (i r : ℕ) → r ≡ get_or (map (λ (x : Row). length x.name) rows) i 0 → r ≡ length (row_of i).name
length_is i r e = e ∙ column_at (λ x. length x.name) i

pub sort_in : (i d : ℕ) → i < row_count → get_or (map (λ (x : Row). x.sort) rows) i d ≡ (row_of i).sort
sort_in i d h = column_in (λ x. x.sort) i d h

pub sort_out : (i : ℕ) → row_count ≤ i → stranger ≡ (row_of i).sort
unfolding row_of
sort_out i h = sym (ap (λ (x : Row). x.sort) (get_or-eq_default rows unknown (rw rows_many h)))

pub parent_is : (i r : ℕ) → r ≡ get_or (map (λ (x : Row). x.parent) rows) i 0 → r ≡ (row_of i).parent
parent_is i r e = e ∙ column_at (λ x. x.parent) i

-- a name compared with that of a row
module _ (name : List ℕ) (i n : ℕ) (en : n ≡ length (row_of i).name) where
  pub row_longer : (length name ≡ n → ⊥) → false ≡ same_bytes name (row_of i).name
  row_longer h = sym (same_lengths name (row_of i).name (λ e. h (e ∙ sym en)))

  pub row_same : (x : List ℕ) → x ≡ padded (row_of i).name → (l : List ℕ) → l ≡ part x 0 n → (r : Bool) → r ≡ same_bytes name l → r ≡ same_bytes name (row_of i).name
  row_same x ex l el r er =
      er ∙ ap (same_bytes name) (el ∙ ap (λ y. part y 0 n) ex ∙ ap (λ k. part (padded (row_of i).name) 0 k) en ∙ first_of (row_of i).name)
    where
      first_of : (w : List ℕ) → part (padded w) 0 (length w) ≡ w
      first_of w = take_at w (replicate (24 - length w) 32) (length w - 0) (omega arith)

-- the search, row by row
module _ (name : List ℕ) (i : ℕ) (h : i < row_count) where
  split : drop i rows ≡ row_of i ∷ drop (i + 1) rows
  unfolding row_of
  split = drop-cons rows i unknown (rw rows_many h) ∙ rw (add-one i)

  pub row_here : same_bytes name (row_of i).name ≡ true → row_from name (drop i rows) i ≡ i
  unfolding row_from if◌then◌or_else◌
  row_here e = rw (split, e)

  pub row_on : same_bytes name (row_of i).name ≡ false → row_from name (drop i rows) i ≡ row_from name (drop (i + 1) rows) (i + 1)
  unfolding row_from if◌then◌or_else◌
  row_on e = rw (split, e)

pub row_end : (name : List ℕ) (i : ℕ) → row_count ≤ i → row_from name (drop i rows) i ≡ i
unfolding row_from
row_end name i h = let k : length rows ≤ i = rw rows_many h in rw (drop_of_length-le rows k)
