-- A tally: a block of words, each 0, 1 or 2 (many): how often its place was marked. Numbers are marked in regions: the number v of 1 to `most`
-- at the place `from` + v; the region's first place takes 0 and all that is above, and is never looked at.
use Rattle.std.specs.Prelude.{Bool, true, ◌&&◌, List, [], ◌∷◌, ◌++◌, ℕ, zero, suc, ◌+◌, leb, ltb, set, replicate}
use Rattle.base_words.specs.Blocks.{Tally}
use Rattle.base_words.specs.All.{all}
use Rattle.base_words.specs.Each.{total, tab}
use Rattle.base_words.specs.Pick.{if◌then◌or_else◌}
use Rattle.base_words.specs.Sum.{hit}
use Rattle.base_words.specs.Words.{at}

-- what a word that counts no further says of more than one
abbrev pub several : ℕ
several = 2

unfoldable pub more : ℕ → ℕ
more x = if ltb x several then x + 1 or_else x

unfoldable pub marked : Tally → ℕ → Tally
marked s k = set s k (more (at s k))

-- the places ks marked, one after the other
unfoldable pub tally : Tally → List ℕ → Tally
tally s [] = s
tally s (k ∷ ks) = tally (marked s k) ks

unfoldable pub place : ℕ → ℕ → ℕ → ℕ
place from most v = if leb v most then from + v or_else from

-- `many` numbers, `number 0`, `number 1`, .., marked in a region
pub record Region : Type 0 where
  pub from : ℕ
  pub most : ℕ
  pub number : ℕ → ℕ
  pub many : ℕ

abbrev pub no_region : Region
no_region = record { from = 0; most = 0; number = λ j. 0; many = 0 }

-- one number
unfoldable pub one_region : ℕ → ℕ → ℕ → Region
one_region from most v = record { from = from; most = most; number = λ j. v; many = 1 }

unfoldable pub region_marks : Region → List ℕ
region_marks r = tab (λ j. place r.from r.most (r.number j)) r.many

unfoldable pub marks_of : List Region → List ℕ
marks_of [] = []
marks_of (r ∷ rs) = region_marks r ++ marks_of rs

-- the regions stand apart, in this order, from the place a on
unfoldable pub apart : ℕ → List Region → Bool
apart a [] = true
apart a (r ∷ rs) = leb a r.from && apart (r.from + 1 + r.most) rs

-- the marks of all things of a list
unfoldable pub all_marks : {A : Type 0} → (A → List Region) → List A → List ℕ
all_marks f [] = []
all_marks f (x ∷ xs) = marks_of (f x) ++ all_marks f xs

-- the tally, of `size` words, of all things of a list
unfoldable pub tallied : {A : Type 0} → ℕ → (A → List Region) → List A → Tally
tallied size f xs = tally (replicate size 0) (all_marks f xs)

-- no number of a region was marked twice
unfoldable pub once_in : Tally → ℕ → ℕ → Bool
once_in s from most = all (λ k. leb (at s (from + (k + 1))) 1) most

-- how often k is among the marks
abbrev pub count : ℕ → List ℕ → ℕ
count k ks = total (λ x. hit x k) ks

-- a count as a tally has it
unfoldable pub capped : ℕ → ℕ
capped zero = 0
capped (suc zero) = 1
capped (suc (suc n)) = several
