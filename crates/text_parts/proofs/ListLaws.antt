-- A list read item by item: what the rest of it gives, by what the calls gave, for any kind of item. Assumes nothing.
use Prim.Native.Char.{code}
use Prim.Native.Nat.{ℕ, suc, ◌+◌, ◌-◌, ◌<◌, ◌≤◌}
use mathlib.Core.Path.{◌≡◌, ◌∙◌, ap}
use mathlib.Core.Bool.{Bool}
use mathlib.Core.List.{List}
use native.Mathlib.Omega.{arith}
use Rattle.std.specs.declared.result.Result.TheVariants.{Ok, Err}
use Rattle.std.specs.Result.{IsErrAnd}
use Rattle.text_readers.specs.declared.Refusal.{Refusal}
use Rattle.text_readers.proofs.ReadingLaws.{handed}
use Rattle.text_readers.specs.Reading.{Read, Parsed, Reader, if_at, onward, sign_at, place_of}
use Rattle.text_bounds.specs.Bounds.{one_too_many}
use Rattle.text_parts.specs.Parts.{items_from, counted, too_many, series}
use Rattle.text_parts.specs.declared.Series.{Series}

-- a list that a call gave
pub series_by : (s t : Series) (text : List ℕ) (at : ℕ) (x : List ℕ) (w : Parsed) → s ≡ t → w ≡ series s text at x → w ≡ series t text at x
series_by s t text at x w e k = rw (← e) k

-- n more are allowed, from item k on; r and y are what item k gave
module _ (item : ℕ → Reader) (starting : List ℕ → ℕ → Bool) (least count n k : ℕ) (text : List ℕ) (at : ℕ) (x : List ℕ) where
  pub rest_full : (b : Bool) (r : Read) → n ≡ 0 → b ≡ starting text at → r ≡ one_too_many b (place_of text at) → record { end = r; words = x } ≡ items_from item starting least count n k text at x
  unfolding items_from too_many one_too_many
  rest_full b r z e h = rw (z, h, e)

  module _ (r : Read) (y : List ℕ) (m : ℕ) (more : n ≡ suc m) (read : record { end = r; words = y } ≡ item k text at x) where
    pub rest_stops : (d : Refusal) → r ≡ Err d → record { end = r; words = y } ≡ items_from item starting least count n k text at x
    unfolding items_from onward if_at
    rest_stops d h = rw (more, ← read, h)

    module _ (q : ℕ) (got : r ≡ Ok q) (s : Read) (sign : s ≡ sign_at (code ",") text q) where
      pub rest_ends : (d : Refusal) (w : Parsed) → s ≡ Err d → w ≡ counted least count (k + 1) text q y → w ≡ items_from item starting least count n k text at x
      unfolding items_from onward if_at
      rest_ends d w h e = rw (more, ← read, got, ← sign, h) e

      pub rest_goes : (a : ℕ) → s ≡ Ok a → items_from item starting least count m (k + 1) text a y ≡ items_from item starting least count n k text at x
      unfolding items_from onward if_at
      rest_goes a h = rw (more, ← read, got, ← sign, h)

-- with k items read of at most `most`, the rest and the whole
abbrev pub Rest : (ℕ → Reader) → (List ℕ → ℕ → Bool) → ℕ → ℕ → ℕ → List ℕ → ℕ → List ℕ → ℕ → ℕ → List ℕ → Type 0
Rest item starting least count most text start x₀ k at x =
    items_from item starting least count (most - k) k text at x ≡ items_from item starting least count most 0 text start x₀

pub items_start : (item : ℕ → Reader) (starting : List ℕ → ℕ → Bool) (least count most : ℕ) (text : List ℕ) (start : ℕ) (x₀ : List ℕ) → Rest item starting least count most text start x₀ 0 start x₀
items_start item starting least count most text start x₀ =
    let none : most - 0 ≡ most = omega arith in
    ap (λ (n : ℕ). items_from item starting least count n 0 text start x₀) none

module _ (item : ℕ → Reader) (starting : List ℕ → ℕ → Bool) (least count most : ℕ) (text : List ℕ) (start : ℕ) (x₀ : List ℕ) (k at : ℕ) (x : List ℕ)
    (inv : Rest item starting least count most text start x₀ k at x) where
  pub items_full : (b : Bool) (r : Read) → most ≤ k → b ≡ starting text at → r ≡ one_too_many b (place_of text at) → record { end = r; words = x } ≡ items_from item starting least count most 0 text start x₀
  items_full b r h e g = rest_full item starting least count (most - k) k text at x b r (omega arith) e g ∙ inv

  module _ (r : Read) (y : List ℕ) (lt : k < most) (read : record { end = r; words = y } ≡ item k text at x) where
    one_more_lem : most - k ≡ suc (most - (k + 1))
    one_more_lem = omega arith

    pub items_stop : (d : Refusal) (z : Read) → r ≡ Err d → IsErrAnd z (λ (v : Refusal). v ≡ d) → record { end = z; words = y } ≡ items_from item starting least count most 0 text start x₀
    items_stop d z h f =
        ap (λ (v : Read). record { end = v; words = y }) (handed r z d h f) ∙ rest_stops item starting least count (most - k) k text at x r y (most - (k + 1)) one_more_lem read d h ∙ inv

    module _ (q : ℕ) (got : r ≡ Ok q) (s : Read) (sign : s ≡ sign_at (code ",") text q) where
      pub items_end : (d : Refusal) (w : Parsed) → s ≡ Err d → w ≡ counted least count (k + 1) text q y → w ≡ items_from item starting least count most 0 text start x₀
      items_end d w h e = rest_ends item starting least count (most - k) k text at x r y (most - (k + 1)) one_more_lem read q got s sign d w h e ∙ inv

      pub items_go : (a : ℕ) → s ≡ Ok a → Rest item starting least count most text start x₀ (k + 1) a y
      items_go a h = rest_goes item starting least count (most - k) k text at x r y (most - (k + 1)) one_more_lem read q got s sign a h ∙ inv
