-- What checked arithmetic of words gives is the sum, or the difference, of two defined values. Assumes nothing.
use Rattle.std.proofs.Common.{◌≡◌, ℕ, ◌+◌, ◌-◌, ◌<◌, ◌≤◌, SomeIff, Some, None, refl, ap, arith}
use borrow.Author.Tests.{le-leb, lt-leb}
use Rattle.base_words.specs.Words.{greatest}
use Rattle.base_words.proofs.PickLaws.{pick_yes, pick_no}
use Rattle.meaning.specs.Values.{Value, sum_of, difference_of}

pub sum_checked : (x y : ℕ) (r : Value) → SomeIff r (x + y < 4294967296) (x + y) → r ≡ sum_of (Some x) (Some y)
unfolding sum_of
sum_checked x y (Some z) (p, e) = pick_yes _ _ _ _ (le-leb (x + y) greatest (omega arith)) (ap Some e)
sum_checked x y None h = pick_no _ _ _ _ (lt-leb (x + y) greatest (omega arith)) refl

pub difference_checked : (x y : ℕ) (r : Value) → SomeIff r (y ≤ x) (x - y) → r ≡ difference_of (Some x) (Some y)
unfolding difference_of
difference_checked x y (Some z) (p, e) = pick_yes _ _ _ _ (le-leb y x p) (ap Some e)
difference_checked x y None h = pick_no _ _ _ _ (lt-leb y x (omega arith)) refl
