-- A node of no kind is amiss, wherever it stands. Assumes nothing.
use mathlib.Core.Path.{◌≡◌, refl, ap}
use mathlib.Core.Bool.{Bool, true, false, not, ◌&&◌, ◌||◌}
use mathlib.Core.List.{List}
use Prim.Native.Nat.{ℕ, ◌<◌}
use lib.Dec.{leb}
use Rattle.base_words.specs.All.{all}
use Rattle.base_words.proofs.AllLaws.{all_fails}
use Rattle.base_words.proofs.PickLaws.{and_false_right}
use Rattle.draw_things.specs.Things.{room}
use Rattle.draw_kinds.specs.Roles.{roles, is_unsettled, first_unsettled, are_settled}
use Rattle.draw_kinds.proofs.KindLaws.{kinds_not}
use Rattle.draw_faults.specs.Amiss.{is_strange, is_of_no_kind, amiss_as_flow, amiss_as_node, is_amiss, is_right, is_drawing}
use Rattle.draw_numbers.specs.Who.{is_of_kind, has_participants, has_pool}

or_left : (a b : Bool) → a ≡ true → a || b ≡ true
or_left a b e = rw e refl

or_right : (a b : Bool) → b ≡ true → a || b ≡ true
or_right true b e = refl
or_right false b e = e

module _ (t w : List ℕ) (n : ℕ) where
  no_kind_amiss : (k : ℕ) → is_unsettled w k ≡ true → is_right t w n k ≡ false
  unfolding is_unsettled is_of_kind is_of_no_kind amiss_as_node is_amiss is_right
  no_kind_amiss k e = ap not (or_right (is_strange w k) _ (or_right (amiss_as_flow t w k) _ (or_left _ _ (or_left _ _ e))))

  no_kind_lem : (k : ℕ) → k < n → is_unsettled w k ≡ true → is_drawing t w n ≡ false
  unfolding is_drawing
  no_kind_lem k h e = and_false_right (leb n room) (has_pool (has_participants w n) w n && all (is_right t w n) n) (and_false_right (has_pool (has_participants w n) w n) (all (is_right t w n) n) (all_fails (is_right t w n) n k h (no_kind_amiss k e)))

-- kinds that could not all be settled
pub unsettled_amiss : (t w : List ℕ) (n : ℕ) → are_settled n w ≡ false → is_drawing t (roles n w) n ≡ false
unsettled_amiss t w n e = let k = kinds_not n w e in no_kind_lem t (roles n w) n (first_unsettled n w) k.0 k.1
