-- What a loop over things of w words each needs: y is the words from a thing on, r what a call says of it. Assumes nothing.
use mathlib.Core.Path.{◌≡◌, ◌∙◌, ap}
use mathlib.Core.Bool.{Bool, true, false}
use mathlib.Core.List.{List}
use Prim.Native.Nat.{ℕ, ◌+◌, ◌-◌, ◌*◌, ◌≤◌, ◌<◌}
use lib.ListN.{drop}
use Rattle.base_words.specs.All.{all}
use Rattle.base_words.proofs.AllLaws.{all_none, all_more, all_fails, all_full}
use Rattle.base_words.proofs.PickLaws.{and_yes, and_no, flag_is}
use Rattle.check_limits.specs.Limits.{zeros, things}

module _ (right : List ℕ → Bool) (x : List ℕ) (w : ℕ) where
  -- the first j are right
  abbrev pub Right : ℕ → Type 0
  Right j = all (λ i. right (drop (w * i) x)) j ≡ true

  pub right_none : Right 0
  right_none = all_none (λ i. right (drop (w * i) x))

  pub right_more : (j : ℕ) (y : List ℕ) (r : Bool) → Right j → y ≡ drop (w * j) x → r ≡ right y → r ≡ true → Right (j + 1)
  right_more j y r inv e h test = all_more (λ i. right (drop (w * i) x)) j inv (flag_is r (right (drop (w * j) x)) true (h ∙ ap right e) test)

  pub right_fails : (n k j : ℕ) (y : List ℕ) (r : Bool) → j < k → y ≡ drop (w * j) x → r ≡ right y → r ≡ false → false ≡ things x w n k right
  unfolding things
  right_fails n k j y r l e h test =
      and_no (all (λ i. right (drop (w * i) x)) k) (zeros (drop (w * k) x) (w * (n - k)))
      (all_fails (λ i. right (drop (w * i) x)) k j l (flag_is r (right (drop (w * j) x)) false (h ∙ ap right e) test))

  -- the loop's end, and what a call says of the words behind the first k things
  pub right_done : (n k j : ℕ) (r : Bool) → k ≤ j → j ≤ k → Right j → r ≡ zeros (drop (w * k) x) (w * (n - k)) → r ≡ things x w n k right
  unfolding things
  right_done n k j r l l' inv h = and_yes (all (λ i. right (drop (w * i) x)) k) (zeros (drop (w * k) x) (w * (n - k))) r (all_full (λ i. right (drop (w * i) x)) k j l l' inv) h
