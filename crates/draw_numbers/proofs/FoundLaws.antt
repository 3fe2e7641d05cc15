-- The laws by which a thing is found, or not. Assumes nothing.
use mathlib.Core.Path.{◌≡◌, sym, ap, ◌∙◌, subst}
use mathlib.Core.Bool.{Bool, true, false, not, ◌||◌}
use mathlib.Core.List.{List}
use mathlib.Core.Logic.{⊎_elim}
use Prim.Native.Nat.{ℕ, ◌≤◌, ◌<◌}
use native.Mathlib.Nat.{eq-or-lt_of_le}
use native.Mathlib.Omega.{arith}
use lib.Dec.{ltb}
use lib.ListN.{length, get_or}
use borrow.Author.Tests.{lt-ltb, le-ltb}
use denote.Param.Members.{Mut}
use Rattle.std.proofs.Common.{Option}
use Rattle.std.proofs.lemmas.Bool.{true≢false}
use Rattle.std.proofs.lemmas.Iterator.{cases_from_any, YieldsList-from_range}
use Rattle.std.proofs.lemmas.List.FromFn.{length-range_with_len, get_or-range_with_len}
use Rattle.std.proofs.iter.Yields.{nat_range_steps}
use Rattle.std.specs.declared.ops.Range.{Range}
use Rattle.std.specs.Fn.{Called}
use Rattle.std.specs.Iterator.{YieldsThen}
use Rattle.std.specs.List.{range_with_len, FoldsTo, AllWithin, HoldsAt}
use Rattle.std.specs.Option.{MatchOption}
use Rattle.std.specs.Bool.{MatchBool}
use Rattle.base_words.specs.Seek.{seek}
use Rattle.base_words.proofs.SeekLaws.{sought}

at_range : (n j : ℕ) → j < n → get_or (range_with_len 0 n) j 0 ≡ j
at_range n j l = omega (arith, get_or-range_with_len 0 n j 0 l)

below : (p : ℕ → Bool) (n i : ℕ) → i < n → p i ≡ true → seek p n < n
below p n i l t = ⊎_elim (λ e. absurd (true≢false (sym t ∙ (sought p n).2 i (omega arith)))) (λ h. h) (eq-or-lt_of_le (sought p n).0)

nowhere : (p : ℕ → Bool) (n : ℕ) → ((j : ℕ) → j < n → p j ≡ false) → n ≤ seek p n
nowhere p n h = ⊎_elim (λ e. omega arith) (λ l. absurd (true≢false (sym ((sought p n).1 l) ∙ h (seek p n) l))) (eq-or-lt_of_le (sought p n).0)

from_cases : (r : Bool) (p : ℕ → Bool) (n : ℕ) → MatchBool r ((k : ℕ) × (k < length (range_with_len 0 n)) × HoldsAt (λ x. p x ≡ true) (range_with_len 0 n) k) (AllWithin (λ x. p x ≡ false) (range_with_len 0 n) 0 (length (range_with_len 0 n))) → r ≡ ltb (seek p n) n
from_cases true p n h =
    let l : h.0 < n = omega (arith, h.1, length-range_with_len 0 n) in
    let t : p h.0 ≡ true = subst (λ (x : ℕ). p x ≡ true) (at_range n h.0 l) (h.2 0) in
    sym (lt-ltb (seek p n) n (below p n h.0 l t))
from_cases false p n h =
    sym (le-ltb (seek p n) n (nowhere p n (λ j l. let k : j < length (range_with_len 0 n) = omega (arith, length-range_with_len 0 n) in subst (λ (x : ℕ). p x ≡ false) (at_range n j l) (h j 0 (omega arith) k))))

-- `any` over a range: one below n is so
pub any_of_range : {F : Type 0} {g : Mut F (ℕ × Unit {0}) Bool} {s : Range ℕ} (u : Range ℕ) (f : F) (r : Bool) (p : ℕ → Bool) (n : ℕ) → (xs : List ℕ) × (o : Option ℕ) × (j : F) × YieldsThen nat_range_steps s xs o u × FoldsTo (λ k x q. Called g k (x, tt) false q) f xs j × MatchOption o (r ≡ false) (λ x. (r ≡ true) × ((h : F) × Called g j (x, tt) true h)) → s ≡ record { start = 0; end = n } → ((x : ℕ) (q : F) → Called g f (x, tt) true q → p x ≡ true) → ((x : ℕ) (q : F) → Called g f (x, tt) false q → (q ≡ f) × (p x ≡ false)) → r ≡ ltb (seek p n) n
any_of_range u f r p n ran e hit miss = from_cases r p n (cases_from_any u f r (λ x. p x ≡ true) (λ x. p x ≡ false) ran (YieldsList-from_range 0 n n e (omega arith)) hit miss)

-- one of several is so, by a call's answer
pub or_here : (r a b : Bool) → r ≡ a → r ≡ true → true ≡ a || b
or_here r a b e h = rw (← e, h)

pub or_on : (r a b v : Bool) → r ≡ a → r ≡ false → v ≡ b → v ≡ a || b
or_on r a b v e h q = rw (← e, h) q

-- what is not amiss is right
pub not_is : (r a t : Bool) → r ≡ a → r ≡ t → not a ≡ not t
not_is r a t e h = ap not (sym e ∙ h)
