-- The laws of a choice by an attribute, and of the thing that is looked for by an id. Assumes nothing.
use mathlib.Core.Path.{◌≡◌, refl, subst}
use mathlib.Core.Bool.{Bool, true, false}
use mathlib.Core.List.{List}
use Prim.Native.Nat.{ℕ, zero, suc, ◌≤◌, ◌<◌}
use native.Mathlib.Numerals.{add-one}
use native.Mathlib.Omega.{arith}
use borrow.Author.Tests.{lt-ltb, le-ltb}
use denote.Param.Members.{Mut}
use denote.Ref.{Bor}
use Rattle.std.proofs.Common.{Option, None, Some}
use Rattle.std.proofs.lemmas.Iterator.{first_from_Range}
use Rattle.std.proofs.iter.Yields.{nat_range_steps}
use Rattle.std.specs.declared.ops.Range.{Range}
use Rattle.std.specs.Fn.{CalledAt}
use Rattle.std.specs.Iterator.{YieldsThen}
use Rattle.std.specs.List.{FoldsTo}
use Rattle.std.specs.Option.{MatchOption, unwrap_or}
use Rattle.base_words.specs.Pick.{if◌then◌or_else◌}
use Rattle.base_words.specs.Seek.{seek}
use Rattle.base_words.proofs.SeekLaws.{seek_none, seek_more, seek_found}
use Rattle.draw_links.specs.Links.{if_is, or_none}

pub if_is_lem : {A : Type 0} (r b : Option (ℕ × ℕ)) (from to : ℕ) (f : ℕ → ℕ → A) (x v : A) → r ≡ b → r ≡ Some (from, to) → v ≡ f from to → v ≡ if_is b f x
unfolding if_is
if_is_lem r b from to f x v e h q = rw (← e, h) q

pub if_absent : {A : Type 0} (r b : Option (ℕ × ℕ)) (f : ℕ → ℕ → A) (x : A) → r ≡ b → r ≡ None → x ≡ if_is b f x
unfolding if_is
if_absent r b f x e h = rw (← e, h) refl

seek_upto : (p : ℕ → Bool) (i : ℕ) → ((k : ℕ) → k < i → p k ≡ false) → seek p i ≡ i
seek_upto p zero h = seek_none p
seek_upto p (suc i) h = subst (λ (m : ℕ). seek p m ≡ m) (add-one i) (seek_more p i (seek_upto p i (λ k l. h k (omega arith))) (h i (omega arith)))

from_first : (r : Option ℕ) (p : ℕ → Bool) (n : ℕ) → MatchOption r ((k : ℕ) → 0 ≤ k → k < n → k < n → p k ≡ false) (λ i. (0 ≤ i) × (i < n) × (i < n → p i ≡ true) × ((k : ℕ) → 0 ≤ k → k < i → k < n → p k ≡ false)) → unwrap_or r 0 ≡ or_none n (seek p n)
unfolding or_none if◌then◌or_else◌
from_first None p n h = rw (seek_upto p n (λ k l. h k (omega arith) l l), le-ltb n n (omega arith)) refl
from_first (Some i) p n h =
    let l : i < n = h.1 in
    rw (← seek_found p n i l (seek_upto p i (λ k m. h.3 k (omega arith) m (omega arith))) (h.2 l), lt-ltb i n l) refl

-- `find` over a range, else none
pub named_of_range : {F : Type 0} {g : Mut F (Bor ℕ × Unit {0}) Bool} (u : Range ℕ) (f : F) (r : Option ℕ) (p : ℕ → Bool) (n : ℕ) → (xs : List ℕ) × (j : F) × YieldsThen nat_range_steps (record { start = 0; end = n }) xs r u × FoldsTo (λ k x q. CalledAt g k x false q) f xs j × MatchOption r (Unit {0}) (λ x. (h : F) × CalledAt g j x true h) → ((x : ℕ) (q : F) → CalledAt g f x true q → x < n → p x ≡ true) → ((x : ℕ) (q : F) → CalledAt g f x false q → (q ≡ f) × (x < n → p x ≡ false)) → unwrap_or r 0 ≡ or_none n (seek p n)
named_of_range u f r p n ran pass miss = from_first r p n (first_from_Range (record { start = 0; end = n }) u f r (λ x. x < n → p x ≡ true) (λ x. x < n → p x ≡ false) ran pass miss)
