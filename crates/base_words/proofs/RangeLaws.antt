-- Chains over the numbers below n, in the words of `all`, `seek` and `sum`. Assumes nothing.
use Rattle.std.proofs.Common.{◌≡◌, ℕ, Bool, ◌<◌, ◌≤◌, length, true, false, List, Option, None, Some, sym, refl, ◌∙◌, subst}
use Rattle.std.proofs.lemmas.Iterator.{cases_from_all, YieldsList-from_range}
use Rattle.std.specs.Fn.{Called}
use Rattle.std.specs.Iterator.{YieldsThen}
use Rattle.std.specs.List.{range_with_len, FoldsTo, AllWithin, HoldsAt}
use Rattle.std.specs.Option.{MatchOption}
use Rattle.std.specs.Bool.{MatchBool}
use Rattle.std.proofs.iter.Yields.{nat_range_steps}
use denote.Param.Members.{Mut}
use Rattle.std.specs.declared.ops.Range.{Range}
use Rattle.std.specs.Fn.{CalledAt}
use Rattle.std.specs.Iterator.{Drains}
use Rattle.std.specs.Iterator.Adapters.{filter_source, filter_callee, filter_steps}
use Rattle.std.specs.declared.iter.Filter.{Filter}
use Rattle.std.specs.Option.{unwrap_or}
use Rattle.std.specs.List.{filter}
use Rattle.std.proofs.lemmas.Iterator.{first_from_Range}
use Rattle.std.proofs.lemmas.Iterator.Consumers.{count_from_yields_List, YieldsList-from_filter}
use Rattle.std.proofs.lemmas.List.Filters.{length-filter_more}
use Rattle.std.proofs.Common.{suc, zero, cond, take, ap}
use lib.Seq.{take_all}
use denote.Ref.{Bor}
use native.Mathlib.Numerals.{add-one}
use Rattle.base_words.proofs.SumLaws.{sum_none, sum_more}
use Rattle.base_words.proofs.SeekLaws.{seek_none, seek_more, seek_found, seek_done}
use Rattle.base_words.specs.Seek.{seek}
use Rattle.base_words.specs.Sum.{sum, one_if}
use Rattle.base_words.specs.All.{all}
use Rattle.base_words.proofs.AllLaws.{all_of, all_fails}
use Rattle.std.proofs.Common.{arith, get_or}
use Rattle.std.proofs.lemmas.List.FromFn.{length-range_with_len, get_or-range_with_len}

at_range : (n j : ℕ) → j < n → get_or (range_with_len 0 n) j 0 ≡ j
at_range n j l = omega (arith, get_or-range_with_len 0 n j 0 l)

from_cases : (r : Bool) (p : ℕ → Bool) (n : ℕ) → MatchBool r (AllWithin (λ x. p x ≡ true) (range_with_len 0 n) 0 (length (range_with_len 0 n))) ((k : ℕ) × (k < length (range_with_len 0 n)) × HoldsAt (λ x. p x ≡ false) (range_with_len 0 n) k) → r ≡ all p n
from_cases true p n h = sym (all_of p n (λ j l. let k : j < length (range_with_len 0 n) = omega (arith, length-range_with_len 0 n) in subst (λ (x : ℕ). p x ≡ true) (at_range n j l) (h j 0 (omega arith) k)))
from_cases false p n h = let l : h.0 < n = omega (arith, h.1, length-range_with_len 0 n) in sym (all_fails p n h.0 l (subst (λ (x : ℕ). p x ≡ false) (at_range n h.0 l) (h.2 0)))

pub all_of_range : {F : Type 0} {g : Mut F (ℕ × Unit {0}) Bool} {s : Range ℕ} (u : Range ℕ) (f : F) (r : Bool) (p : ℕ → Bool) (n : ℕ) → (xs : List ℕ) × (o : Option ℕ) × (j : F) × YieldsThen nat_range_steps s xs o u × FoldsTo (λ k x q. Called g k (x, tt) true q) f xs j × MatchOption o (r ≡ true) (λ x. (r ≡ false) × ((h : F) × Called g j (x, tt) false h)) → s ≡ record { start = 0; end = n } → ((x : ℕ) (q : F) → Called g f (x, tt) true q → (q ≡ f) × (p x ≡ true)) → ((x : ℕ) (q : F) → Called g f (x, tt) false q → p x ≡ false) → r ≡ all p n
all_of_range u f r p n ran e pass miss = from_cases r p n (cases_from_all u f r (λ x. p x ≡ true) (λ x. p x ≡ false) ran (YieldsList-from_range 0 n n e (omega arith)) pass miss)

seek_upto : (p : ℕ → Bool) (i : ℕ) → ((k : ℕ) → k < i → p k ≡ false) → seek p i ≡ i
seek_upto p zero h = seek_none p
seek_upto p (suc i) h = subst (λ (m : ℕ). seek p m ≡ m) (add-one i) (seek_more p i (seek_upto p i (λ k l. h k (omega arith))) (h i (omega arith)))

from_first : (r : Option ℕ) (p : ℕ → Bool) (n : ℕ) → MatchOption r ((k : ℕ) → 0 ≤ k → k < n → p k ≡ false) (λ i. (0 ≤ i) × (i < n) × (p i ≡ true) × ((k : ℕ) → 0 ≤ k → k < i → p k ≡ false)) → unwrap_or r n ≡ seek p n
from_first None p n h = seek_done p n n (omega arith) (omega arith) (seek_upto p n (λ k l. h k (omega arith) l))
from_first (Some i) p n h = seek_found p n i h.1 (seek_upto p i (λ k l. h.3 k (omega arith) l)) h.2

-- `find` over a range, else its end
pub seek_of_range : {F : Type 0} {g : Mut F (Bor ℕ × Unit {0}) Bool} (u : Range ℕ) (f : F) (r : Option ℕ) (p : ℕ → Bool) (n : ℕ) → (xs : List ℕ) × (j : F) × YieldsThen nat_range_steps (record { start = 0; end = n }) xs r u × FoldsTo (λ k x q. CalledAt g k x false q) f xs j × MatchOption r (Unit {0}) (λ x. (h : F) × CalledAt g j x true h) → ((x : ℕ) (q : F) → CalledAt g f x true q → p x ≡ true) → ((x : ℕ) (q : F) → CalledAt g f x false q → (q ≡ f) × (p x ≡ false)) → unwrap_or r n ≡ seek p n
seek_of_range u f r p n ran pass miss = from_first r p n (first_from_Range (record { start = 0; end = n }) u f r (λ x. p x ≡ true) (λ x. p x ≡ false) ran pass miss)

-- how many of a range a test passes
one-cond : (b : Bool) → cond b 1 0 ≡ one_if b
one-cond true = refl
one-cond false = refl

counted_to : (p : ℕ → Bool) (n i : ℕ) → i ≤ n → length (filter p (take i (range_with_len 0 n))) ≡ sum (λ j. one_if (p j)) i
counted_to p n zero l = sum_none (λ j. one_if (p j))
counted_to p n (suc i) l =
    let k : i < length (range_with_len 0 n) = omega (arith, length-range_with_len 0 n) in
    let h : i < n = omega arith in
    subst (λ (m : ℕ). length (filter p (take m (range_with_len 0 n))) ≡ sum (λ j. one_if (p j)) m) (add-one i)
    (length-filter_more p (range_with_len 0 n) i 0 k ∙ sum_more (λ j. one_if (p j)) i _ _ (counted_to p n i (omega arith)) (one-cond (p (get_or (range_with_len 0 n) i 0)) ∙ ap (λ x. one_if (p x)) (at_range n i h)))

pub sum_of_range : {F : Type 0} {g : Mut F (Bor ℕ × Unit {0}) Bool} (s : Filter (Range ℕ) F) (f : F) (r : ℕ) (p : ℕ → Bool) (n : ℕ) → ((xs : List ℕ) × Drains (filter_steps nat_range_steps g) s xs × (r ≡ length xs)) → filter_source s ≡ record { start = 0; end = n } → filter_callee s ≡ f → ((x : ℕ) (b : Bool) (q : F) → CalledAt g f x b q → (q ≡ f) × (b ≡ p x)) → r ≡ sum (λ j. one_if (p j)) n
sum_of_range s f r p n ran e k test = count_from_yields_List s r ran (YieldsList-from_filter _ p (YieldsList-from_range 0 n n e (omega arith)) k test) ∙ ap (λ x. length (filter p x)) (sym (take_all n (range_with_len 0 n) (omega (arith, length-range_with_len 0 n)))) ∙ counted_to p n n (omega arith)
