-- What is known of each thing once it was asked of all of them. Assumes nothing.
use Prim.Native.Nat.{ℕ, ◌≤◌, ◌<◌}
use mathlib.Core.Path.{◌≡◌, refl, sym, ◌∙◌, ap, subst}
use mathlib.Core.Bool.{Bool, true, false, not, ◌&&◌, ◌||◌, false≢true}
use mathlib.Core.List.{List}
use native.Mathlib.Omega.{arith}
use lib.Dec.{eqb}
use lib.ListN.{length, get_or}
use denote.Param.Members.{Mut}
use Rattle.std.proofs.Common.{Option}
use Rattle.std.proofs.lemmas.Iterator.{cases_from_all, YieldsList-from_range}
use Rattle.std.proofs.lemmas.List.FromFn.{length-range_with_len, get_or-range_with_len}
use Rattle.std.proofs.iter.Yields.{nat_range_steps}
use Rattle.std.specs.declared.ops.Range.{Range}
use Rattle.std.specs.Fn.{Called}
use Rattle.std.specs.Iterator.{YieldsThen}
use Rattle.std.specs.List.{range_with_len, FoldsTo, AllWithin, HoldsAt}
use Rattle.std.specs.Option.{MatchOption}
use Rattle.std.specs.Bool.{MatchBool}
use Rattle.base_words.specs.All.{all}
use Rattle.base_words.specs.Pick.{if◌then◌or_else◌}
use Rattle.base_words.specs.Seek.{seek}
use Rattle.base_words.specs.Text.{bytes}
use Rattle.base_words.proofs.AllLaws.{all_of, all_fails, all_fails'}
use Rattle.base_words.proofs.SeekLaws.{sought}
use Rattle.draw_things.specs.Things.{source, participant}
use Rattle.draw_kinds.specs.Counting.{of_sort}
use Rattle.draw_faults.specs.Amiss.{has, is_strange, is_repeated, is_second_collaboration, is_lost, is_unowned, is_second_multiplicity, amiss_as_flow, amiss_as_node, amiss_as_pool, is_amiss, is_right}
use Rattle.draw_faults.specs.Once.{is_odd}

-- A TEST OF EACH BELOW n, by a call of `all` whose test may be known only there
at_range : (n j : ℕ) → j < n → get_or (range_with_len 0 n) j 0 ≡ j
at_range n j l = omega (arith, get_or-range_with_len 0 n j 0 l)

holds : (P : ℕ → Type 0) (n : ℕ) → AllWithin P (range_with_len 0 n) 0 (length (range_with_len 0 n)) → (j : ℕ) → j < n → P j
holds P n h j l =
    let k : j < length (range_with_len 0 n) = omega (arith, length-range_with_len 0 n) in
    subst P (at_range n j l) (h j 0 (omega arith) k)

all_from : (r : Bool) (p : ℕ → Bool) (n : ℕ) → MatchBool r (AllWithin (λ x. x < n → p x ≡ true) (range_with_len 0 n) 0 (length (range_with_len 0 n))) ((k : ℕ) × (k < length (range_with_len 0 n)) × HoldsAt (λ x. x < n → p x ≡ false) (range_with_len 0 n) k) → r ≡ all p n
all_from true p n h = sym (all_of p n (λ j l. holds (λ x. x < n → p x ≡ true) n h j l l))
all_from false p n h = let l : h.0 < n = omega (arith, h.1, length-range_with_len 0 n) in sym (all_fails p n h.0 l (subst (λ (x : ℕ). x < n → p x ≡ false) (at_range n h.0 l) (h.2 0) l))

module _ {F : Type 0} {g : Mut F (ℕ × Unit {0}) Bool} {s : Range ℕ} (u : Range ℕ) (f : F) (r : Bool) where
  pub all_in_range : (p : ℕ → Bool) (n : ℕ) → (xs : List ℕ) × (o : Option ℕ) × (j : F) × YieldsThen nat_range_steps s xs o u × FoldsTo (λ k x q. Called g k (x, tt) true q) f xs j × MatchOption o (r ≡ true) (λ x. (r ≡ false) × ((h : F) × Called g j (x, tt) false h)) → s ≡ record { start = 0; end = n } → ((x : ℕ) (q : F) → Called g f (x, tt) true q → (q ≡ f) × (x < n → p x ≡ true)) → ((x : ℕ) (q : F) → Called g f (x, tt) false q → x < n → p x ≡ false) → r ≡ all p n
  all_in_range p n ran e pass miss = all_from r p n (cases_from_all u f r (λ x. x < n → p x ≡ true) (λ x. x < n → p x ≡ false) ran (YieldsList-from_range 0 n n e (omega arith)) pass miss)

pub or_last : (v a b : Bool) → v ≡ a → b ≡ false → v ≡ a || b
or_last v true b e h = e
or_last v false b e h = e ∙ sym h

or_behind : (a b : Bool) → b ≡ true → a || b ≡ true
or_behind true b e = refl
or_behind false b e = e

or_before : (a b : Bool) → a ≡ true → a || b ≡ true
or_before a b e = rw e

-- where a participant is not odd, its source says whether it is outside
pub outside_plain : (t w : List ℕ) (j : ℕ) → is_odd t w j ≡ false → of_sort participant w j ≡ true → eqb (source w j) 0 ≡ not (has t (bytes "processRef") w j)
unfolding is_odd if◌then◌or_else◌
outside_plain t w j = go (of_sort participant w j) (has t (bytes "processRef") w j) (eqb (source w j) 0)
  where
    go : (o h z : Bool) → o && (if h then z or_else not z) ≡ false → o ≡ true → z ≡ not h
    go false h z e q = absurd (false≢true q)
    go true true true e q = absurd (false≢true (sym e))
    go true true false e q = refl
    go true false true e q = refl
    go true false false e q = absurd (false≢true (sym e))

-- of the first that is so: none before it is
pub none_so : (f : ℕ → Bool) (n r : ℕ) → r ≡ seek f n → n ≤ r → (k : ℕ) → k < n → f k ≡ false
none_so f n r e h k l = (sought f n).2 k (omega (arith, e, h, l))

pub is_so : (f : ℕ → Bool) (n r : ℕ) → r ≡ seek f n → r < n → f r ≡ true
is_so f n r e h = ap f e ∙ (sought f n).1 (omega (arith, e, h))

-- ONE THAT IS AMISS
module _ (t w : List ℕ) (n k : ℕ) (l : k < n) where
  wrong : is_amiss t w n k ≡ true → false ≡ all (is_right t w n) n
  wrong e = all_fails' (is_right t w n) n k l (unfold is_right in ap not e)

  pub repeated_wrong : is_repeated t w k ≡ true → false ≡ all (is_right t w n) n
  repeated_wrong e = wrong (unfold is_amiss in or_behind (is_strange w k) _ (or_behind (amiss_as_flow t w k) _ (or_behind (amiss_as_node t w n k) _ (or_behind (amiss_as_pool t w n k) _ e))))

  lost_amiss : is_lost t w k ≡ true → amiss_as_pool t w n k ≡ true
  unfolding amiss_as_pool
  lost_amiss e = or_behind (is_second_collaboration w k) _ (or_before (is_lost t w k) (is_unowned w n k || is_second_multiplicity w k) e)

  pub lost_wrong : is_lost t w k ≡ true → false ≡ all (is_right t w n) n
  lost_wrong e = wrong (unfold is_amiss in or_behind (is_strange w k) _ (or_behind (amiss_as_flow t w k) _ (or_behind (amiss_as_node t w n k) _ (or_before (amiss_as_pool t w n k) (is_repeated t w k) (lost_amiss e)))))
