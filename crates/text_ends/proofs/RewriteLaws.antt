-- What one endSnd treated does to counts, and that a pool without endSnds is left alone. Assumes nothing.
use Prim.Native.Nat.{ℕ, zero, suc, ◌+◌, ◌≤◌, ◌<◌}
use mathlib.Core.Path.{◌≡◌, refl, sym, ◌∙◌, ap, ap₂}
use mathlib.Core.Bool.{Bool, true, false, cond, ◌&&◌}
use mathlib.Core.List.{List, [], ◌∷◌}
use native.Mathlib.Nat.{zero-add, add-zero}
use native.Mathlib.Omega.{arith}
use lib.Dec.{eqb, ltb}
use lib.ListN.{length, set, get_or, length-append, length-set}
use lib.Seq.{get_or-set_same, get_or-set_other}
use borrow.Author.Tests.{ltb-true, ltb-false}
use Rattle.base_words.specs.All.{all}
use Rattle.base_words.specs.Each.{total, each}
use Rattle.base_words.specs.Iter.{iter}
use Rattle.base_words.specs.Pick.{if◌then◌or_else◌}
use Rattle.base_words.specs.Seek.{seek}
use Rattle.base_words.specs.Sum.{sum, one_if}
use Rattle.base_words.proofs.AllLaws.{all_front}
use Rattle.base_words.proofs.EachLaws.{total_append}
use Rattle.base_words.proofs.SeekLaws.{seek_more, seek_found, sought}
use Rattle.base_kinds.specs.Kinds.{end_snd}
use Rattle.base_table.specs.Places.{kind_place, exits_place, edge_place, element_words}
use Rattle.check_model.specs.Checks.{Pool}
use Rattle.text_ends.specs.Rewriting.{is_end_snd, first_from, lowest_unused, with_one, sending_to, end_of, first_end, treated, end_sends, all_treated, rewritten}

-- THE FIRST: from 0 on it is the first that `seek` finds
first_from_lem : (f : ℕ → Bool) (n k : ℕ) → seek f k ≡ k → first_from f n k ≡ seek f (k + n)
unfolding first_from
first_from_lem f zero k s = sym s ∙ ap (seek f) (sym (add-zero k))
first_from_lem f (suc n) k s = go (f k) refl (λ e. first_from_lem f n (k + 1) (seek_more f k s e))
  where
    go : (b : Bool) → f k ≡ b → (f k ≡ false → first_from f n (k + 1) ≡ seek f (k + 1 + n)) → (if b then k or_else first_from f n (k + 1)) ≡ seek f (k + suc n)
    go true e more = unfold if◌then◌or_else◌ in seek_found f (k + suc n) k (omega arith) s e
    go false e more = unfold if◌then◌or_else◌ in more e ∙ ap (seek f) (let z : k + 1 + n ≡ k + suc n = omega arith in z)

pub first_is : (f : ℕ → Bool) (n : ℕ) → first_from f n 0 ≡ seek f n
unfolding seek
first_is f n = first_from_lem f n 0 refl ∙ ap (seek f) (zero-add n)

pub seek_ext : (f g : ℕ → Bool) (n : ℕ) → ((j : ℕ) → j < n → f j ≡ g j) → seek f n ≡ seek g n
unfolding seek
seek_ext f g zero h = refl
seek_ext f g (suc n) h =
    ap₂ (λ (s : ℕ) (b : Bool). cond (ltb s n) s (cond b n (suc n))) (seek_ext f g n (λ j l. h j (omega arith))) (h n (omega arith))

-- A LIST BY ITS PLACES
sum_front : (f : ℕ → ℕ) (n : ℕ) → sum f (suc n) ≡ f 0 + sum (λ j. f (suc j)) n
unfolding sum
sum_front f zero = let z : 0 + f 0 ≡ f 0 + 0 = omega arith in z
sum_front f (suc n) = ap (λ k. k + f (suc n)) (sum_front f n) ∙ (let z : f 0 + sum (λ j. f (suc j)) n + f (suc n) ≡ f 0 + (sum (λ j. f (suc j)) n + f (suc n)) = omega arith in z)

pub total_places : {A : Type 0} (f : A → ℕ) (xs : List A) (d : A) → total f xs ≡ sum (λ j. f (get_or xs j d)) (length xs)
unfolding total
total_places f [] d = unfold sum in refl
total_places f (x ∷ xs) d = ap (λ n. f x + n) (total_places f xs d) ∙ sym (sum_front (λ j. f (get_or (x ∷ xs) j d)) (length xs))

pub each_places : {A : Type 0} (f : A → Bool) (xs : List A) (d : A) → each f xs ≡ all (λ j. f (get_or xs j d)) (length xs)
unfolding each
each_places f [] d = unfold all in refl
each_places f (x ∷ xs) d = ap (λ b. f x && b) (each_places f xs d) ∙ sym (all_front (λ j. f (get_or (x ∷ xs) j d)) (length xs))

pub total-set : {A : Type 0} (f : A → ℕ) (xs : List A) (j : ℕ) (y d : A) → j < length xs → total f (set xs j y) + f (get_or xs j d) ≡ total f xs + f y
unfolding total
total-set f [] j y d l = absurd (omega arith)
total-set f (x ∷ xs) zero y d l = let z : f y + total f xs + f x ≡ f x + total f xs + f y = omega arith in z
total-set f (x ∷ xs) (suc j) y d l = omega (arith, total-set f xs j y d (omega arith))

-- ONE TREATED
pub long_one : (kind list f : ℕ) (x : List ℕ) → length (with_one kind list f x) ≡ length x
unfolding with_one
long_one kind list f x = length-set (set (set x kind_place kind) list 1) (edge_place list 0) f ∙ length-set (set x kind_place kind) list 1 ∙ length-set x kind_place kind

sends_no_end : (f : ℕ) (x : List ℕ) → length x ≡ element_words → is_end_snd (sending_to f x) ≡ false
unfolding sending_to with_one is_end_snd
sends_no_end f x l =
    ap (λ k. eqb k end_snd)
    (get_or-set_other (set (set x kind_place 7) exits_place 1) (edge_place exits_place 0) 0 f 0 (λ e. omega arith)
    ∙ get_or-set_other (set x kind_place 7) exits_place 0 1 0 (λ e. omega arith)
    ∙ get_or-set_same x 0 7 0 (omega arith))

end_no_end : (f : ℕ) → is_end_snd (end_of f) ≡ false
unfolding end_of with_one is_end_snd
end_no_end f = refl

pub first_end_lem : (els : List (List ℕ)) → first_end els ≡ seek (λ j. is_end_snd (get_or els j [])) (length els)
unfolding first_end
first_end_lem els = first_is (λ j. is_end_snd (get_or els j [])) (length els)

-- where there is an endSnd it is found
no_ends : (f : ℕ → Bool) (n : ℕ) → ((j : ℕ) → j < n → f j ≡ false) → sum (λ j. one_if (f j)) n ≡ 0
unfolding sum
no_ends f zero h = refl
no_ends f (suc n) h = ap₂ ◌+◌ (no_ends f n (λ j l. h j (omega arith))) (ap one_if (h n (omega arith)))

module _ (els : List (List ℕ)) (some : 0 < end_sends els) where
  abbrev its : ℕ
  its = first_end els

  pub found : its < length els
  unfolding end_sends
  found = go (ltb its (length els)) refl
    where
      s : (its ≤ length els) × (its < length els → is_end_snd (get_or els its []) ≡ true) × ((j : ℕ) → j < its → is_end_snd (get_or els j []) ≡ false)
      s = rw (first_end_lem els) (sought (λ j. is_end_snd (get_or els j [])) (length els))

      go : (b : Bool) → ltb its (length els) ≡ b → its < length els
      go true e = ltb-true its (length els) e
      go false e =
          let h = ltb-false its (length els) e in
          let z = no_ends (λ j. is_end_snd (get_or els j [])) (length els) (λ j l. s.2 j (omega arith)) in
          absurd (omega (arith, total_places (λ el. one_if (is_end_snd el)) els []))

  pub is_end : is_end_snd (get_or els its []) ≡ true
  is_end = rw (first_end_lem els) ((sought (λ j. is_end_snd (get_or els j [])) (length els)).1 (rw (first_end_lem els) at found))

  module _ (wide : length (get_or els its []) ≡ element_words) where
    -- how a count over the elements changes
    pub treated-total : (f : List ℕ → ℕ) → total f (treated els) + f (get_or els its []) ≡ total f els + f (sending_to (lowest_unused els) (get_or els its [])) + f (end_of (lowest_unused els))
    unfolding treated
    treated-total f =
        let e = lowest_unused els in
        let y = sending_to e (get_or els its []) in
        let a = total_append f (set els its y) (end_of e ∷ []) in
        let b : total f (end_of e ∷ []) ≡ f (end_of e) + 0 = unfold total in refl in
        omega (arith, a, b, total-set f els its y [] found)

    pub one_less : end_sends (treated els) + 1 ≡ end_sends els
    unfolding end_sends
    one_less =
        let t = treated-total (λ el. one_if (is_end_snd el)) in
        let a : one_if (is_end_snd (get_or els its [])) ≡ 1 = ap one_if is_end in
        let b : one_if (is_end_snd (sending_to (lowest_unused els) (get_or els its []))) ≡ 0 = ap one_if (sends_no_end (lowest_unused els) (get_or els its []) wide) in
        let c : one_if (is_end_snd (end_of (lowest_unused els))) ≡ 0 = ap one_if (end_no_end (lowest_unused els)) in
        omega (arith, t, a, b, c)

pub treated_long : (els : List (List ℕ)) → length (treated els) ≡ length els + 1
unfolding treated
treated_long els = length-append (set els (first_end els) _) (_ ∷ []) ∙ ap (λ n. n + 1) (length-set els (first_end els) _)

-- A POOL WITHOUT endSnds is left alone
pub left_alone : (els : List (List ℕ)) → end_sends els ≡ 0 → all_treated els ≡ els
unfolding all_treated iter
left_alone els e = ap (iter (λ k. treated) els) e

pub same_pool : (p : Pool) → end_sends p.elements ≡ 0 → rewritten p ≡ p
unfolding rewritten
same_pool p e = ap (λ (els : List (List ℕ)). record { number = p.number; limit = p.limit; elements = els }) (left_alone p.elements e)
