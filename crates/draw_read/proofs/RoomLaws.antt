-- What is not beyond the limits has room in a table: at most 4 pools, at most 32 elements in each. Assumes nothing.
use Prim.Native.Nat.{ℕ, zero, suc, ◌+◌, ◌≤◌, ◌<◌}
use mathlib.Core.Path.{◌≡◌, refl, sym, ◌∙◌, ap, subst}
use mathlib.Core.Bool.{Bool, true, false, ◌&&◌, ◌||◌, false≢true}
use mathlib.Core.List.{List, [], ◌∷◌, ◌++◌}
use native.Mathlib.Omega.{arith}
use lib.Dec.{leb, ltb, eqb}
use lib.ListN.{length, length-append}
use borrow.Author.Tests.{eqb-true, ltb-false, leb-false}
use Rattle.base_words.specs.Counts.{pools, elements, tasks}
use Rattle.base_words.specs.Each.{joined}
use Rattle.base_words.specs.Pick.{if◌then◌or_else◌}
use Rattle.base_words.specs.Seek.{seek}
use Rattle.base_words.specs.Sum.{sum, one_if}
use Rattle.base_words.proofs.AllLaws.{and_left, and_right}
use Rattle.base_words.proofs.SeekLaws.{sought}
use Rattle.check_model.specs.Checks.{Pool}
use Rattle.text_passes.proofs.FillLaws.{AtMost, none, some, Block, Fits}
use Rattle.draw_things.specs.Things.{sort, within, kind, is_node, branch}
use Rattle.draw_numbers.specs.Who.{has_participants, is_pool}
use Rattle.draw_numbers.specs.Numbers.{count_before, is_element, an_element, a_task, is_of}
use Rattle.draw_limits.specs.Excess.{is_fifth_pool, is_one_too_many, is_start_beyond, is_node_beyond, is_flow_beyond, is_message_beyond, is_maximum_beyond, is_condition_beyond, is_beyond, first_beyond}
use Rattle.draw_model.specs.Content.{element_if, elements_of, process_of, pool_drawn, pool_if, content}
use Rattle.draw_model.specs.Drawn.{element_drawn}
use Rattle.draw_read.proofs.LongLaws.{element_long}

or_left : (a b : Bool) → a || b ≡ false → a ≡ false
or_left true b e = absurd (false≢true (sym e))
or_left false b e = refl

or_right : (a b : Bool) → a || b ≡ false → b ≡ false
or_right true b e = absurd (false≢true (sym e))
or_right false b e = e

-- where none is one too many, there are at most m
module _ (f : ℕ → Bool) (m : ℕ) where
  at_most_m : (n : ℕ) → ((k : ℕ) → k < n → f k && leb m (count_before f k) ≡ false) → count_before f n ≤ m
  unfolding count_before sum
  at_most_m zero h = omega arith
  at_most_m (suc n) h = go (at_most_m n (λ k l. h k (omega (arith, l)))) (f n) refl
    where
      go : count_before f n ≤ m → (b : Bool) → f n ≡ b → count_before f n + one_if b ≤ m
      go before true e = let l = leb-false m (count_before f n) (subst (λ (b : Bool). b && leb m (count_before f n) ≡ false) e (h n (omega arith))) in omega (arith, l)
      go before false e = omega (arith, before)

-- those that pass, one behind the other
data Every {A : Type 0} (P : A → Type 0) : List A → Type 0 where
  nil : Every P []
  cons : {x : A} {xs : List A} → P x → Every P xs → Every P (x ∷ xs)

every_append : {A : Type 0} (P : A → Type 0) (xs ys : List A) → Every P xs → Every P ys → Every P (xs ++ ys)
every_append P [] ys nil e = e
every_append P (x ∷ xs) ys (cons p d) e = cons p (every_append P xs ys d e)

room_for : {A : Type 0} (P : A → Type 0) (m : ℕ) (xs : List A) → Every P xs → length xs ≤ m → AtMost P m xs
room_for P m [] nil l = none
room_for P zero (x ∷ xs) (cons p d) l = absurd (omega (arith, l))
room_for P (suc m) (x ∷ xs) (cons p d) l = some p (room_for P m xs d (omega (arith, l)))

module _ {A : Type 0} (P : A → Type 0) (f : ℕ → Bool) (x : ℕ → A) where
  abbrev one : ℕ → List A
  one k = if f k then x k ∷ [] or_else []

  one_counts : (b : Bool) (a : A) → length (if b then a ∷ [] or_else []) ≡ one_if b
  unfolding if◌then◌or_else◌
  one_counts true a = refl
  one_counts false a = refl

  many_count : (n : ℕ) → length (joined one n) ≡ count_before f n
  unfolding joined count_before sum
  many_count zero = refl
  many_count (suc n) = length-append (joined one n) (one n) ∙ rw (many_count n, one_counts (f n) (x n))

  one_is : (b : Bool) (a : A) → (b ≡ true → P a) → Every P (if b then a ∷ [] or_else [])
  unfolding if◌then◌or_else◌
  one_is true a p = cons (p refl) nil
  one_is false a p = nil

  many_are : (n : ℕ) → ((k : ℕ) → P (x k)) → Every P (joined one n)
  unfolding joined
  many_are zero p = nil
  many_are (suc n) p = every_append P (joined one n) (one n) (many_are n p) (one_is (f n) (x n) (λ e. p n))

  pub few : (m n : ℕ) → ((k : ℕ) → k < n → f k && leb m (count_before f k) ≡ false) → ((k : ℕ) → P (x k)) → AtMost P m (joined one n)
  few m n h p = room_for P m (joined one n) (many_are n p) (omega (arith, many_count n, at_most_m f m n h))

module _ (t w : List ℕ) (n : ℕ) (h : ltb (first_beyond t w n) n ≡ false) where
  none_beyond : (k : ℕ) → k < n → is_beyond (has_participants w n) t w n k ≡ false
  unfolding first_beyond
  none_beyond k l = let s = sought (is_beyond (has_participants w n) t w n) n in s.2 k (omega (arith, l, ltb-false (seek (is_beyond (has_participants w n) t w n) n) n h))

  abbrev others : ℕ → Bool
  others k = is_flow_beyond w k || (is_message_beyond w k || (is_maximum_beyond t w k || is_condition_beyond t w n k))

  node_not : (k : ℕ) → k < n → is_node_beyond w n k ≡ false
  unfolding is_beyond
  node_not k l = or_left (is_node_beyond w n k) (others k) (or_right (is_fifth_pool (has_participants w n) w k) (is_node_beyond w n k || others k) (none_beyond k l))

  not_too_many : (k : ℕ) → k < n → is_one_too_many an_element elements w k ≡ false
  unfolding is_node_beyond
  not_too_many k l = or_left (is_one_too_many an_element elements w k) (is_one_too_many a_task tasks w k || is_start_beyond w n k) (node_not k l)

  not_fifth : (k : ℕ) → k < n → is_fifth_pool (has_participants w n) w k ≡ false
  unfolding is_beyond
  not_fifth k l = or_left (is_fifth_pool (has_participants w n) w k) (is_node_beyond w n k || others k) (none_beyond k l)

  module _ (p : ℕ) where
    its_process : (k : ℕ) → is_element p w k ≡ true → within w k ≡ p
    unfolding is_element
    its_process k e = eqb-true (within w k) p (and_left _ _ (and_right (is_node (sort w k)) _ e))

    element_few : (k : ℕ) → k < n → is_element p w k && leb elements (count_before (is_element p w) k) ≡ false
    unfolding is_one_too_many is_of if◌then◌or_else◌ count_before
    element_few k l = go (is_element p w k) refl
      where
        go : (b : Bool) → is_element p w k ≡ b → is_element p w k && leb elements (count_before (is_element p w) k) ≡ false
        go true e = subst (λ (q : ℕ). is_element q w k && leb elements (count_before (is_element q w) k) ≡ false) (its_process k e) (not_too_many k l)
        go false e = rw e

  pool_fits_lem : (owned : Bool) (k : ℕ) → Fits (pool_drawn owned t w n k)
  unfolding pool_drawn elements_of element_if
  pool_fits_lem owned k =
      few Block (is_element (process_of owned w k) w) (element_drawn t w n) elements n (element_few (process_of owned w k)) (element_long t w n)

  pub content_fits : AtMost Fits pools (content t w n)
  unfolding content pool_if is_fifth_pool
  content_fits = few Fits (is_pool (has_participants w n) w) (pool_drawn (has_participants w n) t w n) pools n not_fifth (pool_fits_lem (has_participants w n))
