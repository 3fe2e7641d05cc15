-- Laws of lines: rows in a loop, and the greatest lengths. Assumes nothing.
use mathlib.Core.Path.{◌≡◌, refl, sym, ap}
use mathlib.Core.List.{List, [], ◌∷◌, ◌++◌}
use mathlib.Core.Bool.{Bool, true, false}
use Prim.Native.Nat.{ℕ, zero, suc, ◌+◌, ◌≤◌}
use native.Mathlib.Omega.{arith}
use lib.Dec.{eqb}
use lib.ListN.{length, length-append}
use borrow.Author.Tests.{eq-eqb, ne_eqb}
use Rattle.base_words.specs.Counts.{values}
use Rattle.base_words.specs.Pick.{if◌then◌or_else◌}
use Rattle.base_words.specs.Text.{bytes}
use Rattle.base_words.specs.Words.{at, digits}
use Rattle.base_words.proofs.PickLaws.{pick_yes, pick_no}
use Rattle.base_words.specs.Each.{joined}
use Rattle.write_buffer.specs.Buffers.{lesser, Put}
use Rattle.write_buffer.proofs.OverLaws.{put_as, put_short, pieces_none, pieces_more, pieces_done}
use Rattle.write_decimals.specs.Decimals.{shown}
use Rattle.write_decimals.proofs.DecimalLaws.{shown_short}
use Rattle.meaning.specs.declared.Name.{Name}
use Rattle.meaning.specs.declared.Answer.{Answer}
use Rattle.meaning.specs.declared.Tuple.{Tuple}
use Rattle.meaning.specs.declared.Traffic.{Traffic}
use Rattle.meaning.specs.declared.Traffic.TheVariants.{Nothing, Consumed, Sent}
use Rattle.write_lines.specs.Lines.{marked_off, row, values_line, tuple_line, message_line, signed, traffic_line, place_line, step_line, name_line, row_most, values_most, traffic_most, place_most, step_most, name_most}

-- a number of a row, by the test
pub marked_one : (mark : List ℕ) (j x : ℕ) → j ≡ 0 → shown x ≡ marked_off mark j x
unfolding marked_off
marked_one mark j x e = pick_yes _ _ _ _ (eq-eqb j 0 e) refl

pub marked_more : (mark : List ℕ) (j x : ℕ) → (j ≡ 0 → ⊥) → mark ++ shown x ≡ marked_off mark j x
unfolding marked_off
marked_more mark j x e = pick_no _ _ _ _ (ne_eqb j 0 e) refl

-- a choice of texts is no longer than both
choice : (b : Bool) (x y : List ℕ) (n : ℕ) → length x ≤ n → length y ≤ n → length (if b then x or_else y) ≤ n
unfolding if◌then◌or_else◌
choice true x y n h l = h
choice false x y n h l = l

-- a number of a row, and a row, of marks of one byte
marked_first : (mark : List ℕ) (x : ℕ) → length (marked_off mark 0 x) ≤ digits
unfolding marked_off if◌then◌or_else◌
marked_first mark x = shown_short x

pub marked_short : (mark j x : ℕ) → length (marked_off (mark ∷ []) j x) ≤ digits + 1
unfolding marked_off
marked_short mark j x = choice (eqb j 0) (shown x) (mark ∷ shown x) (digits + 1) (omega (arith, shown_short x)) (omega (arith, shown_short x))

row_next : (mark s : List ℕ) (n : ℕ) → length (row mark s (suc n)) ≡ length (row mark s n) + length (marked_off mark n (at s n))
unfolding row joined
row_next mark s n = length-append (row mark s n) (marked_off mark n (at s n))

row_none : (mark s : List ℕ) → length (row mark s 0) ≡ 0
unfolding row joined
row_none mark s = refl

pub row_short : (mark : ℕ) (s : List ℕ) (n : ℕ) → length (row (mark ∷ []) s n) ≤ row_most n
row_short mark s zero = omega (arith, row_none (mark ∷ []) s)
row_short mark s (suc zero) = omega (arith, row_next (mark ∷ []) s 0, row_none (mark ∷ []) s, marked_first (mark ∷ []) (at s 0))
row_short mark s (suc (suc n)) = omega (arith, row_next (mark ∷ []) s (suc n), row_short mark s (suc n), marked_short mark (suc n) (at s (suc n)))

-- a row in a loop: x is the word that was read
pub row_start : (mark : ℕ) (s : List ℕ) (from : ℕ) (out : List ℕ) → Put (row (mark ∷ []) s 0) (row_most 0) from out from out
unfolding row
row_start mark s from out = pieces_none (λ j. marked_off (mark ∷ []) j (at s j)) from out

pub row_more : (mark : ℕ) (s : List ℕ) {out o now : List ℕ} {m m' from k r : ℕ} (j x : ℕ) → x ≡ at s j → Put (row (mark ∷ []) s j) m from out k o → Put (marked_off (mark ∷ []) j x) m' k o r now → Put (row (mark ∷ []) s (j + 1)) (row_most (j + 1)) from out r now
unfolding row
row_more mark s j x e h p = put_short (pieces_more (λ i. marked_off (mark ∷ []) i (at s i)) j h (put_as (marked_off (mark ∷ []) j (at s j)) (ap (marked_off (mark ∷ []) j) e) p)) (row_short mark s (j + 1))

pub row_done : (mark : ℕ) (s : List ℕ) {out now : List ℕ} {m from r : ℕ} (n j : ℕ) → n ≤ j → j ≤ n → Put (row (mark ∷ []) s j) m from out r now → Put (row (mark ∷ []) s n) (row_most n) from out r now
unfolding row
row_done mark s n j h l w = put_short (pieces_done (λ i. marked_off (mark ∷ []) i (at s i)) n j h l w) (row_short mark s n)

pub values_short : (g : Tuple) → length (values_line g) ≤ values_most
unfolding values_line lesser
values_short g = omega (arith, row_short 44 g.values (lesser g.length values))

pub tuple_short : (g : Tuple) → length (tuple_line g) ≤ values_most
unfolding tuple_line
tuple_short g = choice (eqb g.length 0) (bytes "-") (values_line g) values_most (omega arith) (values_short g)

pub message_short : (a : Answer) → length (message_line a) ≤ digits + 1 + values_most
unfolding message_line
message_short a =
    omega (arith, length-append (shown a.name ++ bytes ":") (values_line a.tuple), length-append (shown a.name) (bytes ":"), shown_short a.name, values_short a.tuple)

pub traffic_short : (a : Answer) → length (traffic_line a) ≤ traffic_most
unfolding traffic_line
traffic_short a = go a.traffic
  where
    go : (t : Traffic) → length (signed t (message_line a)) ≤ traffic_most
    go Nothing = unfold signed in omega arith
    go Consumed = unfold signed in omega (arith, message_short a)
    go Sent = unfold signed in omega (arith, message_short a)

pub place_short : (n : Name) → length (place_line n) ≤ place_most
unfolding place_line
place_short n = row_short 32 _ 5

pub step_short : (n : Name) (a : Answer) → length (step_line n a) ≤ step_most
unfolding step_line
step_short n a =
    omega (arith, length-append (place_line n ++ bytes " ") (traffic_line a), length-append (place_line n) (bytes " "), place_short n, traffic_short a)

pub name_short : (n : Name) → length (name_line n) ≤ name_most
unfolding name_line
name_short n =
    omega (arith, length-append (place_line n ++ bytes " ") (tuple_line n.given), length-append (place_line n) (bytes " "), place_short n, tuple_short n.given)

-- a tuple, and traffic, by the test
pub tuple_none : (g : Tuple) → g.length ≡ 0 → bytes "-" ≡ tuple_line g
unfolding tuple_line
tuple_none g e = pick_yes _ _ _ _ (eq-eqb g.length 0 e) refl

pub tuple_some : (g : Tuple) → (g.length ≡ 0 → ⊥) → values_line g ≡ tuple_line g
unfolding tuple_line
tuple_some g e = pick_no _ _ _ _ (ne_eqb g.length 0 e) refl

pub traffic_is : (a : Answer) (t : Traffic) → a.traffic ≡ t → signed t (message_line a) ≡ traffic_line a
unfolding traffic_line
traffic_is a t e = ap (λ x. signed x (message_line a)) (sym e)
