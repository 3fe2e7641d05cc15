-- Laws of a text written into a buffer: its length, one text behind another, the pieces of a loop, and from a place on as from the start. Assumes nothing.
use mathlib.Core.Path.{◌≡◌, refl, sym, ap, subst, ◌∙◌}
use mathlib.Core.Bool.{Bool, true, false}
use mathlib.Core.List.{List, [], ◌∷◌, ◌++◌, append-nil, append_assoc}
use Prim.Native.Nat.{ℕ, zero, suc, ◌+◌, ◌*◌, ◌-◌, ◌<◌, ◌≤◌, min}
use native.Mathlib.Nat.{not-suc-le-zero, le_of_suc-le-suc, le_antisymm}
use native.Mathlib.Numerals.{add-one}
use native.Mathlib.Omega.{arith, min_cases}
use lib.Dec.{ltb}
use lib.ListN.{length, take, drop, get_or, set, length-append, length-drop, length-set, take-append-drop, drop_of_length-le}
use lib.Seq.{take_all, take-append_seam, take-suc, take-suc-set, drop-cons, drop-set-lt, set_out}
use borrow.Author.Tests.{ltb-true, ltb-false, lt-ltb, le-ltb}
use borrow.Rule.Slice.PartMut.{put_mid}
use Rattle.base_words.specs.Each.{joined}
use Rattle.base_words.proofs.JoinLaws.{joined_none, joined_more}
use Rattle.base_words.proofs.BlockLaws.{tail_in}
use Rattle.base_words.proofs.PickLaws.{pick_yes, pick_no}
use Rattle.write_buffer.specs.Buffers.{over, lesser, last_place, next, end_written, over_from, Put}

-- a buffer with no room stays
pub over_empty : (w : List ℕ) → over w [] ≡ []
unfolding over
over_empty [] = refl
over_empty (b ∷ w) = refl

-- where there is room for it, the whole text stands there
pub over_all : (w out : List ℕ) → length w ≤ length out → over w out ≡ w ++ drop (length w) out
unfolding over
over_all [] out h = refl
over_all (b ∷ w) [] h = absurd (not-suc-le-zero h)
over_all (b ∷ w) (o ∷ out) h = ap {B = List ℕ} (λ l. b ∷ l) (over_all w out (le_of_suc-le-suc h))

-- so that it can be read there, and what stands behind it stays
pub over_read : (w out : List ℕ) → length w ≤ length out → take (length w) (over w out) ≡ w
over_read w out h = ap (take (length w)) (over_all w out h) ∙ take-append_seam w (drop (length w) out)

pub over_stays : (w out : List ℕ) → drop (length w) (over w out) ≡ drop (length w) out
unfolding over
over_stays [] out = refl
over_stays (b ∷ w) [] = refl
over_stays (b ∷ w) (o ∷ out) = over_stays w out

-- the rest that is lent behind k bytes, and what comes back
module _ (out : List ℕ) (k f : ℕ) (e : f ≡ lesser k (length out)) where
  take_least : take f out ≡ take k out
  unfolding lesser
  take_least =
      min_cases k (length out) (take f out ≡ take k out)
      (λ h m. ap (λ n. take n out) (e ∙ m))
      (λ h m. take_all f out (omega arith) ∙ sym (take_all k out h))

  drop_least : drop f out ≡ drop k out
  unfolding lesser
  drop_least =
      min_cases k (length out) (drop f out ≡ drop k out)
      (λ h m. ap (λ n. drop n out) (e ∙ m))
      (λ h m. let l : length out ≤ f = omega arith in drop_of_length-le out l ∙ sym (drop_of_length-le out h))

  rest_back : (b m : List ℕ) → m ≡ over b (take (length out - f) (drop f out)) → put_mid f (length out - f) out m ≡ take k out ++ over b (drop k out)
  rest_back b m p =
      let short : length (drop f out) ≤ length out - f = omega (arith, length-drop f out) in
      ap (λ l. take f out ++ (m ++ l)) (drop_of_length-le (drop f out) short)
      ∙ ap (λ l. take f out ++ l) (append-nil m ∙ p ∙ ap (over b) (tail_in out f ∙ drop_least))
      ∙ ap (λ l. l ++ over b (drop k out)) take_least

-- a text from a place on: one behind another
behind_append : (p : ℕ) (a b : List ℕ) → end_written (end_written p a) b ≡ end_written p (a ++ b)
unfolding end_written
behind_append p [] b = refl
behind_append p (x ∷ a) b = behind_append (next p) a b

from_append : (p : ℕ) (a b out : List ℕ) → over_from (end_written p a) b (over_from p a out) ≡ over_from p (a ++ b) out
unfolding end_written over_from
from_append p [] b out = refl
from_append p (x ∷ a) b out = from_append (next p) a b (set out p x)

length_from : (p : ℕ) (w out : List ℕ) → length (over_from p w out) ≡ length out
unfolding over_from
length_from p [] out = refl
length_from p (b ∷ w) out = length_from (next p) w (set out p b) ∙ length-set out p b

-- the buffer keeps its length
pub put_long : {w out now : List ℕ} {most from r : ℕ} → Put w most from out r now → length now ≡ length out
put_long {w} {out} {now} {most} {from} h = ap length h.text ∙ length_from from w out

-- nothing is written
pub put_nothing : (from : ℕ) (out : List ℕ) → Put [] 0 from out from out
unfolding end_written over_from
put_nothing from out = record { short = omega arith; place = refl; text = refl }

-- one writer behind another
pub after : {a b out o now : List ℕ} {m n from k r : ℕ} → Put a m from out k o → Put b n k o r now → Put (a ++ b) (m + n) from out r now
after {a} {b} {out} {o} {now} {m} {n} {from} {k} {r} h i = record {
  short = omega (arith, length-append a b, h.short, i.short);
  place = i.place ∙ ap (λ p. end_written p b) h.place ∙ behind_append from a b;
  text = i.text ∙ ap (λ p. over_from p b o) h.place ∙ ap (over_from (end_written from a) b) h.text ∙ from_append from a b out;
}

-- the same text by another name, and no longer than another length
pub put_as : {w out now : List ℕ} {most from r : ℕ} (v : List ℕ) → w ≡ v → Put w most from out r now → Put v most from out r now
put_as {w} {out} {now} {most} {from} {r} v e h = subst (λ (l : List ℕ). Put l most from out r now) e h

pub put_within : {w out now : List ℕ} {m most from r : ℕ} → Put w m from out r now → m ≤ most → Put w most from out r now
put_within h l = record { short = omega (arith, h.short, l); place = h.place; text = h.text }

pub put_short : {w out now : List ℕ} {m most from r : ℕ} → Put w m from out r now → length w ≤ most → Put w most from out r now
put_short h l = record { short = l; place = h.place; text = h.text }

pub put_exact : {w out now : List ℕ} {most from r : ℕ} (v : List ℕ) → w ≡ v → length v ≤ most → Put w (length w) from out r now → Put v most from out r now
put_exact {w} {out} {now} {most} {from} v e l h = record { short = l; place = h.place ∙ ap (end_written from) e; text = h.text ∙ ap (λ x. over_from from x out) e }

-- Pieces in a loop: before the first, behind one more, at the end.
module _ (f : ℕ → List ℕ) where
  pub pieces_none : (from : ℕ) (out : List ℕ) → Put (joined f 0) 0 from out from out
  pieces_none from out = rw (joined_none f) (put_nothing from out)

  pub pieces_more : {out o now : List ℕ} {most m from k r : ℕ} (j : ℕ) → Put (joined f j) m from out k o → Put (f j) most k o r now → Put (joined f (j + 1)) (m + most) from out r now
  pieces_more j h i = rw (joined_more f j) (after h i)

  pub pieces_done : {out now : List ℕ} {m from r : ℕ} (n j : ℕ) → n ≤ j → j ≤ n → Put (joined f j) m from out r now → Put (joined f n) m from out r now
  pieces_done n j h l w = rw (le_antisymm h l) w

  -- no longer than the longest piece, n times
  pub pieces_short : (most n : ℕ) → ((k : ℕ) → k < n → length (f k) ≤ most) → length (joined f n) ≤ n * most
  unfolding joined
  pieces_short most zero h = omega arith
  pieces_short most (suc n) h = omega (arith, length-append (joined f n) (f n), pieces_short most n (λ k l. h k (omega arith)), h n (omega arith))

-- bytes of a list, one after another
pub bytes_none : (s out : List ℕ) (from : ℕ) → Put (take 0 s) 0 from out from out
bytes_none [] out from = put_nothing from out
bytes_none (x ∷ s) out from = put_nothing from out

pub bytes_more : {out o now : List ℕ} {from k r : ℕ} (s : List ℕ) (i : ℕ) → i < length s → Put (take i s) i from out k o → Put (get_or s i 0 ∷ []) 1 k o r now → Put (take (i + 1) s) (i + 1) from out r now
bytes_more s i l h p = put_as (take (i + 1) s) (sym (take-suc s i 0 l) ∙ ap (λ n. take n s) (sym (add-one i))) (after h p)

pub bytes_done : {out now : List ℕ} {from r : ℕ} (s : List ℕ) (i : ℕ) → length s ≤ i → i ≤ length s → Put (take i s) i from out r now → Put s (length s) from out r now
bytes_done s i l m h = put_within (put_as s (take_all i s l) h) m

-- the place behind another, where there is one
next_below : (p : ℕ) → p < last_place → next p ≡ p + 1
unfolding next
next_below p h = sym (pick_yes (ltb p last_place) (p + 1) (p + 1) p (lt-ltb p last_place h) refl)

next_last : (p : ℕ) → last_place ≤ p → next p ≡ p
unfolding next
next_last p h = sym (pick_no (ltb p last_place) p (p + 1) p (le-ltb p last_place h) refl)

either : {P : Type 0} (a b : ℕ) → (a < b → P) → (b ≤ a → P) → P
either {P} a b f g = go (ltb a b) refl
  where
    go : (t : Bool) → ltb a b ≡ t → P
    go true e = f (ltb-true a b e)
    go false e = g (ltb-false a b e)

next_on : (p : ℕ) → p ≤ next p
next_on p = either p last_place (λ h. omega (arith, next_below p h)) (λ h. omega (arith, next_last p h))

-- which is what a sum that stays within a word's places gives
pub next_least : (p : ℕ) → p ≤ last_place → next p ≡ min (p + 1) last_place
next_least p l = either p last_place (λ h. omega (arith, next_below p h)) (λ h. omega (arith, next_last p h))

next_within : (p : ℕ) → p ≤ last_place → next p ≤ last_place
next_within p l = either p last_place (λ h. omega (arith, next_below p h)) (λ h. omega (arith, next_last p h))

-- as far as there are places, the text's length is added
behind_adds : (p : ℕ) (w : List ℕ) → p + length w ≤ last_place → end_written p w ≡ p + length w
unfolding end_written
behind_adds p [] h = omega arith
behind_adds p (b ∷ w) h =
    let on : next p ≡ p + 1 = next_below p (omega arith) in
    let rest : end_written (next p) w ≡ next p + length w = behind_adds (next p) w (omega arith) in
    omega arith

-- one byte, then the rest: within the buffer and beyond its end
module _ (p b : ℕ) (w out : List ℕ) (rest : over_from (next p) w (set out p b) ≡ take (next p) (set out p b) ++ over w (drop (next p) (set out p b))) where
  inside : p < length out → p < last_place → over_from (next p) w (set out p b) ≡ take p out ++ over (b ∷ w) (drop p out)
  unfolding over
  inside h l =
      rest
      ∙ ap (λ q. take q (set out p b) ++ over w (drop q (set out p b))) (next_below p l ∙ add-one p)
      ∙ ap (λ r. take (suc p) (set out p b) ++ over w r) (drop-set-lt (suc p) out p b (omega arith))
      ∙ ap (λ r. r ++ over w (drop (suc p) out)) (take-suc-set out p b h)
      ∙ append_assoc (take p out) (b ∷ []) (over w (drop (suc p) out))
      ∙ ap (λ r. take p out ++ over (b ∷ w) r) (sym (drop-cons out p 0 h))

  beyond : length out ≤ p → over_from (next p) w (set out p b) ≡ take p out ++ over (b ∷ w) (drop p out)
  unfolding over
  beyond h =
      let far : length out ≤ next p = omega (arith, next_on p) in
      rest
      ∙ ap (λ r. take (next p) r ++ over w (drop (next p) r)) (set_out out p b h)
      ∙ ap (λ r. r ++ over w (drop (next p) out)) (take_all (next p) out far ∙ sym (take_all p out h))
      ∙ ap (λ r. take p out ++ over w r) (drop_of_length-le out far)
      ∙ ap (λ r. take p out ++ r) (over_empty w)
      ∙ ap (λ r. take p out ++ over (b ∷ w) r) (sym (drop_of_length-le out h))

-- a text from a place on stands over what follows the place
from_over : (p : ℕ) (w out : List ℕ) → length out ≤ last_place → p ≤ last_place → over_from p w out ≡ take p out ++ over w (drop p out)
unfolding over_from over
from_over p [] out h l = sym (take-append-drop p out)
from_over p (b ∷ w) out h l =
    let rest = from_over (next p) w (set out p b) (omega (arith, length-set out p b)) (next_within p l) in
    either p (length out) (λ i. inside p b w out rest i (omega arith)) (λ i. beyond p b w out rest i)

-- the place behind a text, by its length
behind_lesser : (p : ℕ) (w : List ℕ) → p ≤ last_place → end_written p w ≡ lesser (p + length w) last_place
unfolding end_written lesser
behind_lesser p [] h = omega arith
behind_lesser p (b ∷ w) h =
    let rest : end_written (next p) w ≡ lesser (next p + length w) last_place = behind_lesser (next p) w (next_within p h) in
    either p last_place (λ l. omega (arith, next_below p l)) (λ l. omega (arith, next_last p l))

-- from the start on its place is its length, and it is a text over the buffer
pub put_length : {w out now : List ℕ} {most r : ℕ} → Put w most 0 out r now → most ≤ last_place → r ≡ length w
put_length {w} h l = h.place ∙ behind_adds 0 w (omega (arith, h.short)) ∙ omega arith

pub lesser_is : (r n most : ℕ) → r ≡ lesser n last_place → n ≤ most → most ≤ last_place → r ≡ n
unfolding lesser
lesser_is r n most e h l = omega arith

from_start : (w : List ℕ) → end_written 0 w ≡ lesser (length w) last_place
from_start w = behind_lesser 0 w (omega arith) ∙ ap (λ n. lesser n last_place) (let e : 0 + length w ≡ length w = omega arith in e)

pub put_over : {w out now : List ℕ} {most r : ℕ} → Put w most 0 out r now → length out ≤ last_place → (r ≡ lesser (length w) last_place) × (now ≡ over w out)
put_over {w} {out} {now} {most} {r} h o = (h.place ∙ from_start w, h.text ∙ from_over 0 w out o (omega arith))

-- a place as far as there are places, and a text behind it
twice : (k n : ℕ) → lesser (k + lesser n last_place) last_place ≡ lesser (k + n) last_place
unfolding lesser
twice k n = omega arith

-- A writer that is lent the part of the buffer from the place reached, and writes from the part's start on.
pub lent : {b o m : List ℕ} {most k f n r : ℕ} → f ≡ lesser k (length o) → Put b most 0 (take (length o - f) (drop f o)) n m → r ≡ lesser (k + n) last_place → k ≤ last_place → length o ≤ last_place → Put b most k o r (put_mid f (length o - f) o m)
lent {b} {o} {m} {most} {k} {f} {n} {r} e h q k-in o-in =
    let part : length (take (length o - f) (drop f o)) ≤ last_place = omega (arith, ap length (tail_in o f), length-drop f o) in
    let there = put_over h part in
    record {
      short = h.short;
      place = q ∙ ap (λ j. lesser (k + j) last_place) there.0 ∙ twice k (length b) ∙ sym (behind_lesser k b k-in);
      text = rest_back o k f e b m there.1 ∙ sym (from_over k b o o-in k-in);
    }
