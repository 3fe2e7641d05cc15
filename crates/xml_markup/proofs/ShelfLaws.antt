-- Names in order: which comes first, one found, one put among them. Assumes nothing.
use mathlib.Core.Path.{◌≡◌, ◌∙◌, refl, sym, ap}
use mathlib.Core.Bool.{Bool, true, false, not, false≢true}
use mathlib.Core.Logic.{⊎_elim}
use mathlib.Core.List.{List, [], ◌∷◌}
use Prim.Native.Nat.{ℕ, suc, ◌+◌, ◌-◌, ◌*◌, ◌/◌, ◌%◌, ◌<◌, ◌≤◌}
use native.Mathlib.Nat.{eq-or-lt_of_le, mod-lt}
use native.Mathlib.Numerals.{add-one}
use native.Mathlib.Omega.{arith}
use lib.Dec.{ltb}
use lib.ListN.{length, drop, take, length-drop, drop_of_length-le}
use lib.Seq.{drop-cons, get_or-take, length-take-le}
use Rattle.std.specs.Str.{bytes_eq}
use Rattle.std.specs.List.Sorted.{IsPartitionedBy, IsPartitionPoint}
use Rattle.std.proofs.lemmas.List.{get_or_default, get_or_past, get_or-drop, length-take}
use borrow.Author.Tests.{eq-eqb, ltb-true, ltb-false, lt-ltb, le-ltb, not-false}
use Rattle.base_words.specs.Words.{at, part}
use Rattle.base_bytes.proofs.PieceLaws.{by_order}
use Rattle.xml_markup.specs.Ahead.{name_digit, name_number, key_of, kept_name, key_at, Rising, Kept, Between, Inserted, More, With}

-- a number only grows, and what is smaller stays smaller where no fewer bytes follow the other one
grows : (w : List ℕ) (k : ℕ) → k ≤ name_number w k
unfolding name_number
grows [] k = omega arith
grows (b ∷ w) k = omega (arith, grows w (k * 257 + name_digit b))

stays_less : (a b : List ℕ) (k l : ℕ) → length a ≤ length b → k < l → name_number a k < name_number b l
unfolding name_number name_digit
stays_less [] b k l h q = omega (arith, grows b l)
stays_less (x ∷ a) [] k l h q = absurd (omega arith)
stays_less (x ∷ a) (y ∷ b) k l h q = stays_less a b (k * 257 + name_digit x) (l * 257 + name_digit y) (omega arith) (omega (arith, mod-lt x (let z : 0 < 256 = omega arith in z)))

pub shorter_less : (a b : List ℕ) (k : ℕ) → length a < length b → name_number a k < name_number b k
unfolding name_number name_digit
shorter_less a [] k h = absurd (omega arith)
shorter_less a (y ∷ b) k h = stays_less a b k (k * 257 + name_digit y) (omega arith) (omega arith)

-- two names are alike up to i
abbrev pub Alike : List ℕ → List ℕ → ℕ → Type 0
Alike a b i = (k : ℕ) × (key_of a ≡ name_number (drop i a) k) × (key_of b ≡ name_number (drop i b) k)

number_on : (w : List ℕ) (i k : ℕ) → i < length w → name_number (drop i w) k ≡ name_number (drop (i + 1) w) (k * 257 + name_digit (at w i))
unfolding name_number
number_on w i k h = rw (drop-cons w i 0 h, add-one i)

number_end : (w : List ℕ) (i k : ℕ) → length w ≤ i → name_number (drop i w) k ≡ k
unfolding name_number
number_end w i k h = rw (drop_of_length-le w h)

pub alike_on : (a b : List ℕ) (i : ℕ) → i < length a → i < length b → at a i ≡ at b i → Alike a b i → Alike a b (i + 1)
alike_on a b i h l e (k, p, q) = (k * 257 + name_digit (at a i), p ∙ number_on a i k h, q ∙ number_on b i k l ∙ rw e refl)

-- a test of the names' numbers, by what comes before the other
by_less : (x y p q : ℕ) → (x ≡ y → ⊥) → (x < y → p < q) → (y < x → q < p) → ltb x y ≡ ltb p q
by_less x y p q n f g =
    by_order y x
    (λ h. ⊎_elim (λ e. absurd (n (sym e))) (λ s. le-ltb x y h ∙ sym (le-ltb p q (omega (arith, g s)))) (eq-or-lt_of_le h))
    (λ h. lt-ltb x y h ∙ sym (lt-ltb p q (f h)))

pub by_lengths : (a b : List ℕ) → (length a ≡ length b → ⊥) → ltb (length a) (length b) ≡ ltb (key_of a) (key_of b)
by_lengths a b n = by_less _ _ _ _ n (λ h. shorter_less a b 0 h) (λ h. shorter_less b a 0 h)

differ : (a b : List ℕ) (i : ℕ) → i < length a → length a ≡ length b → at b i < 256 → at a i < at b i → Alike a b i → key_of a < key_of b
unfolding name_digit
differ a b i h e s l (k, p, q) =
    rw (p ∙ number_on a i k h, q ∙ number_on b i k (omega (arith, e)))
    (stays_less (drop (i + 1) a) (drop (i + 1) b) _ _ (omega (arith, length-drop (i + 1) a, length-drop (i + 1) b, e)) (omega arith))

pub by_bytes : (a b : List ℕ) (i : ℕ) → i < length a → length a ≡ length b → (at a i ≡ at b i → ⊥) → at a i < 256 → at b i < 256 → Alike a b i → ltb (at a i) (at b i) ≡ ltb (key_of a) (key_of b)
by_bytes a b i h e n s t (k, p, q) = by_less _ _ _ _ n (λ l. differ a b i h e t l (k, p, q)) (λ l. differ b a i (omega (arith, e)) (sym e) s l (k, q, p))

pub by_end : (a b : List ℕ) (i : ℕ) → length a ≤ i → length a ≡ length b → Alike a b i → false ≡ ltb (key_of a) (key_of b)
by_end a b i h e (k, p, q) = sym (le-ltb (key_of a) (key_of b) (omega (arith, p, q, number_end a i k h, number_end b i k (let z : length b ≤ i = omega (arith, e) in z))))

-- names as long as each other that have one number are the same
same_start : (a b : List ℕ) (k l : ℕ) → length a ≡ length b → name_number a k ≡ name_number b l → k ≡ l
same_start a b k l e q =
    by_order k l
    (λ h. ⊎_elim (λ z. z) (λ s. absurd (omega (arith, q, stays_less a b k l (omega arith) s))) (eq-or-lt_of_le h))
    (λ s. absurd (omega (arith, q, stays_less b a l k (omega arith) s)))

same_digit : (x y k : ℕ) → x < 256 → y < 256 → k * 257 + name_digit x ≡ k * 257 + name_digit y → x ≡ y
unfolding name_digit
same_digit x y k h l e = omega (arith, e)

same_numbered : (a b : List ℕ) (k : ℕ) → ((i : ℕ) → at a i < 256) → ((i : ℕ) → at b i < 256) → length a ≡ length b → name_number a k ≡ name_number b k → bytes_eq a b ≡ true
unfolding name_number
same_numbered [] [] k f g e q = refl
same_numbered [] (y ∷ b) k f g e q = absurd (omega (arith, e))
same_numbered (x ∷ a) [] k f g e q = absurd (omega (arith, e))
same_numbered (x ∷ a) (y ∷ b) k f g e q =
    let long : length a ≡ length b = omega (arith, e) in
    let start : k * 257 + name_digit x ≡ k * 257 + name_digit y = same_start a b _ _ long q in
    let first : x ≡ y = same_digit x y k (f 0) (g 0) start in
    rw (eq-eqb x y first) (same_numbered a b (k * 257 + name_digit x) (λ i. f (suc i)) (λ i. g (suc i)) long (rw (sym start) at q))

same_long : (a b : List ℕ) → key_of a ≡ key_of b → length a ≡ length b
same_long a b q =
    by_order (length a) (length b)
    (λ h. ⊎_elim (λ z. z) (λ s. absurd (omega (arith, q, shorter_less a b 0 s))) (eq-or-lt_of_le h))
    (λ s. absurd (omega (arith, q, shorter_less b a 0 s)))

-- a part of bytes is one of bytes
taken_bytes : (s : List ℕ) (n : ℕ) → ((i : ℕ) → at s i < 256) → (i : ℕ) → at (take n s) i < 256
taken_bytes s n f i =
    by_order n i
    (λ h. omega (arith, get_or_past (take n s) i 0 (omega (arith, length-take n s))))
    (λ h. omega (arith, get_or-take n s i 0 h, f i))

part_bytes : (t : List ℕ) (from to : ℕ) → ((i : ℕ) → at t i < 256) → (i : ℕ) → at (part t from to) i < 256
part_bytes t from to f = taken_bytes (drop from t) (to - from) (λ i. omega (arith, get_or-drop from t i 0, f (from + i)))

-- a name that is not the one of a word has another number
pub name_other : (t name w : List ℕ) (x : ℕ) (r : Bool) → w ≡ kept_name t x → ((i : ℕ) → at t i < 256) → ((i : ℕ) → at name i < 256) → r ≡ bytes_eq w name → r ≡ false → key_at t x ≡ key_of name → ⊥
unfolding key_at
name_other t name w x r e f g s n q =
    let same : key_of w ≡ key_of name = ap (λ (z : List ℕ). name_number z 0) e ∙ q in
    let bytes : (i : ℕ) → at w i < 256 = rw e (part_bytes t (x / 4294967296) (x % 4294967296) f) in
    false≢true (sym n ∙ s ∙ same_numbered w name 0 bytes g (same_long w name same) same)

-- what a test says of a word's name and another
module _ (t name w : List ℕ) (x : ℕ) (e : w ≡ kept_name t x) where
  pub word_less : (r : Bool) → r ≡ ltb (key_of w) (key_of name) → r ≡ true → key_at t x < key_of name
  unfolding key_at
  word_less r f g = rw (sym e) (ltb-true _ _ (sym f ∙ g))

  pub word_not_less : (r : Bool) → r ≡ ltb (key_of w) (key_of name) → r ≡ false → key_of name ≤ key_at t x
  unfolding key_at
  word_not_less r f g = rw (sym e) (ltb-false _ _ (sym f ∙ g))

  pub word_other : (r : Bool) → r ≡ ltb (key_of name) (key_of w) → not r ≡ false → key_at t x ≡ key_of name → ⊥
  unfolding key_at
  word_other r f g q = omega (arith, ltb-true (key_of name) (key_of w) (sym f ∙ not-false r g), ap (λ (z : List ℕ). name_number z 0) e, q)

-- the word of two places says the name between them
key_at_lem : (t : List ℕ) (from to : ℕ) → to < 4294967296 → key_at t (from * 4294967296 + to) ≡ key_of (part t from to)
unfolding key_at
key_at_lem t from to h =
    let d : (from * 4294967296 + to) / 4294967296 ≡ from = omega arith in
    let m : (from * 4294967296 + to) % 4294967296 ≡ to = omega arith in
    rw (d, m) refl

-- what stands at a place decides for those below it, or for those behind
module _ (κ : ℕ → ℕ) (v : List ℕ) (n k m : ℕ) (h : m < n) where
  pub low_on : κ (at v m) < k → Rising κ v n → (j : ℕ) → j < m + 1 → κ (at v j) < k
  low_on l up j q = ⊎_elim (λ e. rw e l) (λ s. omega (arith, up j m s h)) (eq-or-lt_of_le (let z : j ≤ m = omega arith in z))

  pub high_on : k ≤ κ (at v m) → Rising κ v n → (j : ℕ) → m ≤ j → j < n → k ≤ κ (at v j)
  high_on l up j q r = ⊎_elim (λ e. rw (← e) l) (λ s. omega (arith, up m j s r)) (eq-or-lt_of_le q)

pub between_end : (κ : ℕ → ℕ) (v : List ℕ) (n k low high : ℕ) → Between κ v n k low high → high ≤ low → Between κ v n k low low
between_end κ v n k low high b h = record { order = omega arith; within = omega (arith, b.order, b.within); below = b.below; above = λ up j l q. b.above up j (omega (arith, b.order)) q }

-- the number in the middle decides
module _ (κ : ℕ → ℕ) (v : List ℕ) (n k low high : ℕ) (h : low < high) (b : Between κ v n k low high) where
  pub halved_low : κ (at v (low + (high - low) / 2)) < k → (high - (low + (high - low) / 2 + 1) < high - low) × Between κ v n k (low + (high - low) / 2 + 1) high
  halved_low l = (omega arith, record { order = omega arith; within = b.within; below = low_on κ v n k (low + (high - low) / 2) (omega (arith, b.within)) l; above = b.above })

  pub halved_high : k ≤ κ (at v (low + (high - low) / 2)) → (low + (high - low) / 2 - low < high - low) × Between κ v n k low (low + (high - low) / 2)
  halved_high l = (omega arith, record { order = omega arith; within = omega (arith, b.within); below = b.below; above = high_on κ v n k (low + (high - low) / 2) (omega (arith, b.within)) l })

-- where the last of those in order is below k, all are
pub last_below : (κ : ℕ → ℕ) (v : List ℕ) (n k : ℕ) → 0 < n → κ (at v (n - 1)) < k → Between κ v n k n n
last_below κ v n k h l =
    record {
      order = omega arith;
      within = omega arith;
      below = λ up j q. low_on κ v n k (n - 1) (omega arith) l up j (omega arith);
      above = λ up j q r. absurd (omega arith);
    }

-- where the numbers below k end among those in order
pub parted : (κ : ℕ → ℕ) (v : List ℕ) (n k : ℕ) → n ≤ length v → Rising κ v n → IsPartitionedBy (λ w. ltb (κ w) k) (take n v)
parted κ v n k h up i j d q l e =
    let m : j < n = omega (arith, length-take-le n v h, l) in
    let p : i < n = omega arith in
    let lower : κ (at v j) < k = rw (get_or_default v j d 0 (omega arith)) at (ltb-true _ _ (rw (get_or-take n v j d m) at e)) in
    rw (get_or-take n v i d p, get_or_default v i d 0 (omega arith)) (lt-ltb _ _ (⊎_elim (λ z. rw z lower) (λ s. omega (arith, up i j s m, lower)) (eq-or-lt_of_le q)))

pub between_parts : (κ : ℕ → ℕ) (v : List ℕ) (n k r : ℕ) → n ≤ length v → r ≤ length (take n v)
    → (Rising κ v n → IsPartitionPoint (λ y. ltb (κ y) k ≡ true) (λ y. ltb (κ y) k ≡ false) (take n v) r) → Between κ v n k r r
between_parts κ v n k r h b f =
    record {
      order = omega arith;
      within = omega (arith, length-take-le n v h);
      below = λ up j l. ltb-true _ _ (rw (get_or-take n v j 0 (omega (arith, length-take-le n v h))) at ((f up).0 j 0 (omega arith) l));
      above = λ up j l q. ltb-false _ _ (rw (get_or-take n v j 0 q) at ((f up).1 j 0 l (omega (arith, length-take-le n v h))));
    }

-- where the last of those in order is not below k, the place is that among those before it
pub before_last : (κ : ℕ → ℕ) (v : List ℕ) (n m k r : ℕ) → n ≡ m + 1 → k ≤ κ (at v m) → Between κ v m k r r → Between κ v n k r r
before_last κ v n m k r e l b =
    record {
      order = omega arith;
      within = omega (arith, b.within);
      below = λ up j q. b.below (fewer up) j q;
      above = λ up j q s. ⊎_elim (λ z. rw z l) (λ x. b.above (fewer up) j q x) (eq-or-lt_of_le (let h : j ≤ m = omega arith in h));
    }
  where
    fewer : Rising κ v n → Rising κ v m
    fewer up i j h q = up i j h (omega arith)

module _ (κ : ℕ → ℕ) (v : List ℕ) (n k r : ℕ) (p : Between κ v n k r r) (other : r < n → κ (at v r) ≡ k → ⊥) (up : Rising κ v n) where
  above : (j : ℕ) → r ≤ j → j < n → k < κ (at v j)
  above j h l = ⊎_elim (λ e. absurd (other (omega arith) (first e))) (λ s. s) (eq-or-lt_of_le (p.above up j h l))
    where
      first : k ≡ κ (at v j) → κ (at v r) ≡ k
      first e = ⊎_elim (λ q. rw q (sym e)) (λ s. absurd (omega (arith, up r j s l, p.above up r (omega arith) (omega arith), e))) (eq-or-lt_of_le h)

  pub is_none : Kept κ v n k → ⊥
  is_none (j, l, e) = by_order r j (λ h. omega (arith, above j h l)) (λ h. omega (arith, p.below up j h))

  module _ (w : ℕ) (says : κ w ≡ k) (u : List ℕ) (s : Inserted v n r w u) (room : n < length v) where
    early : (j : ℕ) → j < r → κ (at u j) ≡ κ (at v j)
    early j h = ap κ (s.before j h)

    here : (j : ℕ) → r ≡ j → κ (at u j) ≡ k
    here j e = ap (λ x. κ (at u x)) (sym e) ∙ ap κ s.here ∙ says

    late : (j : ℕ) → r < j → j ≤ n → κ (at u j) ≡ κ (at v (j - 1))
    late j h l = ap (λ x. κ (at u x)) (let e : j ≡ j - 1 + 1 = omega arith in e) ∙ ap κ (s.behind (j - 1) (omega arith) (omega arith))

    rising : Rising κ u (n + 1)
    rising a b h l =
        by_order r b
        (λ q. ⊎_elim (λ e. omega (arith, here b e, early a (omega arith), p.below up a (omega arith))) (λ k. behind k) (eq-or-lt_of_le q))
        (λ q. omega (arith, early a (omega arith), early b q, up a b h (omega (arith, p.within))))
      where
        behind : r < b → κ (at u a) < κ (at u b)
        behind q =
            by_order r a
            (λ x. ⊎_elim (λ e. omega (arith, here a e, late b q (omega arith), above (b - 1) (omega arith) (omega arith))) (λ y. omega (arith, late a y (omega arith), late b q (omega arith), up (a - 1) (b - 1) (omega arith) (omega arith))) (eq-or-lt_of_le x))
            (λ x. omega (arith, early a x, late b q (omega arith), up a (b - 1) (omega arith) (omega arith)))

    kept : (x : ℕ) → Kept κ v n x → Kept κ u (n + 1) x
    kept x (j, l, e) = by_order r j (λ h. (j + 1, omega arith, ap κ (s.behind j h l) ∙ e)) (λ h. (j, omega arith, early j h ∙ e))

    is_more : More κ v n u (n + 1)
    is_more = record { rising = rising; fits = omega (arith, s.long); kept = kept }

    is_with : With κ k v n u (n + 1)
    is_with = record { is = (r, omega (arith, p.within), here r refl); was = is_none }

-- a name is put where it should stand, as the word that says it
pub is_put : (t v : List ℕ) (n r from to : ℕ) (name u : List ℕ) → name ≡ part t from to → to < 4294967296 → Between (key_at t) v n (key_of name) r r → (r < n → key_at t (at v r) ≡ key_of name → ⊥) → Inserted v n r (from * 4294967296 + to) u → n < length v → Rising (key_at t) v n → More (key_at t) v n u (n + 1) × With (key_at t) (key_of (part t from to)) v n u (n + 1)
is_put t v n r from to name u e h p other s room up =
    let says : key_at t (from * 4294967296 + to) ≡ key_of name = key_at_lem t from to h ∙ ap (λ (z : List ℕ). name_number z 0) (sym e) in
    rw (sym e) (is_more (key_at t) v n (key_of name) r p other up (from * 4294967296 + to) says u s room, is_with (key_at t) v n (key_of name) r p other up (from * 4294967296 + to) says u s room)
