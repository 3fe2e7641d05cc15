-- Lists that are gathered, searched, numbered and written with signs between. Assumes nothing.
use Prim.Native.Nat.{ℕ, zero, suc, ◌+◌, ◌≤◌, ◌<◌}
use mathlib.Core.Path.{◌≡◌, refl, sym, ◌∙◌, ap, ap₂}
use mathlib.Core.Bool.{Bool, true, false, not, ◌&&◌, cond}
use mathlib.Core.List.{List, [], ◌∷◌, ◌++◌, map, map-append}
use mathlib.Core.Logic.{⊎_elim}
use native.Mathlib.Decide.{dec_lt}
use native.Mathlib.Nat.{le_of_suc-le-suc, eq-or-lt_of_le}
use native.Mathlib.Omega.{arith}
use lib.Dec.{eqb, ltb}
use lib.ListN.{length, get_or}
use borrow.Author.Tests.{ltb-true, ltb-false, lt-ltb, le-ltb}
use Rattle.base_words.specs.Each.{joined, those}
use Rattle.base_words.specs.Pick.{if◌then◌or_else◌}
use Rattle.base_words.specs.Seek.{seek}
use Rattle.base_words.specs.Sum.{sum, one_if}
use Rattle.base_words.proofs.AllLaws.{and_left}
use Rattle.base_words.proofs.JoinLaws.{joined_ext, those-joined}
use Rattle.base_words.proofs.SeekLaws.{sought}
use Rattle.base_words.proofs.SumLaws.{sum-zero, sum_ext}
use Rattle.write_shown.specs.Shown.{lead, separated}
use Rattle.draw_numbers.specs.Numbers.{count_before}
use Rattle.proof_roundtrip.proofs.BarLaws.{fronted, separated_front}
use Rattle.proof_map.proofs.Picked.{as_many}
use Rattle.proof_spelling.specs.Spelling.{gathered, parted, first_at, foremost}

-- THE FIRST THAT PASSES A TEST
module _ {A : Type 0} (g : A → Bool) where
  first_in : (xs ys : List A) → first_at g xs < length xs → first_at g (xs ++ ys) ≡ first_at g xs
  unfolding first_at if◌then◌or_else◌
  first_in [] ys h = absurd (omega (arith, h))
  first_in (x ∷ xs) ys h = go (g x) h (first_in xs ys)
    where
      go : (b : Bool) → (if b then 0 or_else suc (first_at g xs)) < suc (length xs) → (first_at g xs < length xs → first_at g (xs ++ ys) ≡ first_at g xs)
          → (if b then 0 or_else suc (first_at g (xs ++ ys))) ≡ (if b then 0 or_else suc (first_at g xs))
      go true h k = refl
      go false h k = ap suc (k (le_of_suc-le-suc h))

  first_out : (xs ys : List A) → first_at g xs ≡ length xs → first_at g (xs ++ ys) ≡ length xs + first_at g ys
  unfolding first_at if◌then◌or_else◌
  first_out [] ys h = (let z : first_at g ys ≡ 0 + first_at g ys = omega arith in z)
  first_out (x ∷ xs) ys h = go (g x) h (first_out xs ys)
    where
      go : (b : Bool) → (if b then 0 or_else suc (first_at g xs)) ≡ suc (length xs) → (first_at g xs ≡ length xs → first_at g (xs ++ ys) ≡ length xs + first_at g ys)
          → (if b then 0 or_else suc (first_at g (xs ++ ys))) ≡ suc (length xs) + first_at g ys
      go true h k = absurd (omega (arith, h))
      go false h k = let e : first_at g xs ≡ length xs = omega (arith, h) in let z = k e in omega (arith, z)

module _ {A : Type 0} (test : ℕ → Bool) (make : ℕ → A) where
  abbrev one : ℕ → List A
  one k = if test k then make k ∷ [] or_else []

  pub fewer : (n k : ℕ) → k < n → test k ≡ true → count_before test k < count_before test n
  unfolding count_before sum
  fewer zero k l h = absurd (omega (arith, l))
  fewer (suc n) k l h =
      ⊎_elim
      (λ e. let o : one_if (test n) ≡ 1 = ap one_if (ap test (sym e) ∙ h) in omega (arith, o, ap (count_before test) e))
      (λ q. omega (arith, fewer n k q h))
      (eq-or-lt_of_le (le_of_suc-le-suc l))

  -- its place in what is gathered says how many are gathered before it
  pub first_gathered : (g : A → Bool) (n : ℕ) → first_at g (gathered test make n) ≡ count_before test (seek (λ k. test k && g (make k)) n)
  unfolding joined seek
  first_gathered g zero = unfold first_at seek count_before sum in refl
  first_gathered g (suc n) = go (ltb (seek f n) n) refl (first_gathered g n)
    where
      f : ℕ → Bool
      f k = test k && g (make k)

      long : length (gathered test make n) ≡ count_before test n
      long = as_many test make n

      first_one : (b : Bool) (x : A) → first_at g (if b then x ∷ [] or_else []) ≡ one_if (b && not (g x))
      first_one true x = unfold first_at if◌then◌or_else◌ in chosen (g x)
        where
          chosen : (c : Bool) → (if c then 0 or_else suc 0) ≡ one_if (not c)
          chosen true = unfold if◌then◌or_else◌ in refl
          chosen false = unfold if◌then◌or_else◌ in refl
      first_one false x = unfold first_at if◌then◌or_else◌ in refl

      more : count_before test (suc n) ≡ count_before test n + one_if (test n)
      more = unfold count_before sum in refl

      choose : (b c : Bool) → test n ≡ b → count_before test (cond (b && c) n (suc n)) ≡ count_before test n + one_if (b && not c)
      choose true true q = (let z : count_before test n ≡ count_before test n + 0 = omega arith in z)
      choose true false q = more ∙ ap (λ (v : Bool). count_before test n + one_if v) q
      choose false c q = more ∙ ap (λ (v : Bool). count_before test n + one_if v) q

      go : (b : Bool) → ltb (seek f n) n ≡ b → first_at g (gathered test make n) ≡ count_before test (seek f n) → first_at g (gathered test make n ++ one n) ≡ count_before test (cond b (seek f n) (cond (f n) n (suc n)))
      go true e h =
          let l = ltb-true (seek f n) n e in
          let s = (sought f n).1 l in
          first_in g (gathered test make n) (one n) (omega (arith, h, long, fewer n (seek f n) l (and_left (test (seek f n)) (g (make (seek f n))) s))) ∙ h
      go false e h =
          let m : seek f n ≡ n = omega (arith, ltb-false (seek f n) n e, (sought f n).0) in
          first_out g (gathered test make n) (one n) (h ∙ ap (count_before test) m ∙ sym long)
          ∙ ap (λ (k : ℕ). k + first_at g (one n)) long
          ∙ ap (λ (k : ℕ). count_before test n + k) (first_one (test n) (make n))
          ∙ sym (choose (test n) (g (make n)) refl)

  -- those that pass a further test, and what is made of them
  pub those-gathered : (g : A → Bool) (n : ℕ) → those g (gathered test make n) ≡ gathered (λ k. test k && g (make k)) make n
  those-gathered g n = those-joined g one n ∙ joined_ext (λ k. those g (one k)) (λ k. if test k && g (make k) then make k ∷ [] or_else []) n (λ k h. here (test k) (make k))
    where
      here : (b : Bool) (x : A) → those g (if b then x ∷ [] or_else []) ≡ (if b && g x then x ∷ [] or_else [])
      here true x = unfold those if◌then◌or_else◌ in refl
      here false x = unfold those if◌then◌or_else◌ in refl

  pub map-gathered : {B : Type 0} (g : A → B) (n : ℕ) → map g (gathered test make n) ≡ gathered test (λ k. g (make k)) n
  unfolding joined
  map-gathered g zero = refl
  map-gathered g (suc n) = map-append g (gathered test make n) (one n) ∙ ap₂ ◌++◌ (map-gathered g n) (here (test n) (make n))
    where
      here : (b : Bool) (x : A) → map g (if b then x ∷ [] or_else []) ≡ (if b then g x ∷ [] or_else [])
      here true x = unfold if◌then◌or_else◌ in refl
      here false x = unfold if◌then◌or_else◌ in refl

module _ (test : ℕ → Bool) (make : ℕ → List ℕ) where
  -- the first that is gathered
  pub foremost-gathered : (n : ℕ) → seek test n < n → foremost (gathered test make n) ≡ make (seek test n)
  unfolding joined seek
  foremost-gathered zero h = absurd (omega (arith, h))
  foremost-gathered (suc n) h = go (ltb (seek test n) n) refl h (foremost-gathered n)
    where
      long : length (gathered test make n) ≡ count_before test n
      long = as_many test make n

      last : (b : Bool) → test n ≡ b → seek test n ≡ n → cond b n (suc n) < suc n → foremost (gathered test make n ++ (if b then make n ∷ [] or_else [])) ≡ make (cond b n (suc n))
      last true q m u = unfold if◌then◌or_else◌ in alone (gathered test make n) (omega (arith, long, none))
        where
          none : count_before test n ≡ 0
          none = unfold count_before in sum-zero (λ j. one_if (test j)) n (λ j l. ap one_if ((sought test n).2 j (omega (arith, l, m))))

          alone : (xs : List (List ℕ)) → length xs ≡ 0 → foremost (xs ++ (make n ∷ [])) ≡ make n
          alone [] e = unfold foremost in refl
          alone (x ∷ xs) e = absurd (omega (arith, e))
      last false q m u = absurd (omega (arith, u))

      front : (xs ys : List (List ℕ)) → 0 < length xs → foremost (xs ++ ys) ≡ foremost xs
      front [] ys l = absurd (omega (arith, l))
      front (x ∷ xs) ys l = unfold foremost in refl

      go : (b : Bool) → ltb (seek test n) n ≡ b → cond b (seek test n) (cond (test n) n (suc n)) < suc n → (seek test n < n → foremost (gathered test make n) ≡ make (seek test n))
          → foremost (gathered test make n ++ (if test n then make n ∷ [] or_else [])) ≡ make (cond b (seek test n) (cond (test n) n (suc n)))
      go true e u k =
          let l = ltb-true (seek test n) n e in
          let f = fewer test make n (seek test n) l ((sought test n).1 l) in
          front (gathered test make n) (if test n then make n ∷ [] or_else []) (omega (arith, f, long)) ∙ k l
      go false e u k = last (test n) refl (omega (arith, ltb-false (seek test n) n e, (sought test n).0)) u

-- the same by equal tests and equal things
pub gathered_same : {A : Type 0} (f g : ℕ → Bool) (u v : ℕ → A) (n : ℕ) → ((k : ℕ) → k < n → f k ≡ g k) → ((k : ℕ) → k < n → g k ≡ true → u k ≡ v k) → gathered f u n ≡ gathered g v n
gathered_same {A} f g u v n h e = joined_ext (λ k. if f k then u k ∷ [] or_else []) (λ k. if g k then v k ∷ [] or_else []) n (λ k l. ap (λ (b : Bool). if b then u k ∷ [] or_else []) (h k l) ∙ go (g k) (u k) (v k) (e k l))
  where
    go : (b : Bool) (x y : A) → (b ≡ true → x ≡ y) → (if b then x ∷ [] or_else []) ≡ (if b then y ∷ [] or_else [])
    go true x y q = ap (λ (z : A). if true then z ∷ [] or_else []) (q refl)
    go false x y q = unfold if◌then◌or_else◌ in refl

-- how many pass a test before j
pub count_before_lem : (f : ℕ → Bool) (n j : ℕ) → j ≤ n → count_before (λ i. f i && ltb i j) n ≡ count_before f j
count_before_lem f zero j h = unfold count_before sum in ap (sum (λ i. one_if (f i))) (let z : 0 ≡ j = omega (arith, h) in z)
count_before_lem f (suc n) j h = go (dec_lt n j) (count_before_lem f n j)
  where
    off : (b : Bool) → one_if (b && false) ≡ 0
    off true = refl
    off false = refl

    on : (b : Bool) → one_if (b && true) ≡ one_if b
    on true = refl
    on false = refl

    go : Dec (n < j) → (j ≤ n → count_before (λ i. f i && ltb i j) n ≡ count_before f j) → count_before (λ i. f i && ltb i j) (suc n) ≡ count_before f j
    go (yes l) k =
        unfold count_before in
        sum_ext (λ i. one_if (f i && ltb i j)) (λ i. one_if (f i)) (suc n) (λ i u. ap (λ (b : Bool). one_if (f i && b)) (lt-ltb i j (omega (arith, u, l))) ∙ on (f i))
        ∙ ap (sum (λ i. one_if (f i))) (let z : suc n ≡ j = omega (arith, l, h) in z)
    go (no l) k =
        let e = k (omega (arith, l)) in
        let o : one_if (f n && ltb n j) ≡ 0 = ap (λ (b : Bool). one_if (f n && b)) (le-ltb n j (omega (arith, l))) ∙ off (f n) in
        more ∙ (let z : count_before (λ i. f i && ltb i j) n + one_if (f n && ltb n j) ≡ count_before f j = omega (arith, e, o) in z)
      where
        more : count_before (λ i. f i && ltb i j) (suc n) ≡ count_before (λ i. f i && ltb i j) n + one_if (f n && ltb n j)
        more = unfold count_before sum in refl

pub count_same : (f g : ℕ → Bool) (n : ℕ) → ((i : ℕ) → i < n → f i ≡ g i) → count_before f n ≡ count_before g n
unfolding count_before
count_same f g n h = sum_ext (λ i. one_if (f i)) (λ i. one_if (g i)) n (λ i l. ap one_if (h i l))

-- a list's things, mapped
pub map_at : {A B : Type 0} (f : A → B) (xs : List A) (d : A) (e : B) (j : ℕ) → j < length xs → get_or (map f xs) j e ≡ f (get_or xs j d)
map_at f [] d e j l = absurd (omega (arith, l))
map_at f (x ∷ xs) d e zero l = refl
map_at f (x ∷ xs) d e (suc j) l = map_at f xs d e j (le_of_suc-le-suc l)

-- TEXTS WITH A SIGN BETWEEN THEM
parted_front : (s : ℕ) (x : List ℕ) (xs : List (List ℕ)) → fronted s (λ i. get_or (x ∷ xs) i []) (length xs) ≡ parted s (x ∷ xs)
unfolding fronted parted
parted_front s x [] = refl
parted_front s x (y ∷ ys) = ap (λ (l : List ℕ). x ++ (s ∷ l)) (parted_front s y ys)

pub separated-parted : (s : ℕ) (xs : List (List ℕ)) → separated s (λ i. get_or xs i []) (length xs) ≡ parted s xs
separated-parted s [] = unfold separated joined parted in refl
separated-parted s (x ∷ xs) = separated_front s (λ i. get_or (x ∷ xs) i []) (length xs) ∙ parted_front s x xs

pub separated_as : (s : ℕ) (f : ℕ → List ℕ) (n : ℕ) (xs : List (List ℕ)) → n ≡ length xs → ((i : ℕ) → i < n → f i ≡ get_or xs i []) → separated s f n ≡ parted s xs
separated_as s f n xs e h = same ∙ ap (separated s (λ i. get_or xs i [])) e ∙ separated-parted s xs
  where
    same : separated s f n ≡ separated s (λ i. get_or xs i []) n
    same = unfold separated in joined_ext (λ k. lead s k ++ f k) (λ k. lead s k ++ get_or xs k []) n (λ k l. ap (λ (w : List ℕ). lead s k ++ w) (h k l))
