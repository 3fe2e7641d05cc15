-- A POOL IN A TABLE: what is done to its words is what the rewriting does to its elements. Assumes nothing.
use Prim.Native.Nat.{ℕ, zero, suc, ◌+◌, ◌-◌, ◌*◌, ◌≤◌, ◌<◌}
use mathlib.Core.Path.{◌≡◌, refl, sym, ◌∙◌, ap, ap₂, subst}
use mathlib.Core.Bool.{Bool, true, false, not}
use mathlib.Core.List.{List, [], ◌∷◌, ◌++◌, append_assoc, append-nil}
use native.Mathlib.Omega.{arith}
use lib.Dec.{eqb}
use lib.ListN.{length, set, take, drop, get_or, replicate, length-append, length-replicate, length-set, replicate-append-replicate, get_or-append}
use lib.Seq.{get_or-append-add, get_or-drop, get_or_at, set_at, set-append_left, set_split, split_at, length-take-le}
use Rattle.base_words.specs.All.{all}
use Rattle.base_words.specs.Counts.{elements, branches, edges}
use Rattle.base_words.specs.Each.{total, each}
use Rattle.base_words.specs.Iter.{iter}
use Rattle.base_words.specs.Pick.{if◌then◌or_else◌}
use Rattle.base_words.specs.Seek.{seek}
use Rattle.base_words.specs.Sum.{sum, hit, one_if}
use Rattle.base_words.specs.Words.{at, greatest}
use Rattle.base_words.proofs.PickLaws.{pick_yes}
use Rattle.base_words.proofs.SumLaws.{sum_ext}
use Rattle.base_kinds.specs.Kinds.{end, end_snd, inter_snd}
use Rattle.base_table.specs.Places.{kind_place, entries_place, exits_place, first_edge, edge_place, element_words, pool_place, elements_place, element_place}
use Rattle.base_table.specs.Table.{element_count, element_at}
use Rattle.check_tally.proofs.RegionLaws.{all_ext}
use Rattle.text_ends.specs.Rewriting.{is_end_snd, times_in, mentioned, is_unused, lowest_unused, with_one, sending_to, end_of, first_end, treated, end_sends, all_treated}
use Rattle.base_words.specs.Words.{one_more}
use Rattle.text_ends.proofs.RewriteLaws.{first_is, seek_ext, total_places, each_places, long_one, first_end_lem, found, one_less, treated_long}
use Rattle.text_passes.specs.Model.{flat}
use Rattle.text_passes.proofs.FillLaws.{AtMost, none, some, Block}
use Rattle.text_rewrite.specs.InTable.{absent_in, unused_in, first_in, one_at, treated_with, treated_in, ends_in, pool_in}
use borrow.Author.Tests.{lt-ltb}

-- ELEMENTS ONE BEHIND THE OTHER
pub flat_append : (xs ys : List (List ℕ)) → flat (xs ++ ys) ≡ flat xs ++ flat ys
unfolding flat
flat_append [] ys = refl
flat_append (x ∷ xs) ys = ap (λ l. x ++ l) (flat_append xs ys) ∙ sym (append_assoc x (flat xs) (flat ys))

flat_one : (y : List ℕ) → flat (y ∷ []) ≡ y
unfolding flat
flat_one y = append-nil y

pub most_length : {A : Type 0} (P : A → Type 0) (m : ℕ) (xs : List A) → AtMost P m xs → length xs ≤ m
most_length P m [] none = omega arith
most_length P (suc m) (x ∷ xs) (some e rest) = omega (arith, most_length P m xs rest)
most_length P zero (x ∷ xs) x3 = elim x3 [ ]

pub most_at : {A : Type 0} (P : A → Type 0) (m : ℕ) (xs : List A) (j : ℕ) (d : A) → AtMost P m xs → j < length xs → P (get_or xs j d)
most_at P m [] j d none l = absurd (omega arith)
most_at P (suc m) (x ∷ xs) zero d (some e rest) l = e
most_at P (suc m) (x ∷ xs) (suc j) d (some e rest) l = most_at P m xs j d rest (omega arith)
most_at P zero (x ∷ xs) j d x4 l = elim x4 [ ]

pub most_set : {A : Type 0} (P : A → Type 0) (m : ℕ) (xs : List A) (j : ℕ) (y : A) → AtMost P m xs → P y → AtMost P m (set xs j y)
most_set P m [] j y none h = none
most_set P (suc m) (x ∷ xs) zero y (some e rest) h = some h rest
most_set P (suc m) (x ∷ xs) (suc j) y (some e rest) h = some e (most_set P m xs j y rest h)
most_set P zero (x ∷ xs) j y x4 h = elim x4 [ ]

pub most_more : {A : Type 0} (P : A → Type 0) (m : ℕ) (xs : List A) (y : A) → AtMost P m xs → length xs < m → P y → AtMost P m (xs ++ (y ∷ []))
most_more P zero [] y none l h = absurd (omega arith)
most_more P (suc m) [] y none l h = some h none
most_more P (suc m) (x ∷ xs) y (some e rest) l h = some e (most_more P m xs y rest (omega arith) h)
most_more P zero (x ∷ xs) y x7 l h = elim x7 [ ]

pub most_take : {A : Type 0} (P : A → Type 0) (m : ℕ) (xs : List A) (j : ℕ) → AtMost P m xs → AtMost P m (take j xs)
most_take P m xs zero h = none
most_take P m [] (suc j) none = none
most_take P (suc m) (x ∷ xs) (suc j) (some e rest) = some e (most_take P m xs j rest)
most_take P zero (x ∷ xs) (suc j) h = elim h [ ]

pub flat_long : (m : ℕ) (xs : List (List ℕ)) → AtMost Block m xs → length (flat xs) ≡ element_words * length xs
unfolding flat
flat_long m [] none = omega arith
flat_long (suc m) (x ∷ xs) (some e rest) =
    length-append x (flat xs) ∙ (let z : length x + length (flat xs) ≡ element_words * suc (length xs) = omega (arith, flat_long m xs rest) in z)
flat_long zero (x ∷ xs) x3 = elim x3 [ ]

flat-at : (m : ℕ) (els : List (List ℕ)) (j k : ℕ) (r : List ℕ) → AtMost Block m els → j < length els → k < element_words → at (flat els ++ r) (element_words * j + k) ≡ at (get_or els j []) k
unfolding flat
flat-at m [] j k r none l u = absurd (omega arith)
flat-at (suc m) (x ∷ els) zero k r (some e rest) l u =
    ap (at ((x ++ flat els) ++ r)) (let z : element_words * 0 + k ≡ k = omega arith in z)
    ∙ ap (λ y. at y k) (append_assoc x (flat els) r) ∙ get_or-append x (flat els ++ r) 0 k (omega arith)
flat-at (suc m) (x ∷ els) (suc j) k r (some e rest) l u =
    ap (at ((x ++ flat els) ++ r)) (let z : element_words * suc j + k ≡ length x + (element_words * j + k) = omega arith in z)
    ∙ ap (λ y. at y (length x + (element_words * j + k))) (append_assoc x (flat els) r)
    ∙ get_or-append-add x (flat els ++ r) (element_words * j + k) 0
    ∙ flat-at m els j k r rest (omega arith) u
flat-at zero (x ∷ els) j k r x5 l u = elim x5 [ ]

-- a word set in the middle
set_mid : (x y z : List ℕ) (i n v : ℕ) → length x ≡ n → i < length y → set (x ++ (y ++ z)) (n + i) v ≡ x ++ (set y i v ++ z)
set_mid [] y z i n v e l = ap (λ k. set (y ++ z) k v) (let q : n + i ≡ i = omega arith in q) ∙ set-append_left y z i v l
set_mid (w ∷ x) y z i zero v e l = absurd (omega arith)
set_mid (w ∷ x) y z i (suc n) v e l = ap (λ k. set (w ∷ (x ++ (y ++ z))) k v) (let q : suc n + i ≡ suc (n + i) = omega arith in q) ∙ ap (λ t. w ∷ t) (set_mid x y z i n v (omega arith) l)

one_mid : (x y z : List ℕ) (kind list f n : ℕ) → length x ≡ n → length y ≡ element_words → list + first_edge < element_words → one_at n kind list f (x ++ (y ++ z)) ≡ x ++ (with_one kind list f y ++ z)
unfolding one_at with_one
one_mid x y z kind list f n e w l =
    ap (λ t. set (set t (n + list) 1) (n + (list + first_edge)) f) (set_mid x y z kind_place n kind e (omega arith))
    ∙ ap (λ t. set t (n + (list + first_edge)) f) (set_mid x (set y kind_place kind) z list n 1 e (omega (arith, length-set y kind_place kind)))
    ∙ set_mid x (set (set y kind_place kind) list 1) z (list + first_edge) n f e (omega (arith, length-set y kind_place kind, length-set (set y kind_place kind) list 1))
    ∙ ap (λ i. x ++ (set (set (set y kind_place kind) list 1) i f ++ z)) (let q : list + first_edge ≡ edge_place list 0 = omega arith in q)

unfoldable pub zeros : ℕ → List ℕ
zeros n = replicate n 0

zeros_more : (n : ℕ) → n < elements → zeros (element_words * (elements - n)) ≡ zeros element_words ++ zeros (element_words * (elements - (n + 1)))
unfolding zeros
zeros_more n l =
    let k : element_words * (elements - n) ≡ element_words + element_words * (elements - (n + 1)) = omega arith in
    ap (λ j. replicate j 0) k ∙ sym (replicate-append-replicate element_words (element_words * (elements - (n + 1))) 0)

-- the table in which pool p has the elements els
unfoldable pub held : List ℕ → ℕ → ℕ → List ℕ → List (List ℕ) → List ℕ
held pre a b post els = pre ++ (a ∷ b ∷ length els ∷ (flat els ++ (zeros (element_words * (elements - length els)) ++ post)))

module _ (p : ℕ) (pre : List ℕ) (a b : ℕ) (post : List ℕ) (ep : length pre ≡ pool_place p) where
  abbrev table : List (List ℕ) → List ℕ
  table els = held pre a b post els

  count_is : (els : List (List ℕ)) → element_count (table els) p ≡ length els
  unfolding held
  count_is els =
      ap (λ t. at t (elements_place p)) (sym (append_assoc pre (a ∷ b ∷ []) (length els ∷ (flat els ++ (zeros (element_words * (elements - length els)) ++ post)))))
      ∙ get_or_at (pre ++ (a ∷ b ∷ [])) (length els) _ 0 (elements_place p) (length-append pre (a ∷ b ∷ []) ∙ (let z : length pre + 2 ≡ elements_place p = omega arith in z))

  -- what stands before the words r of the elements from number j on
  front : (els : List (List ℕ)) (n : ℕ) (done r : List ℕ) → pre ++ (a ∷ b ∷ n ∷ (done ++ r)) ≡ (pre ++ (a ∷ b ∷ n ∷ done)) ++ r
  front els n done r = sym (append_assoc pre (a ∷ b ∷ n ∷ done) r)

  front_long : (n j : ℕ) (done : List ℕ) → length done ≡ element_words * j → length (pre ++ (a ∷ b ∷ n ∷ done)) ≡ element_place p j
  front_long n j done e = length-append pre (a ∷ b ∷ n ∷ done) ∙ (let z : length pre + suc (suc (suc (length done))) ≡ element_place p j = omega arith in z)

  module _ (els : List (List ℕ)) (few : AtMost Block elements els) where
    abbrev behind : List ℕ
    behind = zeros (element_words * (elements - length els)) ++ post

    word_is : (j k : ℕ) → j < length els → k < element_words → at (element_at (table els) p j) k ≡ at (get_or els j []) k
    unfolding held
    word_is j k l u =
        get_or-drop (element_place p j) (table els) k 0
        ∙ ap₂ at (front els (length els) [] (flat els ++ behind)) (let z : element_place p j + k ≡ length (pre ++ (a ∷ b ∷ length els ∷ [])) + (element_words * j + k) = omega (arith, front_long (length els) 0 [] (omega arith)) in z)
        ∙ get_or-append-add (pre ++ (a ∷ b ∷ length els ∷ [])) (flat els ++ behind) (element_words * j + k) 0
        ∙ flat-at elements els j k behind few l u

    end_is : (j : ℕ) → j < length els → is_end_snd (element_at (table els) p j) ≡ is_end_snd (get_or els j [])
    unfolding is_end_snd
    end_is j l = ap (λ k. eqb k end_snd) (word_is j kind_place l (omega arith))

    mentions_is : (e j : ℕ) → j < length els → mentioned e (element_at (table els) p j) ≡ mentioned e (get_or els j [])
    unfolding mentioned times_in
    mentions_is e j l =
        ap₂ ◌+◌
        (sum_ext _ _ branches (λ i h. ap (λ k. hit k e) (word_is j (edge_place entries_place i) l (omega arith))))
        (sum_ext _ _ branches (λ i h. ap (λ k. hit k e) (word_is j (edge_place exits_place i) l (omega arith))))

    absent_is : (k : ℕ) → absent_in (table els) p (k + 1) ≡ is_unused els k
    unfolding absent_in is_unused
    absent_is k =
        ap (all (λ j. eqb (mentioned (k + 1) (element_at (table els) p j)) 0)) (count_is els)
        ∙ all_ext _ (λ j. eqb (mentioned (k + 1) (get_or els j [])) 0) (length els) (λ j l. ap (λ n. eqb n 0) (mentions_is (k + 1) j l))
        ∙ sym (each_places (λ el. eqb (mentioned (k + 1) el) 0) els [])

    lowest_is : unused_in (table els) p ≡ lowest_unused els
    unfolding unused_in lowest_unused
    lowest_is = ap (λ n. n + 1) (seek_ext _ (is_unused els) edges (λ k l. absent_is k) ∙ sym (first_is (is_unused els) edges))

    first_is_it : first_in (table els) p ≡ first_end els
    unfolding first_in
    first_is_it = ap (seek (λ j. is_end_snd (element_at (table els) p j))) (count_is els) ∙ seek_ext _ (λ j. is_end_snd (get_or els j [])) (length els) end_is ∙ sym (first_end_lem els)

    ends_are : ends_in (table els) p ≡ end_sends els
    unfolding ends_in end_sends
    ends_are =
        ap (sum (λ j. one_if (is_end_snd (element_at (table els) p j)))) (count_is els)
        ∙ sum_ext _ (λ j. one_if (is_end_snd (get_or els j []))) (length els) (λ j l. ap one_if (end_is j l))
        ∙ sym (total_places (λ el. one_if (is_end_snd el)) els [])

    -- an element of a kind now, with one edge
    changed : (j kind list f : ℕ) → j < length els → list + first_edge < element_words → one_at (element_place p j) kind list f (table els) ≡ table (set els j (with_one kind list f (get_or els j [])))
    unfolding held
    changed j kind list f l u =
        let x : List ℕ = get_or els j [] in
        let y : List ℕ = with_one kind list f x in
        let done : List ℕ = flat (take j els) in
        let rest : List ℕ = flat (drop (suc j) els) in
        let long : length done ≡ element_words * j = flat_long elements (take j els) (most_take Block elements els j few) ∙ ap (λ n. element_words * n) (length-take-le j els (omega arith)) in
        ap (one_at (element_place p j) kind list f) (ap (λ t. pre ++ (a ∷ b ∷ length els ∷ (t ++ behind))) (ap flat (split_at els j [] l)) ∙ opened (length els) x)
        ∙ one_mid (pre ++ (a ∷ b ∷ length els ∷ done)) x (rest ++ behind) kind list f (element_place p j) (front_long (length els) j done long) (most_at Block elements els j [] few l) u
        ∙ sym (opened (length els) y)
        ∙ ap (λ t. pre ++ (a ∷ b ∷ length els ∷ (t ++ behind))) (ap flat (sym (set_split els j y l)))
        ∙ ap (λ n. pre ++ (a ∷ b ∷ n ∷ (flat (set els j y) ++ (zeros (element_words * (elements - n)) ++ post)))) (sym (length-set els j y))
      where
        opened : (n : ℕ) (y : List ℕ) → pre ++ (a ∷ b ∷ n ∷ (flat (take j els ++ (y ∷ drop (suc j) els)) ++ behind)) ≡ (pre ++ (a ∷ b ∷ n ∷ flat (take j els))) ++ (y ++ (flat (drop (suc j) els) ++ behind))
        opened n y =
            unfold flat in
            ap (λ t. pre ++ (a ∷ b ∷ n ∷ t))
            (ap (λ t. t ++ behind) (flat_append (take j els) (y ∷ drop (suc j) els)) ∙ append_assoc (flat (take j els)) (y ++ flat (drop (suc j) els)) behind ∙ ap (λ t. flat (take j els) ++ t) (append_assoc y (flat (drop (suc j) els)) behind))
            ∙ front els n (flat (take j els)) (y ++ (flat (drop (suc j) els) ++ behind))

    -- one more behind the last
    added : (f : ℕ) → length els < elements → set (one_at (element_place p (length els)) end entries_place f (table els)) (elements_place p) (one_more (length els)) ≡ table (els ++ (end_of f ∷ []))
    unfolding held end_of zeros
    added f l =
        let n : ℕ = length els in
        let y : List ℕ = with_one end entries_place f (zeros element_words) in
        let rest : List ℕ = zeros (element_words * (elements - (n + 1))) ++ post in
        let wide : length (zeros element_words) ≡ element_words = unfold zeros in length-replicate {A = ℕ} element_words 0 in
        ap (λ t. set (one_at (element_place p n) end entries_place f t) (elements_place p) (one_more n))
        (ap (λ t. pre ++ (a ∷ b ∷ n ∷ (flat els ++ t))) (ap (λ t. t ++ post) (zeros_more n l) ∙ append_assoc (zeros element_words) (zeros (element_words * (elements - (n + 1)))) post)
        ∙ front els n (flat els) (zeros element_words ++ rest))
        ∙ ap (λ t. set t (elements_place p) (one_more n))
        (one_mid (pre ++ (a ∷ b ∷ n ∷ flat els)) (zeros element_words) rest end entries_place f (element_place p n) (front_long n n (flat els) (flat_long elements els few)) wide (omega arith)
        ∙ sym (front els n (flat els) (y ++ rest))
        ∙ sym (append_assoc pre (a ∷ b ∷ []) (n ∷ (flat els ++ (y ++ rest)))))
        ∙ set_at (pre ++ (a ∷ b ∷ [])) n (flat els ++ (y ++ rest)) (one_more n) (elements_place p) (length-append pre (a ∷ b ∷ []) ∙ (let z : length pre + 2 ≡ elements_place p = omega arith in z))
        ∙ append_assoc pre (a ∷ b ∷ []) (one_more n ∷ (flat els ++ (y ++ rest)))
        ∙ ap (λ k. pre ++ (a ∷ b ∷ k ∷ (flat els ++ (y ++ rest)))) (one_more_lem n (omega arith))
        ∙ ap (λ t. pre ++ (a ∷ b ∷ (n + 1) ∷ t)) (sym (append_assoc (flat els) y rest) ∙ ap (λ t. t ++ rest) (sym (flat_append els (y ∷ []) ∙ ap (λ t. flat els ++ t) (flat_one y))))
        ∙ ap (λ k. pre ++ (a ∷ b ∷ k ∷ (flat (els ++ (y ∷ [])) ++ (zeros (element_words * (elements - k)) ++ post)))) (sym (length-append els (y ∷ [])))
      where
        one_more_lem : (n : ℕ) → n < greatest → one_more n ≡ n + 1
        one_more_lem n l = unfold one_more in sym (pick_yes _ _ _ _ (lt-ltb n greatest l) refl)

  -- one endSnd
  treated_in_lem : (els : List (List ℕ)) → AtMost Block elements els → 0 < end_sends els → length els < elements → treated_in p (table els) ≡ table (treated els)
  unfolding treated_in treated_with treated sending_to
  treated_in_lem els few h l =
      let j : ℕ = first_end els in
      let f : ℕ = lowest_unused els in
      let y : List ℕ = with_one inter_snd exits_place f (get_or els j []) in
      let wide : Block y = long_one inter_snd exits_place f (get_or els j []) ∙ most_at Block elements els j [] few (found els h) in
      ap₂ (λ (i e : ℕ). treated_with p i (element_count (table els) p) e (table els)) (first_is_it els few) (lowest_is els few)
      ∙ ap (λ (n : ℕ). treated_with p j n f (table els)) (count_is els ∙ sym (length-set els j y))
      ∙ ap (λ t. set (one_at (element_place p (length (set els j y))) end entries_place f t) (elements_place p) (one_more (length (set els j y)))) (changed els few j inter_snd exits_place f (found els h) (omega arith))
      ∙ added (set els j y) (most_set Block elements els j y few wide) f (omega (arith, length-set els j y))

-- ALL endSnds OF A POOL
pub treated_few : (els : List (List ℕ)) → AtMost Block elements els → 0 < end_sends els → length els < elements → AtMost Block elements (treated els)
unfolding treated sending_to end_of
treated_few els few h l =
    let j : ℕ = first_end els in
    let f : ℕ = lowest_unused els in
    let y : List ℕ = with_one inter_snd exits_place f (get_or els j []) in
    most_more Block elements (set els j y) _
    (most_set Block elements els j y few (long_one inter_snd exits_place f (get_or els j []) ∙ most_at Block elements els j [] few (found els h)))
    (omega (arith, length-set els j y))
    (long_one end entries_place f (replicate element_words 0) ∙ length-replicate {A = ℕ} element_words 0)

-- the elements behind n of them
abbrev pub turned : List (List ℕ) → ℕ → List (List ℕ)
turned els n = iter (λ k. treated) els n

pub record Turned (els : List (List ℕ)) (n : ℕ) : Type 0 where
  pub few : AtMost Block elements (turned els n)
  pub long : length (turned els n) ≡ length els + n
  pub ends : end_sends (turned els n) + n ≡ end_sends els

pub turned_at : (els : List (List ℕ)) → AtMost Block elements els → length els + end_sends els ≤ elements → (n : ℕ) → n ≤ end_sends els → Turned els n
unfolding iter
turned_at els few room zero h = record { few = few; long = (let z : length els ≡ length els + 0 = omega arith in z); ends = (let z : end_sends els + 0 ≡ end_sends els = omega arith in z) }
turned_at els few room (suc n) h =
    let t = turned_at els few room n (omega arith) in
    let some : 0 < end_sends (turned els n) = omega (arith, t.ends) in
    let l : length (turned els n) < elements = omega (arith, t.long) in
    let wide = most_at Block elements (turned els n) (first_end (turned els n)) [] t.few (found (turned els n) some) in
    record {
      few = treated_few (turned els n) t.few some l;
      long = (treated_long (turned els n) ∙ (let z : length (turned els n) + 1 ≡ length els + suc n = omega (arith, t.long) in z));
      ends = (let z : end_sends (treated (turned els n)) + suc n ≡ end_sends els = omega (arith, t.ends, one_less (turned els n) some wide) in z);
    }

module _ (p : ℕ) (pre : List ℕ) (a b : ℕ) (post : List ℕ) (ep : length pre ≡ pool_place p) (els : List (List ℕ)) (few : AtMost Block elements els) (room : length els + end_sends els ≤ elements) where
  turns : (n : ℕ) → n ≤ end_sends els → iter (λ k. treated_in p) (held pre a b post els) n ≡ held pre a b post (turned els n)
  unfolding iter
  turns zero h = refl
  turns (suc n) h =
      let t = turned_at els few room n (omega arith) in
      ap (treated_in p) (turns n (omega arith))
      ∙ treated_in_lem p pre a b post ep (turned els n) t.few (omega (arith, t.ends)) (omega (arith, t.long))

  pub pool_in_lem : pool_in p (held pre a b post els) ≡ held pre a b post (all_treated els)
  unfolding pool_in all_treated
  pool_in_lem = ap (iter (λ k. treated_in p) (held pre a b post els)) (ends_are p pre a b post ep els few) ∙ turns (end_sends els) (omega arith)

  pub all_few : AtMost Block elements (all_treated els)
  unfolding all_treated
  all_few = (turned_at els few room (end_sends els) (omega arith)).few
