-- THE TEXT THAT A DRAWING IS SPELLED AS IS READ AS THE MODEL THAT IT MEANS, where nothing in it is amiss or beyond the limits and every pool has an element. Assumes nothing.
use Prim.Native.Char.{code}
use Prim.Native.Nat.{ℕ, zero, suc, ◌+◌, ◌≤◌, ◌<◌}
use mathlib.Core.Path.{◌≡◌, refl, sym, ◌∙◌, ap, ap₂, subst}
use mathlib.Core.Bool.{Bool, true, false, not, ◌&&◌, ◌||◌}
use mathlib.Core.List.{List, [], ◌∷◌, ◌++◌, map}
use native.Mathlib.Decide.{dec_lt}
use native.Mathlib.Omega.{arith}
use lib.Dec.{eqb, leb, ltb}
use lib.ListN.{length, length-map}
use borrow.Author.Tests.{eqb-true, eq-eqb, ltb-true, ltb-false}
use Rattle.std.proofs.lemmas.Bool.{not-false}
use Rattle.base_words.specs.All.{all}
use Rattle.base_words.specs.Counts.{pools, elements, pool_numbers, instances}
use Rattle.base_words.specs.Each.{each, joined}
use Rattle.base_words.specs.Pick.{if◌then◌or_else◌}
use Rattle.base_words.specs.Seek.{seek}
use Rattle.base_words.specs.Sum.{sum, one_if}
use Rattle.base_words.specs.Text.{bytes}
use Rattle.base_words.proofs.AllLaws.{all_at, and_left, and_right}
use Rattle.base_words.proofs.PickLaws.{and_true}
use Rattle.base_words.proofs.SeekLaws.{sought}
use Rattle.base_words.proofs.SumLaws.{sum-zero}
use Rattle.base_kinds.specs.Kinds as kinds
use Rattle.check_limits.specs.Limits.{element_fits}
use Rattle.check_model.specs.Checks.{Pool}
use Rattle.text_passes.proofs.FillLaws.{AtMost, none, some, Block, Fits}
use Rattle.std.specs.declared.result.Result.TheVariants.{Ok}
use Rattle.text_read.specs.Notation.{element_alone, pool, model}
use Rattle.write_decimals.specs.Decimals.{shown}
use Rattle.write_shown.specs.Shown.{enclosed_by, shown_element}
use Rattle.draw_things.specs.Things.{room, sort, within, source, target, kind, is_node, sequence_flow, branch}
use Rattle.draw_kinds.specs.Counting.{source_in, is_with, of_sort, count_with, first_with}
use Rattle.draw_kinds.specs.Roles.{flows_out, kind_drawn}
use Rattle.draw_faults.specs.Amiss.{is_strange, is_loose, is_wrong_branch, is_amiss, amiss_as_flow, is_right, is_drawing}
use Rattle.draw_numbers.specs.Who.{has_participants, is_pool, has_pool, is_of_kind}
use Rattle.draw_numbers.specs.Numbers.{count_before, is_element, maximum_of}
use Rattle.draw_limits.specs.Excess.{first_beyond}
use Rattle.draw_model.specs.Drawn.{element_drawn}
use Rattle.draw_model.specs.Content.{element_if, elements_of, limit_of, process_of, number_of, pool_drawn, pool_if, content}
use Rattle.draw_read.proofs.RoomLaws.{content_fits}
use Rattle.proof_roundtrip.proofs.EndModels.{Every, Right}
use Rattle.proof_roundtrip.proofs.BarLaws.{Comes}
use Rattle.proof_map.proofs.Picked.{as_many}
use Rattle.proof_drawings.proofs.TestLaws.{and_then, or_left, or_right}
use Rattle.proof_drawings.proofs.SettledLaws.{Settled}
use Rattle.proof_drawings.proofs.KindShapes.{branch_out}
use Rattle.proof_drawings.proofs.Fitting.{drawing_few, never_unfit}
use Rattle.proof_drawings.proofs.SmallLaws.{element_right}
use Rattle.proof_drawings.proofs.ContentModel.{Placed, Near, pool_near, its_low, its_limit, content-some}
use Rattle.proof_spelling.specs.Spelling.{Collaboration, Participant, gathered, multiplicity_of, participant_at, node_at, collaboration_in, parted, element, elements_in, elements as elementsText, pool as pool_text, pools_from, spell}
use Rattle.proof_spelling.proofs.Lists.{those-gathered, map-gathered, gathered_same}
use Rattle.proof_spelling.proofs.Runs.{more_is, count_most_lem}
use Rattle.proof_spelling.proofs.Elements.{element_spelled}
use Rattle.proof_spelling.proofs.ReadBack.{Pairs, pairs_joined, pairs_one, pairs_long, element_comes, plain_comes, many_comes, whole_read}

-- LISTS
pub most_every : {A : Type 0} (P : A → Type 0) (m : ℕ) (xs : List A) → AtMost P m xs → Every P xs
most_every P m [] none = omega arith
most_every P (suc m) (x ∷ xs) (some p d) = (p, most_every P m xs d)
most_every P zero (x ∷ xs) x3 = elim x3 [ ]

pub most_length : {A : Type 0} (P : A → Type 0) (m : ℕ) (xs : List A) → AtMost P m xs → length xs ≤ m
most_length P m [] none = omega arith
most_length P (suc m) (x ∷ xs) (some p d) = let l = most_length P m xs d in omega (arith, l)
most_length P zero (x ∷ xs) x3 = elim x3 [ ]

pub pairs_with : {A B : Type 0} (R S : A → B → Type 0) (P : B → Type 0) (xs : List A) (ys : List B) → ((x : A) (y : B) → R x y → P y → S x y) → Pairs R xs ys → Every P ys → Pairs S xs ys
pairs_with R S P [] [] h p e = p
pairs_with R S P [] (y ∷ ys) h p e = absurd p
pairs_with R S P (x ∷ xs) [] h p e = absurd p
pairs_with R S P (x ∷ xs) (y ∷ ys) h p e = (h x y p.0 e.0, pairs_with R S P xs ys h p.1 e.1)

each_append : {A : Type 0} (f : A → Bool) (xs ys : List A) → each f (xs ++ ys) ≡ true → (each f xs ≡ true) × (each f ys ≡ true)
unfolding each
each_append f [] ys e = (refl, e)
each_append f (x ∷ xs) ys e =
    let r = each_append f xs ys (and_right (f x) (each f (xs ++ ys)) e) in (and_true (f x) (each f xs) (and_left (f x) (each f (xs ++ ys)) e) r.0, r.1)

each-gathered : {A : Type 0} (f : A → Bool) (test : ℕ → Bool) (make : ℕ → A) (n k : ℕ) → each f (gathered test make n) ≡ true → k < n → test k ≡ true → f (make k) ≡ true
unfolding joined
each-gathered f test make zero k e l h = absurd (omega (arith, l))
each-gathered {A} f test make (suc n) k e l h = go (dec_lt k n) (each-gathered f test make n k (each_append f (gathered test make n) (if test n then make n ∷ [] or_else []) e).0)
  where
    last : (b : Bool) → each f (if b then make n ∷ [] or_else []) ≡ true → b ≡ true → f (make n) ≡ true
    last true u v = and_left (f (make n)) true (unfold each if◌then◌or_else◌ in u)
    last false u v = absurd (no_true v)
      where
        no_true : false ≡ true → ⊥
        no_true e = omega (arith, ap one_if e)

    go : Dec (k < n) → (k < n → test k ≡ true → f (make k) ≡ true) → f (make k) ≡ true
    go (yes u) before = before u h
    go (no u) before =
        let q : n ≡ k = omega (arith, l, u) in
        subst (λ (i : ℕ). f (make i) ≡ true) q
        (last (test n) (each_append f (gathered test make n) (if test n then make n ∷ [] or_else []) e).1 (subst (λ (i : ℕ). test i ≡ true) (sym q) h))

-- the texts of pools, as they are gathered
from_append : (d : Collaboration) (i : ℕ) (xs ys : List Participant) → pools_from d i (xs ++ ys) ≡ pools_from d i xs ++ pools_from d (i + length xs) ys
unfolding pools_from
from_append d i [] ys = ap (λ (v : ℕ). pools_from d v ys) (let z : i ≡ i + 0 = omega arith in z)
from_append d i (x ∷ xs) ys =
    ap (λ (z : List (List ℕ)). pool_text d i x ∷ z)
    (from_append d (suc i) xs ys ∙ ap (λ (v : ℕ). pools_from d (suc i) xs ++ pools_from d v ys) (let z : suc i + length xs ≡ i + suc (length xs) = omega arith in z))

pools-gathered : (d : Collaboration) (test : ℕ → Bool) (make : ℕ → Participant) (n : ℕ)
    → pools_from d 1 (gathered test make n) ≡ joined (λ k. if test k then pool_text d (1 + count_before test k) (make k) ∷ [] or_else []) n
unfolding joined
pools-gathered d test make zero = unfold pools_from in refl
pools-gathered d test make (suc n) =
    from_append d 1 (gathered test make n) (if test n then make n ∷ [] or_else [])
    ∙ ap₂ ◌++◌ (pools-gathered d test make n) (ap (λ (v : ℕ). pools_from d (1 + v) (if test n then make n ∷ [] or_else [])) (as_many test make n) ∙ last (test n))
  where
    last : (b : Bool) → pools_from d (1 + count_before test n) (if b then make n ∷ [] or_else []) ≡ (if b then pool_text d (1 + count_before test n) (make n) ∷ [] or_else [])
    last true = unfold pools_from if◌then◌or_else◌ in refl
    last false = unfold pools_from if◌then◌or_else◌ in refl

-- A DRAWING in which nothing is amiss or beyond the limits
module _ (t w : List ℕ) (n : ℕ) (drawn : is_drawing t w n ≡ true) (beyond : ltb (first_beyond t w n) n ≡ false) (settled : Settled w n) (placed : Placed w) where
  pub few : n ≤ room
  few = drawing_few t w n drawn

  abbrev pub owned : Bool
  owned = has_participants w n

  abbrev pub D : Collaboration
  D = collaboration_in t w n

  -- behind an event gateway's flow there is a catch event, and a flow leaves it
  right_branch : (j : ℕ) → j < n → is_wrong_branch w j ≡ false
  unfolding is_drawing is_right is_amiss amiss_as_flow
  right_branch j l =
      let r = all_at (is_right t w n) n (and_right (has_pool owned w n) (all (is_right t w n) n) (and_right (leb n room) (has_pool owned w n && all (is_right t w n) n) drawn)) j l in
      or_left (is_wrong_branch w j) _ (or_right (is_loose w j) _ (or_left (amiss_as_flow t w j) _ (or_right (is_strange w j) _ (not_is (is_amiss t w n j) r))))
    where
      not_is : (b : Bool) → not b ≡ true → b ≡ false
      not_is true e = sym e
      not_is false e = refl

  pub goes_on : (j : ℕ) → j < n → of_sort sequence_flow w j ≡ true → is_of_kind kinds.event_based w (source w j) ≡ true → first_with sequence_flow source_in (target w j) w n < n
  unfolding first_with
  goes_on j l s g = go (dec_lt (seek (is_with sequence_flow source_in c w) n) n)
    where
      c : ℕ
      c = target w j

      is_branch : is_of_kind branch w (target w j) ≡ true
      is_branch = not-false (is_of_kind branch w (target w j)) (unfold is_wrong_branch in and_then (is_of_kind kinds.event_based w (source w j)) _ g (and_then (of_sort sequence_flow w j) _ s (right_branch j l)))

      low : target w j < n
      low = settled.targets j l (unfold of_sort in eqb-true (sort w j) sequence_flow s)

      out_one : flows_out w n (target w j) ≡ 1
      out_one =
          unfold is_of_kind in
          branch_out w n (target w j)
          (sym (settled.kinds (target w j) low (and_left (is_node (sort w (target w j))) (eqb (kind w (target w j)) branch) is_branch)) ∙ eqb-true (kind w (target w j)) branch (and_right (is_node (sort w (target w j))) (eqb (kind w (target w j)) branch) is_branch))

      go : Dec (seek (is_with sequence_flow source_in c w) n < n) → seek (is_with sequence_flow source_in (target w j) w) n < n
      go (yes u) = u
      go (no u) =
          absurd (unfold flows_out count_with in let z = sum-zero (λ i. one_if (is_with sequence_flow source_in (target w j) w i)) n (λ i h. ap one_if ((sought (is_with sequence_flow source_in (target w j) w) n).2 i (omega (arith, h, u)))) in omega (arith, z, out_one))

  -- ELEMENTS
  its_own : (p k : ℕ) → is_element p w k ≡ true → is_element (within w k) w k ≡ true
  unfolding is_element
  its_own p k e =
      let r = and_right (is_node (sort w k)) _ e in
      and_true (is_node (sort w k)) _ (and_left (is_node (sort w k)) _ e) (and_true (eqb (within w k) (within w k)) _ (eq-eqb (within w k) (within w k) refl) (and_right (eqb (within w k) p) _ r))

  pub is_node_lem : (p k : ℕ) → is_element p w k ≡ true → is_node (sort w k) ≡ true
  unfolding is_element
  is_node_lem p k e = and_left (is_node (sort w k)) _ e

  pub fits : (p k : ℕ) → k < n → is_element p w k ≡ true → element_fits (element_drawn t w n k) ≡ true
  fits p k l e = never_unfit t w n drawn beyond settled k l (its_own p k e)

  pub texts_are : (p : ℕ) → map (element D) (elements_in D p) ≡ gathered (is_element p w) (λ k. shown_element (element_drawn t w n k)) n
  texts_are p =
      ap (map (element D)) listed
      ∙ map-gathered (λ k. is_node (sort w k) && (eqb (within w k) p && not (eqb (kind w k) branch))) (node_at w) (element D) n
      ∙ gathered_same (λ k. is_node (sort w k) && (eqb (within w k) p && not (eqb (kind w k) branch))) (is_element p w) (λ k. element D (node_at w k)) (λ k. shown_element (element_drawn t w n k)) n (λ k l. unfold is_element in refl)
      (λ k l h. sym (element_spelled t w n k few l (is_node_lem p k h) (fits p k l h) goes_on))
    where
      listed : elements_in D p ≡ gathered (λ k. is_node (sort w k) && (eqb (within w k) p && not (eqb (kind w k) branch))) (node_at w) n
      listed = unfold elements_in collaboration_in in those-gathered (λ k. is_node (sort w k)) (node_at w) (λ m. eqb m.process p && not (eqb m.kind branch)) n

  pub elements_pair : (p : ℕ) → Pairs (Comes element_alone) (map (element D) (elements_in D p)) (elements_of t w n p)
  unfolding elements_of element_if
  elements_pair p =
      subst (λ (z : List (List ℕ)). Pairs (Comes element_alone) z (joined (λ k. if is_element p w k then element_drawn t w n k ∷ [] or_else []) n)) (sym (texts_are p))
      (pairs_joined (Comes element_alone) (λ k. if is_element p w k then shown_element (element_drawn t w n k) ∷ [] or_else []) (λ k. if is_element p w k then element_drawn t w n k ∷ [] or_else []) n
      (λ k l. pairs_one (Comes element_alone) (is_element p w k) (shown_element (element_drawn t w n k)) (element_drawn t w n k)
      (λ h. element_comes (element_drawn t w n k) (element_right t w n (omega (arith, few)) k (fits p k l h)))))

  -- POOLS
  number_is : (k : ℕ) → k < n → 1 + count_before (is_pool owned w) k ≡ number_of owned w k
  unfolding number_of
  number_is k l =
      (let z : 1 + count_before (is_pool owned w) k ≡ count_before (is_pool owned w) k + 1 = omega arith in z)
      ∙ sym (more_is (count_before (is_pool owned w) k) (omega (arith, count_most_lem (is_pool owned w) k, l, few)))

  pub texts : pools_from D 1 D.participants ≡ joined (λ k. if is_pool owned w k then pool_text D (1 + count_before (is_pool owned w) k) (participant_at owned t w n k) ∷ [] or_else []) n
  texts = ap (pools_from D 1) drawn_are ∙ pools-gathered D (is_pool owned w) (participant_at owned t w n) n
    where
      drawn_are : D.participants ≡ gathered (is_pool owned w) (participant_at owned t w n) n
      drawn_are = unfold collaboration_in in refl

  -- where every pool has an element: document 01 has no text of a pool without one
  module _ (full : each (λ p. ltb 0 (length (elements_in D p.process))) D.participants ≡ true) where
    pool_full : (k : ℕ) → k < n → is_pool owned w k ≡ true → 0 < length (map (element D) (elements_in D (process_of owned w k)))
    pool_full k l h =
        let e = each-gathered (λ p. ltb 0 (length (elements_in D p.process))) (is_pool owned w) (participant_at owned t w n) n k (unfold collaboration_in in full) l h in
        let u = ltb-true 0 (length (elements_in D (process_of owned w k))) e in
        omega (arith, u, length-map (elements_in D (process_of owned w k)) (element D))

    abbrev Reading : List ℕ → Pool → Type 0
    Reading x p = Fits p → Comes pool x p

    pool_reads : (k : ℕ) → k < n → is_pool owned w k ≡ true → Reading (pool_text D (1 + count_before (is_pool owned w) k) (participant_at owned t w n k)) (pool_drawn owned t w n k)
    pool_reads k l h f =
        subst (λ (v : ℕ). Comes pool (pool_text D v (participant_at owned t w n k)) (pool_drawn owned t w n k)) (sym (number_is k l))
        (unfold pool_text elementsText pool_drawn limit_of in go (ltb (multiplicity_of w n k) n) refl)
      where
        near : Near (pool_drawn owned t w n k)
        near = pool_near t w n drawn beyond settled placed k l h

        low : 1 ≤ number_of owned w k
        low = unfold pool_drawn in near.number_low

        high : number_of owned w k ≤ pool_numbers
        high = unfold pool_drawn in near.number_high

        pair : Pairs (Comes element_alone) (map (element D) (elements_in D (process_of owned w k))) (elements_of t w n (process_of owned w k))
        pair = elements_pair (process_of owned w k)

        most : length (map (element D) (elements_in D (process_of owned w k))) ≤ elements
        most =
            let u : length (elements_of t w n (process_of owned w k)) ≤ elements = unfold pool_drawn in most_length Block elements (elements_of t w n (process_of owned w k)) f in
            omega (arith, u, pairs_long (Comes element_alone) (map (element D) (elements_in D (process_of owned w k))) (elements_of t w n (process_of owned w k)) pair)

        go : (b : Bool) → ltb (multiplicity_of w n k) n ≡ b
            → Comes pool
            (if b then bytes "miPool" ++ enclosed_by (code "(") (code ")") (shown (number_of owned w k) ++ (code "," ∷ (parted (code "|") (map (element D) (elements_in D (process_of owned w k))) ++ (code "," ∷ shown (maximum_of t w (multiplicity_of w n k))))))
            or_else bytes "pool" ++ enclosed_by (code "(") (code ")") (shown (number_of owned w k) ++ (code "," ∷ parted (code "|") (map (element D) (elements_in D (process_of owned w k))))))
            (record { number = number_of owned w k; limit = if b then maximum_of t w (multiplicity_of w n k) or_else 0; elements = elements_of t w n (process_of owned w k) })
        go true e =
            unfold if◌then◌or_else◌ in
            many_comes (map (element D) (elements_in D (process_of owned w k))) (elements_of t w n (process_of owned w k)) pair (pool_full k l h) most (number_of owned w k) low high (maximum_of t w (multiplicity_of w n k))
            (its_low t w n drawn beyond settled placed k h (ltb-true (multiplicity_of w n k) n e)) (its_limit t w n drawn beyond settled placed k h (ltb-true (multiplicity_of w n k) n e))
        go false e =
            unfold if◌then◌or_else◌ in
            plain_comes (map (element D) (elements_in D (process_of owned w k))) (elements_of t w n (process_of owned w k)) pair (pool_full k l h) most (number_of owned w k) low high

    pools_pair : Pairs (Comes pool) (pools_from D 1 D.participants) (content t w n)
    pools_pair =
        pairs_with Reading (Comes pool) Fits (pools_from D 1 D.participants) (content t w n) (λ x p r f. r f)
        (subst (λ (z : List (List ℕ)). Pairs Reading z (content t w n)) (sym texts) pairs)
        (most_every Fits pools (content t w n) (content_fits t w n beyond))
      where
        pairs : Pairs Reading (joined (λ k. if is_pool owned w k then pool_text D (1 + count_before (is_pool owned w) k) (participant_at owned t w n k) ∷ [] or_else []) n) (content t w n)
        pairs =
            unfold content pool_if in
            pairs_joined Reading (λ k. if is_pool owned w k then pool_text D (1 + count_before (is_pool owned w) k) (participant_at owned t w n k) ∷ [] or_else []) (λ k. if is_pool owned w k then pool_drawn owned t w n k ∷ [] or_else []) n
            (λ k l. pairs_one Reading (is_pool owned w k) (pool_text D (1 + count_before (is_pool owned w) k) (participant_at owned t w n k)) (pool_drawn owned t w n k) (pool_reads k l))

    -- THE LAW
    pub content_read : model (spell D) ≡ record { end = Ok (length (spell D)); value = content t w n }
    unfolding spell
    content_read =
        let long = pairs_long (Comes pool) (pools_from D 1 D.participants) (content t w n) pools_pair in
        whole_read (pools_from D 1 D.participants) (content t w n) pools_pair (omega (arith, long, content-some t w n drawn beyond settled placed)) (omega (arith, long, most_length Fits pools (content t w n) (content_fits t w n beyond)))
