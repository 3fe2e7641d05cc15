-- THE REWRITING OF A TABLE is the rewriting of the model that it was filled with. Assumes nothing.
use Prim.Native.Nat.{ℕ, zero, suc, ◌+◌, ◌-◌, ◌*◌, ◌≤◌, ◌<◌}
use mathlib.Core.Path.{◌≡◌, refl, sym, ◌∙◌, ap, ap₂, subst}
use mathlib.Core.Bool.{Bool, true, ◌&&◌}
use mathlib.Core.List.{List, [], ◌∷◌, ◌++◌, map, append_assoc, append-nil}
use native.Mathlib.Omega.{arith}
use lib.Dec.{leb}
use lib.ListN.{length, take, drop, get_or, replicate, length-append, length-replicate, length-map}
use lib.Seq.{take-suc, drop-cons, take-length, drop-length, length-take-le}
use borrow.Author.Tests.{leb-true}
use Rattle.base_words.specs.Counts.{pools, elements}
use Rattle.base_words.specs.Each.{each}
use Rattle.base_words.specs.Iter.{iter}
use Rattle.base_words.proofs.AllLaws.{all_at, and_right}
use Rattle.base_table.specs.Places.{element_words, pool_words, pool_place}
use Rattle.base_table.specs.Table.{pool_count}
use Rattle.check_model.specs.Checks.{Pool}
use Rattle.text_ends.specs.Rewriting.{end_sends, unused_count, all_treated, rewritten, room_for, has_room}
use Rattle.text_ends.proofs.RewriteLaws.{each_places}
use Rattle.text_passes.specs.Model.{no_pool, flat, filled, pool_table, table_of}
use Rattle.text_passes.proofs.FillLaws.{AtMost, none, some, Block, Fits}
use Rattle.text_rewrite.specs.InTable.{pool_in, rewritten_in}
use Rattle.text_rewrite.proofs.PoolLaws.{flat_append, most_length, most_at, flat_long, zeros, held, pool_in_lem, all_few}

map_append : {A B : Type 0} (f : A → B) (xs ys : List A) → map f (xs ++ ys) ≡ map f xs ++ map f ys
map_append f [] ys = refl
map_append f (x ∷ xs) ys = ap (λ l. f x ∷ l) (map_append f xs ys)

-- the words of a pool, with 0 behind its elements
filled_up : (q : Pool) → Fits q → filled (element_words * elements) (flat q.elements) ≡ flat q.elements ++ zeros (element_words * (elements - length q.elements))
unfolding filled zeros
filled_up q fits =
    let k : element_words * elements - length (flat q.elements) ≡ element_words * (elements - length q.elements) = omega (arith, flat_long elements q.elements fits) in
    ap (λ n. flat q.elements ++ replicate n 0) k

table_long : (q : Pool) → Fits q → length (pool_table q) ≡ pool_words
unfolding pool_table zeros
table_long q fits =
    let f = flat_long elements q.elements fits in
    let l = most_length Block elements q.elements fits in
    let z : length {A = ℕ} (replicate (element_words * (elements - length q.elements)) 0) ≡ element_words * (elements - length q.elements) = length-replicate {A = ℕ} _ 0 in
    let e = ap length (filled_up q fits) ∙ length-append (flat q.elements) (replicate (element_words * (elements - length q.elements)) 0) in
    omega (arith, f, l, z, e)

pools_long : (m : ℕ) (ps : List Pool) → AtMost Fits m ps → length (flat (map pool_table ps)) ≡ pool_words * length ps
unfolding flat
pools_long m [] none = refl
pools_long (suc m) (q ∷ ps) (some fits rest) =
    length-append (pool_table q) (flat (map pool_table ps))
    ∙ (let z : length (pool_table q) + length (flat (map pool_table ps)) ≡ pool_words * suc (length ps) = omega (arith, table_long q fits, pools_long m ps rest) in z)
pools_long zero (q ∷ ps) x'' = elim x'' [ ]

-- one pool of several, l before it and r behind it
most_of : {A : Type 0} (P : A → Type 0) (m : ℕ) (l : List A) (x : A) (r : List A) → AtMost P m (l ++ (x ∷ r)) → P x
most_of P zero l x r h = absurd (omega (arith, most_length P zero (l ++ (x ∷ r)) h, length-append l (x ∷ r)))
most_of P (suc m) [] x r (some e rest) = e
most_of P (suc m) (y ∷ l) x r (some e rest) = most_of P m l x r rest

most_with : {A : Type 0} (P : A → Type 0) (m : ℕ) (l : List A) (x y : A) (r : List A) → AtMost P m (l ++ (x ∷ r)) → P y → AtMost P m (l ++ (y ∷ r))
most_with P zero l x y r h g = absurd (omega (arith, most_length P zero (l ++ (x ∷ r)) h, length-append l (x ∷ r)))
most_with P (suc m) [] x y r (some e rest) h = some h rest
most_with P (suc m) (z ∷ l) x y r (some e rest) h = some e (most_with P m l x y r rest h)

most_front : {A : Type 0} (P : A → Type 0) (m : ℕ) (l r : List A) → AtMost P m (l ++ r) → AtMost P m l
most_front P m [] r h = none
most_front P (suc m) (x ∷ l) r (some e rest) = some e (most_front P m l r rest)
most_front P zero (x ∷ l) r h = elim h [ ]

before : ℕ → List Pool → List ℕ
before n l = n ∷ flat (map pool_table l)

behind : ℕ → List Pool → List ℕ
behind n r = flat (map pool_table r) ++ replicate (pool_words * pools - pool_words * n) 0

module _ (l r : List Pool) where
  as_held : (n : ℕ) (q : Pool) → AtMost Fits pools (l ++ (q ∷ r)) → n ≡ length (l ++ (q ∷ r)) → table_of (l ++ (q ∷ r)) ≡ held (before n l) q.number q.limit (behind n r) q.elements
  unfolding table_of filled held before behind pool_table
  as_held n q few e =
      let x : List ℕ = flat (map pool_table l) in
      let y : List ℕ = flat (map pool_table r) in
      let z : List ℕ = replicate (pool_words * pools - pool_words * n) 0 in
      let k : pool_words * pools - length (flat (map pool_table (l ++ (q ∷ r)))) ≡ pool_words * pools - pool_words * n = omega (arith, pools_long pools (l ++ (q ∷ r)) few, e) in
      ap₂ (λ c m. c ∷ (flat (map pool_table (l ++ (q ∷ r))) ++ replicate m 0)) (sym e) k
      ∙ ap (λ t. n ∷ (t ++ z)) (ap flat (map_append pool_table l (q ∷ r)) ∙ flat_append (map pool_table l) (map pool_table (q ∷ r)))
      ∙ ap (λ t. n ∷ t) (append_assoc x (flat (map pool_table (q ∷ r))) z ∙ ap (λ t. x ++ t) (one q y z (most_of Fits pools l q r few)))
    where
      one : (q : Pool) (y z : List ℕ) → Fits q → flat (pool_table q ∷ map pool_table r) ++ z ≡ q.number ∷ q.limit ∷ length q.elements ∷ (flat q.elements ++ (zeros (element_words * (elements - length q.elements)) ++ (flat (map pool_table r) ++ z)))
      one q y z fits =
          unfold flat pool_table in
          append_assoc (pool_table q) (flat (map pool_table r)) z
          ∙ ap (λ t. q.number ∷ q.limit ∷ length q.elements ∷ (t ++ (flat (map pool_table r) ++ z))) (filled_up q fits)
          ∙ ap (λ t. q.number ∷ q.limit ∷ length q.elements ∷ t) (append_assoc (flat q.elements) (zeros (element_words * (elements - length q.elements))) (flat (map pool_table r) ++ z))

  pub pool_fits_lem : (q : Pool) → Fits q → has_room q ≡ true → Fits (rewritten q)
  unfolding rewritten has_room room_for
  pool_fits_lem q fits room = all_few 0 (0 ∷ []) 0 0 [] refl q.elements fits (leb-true (length q.elements + end_sends q.elements) elements (and_right (leb (end_sends q.elements) (unused_count q.elements)) _ room))

  pool_step : (q : Pool) → AtMost Fits pools (l ++ (q ∷ r)) → has_room q ≡ true → pool_in (length l) (table_of (l ++ (q ∷ r))) ≡ table_of (l ++ (rewritten q ∷ r))
  unfolding has_room room_for rewritten
  pool_step q few room =
      let n : ℕ = length (l ++ (q ∷ r)) in
      let fits = most_of Fits pools l q r few in
      let long : length (before n l) ≡ pool_place (length l) = unfold before in (let z : suc (length (flat (map pool_table l))) ≡ pool_place (length l) = omega (arith, pools_long pools l (most_front Fits pools l (q ∷ r) few)) in z) in
      ap (pool_in (length l)) (as_held n q few refl)
      ∙ pool_in_lem (length l) (before n l) q.number q.limit (behind n r) long q.elements fits (leb-true (length q.elements + end_sends q.elements) elements (and_right (leb (end_sends q.elements) (unused_count q.elements)) _ room))
      ∙ sym (as_held n (rewritten q) (most_with Fits pools l q (rewritten q) r few (pool_fits_lem q fits room)) (length-append l (q ∷ r) ∙ sym (length-append l (rewritten q ∷ r))))

-- POOL AFTER POOL
module _ (ps : List Pool) (few : AtMost Fits pools ps) (room : each has_room ps ≡ true) where
  abbrev mixed : ℕ → List Pool
  mixed k = map rewritten (take k ps) ++ drop k ps

  record Step (k : ℕ) : Type 0 where
    pub is : iter pool_in (table_of ps) k ≡ table_of (mixed k)
    pub fits : AtMost Fits pools (mixed k)

  room_at : (k : ℕ) → k < length ps → has_room (get_or ps k no_pool) ≡ true
  room_at k l = all_at (λ j. has_room (get_or ps j no_pool)) (length ps) (sym (each_places has_room ps no_pool) ∙ room) k l

  steps : (k : ℕ) → k ≤ length ps → Step k
  unfolding iter
  steps zero h = record { is = refl; fits = few }
  steps (suc k) h =
      let s = steps k (omega arith) in
      let q : Pool = get_or ps k no_pool in
      let l : List Pool = map rewritten (take k ps) in
      let r : List Pool = drop (suc k) ps in
      let split : mixed k ≡ l ++ (q ∷ r) = ap (λ t. l ++ t) (drop-cons ps k no_pool (omega arith)) in
      let next : mixed (suc k) ≡ l ++ (rewritten q ∷ r) = ap (λ t. map rewritten t ++ r) (take-suc ps k no_pool (omega arith)) ∙ ap (λ t. t ++ r) (map_append rewritten (take k ps) (q ∷ [])) ∙ append_assoc l (rewritten q ∷ []) r in
      let f : AtMost Fits pools (l ++ (q ∷ r)) = subst (AtMost Fits pools) split s.fits in
      let long : k ≡ length l = sym (length-map (take k ps) rewritten ∙ length-take-le k ps (omega arith)) in
      let g = room_at k (omega arith) in
      record {
        is = ap (pool_in k) (s.is ∙ ap table_of split) ∙ ap (λ i. pool_in i (table_of (l ++ (q ∷ r)))) long ∙ pool_step l r q f g ∙ ap table_of (sym next);
        fits = subst (AtMost Fits pools) (sym next) (most_with Fits pools l q (rewritten q) r f (pool_fits_lem l r q (most_of Fits pools l q r f) g));
      }

  -- THE LAW
  pub table_rewritten : rewritten_in (table_of ps) ≡ table_of (map rewritten ps)
  unfolding rewritten_in
  table_rewritten =
      ap (iter pool_in (table_of ps)) count
      ∙ (steps (length ps) (omega arith)).is
      ∙ ap₂ (λ x y. table_of (map rewritten x ++ y)) (take-length ps) (drop-length ps)
      ∙ ap table_of (append-nil (map rewritten ps))
    where
      count : pool_count (table_of ps) ≡ length ps
      count = unfold table_of in refl
