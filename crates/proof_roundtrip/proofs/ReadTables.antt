-- THE TABLE OF A MODEL within the limits: its words; and where no endSnd is left, it passes the limits and the checks as the model does, so that all that is said of writing and reading back holds of it. Assumes nothing.
use Prim.Native.Nat.{ℕ, zero, suc, ◌+◌, ◌-◌, ◌*◌, ◌≤◌, ◌<◌}
use mathlib.Core.Path.{◌≡◌, ◌∙◌, refl, sym, ap, subst}
use mathlib.Core.Bool.{true, not}
use mathlib.Core.List.{List, [], ◌∷◌, map}
use native.Mathlib.Omega.{arith}
use lib.Dec.{eqb}
use lib.ListN.{length, get_or, drop, length-map}
use lib.Seq.{get_or-drop, get_or-take, ext_get_or, length-take-le}
use borrow.Author.Tests.{le-leb}
use Rattle.base_words.specs.Counts.{pools, elements, pool_numbers, instances}
use Rattle.base_words.specs.Each.{tab}
use Rattle.base_words.specs.Words.{at, greatest}
use Rattle.base_words.proofs.AllLaws.{all_of}
use Rattle.base_words.proofs.PickLaws.{and_true}
use Rattle.base_kinds.specs.Kinds.{end_snd}
use Rattle.base_table.specs.Places.{kind_place, elements_in, element_words, pool_words, pool_place, limit_place, element_place, table_words}
use Rattle.base_table.specs.Table.{pool_count, element_count, element_at}
use Rattle.check_limits.specs.Limits.{things, element_fits, held_fits, pool_fits, table_fits}
use Rattle.check_model.specs.Checks.{Pool}
use Rattle.text_ends.specs.Rewriting.{is_end_snd}
use Rattle.text_read.specs.Notation.{no_pool, flat, filled, pool_table, table_of}
use Rattle.proof_roundtrip.specs.Blocks.{words_at, block_at, blocks_of}
use Rattle.proof_roundtrip.proofs.BarLaws.{tab_front}
use Rattle.proof_roundtrip.proofs.TableLaws.{tab_ext}
use Rattle.proof_roundtrip.proofs.TableFits.{element_long}
use Rattle.check_limits.proofs.SameLaws.{element_same}
use Rattle.proof_roundtrip.proofs.ExpressionFills.{zeros_of}
use Rattle.proof_roundtrip.proofs.ListFills.{things_of}
use Rattle.proof_roundtrip.proofs.EndModels.{Every, every_in, Right, Fit, Model}
use Rattle.proof_roundtrip.proofs.Rewritten.{Plain, no_end_at}
use Rattle.proof_roundtrip.proofs.FlatLaws.{every_at, every_map, every_as, at-filled, length-filled, Wide, length-flat, at-flat, flat_beyond, Small, small_flat}

-- a list by its places
tab_of : {A : Type 0} (xs : List A) (d : A) → tab (λ j. get_or xs j d) (length xs) ≡ xs
tab_of [] d = unfold tab in refl
tab_of (x ∷ xs) d = tab_front (λ j. get_or (x ∷ xs) j d) (length xs) ∙ ap (λ l. x ∷ l) (tab_of xs d)

-- A POOL'S WORDS
module _ (p : Pool) (f : Fit p) where
  wide : Every (Wide element_words) p.elements
  wide = every_as Right (Wide element_words) p.elements (λ x r. r.long) f.every

  length-elements : length (flat p.elements) ≤ element_words * elements
  length-elements = omega (arith, length-flat element_words p.elements wide, f.high)

  pool_length : length (pool_table p) ≡ pool_words
  unfolding pool_table
  pool_length = omega (arith, length-filled (element_words * elements) (flat p.elements) length-elements)

  pool_tail : (m : ℕ) → at (pool_table p) (elements_in + m) ≡ at (flat p.elements) m
  unfolding pool_table
  pool_tail m = sym (get_or-drop elements_in (p.number ∷ p.limit ∷ length p.elements ∷ filled (element_words * elements) (flat p.elements)) m 0) ∙ at-filled (element_words * elements) (flat p.elements) m

  pool_element : (e i : ℕ) → e < length p.elements → i < element_words → at (pool_table p) (elements_in + (element_words * e + i)) ≡ at (get_or p.elements e []) i
  pool_element e i l u = pool_tail (element_words * e + i) ∙ at-flat element_words p.elements e i wide l u

  pool_beyond : (m : ℕ) → element_words * length p.elements ≤ m → at (pool_table p) (elements_in + m) ≡ 0
  pool_beyond m l = pool_tail m ∙ flat_beyond element_words p.elements m wide l

  pool_small : Small (pool_table p)
  unfolding pool_table
  pool_small zero = omega (arith, f.number_high)
  pool_small (suc zero) = omega (arith, f.limit_high)
  pool_small (suc (suc zero)) = omega (arith, f.high)
  pool_small (suc (suc (suc i))) =
      subst (λ (k : ℕ). k ≤ greatest) (sym (at-filled (element_words * elements) (flat p.elements) i)) (small_flat p.elements (every_as Right Small p.elements (λ x r. r.small) f.every) i)

-- THE TABLE'S WORDS
module _ (ps : List Pool) (m : Model ps) where
  abbrev tables : List (List ℕ)
  tables = map pool_table ps

  tables_wide : Every (Wide pool_words) tables
  tables_wide = every_map Fit (Wide pool_words) pool_table ps pool_length m.every

  tables_length : length tables ≡ length ps
  tables_length = length-map ps pool_table

  table_tail : (n : ℕ) → at (table_of ps) (1 + n) ≡ at (flat tables) n
  unfolding table_of
  table_tail n = sym (get_or-drop 1 (length ps ∷ filled (pool_words * pools) (flat tables)) n 0) ∙ at-filled (pool_words * pools) (flat tables) n

  table_count : at (table_of ps) 0 ≡ length ps
  unfolding table_of
  table_count = refl

  pub table_long : length (table_of ps) ≡ table_words
  unfolding table_of
  table_long = omega (arith, length-filled (pool_words * pools) (flat tables) (omega (arith, length-flat pool_words tables tables_wide, tables_length, m.high)))

  pub table_small : Small (table_of ps)
  unfolding table_of
  table_small zero = omega (arith, m.high)
  table_small (suc i) =
      subst (λ (k : ℕ). k ≤ greatest) (sym (at-filled (pool_words * pools) (flat tables) i)) (small_flat tables (every_map Fit Small pool_table ps pool_small m.every) i)

  -- a word of a pool
  abbrev nth : ℕ → Pool
  nth p = get_or ps p no_pool

  nth_fit : (p : ℕ) → p < length ps → Fit (nth p)
  nth_fit p l = every_at Fit ps no_pool p m.every l

  map_at : {A B : Type 0} (f : A → B) (xs : List A) (d : A) (e : B) (j : ℕ) → j < length xs → get_or (map f xs) j e ≡ f (get_or xs j d)
  map_at f [] d e j l = absurd (omega (arith, l))
  map_at f (x ∷ xs) d e zero l = refl
  map_at f (x ∷ xs) d e (suc j) l = map_at f xs d e j (omega (arith, l))

  table_pool : (p i : ℕ) → p < length ps → i < pool_words → at (table_of ps) (pool_place p + i) ≡ at (pool_table (nth p)) i
  table_pool p i l u =
      ap (at (table_of ps)) (let e : pool_place p + i ≡ 1 + (pool_words * p + i) = omega arith in e)
      ∙ table_tail (pool_words * p + i)
      ∙ at-flat pool_words tables p i tables_wide (omega (arith, l, tables_length)) u
      ∙ ap (λ (x : List ℕ). at x i) (map_at pool_table ps no_pool [] p l)

  module _ (p : ℕ) (l : p < length ps) where
    f : Fit (nth p)
    f = nth_fit p l

    number_is : at (table_of ps) (pool_place p) ≡ (nth p).number
    number_is = ap (at (table_of ps)) (let e : pool_place p ≡ pool_place p + 0 = omega arith in e) ∙ table_pool p 0 l (omega arith) ∙ (unfold pool_table in refl)

    limit_is : at (table_of ps) (limit_place p) ≡ (nth p).limit
    limit_is = table_pool p 1 l (omega arith) ∙ (unfold pool_table in refl)

    count_is : element_count (table_of ps) p ≡ length (nth p).elements
    count_is = table_pool p 2 l (omega arith) ∙ (unfold pool_table in refl)

    -- a word of an element, and those behind the last
    element_is : (e i : ℕ) → e < length (nth p).elements → i < element_words → at (element_at (table_of ps) p e) i ≡ at (get_or (nth p).elements e []) i
    element_is e i h u =
        get_or-drop (element_place p e) (table_of ps) i 0
        ∙ ap (at (table_of ps)) (let q : element_place p e + i ≡ pool_place p + (elements_in + (element_words * e + i)) = omega arith in q)
        ∙ table_pool p (elements_in + (element_words * e + i)) l (omega (arith, h, u, f.high))
        ∙ pool_element (nth p) f e i h u

    beyond_is : (i : ℕ) → element_place p (length (nth p).elements) ≤ i → i < element_place p elements → at (table_of ps) i ≡ 0
    beyond_is i a b =
        ap (at (table_of ps)) (let q : i ≡ pool_place p + (elements_in + (i - element_place p 0)) = omega (arith, a) in q)
        ∙ table_pool p (elements_in + (i - element_place p 0)) l (omega (arith, a, b))
        ∙ pool_beyond (nth p) f (i - element_place p 0) (omega (arith, a))

    element_right : (e : ℕ) → e < length (nth p).elements → Right (get_or (nth p).elements e [])
    element_right e h = every_at Right (nth p).elements [] e f.every h

    pool_fits_lem : Plain (nth p) → pool_fits (table_of ps) p ≡ true
    unfolding pool_fits
    pool_fits_lem plain =
        and_true _ _
        (and_true _ _
        (and_true _ _
        (and_true _ _ (le-leb 1 (at (table_of ps) (pool_place p)) (omega (arith, number_is, f.number_low))) (le-leb (at (table_of ps) (pool_place p)) pool_numbers (omega (arith, number_is, f.number_high))))
        (le-leb (at (table_of ps) (limit_place p)) instances (omega (arith, limit_is, f.limit_high))))
        (and_true _ _ (le-leb 1 (element_count (table_of ps) p) (omega (arith, count_is, f.low))) (le-leb (element_count (table_of ps) p) elements (omega (arith, count_is, f.high)))))
        (ap (λ (n : ℕ). things (element_at (table_of ps) p 0) element_words elements n held_fits) count_is
        ∙ things_of (table_of ps) (element_place p 0) element_words elements (length (nth p).elements) held_fits right
        (λ i s. beyond_is i (omega (arith, s.0)) (omega (arith, s.1, f.high))))
      where
        right : (e : ℕ) → e < length (nth p).elements → held_fits (drop (element_place p 0 + element_words * e) (table_of ps)) ≡ true
        right e h =
            unfold held_fits is_end_snd in
            ap (λ (k : ℕ). held_fits (drop k (table_of ps))) (let q : element_place p 0 + element_words * e ≡ element_place p e = omega arith in q)
            ∙ and_true _ _
            (element_same (get_or (nth p).elements e []) (element_at (table_of ps) p e) (λ i u. element_is e i h u) ∙ (element_right e h).fits)
            (ap (λ (k : ℕ). not (eqb k end_snd)) (element_is e kind_place h (omega arith)) ∙ ap not (no_end_at (nth p).elements e plain.ends h))

    -- the pool that the table holds is the one that was read
    words_is : (e : ℕ) → e < length (nth p).elements → words_at (table_of ps) p e ≡ get_or (nth p).elements e []
    words_is e h =
        ext_get_or 0 (words_at (table_of ps) p e) (get_or (nth p).elements e []) (long ∙ sym (element_right e h).long)
        (λ i b. let u : i < element_words = omega (arith, b, long) in get_or-take element_words (element_at (table_of ps) p e) i 0 u ∙ element_is e i h u)
      where
        long : length (words_at (table_of ps) p e) ≡ element_words
        long = length-take-le element_words (element_at (table_of ps) p e) (element_long (table_of ps) p e table_long (omega (arith, l, m.high)) (omega (arith, h, f.high)))

    elements_are : tab (words_at (table_of ps) p) (element_count (table_of ps) p) ≡ (nth p).elements
    elements_are =
        ap (tab (words_at (table_of ps) p)) count_is
        ∙ tab_ext (words_at (table_of ps) p) (λ e. get_or (nth p).elements e []) (length (nth p).elements) words_is
        ∙ tab_of (nth p).elements []

    block_is : block_at (table_of ps) p ≡ nth p
    unfolding block_at
    block_is =
        ap (λ (n : ℕ). record { number = n; limit = at (table_of ps) (limit_place p); elements = tab (words_at (table_of ps) p) (element_count (table_of ps) p) }) number_is
        ∙ ap (λ (n : ℕ). record { number = (nth p).number; limit = n; elements = tab (words_at (table_of ps) p) (element_count (table_of ps) p) }) limit_is
        ∙ ap (λ (els : List (List ℕ)). record { number = (nth p).number; limit = (nth p).limit; elements = els }) elements_are

  -- THE LAWS
  pub table_fits_lem : Every Plain ps → table_fits (table_of ps) ≡ true
  unfolding table_fits
  table_fits_lem plain =
      and_true _ _
      (and_true _ _
      (and_true _ _ (le-leb 1 (pool_count (table_of ps)) (omega (arith, table_count, m.low))) (le-leb (pool_count (table_of ps)) pools (omega (arith, table_count, m.high))))
      (all_of (pool_fits (table_of ps)) (pool_count (table_of ps)) (λ p h. let l : p < length ps = omega (arith, h, table_count) in pool_fits_lem p l (every_in Plain ps no_pool p plain l))))
      (zeros_of (table_of ps) (pool_place (pool_count (table_of ps))) (pool_words * (pools - pool_count (table_of ps)))
      (λ i a b. ap (at (table_of ps)) (let q : i ≡ 1 + (i - 1) = omega (arith, a) in q) ∙ table_tail (i - 1) ∙ flat_beyond pool_words tables (i - 1) tables_wide (omega (arith, a, tables_length, table_count))))

  pub blocks_are : blocks_of (table_of ps) ≡ ps
  unfolding blocks_of
  blocks_are = ap (tab (block_at (table_of ps))) table_count ∙ tab_ext (block_at (table_of ps)) nth (length ps) block_is ∙ tab_of ps no_pool
