-- THE TABLE of what was read is the table, word for word. Assumes nothing.
use Prim.Native.Nat.{ℕ, zero, suc, ◌+◌, ◌-◌, ◌*◌, ◌≤◌, ◌<◌}
use mathlib.Core.Path.{◌≡◌, ◌∙◌, refl, sym, ap, ap₂}
use mathlib.Core.Bool.{true}
use mathlib.Core.List.{List, [], ◌∷◌, ◌++◌, map, append_assoc, append-nil}
use native.Mathlib.Nat.{mul-zero, mul-suc}
use native.Mathlib.Numerals.{add-one}
use native.Mathlib.Omega.{arith}
use lib.ListN.{length, take, drop, replicate, length-drop, length-replicate, get_or-replicate}
use lib.Seq.{take_all, take-add, drop-cons, drop-drop, get_or-take, get_or-drop, length-take-le, ext_get_or}
use Rattle.std.proofs.lemmas.List.{map-append}
use Rattle.base_words.specs.Counts.{pools, elements}
use Rattle.base_words.specs.Each.{tab}
use Rattle.base_words.specs.Words.{at}
use Rattle.base_words.proofs.ListLaws.{length-tab}
use Rattle.base_table.specs.Places.{pool_place, limit_place, element_words, pool_words, table_words}
use Rattle.base_table.specs.Table.{pool_count, element_count}
use Rattle.check_limits.specs.Limits.{table_fits}
use Rattle.text_read.specs.Notation.{flat, filled, pool_table, table_of}
use Rattle.proof_roundtrip.specs.Blocks.{words_at, block_at, blocks_of}
use Rattle.proof_roundtrip.proofs.TableFits.{pools_high, pools_fit, pools_behind, elements_high, elements_behind}

-- the things of a list, one behind the other
flat_append : (xs ys : List (List ℕ)) → flat (xs ++ ys) ≡ flat xs ++ flat ys
unfolding flat
flat_append [] ys = refl
flat_append (x ∷ xs) ys = ap (λ (l : List ℕ). x ++ l) (flat_append xs ys) ∙ sym (append_assoc x (flat xs) (flat ys))

pub flat-tab : (t : List ℕ) (w from n : ℕ) → flat (tab (λ j. take w (drop (from + w * j) t)) n) ≡ take (w * n) (drop from t)
unfolding flat tab
flat-tab t w from zero = ap (λ (k : ℕ). take k (drop from t)) (sym (mul-zero w))
flat-tab t w from (suc n) =
    flat_append (tab (λ j. take w (drop (from + w * j) t)) n) (take w (drop (from + w * n) t) ∷ [])
    ∙ ap₂ (λ l r. l ++ r) (flat-tab t w from n) (append-nil (take w (drop (from + w * n) t)) ∙ ap (take w) (sym (drop-drop (w * n) from t)))
    ∙ sym (take-add (w * n) w (drop from t))
    ∙ ap (λ (k : ℕ). take k (drop from t)) (sym (mul-suc w n))

-- other things, each the same
pub tab_ext : {A : Type 0} (f g : ℕ → A) (n : ℕ) → ((k : ℕ) → k < n → f k ≡ g k) → tab f n ≡ tab g n
unfolding tab
tab_ext f g zero h = refl
tab_ext f g (suc n) h = ap₂ (λ l x. l ++ (x ∷ [])) (tab_ext f g n (λ k l. h k (omega (arith, l)))) (h n (omega arith))

pub map-tab : {A B : Type 0} (f : A → B) (g : ℕ → A) (n : ℕ) → map f (tab g n) ≡ tab (λ k. f (g k)) n
unfolding tab
map-tab f g zero = refl
map-tab f g (suc n) = map-append f (tab g n) (g n ∷ []) ∙ ap (λ l. l ++ (f (g n) ∷ [])) (map-tab f g n)

-- words of which the last are 0
pub filled_up : (l : List ℕ) (k n : ℕ) → k ≤ n → n ≤ length l → ((i : ℕ) → k ≤ i → i < n → at l i ≡ 0) → filled n (take k l) ≡ take n l
unfolding filled
filled_up l k n h u z =
    ap (λ (j : ℕ). take k l ++ replicate (n - j) 0) (length-take-le k l (omega (arith, h, u)))
    ∙ ap (λ (r : List ℕ). take k l ++ r) (sym rest)
    ∙ sym (take-add k (n - k) l)
    ∙ ap (λ (j : ℕ). take j l) (let e : k + (n - k) ≡ n = omega (arith, h) in e)
  where
    long : length (take (n - k) (drop k l)) ≡ n - k
    long = length-take-le (n - k) (drop k l) (omega (arith, u, length-drop k l))

    rest : take (n - k) (drop k l) ≡ replicate (n - k) 0
    rest =
        ext_get_or 0 (take (n - k) (drop k l)) (replicate (n - k) 0) (long ∙ sym (length-replicate (n - k) 0))
        (λ i b. let i< : i < n - k = omega (arith, b, long) in
        get_or-take (n - k) (drop k l) i 0 i< ∙ get_or-drop k l i 0 ∙ z (k + i) (omega arith) (omega (arith, i<)) ∙ sym (get_or-replicate (n - k) i 0 0 i<))

-- three words, and those behind them
one_more_lem : (t : List ℕ) (from : ℕ) → from < length t → drop from t ≡ at t from ∷ drop (from + 1) t
one_more_lem t from h = drop-cons t from 0 h ∙ ap (λ (k : ℕ). at t from ∷ drop k t) (sym (add-one from))

three : (t : List ℕ) (from n : ℕ) → from + 2 < length t → at t from ∷ at t (from + 1) ∷ at t (from + 2) ∷ take n (drop (from + 3) t) ≡ take (3 + n) (drop from t)
three t from n h = sym (take-add 3 n (at t from ∷ at t (from + 1) ∷ at t (from + 2) ∷ drop (from + 3) t)) ∙ ap (take (3 + n)) (sym rest)
  where
    rest : drop from t ≡ at t from ∷ at t (from + 1) ∷ at t (from + 2) ∷ drop (from + 3) t
    rest =
        one_more_lem t from (omega (arith, h))
        ∙ ap (λ (l : List ℕ). at t from ∷ l)
        (one_more_lem t (from + 1) (omega (arith, h))
        ∙ ap (λ (k : ℕ). at t (from + 1) ∷ drop k t) (let e : from + 1 + 1 ≡ from + 2 = omega arith in e)
        ∙ ap (λ (l : List ℕ). at t (from + 1) ∷ l) (one_more_lem t (from + 2) h ∙ ap (λ (k : ℕ). at t (from + 2) ∷ drop k t) (let e : from + 2 + 1 ≡ from + 3 = omega arith in e)))

-- a table from its words: number, limit, count, and things of w words each, of which c are used
module _ (t : List ℕ) (from w m c : ℕ) (h : from + 3 + m ≤ length t) (u : w * c ≤ m) (z : (i : ℕ) → from + 3 + w * c ≤ i → i < from + 3 + m → at t i ≡ 0) where
  things_same : filled m (flat (tab (λ e. take w (drop (from + 3 + w * e) t)) c)) ≡ take m (drop (from + 3) t)
  things_same =
      ap (filled m) (flat-tab t w (from + 3) c)
      ∙ filled_up (drop (from + 3) t) (w * c) m u (omega (arith, h, length-drop (from + 3) t))
      (λ i a b. get_or-drop (from + 3) t i 0 ∙ z (from + 3 + i) (omega (arith, a)) (omega (arith, b)))

module _ (t : List ℕ) (fit : table_fits t ≡ true) (long : length t ≡ table_words) where
  -- a pool's words
  pool_same : (p : ℕ) → p < pool_count t → pool_table (block_at t p) ≡ take pool_words (drop (pool_place p) t)
  unfolding pool_table block_at
  pool_same p h =
      let f = pools_fit t fit p h in
      let hp : p < 4 = omega (arith, h, pools_high t fit) in
      ap (λ (n : ℕ). at t (pool_place p) ∷ at t (limit_place p) ∷ n ∷ filled (element_words * elements) (flat (tab (words_at t p) (element_count t p)))) (length-tab (words_at t p) (element_count t p))
      ∙ ap (λ (l : List ℕ). at t (pool_place p) ∷ at t (limit_place p) ∷ element_count t p ∷ l)
      (things_same t (pool_place p) element_words (element_words * elements) (element_count t p) (omega (arith, hp, long)) (omega (arith, elements_high t p f)) (elements_behind t p f))
      ∙ three t (pool_place p) (element_words * elements) (omega (arith, hp, long))

  -- THE LAW
  pub table_same : table_of (blocks_of t) ≡ t
  unfolding table_of blocks_of
  table_same =
      ap (λ (n : ℕ). n ∷ filled (pool_words * pools) (flat (map pool_table (tab (block_at t) (pool_count t))))) (length-tab (block_at t) (pool_count t))
      ∙ ap (λ (l : List (List ℕ)). pool_count t ∷ filled (pool_words * pools) (flat l))
      (map-tab pool_table (block_at t) (pool_count t) ∙ tab_ext (λ p. pool_table (block_at t p)) (λ p. take pool_words (drop (pool_place p) t)) (pool_count t) pool_same)
      ∙ ap (λ (l : List ℕ). pool_count t ∷ filled (pool_words * pools) l) (flat-tab t pool_words 1 (pool_count t))
      ∙ ap (λ (l : List ℕ). pool_count t ∷ l)
      (filled_up (drop 1 t) (pool_words * pool_count t) (pool_words * pools) (omega (arith, pools_high t fit)) (omega (arith, long, length-drop 1 t))
      (λ i a b. get_or-drop 1 t i 0 ∙ pools_behind t fit (1 + i) (omega (arith, a)) (omega (arith, b)))
      ∙ take_all (pool_words * pools) (drop 1 t) (omega (arith, long, length-drop 1 t)))
      ∙ sym (drop-cons t 0 0 (omega (arith, long)))
