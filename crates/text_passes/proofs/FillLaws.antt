-- The second pass: what it keeps in a table of zeros is the table of the model. Assumes nothing.
use Prim.Native.Nat.{ℕ, zero, suc, ◌+◌, ◌-◌, ◌*◌, ◌≤◌, ◌<◌}
use mathlib.Core.Path.{◌≡◌, refl, sym, ◌∙◌, ap, ap₂}
use mathlib.Core.Bool.{Bool, true, false}
use mathlib.Core.List.{List, [], ◌∷◌, ◌++◌, map, append_assoc, append-nil}
use native.Mathlib.Numerals.{add-one}
use native.Mathlib.Omega.{arith}
use lib.ListN.{length, set, take, drop, get_or, replicate, length-append, length-replicate, length-take, replicate-append-replicate}
use lib.Seq.{take-suc, drop-cons, set_at, set_out, take_all, length-take-le, append_snoc}
use Rattle.base_words.specs.Pick.{if◌then◌or_else◌}
use Rattle.base_words.specs.Words.{at}
use Rattle.base_words.specs.Writes.{writes}
use Rattle.base_words.specs.Counts.{pools, elements}
use Rattle.base_words.proofs.WritesLaws.{length-writes}
use Rattle.base_table.specs.Places.{element_words, pool_words, pools_place, pool_place, limit_place, elements_place, element_place, table_words}
use Rattle.base_bytes.proofs.PieceLaws.{by_order}
use Rattle.check_model.specs.Checks.{Pool}
use Rattle.text_passes.specs.Model.{flat, filled, pool_table, table_of}
use Rattle.text_passes.specs.Passes.{stored, kept_element, kept_all, summed, elements_placed, headed, kept_head, kept_pool}

-- at most m things, each of which is P
pub data AtMost {A : Type 0} (P : A → Type 0) : ℕ → List A → Type 0 where
  none : {m : ℕ} → AtMost P m []
  some : {m : ℕ} {x : A} {xs : List A} → P x → AtMost P m xs → AtMost P (suc m) (x ∷ xs)

abbrev pub Block : List ℕ → Type 0
Block x = length x ≡ element_words

abbrev pub Fits : Pool → Type 0
Fits p = AtMost Block elements p.elements

-- what is stored behind the end of a list is lost, so that a loop may stop there
beyond : (f : ℕ → ℕ) (s : List ℕ) (a n k : ℕ) → length s ≤ a + n → writes f s a (n + k) ≡ writes f s a n
unfolding writes
beyond f s a n zero h = let z : n + 0 ≡ n = omega arith in ap (writes f s a) z
beyond f s a n (suc k) h =
    let z : n + suc k ≡ suc (n + k) = omega arith in
    ap (writes f s a) z ∙ set_out (writes f s a (n + k)) (a + (n + k)) (f (n + k)) (omega (arith, length-writes f s a (n + k))) ∙ beyond f s a n k h

pub writes_whole : (f : ℕ → ℕ) (s : List ℕ) (a m n i : ℕ) (t : List ℕ) → i ≤ m → m ≤ i → m ≤ n → (m < n → length s ≤ a + m) → t ≡ writes f s a i → t ≡ writes f s a n
writes_whole f s a m n i t h k l out e =
    let j : i ≡ m = omega arith in
    e ∙ ap (writes f s a) j ∙ by_order n m (λ q. let z : m ≡ n = omega arith in ap (writes f s a) z)
    (λ q. let z : m + (n - m) ≡ n = omega arith in sym (beyond f s a m (n - m) (out q)) ∙ ap (writes f s a) z)

-- a block x stored over as many words z
module _ (p x z q : List ℕ) (a : ℕ) (e : length p ≡ a) (h : length x ≡ length z) where
  written : (k : ℕ) → k ≤ length z → writes (λ j. at x j) (p ++ (z ++ q)) a k ≡ p ++ (take k x ++ (drop k z ++ q))
  unfolding writes
  written zero l = refl
  written (suc k) l =
      let below : k < length z = omega arith in
      let inside : k < length x = omega arith in
      let seam : length (p ++ take k x) ≡ a + k = length-append p (take k x) ∙ ap₂ ◌+◌ e (length-take-le k x (omega arith)) in
      ap (λ t. set t (a + k) (at x k)) (written k (omega arith) ∙ ap (λ t. p ++ (take k x ++ (t ++ q))) (drop-cons z k 0 below) ∙ sym (append_assoc p (take k x) (at z k ∷ (drop (suc k) z ++ q))))
      ∙ set_at (p ++ take k x) (at z k) (drop (suc k) z ++ q) (at x k) (a + k) seam
      ∙ append_assoc p (take k x) (at x k ∷ (drop (suc k) z ++ q))
      ∙ ap (λ t. p ++ t) (sym (append_assoc (take k x) (at x k ∷ []) (drop (suc k) z ++ q)) ∙ ap (λ t. t ++ (drop (suc k) z ++ q)) (sym (take-suc x k 0 inside)))

  pub block_written : (n : ℕ) → n ≡ length z → writes (λ j. at x j) (p ++ (z ++ q)) a n ≡ p ++ (x ++ q)
  block_written n f =
      ap (writes (λ j. at x j) (p ++ (z ++ q)) a) f ∙ written (length z) (omega arith)
      ∙ ap₂ (λ s t. p ++ (s ++ (t ++ q))) (take_all (length z) x (omega arith)) (drop_none z)
    where
      drop_none : (l : List ℕ) → drop (length l) l ≡ []
      drop_none [] = refl
      drop_none (y ∷ l) = drop_none l

zeros : ℕ → List ℕ
zeros n = replicate n 0

zeros_long : (n : ℕ) → length (zeros n) ≡ n
unfolding zeros
zeros_long n = length-replicate {A = ℕ} n 0

zeros_more : (w n : ℕ) → zeros (w * suc n) ≡ zeros w ++ zeros (w * n)
unfolding zeros
zeros_more w n = let k : w * suc n ≡ w + w * n = omega arith in ap (λ j. replicate j 0) k ∙ sym (replicate-append-replicate w (w * n) 0)

-- ONE ELEMENT, where `done` stands before it in the pool's words
module _ (i n : ℕ) (pre done x post : List ℕ) (a b : ℕ) (ep : length pre ≡ pool_place i) (ed : length done ≡ element_words * n) (ex : Block x) where
  group : (c : ℕ) (r : List ℕ) → pre ++ (a ∷ b ∷ c ∷ (done ++ r)) ≡ (pre ++ (a ∷ b ∷ c ∷ done)) ++ r
  group c r = sym (append_assoc pre (a ∷ b ∷ c ∷ done) r)

  front_long : (c : ℕ) → length (pre ++ (a ∷ b ∷ c ∷ done)) ≡ element_place i n
  front_long c = simp length-append (omega arith)

  counted : (c : ℕ) (r : List ℕ) → set (pre ++ (a ∷ b ∷ c ∷ r)) (elements_place i) (n + 1) ≡ pre ++ (a ∷ b ∷ (n + 1) ∷ r)
  counted c r =
      let l : length (pre ++ (a ∷ b ∷ [])) ≡ elements_place i = simp length-append (omega arith) in
      ap (λ t. set t (elements_place i) (n + 1)) (sym (append_assoc pre (a ∷ b ∷ []) (c ∷ r)))
      ∙ set_at (pre ++ (a ∷ b ∷ [])) c r (n + 1) (elements_place i) l
      ∙ append_assoc pre (a ∷ b ∷ []) ((n + 1) ∷ r)

  one_stored : (c : ℕ) (z : List ℕ) → length z ≡ element_words → stored i n x (pre ++ (a ∷ b ∷ c ∷ (done ++ (z ++ post)))) ≡ pre ++ (a ∷ b ∷ (n + 1) ∷ (done ++ (x ++ post)))
  unfolding stored
  one_stored c z ez =
      ap (λ t. set (writes (λ j. at x j) t (element_place i n) element_words) (elements_place i) (n + 1)) (group c (z ++ post))
      ∙ ap (λ t. set t (elements_place i) (n + 1))
      (block_written (pre ++ (a ∷ b ∷ c ∷ done)) x z post (element_place i n) (front_long c) (ex ∙ sym ez) element_words (sym ez) ∙ sym (group c (x ++ post)))
      ∙ counted c (done ++ (x ++ post))

keep_stores : (i n : ℕ) (x w : List ℕ) → kept_element true i n x w ≡ stored i n x w
unfolding kept_element if◌then◌or_else◌
keep_stores i n x w = refl

-- ALL ELEMENTS of a pool, where m more have room
module _ (i : ℕ) (pre post : List ℕ) (a b : ℕ) (ep : length pre ≡ pool_place i) where
  elements-stored : (m n : ℕ) (els : List (List ℕ)) (done : List ℕ) → AtMost Block m els → length done ≡ element_words * n
      → kept_all (kept_element true i) n els (pre ++ (a ∷ b ∷ n ∷ (done ++ (zeros (element_words * m) ++ post))))
      ≡ pre ++ (a ∷ b ∷ (n + length els) ∷ (done ++ (flat els ++ (zeros (element_words * (m - length els)) ++ post))))
  unfolding kept_all flat
  elements-stored m n [] done none ed =
      let z : n ≡ n + 0 = omega arith in
      let k : m ≡ m - 0 = omega arith in
      ap₂ (λ c l. pre ++ (a ∷ b ∷ c ∷ (done ++ (zeros (element_words * l) ++ post)))) z k
  elements-stored zero n (x ∷ els) done x4 ed = elim x4 [ ]
  elements-stored (suc m) n (x ∷ els) done (some ex rest) ed =
      let long : length (done ++ x) ≡ element_words * (n + 1) = length-append done x ∙ (let z : length done + length x ≡ element_words * (n + 1) = omega arith in z) in
      let count : n + 1 + length els ≡ n + suc (length els) = omega arith in
      let room : m - length els ≡ suc m - suc (length els) = omega arith in
      ap (kept_all (kept_element true i) (n + 1) els)
      (keep_stores i n x (pre ++ (a ∷ b ∷ n ∷ (done ++ (zeros (element_words * suc m) ++ post))))
      ∙ ap (λ t. stored i n x (pre ++ (a ∷ b ∷ n ∷ (done ++ t)))) (ap (λ t. t ++ post) (zeros_more element_words m) ∙ append_assoc (zeros element_words) (zeros (element_words * m)) post)
      ∙ one_stored i n pre done x (zeros (element_words * m) ++ post) a b ep ed ex n (zeros element_words) (zeros_long element_words)
      ∙ ap (λ t. pre ++ (a ∷ b ∷ (n + 1) ∷ t)) (sym (append_assoc done x (zeros (element_words * m) ++ post))))
      ∙ elements-stored m (n + 1) els (done ++ x) rest long
      ∙ ap₂ (λ c t. pre ++ (a ∷ b ∷ c ∷ t)) count
      (append_assoc done x (flat els ++ (zeros (element_words * (m - length els)) ++ post))
      ∙ ap (λ t. done ++ t) (sym (append_assoc x (flat els) (zeros (element_words * (m - length els)) ++ post)) ∙ ap (λ l. (x ++ flat els) ++ (zeros (element_words * l) ++ post)) room))

flat_long : (m w : ℕ) (P : List ℕ → Type 0) → ((x : List ℕ) → P x → length x ≡ w) → (xs : List (List ℕ)) → AtMost P m xs → length (flat xs) ≡ w * length xs
unfolding flat
flat_long m w P h [] none = omega arith
flat_long zero w P h (x ∷ xs) x4 = elim x4 [ ]
flat_long (suc m) w P h (x ∷ xs) (some e rest) =
    length-append x (flat xs)
    ∙ (let z : length x + length (flat xs) ≡ w * suc (length xs) = omega (arith, h x e, flat_long m w P h xs rest) in z)

-- A POOL, stored over the zeros behind those before it
module _ (i : ℕ) (p : Pool) (fits : Fits p) (done post : List ℕ) (ed : length done ≡ pool_words * i) where
  abbrev els : List (List ℕ)
  els = p.elements

  tail : List ℕ
  tail = flat els ++ (zeros (element_words * (elements - length els)) ++ post)

  before_it : (c : ℕ) → length (c ∷ done) ≡ pool_place i
  before_it c = omega arith

  filled_up : tail ≡ filled (element_words * elements) (flat els) ++ post
  unfolding filled zeros tail
  filled_up =
      let k : element_words * (elements - length els) ≡ element_words * elements - length (flat els) = omega (arith, flat_long elements element_words Block (λ x e. e) els fits) in
      ap (λ n. flat els ++ (replicate n 0 ++ post)) k ∙ sym (append_assoc (flat els) (replicate (element_words * elements - length (flat els)) 0) post)

  head_stored : (c : ℕ) (r : List ℕ) → headed i p.number p.limit ((c ∷ done) ++ (0 ∷ 0 ∷ r)) ≡ (i + 1) ∷ (done ++ (p.number ∷ p.limit ∷ r))
  unfolding headed
  head_stored c r =
      let l : length ((c ∷ done) ++ (p.number ∷ [])) ≡ limit_place i = length-append (c ∷ done) (p.number ∷ []) ∙ (let z : suc (length done) + 1 ≡ limit_place i = omega arith in z) in
      ap (λ t. set t pools_place (i + 1))
      (ap (λ t. set t (limit_place i) p.limit)
      (set_at (c ∷ done) 0 (0 ∷ r) p.number (pool_place i) (before_it c) ∙ sym (append_assoc (c ∷ done) (p.number ∷ []) (0 ∷ r)))
      ∙ set_at ((c ∷ done) ++ (p.number ∷ [])) 0 r p.limit (limit_place i) l
      ∙ append_assoc (c ∷ done) (p.number ∷ []) (p.limit ∷ r))

  whole : p.number ∷ p.limit ∷ length els ∷ tail ≡ pool_table p ++ post
  unfolding pool_table
  whole = ap (λ t. p.number ∷ p.limit ∷ length els ∷ t) filled_up

  three : (c : ℕ) → c ∷ (done ++ (zeros pool_words ++ post)) ≡ (c ∷ done) ++ (0 ∷ 0 ∷ 0 ∷ ([] ++ (zeros (element_words * elements) ++ post)))
  unfolding zeros
  three c = refl

  elements_in : (c : ℕ) → kept_all (kept_element true i) 0 els (c ∷ (done ++ (zeros pool_words ++ post))) ≡ (c ∷ done) ++ (0 ∷ 0 ∷ length els ∷ tail)
  unfolding tail
  elements_in c =
      let z : 0 + length els ≡ length els = omega arith in
      ap (kept_all (kept_element true i) 0 els) (three c)
      ∙ elements-stored i (c ∷ done) post 0 0 (before_it c) elements 0 els [] fits refl
      ∙ ap (λ n. (c ∷ done) ++ (0 ∷ 0 ∷ n ∷ (flat els ++ (zeros (element_words * (elements - length els)) ++ post)))) z

  pool_stored : (c : ℕ) → kept_pool true i p (c ∷ (done ++ (zeros pool_words ++ post))) ≡ (i + 1) ∷ (done ++ (pool_table p ++ post))
  unfolding kept_pool kept_head elements_placed if◌then◌or_else◌
  pool_stored c =
      ap (headed i p.number p.limit) (elements_in c)
      ∙ head_stored c (length els ∷ tail)
      ∙ ap (λ t. (i + 1) ∷ (done ++ t)) whole

table_long : (p : Pool) → Fits p → length (pool_table p) ≡ pool_words
unfolding pool_table filled
table_long p fits =
    let f = flat_long elements element_words Block (λ x e. e) p.elements fits in
    let few : length p.elements ≤ elements = at_most elements p.elements fits in
    simp length-append (omega (arith, f, length-replicate {A = ℕ} (element_words * elements - length (flat p.elements)) 0))
  where
    at_most : (m : ℕ) (xs : List (List ℕ)) → AtMost Block m xs → length xs ≤ m
    at_most m [] none = omega arith
    at_most zero (x ∷ xs) x3 = elim x3 [ ]
    at_most (suc m) (x ∷ xs) (some e rest) = omega (arith, at_most m xs rest)

-- ALL POOLS, where m more have room
pools-stored : (m i : ℕ) (ps : List Pool) (done : List ℕ) → AtMost Fits m ps → length done ≡ pool_words * i
    → kept_all (kept_pool true) i ps (i ∷ (done ++ zeros (pool_words * m)))
    ≡ (i + length ps) ∷ (done ++ (flat (map pool_table ps) ++ zeros (pool_words * (m - length ps))))
unfolding kept_all flat
pools-stored m i [] done none ed =
    let z : i ≡ i + 0 = omega arith in
    let k : m ≡ m - 0 = omega arith in
    ap₂ (λ c l. c ∷ (done ++ zeros (pool_words * l))) z k
pools-stored zero i (p ∷ ps) done x3 ed = elim x3 [ ]
pools-stored (suc m) i (p ∷ ps) done (some fits rest) ed =
    let long : length (done ++ pool_table p) ≡ pool_words * (i + 1) = length-append done (pool_table p) ∙ (let z : length done + length (pool_table p) ≡ pool_words * (i + 1) = omega (arith, table_long p fits) in z) in
    let count : i + 1 + length ps ≡ i + suc (length ps) = omega arith in
    let room : m - length ps ≡ suc m - suc (length ps) = omega arith in
    ap (kept_all (kept_pool true) (i + 1) ps)
    (ap (λ t. kept_pool true i p (i ∷ (done ++ t))) (zeros_more pool_words m)
    ∙ pool_stored i p fits done (zeros (pool_words * m)) ed i
    ∙ ap (λ t. (i + 1) ∷ t) (sym (append_assoc done (pool_table p) (zeros (pool_words * m)))))
    ∙ pools-stored m (i + 1) ps (done ++ pool_table p) rest long
    ∙ ap₂ (λ c t. c ∷ t) count
    (append_assoc done (pool_table p) (flat (map pool_table ps) ++ zeros (pool_words * (m - length ps)))
    ∙ ap (λ t. done ++ t)
    (sym (append_assoc (pool_table p) (flat (map pool_table ps)) (zeros (pool_words * (m - length ps))))
    ∙ ap (λ l. (pool_table p ++ flat (map pool_table ps)) ++ zeros (pool_words * l)) room))

pools_long : (m : ℕ) (ps : List Pool) → AtMost Fits m ps → length (flat (map pool_table ps)) ≡ pool_words * length ps
unfolding flat
pools_long m [] none = refl
pools_long zero (p ∷ ps) x3 = elim x3 [ ]
pools_long (suc m) (p ∷ ps) (some fits rest) =
    length-append (pool_table p) (flat (map pool_table ps))
    ∙ (let z : length (pool_table p) + length (flat (map pool_table ps)) ≡ pool_words * suc (length ps) = omega (arith, table_long p fits, pools_long m ps rest) in z)

pub table_filled : (ps : List Pool) (t : List ℕ) → AtMost Fits pools ps → t ≡ replicate table_words 0 → kept_all (kept_pool true) 0 ps t ≡ table_of ps
unfolding table_of filled zeros
table_filled ps t fits e =
    let z : 0 + length ps ≡ length ps = omega arith in
    let k : pool_words * (pools - length ps) ≡ pool_words * pools - length (flat (map pool_table ps)) = omega (arith, pools_long pools ps fits) in
    ap (kept_all (kept_pool true) 0 ps) e
    ∙ pools-stored pools 0 ps [] fits refl
    ∙ ap₂ (λ c n. c ∷ (flat (map pool_table ps) ++ replicate n 0)) z k
