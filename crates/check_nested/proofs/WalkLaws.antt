-- Laws of a walk, as the code goes it. Assumes nothing.
use Prim.Native.Nat.{ℕ, zero, suc, ◌+◌, ◌-◌, ◌≤◌, ◌<◌}
use mathlib.Core.Path.{◌≡◌, refl, sym, ◌∙◌, ap, ap₂}
use mathlib.Core.Bool.{Bool, true, false, not, ◌&&◌, ◌||◌, false≢true}
use mathlib.Core.List.{List, [], ◌∷◌, ◌++◌, append-nil, append_assoc}
use native.Mathlib.Omega.{arith}
use lib.Dec.{eqb, ltb}
use lib.ListN.{replicate}
use borrow.Author.Tests.{lt-ltb, le-ltb}
use Rattle.base_words.specs.Counts.{edges}
use Rattle.base_words.specs.Each.{tab}
use Rattle.base_words.specs.Pick.{if◌then◌or_else◌}
use Rattle.base_words.proofs.EachLaws.{tab_more}
use Rattle.base_kinds.specs.Kinds.{event_based, and_split, and_join, xor_join, xor_split}
use Rattle.base_table.specs.Table.{exit_at, kind_in}
use Rattle.check_tally.specs.Tally.{marked, tally}
use Rattle.check_tally.proofs.TallyLaws.{tally_append}
use Rattle.check_nesting.specs.Nesting.{passes, exits_of, closes_all, closes_one, closes}
use Rattle.check_nested.specs.Splits.{splits}
use Rattle.check_nesting.specs.Deciding.{taker, edges_in, SequenceWalk, halted, walked_over, stops, elements_passed, last_in, is_block, closing_join, join_of, ahead, sequence_walk}

taken : {A : Type 0} (b : Bool) (x y : A) → b ≡ true → (if b then x or_else y) ≡ x
unfolding if◌then◌or_else◌
taken b x y e = rw e

left : {A : Type 0} (b : Bool) (x y : A) → b ≡ false → (if b then x or_else y) ≡ y
unfolding if◌then◌or_else◌
left b x y e = rw e

-- what a walk that is known stops at, and what it meets
stopped : (w v : SequenceWalk) → w ≡ v → (r : ℕ) → r ≡ v.stop → r ≡ w.stop
stopped w v e r q = q ∙ sym (ap (λ (w : SequenceWalk). w.stop) e)

met : (s u : List ℕ) (w v : SequenceWalk) → w ≡ v → u ≡ tally s v.on → u ≡ tally s w.on
met s u w v e q = q ∙ ap (λ (w : SequenceWalk). tally s w.on) (sym e)

-- what opens no block is closed by nothing
not_closed : (el join : List ℕ) → splits el ≡ false → closes el join ≡ false
unfolding splits closes closes_all closes_one
not_closed el join h =
    go (eqb (kind_in el) and_split) (eqb (kind_in el) xor_split) (eqb (kind_in el) event_based) (eqb (kind_in join) and_join) (eqb (kind_in join) xor_join) h
  where
    go : (a x e j o : Bool) → a || (x || e) ≡ false → (a && j) || ((x || e) && o) ≡ false
    go true x e j o h = absurd (false≢true (sym h))
    go false true e j o h = absurd (false≢true (sym h))
    go false false true j o h = absurd (false≢true (sym h))
    go false false false j o h = refl

module _ (P : ℕ → List ℕ) (c : ℕ) where
  not_block : (s : List ℕ) (k j : ℕ) → splits (P k) ≡ false → is_block P c s k j ≡ false
  unfolding is_block
  not_block s k j h = go (ltb j c) (closes (P k) (P j)) _ (not_closed (P k) (P j) h)
    where
      go : (a b d : Bool) → b ≡ false → a && (b && d) ≡ false
      go false b d e = refl
      go true b d e = rw e

  pub no_join : (go : ℕ → SequenceWalk) (k : ℕ) (b : Bool) (r : ℕ) → b ≡ splits (P k) → not b ≡ true → r ≡ c → r ≡ join_of P c go k
  unfolding join_of closing_join
  no_join go k b r e h q = q ∙ sym (left (is_block P c _ k _) _ _ (not_block _ k _ (sym e ∙ off b h)))
    where
      off : (b : Bool) → not b ≡ true → b ≡ false
      off true h = absurd (false≢true h)
      off false h = refl

  -- FROM AN EDGE: m is how many elements there are
  module _ (n a : ℕ) where
    walk_none : n ≡ 0 → sequence_walk P c n a ≡ halted a
    unfolding sequence_walk
    walk_none e = rw e

    pub stop_none : n ≡ 0 → a ≡ (sequence_walk P c n a).stop
    stop_none e = stopped _ _ (walk_none e) a refl

    pub way_nothing : (s : List ℕ) → n ≡ 0 → s ≡ tally s (sequence_walk P c n a).on
    unfolding tally
    way_nothing s e = met s s _ _ (walk_none e) refl

  walk_next : (n a : ℕ) → (n ≡ 0 → ⊥) → sequence_walk P c n a ≡ (if ltb (taker P c a) c then ahead P c (sequence_walk P c (n - 1)) a (taker P c a) or_else halted a)
  unfolding sequence_walk
  walk_next zero a h = absurd (h refl)
  walk_next (suc n) a h = let e : n ≡ suc n - 1 = omega arith in ap (λ m. if ltb (taker P c a) c then ahead P c (sequence_walk P c m) a (taker P c a) or_else halted a) e

  module _ (n a k m : ℕ) (some : n ≡ 0 → ⊥) (takes : k ≡ taker P c a) (many : m ≡ c) where
    walk_halted : m ≤ k → sequence_walk P c n a ≡ halted a
    walk_halted l = walk_next n a some ∙ left (ltb (taker P c a) c) _ _ (le-ltb (taker P c a) c (omega (arith, takes, many, l)))

    walk_ahead : k < m → sequence_walk P c n a ≡ ahead P c (sequence_walk P c (n - 1)) a k
    walk_ahead l =
        walk_next n a some ∙ taken (ltb (taker P c a) c) _ _ (lt-ltb (taker P c a) c (omega (arith, takes, many, l))) ∙ ap (ahead P c (sequence_walk P c (n - 1)) a) (sym takes)

    pub stop_halted : m ≤ k → a ≡ (sequence_walk P c n a).stop
    stop_halted l = stopped _ _ (walk_halted l) a refl

    pub stop_ahead : k < m → (r : ℕ) → r ≡ (ahead P c (sequence_walk P c (n - 1)) a k).stop → r ≡ (sequence_walk P c n a).stop
    stop_ahead l r e = stopped _ _ (walk_ahead l) r e

    pub way_halted : (s : List ℕ) → m ≤ k → s ≡ tally s (sequence_walk P c n a).on
    unfolding tally
    way_halted s l = met s s _ _ (walk_halted l) refl

    pub way_ahead : (s u : List ℕ) → k < m → u ≡ tally s (ahead P c (sequence_walk P c (n - 1)) a k).on → u ≡ tally s (sequence_walk P c n a).on
    way_ahead s u l e = met s u _ _ (walk_ahead l) e

  -- BY AN ELEMENT that is passed
  module _ (go : ℕ → SequenceWalk) (a k : ℕ) (b : Bool) (told : b ≡ passes (P k)) where
    ahead_passed : b ≡ true → ahead P c go a k ≡ walked_over (k ∷ []) (go (exit_at (P k) 0))
    unfolding ahead
    ahead_passed h = taken (passes (P k)) _ _ (sym told ∙ h)

    pub stop_passed : b ≡ true → (x r : ℕ) → x ≡ exit_at (P k) 0 → r ≡ (go x).stop → r ≡ (ahead P c go a k).stop
    stop_passed h x r e q = stopped _ _ (ahead_passed h) r (q ∙ ap (λ x. (go x).stop) e)

    pub way_passed : b ≡ true → (x : ℕ) (s t u : List ℕ) → x ≡ exit_at (P k) 0 → t ≡ marked s k → u ≡ tally t (go x).on → u ≡ tally s (ahead P c go a k).on
    unfolding tally
    way_passed h x s t u e p q = met s u _ _ (ahead_passed h) (q ∙ ap₂ (λ (t : List ℕ) (x : ℕ). tally t (go x).on) p e)

    -- BY A SPLIT: j is the join that closes it, m how many elements there are
    module _ (j m : ℕ) (joins : j ≡ join_of P c go k) (many : m ≡ c) where
      ahead_block : b ≡ false → j < m → ahead P c go a k ≡ walked_over (k ∷ j ∷ elements_passed go (exits_of (P k))) (go (exit_at (P j) 0))
      unfolding ahead
      ahead_block h l =
          left (passes (P k)) _ _ (sym told ∙ h)
          ∙ taken (ltb (join_of P c go k) c) _ _ (lt-ltb (join_of P c go k) c (omega (arith, joins, many, l)))
          ∙ ap (λ j. walked_over (k ∷ j ∷ elements_passed go (exits_of (P k))) (go (exit_at (P j) 0))) (sym joins)

      ahead_open : b ≡ false → m ≤ j → ahead P c go a k ≡ halted a
      unfolding ahead
      ahead_open h l = left (passes (P k)) _ _ (sym told ∙ h) ∙ left (ltb (join_of P c go k) c) _ _ (le-ltb (join_of P c go k) c (omega (arith, joins, many, l)))

      pub stop_block : b ≡ false → j < m → (x r : ℕ) → x ≡ exit_at (P j) 0 → r ≡ (go x).stop → r ≡ (ahead P c go a k).stop
      stop_block h l x r e q = stopped _ _ (ahead_block h l) r (q ∙ ap (λ x. (go x).stop) e)

      pub stop_open : b ≡ false → m ≤ j → a ≡ (ahead P c go a k).stop
      stop_open h l = stopped _ _ (ahead_open h l) a refl

      pub way_block : b ≡ false → j < m → (s u : List ℕ) → u ≡ tally s (k ∷ j ∷ (elements_passed go (exits_of (P k)) ++ (go (exit_at (P j) 0)).on)) → u ≡ tally s (ahead P c go a k).on
      way_block h l s u e = met s u _ _ (ahead_block h l) e

      pub way_open : b ≡ false → m ≤ j → (s : List ℕ) → s ≡ tally s (ahead P c go a k).on
      unfolding tally
      way_open h l s = met s s _ _ (ahead_open h l) refl

  pub join_is : (go : ℕ → SequenceWalk) (k a r : ℕ) (s : List ℕ) → a ≡ last_in (stops go (exits_of (P k))) → s ≡ tally (replicate (edges + 1) 0) (stops go (exits_of (P k))) → r ≡ closing_join P c k a s → r ≡ join_of P c go k
  unfolding join_of edges_in
  join_is go k a r s e f q = q ∙ ap₂ (closing_join P c k) e f

-- SIDE BY SIDE, one more
module _ (go : ℕ → SequenceWalk) (f : ℕ → ℕ) where
  stops_append : (xs : List ℕ) (x : ℕ) → stops go (xs ++ (x ∷ [])) ≡ stops go xs ++ ((go x).stop ∷ [])
  unfolding stops
  stops_append [] x = refl
  stops_append (y ∷ ys) x = ap (λ (l : List ℕ). (go y).stop ∷ l) (stops_append ys x)

  stops_more : (n : ℕ) → stops go (tab f (n + 1)) ≡ stops go (tab f n) ++ ((go (f n)).stop ∷ [])
  stops_more n = ap (stops go) (tab_more f n) ∙ stops_append (tab f n) (f n)

  passed_append : (xs : List ℕ) (x : ℕ) → elements_passed go (xs ++ (x ∷ [])) ≡ elements_passed go xs ++ (go x).on
  unfolding elements_passed
  passed_append [] x = append-nil (go x).on
  passed_append (y ∷ ys) x = ap (λ (l : List ℕ). (go y).on ++ l) (passed_append ys x) ∙ sym (append_assoc (go y).on (elements_passed go ys) (go x).on)

  passed_more : (n : ℕ) → elements_passed go (tab f (n + 1)) ≡ elements_passed go (tab f n) ++ (go (f n)).on
  passed_more n = ap (elements_passed go) (tab_more f n) ∙ passed_append (tab f n) (f n)

  -- the last of them
  last_append : (xs : List ℕ) (x : ℕ) → last_in (xs ++ (x ∷ [])) ≡ x
  unfolding last_in
  last_append [] x = refl
  last_append (y ∷ []) x = refl
  last_append (y ∷ z ∷ zs) x = last_append (z ∷ zs) x

  pub last_none : 0 ≡ last_in (stops go (tab f 0))
  unfolding stops last_in tab
  last_none = refl

  pub last_more : (n r : ℕ) → r ≡ (go (f n)).stop → r ≡ last_in (stops go (tab f (n + 1)))
  last_more n r e = e ∙ sym (last_append (stops go (tab f n)) (go (f n)).stop) ∙ ap last_in (sym (stops_more n))

  -- and all of them told by a tally
  module _ (s : List ℕ) where
    pub marked_none : s ≡ tally s (stops go (tab f 0))
    unfolding stops tally tab
    marked_none = refl

    pub marked_more : (n r : ℕ) (t u : List ℕ) → t ≡ tally s (stops go (tab f n)) → r ≡ (go (f n)).stop → u ≡ marked t r → u ≡ tally s (stops go (tab f (n + 1)))
    unfolding tally
    marked_more n r t u p e q =
        q ∙ ap₂ marked p e ∙ sym (tally_append s (stops go (tab f n)) ((go (f n)).stop ∷ [])) ∙ ap (tally s) (sym (stops_more n))

    pub way_none : s ≡ tally s (elements_passed go (tab f 0))
    unfolding elements_passed tally tab
    way_none = refl

    pub way_more : (n : ℕ) (t u : List ℕ) → t ≡ tally s (elements_passed go (tab f n)) → u ≡ tally t (go (f n)).on → u ≡ tally s (elements_passed go (tab f (n + 1)))
    way_more n t u p q = q ∙ ap (λ (t : List ℕ). tally t (go (f n)).on) p ∙ sym (tally_append s (elements_passed go (tab f n)) (go (f n)).on) ∙ ap (tally s) (sym (passed_more n))

-- all of them, where m is how many there are
module _ (go : ℕ → SequenceWalk) (f : ℕ → ℕ) (n i m : ℕ) (many : m ≡ n) (up : m ≤ i) (most : i ≤ m) where
  all_done : n ≡ i
  all_done = omega (arith, many, up, most)

  pub last_done : (a : ℕ) → a ≡ last_in (stops go (tab f i)) → a ≡ last_in (stops go (tab f n))
  last_done a e = rw all_done e

  pub marked_done : (s t : List ℕ) → t ≡ tally s (stops go (tab f i)) → t ≡ tally s (stops go (tab f n))
  marked_done s t e = rw all_done e

  pub way_done : (s t : List ℕ) → t ≡ tally s (elements_passed go (tab f i)) → t ≡ tally s (elements_passed go (tab f n))
  way_done s t e = rw all_done e

-- a block on the way: its split, its join, what is met between and behind
pub way_through : (go : ℕ → SequenceWalk) (s t v w u : List ℕ) (k j x y : ℕ) (is : List ℕ) → x ≡ y → t ≡ marked s k → v ≡ marked t j → w ≡ tally v is → u ≡ tally w (go x).on → u ≡ tally s (k ∷ j ∷ (is ++ (go y).on))
unfolding tally
way_through go s t v w u k j x y is q e f g h =
    h ∙ ap₂ (λ (w : List ℕ) (x : ℕ). tally w (go x).on) g q ∙ sym (tally_append v is (go y).on) ∙ ap (λ (v : List ℕ). tally v (is ++ (go y).on)) (f ∙ ap (λ (t : List ℕ). marked t j) e)
