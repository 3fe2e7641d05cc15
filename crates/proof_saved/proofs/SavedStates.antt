-- A SAVED STATE GOES ON: a state that fits the table of a model as its text says it fits the table of the model as it is rewritten, since the edges are some more and the new ones carry no token. Assumes nothing.
use Prim.Native.Nat.{ℕ, zero, suc, ◌+◌, ◌≤◌, ◌<◌}
use mathlib.Core.Path.{◌≡◌, refl, sym, ◌∙◌, ap, ap₂, subst}
use mathlib.Core.Bool.{Bool, true, false, ◌&&◌, false≢true}
use mathlib.Core.List.{List, [], ◌∷◌, ◌++◌, map}
use native.Mathlib.Omega.{arith}
use lib.Dec.{eqb, leb, ltb}
use lib.ListN.{length, set, take, get_or, replicate, length-set, length-replicate, length-map}
use lib.Seq.{get_or-take, get_or-set_same, get_or-set_other}
use borrow.Author.Tests.{eqb-true, eqb-false, eq-eqb, lt-ltb, ltb-true, ltb-false, leb-true, leb-false}
use Rattle.base_words.specs.All.{all}
use Rattle.base_words.specs.Counts.{pools, names, branches, edges}
use Rattle.base_words.specs.Each.{total, each, tab}
use Rattle.base_words.specs.Iter.{iter}
use Rattle.base_words.specs.Pick.{if◌then◌or_else◌}
use Rattle.base_words.specs.Seek.{seek}
use Rattle.base_words.specs.Sum.{sum, hit, one_if}
use Rattle.base_words.specs.Words.{at}
use Rattle.base_words.proofs.AllLaws.{all_at, all_of, and_left, and_right}
use Rattle.base_words.proofs.EachLaws.{total_append, total-tab}
use Rattle.base_words.proofs.ListLaws.{length-tab, get_d_tab}
use Rattle.base_words.proofs.PickLaws.{and_true}
use Rattle.base_words.proofs.SeekLaws.{sought}
use Rattle.base_words.proofs.SumLaws.{sum_ext, sum-zero}
use Rattle.base_kinds.specs.Kinds.{kind_of, used, start, end_snd, inter_snd}
use Rattle.base_kinds.specs.Moves.{a}
use Rattle.base_table.specs.Places.{kind_place, task_place, mode_place, entries_place, exits_place, edge_place, limit_place, element_words}
use Rattle.base_table.specs.Table.{pool_count, element_count, element_at, limit_of, kind_in, task_in, mode_in, entry_count, exit_count, entry_at, exit_at}
use Rattle.base_state.specs.Places.{token_place, defined_place}
use Rattle.base_state.specs.Instances.{made_count, instance_at}
use Rattle.check_tally.specs.Tally.{count}
use Rattle.check_occurrences.specs.Occurrences.{of_kind}
use Rattle.check_model.specs.Checks.{Pool}
use Rattle.state_fits.specs.Fits.{is_start, start_place, has_start, made_fits, count_places, places_of, all_marked, usable, place_fits, instance_fits, fields_fit, instances_fit, shared_fits, queue_fits, state_fits}
use Rattle.text_ends.specs.Rewriting.{is_end_snd, sending_to, end_of, first_end, lowest_unused, treated, end_sends, all_treated, rewritten, unused_count, room_for, has_room}
use Rattle.text_ends.proofs.RewriteLaws.{each_places, found, is_end, treated-total}
use Rattle.text_passes.specs.Model.{no_pool}
use Rattle.text_read.specs.Notation.{table_of}
use Rattle.proof_steps.proofs.Choices.{chosen}
use Rattle.proof_steps.proofs.PoolFits.{PoolFit, pool_parts, pool_back}
use Rattle.proof_roundtrip.proofs.EndModels.{Every, every_in, Right, Fit, Model}
use Rattle.proof_roundtrip.proofs.EndSends.{was, kind_is, exit_is, other}
use Rattle.proof_roundtrip.proofs.EndCounts.{entries_few, exits_few}
use Rattle.proof_roundtrip.proofs.Turns.{Turned, after, turned_by}
use Rattle.proof_roundtrip.proofs.Rewritten.{all_right_lem, rewritten_fits}
use Rattle.proof_roundtrip.specs.Blocks.{words_at, block_at, blocks_of}
use Rattle.proof_roundtrip.proofs.TableLaws.{tab_ext}
use Rattle.proof_roundtrip.proofs.ReadTables.{blocks_are}

-- THE PLACES THAT AN ELEMENT LETS AN INSTANCE USE: how often the place k is among them
abbrev placed : ℕ → List ℕ → ℕ
placed k el = count k (places_of el)

marked_at : (k : ℕ) (w ks : List ℕ) → k < length w → at w k ≤ 1 → at (all_marked w ks) k ≡ one_if (ltb 0 (at w k + count k ks))
unfolding all_marked total
marked_at k w [] l h = go (at w k) h
  where
    go : (n : ℕ) → n ≤ 1 → n ≡ one_if (ltb 0 (n + 0))
    go zero h = refl
    go (suc zero) h = refl
    go (suc (suc n)) h = absurd (omega (arith, h))
marked_at k w (x ∷ ks) l h = go (eqb x k) refl (marked_at k (set w x 1) ks (omega (arith, l, length-set w x 1)))
  where
    go : (b : Bool) → eqb x k ≡ b → (at (set w x 1) k ≤ 1 → at (all_marked (set w x 1) ks) k ≡ one_if (ltb 0 (at (set w x 1) k + count k ks))) → at (all_marked (set w x 1) ks) k ≡ one_if (ltb 0 (at w k + (one_if b + count k ks)))
    go true e more =
        let q : at (set w x 1) k ≡ 1 = subst (λ y. at (set w y 1) k ≡ 1) (sym (eqb-true x k e)) (get_or-set_same w k 1 0 l) in
        more (omega (arith, q))
        ∙ ap one_if (lt-ltb 0 (at (set w x 1) k + count k ks) (omega (arith, q)) ∙ sym (lt-ltb 0 (at w k + (1 + count k ks)) (omega arith)))
    go false e more =
        let q : at (set w x 1) k ≡ at w k = get_or-set_other w x k 1 0 (λ z. eqb-false x k e (sym z)) in
        more (omega (arith, q, h)) ∙ ap (λ n. one_if (ltb 0 (n + count k ks))) q ∙ ap (λ n. one_if (ltb 0 (at w k + n))) (let z : count k ks ≡ 0 + count k ks = omega arith in z)

length_marked : (w ks : List ℕ) → length (all_marked w ks) ≡ length w
unfolding all_marked
length_marked w [] = refl
length_marked w (k ∷ ks) = length_marked (set w k 1) ks ∙ length-set w k 1

module _ (g : ℕ → List ℕ) (k : ℕ) (l : k < defined_place 0) where
  abbrev uses : ℕ → List ℕ
  uses n = iter (λ e w. all_marked w (g e)) (replicate (defined_place 0) 0) n

  uses_long : (n : ℕ) → length (uses n) ≡ defined_place 0
  unfolding iter
  uses_long zero = length-replicate {A = ℕ} (defined_place 0) 0
  uses_long (suc n) = length_marked (uses n) (g n) ∙ uses_long n

  small : (b : Bool) → one_if b ≤ 1
  small true = omega arith
  small false = omega arith

  used-at : (n : ℕ) → at (uses n) k ≡ one_if (ltb 0 (sum (λ e. count k (g e)) n))
  unfolding iter sum
  used-at zero = zeros (defined_place 0) k
    where
      zeros : (n k : ℕ) → ◌≡◌ {A = ℕ} (get_or (replicate n 0) k 0) 0
      zeros zero k = refl
      zeros (suc n) zero = refl
      zeros (suc n) (suc k) = zeros n k
  used-at (suc n) =
      let so = used-at n in
      marked_at k (uses n) (g n) (omega (arith, l, uses_long n)) (omega (arith, so, small (ltb 0 (sum (λ e. count k (g e)) n))))
      ∙ ap (λ m. one_if (ltb 0 (m + count k (g n)))) so
      ∙ ap one_if (more (sum (λ e. count k (g e)) n) (count k (g n)))
    where
      more : (s c : ℕ) → ltb 0 (one_if (ltb 0 s) + c) ≡ ltb 0 (s + c)
      more zero c = refl
      more (suc s) c = lt-ltb 0 (one_if (ltb 0 (suc s)) + c) (let q : ltb 0 (suc s) ≡ true = lt-ltb 0 (suc s) (omega arith) in subst (λ b. 0 < one_if b + c) (sym q) (omega arith)) ∙ sym (lt-ltb 0 (suc s + c) (omega arith))

some_of : (f : ℕ → Bool) (n j : ℕ) → j < n → f j ≡ true → 0 < sum (λ e. one_if (f e)) n
unfolding sum
some_of f zero j l h = absurd (omega (arith, l))
some_of f (suc n) j l h = go (eqb j n) refl (λ m. some_of f n j m h)
  where
    go : (b : Bool) → eqb j n ≡ b → (j < n → 0 < sum (λ e. one_if (f e)) n) → 0 < sum (λ e. one_if (f e)) n + one_if (f n)
    go true e more = let q : one_if (f n) ≡ 1 = ap one_if (ap f (sym (eqb-true j n e)) ∙ h) in omega (arith, q)
    go false e more = let q = eqb-false j n e in omega (arith, more (omega (arith, l, q)))

-- A POOL OF A TABLE, by the elements of its block
module _ (t : List ℕ) (p : ℕ) (every : Every Right (block_at t p).elements) where
  right_at : (e : ℕ) → e < element_count t p → Right (words_at t p e)
  unfolding block_at
  right_at e l = subst Right (get_d_tab (words_at t p) (element_count t p) e [] l) (every_in Right (tab (words_at t p) (element_count t p)) [] e every (omega (arith, l, length-tab (words_at t p) (element_count t p))))

  module _ (e : ℕ) (l : e < element_count t p) where
    abbrev x : List ℕ
    x = element_at t p e

    abbrev y : List ℕ
    y = words_at t p e

    cut : (i : ℕ) → i < element_words → at y i ≡ at x i
    cut i h = get_or-take element_words x i 0 h

    entries_cut : entry_count y ≡ entry_count x
    unfolding entry_count
    entries_cut = ap₂ (λ k n. used (kind_of k).entries n) (cut kind_place (omega arith)) (cut entries_place (omega arith))

    exits_cut : exit_count y ≡ exit_count x
    unfolding exit_count
    exits_cut = ap₂ (λ k n. used (kind_of k).exits n) (cut kind_place (omega arith)) (cut exits_place (omega arith))

    counts_cut : count_places y ≡ count_places x
    unfolding count_places
    counts_cut = rw (cut kind_place (omega arith), cut mode_place (omega arith), cut task_place (omega arith))

    pub places_cut : places_of x ≡ places_of y
    unfolding places_of
    places_cut =
        let r = right_at e l in
        sym (
        ap₂ ◌++◌
        (tab_ext (λ j. token_place (entry_at y j)) (λ j. token_place (entry_at x j)) (entry_count y) (λ j h. ap token_place (cut (edge_place entries_place j) (omega (arith, h, entries_few y r)))) ∙ ap (tab (λ j. token_place (entry_at x j))) entries_cut)
        (ap₂ ◌++◌
        (tab_ext (λ j. token_place (exit_at y j)) (λ j. token_place (exit_at x j)) (exit_count y) (λ j h. ap token_place (cut (edge_place exits_place j) (omega (arith, h, exits_few y r)))) ∙ ap (tab (λ j. token_place (exit_at x j))) exits_cut)
        counts_cut)
        )

  pub usable_at : (k : ℕ) → k < defined_place 0 → at (usable t p) k ≡ one_if (ltb 0 (total (placed k) (block_at t p).elements))
  unfolding usable block_at
  usable_at k l =
      used-at (λ e. places_of (element_at t p e)) k l (element_count t p)
      ∙ ap (λ n. one_if (ltb 0 n)) (sum_ext _ (λ e. placed k (words_at t p e)) (element_count t p) (λ e h. ap (count k) (places_cut e h)) ∙ sym (total-tab (placed k) (words_at t p) (element_count t p)))

  pub starts_by : has_start t p ≡ ltb 0 (total (of_kind start) (block_at t p).elements)
  unfolding has_start start_place is_start of_kind block_at
  starts_by =
      go (ltb (seek (λ e. eqb (kind_in (element_at t p e)) start) (element_count t p)) (element_count t p)) refl
      ∙ ap (ltb 0) (sym (total-tab (λ el. hit (kind_in el) start) (words_at t p) (element_count t p) ∙ sum_ext _ _ (element_count t p) (λ e h. ap (λ k. hit k start) (get_or-take element_words (element_at t p e) kind_place 0 (omega arith)))))
    where
      f : ℕ → Bool
      f e = eqb (kind_in (element_at t p e)) start

      go : (b : Bool) → ltb (seek f (element_count t p)) (element_count t p) ≡ b → b ≡ ltb 0 (sum (λ e. one_if (f e)) (element_count t p))
      go true e = let l = ltb-true (seek f (element_count t p)) (element_count t p) e in sym (lt-ltb 0 _ (some_of f (element_count t p) (seek f (element_count t p)) l ((sought f (element_count t p)).1 l)))
      go false e =
          let l = ltb-false (seek f (element_count t p)) (element_count t p) e in
          sym (ap (ltb 0) (sum-zero (λ e. one_if (f e)) (element_count t p) (λ k h. ap one_if ((sought f (element_count t p)).2 k (omega (arith, h, l))))))

-- THE REWRITTEN POOL lets an instance use what the pool lets it use
module _ (x : List ℕ) (r : Right x) (is : is_end_snd x ≡ true) (f k : ℕ) where
  abbrev send : List ℕ
  send = sending_to f x

  entries_of : tab (λ j. token_place (entry_at send j)) (entry_count send) ≡ tab (λ j. token_place (entry_at x j)) (entry_count x)
  unfolding entry_count kind_of used if◌then◌or_else◌
  entries_of =
      ap (λ c. tab (λ j. token_place (entry_at send j)) (used (kind_of c).entries (at send entries_place))) (kind_is x r is f)
      ∙ tab_ext (λ j. token_place (entry_at send j)) (λ j. token_place (entry_at x j)) 1 (λ j l. ap token_place (other x r is f (edge_place entries_place j) (λ e. omega arith) (λ e. omega arith) (λ e. omega arith)))
      ∙ sym (ap (λ c. tab (λ j. token_place (entry_at x j)) (used (kind_of c).entries (at x entries_place))) (was x r is f))

  no_exit : tab (λ j. token_place (exit_at x j)) (exit_count x) ≡ []
  unfolding exit_count kind_of used if◌then◌or_else◌ tab
  no_exit = ap (λ c. tab (λ j. token_place (exit_at x j)) (used (kind_of c).exits (at x exits_place))) (was x r is f)

  counts_of : count_places send ≡ count_places x
  unfolding count_places kind_of
  counts_of =
      rw (kind_is x r is f, was x r is f, other x r is f mode_place (λ e. omega arith) (λ e. omega arith) (λ e. omega arith), other x r is f task_place (λ e. omega arith) (λ e. omega arith) (λ e. omega arith))

  pub send_uses : placed k x ≤ placed k send
  unfolding places_of
  send_uses =
      let hits : List ℕ → ℕ = total (λ j. hit j k) in
      let en : List ℕ = tab (λ j. token_place (entry_at x j)) (entry_count x) in
      let ex : List ℕ = tab (λ j. token_place (exit_at send j)) (exit_count send) in
      let a = total_append (λ j. hit j k) en (tab (λ j. token_place (exit_at x j)) (exit_count x) ++ count_places x) in
      let b : hits (tab (λ j. token_place (exit_at x j)) (exit_count x) ++ count_places x) ≡ hits (count_places x) = ap (λ l. hits (l ++ count_places x)) no_exit in
      let c = total_append (λ j. hit j k) (tab (λ j. token_place (entry_at send j)) (entry_count send)) (ex ++ count_places send) in
      let d = total_append (λ j. hit j k) ex (count_places send) in
      let e : hits (tab (λ j. token_place (entry_at send j)) (entry_count send)) ≡ hits en = ap hits entries_of in
      let g : hits (count_places send) ≡ hits (count_places x) = ap hits counts_of in
      omega (arith, a, b, c, d, e, g)

module _ (els : List (List ℕ)) (every : Every Right els) (room : end_sends els ≤ unused_count els) (k : ℕ) where
  one_uses : (b : List (List ℕ)) → Every Right b → 0 < end_sends b → total (placed k) b ≤ total (placed k) (treated b)
  one_uses b right some =
      let x = every_in Right b [] (first_end b) right (found b some) in
      omega (arith, treated-total b some x.long (placed k), send_uses (get_or b (first_end b) []) x (is_end b some) (lowest_unused b) k)

  all_uses : (n : ℕ) → n ≤ end_sends els → total (placed k) els ≤ total (placed k) (after els n)
  unfolding iter
  all_uses zero h = omega arith
  all_uses (suc n) h =
      let t = turned_by els every room n (omega arith) in
      omega (arith, all_uses n (omega arith), one_uses (after els n) t.every (omega (arith, t.ends)))

module _ (p : Pool) (every : Every Right p.elements) (room : has_room p ≡ true) where
  enough : end_sends p.elements ≤ unused_count p.elements
  unfolding has_room room_for
  enough = leb-true (end_sends p.elements) (unused_count p.elements) (and_left (leb (end_sends p.elements) (unused_count p.elements)) _ room)

  pub uses_more : (k : ℕ) → total (placed k) p.elements ≤ total (placed k) (rewritten p).elements
  unfolding rewritten all_treated
  uses_more k = all_uses p.elements every enough k (end_sends p.elements) (omega arith)

  pub starts_same : total (of_kind start) (rewritten p).elements ≡ total (of_kind start) p.elements
  unfolding rewritten all_treated
  starts_same = (turned_by p.elements every enough (end_sends p.elements) (omega arith)).alike.starts start (omega arith)

-- AN INSTANCE whose places may be used
instance_more : (u w h : List ℕ) → ((k : ℕ) → k < defined_place 0 → at u k ≡ 1 → at w k ≡ 1) → instance_fits u h ≡ true → instance_fits w h ≡ true
unfolding instance_fits
instance_more u w h more e =
    let places = and_left (all (place_fits u h) (defined_place 0)) _ e in
    and_true (all (place_fits w h) (defined_place 0)) _
    (all_of (place_fits w h) (defined_place 0) (λ k l. one k l (all_at (place_fits u h) (defined_place 0) places k l)))
    (and_right (all (place_fits u h) (defined_place 0)) _ e)
  where
    one : (k : ℕ) → k < defined_place 0 → place_fits u h k ≡ true → place_fits w h k ≡ true
    one k l e = unfold place_fits in go (eqb (at h k) 0) (unfold place_fits in e)
      where
        go : (b : Bool) → (if b then true or_else eqb (at u k) 1 && leb (at h k) 255) ≡ true → (if b then true or_else eqb (at w k) 1 && leb (at h k) 255) ≡ true
        go true e = unfold if◌then◌or_else◌ in refl
        go false e =
            unfold if◌then◌or_else◌ in
            let q : eqb (at u k) 1 && leb (at h k) 255 ≡ true = unfold if◌then◌or_else◌ in e in
            and_true (eqb (at w k) 1) (leb (at h k) 255) (eq-eqb (at w k) 1 (more k l (eqb-true (at u k) 1 (and_left (eqb (at u k) 1) _ q)))) (and_right (eqb (at u k) 1) _ q)

-- THE STATE
module _ (ps : List Pool) (m : Model ps) (room : each has_room ps ≡ true) where
  abbrev t : List ℕ
  t = table_of ps

  abbrev t' : List ℕ
  t' = table_of (map rewritten ps)

  pub counts : pool_count t ≡ length ps
  unfolding table_of
  counts = refl

  pub counts' : pool_count t' ≡ length ps
  unfolding table_of
  counts' = length-map ps rewritten

  block : (qs : List Pool) → Model qs → (p : ℕ) → p < length qs → block_at (table_of qs) p ≡ get_or qs p no_pool
  unfolding blocks_of
  block qs f p l =
      let n : pool_count (table_of qs) ≡ length qs = unfold table_of in refl in
      sym (get_d_tab (block_at (table_of qs)) (pool_count (table_of qs)) p no_pool (omega (arith, l, n))) ∙ ap (λ (b : List Pool). get_or b p no_pool) (blocks_are qs f)

  module _ (p : ℕ) (l : p < length ps) where
    abbrev q : Pool
    q = get_or ps p no_pool

    pub fit : Fit q
    fit = every_in Fit ps no_pool p m.every l

    pub has : has_room q ≡ true
    has = all_at (λ j. has_room (get_or ps j no_pool)) (length ps) (sym (each_places has_room ps no_pool) ∙ room) p l

    mapped : (qs : List Pool) (j : ℕ) → j < length qs → get_or (map rewritten qs) j no_pool ≡ rewritten (get_or qs j no_pool)
    mapped [] j h = absurd (omega (arith, h))
    mapped (x ∷ qs) zero h = refl
    mapped (x ∷ qs) (suc j) h = mapped qs j (omega (arith, h))

    pub old : block_at t p ≡ q
    old = block ps m p l

    pub new : block_at t' p ≡ rewritten q
    new = block (map rewritten ps) (rewritten_fits ps m room) p (omega (arith, l, length-map ps rewritten)) ∙ mapped ps p l

    right_old : Every Right (block_at t p).elements
    right_old = subst (λ (b : Pool). Every Right b.elements) (sym old) fit.every

    right_new : Every Right (block_at t' p).elements
    right_new = subst (λ (b : Pool). Every Right b.elements) (sym new) (all_right_lem q fit.every has)

    more_usable : (k : ℕ) → k < defined_place 0 → at (usable t p) k ≡ 1 → at (usable t' p) k ≡ 1
    more_usable k h e =
        usable_at t' p right_new k h
        ∙ ap (λ (b : Pool). one_if (ltb 0 (total (placed k) b.elements))) new
        ∙ ap one_if (lt-ltb 0 (total (placed k) (rewritten q).elements) (omega (arith, uses_more q fit.every has k, some)))
      where
        some : 0 < total (placed k) q.elements
        some = by (ltb 0 (total (placed k) q.elements)) refl (sym (usable_at t p right_old k h ∙ ap (λ (b : Pool). one_if (ltb 0 (total (placed k) b.elements))) old) ∙ e)
          where
            by : (b : Bool) → ltb 0 (total (placed k) q.elements) ≡ b → one_if b ≡ 1 → 0 < total (placed k) q.elements
            by true w z = ltb-true 0 (total (placed k) q.elements) w
            by false w z = absurd (omega (arith, z))

    pub start_same : has_start t' p ≡ has_start t p
    start_same =
        starts_by t' p right_new
        ∙ ap (λ (b : Pool). ltb 0 (total (of_kind start) b.elements)) new
        ∙ ap (ltb 0) (starts_same q fit.every has)
        ∙ sym (starts_by t p right_old ∙ ap (λ (b : Pool). ltb 0 (total (of_kind start) b.elements)) old)

    pub limit_same : limit_of t' p ≡ limit_of t p
    unfolding limit_of block_at rewritten
    limit_same = ap (λ (b : Pool). if eqb b.limit 0 then 1 or_else b.limit) new ∙ sym (ap (λ (b : Pool). if eqb b.limit 0 then 1 or_else b.limit) old)

  made_past : (p n : ℕ) → leb (pool_count t) p ≡ true → made_fits t p n ≡ true → (n ≡ 0) × (made_fits t' p n ≡ true)
  unfolding made_fits
  made_past p n e h =
      let none : eqb n 0 ≡ true = sym (chosen {A = Bool} (leb (pool_count t) p) (eqb n 0) _ e) ∙ h in
      (eqb-true n 0 none, chosen {A = Bool} (leb (pool_count t') p) (eqb n 0) _ (ap (λ (k : ℕ). leb k p) (counts' ∙ sym counts) ∙ e) ∙ none)

  made_same : (p n : ℕ) → p < length ps → made_fits t' p n ≡ made_fits t p n
  unfolding made_fits
  made_same p n l = λ i. if leb ((counts' ∙ sym counts) i) p then eqb n 0 or_else if start_same p l i then eqb n 1 or_else leb n (limit_same p l i)

  pool_on : (s : List ℕ) (p : ℕ) → p < pools → PoolFit t s p → PoolFit t' s p
  pool_on s p h f = go (leb (pool_count t) p) refl
    where
      go : (b : Bool) → leb (pool_count t) p ≡ b → PoolFit t' s p
      go true e = let z = made_past p (made_count s p) e f.made in record { made = z.1; each = λ i l. absurd (omega (arith, l, z.0)); rest = f.rest }
      go false e =
          let l : p < length ps = omega (arith, leb-false (pool_count t) p e, counts) in
          record {
            made = made_same p (made_count s p) l ∙ f.made;
            each = λ i k. instance_more (usable t p) (usable t' p) (instance_at s p i) (more_usable p l) (f.each i k);
            rest = f.rest;
          }

  -- THE LAW
  pub saved_fits : (s queues : List ℕ) → state_fits t s queues ≡ true → state_fits t' s queues ≡ true
  unfolding state_fits
  saved_fits s queues e =
      let both = and_left (all (instances_fit t s) pools && shared_fits s) (all (queue_fits queues) names) e in
      and_true (all (instances_fit t' s) pools && shared_fits s) (all (queue_fits queues) names)
      (and_true (all (instances_fit t' s) pools) (shared_fits s)
      (all_of (instances_fit t' s) pools (λ p l. pool_back t' s p (pool_on s p l (pool_parts t s p (all_at (instances_fit t s) pools (and_left (all (instances_fit t s) pools) (shared_fits s) both) p l)))))
      (and_right (all (instances_fit t s) pools) (shared_fits s) both))
      (and_right (all (instances_fit t s) pools && shared_fits s) (all (queue_fits queues) names) e)
