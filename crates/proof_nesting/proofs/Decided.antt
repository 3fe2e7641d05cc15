-- THE DECISION IS EXACT: a pool is decided to be nested exactly when it is. Assumes nothing.
use Prim.Native.Nat.{ℕ, zero, suc, ◌+◌, ◌≤◌, ◌<◌}
use mathlib.Core.Path.{◌≡◌, refl, sym, ◌∙◌, ap, ap₂, subst}
use mathlib.Core.Bool.{Bool, true, false, ◌||◌, false≢true}
use mathlib.Core.List.{List, [], ◌∷◌, ◌++◌, append-nil, append_assoc}
use mathlib.Core.Logic.{◌⊎◌, inl, inr}
use native.Mathlib.Omega.{arith}
use lib.Dec.{eqb, ltb}
use lib.ListN.{length, length-append, replicate, length-replicate, get_or-replicate}
use borrow.Author.Tests.{eqb-true, eqb-false, eq-eqb, ltb-true, ltb-false, lt-ltb}
use Rattle.base_words.specs.Each.{total, tab}
use Rattle.base_words.specs.Pick.{if◌then◌or_else◌}
use Rattle.base_words.specs.Seek.{seek}
use Rattle.base_words.specs.Sum.{sum, hit}
use Rattle.base_words.specs.Counts.{edges, elements}
use Rattle.base_words.proofs.AllLaws.{and_left, and_right, all_at, all_of}
use Rattle.base_words.specs.Words.{at}
use Rattle.base_words.proofs.EachLaws.{total-tab, total_ext}
use Rattle.base_words.proofs.ListLaws.{length-tab}
use Rattle.base_words.proofs.PickLaws.{and_true}
use Rattle.base_words.proofs.SeekLaws.{sought}
use Rattle.base_words.proofs.SumLaws.{sum_add, sum_ext, sum_le, sum_point, sum-zero}
use Rattle.base_kinds.specs.Kinds.{kind_of, end, inter_rcv, inter_snd, and_join, xor_join, task, task_rcv, task_snd}
use Rattle.base_table.specs.Table.{kind_in, entry_count, exit_count, entry_at, exit_at}
use Rattle.check_tally.specs.Tally.{tally, capped}
use Rattle.check_tally.proofs.TallyLaws.{tally_at, eqb-capped}
use Rattle.proof_steps.proofs.Choices.{by_test, by_choice, chosen, passed as passed-by}
use Rattle.check_nesting.specs.Nesting.{passes, starts, closes, exits_of, entries_of, occ, Rearranged, Runs, none, stays, passing, block, Nested}
use Rattle.check_nesting.specs.Deciding.{entry_of, takes, taker, edges_in, same_edges, SequenceWalk, halted, walked_over, stops, elements_passed, last_in, is_block, closing_join, join_of, ahead, sequence_walk, first_of, whole_walk, last_of, each_once, meets_all, ends_at, is_nested}
use Rattle.proof_nesting.proofs.Events.{hit_same, hit_other, sum_apart, one_entry}
use Rattle.proof_nesting.proofs.Lines.{plain, Closed, closed, whole, choice, Split, split_parts, stands}

hit_turn : (x y : ℕ) → hit x y ≡ hit y x
hit_turn x y = by_test (eqb x y) (λ e. hit_same x y (eqb-true x y e) ∙ sym (hit_same y x (sym (eqb-true x y e)))) (λ e. hit_other x y (eqb-false x y e) ∙ sym (hit_other y x (λ q. eqb-false x y e (sym q))))

-- SIDE BY SIDE
pub runs_beside : (P : ℕ → List ℕ) (c : ℕ) {xs ys ks us vs ls : List ℕ} → Runs P c xs ys ks → Runs P c us vs ls → Runs P c (xs ++ us) (ys ++ vs) (ks ++ ls)
runs_beside P c none q = q
runs_beside P c (stays r) q = stays (runs_beside P c r q)
runs_beside P c (passing k l p e r) q = passing k l p e (runs_beside P c r q)
runs_beside P c {us = us} {vs = vs} {ls = ls} (block {a = a} {b = y} {xs = xs} {ys = ys} {ks = ks} {es = es} {is = is} k j kc jc cl e inner same r) q =
    subst (λ z. Runs P c (a ∷ (xs ++ us)) (y ∷ (ys ++ vs)) (k ∷ j ∷ z)) (sym (append_assoc is ks ls)) (block k j kc jc cl e inner same (runs_beside P c r q))

-- EDGES all at most 48
abbrev Few : List ℕ → Type 0
Few [] = Unit
Few (x ∷ xs) = (x ≤ edges) × Few xs

few_none : (xs : List ℕ) → Few xs → (f : ℕ) → edges < f → total (hit f) xs ≡ 0
unfolding total
few_none [] w f l = refl
few_none (x ∷ xs) w f l = let z = few_none xs w.1 f l in let y = hit_other f x (λ e. let v = w.0 in omega arith) in omega arith

few_append : (xs ys : List ℕ) → Few xs → Few ys → Few (xs ++ ys)
few_append [] ys a b = b
few_append (x ∷ xs) ys a b = (a.0, few_append xs ys a.1 b)

few_tab : (g : ℕ → ℕ) (n : ℕ) → ((j : ℕ) → j < n → g j ≤ edges) → Few (tab g n)
unfolding tab
few_tab g zero h = record {}
few_tab g (suc n) h = few_append (tab g n) (g n ∷ []) (few_tab g n (λ j l. h j (omega arith))) (h n (omega arith), record {})

-- WHAT A TALLY SAYS: none, once or several
tallied : (size : ℕ) (ks : List ℕ) (k : ℕ) → k < size → at (tally (replicate size 0) ks) k ≡ capped (occ ks k)
unfolding capped
tallied size ks k l =
    let turned = total_ext (λ x. hit x k) (hit k) ks (λ x. hit_turn x k) in
    let same : 0 + total (λ x. hit x k) ks ≡ occ ks k = omega (arith, turned) in
    tally_at (replicate size 0) ks k 0 (let e = length-replicate {A = ℕ} size 0 in omega (arith, e, l)) (get_or-replicate size k 0 0 l) ∙ ap capped same

capped_one : (x y : ℕ) → y ≤ 1 → capped x ≡ capped y → x ≡ y
capped_one x y l e =
    let own : capped y ≡ y = eqb-true _ _ (eqb-capped y y l ∙ eq-eqb y y refl) in
    eqb-true x y (sym (eqb-capped x y l) ∙ eq-eqb (capped x) y (e ∙ own))

edges_at : (xs : List ℕ) (f : ℕ) → f < edges + 1 → at (edges_in xs) f ≡ capped (occ xs f)
unfolding edges_in
edges_at xs f l = tallied (edges + 1) xs f l

rearranged_is : (xs ys : List ℕ) → Few xs → Few ys → ((f : ℕ) → occ ys f ≤ 1) → same_edges (edges_in xs) (edges_in ys) ≡ true → Rearranged xs ys
unfolding same_edges
rearranged_is xs ys a b apart h f =
    by_test (ltb edges f)
    (λ e. let l = ltb-true edges f e in few_none xs a f l ∙ sym (few_none ys b f l))
    (λ e.
    let l : f < edges + 1 = (let m = ltb-false edges f e in omega arith) in
    capped_one (occ xs f) (occ ys f) (apart f)
    (sym (edges_at xs f l) ∙ eqb-true _ _ (all_at (λ f. eqb (at (edges_in xs) f) (at (edges_in ys) f)) (edges + 1) h f l) ∙ edges_at ys f l))

is_rearranged : (xs ys : List ℕ) → Rearranged xs ys → same_edges (edges_in xs) (edges_in ys) ≡ true
unfolding same_edges
is_rearranged xs ys same =
    all_of (λ f. eqb (at (edges_in xs) f) (at (edges_in ys) f)) (edges + 1) (λ f l. eq-eqb _ _ (edges_at xs f l ∙ ap capped (same f) ∙ sym (edges_at ys f l)))

once_is : (c : ℕ) (ks : List ℕ) → c ≤ elements → each_once c ks ≡ true → (k : ℕ) → k < c → occ ks k ≡ 1
unfolding each_once capped
once_is c ks few h k l =
    let e = eqb-true _ 1 (all_at (λ k. eqb (at (tally (replicate elements 0) ks) k) 1) c h k l) in
    capped_one (occ ks k) 1 (omega arith) (sym (tallied elements ks k (omega arith)) ∙ e)

is_once : (c : ℕ) (ks : List ℕ) → c ≤ elements → ((k : ℕ) → k < c → occ ks k ≡ 1) → each_once c ks ≡ true
unfolding each_once capped
is_once c ks few h =
    all_of (λ k. eqb (at (tally (replicate elements 0) ks) k) 1) c (λ k l. eq-eqb _ 1 (tallied elements ks k (omega arith) ∙ ap capped (h k l)))

-- WHAT CHECK 4 AND THE LIMITS GIVE
pub record Entered (P : ℕ → List ℕ) (c : ℕ) : Type 0 where
  pub one_enters : (k l i j : ℕ) → k < c → l < c → i < entry_count (P k) → j < entry_count (P l) → entry_at (P k) i ≡ entry_at (P l) j → k ≡ l
  pub exit_few : (k j : ℕ) → k < c → j < exit_count (P k) → exit_at (P k) j ≤ edges
  pub entry_few : (k j : ℕ) → k < c → j < entry_count (P k) → entry_at (P k) j ≤ edges
  pub entries_apart : (k i j : ℕ) → k < c → i < entry_count (P k) → j < entry_count (P k) → (i ≡ j → ⊥) → entry_at (P k) i ≡ entry_at (P k) j → ⊥
  pub one_exit : (k : ℕ) → k < c → (starts (P k) ≡ true) ⊎ ((passes (P k) ≡ true) ⊎ ((kind_in (P k) ≡ and_join) ⊎ (kind_in (P k) ≡ xor_join))) → 0 < exit_count (P k)
  pub branches : (k j : ℕ) → k < c → closes (P k) (P j) ≡ true → 0 < exit_count (P k)
  pub one_start : (k l : ℕ) → k < c → l < c → starts (P k) ≡ true → starts (P l) ≡ true → k ≡ l
  pub few : c ≤ elements

module _ (P : ℕ → List ℕ) (c : ℕ) (right : Entered P c) where
  -- THE TAKER
  taken_at : (k a : ℕ) → takes (P k) a ≡ true → (i : ℕ) × (i < entry_count (P k)) × (a ≡ entry_at (P k) i)
  unfolding takes entry_of
  taken_at k a h =
      let l = ltb-true _ _ h in
      (seek (λ j. eqb (entry_at (P k) j) a) (entry_count (P k)), l, sym (eqb-true _ _ ((sought (λ j. eqb (entry_at (P k) j) a) (entry_count (P k))).1 l)))

  takes_at : (k i : ℕ) → i < entry_count (P k) → takes (P k) (entry_at (P k) i) ≡ true
  unfolding takes entry_of
  takes_at k i l =
      let f : ℕ → Bool = (λ j. eqb (entry_at (P k) j) (entry_at (P k) i)) in
      by_test (ltb i (seek f (entry_count (P k))))
      (λ e. absurd (false≢true (sym ((sought f (entry_count (P k))).2 i (ltb-true _ _ e)) ∙ eq-eqb (entry_at (P k) i) (entry_at (P k) i) refl)))
      (λ e. lt-ltb (seek f (entry_count (P k))) (entry_count (P k)) (let m = ltb-false i (seek f (entry_count (P k))) e in omega (arith, m, l)))

  -- an edge that stands among the entries
  enter_by : (j f : ℕ) → 0 < occ (entries_of (P j)) f → takes (P j) f ≡ true
  enter_by j f l = let s = stands (entry_at (P j)) (entry_count (P j)) f (omega (arith, l)) in subst (λ y. takes (P j) y ≡ true) (sym s.2) (takes_at j s.0 s.1)

  entries_once : (k : ℕ) → k < c → (f : ℕ) → occ (entries_of (P k)) f ≤ 1
  entries_once k l f =
      let s = sum_apart (entry_at (P k)) f (entry_count (P k)) (λ i j r q e. by_test (eqb i j) (eqb-true i j) (λ d. absurd (right.entries_apart k i j l r q (eqb-false i j d) e))) in
      omega (arith, s, total-tab (hit f) (entry_at (P k)) (entry_count (P k)))

  taker-takes : (a : ℕ) → taker P c a < c → takes (P (taker P c a)) a ≡ true
  unfolding taker
  taker-takes a l = (sought (λ k. takes (P k) a) c).1 l

  taker_is : (k a : ℕ) → k < c → takes (P k) a ≡ true → taker P c a ≡ k
  unfolding taker
  taker_is k a l h =
      let s = sought (λ k. takes (P k) a) c in
      by_test (ltb k (seek (λ k. takes (P k) a) c))
      (λ e. absurd (false≢true (sym (s.2 k (ltb-true _ _ e)) ∙ h)))
      (λ e.
      let r : seek (λ k. takes (P k) a) c < c = (let z = ltb-false k (seek (λ k. takes (P k) a) c) e in omega arith) in
      let x = taken_at (seek (λ k. takes (P k) a) c) a (s.1 r) in
      let y = taken_at k a h in
      right.one_enters (seek (λ k. takes (P k) a) c) k x.0 y.0 r l x.1 y.1 (sym x.2 ∙ y.2))

  -- SOUND
  abbrev Good : (ℕ → SequenceWalk) → Type 0
  Good go = (x : ℕ) → x ≤ edges → Runs P c (x ∷ []) ((go x).stop ∷ []) (go x).on × ((go x).stop ≤ edges)

  good_all : (go : ℕ → SequenceWalk) → Good go → (xs : List ℕ) → Few xs → Runs P c xs (stops go xs) (elements_passed go xs) × Few (stops go xs)
  unfolding stops elements_passed
  good_all go g [] w = (none, record {})
  good_all go g (x ∷ xs) w =
      let r = g x w.0 in
      let q = good_all go g xs w.1 in
      (runs_beside P c r.0 q.0, (r.1, q.1))

  exits_few : (k : ℕ) → k < c → Few (exits_of (P k))
  exits_few k l = few_tab (exit_at (P k)) (exit_count (P k)) (λ j r. right.exit_few k j l r)

  entries_few : (k : ℕ) → k < c → Few (entries_of (P k))
  entries_few k l = few_tab (entry_at (P k)) (entry_count (P k)) (λ j r. right.entry_few k j l r)

  entry_single : (k a : ℕ) → takes (P k) a ≡ true → entry_count (P k) ≡ 1 → entry_at (P k) 0 ≡ a
  entry_single k a h one =
      let x = taken_at k a h in
      let z : 0 ≡ x.0 = (let l = x.1 in omega (arith, one, l)) in
      ap (entry_at (P k)) z ∙ sym x.2

  closed_block : (go : ℕ → SequenceWalk) (k j : ℕ) → is_block P c (edges_in (stops go (exits_of (P k)))) k j ≡ true → Closed (P k) (P j)
  unfolding is_block
  closed_block go k j h = closed (P k) (P j) (and_left (closes (P k) (P j)) _ (and_right (ltb j c) _ h))

  abbrev Went : ℕ → SequenceWalk → Type 0
  Went a w = Runs P c (a ∷ []) (w.stop ∷ []) w.on × (w.stop ≤ edges)

  join_exit : (el join : List ℕ) → Closed el join → (kind_in join ≡ and_join) ⊎ (kind_in join ≡ xor_join)
  join_exit el join (whole a b) = inl b
  join_exit el join (choice a b) = inr b

  -- the join of a split, if there is one
  abbrev into : (ℕ → SequenceWalk) → ℕ → ℕ
  into go k = taker P c (last_in (stops go (exits_of (P k))))

  join_there : (go : ℕ → SequenceWalk) (k : ℕ) → ltb (join_of P c go k) c ≡ true → is_block P c (edges_in (stops go (exits_of (P k)))) k (join_of P c go k) ≡ true
  unfolding join_of closing_join
  join_there go k h =
      let es : List ℕ = stops go (exits_of (P k)) in
      by_choice (λ j. ltb j c ≡ true → is_block P c (edges_in es) k j ≡ true) (is_block P c (edges_in es) k (into go k)) (into go k) c (λ e l. e)
      (λ e l. absurd (let m = ltb-true c c l in omega arith)) h

  block_good : (go : ℕ → SequenceWalk) → Good go → (a k j : ℕ) → k < c → takes (P k) a ≡ true → is_block P c (edges_in (stops go (exits_of (P k)))) k j ≡ true
      → Went a (walked_over (k ∷ j ∷ elements_passed go (exits_of (P k))) (go (exit_at (P j) 0)))
  unfolding is_block
  block_good go g a k j l t h =
      let jc = ltb-true j c (and_left (ltb j c) _ h) in
      let both = and_right (ltb j c) _ h in
      let cl = and_left (closes (P k) (P j)) _ both in
      let re = and_right (closes (P k) (P j)) (same_edges (edges_in (stops go (exits_of (P k)))) (edges_in (entries_of (P j)))) both in
      let s : Split (P k) = split_parts (P k) (P j) (closed (P k) (P j) cl) in
      let q = good_all go g (exits_of (P k)) (exits_few k l) in
      let r = g (exit_at (P j) 0) (right.exit_few j 0 jc (right.one_exit j jc (inr (inr (join_exit (P k) (P j) (closed (P k) (P j) cl)))))) in (
        block k j l jc cl (entry_single k a t s.entries) q.0 (rearranged_is (stops go (exits_of (P k))) (entries_of (P j)) q.1 (entries_few j jc) (entries_once j jc) re) r.0,
        r.1,
      )

  ahead_good : (go : ℕ → SequenceWalk) → Good go → (a k : ℕ) → a ≤ edges → k < c → takes (P k) a ≡ true → Went a (ahead P c go a k)
  unfolding ahead
  ahead_good go g a k few l t =
      by_choice (Went a) (passes (P k)) _ _
      (λ e.
      let r = g (exit_at (P k) 0) (right.exit_few k 0 l (right.one_exit k l (inr (inl e)))) in
      (passing k l e (entry_single k a t (plain (P k) e).entries) r.0, r.1))
      (λ e.
      by_choice (Went a) (ltb (join_of P c go k) c) _ _
      (λ h. block_good go g a k (join_of P c go k) l t (join_there go k h))
      (λ h. (stays none, few)))

  walk_good : (n : ℕ) → Good (sequence_walk P c n)
  unfolding sequence_walk
  walk_good zero x l = (stays none, l)
  walk_good (suc n) x l =
      by_choice (Went x) (ltb (taker P c x) c) _ _
      (λ e. let r = ltb-true _ c e in ahead_good (sequence_walk P c n) (walk_good n) x (taker P c x) l r (taker-takes x r))
      (λ e. (stays none, l))

  first_starts_by : first_of P c < c → starts (P (first_of P c)) ≡ true
  unfolding first_of
  first_starts_by l = (sought (λ k. starts (P k)) c).1 l

  whole_runs_by : first_of P c < c → Runs P c (exit_at (P (first_of P c)) 0 ∷ []) ((whole_walk P c (first_of P c)).stop ∷ []) (whole_walk P c (first_of P c)).on
  unfolding whole_walk
  whole_runs_by l = (walk_good elements (exit_at (P (first_of P c)) 0) (right.exit_few (first_of P c) 0 l (right.one_exit (first_of P c) l (inl (first_starts_by l))))).0

  last_by_lem : last_of P c (first_of P c) < c → kind_in (P (last_of P c (first_of P c))) ≡ end → (whole_walk P c (first_of P c)).stop ≡ entry_at (P (last_of P c (first_of P c))) 0
  unfolding last_of kind_of
  last_by_lem l e = sym (entry_single (last_of P c (first_of P c)) (whole_walk P c (first_of P c)).stop (taker-takes (whole_walk P c (first_of P c)).stop l) (one_entry (P (last_of P c (first_of P c))) end e refl))

  pub decided_nested : is_nested P c ≡ true → Nested P c
  unfolding is_nested ends_at meets_all
  decided_nested h =
      let a = ltb-true _ c (and_left (ltb (first_of P c) c) _ h) in
      let h₂ = and_right (ltb (first_of P c) c) _ h in
      let b = ltb-true _ c (and_left (ltb (last_of P c (first_of P c)) c) _ h₂) in
      let h₃ = and_right (ltb (last_of P c (first_of P c)) c) _ h₂ in
      let e = eqb-true _ _ (and_left (eqb (kind_in (P (last_of P c (first_of P c)))) end) _ h₃) in
      let o = and_right (eqb (kind_in (P (last_of P c (first_of P c)))) end) _ h₃ in
      record {
        first = first_of P c;
        last = last_of P c (first_of P c);
        between = (whole_walk P c (first_of P c)).on;
        first_there = a;
        last_there = b;
        first-starts = first_is a;
        last_ends = e;
        runs = subst (λ y. Runs P c (exit_at (P (first_of P c)) 0 ∷ []) (y ∷ []) (whole_walk P c (first_of P c)).on) (last_is b e) (whole_runs a);
        once = once_is c (first_of P c ∷ last_of P c (first_of P c) ∷ (whole_walk P c (first_of P c)).on) right.few o;
      }
    where
      first_is : first_of P c < c → starts (P (first_of P c)) ≡ true
      first_is l = first_starts_by l

      whole_runs : first_of P c < c → Runs P c (exit_at (P (first_of P c)) 0 ∷ []) ((whole_walk P c (first_of P c)).stop ∷ []) (whole_walk P c (first_of P c)).on
      whole_runs l = whole_runs_by l

      last_is : last_of P c (first_of P c) < c → kind_in (P (last_of P c (first_of P c))) ≡ end → (whole_walk P c (first_of P c)).stop ≡ entry_at (P (last_of P c (first_of P c))) 0
      last_is l e = last_by_lem l e

  -- COMPLETE. An edge where every walk stops at once
  abbrev Stopping : ℕ → Type 0
  Stopping y = (n : ℕ) → sequence_walk P c n y ≡ halted y

  no_block : (go : ℕ → SequenceWalk) (k : ℕ) → (kind_in (P k) ≡ end) ⊎ ((kind_in (P k) ≡ and_join) ⊎ (kind_in (P k) ≡ xor_join)) → ltb (join_of P c go k) c ≡ false
  no_block go k is = by_test (ltb (join_of P c go k) c) (λ h. absurd (no_split (joined (join_of P c go k) (join_there go k h)) is)) (λ h. h)
    where
      joined : (j : ℕ) → is_block P c (edges_in (stops go (exits_of (P k)))) k j ≡ true → Closed (P k) (P j)
      joined j h = closed_block go k j h

      no_split : {j : ℕ} → Closed (P k) (P j) → (kind_in (P k) ≡ end) ⊎ ((kind_in (P k) ≡ and_join) ⊎ (kind_in (P k) ≡ xor_join)) → ⊥
      no_split (whole a b) (inl e) = omega (arith, a, e)
      no_split (whole a b) (inr (inl e)) = omega (arith, a, e)
      no_split (whole a b) (inr (inr e)) = omega (arith, a, e)
      no_split (choice (inl a) b) (inl e) = omega (arith, a, e)
      no_split (choice (inl a) b) (inr (inl e)) = omega (arith, a, e)
      no_split (choice (inl a) b) (inr (inr e)) = omega (arith, a, e)
      no_split (choice (inr a) b) (inl e) = omega (arith, a, e)
      no_split (choice (inr a) b) (inr (inl e)) = omega (arith, a, e)
      no_split (choice (inr a) b) (inr (inr e)) = omega (arith, a, e)

  no_pass : (el : List ℕ) → (kind_in el ≡ end) ⊎ ((kind_in el ≡ and_join) ⊎ (kind_in el ≡ xor_join)) → passes el ≡ false
  unfolding passes
  no_pass el (inl e) = ap (λ k. eqb k inter_rcv || (eqb k inter_snd || (eqb k task || (eqb k task_rcv || eqb k task_snd)))) e
  no_pass el (inr (inl e)) = ap (λ k. eqb k inter_rcv || (eqb k inter_snd || (eqb k task || (eqb k task_rcv || eqb k task_snd)))) e
  no_pass el (inr (inr e)) = ap (λ k. eqb k inter_rcv || (eqb k inter_snd || (eqb k task || (eqb k task_rcv || eqb k task_snd)))) e

  stopping : (k y : ℕ) → k < c → takes (P k) y ≡ true → (kind_in (P k) ≡ end) ⊎ ((kind_in (P k) ≡ and_join) ⊎ (kind_in (P k) ≡ xor_join)) → Stopping y
  unfolding sequence_walk ahead
  stopping k y l t is zero = refl
  stopping k y l t is (suc n) =
      let w : taker P c y ≡ k = taker_is k y l t in
      by_choice (λ (v : SequenceWalk). v ≡ halted y) (ltb (taker P c y) c) _ (halted y)
      (λ e.
      passed-by (passes (P (taker P c y))) _ _ (ap (λ i. passes (P i)) w ∙ no_pass (P k) is)
      ∙ passed-by (ltb (join_of P c (sequence_walk P c n) (taker P c y)) c) _ _ (ap (λ i. ltb (join_of P c (sequence_walk P c n) i) c) w ∙ no_block (sequence_walk P c n) k is))
      (λ e. refl)

  -- what the walk from x comes to, with l elements or more to go
  abbrev Halts : ℕ → ℕ → List ℕ → Type 0
  Halts x y l = (n : ℕ) → length l ≤ n → sequence_walk P c n x ≡ record { stop = y; on = l }

  abbrev Parts : List ℕ → List ℕ → List ℕ → Type 0
  Parts [] [] ks = ks ≡ []
  Parts [] (y ∷ ys) ks = ⊥
  Parts (x ∷ xs) [] ks = ⊥
  Parts (x ∷ xs) (y ∷ ys) ks = (l r : List ℕ) × (ks ≡ l ++ r) × Halts x y l × Parts xs ys r

  abbrev AllStop : List ℕ → Type 0
  AllStop [] = Unit
  AllStop (y ∷ ys) = Stopping y × AllStop ys

  -- walks side by side, with enough to go
  parts_walk : (xs ys ks : List ℕ) (n : ℕ) → Parts xs ys ks → length ks ≤ n → (stops (sequence_walk P c n) xs ≡ ys) × (elements_passed (sequence_walk P c n) xs ≡ ks)
  unfolding stops elements_passed
  parts_walk [] [] ks n p l = (refl, sym p)
  parts_walk [] (y ∷ ys) ks n p l = absurd p
  parts_walk (x ∷ xs) [] ks n p l = absurd p
  parts_walk (x ∷ xs) (y ∷ ys) ks n p l =
      let a : List ℕ = p.0 in
      let b : List ℕ = p.1 in
      let e : length ks ≡ length a + length b = ap length p.2 ∙ length-append a b in
      let w : sequence_walk P c n x ≡ record { stop = y; on = a } = p.3 n (omega (arith, e, l)) in
      let r = parts_walk xs ys b n p.4 (omega (arith, e, l)) in (
        ap₂ (λ (v : SequenceWalk) (vs : List ℕ). v.stop ∷ vs) w r.0,
        ap₂ (λ (v : SequenceWalk) (vs : List ℕ). v.on ++ vs) w r.1 ∙ sym p.2,
      )

  last_among : (y : ℕ) (ys : List ℕ) → 1 ≤ occ (y ∷ ys) (last_in (y ∷ ys))
  unfolding total last_in
  last_among y [] = let z = hit_same y y refl in omega arith
  last_among y (x ∷ ys) = let z = last_among x ys in omega arith

  last_in_lem : (xs ys ks : List ℕ) → Parts xs ys ks → 0 < length xs → 1 ≤ occ ys (last_in ys)
  last_in_lem [] ys ks p l = absurd (omega arith)
  last_in_lem (x ∷ xs) [] ks p l = absurd p
  last_in_lem (x ∷ xs) (y ∷ ys) ks p l = last_among y ys

  all_stop : (j : ℕ) → j < c → (kind_in (P j) ≡ and_join) ⊎ (kind_in (P j) ≡ xor_join) → (es : List ℕ) → ((f : ℕ) → total (hit f) es ≤ total (hit f) (entries_of (P j))) → AllStop es
  unfolding total
  all_stop j l is [] h = record {}
  all_stop j l is (e ∷ es) h = (
    stopping j e l (enter_by j e (let z = hit_same e e refl in let w = h e in omega arith)) (inr is),
    all_stop j l is es (λ f. let w = h f in omega arith),
  )

  -- THE FIRST STEP of a walk
  walk_on : (n a k : ℕ) → k < c → takes (P k) a ≡ true → sequence_walk P c (suc n) a ≡ ahead P c (sequence_walk P c n) a k
  unfolding sequence_walk
  walk_on n a k l t =
      let w : taker P c a ≡ k = taker_is k a l t in
      chosen (ltb (taker P c a) c) _ _ (lt-ltb (taker P c a) c (omega (arith, w, l))) ∙ ap (ahead P c (sequence_walk P c n) a) w

  enters : (k a : ℕ) → entry_count (P k) ≡ 1 → entry_at (P k) 0 ≡ a → takes (P k) a ≡ true
  enters k a one e = subst (λ y. takes (P k) y ≡ true) e (takes_at k 0 (omega (arith, one)))

  pass_halts : (k a y : ℕ) (l : List ℕ) → k < c → passes (P k) ≡ true → entry_at (P k) 0 ≡ a → Halts (exit_at (P k) 0) y l → Halts a y (k ∷ l)
  unfolding ahead
  pass_halts k a y l kc p e h zero r = absurd (omega arith)
  pass_halts k a y l kc p e h (suc n) r =
      walk_on n a k kc (enters k a (plain (P k) p).entries e) ∙ chosen (passes (P k)) _ _ p ∙ ap (walked_over (k ∷ [])) (h n (omega arith))

  pass_not : (el join : List ℕ) → Closed el join → passes el ≡ false
  unfolding passes
  pass_not el join (whole e b) = ap (λ k. eqb k inter_rcv || (eqb k inter_snd || (eqb k task || (eqb k task_rcv || eqb k task_snd)))) e
  pass_not el join (choice (inl e) b) = ap (λ k. eqb k inter_rcv || (eqb k inter_snd || (eqb k task || (eqb k task_rcv || eqb k task_snd)))) e
  pass_not el join (choice (inr e) b) = ap (λ k. eqb k inter_rcv || (eqb k inter_snd || (eqb k task || (eqb k task_rcv || eqb k task_snd)))) e

  block_halts : (k j a y : ℕ) (es is l : List ℕ) → k < c → j < c → closes (P k) (P j) ≡ true → entry_at (P k) 0 ≡ a
      → Parts (exits_of (P k)) es is → Rearranged es (entries_of (P j)) → Halts (exit_at (P j) 0) y l → Halts a y (k ∷ j ∷ (is ++ l))
  unfolding ahead join_of closing_join is_block
  block_halts k j a y es is l kc jc cl e p same h zero r = absurd (omega arith)
  block_halts k j a y es is l kc jc cl e p same h (suc n) r =
      let z : length (is ++ l) ≡ length is + length l = length-append is l in
      let s : Split (P k) = split_parts (P k) (P j) (closed (P k) (P j) cl) in
      let w = parts_walk (exits_of (P k)) es is n p (omega (arith, z, r)) in
      let some : 0 < length (exits_of (P k)) = (let q = length-tab (exit_at (P k)) (exit_count (P k)) in omega (arith, q, right.branches k j kc cl)) in
      let m : taker P c (last_in es) ≡ j = taker_is j (last_in es) jc (enter_one (last_in es) (last_in_lem (exits_of (P k)) es is p some)) in
      let bl : is_block P c (edges_in es) k j ≡ true = and_true (ltb j c) _ (lt-ltb j c jc) (and_true (closes (P k) (P j)) _ cl (is_rearranged es (entries_of (P j)) same)) in
      let jn : join_of P c (sequence_walk P c n) k ≡ j =
      ap (λ (v : List ℕ). closing_join P c k (last_in v) (edges_in v)) w.0 ∙ ap (λ i. if is_block P c (edges_in es) k i then i or_else c) m ∙ chosen (is_block P c (edges_in es) k j) j c bl in
      walk_on n a k kc (enters k a s.entries e)
      ∙ passed-by (passes (P k)) _ _ (no_pass_split (closed (P k) (P j) cl))
      ∙ ap (λ i. if ltb i c then walked_over (k ∷ i ∷ elements_passed (sequence_walk P c n) (exits_of (P k))) (sequence_walk P c n (exit_at (P i) 0)) or_else halted a) jn
      ∙ chosen (ltb j c) _ _ (lt-ltb j c jc)
      ∙ ap₂ (λ (v : List ℕ) (u : SequenceWalk). walked_over (k ∷ j ∷ v) u) w.1 (h n (omega (arith, z, r)))
    where
      enter_one : (f : ℕ) → 1 ≤ total (hit f) es → takes (P j) f ≡ true
      enter_one f q = enter_by j f (omega (arith, q, same f))

      no_pass_split : Closed (P k) (P j) → passes (P k) ≡ false
      no_pass_split c = pass_not (P k) (P j) c

  pub complete : {xs ys ks : List ℕ} → Runs P c xs ys ks → AllStop ys → Parts xs ys ks
  complete none s = refl
  complete (stays {ks = ks} r) s = ([], ks, refl, (λ n l. s.0 n), complete r s.1)
  complete (passing {a = a} {b = y} k l p e r) s =
      let q = complete r s in
      (k ∷ q.0, q.1, ap (λ (v : List ℕ). k ∷ v) q.2, pass_halts k a y q.0 l p e q.3, q.4)
  complete (block {a = a} {b = y} {ks = ks} {es = es} {is = is} k j kc jc cl e inner same r) s =
      let q = complete r s in
      let i = complete inner (all_stop j jc (join_exit (P k) (P j) (closed (P k) (P j) cl)) es (λ f. let w = same f in omega arith)) in (
        k ∷ j ∷ (is ++ q.0),
        q.1,
        ap (λ (v : List ℕ). k ∷ j ∷ v) (ap (λ (v : List ℕ). is ++ v) q.2 ∙ sym (append_assoc is q.0 q.1)),
        block_halts k j a y es is q.0 kc jc cl e i same q.3,
        q.4,
      )

  -- HOW MANY elements there are
  abbrev Below : List ℕ → Type 0
  Below [] = Unit
  Below (k ∷ ks) = (k < c) × Below ks

  below_append : (ks ls : List ℕ) → Below ks → Below ls → Below (ks ++ ls)
  below_append [] ls a b = b
  below_append (k ∷ ks) ls a b = (a.0, below_append ks ls a.1 b)

  runs_below : {xs ys ks : List ℕ} → Runs P c xs ys ks → Below ks
  runs_below none = record {}
  runs_below (stays r) = runs_below r
  runs_below (passing k l p e r) = (l, runs_below r)
  runs_below (block {ks = ks} {is = is} k j kc jc cl e inner same r) = (kc, (jc, below_append is ks (runs_below inner) (runs_below r)))

  counted_length : (ks : List ℕ) → Below ks → sum (λ k. total (hit k) ks) c ≡ length ks
  unfolding total
  counted_length [] b = sum-zero (λ k. 0) c (λ k l. refl)
  counted_length (x ∷ ks) b =
      let s = sum_add (λ k. hit k x) (λ k. total (hit k) ks) c in
      let p : sum (λ k. hit k x) c ≡ 1 = sum_ext (λ k. hit k x) (hit x) c (λ k l. hit_turn k x) ∙ sum_point x c b.0 in
      let q = counted_length ks b.1 in
      omega (arith, s, p, q)

  module _ (nest : Nested P c) where
    abbrev L : List ℕ
    L = nest.first ∷ nest.last ∷ nest.between

    between_few : length nest.between ≤ elements
    between_few =
        let a : sum (λ k. total (hit k) L) c ≡ sum (λ k. 1) c = sum_ext (λ k. total (hit k) L) (λ k. 1) c nest.once in
        let b : sum (λ k. total (hit k) L) c ≡ length L = counted_length L (nest.first_there, (nest.last_there, runs_below nest.runs)) in
        let d = sum_le (λ k. 1) 1 c (λ k l. omega arith) in
        omega (arith, a, b, d, right.few)

    first_is : first_of P c ≡ nest.first
    unfolding first_of
    first_is =
        let s = sought (λ k. starts (P k)) c in
        by_test (ltb nest.first (seek (λ k. starts (P k)) c))
        (λ e. absurd (false≢true (sym (s.2 nest.first (ltb-true _ _ e)) ∙ nest.first-starts)))
        (λ e.
        let r : seek (λ k. starts (P k)) c < c = (let z = ltb-false nest.first (seek (λ k. starts (P k)) c) e in let y = nest.first_there in omega arith) in
        right.one_start (seek (λ k. starts (P k)) c) nest.first r nest.first_there (s.1 r) nest.first-starts)

    last_takes : takes (P nest.last) (entry_at (P nest.last) 0) ≡ true
    unfolding kind_of
    last_takes = takes_at nest.last 0 (omega (arith, one_entry (P nest.last) end nest.last_ends refl))

    walk_is : whole_walk P c (first_of P c) ≡ record { stop = entry_at (P nest.last) 0; on = nest.between }
    unfolding whole_walk
    walk_is =
        let p = complete nest.runs (stopping nest.last (entry_at (P nest.last) 0) nest.last_there last_takes (inl nest.last_ends), record {}) in
        let e : nest.between ≡ p.0 = p.2 ∙ ap (λ (v : List ℕ). p.0 ++ v) p.4 ∙ append-nil p.0 in
        ap (λ k. sequence_walk P c elements (exit_at (P k) 0)) first_is
        ∙ p.3 elements (let z = ap length e in let y = between_few in omega arith)
        ∙ ap (λ (v : List ℕ). record { stop = entry_at (P nest.last) 0; on = v }) (sym e)

    last_is : last_of P c (first_of P c) ≡ nest.last
    unfolding last_of
    last_is = ap (λ (v : SequenceWalk). taker P c v.stop) walk_is ∙ taker_is nest.last (entry_at (P nest.last) 0) nest.last_there last_takes

    pub nested_decided : is_nested P c ≡ true
    unfolding is_nested ends_at meets_all
    nested_decided =
        let o : (whole_walk P c (first_of P c)).on ≡ nest.between = ap (λ (v : SequenceWalk). v.on) walk_is in
        rw (last_is, o, first_is)
        (and_true (ltb nest.first c) _ (lt-ltb _ c nest.first_there)
        (and_true (ltb nest.last c) _ (lt-ltb _ c nest.last_there)
        (and_true (eqb (kind_in (P nest.last)) end) _ (eq-eqb _ _ nest.last_ends)
        (is_once c L right.few nest.once))))
