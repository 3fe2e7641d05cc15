-- ONE endSnd AFTER THE OTHER: the elements stay within the limits, and what the checks count stays, but for the new edges. Assumes nothing.
use Prim.Native.Nat.{ℕ, zero, suc, ◌+◌, ◌≤◌, ◌<◌}
use mathlib.Core.Path.{◌≡◌, refl, sym, ◌∙◌, ap, ap₂, subst}
use mathlib.Core.Bool.{Bool, true, false, not}
use mathlib.Core.List.{List, [], ◌∷◌, ◌++◌}
use native.Mathlib.Decide.{ℕ_discrete}
use native.Mathlib.Omega.{arith}
use lib.Dec.{eqb, leb, ltb}
use lib.ListN.{length, set, get_or}
use borrow.Author.Tests.{eqb-true, eq-eqb, ne_eqb, ltb-true, ltb-false}
use Rattle.base_words.specs.Counts.{edges, elements}
use Rattle.base_words.specs.Each.{total, each}
use Rattle.base_words.specs.Iter.{iter}
use Rattle.base_words.specs.Pick.{if◌then◌or_else◌}
use Rattle.base_words.specs.Seek.{seek}
use Rattle.base_words.specs.Sum.{sum, hit, one_if}
use Rattle.base_words.proofs.SeekLaws.{sought}
use Rattle.base_words.proofs.SumLaws.{sum_ext, sum-zero}
use Rattle.base_kinds.specs.Kinds.{end}
use Rattle.check_tally.proofs.RegionLaws.{each_none}
use Rattle.check_tally.proofs.TallyLaws.{hit_no}
use Rattle.check_occurrences.specs.Occurrences.{of_kind, as_exit, as_entry, as_first, as_task, as_received, as_sent, default_once, bound_once}
use Rattle.check_model.specs.Checks.{edge_right}
use Rattle.text_ends.specs.Rewriting.{mentioned, is_unused, lowest_unused, sending_to, end_of, first_end, treated, end_sends, all_treated, unused_count}
use Rattle.text_ends.proofs.RewriteLaws.{first_is, found, is_end, treated-total, one_less, treated_long}
use Rattle.text_ends.proofs.RoomLaws.{total-zero}
use Rattle.proof_roundtrip.proofs.EndModels.{Every, every_in, every_set, every_last, Right}
use Rattle.proof_roundtrip.proofs.EndSends.{end_right, send_right}
use Rattle.proof_roundtrip.proofs.EndCounts.{Unaltered, kinds_stay, tasks_stay, firsts_stay, received_stay, sent_stay, one_default, one_bind, as_exit_lem, as_entry_lem, mentions, exit_mentioned, entry_mentioned, first_mentioned}

total_most : (g h : List ℕ → ℕ) (els : List (List ℕ)) → Every Right els → ((el : List ℕ) → Right el → g el ≤ h el) → total g els ≤ total h els
unfolding total
total_most g h [] e l = omega arith
total_most g h (x ∷ els) e l = omega (arith, l x e.0, total_most g h els e.1 l)

-- a sum that differs at one place
one_apart : (g h : ℕ → ℕ) (k n : ℕ) → k < n → ((j : ℕ) → (j ≡ k → ⊥) → g j ≡ h j) → g k + 1 ≡ h k → sum g n + 1 ≡ sum h n
unfolding sum
one_apart g h k zero l d e = absurd (omega arith)
one_apart g h k (suc n) l d e = go (ℕ_discrete n k) (λ m. one_apart g h k n m d e)
  where
    go : Dec (n ≡ k) → (k < n → sum g n + 1 ≡ sum h n) → sum g n + g n + 1 ≡ sum h n + h n
    go (yes q) more =
        let a : sum g n ≡ sum h n = sum_ext g h n (λ j m. d j (λ w. omega arith)) in
        let b : g n + 1 ≡ h n = subst (λ j. g j + 1 ≡ h j) (sym q) e in
        omega (arith, a, b)
    go (no q) more =
        let a = more (omega arith) in
        let b = d n q in
        omega (arith, a, b)

-- how an edge e stands
abbrev pub meets : List (List ℕ) → ℕ → Bool
meets els e = edge_right (total (as_exit e) els) (total (as_entry e) els) (total (as_first e) els)

-- WHAT THE CHECKS COUNT of the elements b as of the elements a
pub record Alike (a b : List (List ℕ)) : Type 0 where
  pub starts : (k : ℕ) → k < end → total (of_kind k) b ≡ total (of_kind k) a
  pub tasks : (n : ℕ) → 0 < n → total (as_task n) b ≡ total (as_task n) a
  pub received : (m : ℕ) → total (as_received m) b ≡ total (as_received m) a
  pub sent : (m : ℕ) → total (as_sent m) b ≡ total (as_sent m) a
  pub defaults : each default_once b ≡ each default_once a
  pub binds : each bound_once b ≡ each bound_once a
  pub edges : (e : ℕ) → 0 < e → meets a e ≡ true → meets b e ≡ true

alike_same : (a : List (List ℕ)) → Alike a a
alike_same a = record { starts = λ k l. refl; tasks = λ n l. refl; received = λ m. refl; sent = λ m. refl; defaults = refl; binds = refl; edges = λ e l h. h }

alike_then : (a b c : List (List ℕ)) → Alike a b → Alike b c → Alike a c
alike_then a b c p q =
    record {
      starts = λ k l. q.starts k l ∙ p.starts k l;
      tasks = λ n l. q.tasks n l ∙ p.tasks n l;
      received = λ m. q.received m ∙ p.received m;
      sent = λ m. q.sent m ∙ p.sent m;
      defaults = q.defaults ∙ p.defaults;
      binds = q.binds ∙ p.binds;
      edges = λ e l h. q.edges e l (p.edges e l h);
    }

-- THE LOWEST UNUSED EDGE is one that is not mentioned
module _ (els : List (List ℕ)) (free : 0 < unused_count els) where
  abbrev k₀ : ℕ
  k₀ = seek (is_unused els) edges

  pub edge_is : lowest_unused els ≡ k₀ + 1
  unfolding lowest_unused
  edge_is = ap (λ n. n + 1) (first_is (is_unused els) edges)

  pub below : k₀ < edges
  unfolding unused_count
  below = go (ltb k₀ edges) refl
    where
      go : (b : Bool) → ltb k₀ edges ≡ b → k₀ < edges
      go true e = ltb-true k₀ edges e
      go false e =
          let h = ltb-false k₀ edges e in
          let s = sought (is_unused els) edges in
          absurd (omega (arith, sum-zero (λ k. one_if (is_unused els k)) edges (λ k l. ap one_if (s.2 k (omega arith)))))

  pub unused : is_unused els k₀ ≡ true
  unused = (sought (is_unused els) edges).1 below

  pub unmentioned : total (mentioned (k₀ + 1)) els ≡ 0
  unfolding is_unused
  unmentioned = eqb-true (total (mentioned (k₀ + 1)) els) 0 (total-zero (mentioned (k₀ + 1)) els ∙ unused)

-- ONE TREATED
module _ (els : List (List ℕ)) (every : Every Right els) (some : 0 < end_sends els) (free : 0 < unused_count els) where
  abbrev f : ℕ
  f = lowest_unused els

  abbrev x : List ℕ
  x = get_or els (first_end els) []

  x_right : Right x
  x_right = every_in Right els [] (first_end els) every (found els some)

  f_low : 1 ≤ f
  f_low = omega (arith, edge_is els free)

  f_high : f ≤ edges
  f_high = omega (arith, edge_is els free, below els free)

  pub one_right : Every Right (treated els)
  unfolding treated
  one_right =
      every_last Right (set els (first_end els) (sending_to f x)) (end_of f)
      (every_set Right els (first_end els) (sending_to f x) every (send_right x x_right (is_end els some) f f_low f_high))
      (end_right f f_low f_high)

  turned : (g : List ℕ → ℕ) → total g (treated els) + g x ≡ total g els + g (sending_to f x) + g (end_of f)
  turned g = treated-total els some x_right.long g

  stays : (g : List ℕ → ℕ) → Unaltered x (sending_to f x) (end_of f) g → total g (treated els) ≡ total g els
  stays g u = omega (arith, turned g, u.send, u.fresh)

  each_stays : (t : List ℕ → Bool) → (t (sending_to f x) ≡ true) × (t x ≡ true) × (t (end_of f) ≡ true) → each t (treated els) ≡ each t els
  each_stays t h =
      let g : List ℕ → ℕ = λ el. one_if (not (t el)) in
      sym (each_none t g (treated els) (λ el. refl))
      ∙ ap (λ n. eqb n 0) (stays g (record { send = ap (λ b. one_if (not b)) (h.0 ∙ sym h.1); fresh = ap (λ b. one_if (not b)) h.2 }))
      ∙ each_none t g els (λ el. refl)

  exits_after : (e : ℕ) → total (as_exit e) (treated els) ≡ total (as_exit e) els + hit f e
  exits_after e = let q = as_exit_lem x x_right (is_end els some) f e in omega (arith, turned (as_exit e), q.0, q.1, q.2)

  entries_after : (e : ℕ) → total (as_entry e) (treated els) ≡ total (as_entry e) els + hit f e
  entries_after e = let q = as_entry_lem x x_right (is_end els some) f e in omega (arith, turned (as_entry e), q.0, q.1)

  firsts_after : (e : ℕ) → total (as_first e) (treated els) ≡ total (as_first e) els
  firsts_after e = stays (as_first e) (firsts_stay x x_right (is_end els some) f e)

  mentions_after : (e : ℕ) → 0 < e → total (mentioned e) (treated els) ≡ total (mentioned e) els + hit f e + hit f e
  mentions_after e l = let q = mentions x x_right (is_end els some) f e l in omega (arith, turned (mentioned e), q.0, q.1)

  -- check 4: the new edge stands once as an exit and once as an entry
  edges_meet : (e : ℕ) → 0 < e → meets els e ≡ true → meets (treated els) e ≡ true
  edges_meet e l h = go (ℕ_discrete f e)
    where
      go : Dec (f ≡ e) → meets (treated els) e ≡ true
      go (no q) =
          let z : hit f e ≡ 0 = hit_no f e q in
          let a : total (as_exit e) (treated els) ≡ total (as_exit e) els = omega (arith, exits_after e, z) in
          let b : total (as_entry e) (treated els) ≡ total (as_entry e) els = omega (arith, entries_after e, z) in
          (λ i. edge_right (a i) (b i) (firsts_after e i)) ∙ h
      go (yes q) =
          let o : hit f e ≡ 1 = ap one_if (eq-eqb f e q) in
          let u : total (mentioned e) els ≡ 0 = subst (λ k. total (mentioned k) els ≡ 0) (sym (edge_is els free) ∙ q) (unmentioned els free) in
          let a : total (as_exit e) (treated els) ≡ 1 = omega (arith, exits_after e, o, u, total_most (as_exit e) (mentioned e) els every (λ el r. exit_mentioned el r e)) in
          let b : total (as_entry e) (treated els) ≡ 1 = omega (arith, entries_after e, o, u, total_most (as_entry e) (mentioned e) els every (λ el r. entry_mentioned el r e)) in
          let c : total (as_first e) (treated els) ≡ 0 = omega (arith, firsts_after e, u, total_most (as_first e) (mentioned e) els every (λ el r. first_mentioned el r e)) in
          (λ i. edge_right (a i) (b i) (c i)) ∙ (unfold edge_right if◌then◌or_else◌ in refl)

  pub one_alike : Alike els (treated els)
  one_alike =
      record {
        starts = λ k l. stays (of_kind k) (kinds_stay x x_right (is_end els some) f k l);
        tasks = λ n l. stays (as_task n) (tasks_stay x x_right (is_end els some) f n l);
        received = λ m. stays (as_received m) (received_stay x x_right (is_end els some) f m);
        sent = λ m. stays (as_sent m) (sent_stay x x_right (is_end els some) f m);
        defaults = each_stays default_once (one_default x x_right (is_end els some) f);
        binds = each_stays bound_once (one_bind x x_right (is_end els some) f);
        edges = edges_meet;
      }

  -- one unused edge less
  one_used : unused_count (treated els) + 1 ≡ unused_count els
  unfolding unused_count
  one_used = one_apart (λ k. one_if (is_unused (treated els) k)) (λ k. one_if (is_unused els k)) (k₀ els free) edges (below els free) others here
    where
      as_total : (b : List (List ℕ)) (k : ℕ) → is_unused b k ≡ eqb (total (mentioned (k + 1)) b) 0
      as_total b k = unfold is_unused in sym (total-zero (mentioned (k + 1)) b)

      others : (j : ℕ) → (j ≡ k₀ els free → ⊥) → one_if (is_unused (treated els) j) ≡ one_if (is_unused els j)
      others j q =
          let z : hit f (j + 1) ≡ 0 = hit_no f (j + 1) (λ w. q (omega (arith, edge_is els free, w))) in
          let a : total (mentioned (j + 1)) (treated els) ≡ total (mentioned (j + 1)) els = omega (arith, mentions_after (j + 1) (omega arith), z) in
          ap one_if (as_total (treated els) j ∙ ap (λ n. eqb n 0) a ∙ sym (as_total els j))

      here : one_if (is_unused (treated els) (k₀ els free)) + 1 ≡ one_if (is_unused els (k₀ els free))
      here =
          let o : hit f (k₀ els free + 1) ≡ 1 = ap one_if (eq-eqb f (k₀ els free + 1) (edge_is els free)) in
          let a = ne_eqb (total (mentioned (k₀ els free + 1)) (treated els)) 0 (λ w. omega (arith, mentions_after (k₀ els free + 1) (omega arith), o, w)) in
          ap (λ b. one_if b + 1) (as_total (treated els) (k₀ els free) ∙ a) ∙ sym (ap one_if (unused els free))

-- ALL OF THEM
abbrev pub after : List (List ℕ) → ℕ → List (List ℕ)
after els n = iter (λ k. treated) els n

pub record Turned (els : List (List ℕ)) (n : ℕ) : Type 0 where
  pub every : Every Right (after els n)
  pub alike : Alike els (after els n)
  pub long : length (after els n) ≡ length els + n
  pub ends : end_sends (after els n) + n ≡ end_sends els
  pub free : unused_count (after els n) + n ≡ unused_count els

module _ (els : List (List ℕ)) (every : Every Right els) (room : end_sends els ≤ unused_count els) where
  pub turned_by : (n : ℕ) → n ≤ end_sends els → Turned els n
  unfolding iter
  turned_by zero h =
      record {
        every = every;
        alike = alike_same els;
        long = (let q : length els ≡ length els + 0 = omega arith in q);
        ends = (let q : end_sends els + 0 ≡ end_sends els = omega arith in q);
        free = (let q : unused_count els + 0 ≡ unused_count els = omega arith in q);
      }
  turned_by (suc n) h =
      let t = turned_by n (omega arith) in
      let some : 0 < end_sends (after els n) = omega (arith, t.ends) in
      let free : 0 < unused_count (after els n) = omega (arith, t.free) in
      let x = every_in Right (after els n) [] (first_end (after els n)) t.every (found (after els n) some) in
      record {
        every = one_right (after els n) t.every some free;
        alike = alike_then els (after els n) (treated (after els n)) t.alike (one_alike (after els n) t.every some free);
        long = (treated_long (after els n) ∙ (let q : length (after els n) + 1 ≡ length els + suc n = omega (arith, t.long) in q));
        ends = (let q : end_sends (treated (after els n)) + suc n ≡ end_sends els = omega (arith, t.ends, one_less (after els n) some x.long) in q);
        free = (let q : unused_count (treated (after els n)) + suc n ≡ unused_count els = omega (arith, t.free, one_used (after els n) t.every some free) in q);
      }

  pub all_turned : Turned els (end_sends els)
  all_turned = turned_by (end_sends els) (omega arith)
