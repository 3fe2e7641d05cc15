-- What a catch event behind an event gateway receives, the gateway receives: while its lists are short, one of its branches has the name of that message. Assumes nothing.
use Prim.Native.Nat.{ℕ, zero, suc, ◌+◌, ◌*◌, ◌≤◌, ◌<◌}
use mathlib.Core.Path.{◌≡◌, refl, sym, ◌∙◌, ap, subst}
use mathlib.Core.Bool.{Bool, true, false, not, ◌&&◌}
use mathlib.Core.List.{List, [], ◌∷◌}
use mathlib.Core.Logic.{⊎_elim}
use native.Mathlib.Nat.{le_of_suc-le-suc, eq-or-lt_of_le}
use native.Mathlib.Omega.{arith}
use lib.Dec.{eqb, ltb}
use lib.ListN.{length, set}
use lib.Seq.{get_or-set_same, get_or-set_other}
use borrow.Author.Tests.{eq-eqb, eqb-true, lt-ltb}
use Rattle.base_words.specs.Counts.{branches}
use Rattle.base_words.specs.Iter.{iter}
use Rattle.base_words.specs.Pick.{if◌then◌or_else◌}
use Rattle.base_words.specs.Sum.{sum, hit, one_if}
use Rattle.base_words.specs.Words.{at}
use Rattle.base_words.proofs.AllLaws.{and_left, and_right}
use Rattle.base_words.proofs.IterLaws.{iter_keeps}
use Rattle.base_words.proofs.PickLaws.{and_true}
use Rattle.base_kinds.specs.Kinds as kinds
use Rattle.base_table.specs.Places.{entries_place, exits_place, message_place, element_words}
use Rattle.base_table.specs.Table.{kind_in, exit_count, message_name}
use Rattle.check_occurrences.specs.Occurrences.{received_count, as_received}
use Rattle.check_model.specs.Checks.{Pool, pool_receives}
use Rattle.draw_things.specs.Things.{one_more, is_node, sort, within, source, target, kind, sequence_flow, message_flow, greatest_note}
use Rattle.draw_kinds.specs.Counting.{target_in, of_sort, count_with, first_with}
use Rattle.draw_numbers.specs.Who.{is_of_kind}
use Rattle.draw_numbers.specs.Numbers.{is_element, edge_of, message_of}
use Rattle.draw_model.specs.Drawn.{with_edge, received_by, head_of, with_branch, exit_behind, exit_by, entering_by, leaving_by, by_flow, element_drawn}
use Rattle.draw_model.specs.Content.{process_of, pool_drawn}
use Rattle.draw_diagnose.specs.Seats.{is_own_message}
use Rattle.proof_map.proofs.KindLaws.{kind_drawn}
use Rattle.proof_diagnose.proofs.Choices.{choice}
use Rattle.proof_diagnose.proofs.Messages.{Long, set_long, head_long, entry_long, few_before, count_is, else_is, some_total, same_process, first_received}

one_more_lem : (a : ℕ) → a < branches → one_more a ≡ a + 1
unfolding one_more if◌then◌or_else◌
one_more_lem a l = rw (lt-ltb a greatest_note (omega (arith, l))) refl

record Held (c : ℕ) (x : List ℕ) : Type 0 where
  pub long : Long x
  pub branch : at x entries_place ≤ branches → at x exits_place ≤ branches → (j : ℕ) × (j < at x exits_place) × (at x (message_place j) ≡ c)

entered : (c : ℕ) (x : List ℕ) (e : ℕ) → Held c x → Held c (with_edge entries_place e x)
unfolding with_edge
entered c x e o =
    record {
      long = set_long _ _ _ (set_long _ _ _ o.long);
      branch = λ l m.
          let a = few_before (at x entries_place) (rw (← count_is x entries_place e o.long (omega arith)) l) in
          let i : at (with_edge entries_place e x) exits_place ≡ at x exits_place = else_is x entries_place e o.long (omega arith) exits_place (λ q. omega (arith, q)) (λ q. omega (arith, q, a)) in
          let u : at x exits_place ≤ branches = omega (arith, i, m) in
          let h = o.branch (omega (arith, a)) u in
          let s : at (with_edge entries_place e x) (message_place h.0) ≡ at x (message_place h.0) = else_is x entries_place e o.long (omega arith) (message_place h.0) (λ q. omega (arith, q)) (λ q. omega (arith, q, a)) in
          let l : h.0 < at (with_edge entries_place e x) exits_place = omega (arith, i, h.1) in
          (h.0, l, s ∙ h.2);
    }

-- a branch more, by flow f
module _ (w : List ℕ) (n f : ℕ) (x : List ℕ) (long : Long x) where
  abbrev a : ℕ
  a = at x exits_place

  abbrev r : ℕ
  r = received_by w n (target w f)

  abbrev z : List ℕ
  z = set x (message_place a) r

  abbrev more : List ℕ
  more = set (set z (exits_place + 1 + at z exits_place) (exit_behind w n f)) exits_place (one_more (at z exits_place))

  z_long : Long z
  z_long = set_long x (message_place a) r long

  z_count : at z exits_place ≡ a
  z_count = get_or-set_other x (message_place a) exits_place r 0 (λ q. omega (arith, q))

  more_count : at more exits_place ≡ one_more a
  more_count = count_is z exits_place (exit_behind w n f) z_long (omega arith) ∙ ap one_more z_count

  few : at more exits_place ≤ branches → a < branches
  few m = few_before a (rw (← more_count) m)

  others : (j : ℕ) → a < branches → (j ≡ exits_place → ⊥) → (j ≡ exits_place + 1 + a → ⊥) → (j ≡ message_place a → ⊥) → at more j ≡ at x j
  others j l p q s =
      else_is z exits_place (exit_behind w n f) z_long (omega arith) j p (λ u. q (u ∙ ap (λ (v : ℕ). exits_place + 1 + v) z_count))
      ∙ get_or-set_other x (message_place a) j r 0 s

  new_there : a < branches → at more (message_place a) ≡ r
  new_there l =
      else_is z exits_place (exit_behind w n f) z_long (omega arith) (message_place a) (λ q. omega (arith, q)) (λ q. omega (arith, q, z_count, l))
      ∙ get_or-set_same x (message_place a) r 0 (omega (arith, long.is, l))

  more_is : with_branch w n f x ≡ more
  unfolding with_branch with_edge
  more_is = refl

  more_long : Long (with_branch w n f x)
  unfolding with_branch with_edge
  more_long = set_long _ _ _ (set_long _ _ _ z_long)

  added : Held r (with_branch w n f x)
  added =
      record {
        long = more_long;
        branch = λ l m.
            let k = few (rw (← more_is) m) in
            (a, rw (more_is, more_count, one_more_lem a k) (omega arith), ap (λ (v : List ℕ). at v (message_place a)) more_is ∙ new_there k);
      }

  kept : (c : ℕ) → Held c x → Held c (with_branch w n f x)
  kept c o =
      record {
        long = more_long;
        branch = λ l m.
            let k = few (rw (← more_is) m) in
            let i : at (with_branch w n f x) entries_place ≡ at x entries_place = ap (λ (v : List ℕ). at v entries_place) more_is ∙ others entries_place k (λ q. omega (arith, q)) (λ q. omega (arith, q)) (λ q. omega (arith, q)) in
            let h = o.branch (rw (← i) l) (omega (arith, k)) in
            let s : at (with_branch w n f x) (message_place h.0) ≡ at x (message_place h.0) = ap (λ (v : List ℕ). at v (message_place h.0)) more_is ∙ others (message_place h.0) k (λ q. omega (arith, q)) (λ q. omega (arith, q, k)) (λ q. omega (arith, q, h.1)) in
            let g : at (with_branch w n f x) exits_place ≡ at x exits_place + 1 = ap (λ (v : List ℕ). at v exits_place) more_is ∙ more_count ∙ one_more_lem a k in
            (h.0, omega (arith, g, h.1), s ∙ h.2);
      }

module _ (t w : List ℕ) (n k : ℕ) (event : eqb (kind w k) kinds.event_based ≡ true) where
  entry_held : (c j : ℕ) (x : List ℕ) → Held c x → Held c (entering_by w k j x)
  unfolding entering_by
  entry_held c j x o = choice (Held c) _ _ _ (entered c x (edge_of w j) o) o

  exit_held : (c j : ℕ) (x : List ℕ) → Held c x → Held c (exit_by t w n k j x)
  unfolding exit_by if◌then◌or_else◌
  exit_held c j x o = rw event (kept w n j x o.long c o)

  exit_long : (j : ℕ) (x : List ℕ) → Long x → Long (exit_by t w n k j x)
  unfolding exit_by if◌then◌or_else◌
  exit_long j x o = rw event (more_long w n j x o)

  exit_new : (j : ℕ) (x : List ℕ) → Long x → Held (received_by w n (target w j)) (exit_by t w n k j x)
  unfolding exit_by if◌then◌or_else◌
  exit_new j x o = rw event (added w n j x o)

  stays : (c j : ℕ) (x : List ℕ) → Held c x → Held c (by_flow t w n k j x)
  unfolding by_flow leaving_by
  stays c j x o = let e = entry_held c j x o in choice (Held c) _ _ _ (choice (Held c) _ _ _ (exit_held c j (entering_by w k j x) e) e) o

  goes_long : (j : ℕ) (x : List ℕ) → Long x → Long (by_flow t w n k j x)
  unfolding by_flow leaving_by
  goes_long j x o = let e = entry_long t w n k j x o in choice Long _ _ _ (choice Long _ _ _ (exit_long j (entering_by w k j x) e) e) o

  module _ (f : ℕ) (flow : of_sort sequence_flow w f ≡ true) (from : eqb (source w f) k ≡ true) where
    begins : (x : List ℕ) → Long x → Held (received_by w n (target w f)) (by_flow t w n k f x)
    unfolding by_flow leaving_by if◌then◌or_else◌
    begins x o = rw (flow, from) (exit_new f (entering_by w k f x) (entry_long t w n k f x o))

    long_at : (m : ℕ) → Long (iter (by_flow t w n k) (head_of w n k) m)
    long_at m = iter_keeps (by_flow t w n k) (head_of w n k) Long m (λ j x h o. goes_long j x o) (head_long t w n k)

    held : (m : ℕ) → f < m → Held (received_by w n (target w f)) (iter (by_flow t w n k) (head_of w n k) m)
    unfolding iter
    held zero l = absurd (omega (arith, l))
    held (suc m) l =
        ⊎_elim (λ e. rw (← e) (begins (iter (by_flow t w n k) (head_of w n k) f) (long_at f))) (λ q. stays _ m _ (held m q)) (eq-or-lt_of_le (le_of_suc-le-suc l))

    one_hit : (g : ℕ → ℕ) (c m j : ℕ) → j < m → g j ≡ c → 0 < sum (λ i. hit (g i) c) m
    unfolding sum
    one_hit g c zero j l e = absurd (omega (arith, l))
    one_hit g c (suc m) j l e =
        ⊎_elim (λ q. let o : hit (g m) c ≡ 1 = ap one_if (eq-eqb (g m) c (ap g (sym q) ∙ e)) in omega (arith, o)) (λ q. omega (arith, one_hit g c m j q e)) (eq-or-lt_of_le (le_of_suc-le-suc l))

    pub gateway_receives : f < n → at (element_drawn t w n k) entries_place ≤ branches → at (element_drawn t w n k) exits_place ≤ branches
        → 0 < as_received (received_by w n (target w f)) (element_drawn t w n k)
    unfolding element_drawn as_received received_count exit_count kinds.used kinds.kind_of if◌then◌or_else◌
    gateway_receives l p q =
        let h = (held n l).branch p q in
        rw (kind_drawn t w n k, eqb-true (kind w k) kinds.event_based event) (one_hit (message_name (element_drawn t w n k)) (received_by w n (target w f)) (at (element_drawn t w n k) exits_place) h.0 h.1 h.2)

-- A MESSAGE FLOW k to a catch event to which flow f leads from an event gateway: its name is received in the gateway's pool
pub record Behind (t w : List ℕ) (n k f : ℕ) : Type 0 where
  pub flow : of_sort sequence_flow w f ≡ true
  pub to : target w f ≡ target w k
  pub event : is_of_kind kinds.event_based w (source w f) ≡ true
  pub same : within w (source w f) ≡ within w (target w k)
  pub told : count_with message_flow target_in (target w k) w n ≡ 1
  pub flow_inside : f < n
  pub inside : source w f < n
  pub entries : at (element_drawn t w n (source w f)) entries_place ≤ branches
  pub exits : at (element_drawn t w n (source w f)) exits_place ≤ branches

module _ (t w : List ℕ) (n k f : ℕ) (inside : k < n) (own : is_own_message w k ≡ true) (s : Behind t w n k f) where
  abbrev g : ℕ
  g = source w f

  node : is_node (sort w g) ≡ true
  unfolding is_of_kind
  node = and_left _ _ s.event

  is_gateway : eqb (kind w g) kinds.event_based ≡ true
  unfolding is_of_kind
  is_gateway = and_right (is_node (sort w g)) _ s.event

  its_name : received_by w n (target w f) ≡ message_of w k
  unfolding received_by
  its_name = ap (λ (b : ℕ). message_of w (first_with message_flow target_in b w n)) s.to ∙ ap (message_of w) (first_received t w n k inside own s.told)

  received_once : 0 < as_received (message_of w k) (element_drawn t w n g)
  received_once = rw (← its_name) (gateway_receives t w n g is_gateway f s.flow (eq-eqb g g refl) s.flow_inside s.entries s.exits)

  pub received_behind : (owned : Bool) (i : ℕ) → process_of owned w i ≡ within w (source w k) → pool_receives (message_of w k) (pool_drawn owned t w n i) ≡ true
  unfolding pool_receives pool_drawn is_element
  received_behind owned i here =
      some_total t w n (process_of owned w i) (as_received (message_of w k)) g s.inside
      (and_true _ _ node (and_true _ _ (eq-eqb _ _ (s.same ∙ sym (same_process t w n k inside own) ∙ sym here)) (rw (eqb-true (kind w g) kinds.event_based is_gateway) refl)))
      received_once
