-- THE WORDS OF AN ELEMENT IN THE MAKING: so many entries, exits, conditions and messages, and 0 elsewhere. It is within its limits where they are as many as its row says. Assumes nothing.
use Prim.Native.Nat.{ℕ, zero, suc, ◌+◌, ◌-◌, ◌*◌, ◌≤◌, ◌<◌}
use mathlib.Core.Path.{◌≡◌, ◌∙◌, refl, sym, ap, ap₂, subst}
use mathlib.Core.Bool.{Bool, true, false, not, ◌&&◌}
use mathlib.Core.List.{List, [], ◌∷◌}
use native.Mathlib.Decide.{ℕ_discrete}
use native.Mathlib.Omega.{arith}
use lib.Dec.{eqb, leb, ltb}
use lib.ListN.{length, drop, set, length-set}
use lib.Seq.{get_or-drop, get_or-set_same, get_or-set_other, drop-drop}
use borrow.Author.Tests.{eq-eqb, lt-ltb, le-leb}
use Rattle.base_words.specs.Counts.{branches, edges, names, tasks, values, assignments}
use Rattle.base_words.specs.Pick.{if◌then◌or_else◌}
use Rattle.base_words.specs.Words.{at}
use Rattle.base_words.proofs.PickLaws.{and_true}
use Rattle.base_kinds.specs.Kinds.{kind_of, used, one, many}
use Rattle.base_kinds.specs.Moves.{a, na_nc}
use Rattle.base_table.specs.Places.{kind_place, task_place, mode_place, entries_place, exits_place, edge_place, condition_place, message_place, assignments_place, assignment_place, assignment_words, element_words, expression_words, message_words}
use Rattle.base_table.specs.Table.{kind_in}
use Rattle.check_limits.specs.Limits.{within, zeros, things, condition_fits, item_fits, message_fits, assignment_fits, count_fits, edges_fit, task_fits, conditions_fit, messages_fit, assignments_fit, parts_fit, element_fits}
use Rattle.check_limits.proofs.SameLaws.{condition_same}
use Rattle.draw_things.specs.Things.{one_more}
use Rattle.draw_model.specs.Drawn.{with_edge}
use Rattle.proof_roundtrip.proofs.ListFills.{things_of}
use Rattle.proof_roundtrip.proofs.EdgeFills.{edges_of}
use Rattle.proof_drawings.proofs.TestLaws.{more_is}

-- z has the words of x but for n of them from a on
pub record Elsewhere (x z : List ℕ) (a n : ℕ) : Type 0 where
  pub long : length z ≡ length x
  pub before : (i : ℕ) → i < a → at z i ≡ at x i
  pub behind : (i : ℕ) → a + n ≤ i → at z i ≡ at x i

pub put_else : (x : List ℕ) (i v : ℕ) → Elsewhere x (set x i v) i 1
put_else x i v =
    record {
      long = length-set x i v;
      before = λ j l. get_or-set_other x i j v 0 (λ e. omega (arith, e, l));
      behind = λ j l. get_or-set_other x i j v 0 (λ e. omega (arith, e, l));
    }

pub else_then : (x y z : List ℕ) (a n : ℕ) → Elsewhere x y a n → Elsewhere y z a n → Elsewhere x z a n
else_then x y z a n p q =
    record { long = q.long ∙ p.long; before = λ i l. q.before i l ∙ p.before i l; behind = λ i l. q.behind i l ∙ p.behind i l }

pub else_wide : (x z : List ℕ) (a n b m : ℕ) → b ≤ a → a + n ≤ b + m → Elsewhere x z a n → Elsewhere x z b m
else_wide x z a n b m l u p =
    record { long = p.long; before = λ i h. p.before i (omega (arith, h, l)); behind = λ i h. p.behind i (omega (arith, h, u)) }

-- the same words in a region
abbrev Alike : List ℕ → List ℕ → ℕ → ℕ → Type 0
Alike x z a b = (i : ℕ) → a ≤ i → i < b → at z i ≡ at x i

-- A LIST OF EDGES
pub record Edges (list n : ℕ) (x : List ℕ) : Type 0 where
  pub few : n ≤ branches
  pub count : at x list ≡ n
  pub low : (j : ℕ) → j < n → 1 ≤ at x (edge_place list j)
  pub high : (j : ℕ) → j < n → at x (edge_place list j) ≤ edges
  pub none : (i : ℕ) → list + 1 + n ≤ i → i < list + 9 → at x i ≡ 0

edges_kept : (list n : ℕ) (x z : List ℕ) → Alike x z list (list + 9) → Edges list n x → Edges list n z
edges_kept list n x z s e =
    record {
      few = e.few;
      count = s list (omega arith) (omega arith) ∙ e.count;
      low = λ j l. let q = s (edge_place list j) (omega arith) (omega (arith, l, e.few)) in omega (arith, q, e.low j l);
      high = λ j l. let q = s (edge_place list j) (omega arith) (omega (arith, l, e.few)) in omega (arith, q, e.high j l);
      none = λ i l u. s i (omega (arith, l)) u ∙ e.none i l u;
    }

module _ (list n e : ℕ) (x : List ℕ) (is : Edges list n x) (room : n < branches) where
  abbrev x₁ : List ℕ
  x₁ = set x (edge_place list n) e

  abbrev x₂ : List ℕ
  x₂ = set x₁ list (n + 1)

  edge_is : with_edge list e x ≡ x₂
  unfolding with_edge
  edge_is =
      ap (λ (k : ℕ). set (set x (edge_place list k) e) list (one_more k)) is.count
      ∙ ap (set x₁ list) (more_is n (omega (arith, room)))

  edge_else : Elsewhere x (with_edge list e x) list 9
  edge_else =
      subst (λ (z : List ℕ). Elsewhere x z list 9) (sym edge_is)
      (else_then x x₁ x₂ list 9 (else_wide x x₁ (edge_place list n) 1 list 9 (omega arith) (omega (arith, room)) (put_else x (edge_place list n) e))
      (else_wide x₁ x₂ list 1 list 9 (omega arith) (omega arith) (put_else x₁ list (n + 1))))

  edge_more : list + 9 ≤ length x → 1 ≤ e → e ≤ edges → Edges list (n + 1) (with_edge list e x)
  edge_more long l u = subst (Edges list (n + 1)) (sym edge_is) now
    where
      first : (j : ℕ) → j < n → at x₂ (edge_place list j) ≡ at x (edge_place list j)
      first j h =
          get_or-set_other x₁ list (edge_place list j) (n + 1) 0 (λ q. omega (arith, q))
          ∙ get_or-set_other x (edge_place list n) (edge_place list j) e 0 (λ q. omega (arith, q, h))

      new : at x₂ (edge_place list n) ≡ e
      new =
          get_or-set_other x₁ list (edge_place list n) (n + 1) 0 (λ q. omega (arith, q))
          ∙ get_or-set_same x (edge_place list n) e 0 (omega (arith, long, room))

      each : (P : ℕ → Type 0) → ((j : ℕ) → j < n → P (at x (edge_place list j))) → P e → (j : ℕ) → j < n + 1 → P (at x₂ (edge_place list j))
      each P f g j h = go (ℕ_discrete j n)
        where
          go : Dec (j ≡ n) → P (at x₂ (edge_place list j))
          go (yes q) = subst P (sym (ap (λ (k : ℕ). at x₂ (edge_place list k)) q ∙ new)) g
          go (no q) = let m : j < n = omega (arith, h, q) in subst P (sym (first j m)) (f j m)

      now : Edges list (n + 1) x₂
      now =
          record {
            few = omega (arith, room);
            count = get_or-set_same x₁ list (n + 1) 0 (omega (arith, long, length-set x (edge_place list n) e));
            low = each (λ (v : ℕ). 1 ≤ v) is.low l;
            high = each (λ (v : ℕ). v ≤ edges) is.high u;
            none = λ i b c.
                get_or-set_other x₁ list i (n + 1) 0 (λ q. omega (arith, q, b))
                ∙ get_or-set_other x (edge_place list n) i e 0 (λ q. omega (arith, q, b))
                ∙ is.none i (omega (arith, b)) c;
          }

-- CONDITIONS
pub record Guards (c n : ℕ) (x : List ℕ) : Type 0 where
  pub few : n ≤ branches
  pub each : (b : ℕ) → b < n → condition_fits c (drop (condition_place b) x) ≡ true
  pub none : (i : ℕ) → condition_place n ≤ i → i < message_place 0 → at x i ≡ 0

condition_kept : (c b : ℕ) (x z : List ℕ) → Alike x z (condition_place b) (condition_place b + 5) → condition_fits c (drop (condition_place b) x) ≡ true → condition_fits c (drop (condition_place b) z) ≡ true
condition_kept c b x z s h =
    condition_same (drop (condition_place b) x) (drop (condition_place b) z) c
    (λ i l. get_or-drop (condition_place b) z i 0 ∙ s (condition_place b + i) (omega arith) (omega (arith, l)) ∙ sym (get_or-drop (condition_place b) x i 0))
    ∙ h

guards_kept : (c n : ℕ) (x z : List ℕ) → Alike x z (condition_place 0) (message_place 0) → Guards c n x → Guards c n z
guards_kept c n x z s g =
    record {
      few = g.few;
      each = λ b l. condition_kept c b x z (λ i h u. s i (omega (arith, h)) (omega (arith, u, l, g.few))) (g.each b l);
      none = λ i l u. s i (omega (arith, l)) u ∙ g.none i l u;
    }

guard_more : (c n : ℕ) (x z : List ℕ) → n < branches → Elsewhere x z (condition_place n) 5 → condition_fits c (drop (condition_place n) z) ≡ true → Guards c n x → Guards c (n + 1) z
guard_more c n x z room s h g =
    record { few = omega (arith, room); each = λ b l. at_b b l (ℕ_discrete b n); none = λ i l u. s.behind i (omega (arith, l)) ∙ g.none i (omega (arith, l)) u }
  where
    at_b : (b : ℕ) → b < n + 1 → Dec (b ≡ n) → condition_fits c (drop (condition_place b) z) ≡ true
    at_b b l (yes q) = ap (λ (k : ℕ). condition_fits c (drop (condition_place k) z)) q ∙ h
    at_b b l (no q) = let m : b < n = omega (arith, l, q) in condition_kept c b x z (λ i h u. s.before i (omega (arith, u, m))) (g.each b m)

-- MESSAGES are names, with the empty tuple
pub record Named (n : ℕ) (x : List ℕ) : Type 0 where
  pub few : n ≤ branches
  pub each : (b : ℕ) → b < n → at x (message_place b) < names
  pub none : (i : ℕ) → message_place 0 ≤ i → i < assignments_place → ((b : ℕ) → b < n → i ≡ message_place b → ⊥) → at x i ≡ 0

named_kept : (n : ℕ) (x z : List ℕ) → Alike x z (message_place 0) assignments_place → Named n x → Named n z
named_kept n x z s m =
    record {
      few = m.few;
      each = λ b l. let q = s (message_place b) (omega arith) (omega (arith, l, m.few)) in omega (arith, q, m.each b l);
      none = λ i l u h. s i l u ∙ m.none i l u h;
    }

named_more : (n v : ℕ) (x : List ℕ) → n < branches → assignments_place ≤ length x → v < names → Named n x → Named (n + 1) (set x (message_place n) v)
named_more n v x room long h m =
    record {
      few = omega (arith, room);
      each = λ b l. at_b b l (ℕ_discrete b n);
      none = λ i l u q. get_or-set_other x (message_place n) i v 0 (λ e. q n (omega arith) e) ∙ m.none i l u (λ b k e. q b (omega (arith, k)) e);
    }
  where
    at_b : (b : ℕ) → b < n + 1 → Dec (b ≡ n) → at (set x (message_place n) v) (message_place b) < names
    at_b b l (yes q) =
        let e : at (set x (message_place n) v) (message_place b) ≡ v =
        ap (λ (k : ℕ). at (set x (message_place n) v) (message_place k)) q ∙ get_or-set_same x (message_place n) v 0 (omega (arith, long, room)) in
        omega (arith, e, h)
    at_b b l (no q) =
        let k : b < n = omega (arith, l, q) in
        let e = get_or-set_other x (message_place n) (message_place b) v 0 (λ y. omega (arith, y, k)) in
        omega (arith, e, m.each b k)

-- THE WHOLE: its kind, task number and mode, and how many of each
pub record Shape (c t m i o g q : ℕ) (x : List ℕ) : Type 0 where
  pub long : length x ≡ element_words
  pub kind : at x kind_place ≡ c
  pub task : at x task_place ≡ t
  pub mode : at x mode_place ≡ m
  pub entries : Edges entries_place i x
  pub exits : Edges exits_place o x
  pub guards : Guards (kind_of c).conditions g x
  pub named : Named q x
  pub tail : (j : ℕ) → assignments_place ≤ j → at x j ≡ 0

module _ (c t m i o g q : ℕ) (x : List ℕ) (s : Shape c t m i o g q x) where
  pub shape_entry : (e : ℕ) → i < branches → 1 ≤ e → e ≤ edges → Shape c t m (i + 1) o g q (with_edge entries_place e x)
  shape_entry e room l u =
      let w = edge_else entries_place i e x s.entries room in
      record {
        long = w.long ∙ s.long;
        kind = w.before kind_place (omega arith) ∙ s.kind;
        task = w.before task_place (omega arith) ∙ s.task;
        mode = w.before mode_place (omega arith) ∙ s.mode;
        entries = edge_more entries_place i e x s.entries room (omega (arith, s.long)) l u;
        exits = edges_kept exits_place o x _ (λ j a b. w.behind j (omega (arith, a))) s.exits;
        guards = guards_kept (kind_of c).conditions g x _ (λ j a b. w.behind j (omega (arith, a))) s.guards;
        named = named_kept q x _ (λ j a b. w.behind j (omega (arith, a))) s.named;
        tail = λ j a. w.behind j (omega (arith, a)) ∙ s.tail j a;
      }

  pub shape_exit : (e : ℕ) → o < branches → 1 ≤ e → e ≤ edges → Shape c t m i (o + 1) g q (with_edge exits_place e x)
  shape_exit e room l u =
      let w = edge_else exits_place o e x s.exits room in
      record {
        long = w.long ∙ s.long;
        kind = w.before kind_place (omega arith) ∙ s.kind;
        task = w.before task_place (omega arith) ∙ s.task;
        mode = w.before mode_place (omega arith) ∙ s.mode;
        entries = edges_kept entries_place i x _ (λ j a b. w.before j (omega (arith, b))) s.entries;
        exits = edge_more exits_place o e x s.exits room (omega (arith, s.long)) l u;
        guards = guards_kept (kind_of c).conditions g x _ (λ j a b. w.behind j (omega (arith, a))) s.guards;
        named = named_kept q x _ (λ j a b. w.behind j (omega (arith, a))) s.named;
        tail = λ j a. w.behind j (omega (arith, a)) ∙ s.tail j a;
      }

  pub shape_guard : (z : List ℕ) → g < branches → Elsewhere x z (condition_place g) 5 → condition_fits (kind_of c).conditions (drop (condition_place g) z) ≡ true → Shape c t m i o (g + 1) q z
  shape_guard z room w h =
      record {
        long = w.long ∙ s.long;
        kind = w.before kind_place (omega arith) ∙ s.kind;
        task = w.before task_place (omega arith) ∙ s.task;
        mode = w.before mode_place (omega arith) ∙ s.mode;
        entries = edges_kept entries_place i x z (λ j a b. w.before j (omega (arith, b))) s.entries;
        exits = edges_kept exits_place o x z (λ j a b. w.before j (omega (arith, b))) s.exits;
        guards = guard_more (kind_of c).conditions g x z room w h s.guards;
        named = named_kept q x z (λ j a b. w.behind j (omega (arith, a, room))) s.named;
        tail = λ j a. w.behind j (omega (arith, a, room)) ∙ s.tail j a;
      }

  pub shape_name : (v : ℕ) → q < branches → v < names → Shape c t m i o g (q + 1) (set x (message_place q) v)
  shape_name v room h =
      let w = put_else x (message_place q) v in
      record {
        long = w.long ∙ s.long;
        kind = w.before kind_place (omega arith) ∙ s.kind;
        task = w.before task_place (omega arith) ∙ s.task;
        mode = w.before mode_place (omega arith) ∙ s.mode;
        entries = edges_kept entries_place i x _ (λ j a b. w.before j (omega (arith, b))) s.entries;
        exits = edges_kept exits_place o x _ (λ j a b. w.before j (omega (arith, b))) s.exits;
        guards = guards_kept (kind_of c).conditions g x _ (λ j a b. w.before j (omega (arith, b))) s.guards;
        named = named_more q v x room (omega (arith, s.long)) h s.named;
        tail = λ j a. w.behind j (omega (arith, a, room)) ∙ s.tail j a;
      }

  -- WITHIN ITS LIMITS
  message_fits_lem : (receives b : ℕ) → b < q → message_fits receives (drop (message_place b) x) ≡ true
  unfolding message_fits
  message_fits_lem receives b l =
      let f = s.named.few in
      let n : at (drop (message_place b) x) 0 ≡ at x (message_place b) = get_or-drop (message_place b) x 0 0 ∙ ap (at x) (let e : message_place b + 0 ≡ message_place b = omega arith in e) in
      let z : at (drop (message_place b) x) 1 ≡ 0 = get_or-drop (message_place b) x 1 0 ∙ blank 1 (omega arith) (omega arith) in
      and_true _ _
      (and_true _ _ (lt-ltb (at (drop (message_place b) x) 0) names (omega (arith, n, s.named.each b l))) (le-leb (at (drop (message_place b) x) 1) values (omega (arith, z))))
      (ap (λ (k : ℕ). things (drop 2 (drop (message_place b) x)) 5 values k (item_fits receives)) z
      ∙ ap (λ (y : List ℕ). things y 5 values 0 (item_fits receives)) (drop-drop 2 (message_place b) x)
      ∙ things_of x (message_place b + 2) 5 values 0 (item_fits receives) (λ j h. absurd (omega (arith, h)))
      (λ i r. let p : i ≡ message_place b + (i - message_place b) = omega (arith, r.0) in ap (at x) p ∙ blank (i - message_place b) (omega (arith, r.0)) (omega (arith, r.1, r.0))))
    where
      blank : (k : ℕ) → 0 < k → k < 22 → at x (message_place b + k) ≡ 0
      blank k h u = s.named.none (message_place b + k) (omega arith) (omega (arith, u, l, s.named.few)) (λ d r e. omega (arith, e, h, u))

  task_right : (task : ℕ) → (if eqb task one then within 1 tasks t && within a na_nc m or_else eqb t 0 && eqb m 0) ≡ true → task_fits task x ≡ true
  unfolding task_fits
  task_right task = go (eqb task one)
    where
      none : at x assignments_place ≡ 0
      none = s.tail assignments_place (omega arith)

      go : (b : Bool) → (if b then within 1 tasks t && within a na_nc m or_else eqb t 0 && eqb m 0) ≡ true
          → (if b then within 1 tasks (at x task_place) && within a na_nc (at x mode_place) && leb (at x assignments_place) assignments
          or_else eqb (at x task_place) 0 && eqb (at x mode_place) 0 && eqb (at x assignments_place) 0) ≡ true
      go true h = unfold if◌then◌or_else◌ in and_true _ _ (ap₂ (λ u v. within 1 tasks u && within a na_nc v) s.task s.mode ∙ (unfold if◌then◌or_else◌ in h)) (le-leb (at x assignments_place) assignments (omega (arith, none)))
      go false h = unfold if◌then◌or_else◌ in and_true _ _ (ap₂ (λ u v. eqb u 0 && eqb v 0) s.task s.mode ∙ (unfold if◌then◌or_else◌ in h)) (eq-eqb (at x assignments_place) 0 none)

  pub shape_fits : not (eqb (kind_of c).letters 0) ≡ true
      → (if eqb (kind_of c).task one then within 1 tasks t && within a na_nc m or_else eqb t 0 && eqb m 0) ≡ true
      → count_fits (kind_of c).entries i ≡ true → count_fits (kind_of c).exits o ≡ true
      → used (kind_of c).conditions o ≡ g → used ((kind_of c).receives + (kind_of c).sends) o ≡ q → element_fits x ≡ true
  unfolding element_fits parts_fit conditions_fit messages_fit assignments_fit
  shape_fits letters task ins outs conditions messages =
      ap (λ (k : ℕ). not (eqb (kind_of k).letters 0) && parts_fit (kind_of k) x) s.kind
      ∙ and_true _ _ letters
      (and_true _ _ (and_true _ _ (and_true _ _ (and_true _ _ (and_true _ _ (task_right (kind_of c).task task) entries_are) exits_are) conditions_are) messages_are) assignments_are)
    where
      entries_are : edges_fit (kind_of c).entries (drop entries_place x) ≡ true
      entries_are = let e = s.entries in edges_of (kind_of c).entries entries_place i x e.count e.few ins (λ j l. (e.low j l, e.high j l)) e.none

      exits_are : edges_fit (kind_of c).exits (drop exits_place x) ≡ true
      exits_are = let e = s.exits in edges_of (kind_of c).exits exits_place o x e.count e.few outs (λ j l. (e.low j l, e.high j l)) e.none

      conditions_are : things (drop (condition_place 0) x) expression_words branches (used (kind_of c).conditions (at x exits_place)) (condition_fits (kind_of c).conditions) ≡ true
      conditions_are =
          ap (λ (n : ℕ). things (drop (condition_place 0) x) expression_words branches n (condition_fits (kind_of c).conditions)) (ap (used (kind_of c).conditions) s.exits.count ∙ conditions)
          ∙ things_of x (condition_place 0) expression_words branches g (condition_fits (kind_of c).conditions) s.guards.each (λ j r. s.guards.none j r.0 (omega (arith, r.1, s.guards.few)))

      messages_are : things (drop (message_place 0) x) message_words branches (used ((kind_of c).receives + (kind_of c).sends) (at x exits_place)) (message_fits (kind_of c).receives) ≡ true
      messages_are =
          ap (λ (n : ℕ). things (drop (message_place 0) x) message_words branches n (message_fits (kind_of c).receives)) (ap (used ((kind_of c).receives + (kind_of c).sends)) s.exits.count ∙ messages)
          ∙ things_of x (message_place 0) message_words branches q (message_fits (kind_of c).receives) (message_fits_lem (kind_of c).receives)
          (λ j r. s.named.none j (omega (arith, r.0)) (omega (arith, r.1, s.named.few)) (λ b l e. omega (arith, r.0, l, e)))

      assignments_are : things (drop (assignment_place 0) x) assignment_words assignments (at x assignments_place) assignment_fits ≡ true
      assignments_are =
          ap (λ (n : ℕ). things (drop (assignment_place 0) x) assignment_words assignments n assignment_fits) (s.tail assignments_place (omega arith))
          ∙ things_of x (assignment_place 0) assignment_words assignments 0 assignment_fits (λ j h. absurd (omega (arith, h))) (λ j r. s.tail j (omega (arith, r.0)))
