-- Whether words are within the limits rests on those words alone: lists that begin alike are within them alike. Assumes nothing.
use Prim.Native.Nat.{ℕ, zero, suc, ◌+◌, ◌-◌, ◌*◌, ◌≤◌, ◌<◌}
use mathlib.Core.Path.{◌≡◌, ◌∙◌, refl, sym, ap, ap₂}
use mathlib.Core.Bool.{Bool, true, false, not, ◌&&◌}
use mathlib.Core.List.{List}
use native.Mathlib.Omega.{arith}
use lib.Dec.{eqb, leb, ltb}
use lib.ListN.{take, drop}
use lib.Seq.{get_or-drop, get_or-take}
use borrow.Author.Tests.{eqb-true, leb-true}
use Rattle.base_words.specs.All.{all}
use Rattle.base_words.specs.Each.{each}
use Rattle.base_words.specs.Counts.{fewest, branches, names, values, tasks, assignments}
use Rattle.base_words.specs.Pick.{if◌then◌or_else◌}
use Rattle.base_words.specs.Words.{at}
use Rattle.base_words.proofs.AllLaws.{all_at, all_of, and_left, and_right}
use Rattle.base_words.proofs.ListLaws.{each_at}
use Rattle.base_kinds.specs.declared.Kind.{Kind}
use Rattle.base_kinds.specs.Kinds.{kinds, no_kind, kind_of, used, one, many, end_snd}
use Rattle.base_kinds.specs.Moves.{a, na_nc}
use Rattle.base_table.specs.Places.{kind_place, task_place, mode_place, entries_place, exits_place, condition_place, message_place, assignments_place, assignment_place, element_words}
use Rattle.base_table.specs.Table.{kind_in}
use Rattle.check_limits.specs.Limits.{within, zeros, things, operand_fits, expression_fits, bind_fits, item_fits, condition_fits, message_fits, assignment_fits, count_fits, edge_fits, edges_fit, task_fits, conditions_fit, messages_fit, assignments_fit, parts_fit, element_fits, held_fits}

-- the first n words are the same
abbrev pub Same : ℕ → List ℕ → List ℕ → Type 0
Same n x z = (i : ℕ) → i < n → at z i ≡ at x i

pub all_ext : (f g : ℕ → Bool) (n : ℕ) → ((k : ℕ) → k < n → f k ≡ g k) → all f n ≡ all g n
unfolding all
all_ext f g zero h = refl
all_ext f g (suc n) h = ap₂ ◌&&◌ (all_ext f g n (λ k l. h k (omega arith))) (h n (omega arith))

-- what stands behind a test counts only where the test passes
guarded : (b c d e : Bool) → c ≡ b → (b ≡ true → e ≡ d) → c && e ≡ b && d
guarded true c d e q h = rw q (h refl)
guarded false c d e q h = rw q

from : (x z : List ℕ) (n a m : ℕ) → a + m ≤ n → Same n x z → Same m (drop a x) (drop a z)
from x z n a m h s i l = get_or-drop a z i 0 ∙ s (a + i) (omega arith) ∙ sym (get_or-drop a x i 0)

pub zeros_same : (x z : List ℕ) (n : ℕ) → Same n x z → zeros z n ≡ zeros x n
unfolding zeros
zeros_same x z n s = all_ext (λ k. eqb (at z k) 0) (λ k. eqb (at x k) 0) n (λ k l. ap (λ (v : ℕ). eqb v 0) (s k l))

-- things of w words each, of m in all
pub things_same : (x z : List ℕ) (w n k m : ℕ) (right : List ℕ → Bool) → ((j : ℕ) → j < k → w * j + w ≤ m) → w * k + w * (n - k) ≤ m
    → ((c d : List ℕ) → Same w c d → right d ≡ right c) → Same m x z → things z w n k right ≡ things x w n k right
unfolding things
things_same x z w n k m right l u r s =
    ap₂ ◌&&◌
    (all_ext (λ j. right (drop (w * j) z)) (λ j. right (drop (w * j) x)) k (λ j i. r (drop (w * j) x) (drop (w * j) z) (from x z m (w * j) w (l j i) s)))
    (zeros_same (drop (w * k) x) (drop (w * k) z) (w * (n - k)) (from x z m (w * k) (w * (n - k)) u s))

pub operand_same : (x z : List ℕ) → Same 2 x z → operand_fits z ≡ operand_fits x
unfolding operand_fits
operand_same x z s = rw (s 0 (omega arith), s 1 (omega arith))

module _ (x z : List ℕ) where
  pub expression_same : Same 5 x z → expression_fits z ≡ expression_fits x
  unfolding expression_fits
  expression_same s =
      rw (s 0 (omega arith), operand_same (drop 1 x) (drop 1 z) (from x z 5 1 2 (omega arith) s), operand_same (drop 3 x) (drop 3 z) (from x z 5 3 2 (omega arith) s), zeros_same (drop 3 x) (drop 3 z) 2 (from x z 5 3 2 (omega arith) s))

  pub item_same : (receives : ℕ) → Same 5 x z → item_fits receives z ≡ item_fits receives x
  unfolding item_fits bind_fits
  item_same receives s =
      rw (s 0 (omega arith), s 1 (omega arith), s 2 (omega arith), zeros_same (drop 3 x) (drop 3 z) 2 (from x z 5 3 2 (omega arith) s), expression_same s)

  pub condition_same : (conditions : ℕ) → Same 5 x z → condition_fits conditions z ≡ condition_fits conditions x
  unfolding condition_fits
  condition_same conditions s =
      rw (
        s 0 (omega arith),
        zeros_same (drop 1 x) (drop 1 z) 4 (from x z 5 1 4 (omega arith) s),
        operand_same (drop 1 x) (drop 1 z) (from x z 5 1 2 (omega arith) s),
        operand_same (drop 3 x) (drop 3 z) (from x z 5 3 2 (omega arith) s),
      )

-- how many edges a list has
pub count_most_lem : (column n : ℕ) → column ≤ many → count_fits column n ≡ true → n ≤ branches
unfolding count_fits if◌then◌or_else◌
count_most_lem column n c h = by (eqb column many) refl
  where
    by : (b : Bool) → eqb column many ≡ b → n ≤ branches
    by true e = leb-true n branches (and_right (leb fewest n) (leb n branches) (rw e at h))
    by false e = let q = eqb-true n column (rw e at h) in omega (arith, q, c)

module _ (x z : List ℕ) where
  pub assignment_same : Same 6 x z → assignment_fits z ≡ assignment_fits x
  unfolding assignment_fits
  assignment_same s = rw (s 0 (omega arith), expression_same (drop 1 x) (drop 1 z) (from x z 6 1 5 (omega arith) s))

  pub message_same : (receives : ℕ) → Same 22 x z → message_fits receives z ≡ message_fits receives x
  unfolding message_fits
  message_same receives s =
      rw (s 0 (omega arith), s 1 (omega arith))
      (guarded (ltb (at x 0) names && leb (at x 1) values) _ _ _ refl
      (λ e. let k = leb-true (at x 1) values (and_right (ltb (at x 0) names) (leb (at x 1) values) e) in
      things_same (drop 2 x) (drop 2 z) 5 values (at x 1) 20 (item_fits receives) (λ j l. omega (arith, l, k)) (omega (arith, k))
      (λ c d f. item_same c d receives f)
      (from x z 22 2 20 (omega arith) s)))

  pub edges_same : (column : ℕ) → column ≤ many → Same 9 x z → edges_fit column z ≡ edges_fit column x
  unfolding edges_fit
  edges_same column c s =
      rw (s 0 (omega arith))
      (guarded (count_fits column (at x 0)) _ _ _ refl
      (λ e. let k = count_most_lem column (at x 0) c e in
      things_same (drop 1 x) (drop 1 z) 1 branches (at x 0) 8 edge_fits (λ j l. omega (arith, l, k)) (omega (arith, k))
      (λ c d f. unfold edge_fits in rw (f 0 (omega arith)))
      (from x z 9 1 8 (omega arith) s)))

-- THE ROWS: no cell is above many
low : (f : Kind → ℕ) → each (λ r. leb (f r) many) kinds ≡ true → leb (f no_kind) many ≡ true → (k : ℕ) → f (kind_of k) ≤ many
unfolding kind_of
low f e o k = leb-true (f (kind_of k)) many (each_at (λ r. leb (f r) many) kinds no_kind e o k)

pub used_most : (holds n : ℕ) → holds ≤ many → n ≤ branches → used holds n ≤ branches
unfolding used if◌then◌or_else◌
used_most holds n l h = by (eqb holds many) refl
  where
    by : (b : Bool) → eqb holds many ≡ b → used holds n ≤ branches
    by true e = rw e h
    by false e = rw e (omega (arith, l))

assignments_most : (task : ℕ) (el : List ℕ) → task_fits task el ≡ true → at el assignments_place ≤ assignments
unfolding task_fits if◌then◌or_else◌
assignments_most task el h = by (eqb task one) refl
  where
    by : (b : Bool) → eqb task one ≡ b → at el assignments_place ≤ assignments
    by true e = leb-true (at el assignments_place) assignments (and_right (within 1 tasks (at el task_place) && within a na_nc (at el mode_place)) _ (rw e at h))
    by false e =
        let q = eqb-true (at el assignments_place) 0 (and_right (eqb (at el task_place) 0 && eqb (at el mode_place) 0) _ (rw e at h)) in
        omega (arith, q)

-- A WHOLE ELEMENT
module _ (x z : List ℕ) (s : Same element_words x z) where
  task_same : (task : ℕ) → task_fits task z ≡ task_fits task x
  unfolding task_fits
  task_same task = rw (s task_place (omega arith), s mode_place (omega arith), s assignments_place (omega arith))

  conditions_same : (conditions : ℕ) → conditions ≤ many → at x exits_place ≤ branches → conditions_fit conditions z ≡ conditions_fit conditions x
  unfolding conditions_fit
  conditions_same conditions c n =
      let k = used_most conditions (at x exits_place) c n in
      rw (s exits_place (omega arith))
      (things_same (drop (condition_place 0) x) (drop (condition_place 0) z) 5 branches (used conditions (at x exits_place)) 40 (condition_fits conditions) (λ j l. omega (arith, l, k)) (omega (arith, k))
      (λ c d e. condition_same c d conditions e) (from x z element_words (condition_place 0) 40 (omega arith) s))

  messages_same : (receives sends : ℕ) → receives + sends ≤ many → at x exits_place ≤ branches → messages_fit receives sends z ≡ messages_fit receives sends x
  unfolding messages_fit
  messages_same receives sends c n =
      let k = used_most (receives + sends) (at x exits_place) c n in
      rw (s exits_place (omega arith))
      (things_same (drop (message_place 0) x) (drop (message_place 0) z) 22 branches (used (receives + sends) (at x exits_place)) 176 (message_fits receives) (λ j l. omega (arith, l, k)) (omega (arith, k))
      (λ c d e. message_same c d receives e) (from x z element_words (message_place 0) 176 (omega arith) s))

  assignments_same : at x assignments_place ≤ assignments → assignments_fit z ≡ assignments_fit x
  unfolding assignments_fit
  assignments_same k =
      rw (s assignments_place (omega arith))
      (things_same (drop (assignment_place 0) x) (drop (assignment_place 0) z) 6 assignments (at x assignments_place) 24 assignment_fits (λ j l. omega (arith, l, k)) (omega (arith, k))
      (λ c d e. assignment_same c d e) (from x z element_words (assignment_place 0) 24 (omega arith) s))

  exits_most : (column : ℕ) → column ≤ many → edges_fit column (drop exits_place x) ≡ true → at x exits_place ≤ branches
  unfolding edges_fit
  exits_most column c h =
      rw (← get_or-drop exits_place x 0 0) (count_most_lem column (at (drop exits_place x) 0) c (and_left (count_fits column (at (drop exits_place x) 0)) _ h))

  parts_same : (r : Kind) → r.entries ≤ many → r.exits ≤ many → r.conditions ≤ many → r.receives + r.sends ≤ many → parts_fit r z ≡ parts_fit r x
  unfolding parts_fit
  parts_same r e o c m =
      guarded (T && E && X && C && M) _ _ _
      (guarded (T && E && X && C) _ _ _
      (guarded (T && E && X) _ _ _
      (guarded (T && E) _ _ _
      (guarded T _ _ _ (task_same r.task) (λ _. edges_same (drop entries_place x) (drop entries_place z) r.entries e (from x z element_words entries_place 9 (omega arith) s)))
      (λ _. edges_same (drop exits_place x) (drop exits_place z) r.exits o (from x z element_words exits_place 9 (omega arith) s)))
      (λ h. conditions_same r.conditions c (n h)))
      (λ h. messages_same r.receives r.sends m (n (and_left (T && E && X) C h))))
      (λ h. assignments_same (assignments_most r.task x (and_left T E (and_left (T && E) X (and_left (T && E && X) C (and_left (T && E && X && C) M h))))))
    where
      T : Bool
      T = task_fits r.task x

      E : Bool
      E = edges_fit r.entries (drop entries_place x)

      X : Bool
      X = edges_fit r.exits (drop exits_place x)

      C : Bool
      C = conditions_fit r.conditions x

      M : Bool
      M = messages_fit r.receives r.sends x

      n : T && E && X ≡ true → at x exits_place ≤ branches
      n h = exits_most r.exits o (and_right (T && E) X h)

  pub element_same : element_fits z ≡ element_fits x
  unfolding element_fits each
  element_same =
      ap (λ (k : ℕ). not (eqb (kind_of k).letters 0) && parts_fit (kind_of k) z) (s kind_place (omega arith))
      ∙ guarded (not (eqb (kind_of (kind_in x)).letters 0)) _ _ _ refl
      (λ _. parts_same (kind_of (kind_in x)) (low (λ r. r.entries) refl refl (kind_in x)) (low (λ r. r.exits) refl refl (kind_in x)) (low (λ r. r.conditions) refl refl (kind_in x)) (low (λ r. r.receives + r.sends) refl refl (kind_in x)))

-- what a table holds is within the limits of an element
pub held_fits_lem : (el : List ℕ) → held_fits el ≡ true → element_fits el ≡ true
unfolding held_fits
held_fits_lem el h = and_left (element_fits el) _ h

pub held_all : (x : List ℕ) (w n k : ℕ) → things x w n k held_fits ≡ true → things x w n k element_fits ≡ true
unfolding things
held_all x w n k h =
    ap₂ ◌&&◌
    (all_of (λ j. element_fits (drop (w * j) x)) k (λ j l. held_fits_lem (drop (w * j) x) (all_at (λ j. held_fits (drop (w * j) x)) k (and_left _ (zeros (drop (w * k) x) (w * (n - k))) h) j l)))
    (and_right (all (λ j. held_fits (drop (w * j) x)) k) _ h)

-- an element cut out of what stands behind it, as a table holds it
pub held_cut : (n : ℕ) (x : List ℕ) → n ≡ element_words → held_fits (take n x) ≡ held_fits x
unfolding held_fits
held_cut n x e =
    ap₂ (λ b k. b && not (eqb k end_snd)) (element_same x (take n x) (λ i l. get_or-take n x i 0 (omega (arith, l, e)))) (get_or-take n x kind_place 0 (omega (arith, e)))
