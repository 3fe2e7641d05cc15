-- ONE endSnd x, within its limits, that goes to the edge f now: the send y, and the end for it. Assumes nothing.
use Prim.Native.Nat.{ℕ, zero, suc, ◌+◌, ◌-◌, ◌*◌, ◌≤◌, ◌<◌}
use mathlib.Core.Path.{◌≡◌, refl, sym, ◌∙◌, ap, ap₂}
use mathlib.Core.Bool.{Bool, true, false, not, ◌&&◌}
use mathlib.Core.List.{List, [], ◌∷◌}
use mathlib.Core.Logic.{◌⊎◌, inl, inr}
use native.Mathlib.Decide.{ℕ_discrete}
use native.Mathlib.Omega.{arith}
use lib.Dec.{eqb, leb}
use lib.ListN.{length, set, drop, replicate, length-set, length-replicate}
use lib.Seq.{get_or-drop, get_or-set_same, get_or-set_other, drop-drop}
use borrow.Author.Tests.{eqb-true, eq-eqb, le-leb}
use Rattle.base_words.specs.All.{all}
use Rattle.base_words.specs.Counts.{branches, edges}
use Rattle.base_words.specs.Pick.{if◌then◌or_else◌}
use Rattle.base_words.specs.Words.{at, greatest}
use Rattle.base_words.proofs.AllLaws.{all_of, and_left, and_right}
use Rattle.base_words.proofs.PickLaws.{and_true}
use Rattle.base_kinds.specs.Kinds.{kind_of, used, end, end_snd, inter_snd, none, one}
use Rattle.base_table.specs.Places.{kind_place, task_place, mode_place, entries_place, exits_place, edge_place, condition_place, message_place, assignments_place, assignment_place, element_words}
use Rattle.base_table.specs.Table.{kind_in}
use Rattle.check_limits.specs.Limits.{zeros, things, operand_fits, expression_fits, item_fits, condition_fits, message_fits, assignment_fits, count_fits, edge_fits, edges_fit, task_fits, conditions_fit, messages_fit, assignments_fit, parts_fit, element_fits}
use Rattle.check_limits.proofs.SameLaws.{Same, things_same, condition_same, message_same, assignment_same, edges_same}
use Rattle.text_ends.specs.Rewriting.{is_end_snd, with_one, sending_to, end_of}
use Rattle.text_ends.proofs.RewriteLaws.{long_one}
use Rattle.proof_roundtrip.proofs.FitsLaws.{edges_count, edges_none, task_fits_lem, entries_fit, exits_fit, conditions_fit_lem, messages_fit_lem, assignments_fit_lem}
use Rattle.proof_roundtrip.proofs.EndModels.{Right}

pub set_small : (s : List ℕ) (k v : ℕ) → ((i : ℕ) → at s i ≤ greatest) → v ≤ greatest → (i : ℕ) → at (set s k v) i ≤ greatest
set_small [] k v h l i = h i
set_small (x ∷ s) zero v h l zero = l
set_small (x ∷ s) zero v h l (suc i) = h (suc i)
set_small (x ∷ s) (suc k) v h l zero = h 0
set_small (x ∷ s) (suc k) v h l (suc i) = set_small s k v (λ j. h (suc j)) l i

one_small : (kind list f : ℕ) (x : List ℕ) → kind ≤ greatest → f ≤ greatest → ((i : ℕ) → at x i ≤ greatest) → (i : ℕ) → at (with_one kind list f x) i ≤ greatest
unfolding with_one
one_small kind list f x k l h = set_small (set (set x kind_place kind) list 1) (edge_place list 0) f (set_small (set x kind_place kind) list 1 (set_small x kind_place kind h k) (omega arith)) l

zeros_small : (n i : ℕ) → at (replicate n 0) i ≤ greatest
zeros_small zero i = omega arith
zeros_small (suc n) zero = omega arith
zeros_small (suc n) (suc i) = zeros_small n i

-- THE END FOR IT
module _ (f : ℕ) (l : 1 ≤ f) (u : f ≤ edges) where
  end_fits : element_fits (end_of f) ≡ true
  unfolding all if◌then◌or_else◌ kind_of used zeros things count_fits edge_fits edges_fit task_fits conditions_fit messages_fit assignments_fit parts_fit element_fits with_one end_of
  end_fits = rw (le-leb 1 f l, le-leb f edges u)

  pub end_right : Right (end_of f)
  end_right = record { fits = end_fits; long = unfold end_of with_one in refl; small = unfold end_of in one_small end entries_place f (replicate element_words 0) (omega arith) (omega (arith, u)) (zeros_small element_words) }

-- THE SEND
module _ (x : List ℕ) (r : Right x) (is : is_end_snd x ≡ true) (f : ℕ) where
  abbrev y : List ℕ
  y = sending_to f x

  pub was : kind_in x ≡ end_snd
  unfolding is_end_snd
  was = eqb-true (kind_in x) end_snd is

  -- its words: its kind, the count of its exits, its exit, and the others as they were
  pub kind_is : kind_in y ≡ inter_snd
  unfolding sending_to with_one
  kind_is =
      get_or-set_other (set (set x kind_place inter_snd) exits_place 1) (edge_place exits_place 0) kind_place f 0 (λ e. omega arith)
      ∙ get_or-set_other (set x kind_place inter_snd) exits_place kind_place 1 0 (λ e. omega arith)
      ∙ get_or-set_same x kind_place inter_snd 0 (omega (arith, r.long))

  pub count_is : at y exits_place ≡ 1
  unfolding sending_to with_one
  count_is =
      get_or-set_other (set (set x kind_place inter_snd) exits_place 1) (edge_place exits_place 0) exits_place f 0 (λ e. omega arith)
      ∙ get_or-set_same (set x kind_place inter_snd) exits_place 1 0 (omega (arith, r.long, length-set x kind_place inter_snd))

  pub exit_is : at y (edge_place exits_place 0) ≡ f
  unfolding sending_to with_one
  exit_is =
      get_or-set_same (set (set x kind_place inter_snd) exits_place 1) (edge_place exits_place 0) f 0
      (omega (arith, r.long, length-set x kind_place inter_snd, length-set (set x kind_place inter_snd) exits_place 1))

  pub other : (i : ℕ) → (i ≡ kind_place → ⊥) → (i ≡ exits_place → ⊥) → (i ≡ edge_place exits_place 0 → ⊥) → at y i ≡ at x i
  unfolding sending_to with_one
  other i a b c =
      get_or-set_other (set (set x kind_place inter_snd) exits_place 1) (edge_place exits_place 0) i f 0 c
      ∙ get_or-set_other (set x kind_place inter_snd) exits_place i 1 0 b
      ∙ get_or-set_other x kind_place i inter_snd 0 a

  -- words from the place a on
  from : (a n : ℕ) → (kind_place < a) → (a + n ≤ exits_place) ⊎ (edge_place exits_place 0 < a) → Same n (drop a x) (drop a y)
  from a n k (inl h) i l = get_or-drop a y i 0 ∙ other (a + i) (λ e. omega arith) (λ e. omega arith) (λ e. omega arith) ∙ sym (get_or-drop a x i 0)
  from a n k (inr h) i l = get_or-drop a y i 0 ∙ other (a + i) (λ e. omega arith) (λ e. omega arith) (λ e. omega arith) ∙ sym (get_or-drop a x i 0)

  -- what its limits said
  parts_fit_lem : parts_fit (kind_of end_snd) x ≡ true
  unfolding element_fits
  parts_fit_lem = ap (λ k. parts_fit (kind_of k) x) (sym was) ∙ and_right (not (eqb (kind_of (kind_in x)).letters 0)) _ r.fits

  pub no_exits : (i : ℕ) → exits_place ≤ i → i < exits_place + 9 → at x i ≡ 0
  unfolding kind_of count_fits if◌then◌or_else◌
  no_exits i a b =
      let e : edges_fit none (drop exits_place x) ≡ true = exits_fit (kind_of end_snd) x parts_fit_lem in
      let c : at x exits_place ≡ 0 = eqb-true (at x exits_place) 0 (edges_count x none exits_place e) in
      go (ℕ_discrete i exits_place) c e
    where
      go : Dec (i ≡ exits_place) → at x exits_place ≡ 0 → edges_fit none (drop exits_place x) ≡ true → at x i ≡ 0
      go (yes q) c e = ap (at x) q ∙ c
      go (no q) c e = edges_none x none exits_place e i (omega (arith, a, c)) b

  tasks_fit : task_fits none y ≡ true
  unfolding kind_of task_fits
  tasks_fit =
      rw (other task_place (λ e. omega arith) (λ e. omega arith) (λ e. omega arith), other mode_place (λ e. omega arith) (λ e. omega arith) (λ e. omega arith), other assignments_place (λ e. omega arith) (λ e. omega arith) (λ e. omega arith))
      (task_fits_lem (kind_of end_snd) x parts_fit_lem)

  entry_fits : edges_fit one (drop entries_place y) ≡ true
  unfolding kind_of
  entry_fits = edges_same (drop entries_place x) (drop entries_place y) one (omega arith) (from entries_place 9 (omega arith) (inl (omega arith))) ∙ entries_fit (kind_of end_snd) x parts_fit_lem

  conditions_are : conditions_fit none y ≡ true
  unfolding kind_of conditions_fit used if◌then◌or_else◌
  conditions_are =
      things_same (drop (condition_place 0) x) (drop (condition_place 0) y) 5 branches 0 40 (condition_fits none) (λ j h. absurd (omega arith)) (omega arith) (λ c d s. condition_same c d none s)
      (from (condition_place 0) 40 (omega arith) (inr (omega arith)))
      ∙ conditions_fit_lem (kind_of end_snd) x parts_fit_lem

  messages_are : messages_fit none one y ≡ true
  unfolding kind_of messages_fit used if◌then◌or_else◌
  messages_are =
      things_same (drop (message_place 0) x) (drop (message_place 0) y) 22 branches 1 176 (message_fits none) (λ j h. omega arith) (omega arith) (λ c d s. message_same c d none s)
      (from (message_place 0) 176 (omega arith) (inr (omega arith)))
      ∙ messages_fit_lem (kind_of end_snd) x parts_fit_lem

  none_assigned : at x assignments_place ≡ 0
  unfolding kind_of task_fits if◌then◌or_else◌
  none_assigned = eqb-true (at x assignments_place) 0 (and_right (eqb (at x task_place) 0 && eqb (at x mode_place) 0) _ (task_fits_lem (kind_of end_snd) x parts_fit_lem))

  assignments_are : assignments_fit y ≡ true
  unfolding assignments_fit
  assignments_are =
      ap (λ n. things (drop (assignment_place 0) y) 6 4 n assignment_fits) (other assignments_place (λ e. omega arith) (λ e. omega arith) (λ e. omega arith))
      ∙ things_same (drop (assignment_place 0) x) (drop (assignment_place 0) y) 6 4 (at x assignments_place) 24 assignment_fits (λ j h. omega (arith, h, none_assigned)) (omega (arith, none_assigned)) (λ c d s. assignment_same c d s)
      (from (assignment_place 0) 24 (omega arith) (inr (omega arith)))
      ∙ assignments_fit_lem (kind_of end_snd) x parts_fit_lem

  module _ (l : 1 ≤ f) (u : f ≤ edges) where
    exits_are : edges_fit one (drop exits_place y) ≡ true
    unfolding edges_fit things edge_fits zeros all
    exits_are =
        and_true _ _ (ap (λ n. count_fits one n) counts ∙ (unfold count_fits if◌then◌or_else◌ in refl))
        (ap (λ n. things (drop 1 (drop exits_place y)) 1 branches n edge_fits) counts
        ∙ and_true _ _ first (all_of _ 7 (λ k h. eq-eqb _ 0 (get_or-drop 1 (drop 1 (drop exits_place y)) k 0 ∙ get_or-drop 1 (drop exits_place y) (1 + k) 0 ∙ get_or-drop exits_place y (1 + (1 + k)) 0 ∙ rest (exits_place + (1 + (1 + k))) (omega arith) (omega arith)))))
      where
        counts : at (drop exits_place y) 0 ≡ 1
        counts = get_or-drop exits_place y 0 0 ∙ count_is

        goes : at (drop (1 * 0) (drop 1 (drop exits_place y))) 0 ≡ f
        goes = get_or-drop 0 (drop 1 (drop exits_place y)) 0 0 ∙ get_or-drop 1 (drop exits_place y) 0 0 ∙ get_or-drop exits_place y 1 0 ∙ exit_is

        first : true && (leb 1 (at (drop (1 * 0) (drop 1 (drop exits_place y))) 0) && leb (at (drop (1 * 0) (drop 1 (drop exits_place y))) 0) edges) ≡ true
        first = rw (goes, le-leb 1 f l, le-leb f edges u)

        rest : (i : ℕ) → edge_place exits_place 0 < i → i < exits_place + 9 → at y i ≡ 0
        rest i a b = other i (λ e. omega arith) (λ e. omega arith) (λ e. omega arith) ∙ no_exits i (omega arith) b

    parts_are : parts_fit (kind_of inter_snd) y ≡ true
    unfolding parts_fit kind_of
    parts_are = and_true _ _ (and_true _ _ (and_true _ _ (and_true _ _ (and_true _ _ tasks_fit entry_fits) exits_are) conditions_are) messages_are) assignments_are

    send_fits : element_fits y ≡ true
    unfolding element_fits
    send_fits =
        ap (λ k. not (eqb (kind_of k).letters 0) && parts_fit (kind_of k) y) kind_is
        ∙ and_true (not (eqb (kind_of inter_snd).letters 0)) (parts_fit (kind_of inter_snd) y) (unfold kind_of in refl) parts_are

    pub send_right : Right y
    unfolding sending_to
    send_right = record { fits = send_fits; long = long_one inter_snd exits_place f x ∙ r.long; small = one_small inter_snd exits_place f x (omega arith) (omega (arith, u)) r.small }
