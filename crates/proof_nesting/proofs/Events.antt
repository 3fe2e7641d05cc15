-- THE EVENTS: an element passed by one entry and one exit; a split by its entry and all its exits; a join by all its entries. Assumes nothing.
use Prim.Native.Nat.{ℕ, zero, suc, ◌+◌, ◌≤◌, ◌<◌}
use mathlib.Core.Path.{◌≡◌, refl, sym, ◌∙◌, ap, subst}
use mathlib.Core.Bool.{Bool, true, false, ◌||◌}
use mathlib.Core.List.{List, [], ◌∷◌}
use mathlib.Core.Logic.{◌⊎◌, ⊎_elim}
use native.Mathlib.Nat.{not-suc-le-zero, le_of_suc-le-suc, eq-or-lt_of_le}
use native.Mathlib.Omega.{arith}
use lib.Dec.{eqb}
use borrow.Author.Tests.{eqb-true, eqb-false, eq-eqb, ne_eqb}
use Rattle.base_words.specs.Pick.{if◌then◌or_else◌}
use Rattle.base_words.specs.Words.{at}
use Rattle.base_words.specs.Sum.{sum, hit, one_if}
use Rattle.base_words.proofs.EachLaws.{total-tab, total_one}
use Rattle.base_words.proofs.SumLaws.{sum-zero}
use Rattle.base_kinds.specs.Kinds.{none, one, kind_of, used, start, start_rcv, xor_join, xor_split, event_based}
use Rattle.base_table.specs.Places.{entries_place, exits_place}
use Rattle.base_table.specs.Table.{kind_in, mode_in, entry_count, exit_count, entry_at, exit_at}
use Rattle.proof_steps.proofs.Choices.{by_test}
use Rattle.check_nesting.specs.Nesting.{starts, exits_of, entries_of, occ, Rearranged}
use Rattle.proof_nesting.proofs.Weights.{putting_most, taking_least, row_takes, row_join, row_join_one, row_split}
use Rattle.proof_nesting.proofs.Wholes.{putting_least, taking_most, row_puts, row_branch}
use Rattle.proof_nesting.proofs.Flows.{move_in, Sound, Flow, Enters, Leaves, event}

-- LAWS OF COUNTING
pub hit_same : (x y : ℕ) → x ≡ y → hit x y ≡ 1
hit_same x y e = ap one_if (eq-eqb x y e)

pub hit_other : (x y : ℕ) → (x ≡ y → ⊥) → hit x y ≡ 0
hit_other x y n = ap one_if (ne_eqb x y n)

pub hit_most : (x y : ℕ) → hit x y ≤ 1
hit_most x y = go (eqb x y)
  where
    go : (t : Bool) → one_if t ≤ 1
    go true = omega arith
    go false = omega arith

pub sum_at : (f : ℕ → ℕ) (n i : ℕ) → i < n → f i ≤ sum f n
unfolding sum
sum_at f zero i h = absurd (not-suc-le-zero h)
sum_at f (suc n) i h =
    ⊎_elim (λ q. subst (λ k. f k ≤ sum f n + f n) (sym q) (omega arith))
    (λ l. omega (arith, sum_at f n i l))
    (eq-or-lt_of_le (le_of_suc-le-suc h))

-- a sum that is not 0 has a term that is not 0
pub sum_some : (f : ℕ → ℕ) (n : ℕ) → 0 < sum f n → (i : ℕ) × (i < n) × (0 < f i)
unfolding sum
sum_some f zero h = absurd (not-suc-le-zero h)
sum_some f (suc n) h = go (sum f n) refl (f n) refl (sum_some f n)
  where
    go : (a : ℕ) → sum f n ≡ a → (b : ℕ) → f n ≡ b → (0 < sum f n → (i : ℕ) × (i < n) × (0 < f i)) → (i : ℕ) × (i < suc n) × (0 < f i)
    go (suc a) e b g before = let s = before (omega arith) in (s.0, omega (arith, s.1), s.2)
    go zero e (suc b) g before = (n, omega arith, omega arith)
    go zero e zero g before = absurd (omega arith)

-- a number is met at most once among numbers that differ
pub sum_apart : (g : ℕ → ℕ) (x n : ℕ) → ((i j : ℕ) → i < n → j < n → g i ≡ g j → i ≡ j) → sum (λ i. hit x (g i)) n ≤ 1
unfolding sum
sum_apart g x zero apart = omega arith
sum_apart g x (suc n) apart =
    by_test (eqb x (g n))
    (λ e.
    let z : sum (λ i. hit x (g i)) n ≡ 0 = sum-zero (λ i. hit x (g i)) n (λ i l. hit_other x (g i) (λ q. let w = apart i n (omega arith) (omega arith) (sym q ∙ eqb-true x (g n) e) in omega arith)) in
    omega (arith, z, hit_most x (g n)))
    (λ e. omega (arith, sum_apart g x n (λ i j l r. apart i j (omega arith) (omega arith)), hit_other x (g n) (eqb-false x (g n) e)))

-- HOW MANY ENTRIES AND EXITS a kind has that has one
pub one_exit : (el : List ℕ) (q : ℕ) → kind_in el ≡ q → (kind_of q).exits ≡ one → exit_count el ≡ 1
unfolding exit_count used if◌then◌or_else◌
one_exit el q e h = ap (λ y. used (kind_of y).exits (at el exits_place)) e ∙ ap (λ y. used y (at el exits_place)) h

pub one_entry : (el : List ℕ) (q : ℕ) → kind_in el ≡ q → (kind_of q).entries ≡ one → entry_count el ≡ 1
unfolding entry_count used if◌then◌or_else◌
one_entry el q e h = ap (λ y. used (kind_of y).entries (at el entries_place)) e ∙ ap (λ y. used y (at el entries_place)) h

pub no_start : (el : List ℕ) (q : ℕ) → kind_in el ≡ q → (eqb q start || eqb q start_rcv) ≡ false → starts el ≡ false
unfolding starts
no_start el q e h = ap (λ y. eqb y start || eqb y start_rcv) e ∙ h

module _ (P : ℕ → List ℕ) (c : ℕ) (sound : Sound P c) (k : ℕ) (there : k < c) (inner : starts (P k) ≡ false) where
  abbrev pub el : List ℕ
  el = P k

  exits_some : (q : ℕ) → (kind_of (kind_in el)).exits ≡ q → q ≡ none → exit_count el ≡ 0
  unfolding exit_count used if◌then◌or_else◌
  exits_some q e h = ap (λ y. used y (at el exits_place)) (e ∙ h)

  pub leaves_one : (j : ℕ) → j < exit_count el → ((kind_in el ≡ xor_split) ⊎ (kind_in el ≡ event_based) → ⊥) → Leaves P c sound k there inner (exit_at el j ∷ [])
  leaves_one j l single = record {
    goes = λ e. let z = exits_some none e refl in omega (arith, z, l);
    enough = λ phase b t.
        putting_least (occ (exit_at el j ∷ [])) el (move_in el phase) b (row_puts (kind_in el) (mode_in el) phase)
        (λ e. omega (arith, sum_at (λ i. occ (exit_at el j ∷ []) (exit_at el i)) (exit_count el) j l, total_one (hit (exit_at el j)) (exit_at el j), hit_same (exit_at el j) (exit_at el j) refl))
        (λ e. absurd (single (row_branch (kind_in el) (mode_in el) phase e)));
    within = λ f n. total_one (hit f) (exit_at el j) ∙ hit_other f (exit_at el j) (λ e. n j l (sym e));
    few = λ phase b t.
        putting_most (occ (exit_at el j ∷ [])) el (move_in el phase) b
        (λ e.
        let w = sum_apart (exit_at el) (exit_at el j) (exit_count el) (λ i i' r s. sound.exits_apart k i i' there r s) in
        let z : sum (λ i. occ (exit_at el j ∷ []) (exit_at el i)) (exit_count el) ≡ sum (λ i. hit (exit_at el j) (exit_at el i)) (exit_count el) =
        Rattle.base_words.proofs.SumLaws.sum_ext (λ i. occ (exit_at el j ∷ []) (exit_at el i)) (λ i. hit (exit_at el j) (exit_at el i)) (exit_count el) (λ i r. total_one (hit (exit_at el i)) (exit_at el j) ∙ hit_turn (exit_at el i) (exit_at el j)) in
        omega (arith, w, z))
        (λ e. omega (arith, total_one (hit (exit_at el b)) (exit_at el j), hit_most (exit_at el b) (exit_at el j)));
  }
    where
      hit_turn : (x y : ℕ) → hit x y ≡ hit y x
      hit_turn x y = by_test (eqb x y) (λ e. hit_same x y (eqb-true x y e) ∙ sym (hit_same y x (sym (eqb-true x y e)))) (λ e. hit_other x y (eqb-false x y e) ∙ sym (hit_other y x (λ q. eqb-false x y e (sym q))))

  kind_goes : (q : ℕ) → kind_in el ≡ q → eqb (kind_of q).exits none ≡ false → (kind_of (kind_in el)).exits ≡ none → ⊥
  kind_goes q s h e = eqb-false (kind_of q).exits none h (sym (ap (λ y. (kind_of y).exits) s) ∙ e)

  pub leaves_all : (kind_in el ≡ xor_split) ⊎ (kind_in el ≡ event_based) → Leaves P c sound k there inner (exits_of el)
  unfolding kind_of
  leaves_all is = record {
    goes = λ e. ⊎_elim (λ s. kind_goes xor_split s refl e) (λ s. kind_goes event_based s refl e) is;
    enough = λ phase b t.
        putting_least (occ (exits_of el)) el (move_in el phase) b (row_puts (kind_in el) (mode_in el) phase)
        (λ e. let r = row_split (kind_in el) (mode_in el) phase e in absurd (⊎_elim r.0 r.1 is))
        (λ e. omega (arith, total-tab (hit (exit_at el b)) (exit_at el) (exit_count el), sum_at (λ i. hit (exit_at el b) (exit_at el i)) (exit_count el) b (t.leaves e), hit_same (exit_at el b) (exit_at el b) refl));
    within = λ f n. total-tab (hit f) (exit_at el) (exit_count el) ∙ sum-zero (λ j. hit f (exit_at el j)) (exit_count el) (λ j l. hit_other f (exit_at el j) (λ e. n j l (sym e)));
    few = λ phase b t.
        putting_most (occ (exits_of el)) el (move_in el phase) b
        (λ e. let r = row_split (kind_in el) (mode_in el) phase e in absurd (⊎_elim r.0 r.1 is))
        (λ e. omega (arith, total-tab (hit (exit_at el b)) (exit_at el) (exit_count el), sum_apart (exit_at el) (exit_at el b) (exit_count el) (λ i i' r s. sound.exits_apart k i i' there r s)));
  }

  entry_apart : (i j : ℕ) → i < entry_count el → j < entry_count el → entry_at el i ≡ entry_at el j → i ≡ j
  entry_apart i j r s e = by_test (eqb i j) (eqb-true i j) (λ d. absurd (sound.entries_apart k i j there r s (eqb-false i j d) e))

  hit_turned : (x y : ℕ) → hit x y ≡ hit y x
  hit_turned x y = by_test (eqb x y) (λ e. hit_same x y (eqb-true x y e) ∙ sym (hit_same y x (sym (eqb-true x y e)))) (λ e. hit_other x y (eqb-false x y e) ∙ sym (hit_other y x (λ q. eqb-false x y e (sym q))))

  pub enters_one : (i : ℕ) → i < entry_count el → (kind_in el ≡ xor_join → ⊥) → Enters P c sound k there inner (entry_at el i ∷ [])
  enters_one i l n = record {
    within = λ f d. total_one (hit f) (entry_at el i) ∙ hit_other f (entry_at el i) (λ e. d i l (sym e));
    few = λ phase b t.
        taking_most (occ (entry_at el i ∷ [])) el (move_in el phase) b
        (λ e.
        let w = sum_apart (entry_at el) (entry_at el i) (entry_count el) entry_apart in
        let z : sum (λ j. occ (entry_at el i ∷ []) (entry_at el j)) (entry_count el) ≡ sum (λ j. hit (entry_at el i) (entry_at el j)) (entry_count el) =
        Rattle.base_words.proofs.SumLaws.sum_ext (λ j. occ (entry_at el i ∷ []) (entry_at el j)) (λ j. hit (entry_at el i) (entry_at el j)) (entry_count el) (λ j r. total_one (hit (entry_at el j)) (entry_at el i) ∙ hit_turned (entry_at el j) (entry_at el i)) in
        omega (arith, w, z))
        (λ e. absurd (n (row_join (kind_in el) (mode_in el) phase e)));
    enough = λ phase b t.
        taking_least (occ (entry_at el i ∷ [])) el (move_in el phase) b (row_takes (kind_in el) (mode_in el) phase)
        (λ e. omega (arith, sum_at (λ j. occ (entry_at el i ∷ []) (entry_at el j)) (entry_count el) i l, total_one (hit (entry_at el i)) (entry_at el i), hit_same (entry_at el i) (entry_at el i) refl))
        (λ e. absurd (n (row_join (kind_in el) (mode_in el) phase e)));
  }

  pub enters_all : (es : List ℕ) → kind_in el ≡ xor_join → Rearranged es (entries_of el) → Enters P c sound k there inner es
  enters_all es is same = record {
    within = λ f d. same f ∙ total-tab (hit f) (entry_at el) (entry_count el) ∙ sum-zero (λ j. hit f (entry_at el j)) (entry_count el) (λ j l. hit_other f (entry_at el j) (λ e. d j l (sym e)));
    few = λ phase b t.
        taking_most (occ es) el (move_in el phase) b
        (λ e. absurd (row_join_one (kind_in el) (mode_in el) phase e is))
        (λ e. omega (arith, same (entry_at el b), total-tab (hit (entry_at el b)) (entry_at el) (entry_count el), sum_apart (entry_at el) (entry_at el b) (entry_count el) entry_apart));
    enough = λ phase b t.
        taking_least (occ es) el (move_in el phase) b (row_takes (kind_in el) (mode_in el) phase)
        (λ e. absurd (row_join_one (kind_in el) (mode_in el) phase e is))
        (λ e. omega (
          arith,
          same (entry_at el b),
          total-tab (hit (entry_at el b)) (entry_at el) (entry_count el),
          sum_at (λ j. hit (entry_at el b) (entry_at el j)) (entry_count el) b (t.enters e),
          hit_same (entry_at el b) (entry_at el b) refl,
        ));
  }

  -- THE EVENTS
  unfoldable pub through_one : (i j : ℕ) → i < entry_count el → j < exit_count el → (kind_in el ≡ xor_join → ⊥) → ((kind_in el ≡ xor_split) ⊎ (kind_in el ≡ event_based) → ⊥) → Flow P c (entry_at el i ∷ []) (exit_at el j ∷ [])
  through_one i j l r n o = event P c sound k there inner (entry_at el i ∷ []) (exit_at el j ∷ []) (enters_one i l n) (leaves_one j r o)

  unfoldable pub split_all : (i : ℕ) → i < entry_count el → (kind_in el ≡ xor_split) ⊎ (kind_in el ≡ event_based) → (kind_in el ≡ xor_join → ⊥) → Flow P c (entry_at el i ∷ []) (exits_of el)
  split_all i l is n = event P c sound k there inner (entry_at el i ∷ []) (exits_of el) (enters_one i l n) (leaves_all is)

  unfoldable pub join_all : (es : List ℕ) (j : ℕ) → j < exit_count el → kind_in el ≡ xor_join → Rearranged es (entries_of el) → Flow P c es (exit_at el j ∷ [])
  join_all es j r is same = event P c sound k there inner es (exit_at el j ∷ []) (enters_all es is same) (leaves_one j r (λ o. ⊎_elim (λ z. omega (arith, z, is)) (λ z. omega (arith, z, is)) o))
