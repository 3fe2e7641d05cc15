-- What the model checks count in an element is in its own words, where it is within its limits. Assumes nothing.
use Prim.Native.Nat.{ℕ, zero, suc, ◌+◌, ◌≤◌, ◌<◌}
use mathlib.Core.Path.{◌≡◌, ◌∙◌, refl, sym, ap, ap₂, subst}
use mathlib.Core.Bool.{Bool, true, ◌&&◌, ◌||◌}
use mathlib.Core.List.{List}
use mathlib.Core.Logic.{◌⊎◌, ⊎_elim}
use native.Mathlib.Decide.{ℕ_discrete}
use native.Mathlib.Omega.{arith}
use lib.Dec.{eqb, leb}
use lib.ListN.{drop}
use lib.Seq.{get_or-drop}
use borrow.Author.Tests.{eqb-true, eq-eqb, leb-true}
use Rattle.std.proofs.lemmas.Bool.{or_cases}
use Rattle.base_words.specs.All.{all}
use Rattle.base_words.specs.Counts.{branches, fields_named, values}
use Rattle.base_words.specs.Sum.{sum, hit, one_if}
use Rattle.base_words.specs.Words.{at}
use Rattle.base_words.proofs.PickLaws.{pick_yes}
use Rattle.base_words.proofs.SumLaws.{sum_ext}
use Rattle.base_kinds.specs.Kinds.{kind_of, used, start, many}
use Rattle.base_table.specs.Places.{kind_place, task_place, entries_place, exits_place, edge_place, condition_place, message_place, message_words, length_place, item_place, element_words, default, binding}
use Rattle.base_table.specs.Table.{kind_in, entry_count, exit_count, entry_at, exit_at, message_name, message_length, item_at}
use Rattle.check_limits.specs.Limits.{message_fits, element_fits}
use Rattle.check_limits.proofs.SameLaws.{all_ext, used_most}
use Rattle.text_elements.specs.Elements.{kind_count}
use Rattle.check_occurrences.specs.Occurrences.{condition_count, received_count, sent_count, of_kind, as_exit, as_entry, as_first, as_task, as_received, as_sent, is_default, defaults, default_once, binds_field, times_bound, template_once, bound_once}
use Rattle.proof_roundtrip.proofs.FitsLaws.{things_right, message_length_lem, entries_fit, exits_fit, messages_fit_lem}
use Rattle.proof_roundtrip.proofs.KindLaws.{kind_bounds, of_kind_lem}
use Rattle.proof_roundtrip.proofs.FitLaws.{fits_kind, fits_parts, edges_most, used_few}

-- THE ROWS: no cell is above many; where messages are received, none are sent, and several only with several exits
module _ (k : ℕ) (l : 0 < k) (u : k < kind_count + 1) where
  pub low_entries : (kind_of k).entries ≤ many
  unfolding all kind_of
  low_entries = leb-true (kind_of k).entries many (of_kind_lem (λ j. leb (kind_of j).entries many) refl k l u)

  pub low_exits : (kind_of k).exits ≤ many
  unfolding all kind_of
  low_exits = leb-true (kind_of k).exits many (of_kind_lem (λ j. leb (kind_of j).exits many) refl k l u)

  pub low_conditions : (kind_of k).conditions ≤ many
  unfolding all kind_of
  low_conditions = leb-true (kind_of k).conditions many (of_kind_lem (λ j. leb (kind_of j).conditions many) refl k l u)

  pub low_receives : (kind_of k).receives ≤ many
  unfolding all kind_of
  low_receives = leb-true (kind_of k).receives many (of_kind_lem (λ j. leb (kind_of j).receives many) refl k l u)

  pub low_sends : (kind_of k).sends ≤ many
  unfolding all kind_of
  low_sends = leb-true (kind_of k).sends many (of_kind_lem (λ j. leb (kind_of j).sends many) refl k l u)

  pub low_messages : (kind_of k).receives + (kind_of k).sends ≤ many
  unfolding all kind_of
  low_messages = leb-true ((kind_of k).receives + (kind_of k).sends) many (of_kind_lem (λ j. leb ((kind_of j).receives + (kind_of j).sends) many) refl k l u)

  receives_alone : eqb (kind_of k).receives 0 || eqb (kind_of k).sends 0 ≡ true
  unfolding all kind_of
  receives_alone = of_kind_lem (λ j. eqb (kind_of j).receives 0 || eqb (kind_of j).sends 0) refl k l u

  receives_many : leb (kind_of k).receives 1 || eqb (kind_of k).exits many ≡ true
  unfolding all kind_of
  receives_many = of_kind_lem (λ j. leb (kind_of j).receives 1 || eqb (kind_of j).exits many) refl k l u

-- how many there are, of what a cell says
used_all : (holds n : ℕ) → holds ≡ many → used holds n ≡ n
unfolding used
used_all holds n e = sym (pick_yes (eqb holds many) n n holds (eq-eqb holds many e) refl)

all_messages : (v s x n j : ℕ) → j < used v (used x n) → eqb v 0 || eqb s 0 ≡ true → leb v 1 || eqb x many ≡ true → j < used (v + s) n
all_messages v s x n j h a b = ⊎_elim (λ z. absurd (none (eqb-true v 0 z))) (λ z. alone (eqb-true s 0 z) (or_cases _ _ b)) (or_cases _ _ a)
  where
    none : v ≡ 0 → ⊥
    none z = let f = used_few v (used x n) (omega (arith, z)) in omega (arith, f, h, z)

    alone : s ≡ 0 → (leb v 1 ≡ true) ⊎ (eqb x many ≡ true) → j < used (v + s) n
    alone z =
        ⊎_elim
        (λ f. let w = leb-true v 1 f in let g = used_few v (used x n) (omega (arith, w)) in let k = used_few (v + s) n (omega (arith, w, z)) in omega (arith, g, k, h))
        (λ f. subst (λ (c : ℕ). j < used c n) (let q : v ≡ v + s = omega (arith, z) in q) (subst (λ (c : ℕ). j < used v c) (used_all x n (eqb-true x many f)) h))

-- THE COUNTS of an element within its limits
module _ (el : List ℕ) (fit : element_fits el ≡ true) where
  first : 0 < kind_in el
  first = (kind_bounds (kind_in el) (fits_kind el fit)).0

  last : kind_in el < kind_count + 1
  last = (kind_bounds (kind_in el) (fits_kind el fit)).1

  exits_most : exit_count el ≤ branches
  unfolding exit_count
  exits_most =
      used_most (kind_of (kind_in el)).exits (at el exits_place) (low_exits (kind_in el) first last)
      (edges_most el (kind_of (kind_in el)).exits exits_place (exits_fit (kind_of (kind_in el)) el (fits_parts el fit)) (low_exits (kind_in el) first last))

  entries_most : entry_count el ≤ branches
  unfolding entry_count
  entries_most =
      used_most (kind_of (kind_in el)).entries (at el entries_place) (low_entries (kind_in el) first last)
      (edges_most el (kind_of (kind_in el)).entries entries_place (entries_fit (kind_of (kind_in el)) el (fits_parts el fit)) (low_entries (kind_in el) first last))

  conditions_most : condition_count el ≤ branches
  unfolding condition_count
  conditions_most = used_most (kind_of (kind_in el)).conditions (exit_count el) (low_conditions (kind_in el) first last) exits_most

  received_most : received_count el ≤ branches
  unfolding received_count
  received_most = used_most (kind_of (kind_in el)).receives (exit_count el) (low_receives (kind_in el) first last) exits_most

  sent_most : sent_count el ≤ branches
  unfolding sent_count
  sent_most = used_most (kind_of (kind_in el)).sends (exit_count el) (low_sends (kind_in el) first last) exits_most

  -- a template that is received is within its limits
  template_in : (j : ℕ) → j < received_count el → j < used ((kind_of (kind_in el)).receives + (kind_of (kind_in el)).sends) (at el exits_place)
  unfolding received_count exit_count
  template_in j h =
      all_messages (kind_of (kind_in el)).receives (kind_of (kind_in el)).sends (kind_of (kind_in el)).exits (at el exits_place) j h
      (receives_alone (kind_in el) first last) (receives_many (kind_in el) first last)

  template_most : (j : ℕ) → j < received_count el → message_length el j ≤ values
  template_most j h =
      message_length_lem el (kind_of (kind_in el)).receives (message_place j)
      (things_right el (message_place 0) message_words branches (used ((kind_of (kind_in el)).receives + (kind_of (kind_in el)).sends) (at el exits_place)) (message_fits (kind_of (kind_in el)).receives)
      (messages_fit_lem (kind_of (kind_in el)) el (fits_parts el fit)) j (template_in j h))

-- THE SAME WORDS: x has el's
module _ (x el : List ℕ) (same : (i : ℕ) → i < element_words → at x i ≡ at el i) (fit : element_fits el ≡ true) where
  kind_same : kind_in x ≡ kind_in el
  kind_same = same kind_place (omega arith)

  -- from a place on
  tail_same : (a i : ℕ) → a + i < element_words → at (drop a x) i ≡ at (drop a el) i
  tail_same a i h = get_or-drop a x i 0 ∙ same (a + i) h ∙ sym (get_or-drop a el i 0)

  exit_count_lem : exit_count x ≡ exit_count el
  unfolding exit_count
  exit_count_lem = ap₂ (λ k n. used (kind_of k).exits n) kind_same (same exits_place (omega arith))

  entry_count_lem : entry_count x ≡ entry_count el
  unfolding entry_count
  entry_count_lem = ap₂ (λ k n. used (kind_of k).entries n) kind_same (same entries_place (omega arith))

  pub kind_of_same : (k : ℕ) → of_kind k x ≡ of_kind k el
  unfolding of_kind
  kind_of_same k = ap (λ (j : ℕ). hit j k) kind_same

  pub exit_same : (e : ℕ) → as_exit e x ≡ as_exit e el
  unfolding as_exit
  exit_same e =
      ap (sum (λ j. hit (exit_at x j) e)) exit_count_lem
      ∙ sum_ext (λ j. hit (exit_at x j) e) (λ j. hit (exit_at el j) e) (exit_count el) (λ j h. ap (λ (v : ℕ). hit v e) (same (edge_place exits_place j) (omega (arith, h, exits_most el fit))))

  pub entry_same : (e : ℕ) → as_entry e x ≡ as_entry e el
  unfolding as_entry
  entry_same e =
      ap (sum (λ j. hit (entry_at x j) e)) entry_count_lem
      ∙ sum_ext (λ j. hit (entry_at x j) e) (λ j. hit (entry_at el j) e) (entry_count el) (λ j h. ap (λ (v : ℕ). hit v e) (same (edge_place entries_place j) (omega (arith, h, entries_most el fit))))

  pub first_same : (e : ℕ) → as_first e x ≡ as_first e el
  unfolding as_first
  first_same e = ap₂ (λ k v. one_if (eqb k start && eqb v e)) kind_same (same (edge_place entries_place 0) (omega arith))

  pub task_same : (n : ℕ) → as_task n x ≡ as_task n el
  unfolding as_task
  task_same n = ap (λ (v : ℕ). hit v n) (same task_place (omega arith))

  received_count_lem : received_count x ≡ received_count el
  unfolding received_count
  received_count_lem = ap₂ (λ k n. used (kind_of k).receives n) kind_same exit_count_lem

  sent_count_lem : sent_count x ≡ sent_count el
  unfolding sent_count
  sent_count_lem = ap₂ (λ k n. used (kind_of k).sends n) kind_same exit_count_lem

  condition_count_lem : condition_count x ≡ condition_count el
  unfolding condition_count
  condition_count_lem = ap₂ (λ k n. used (kind_of k).conditions n) kind_same exit_count_lem

  pub received_same : (m : ℕ) → as_received m x ≡ as_received m el
  unfolding as_received
  received_same m =
      ap (sum (λ j. hit (message_name x j) m)) received_count_lem
      ∙ sum_ext (λ j. hit (message_name x j) m) (λ j. hit (message_name el j) m) (received_count el) (λ j h. ap (λ (v : ℕ). hit v m) (same (message_place j) (omega (arith, h, received_most el fit))))

  pub sent_same : (m : ℕ) → as_sent m x ≡ as_sent m el
  unfolding as_sent
  sent_same m =
      ap (sum (λ j. hit (message_name x j) m)) sent_count_lem
      ∙ sum_ext (λ j. hit (message_name x j) m) (λ j. hit (message_name el j) m) (sent_count el) (λ j h. ap (λ (v : ℕ). hit v m) (same (message_place j) (omega (arith, h, sent_most el fit))))

  pub default_same : default_once x ≡ default_once el
  unfolding default_once defaults is_default
  default_same =
      ap (λ (v : ℕ). leb v 1)
      (ap (sum (is_default x)) condition_count_lem
      ∙ sum_ext (is_default x) (is_default el) (condition_count el) (λ j h. ap (λ (v : ℕ). hit v default) (tail_same (condition_place j) 0 (omega (arith, h, conditions_most el fit)))))

  binds_same : (j i d : ℕ) → j < branches → i < values → binds_field d (item_at x j i) ≡ binds_field d (item_at el j i)
  unfolding binds_field
  binds_same j i d h u =
      ap₂ (λ f v. one_if (eqb f binding && eqb v d)) (tail_same (item_place j i) 0 (omega (arith, h, u))) (tail_same (item_place j i) 2 (omega (arith, h, u)))

  times_same : (j d : ℕ) → j < received_count el → times_bound x j d ≡ times_bound el j d
  unfolding times_bound
  times_same j d h =
      ap (sum (λ i. binds_field d (item_at x j i))) (same (length_place j) (omega (arith, h, received_most el fit)))
      ∙ sum_ext (λ i. binds_field d (item_at x j i)) (λ i. binds_field d (item_at el j i)) (message_length el j)
      (λ i u. binds_same j i d (omega (arith, h, received_most el fit)) (omega (arith, u, template_most el fit j h)))

  template_same : (j : ℕ) → j < received_count el → template_once x j ≡ template_once el j
  unfolding template_once
  template_same j h = all_ext (λ d. leb (times_bound x j d) 1) (λ d. leb (times_bound el j d) 1) fields_named (λ d u. ap (λ (v : ℕ). leb v 1) (times_same j d h))

  pub bound_same : bound_once x ≡ bound_once el
  unfolding bound_once
  bound_same = ap (all (template_once x)) received_count_lem ∙ all_ext (template_once x) (template_once el) (received_count el) template_same
