-- The longest text of an element within the limits, by its kind, the numbers of its entries and exits, and the figures of these and of its task's number. Assumes nothing.
use Prim.Native.Char.{code}
use Prim.Native.Nat.{ℕ, zero, suc, ◌+◌, ◌-◌, ◌*◌, ◌≤◌, ◌<◌}
use mathlib.Core.Path.{◌≡◌, refl}
use mathlib.Core.Bool.{Bool, true, false, ◌&&◌}
use mathlib.Core.List.{List, [], ◌∷◌, ◌++◌}
use native.Mathlib.Omega.{arith}
use lib.Dec.{eqb, ltb}
use lib.ListN.{length, get_or, length-append}
use borrow.Author.Tests.{eqb-true, ltb-true}
use Rattle.std.proofs.lemmas.Bool.{and_from}
use Rattle.base_words.specs.All.{all}
use Rattle.base_words.specs.Each.{each}
use Rattle.base_words.specs.Pick.{if◌then◌or_else◌}
use Rattle.base_words.specs.Sum.{sum}
use Rattle.base_words.specs.Words.{at}
use Rattle.base_words.specs.Counts.{branches, values, assignments}
use Rattle.base_words.proofs.AllLaws.{all_at, and_left, and_right}
use Rattle.base_kinds.specs.declared.Kind.{Kind}
use Rattle.base_kinds.specs.Kinds.{no_kind, kinds, kind_of, keyword_of, used}
use Rattle.base_table.specs.Places.{entries_place, exits_place}
use Rattle.base_table.specs.Table.{kind_in, task_in, mode_in, entry_at, exit_at, condition_at, message_name, message_length, item_at, assignment_count, assignment_at}
use Rattle.check_limits.specs.Limits.{count_fits, element_fits}
use Rattle.write_decimals.specs.Decimals.{shown}
use Rattle.write_shown.specs.Shown.{commas, shown_condition, shown_tuple, shown_message, shown_entries, shown_exits, shown_guarded, shown_guarded_list, shown_receiving, shown_receiving_list, shown_assignment, shown_assignments, shown_task, shown_item, shown_mode, shown_part, shown_parts, shown_element}
use Rattle.proof_steps.proofs.Choices.{chosen_true}
use Rattle.proof_steps.proofs.Elements.{row_of, message_name_lem, message_length_lem}
use Rattle.proof_listing.proofs.Counting.{sum_at}
use Rattle.proof_lengths.proofs.Pieces.{take_short, between_long}
use Rattle.proof_lengths.proofs.Figures.{two_figures}
use Rattle.proof_lengths.proofs.PartsShort.{pair_most, mode_most, assignment_most, item_short, condition_short, mode_short, assignment_short, listed_short, figured_short}
use Rattle.proof_lengths.proofs.FewParts.{every_kind, entries_fit, exits_fit, entries_few, exits_few, assignments_few, item_fits_lem, condition_fits_lem, assignment_fits_lem}

-- the most bytes of a message, its name, `:` and items between signs; of what stands behind a task's number; of a branch beside its edge, with a condition and with a message
abbrev message_most : ℕ
message_most = 2 + 1 + (values * (pair_most + 1) - 1 + 2)

abbrev assignments_most : ℕ
assignments_most = assignments * (assignment_most + 1) - 1 + 2

abbrev task_most : ℕ
task_most = 1 + mode_most + 1 + pair_most + 1 + assignments_most

abbrev guarded_most : ℕ
guarded_most = 1 + pair_most + 2

abbrev receiving_most : ℕ
receiving_most = message_most + 1 + 2

-- THE PART with a code of the table of kinds, in an element of m entries and n exits; e, x and t are the figures of its entries, its exits and its task's number
unfoldable pub part_most : ℕ → ℕ → ℕ → ℕ → ℕ → ℕ → ℕ
part_most c m n e x t =
    if eqb c (code "E") then e
    or_else if eqb c (code "X") then x
    or_else if eqb c (code "F") then m + 1 + e
    or_else if eqb c (code "Y") then n + 1 + x
    or_else if eqb c (code "N") then task_most + t
    or_else if eqb c (code "T") then message_most
    or_else if eqb c (code "S") then message_most
    or_else if eqb c (code "G") then n * (guarded_most + 1) + 1 + x
    or_else n * (receiving_most + 1) - 1 + x

unfoldable pub parts_most : List ℕ → ℕ → ℕ → ℕ → ℕ → ℕ → ℕ
parts_most [] m n e x t = 0
parts_most (c ∷ cs) m n e x t = if eqb c (code " ") then 0 or_else 1 + part_most c m n e x t + parts_most cs m n e x t

-- what a part speaks of is there
unfoldable in_use : Kind → ℕ → ℕ → ℕ → Bool
in_use r c m n =
    if eqb c (code "E") then ltb 0 m
    or_else if eqb c (code "X") then ltb 0 n
    or_else if eqb c (code "F") then ltb 0 m
    or_else if eqb c (code "Y") then ltb 0 n
    or_else if eqb c (code "N") then ltb 0 (used r.conditions n)
    or_else if eqb c (code "T") then ltb 0 (used (r.receives + r.sends) n)
    or_else if eqb c (code "S") then ltb 0 (used (r.receives + r.sends) n)
    or_else if eqb c (code "G") then eqb (used r.conditions n) n && ltb 0 n
    or_else eqb (used (r.receives + r.sends) n) n && ltb 0 n

unfoldable all_in_use : Kind → List ℕ → ℕ → ℕ → Bool
all_in_use r [] m n = true
all_in_use r (c ∷ cs) m n = if eqb c (code " ") then true or_else in_use r c m n && all_in_use r cs m n

-- a part by whether it is in use
by-use : (b u v : Bool) (x y : List ℕ) (p q : ℕ) → (if b then u or_else v) ≡ true → (u ≡ true → length x ≤ p) → (v ≡ true → length y ≤ q) → length (if b then x or_else y) ≤ (if b then p or_else q)
unfolding if◌then◌or_else◌
by-use true u v x y p q h f g = f h
by-use false u v x y p q h f g = g h

-- AN ELEMENT OF KIND k beside its figures, with its keyword, its closing sign and a bar
abbrev pub plain_most : ℕ → ℕ → ℕ → ℕ
plain_most k m n = (kind_of k).letters + parts_most (kind_of k).parts m n 0 0 0 + 2

-- computed for each kind: its parts are in use
row_in_use : Kind → ℕ → ℕ → Bool
row_in_use r m n = if count_fits r.entries m && count_fits r.exits n then all_in_use r r.parts m n or_else true

rows-in-use : (k : ℕ) → all (λ m. all (row_in_use (kind_of k) m) (suc branches)) (suc branches) ≡ true
unfolding row_in_use each all if◌then◌or_else◌ count_fits used in_use all_in_use
rows-in-use k = every_kind (λ r. all (λ m. all (row_in_use r m) (suc branches)) (suc branches)) refl refl k

all_in_use_lem : (k m n : ℕ) → m ≤ branches → n ≤ branches → count_fits (kind_of k).entries m ≡ true → count_fits (kind_of k).exits n ≡ true → all_in_use (kind_of k) (kind_of k).parts m n ≡ true
unfolding row_in_use
all_in_use_lem k m n i j e x =
    chosen_true _ _ true
    (all_at (row_in_use (kind_of k) m) (suc branches) (all_at (λ m. all (row_in_use (kind_of k) m) (suc branches)) (suc branches) (rows-in-use k) m (omega (arith, i))) n (omega (arith, j)))
    (and_from (count_fits (kind_of k).entries m) (count_fits (kind_of k).exits n) e x)

-- and the figures stand in them once
abbrev Beside : Kind → Type 0
Beside r = (m n e x t : ℕ) → parts_most r.parts m n e x t ≤ parts_most r.parts m n 0 0 0 + e + x + r.task * t

abbrev Each : List Kind → Type 0
Each [] = Unit {0}
Each (r ∷ rs) = Beside r × Each rs

beside_at : (rs : List Kind) → Each rs → Beside no_kind → (k : ℕ) → Beside (get_or rs k no_kind)
beside_at [] h o k = o
beside_at (r ∷ rs) h o zero = h.0
beside_at (r ∷ rs) h o (suc k) = beside_at rs h.1 o k

figures_beside : (k : ℕ) → Beside (kind_of k)
unfolding kind_of part_most parts_most if◌then◌or_else◌
figures_beside k = beside_at kinds (λ m n e x t. omega arith, (λ m n e x t. omega arith, (λ m n e x t. omega arith, (λ m n e x t. omega arith, (λ m n e x t. omega arith, (λ m n e x t. omega arith, (λ m n e x t. omega arith, (λ m n e x t. omega arith, (λ m n e x t. omega arith, (λ m n e x t. omega arith, (λ m n e x t. omega arith, (λ m n e x t. omega arith, (λ m n e x t. omega arith, (λ m n e x t. omega arith, (λ m n e x t. omega arith, (λ m n e x t. omega arith, tt)))))))))))))))) (λ m n e x t. omega arith) k

-- the figures of an element's entries, of its exits, and of its task's number
abbrev pub entry_figures : List ℕ → ℕ
entry_figures el = sum (λ j. length (shown (entry_at el j))) (at el entries_place)

abbrev pub exit_figures : List ℕ → ℕ
exit_figures el = sum (λ j. length (shown (exit_at el j))) (at el exits_place)

abbrev pub task_figures : List ℕ → ℕ
task_figures el = length (shown (task_in el))

module _ (el : List ℕ) (fits : element_fits el ≡ true) where
  abbrev r : Kind
  r = row_of el

  abbrev m : ℕ
  m = at el entries_place

  abbrev n : ℕ
  n = at el exits_place

  message_short : (b : ℕ) → b < used (r.receives + r.sends) n → length (shown_message el b) ≤ message_most
  unfolding shown_message shown_tuple
  message_short b l =
      let items = listed_short (code "<") (code ">") (λ j. shown_item (item_at el b j)) pair_most (message_length el b) (λ j k. item_short r.receives (item_at el b j) (item_fits_lem el fits b l j k)) in
      omega (
        arith,
        length-append (shown (message_name el b)) (code ":" ∷ shown_tuple el b),
        two_figures (message_name el b) (omega (arith, message_name_lem el fits b l)),
        message_length_lem el fits b l,
        items,
      )

  task_short : 0 < used r.conditions n → length (shown_task el) ≤ task_most + task_figures el
  unfolding shown_task shown_assignments
  task_short l =
      let guard : List ℕ = shown_condition (condition_at el 0) ++ (code "," ∷ shown_assignments el) in
      let mode : List ℕ = shown_mode (mode_in el) ++ (code "," ∷ guard) in
      let works = listed_short (code "{") (code "}") (λ j. shown_assignment (assignment_at el j)) assignment_most (assignment_count el) (λ j k. assignment_short (assignment_at el j) (assignment_fits_lem el fits j k)) in
      omega (
        arith,
        length-append (shown (task_in el)) (code "," ∷ mode),
        length-append (shown_mode (mode_in el)) (code "," ∷ guard),
        length-append (shown_condition (condition_at el 0)) (code "," ∷ shown_assignments el),
        mode_short (mode_in el),
        condition_short r.conditions (condition_at el 0) (condition_fits_lem el fits 0 l),
        assignments_few el fits,
        works,
      )

  entries_short : 0 < m → length (shown_entries el) ≤ m + 1 + entry_figures el
  unfolding shown_entries
  entries_short l =
      omega (
        arith,
        between_long (code "{") (code "}") (commas (λ j. shown (entry_at el j)) m),
        figured_short (λ j. shown (entry_at el j)) (λ j. length (shown (entry_at el j))) 0 m l (λ j k. omega arith),
      )

  exits_short : 0 < n → length (shown_exits el) ≤ n + 1 + exit_figures el
  unfolding shown_exits
  exits_short l =
      omega (
        arith,
        between_long (code "{") (code "}") (commas (λ j. shown (exit_at el j)) n),
        figured_short (λ j. shown (exit_at el j)) (λ j. length (shown (exit_at el j))) 0 n l (λ j k. omega arith),
      )

  guarded_short : (b : ℕ) → b < used r.conditions n → length (shown_guarded el b) ≤ guarded_most + length (shown (exit_at el b))
  unfolding shown_guarded
  guarded_short b l =
      let inside : List ℕ = shown (exit_at el b) ++ (code "," ∷ shown_condition (condition_at el b)) in
      omega (
        arith,
        between_long (code "(") (code ")") inside,
        length-append (shown (exit_at el b)) (code "," ∷ shown_condition (condition_at el b)),
        condition_short r.conditions (condition_at el b) (condition_fits_lem el fits b l),
      )

  guarded_list_short : used r.conditions n ≡ n → 0 < n → length (shown_guarded_list el) ≤ n * (guarded_most + 1) + 1 + exit_figures el
  unfolding shown_guarded_list
  guarded_list_short e l =
      omega (
        arith,
        between_long (code "{") (code "}") (commas (shown_guarded el) n),
        figured_short (shown_guarded el) (λ j. length (shown (exit_at el j))) guarded_most n l (λ j k. guarded_short j (omega (arith, e))),
      )

  receiving_short : (b : ℕ) → b < used (r.receives + r.sends) n → length (shown_receiving el b) ≤ receiving_most + length (shown (exit_at el b))
  unfolding shown_receiving
  receiving_short b l =
      let inside : List ℕ = shown_message el b ++ (code "," ∷ shown (exit_at el b)) in
      omega (
        arith,
        between_long (code "(") (code ")") inside,
        length-append (shown_message el b) (code "," ∷ shown (exit_at el b)),
        message_short b l,
      )

  receiving_list_short : used (r.receives + r.sends) n ≡ n → 0 < n → length (shown_receiving_list el) ≤ n * (receiving_most + 1) - 1 + exit_figures el
  unfolding shown_receiving_list
  receiving_list_short e l =
      omega (arith, figured_short (shown_receiving el) (λ j. length (shown (exit_at el j))) receiving_most n l (λ j k. receiving_short j (omega (arith, e))))

  part_short : (c : ℕ) → in_use r c m n ≡ true → length (shown_part c el) ≤ part_most c m n (entry_figures el) (exit_figures el) (task_figures el)
  unfolding shown_part part_most in_use
  part_short c h =
      let listed : (k : ℕ) (b : Bool) → eqb k n && b ≡ true → k ≡ n = λ k b e. eqb-true k n (and_left (eqb k n) b e) in
      let some : (k : ℕ) (b : Bool) → b && ltb 0 k ≡ true → 0 < k = λ k b e. ltb-true 0 k (and_right b (ltb 0 k) e) in
      by-use (eqb c (code "E")) _ _ _ _ _ _ h (λ u. sum_at (λ j. length (shown (entry_at el j))) m 0 (ltb-true 0 m u))
      (λ h. by-use (eqb c (code "X")) _ _ _ _ _ _ h (λ u. sum_at (λ j. length (shown (exit_at el j))) n 0 (ltb-true 0 n u))
      (λ h. by-use (eqb c (code "F")) _ _ _ _ _ _ h (λ u. entries_short (ltb-true 0 m u))
      (λ h. by-use (eqb c (code "Y")) _ _ _ _ _ _ h (λ u. exits_short (ltb-true 0 n u))
      (λ h. by-use (eqb c (code "N")) _ _ _ _ _ _ h (λ u. task_short (ltb-true 0 (used r.conditions n) u))
      (λ h. by-use (eqb c (code "T")) _ _ _ _ _ _ h (λ u. message_short 0 (ltb-true 0 (used (r.receives + r.sends) n) u))
      (λ h. by-use (eqb c (code "S")) _ _ _ _ _ _ h (λ u. message_short 0 (ltb-true 0 (used (r.receives + r.sends) n) u))
      (λ h. by-use (eqb c (code "G")) _ _ _ _ _ _ h
      (λ u. guarded_list_short (listed (used r.conditions n) (ltb 0 n) u) (some n (eqb (used r.conditions n) n) u))
      (λ u. receiving_list_short (listed (used (r.receives + r.sends) n) (ltb 0 n) u) (some n (eqb (used (r.receives + r.sends) n) n) u)))))))))

  parts_short : (s : ℕ) (cs : List ℕ) → all_in_use r cs m n ≡ true → length (shown_parts s cs el) ≤ parts_most cs m n (entry_figures el) (exit_figures el) (task_figures el)
  unfolding shown_parts parts_most all_in_use
  parts_short s [] h = omega arith
  parts_short s (c ∷ cs) h =
      by-use (eqb c (code " ")) true (in_use r c m n && all_in_use r cs m n) [] (s ∷ (shown_part c el ++ shown_parts (code ",") cs el)) 0 (1 + part_most c m n (entry_figures el) (exit_figures el) (task_figures el) + parts_most cs m n (entry_figures el) (exit_figures el) (task_figures el)) h
      (λ u. omega arith)
      (λ u. omega (arith, length-append (shown_part c el) (shown_parts (code ",") cs el), part_short c (and_left (in_use r c m n) (all_in_use r cs m n) u), parts_short (code ",") cs (and_right (in_use r c m n) (all_in_use r cs m n) u)))

  -- AN ELEMENT, with a bar
  pub element_short : length (shown_element el) + 1 ≤ plain_most (kind_in el) m n + entry_figures el + exit_figures el + r.task * task_figures el
  unfolding shown_element
  element_short =
      let k = kind_in el in
      let inside : List ℕ = shown_parts (code "(") r.parts el in
      omega (
        arith,
        length-append (keyword_of k) (inside ++ (code ")" ∷ [])),
        length-append inside (code ")" ∷ []),
        take_short r.letters r.keyword,
        parts_short (code "(") r.parts (all_in_use_lem k m n (entries_few el fits) (exits_few el fits) (entries_fit el fits) (exits_fit el fits)),
        figures_beside k m n (entry_figures el) (exit_figures el) (task_figures el),
      )
