-- AN ELEMENT THAT WAS READ is within its limits. Assumes nothing.
use Prim.Native.Char.{code}
use Prim.Native.Nat.{ℕ, ◌+◌, ◌-◌, ◌*◌, ◌≤◌, ◌<◌}
use mathlib.Core.Path.{◌≡◌, ◌∙◌, refl, ap}
use mathlib.Core.Bool.{Bool, true, false, not, ◌&&◌, ◌||◌, false≢true}
use mathlib.Core.List.{List, [], ◌∷◌}
use mathlib.Core.Logic.{⊎_elim}
use native.Mathlib.Omega.{arith}
use lib.Dec.{eqb}
use lib.ListN.{drop}
use borrow.Author.Tests.{eqb-true, not-true}
use Rattle.std.proofs.lemmas.Bool.{or_cases, and_parts}
use Rattle.base_words.specs.All.{all}
use Rattle.base_words.specs.Counts.{branches, assignments}
use Rattle.base_words.specs.Pick.{if◌then◌or_else◌}
use Rattle.base_words.specs.Words.{at}
use Rattle.base_words.proofs.AllLaws.{all_at, and_left, and_right}
use Rattle.base_words.proofs.PickLaws.{and_true}
use Rattle.base_kinds.specs.declared.Kind.{Kind}
use Rattle.base_kinds.specs.Kinds.{kind_of, used, none, one, many}
use Rattle.base_table.specs.Places.{task_place, mode_place, entries_place, exits_place, condition_place, message_place, assignments_place, assignment_place, expression_words, message_words, assignment_words}
use Rattle.check_limits.specs.Limits.{things, count_fits, edges_fit, task_fits, condition_fits, conditions_fit, message_fits, messages_fit, assignment_fits, assignments_fit, parts_fit}
use Rattle.text_elements.specs.Elements.{kind_count}
use Rattle.proof_roundtrip.specs.Trip.{spans, region_of}
use Rattle.proof_roundtrip.proofs.NumberReads.{Span}
use Rattle.proof_roundtrip.proofs.FitsLaws.{used-one, used-many}
use Rattle.proof_roundtrip.proofs.KindLaws.{of_kind_lem}
use Rattle.proof_roundtrip.proofs.RowLaws.{listed, Has, Either, has, either, either_of}
use Rattle.proof_roundtrip.proofs.FitLaws.{used_few}
use Rattle.proof_roundtrip.proofs.PartsReads.{listed_cases, listed_blank}
use Rattle.proof_roundtrip.proofs.ListFills.{things_of}
use Rattle.proof_roundtrip.proofs.EdgeFills.{edges_of}
use Rattle.proof_roundtrip.proofs.PartFills.{suits, good}
use Rattle.proof_roundtrip.proofs.RowFills.{stores, suiting, suits_first, suits_later, row_suits, Good}

-- a part of a row suits it
pub suited : (r : Kind) (cs : List ℕ) (c : ℕ) → suiting r cs ≡ true → listed cs c ≡ true → suits r c ≡ true
suited r [] c s l = absurd (false≢true (unfold listed in l))
suited r (d ∷ cs) c s l = go (eqb d (code " ")) refl (suited r cs c)
  where
    go : (b : Bool) → eqb d (code " ") ≡ b → (suiting r cs ≡ true → listed cs c ≡ true → suits r c ≡ true) → suits r c ≡ true
    go true e k = absurd (listed_blank d cs c e l)
    go false e k = ⊎_elim (λ q. ap (suits r) q ∙ suits_first r d cs e s) (k (suits_later r d cs e s)) (listed_cases d cs e c l)

-- THE ROWS: the words that no part stores
abbrev free : ℕ → ℕ → ℕ → Bool
free k from n = all (λ i. not (stores (kind_of k).parts (from + i))) n

module _ (k : ℕ) (l : 0 < k) (u : k < kind_count + 1) where
  abbrev task_test : ℕ → Bool
  task_test j = not (eqb (kind_of j).task one) && (free j task_place 2 && free j assignments_place 25)

  row_task : Either k (code "N" ∷ []) (task_test k ≡ true)
  unfolding all listed stores region_of spans kind_of if◌then◌or_else◌
  row_task = either_of k (code "N" ∷ []) (task_test k) (of_kind_lem (λ j. either j (code "N" ∷ []) (task_test j)) refl k l u)

  abbrev entries_test : ℕ → Bool
  entries_test j = eqb (kind_of j).entries 0 && free j entries_place 9

  row_entries : Either k (code "E" ∷ code "F" ∷ []) (entries_test k ≡ true)
  unfolding all listed stores region_of spans kind_of if◌then◌or_else◌
  row_entries = either_of k (code "E" ∷ code "F" ∷ []) (entries_test k) (of_kind_lem (λ j. either j (code "E" ∷ code "F" ∷ []) (entries_test j)) refl k l u)

  abbrev exits_test : ℕ → Bool
  exits_test j = eqb (kind_of j).exits 0 && free j exits_place 9

  row_exits : Either k (code "X" ∷ code "Y" ∷ code "G" ∷ code "B" ∷ []) (exits_test k ≡ true)
  unfolding all listed stores region_of spans kind_of if◌then◌or_else◌
  row_exits = either_of k (code "X" ∷ code "Y" ∷ code "G" ∷ code "B" ∷ []) (exits_test k) (of_kind_lem (λ j. either j (code "X" ∷ code "Y" ∷ code "G" ∷ code "B" ∷ []) (exits_test j)) refl k l u)

  abbrev guard_test : ℕ → Bool
  guard_test j = has j (code "N") && free j (condition_place 1) 35

  abbrev conditions_test : ℕ → Bool
  conditions_test j = guard_test j || (eqb (kind_of j).conditions 0 && free j (condition_place 0) 40)

  row_conditions : Either k (code "G" ∷ []) (conditions_test k ≡ true)
  unfolding all listed stores region_of spans kind_of if◌then◌or_else◌
  row_conditions = either_of k (code "G" ∷ []) (conditions_test k) (of_kind_lem (λ j. either j (code "G" ∷ []) (conditions_test j)) refl k l u)

  abbrev template_test : ℕ → Bool
  template_test j = has j (code "T") && free j (message_place 1) 154

  abbrev output_test : ℕ → Bool
  output_test j = has j (code "S") && free j (message_place 1) 154

  abbrev messages_test : ℕ → Bool
  messages_test j = template_test j || (output_test j || (eqb ((kind_of j).receives + (kind_of j).sends) 0 && free j (message_place 0) 176))

  row_messages : Either k (code "B" ∷ []) (messages_test k ≡ true)
  unfolding all listed stores region_of spans kind_of if◌then◌or_else◌
  row_messages = either_of k (code "B" ∷ []) (messages_test k) (of_kind_lem (λ j. either j (code "B" ∷ []) (messages_test j)) refl k l u)

-- things of which one is used, or none
one_thing : (y : List ℕ) (base w n : ℕ) (right : List ℕ → Bool) → right (drop base y) ≡ true → ((i : ℕ) → Span (base + w * 1) (w * (n - 1)) i → at y i ≡ 0) → things (drop base y) w n 1 right ≡ true
one_thing y base w n right r z = things_of y base w n 1 right (λ j l. ap (λ (m : ℕ). right (drop m y)) (first j l) ∙ r) z
  where
    first : (j : ℕ) → j < 1 → base + w * j ≡ base
    first j l = ap (λ (m : ℕ). base + w * m) (let e : j ≡ 0 = omega (arith, l) in e) ∙ (let e : base + w * 0 ≡ base = omega arith in e)

no_thing : (y : List ℕ) (base w n : ℕ) (right : List ℕ → Bool) → ((i : ℕ) → Span (base + w * 0) (w * (n - 0)) i → at y i ≡ 0) → things (drop base y) w n 0 right ≡ true
no_thing y base w n right z = things_of y base w n 0 right (λ j l. absurd (omega (arith, l))) z

both_eq : (a b c d : ℕ) → eqb a b && eqb c d ≡ true → (a ≡ b) × (c ≡ d)
both_eq a b c d e = (eqb-true a b (and_left (eqb a b) (eqb c d) e), eqb-true c d (and_right (eqb a b) (eqb c d) e))

task_none : (task : ℕ) (y : List ℕ) → eqb task one ≡ false → at y task_place ≡ 0 → at y mode_place ≡ 0 → at y assignments_place ≡ 0 → task_fits task y ≡ true
unfolding task_fits if◌then◌or_else◌
task_none task y e a b c = rw (e, a, b, c)

-- what was stored by the parts of row k
module _ (k : ℕ) (l : 0 < k) (u : k < kind_count + 1) (y : List ℕ) (g : Good (kind_of k) (kind_of k).parts y) (zero : (i : ℕ) → 0 < i → stores (kind_of k).parts i ≡ false → at y i ≡ 0) where
  zeros_free : (from n : ℕ) → 0 < from → free k from n ≡ true → (i : ℕ) → from ≤ i → i < from + n → at y i ≡ 0
  zeros_free from n p f i a b =
      zero i (omega (arith, p, a))
      (ap (stores (kind_of k).parts) (let e : i ≡ from + (i - from) = omega (arith, a) in e)
      ∙ not-true (stores (kind_of k).parts (from + (i - from))) (all_at (λ j. not (stores (kind_of k).parts (from + j))) n f (i - from) (omega (arith, a, b))))

  suit : (c : ℕ) → Has k c → suits (kind_of k) c ≡ true
  suit c h = suited (kind_of k) (kind_of k).parts c (row_suits k l u) h

  -- what the row says of a part, and what was stored of it
  entry_row : Has k (code "E") → (kind_of k).entries ≡ one
  unfolding suits if◌then◌or_else◌
  entry_row h = eqb-true (kind_of k).entries one (suit (code "E") h)

  entry_words : Has k (code "E") → edges_fit one (drop entries_place y) ≡ true
  unfolding good if◌then◌or_else◌
  entry_words h = g (code "E") h

  entries_row : Has k (code "F") → (kind_of k).entries ≡ many
  unfolding suits if◌then◌or_else◌
  entries_row h = eqb-true (kind_of k).entries many (suit (code "F") h)

  entries_words : Has k (code "F") → edges_fit many (drop entries_place y) ≡ true
  unfolding good if◌then◌or_else◌
  entries_words h = g (code "F") h

  exit_row : Has k (code "X") → (kind_of k).exits ≡ one
  unfolding suits if◌then◌or_else◌
  exit_row h = eqb-true (kind_of k).exits one (suit (code "X") h)

  exit_words : Has k (code "X") → edges_fit one (drop exits_place y) ≡ true
  unfolding good if◌then◌or_else◌
  exit_words h = g (code "X") h

  exits_row : Has k (code "Y") → (kind_of k).exits ≡ many
  unfolding suits if◌then◌or_else◌
  exits_row h = eqb-true (kind_of k).exits many (suit (code "Y") h)

  exits_words : Has k (code "Y") → edges_fit many (drop exits_place y) ≡ true
  unfolding good if◌then◌or_else◌
  exits_words h = g (code "Y") h

  task_row : Has k (code "N") → ((kind_of k).task ≡ one) × ((kind_of k).conditions ≡ one)
  unfolding suits if◌then◌or_else◌
  task_row h = both_eq (kind_of k).task one (kind_of k).conditions one (suit (code "N") h)

  task_words : Has k (code "N") → (task_fits one y ≡ true) × ((condition_fits one (drop (condition_place 0) y) ≡ true) × (things (drop (assignment_place 0) y) assignment_words assignments (at y assignments_place) assignment_fits ≡ true))
  unfolding good if◌then◌or_else◌
  task_words h =
      let q = and_parts (task_fits one y) (condition_fits one (drop (condition_place 0) y) && things (drop (assignment_place 0) y) assignment_words assignments (at y assignments_place) assignment_fits) (g (code "N") h) in
      (q.0, and_parts (condition_fits one (drop (condition_place 0) y)) (things (drop (assignment_place 0) y) assignment_words assignments (at y assignments_place) assignment_fits) q.1)

  template_row : Has k (code "T") → ((kind_of k).receives ≡ one) × ((kind_of k).sends ≡ none)
  unfolding suits if◌then◌or_else◌
  template_row h = both_eq (kind_of k).receives one (kind_of k).sends none (suit (code "T") h)

  template_words : Has k (code "T") → message_fits (kind_of k).receives (drop (message_place 0) y) ≡ true
  unfolding good if◌then◌or_else◌
  template_words h = g (code "T") h

  output_row : Has k (code "S") → ((kind_of k).receives ≡ none) × ((kind_of k).sends ≡ one)
  unfolding suits if◌then◌or_else◌
  output_row h = both_eq (kind_of k).receives none (kind_of k).sends one (suit (code "S") h)

  output_words : Has k (code "S") → message_fits (kind_of k).receives (drop (message_place 0) y) ≡ true
  unfolding good if◌then◌or_else◌
  output_words h = g (code "S") h

  guards_row : Has k (code "G") → ((kind_of k).exits ≡ many) × ((kind_of k).conditions ≡ many)
  unfolding suits if◌then◌or_else◌
  guards_row h = both_eq (kind_of k).exits many (kind_of k).conditions many (suit (code "G") h)

  guards_words : Has k (code "G") → (edges_fit many (drop exits_place y) ≡ true) × (things (drop (condition_place 0) y) expression_words branches (at y exits_place) (condition_fits many) ≡ true)
  unfolding good if◌then◌or_else◌
  guards_words h = and_parts (edges_fit many (drop exits_place y)) (things (drop (condition_place 0) y) expression_words branches (at y exits_place) (condition_fits many)) (g (code "G") h)

  receivers_row : Has k (code "B") → ((kind_of k).exits ≡ many) × (((kind_of k).receives ≡ many) × ((kind_of k).sends ≡ none))
  unfolding suits if◌then◌or_else◌
  receivers_row h =
      let s = suit (code "B") h in (
        eqb-true (kind_of k).exits many (and_left (eqb (kind_of k).exits many) (eqb (kind_of k).receives many && eqb (kind_of k).sends none) s),
        both_eq (kind_of k).receives many (kind_of k).sends none (and_right (eqb (kind_of k).exits many) (eqb (kind_of k).receives many && eqb (kind_of k).sends none) s),
      )

  receivers_words : Has k (code "B") → (edges_fit many (drop exits_place y) ≡ true) × (things (drop (message_place 0) y) message_words branches (at y exits_place) (message_fits (kind_of k).receives) ≡ true)
  unfolding good if◌then◌or_else◌
  receivers_words h = and_parts (edges_fit many (drop exits_place y)) (things (drop (message_place 0) y) message_words branches (at y exits_place) (message_fits (kind_of k).receives)) (g (code "B") h)

  -- the words of an empty list of edges
  no_edges : (list column : ℕ) → 0 < list → eqb column 0 && free k list 9 ≡ true → edges_fit column (drop list y) ≡ true
  no_edges list column p t =
      let z = zeros_free list 9 p (and_right (eqb column 0) (free k list 9) t) in
      let c = eqb-true column 0 (and_left (eqb column 0) (free k list 9) t) in
      ap (λ (j : ℕ). edges_fit j (drop list y)) c
      ∙ edges_of 0 list 0 y (z list (omega arith) (omega arith)) (omega arith) (unfold count_fits if◌then◌or_else◌ in refl) (λ j h. absurd (omega (arith, h))) (λ i a b. z i (omega (arith, a)) (omega (arith, b)))

  pub entries_right : edges_fit (kind_of k).entries (drop entries_place y) ≡ true
  entries_right =
      ⊎_elim (λ h. ap (λ (j : ℕ). edges_fit j (drop entries_place y)) (entry_row h) ∙ entry_words h)
      (⊎_elim (λ h. ap (λ (j : ℕ). edges_fit j (drop entries_place y)) (entries_row h) ∙ entries_words h)
      (no_edges entries_place (kind_of k).entries (omega arith)))
      (row_entries k l u)

  pub exits_right : edges_fit (kind_of k).exits (drop exits_place y) ≡ true
  exits_right =
      ⊎_elim (λ h. ap (λ (j : ℕ). edges_fit j (drop exits_place y)) (exit_row h) ∙ exit_words h)
      (⊎_elim (λ h. ap (λ (j : ℕ). edges_fit j (drop exits_place y)) (exits_row h) ∙ exits_words h)
      (⊎_elim (λ h. ap (λ (j : ℕ). edges_fit j (drop exits_place y)) (guards_row h).0 ∙ (guards_words h).0)
      (⊎_elim (λ h. ap (λ (j : ℕ). edges_fit j (drop exits_place y)) (receivers_row h).0 ∙ (receivers_words h).0)
      (no_edges exits_place (kind_of k).exits (omega arith)))))
      (row_exits k l u)

  -- task and assignments
  pub task_right : task_fits (kind_of k).task y ≡ true
  task_right = ⊎_elim (λ h. ap (λ (j : ℕ). task_fits j y) (task_row h).0 ∙ (task_words h).0) no_task (row_task k l u)
    where
      no_task : not (eqb (kind_of k).task one) && (free k task_place 2 && free k assignments_place 25) ≡ true → task_fits (kind_of k).task y ≡ true
      no_task t =
          let f = and_right (not (eqb (kind_of k).task one)) (free k task_place 2 && free k assignments_place 25) t in
          let a = zeros_free task_place 2 (omega arith) (and_left (free k task_place 2) (free k assignments_place 25) f) in
          let b = zeros_free assignments_place 25 (omega arith) (and_right (free k task_place 2) (free k assignments_place 25) f) in
          task_none (kind_of k).task y (not-true (eqb (kind_of k).task one) (and_left (not (eqb (kind_of k).task one)) (free k task_place 2 && free k assignments_place 25) t))
          (a task_place (omega arith) (omega arith)) (a mode_place (omega arith) (omega arith)) (b assignments_place (omega arith) (omega arith))

  pub assignments_right : assignments_fit y ≡ true
  unfolding assignments_fit
  assignments_right = ⊎_elim (λ h. (task_words h).1.1) none_assigned (row_task k l u)
    where
      none_assigned : not (eqb (kind_of k).task one) && (free k task_place 2 && free k assignments_place 25) ≡ true → things (drop (assignment_place 0) y) assignment_words assignments (at y assignments_place) assignment_fits ≡ true
      none_assigned t =
          let f = and_right (not (eqb (kind_of k).task one)) (free k task_place 2 && free k assignments_place 25) t in
          let b = zeros_free assignments_place 25 (omega arith) (and_right (free k task_place 2) (free k assignments_place 25) f) in
          ap (λ (n : ℕ). things (drop (assignment_place 0) y) assignment_words assignments n assignment_fits) (b assignments_place (omega arith) (omega arith))
          ∙ no_thing y (assignment_place 0) assignment_words assignments assignment_fits (λ i s. b i (omega (arith, s.0)) (omega (arith, s.1)))

  -- conditions
  abbrev Conditions : ℕ → ℕ → Bool
  Conditions c n = things (drop (condition_place 0) y) expression_words branches n (condition_fits c)

  pub conditions_right : conditions_fit (kind_of k).conditions y ≡ true
  unfolding conditions_fit
  conditions_right =
      ⊎_elim (λ h. as_cell 2 (guards_row h).1 (ap (Conditions 2) (used-many (at y exits_place)) ∙ (guards_words h).1))
      (λ t. ⊎_elim guarded none_there (or_cases _ _ t))
      (row_conditions k l u)
    where
      as_cell : (c : ℕ) → (kind_of k).conditions ≡ c → Conditions c (used c (at y exits_place)) ≡ true → Conditions (kind_of k).conditions (used (kind_of k).conditions (at y exits_place)) ≡ true
      as_cell c e h = ap (λ (j : ℕ). Conditions j (used j (at y exits_place))) e ∙ h

      guarded : has k (code "N") && free k (condition_place 1) 35 ≡ true → Conditions (kind_of k).conditions (used (kind_of k).conditions (at y exits_place)) ≡ true
      guarded t =
          let h = and_left (has k (code "N")) (free k (condition_place 1) 35) t in
          let z = zeros_free (condition_place 1) 35 (omega arith) (and_right (has k (code "N")) (free k (condition_place 1) 35) t) in
          as_cell 1 (task_row h).1
          (ap (Conditions 1) (used-one (at y exits_place))
          ∙ one_thing y (condition_place 0) expression_words branches (condition_fits 1) (task_words h).1.0 (λ i s. z i (omega (arith, s.0)) (omega (arith, s.1))))

      none_there : eqb (kind_of k).conditions 0 && free k (condition_place 0) 40 ≡ true → Conditions (kind_of k).conditions (used (kind_of k).conditions (at y exits_place)) ≡ true
      none_there t =
          let e = eqb-true (kind_of k).conditions 0 (and_left (eqb (kind_of k).conditions 0) (free k (condition_place 0) 40) t) in
          let z = zeros_free (condition_place 0) 40 (omega arith) (and_right (eqb (kind_of k).conditions 0) (free k (condition_place 0) 40) t) in
          as_cell 0 e
          (ap (Conditions 0) (used_few 0 (at y exits_place) (omega arith))
          ∙ no_thing y (condition_place 0) expression_words branches (condition_fits 0) (λ i s. z i (omega (arith, s.0)) (omega (arith, s.1))))

  -- messages
  abbrev Messages : ℕ → Bool
  Messages n = things (drop (message_place 0) y) message_words branches n (message_fits (kind_of k).receives)

  pub messages_right : messages_fit (kind_of k).receives (kind_of k).sends y ≡ true
  unfolding messages_fit
  messages_right =
      ⊎_elim (λ h. let q = (receivers_row h).1 in as_cell 2 (omega (arith, q.0, q.1)) (ap Messages (used-many (at y exits_place)) ∙ (receivers_words h).1))
      (λ t. ⊎_elim (λ t. let h = and_left (has k (code "T")) (free k (message_place 1) 154) t in let q = template_row h in single (omega (arith, q.0, q.1)) (template_words h) (and_right (has k (code "T")) (free k (message_place 1) 154) t))
      (λ t. ⊎_elim (λ t. let h = and_left (has k (code "S")) (free k (message_place 1) 154) t in let q = output_row h in single (omega (arith, q.0, q.1)) (output_words h) (and_right (has k (code "S")) (free k (message_place 1) 154) t))
      none_there (or_cases _ _ t)) (or_cases _ _ t))
      (row_messages k l u)
    where
      as_cell : (c : ℕ) → (kind_of k).receives + (kind_of k).sends ≡ c → Messages (used c (at y exits_place)) ≡ true → Messages (used ((kind_of k).receives + (kind_of k).sends) (at y exits_place)) ≡ true
      as_cell c e h = ap (λ (j : ℕ). Messages (used j (at y exits_place))) e ∙ h

      single : (kind_of k).receives + (kind_of k).sends ≡ 1 → message_fits (kind_of k).receives (drop (message_place 0) y) ≡ true → free k (message_place 1) 154 ≡ true
          → Messages (used ((kind_of k).receives + (kind_of k).sends) (at y exits_place)) ≡ true
      single e m f =
          let z = zeros_free (message_place 1) 154 (omega arith) f in
          as_cell 1 e
          (ap Messages (used-one (at y exits_place))
          ∙ one_thing y (message_place 0) message_words branches (message_fits (kind_of k).receives) m (λ i s. z i (omega (arith, s.0)) (omega (arith, s.1))))

      none_there : eqb ((kind_of k).receives + (kind_of k).sends) 0 && free k (message_place 0) 176 ≡ true → Messages (used ((kind_of k).receives + (kind_of k).sends) (at y exits_place)) ≡ true
      none_there t =
          let e = eqb-true ((kind_of k).receives + (kind_of k).sends) 0 (and_left (eqb ((kind_of k).receives + (kind_of k).sends) 0) (free k (message_place 0) 176) t) in
          let z = zeros_free (message_place 0) 176 (omega arith) (and_right (eqb ((kind_of k).receives + (kind_of k).sends) 0) (free k (message_place 0) 176) t) in
          as_cell 0 e
          (ap Messages (used_few 0 (at y exits_place) (omega arith))
          ∙ no_thing y (message_place 0) message_words branches (message_fits (kind_of k).receives) (λ i s. z i (omega (arith, s.0)) (omega (arith, s.1))))

  -- ALL OF THEM
  pub parts_right : parts_fit (kind_of k) y ≡ true
  unfolding parts_fit
  parts_right =
      and_true _ _ (and_true _ _ (and_true _ _ (and_true _ _ (and_true _ _ task_right entries_right) exits_right) conditions_right) messages_right) assignments_right
