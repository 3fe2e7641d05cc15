-- The words of an element that is drawn are words: its kind by its limits, the others as they are stored. Assumes nothing.
use Prim.Native.Nat.{ℕ, zero, suc, ◌+◌, ◌≤◌, ◌<◌}
use mathlib.Core.Path.{◌≡◌, refl, sym, subst}
use mathlib.Core.Bool.{Bool, true, false}
use mathlib.Core.List.{List, [], ◌∷◌}
use native.Mathlib.Decide.{ℕ_discrete}
use native.Mathlib.Omega.{arith}
use lib.Dec.{ltb}
use lib.ListN.{set, replicate}
use borrow.Author.Tests.{ltb-true}
use Rattle.base_words.specs.Pick.{if◌then◌or_else◌}
use Rattle.base_words.specs.Seek.{seek}
use Rattle.base_words.specs.Sum.{sum, one_if}
use Rattle.base_words.specs.Words.{at, greatest}
use Rattle.base_words.proofs.AllLaws.{and_left}
use Rattle.base_words.proofs.IterLaws.{iter_keeps}
use Rattle.base_words.proofs.SeekLaws.{sought}
use Rattle.base_kinds.specs.Kinds.{kind_of}
use Rattle.base_table.specs.Places.{kind_place, element_words, always, default}
use Rattle.base_table.specs.Table.{kind_in}
use Rattle.check_limits.specs.Limits.{parts_fit, element_fits}
use Rattle.draw_things.specs.Things.{greatest_note, one_more, target, message_flow, kind}
use Rattle.draw_kinds.specs.Counting.{source_in, target_in, is_with, first_with, of_sort, count_sort}
use Rattle.draw_conditions.specs.declared.Term.{Term}
use Rattle.draw_conditions.specs.declared.Condition.{Condition}
use Rattle.draw_numbers.specs.Numbers.{task_of, edge_of, first_edge_of, message_of}
use Rattle.draw_model.specs.Drawn.{with_edge, received_by, sent_by, with_message, with_form, with_task, with_first, head_of, with_term, with_condition, said_or_true, guarded_by, with_guard, exit_behind, with_branch, exit_by, entering_by, leaving_by, by_flow, element_drawn}
use Rattle.draw_read.proofs.LongLaws.{element_long}
use Rattle.proof_roundtrip.proofs.BlankLaws.{zero_word}
use Rattle.proof_roundtrip.proofs.KindLaws.{kind_bounds}
use Rattle.proof_roundtrip.proofs.EndModels.{Right}
use Rattle.proof_drawings.proofs.TermLaws.{either, Stored, Plain, plain_at_lem}

-- the words behind the kind
record Behind (x : List ℕ) : Type 0 where
  pub small : (i : ℕ) → 0 < i → at x i ≤ greatest

set_small : (x : List ℕ) (i v j : ℕ) → v ≤ greatest → at x j ≤ greatest → at (set x i v) j ≤ greatest
set_small [] i v j h k = k
set_small (x ∷ xs) zero v zero h k = h
set_small (x ∷ xs) zero v (suc j) h k = k
set_small (x ∷ xs) (suc i) v zero h k = k
set_small (x ∷ xs) (suc i) v (suc j) h k = set_small xs i v j h k

put : (x : List ℕ) (i v : ℕ) → v ≤ greatest → Behind x → Behind (set x i v)
put x i v h k = record { small = λ j l. set_small x i v j h (k.small j l) }

set-kind : (x : List ℕ) (v j : ℕ) → 0 < j → at x j ≤ greatest → at (set x kind_place v) j ≤ greatest
set-kind [] v j l k = k
set-kind (x ∷ xs) v zero l k = absurd (omega (arith, l))
set-kind (x ∷ xs) v (suc j) l k = k

put_kind : (x : List ℕ) (v : ℕ) → Behind x → Behind (set x kind_place v)
put_kind x v k = record { small = λ j l. set-kind x v j l (k.small j l) }

-- what is stored
more_small : (n : ℕ) → one_more n ≤ greatest
unfolding one_more
more_small n = go (ltb n greatest_note) refl
  where
    go : (b : Bool) → ltb n greatest_note ≡ b → (if b then n + 1 or_else greatest_note) ≤ greatest
    go true e = unfold if◌then◌or_else◌ in let l = ltb-true n greatest_note e in omega (arith, l)
    go false e = unfold if◌then◌or_else◌ in omega arith

count_most_lem : (f : ℕ → Bool) (n : ℕ) → sum (λ j. one_if (f j)) n ≤ n
unfolding sum
count_most_lem f zero = omega arith
count_most_lem f (suc n) = go (count_most_lem f n) (f n)
  where
    go : sum (λ j. one_if (f j)) n ≤ n → (b : Bool) → sum (λ j. one_if (f j)) n + one_if b ≤ suc n
    go before true = omega (arith, before)
    go before false = omega (arith, before)

module _ (t w : List ℕ) (n : ℕ) (few : n ≤ greatest) where
  message_small : (c k : ℕ) → message_of w (first_with message_flow c k w n) ≤ greatest
  unfolding message_of count_sort first_with
  message_small c k =
      let s = sought (is_with message_flow c k w) n in
      let m = count_most_lem (of_sort message_flow w) (seek (is_with message_flow c k w) n) in
      omega (arith, s.0, m, few)

  received_small : (k : ℕ) → received_by w n k ≤ greatest
  unfolding received_by
  received_small k = message_small target_in k

  sent_small : (k : ℕ) → sent_by w n k ≤ greatest
  unfolding sent_by
  sent_small k = message_small source_in k

  edge_small : (list e : ℕ) (x : List ℕ) → e ≤ greatest → Behind x → Behind (with_edge list e x)
  unfolding with_edge
  edge_small list e x h l = put _ _ _ (more_small _) (put _ _ _ h l)

  number_small : (k : ℕ) → edge_of w k ≤ greatest
  unfolding edge_of
  number_small k = more_small _

  form_small : (b form : ℕ) (x : List ℕ) → form ≤ greatest → Behind x → Behind (with_form b form x)
  unfolding with_form
  form_small b form x h l = put _ _ _ h l

  with_message_lem : (k : ℕ) (x : List ℕ) → Behind x → Behind (with_message w n k x)
  unfolding with_message
  with_message_lem k x l = either Behind _ _ _ (put _ _ _ (received_small k) l) (either Behind _ _ _ (put _ _ _ (sent_small k) l) l)

  with_task_lem : (k : ℕ) (x : List ℕ) → Behind x → Behind (with_task w k x)
  unfolding with_task task_of
  with_task_lem k x l = form_small 0 always _ (omega arith) (put _ _ _ (omega arith) (put _ _ _ (more_small _) l))

  with_first_lem : (k : ℕ) (x : List ℕ) → Behind x → Behind (with_first w n k x)
  unfolding with_first first_edge_of
  with_first_lem k x l = either Behind _ _ _ (with_task_lem k x l) (either Behind _ _ _ (edge_small _ _ _ (more_small _) l) l)

  head_small : (k : ℕ) → Behind (head_of w n k)
  unfolding head_of
  head_small k =
      with_message_lem k _ (with_first_lem k _ (put_kind (replicate element_words 0) (kind w k) (record { small = λ i l. subst (λ (v : ℕ). v ≤ greatest) (sym (zero_word element_words i)) (omega arith) })))

  term_small : (o : Term) (b side : ℕ) (x : List ℕ) → Stored o → Behind x → Behind (with_term o b side x)
  unfolding with_term
  term_small o b side x s l = put _ _ _ s.number (put _ _ _ s.flag l)

  condition_small : (c : Condition) (b : ℕ) (x : List ℕ) → Plain c → Behind x → Behind (with_condition c b x)
  unfolding with_condition
  condition_small c b x s l = term_small _ _ _ _ s.right (term_small _ _ _ _ s.left (form_small b _ x s.form l))

  true_small : (b : ℕ) (x : List ℕ) → Behind x → Behind (with_form b always x)
  true_small b x l = form_small b always x (omega arith) l

  guarded_small : (j b : ℕ) (x : List ℕ) → Behind x → Behind (guarded_by t w n j b x)
  unfolding guarded_by said_or_true
  guarded_small j b x l = either Behind _ _ _ (either Behind _ _ _ (true_small b x l) (condition_small _ b x (plain_at_lem t _) l)) (true_small b x l)

  guard_small : (k j b : ℕ) (x : List ℕ) → Behind x → Behind (with_guard t w n k j b x)
  unfolding with_guard
  guard_small k j b x l = either Behind _ _ _ (form_small b default x (omega arith) l) (guarded_small j b x l)

  exit_small : (k j : ℕ) (x : List ℕ) → Behind x → Behind (exit_by t w n k j x)
  unfolding exit_by with_branch exit_behind
  exit_small k j x l =
      either Behind _ _ _ (edge_small _ _ _ (number_small _) (put _ _ _ (received_small (target w j)) l))
      (either Behind _ _ _ (edge_small _ _ _ (number_small j) (guard_small k j _ x l)) (edge_small _ _ _ (number_small j) l))

  flow_small : (k j : ℕ) (x : List ℕ) → Behind x → Behind (by_flow t w n k j x)
  unfolding by_flow leaving_by entering_by
  flow_small k j x l = either Behind _ _ _ (either Behind _ _ _ (exit_small k j _ entered) entered) l
    where
      entered : Behind (entering_by w k j x)
      entered = either Behind _ _ _ (edge_small _ _ _ (number_small j) l) l

  behind_small : (k : ℕ) → Behind (element_drawn t w n k)
  unfolding element_drawn
  behind_small k = iter_keeps (by_flow t w n k) (head_of w n k) Behind n (λ j x h l. flow_small k j x l) (head_small k)

  -- an element within its limits is as one that was read
  pub element_right : (k : ℕ) → element_fits (element_drawn t w n k) ≡ true → Right (element_drawn t w n k)
  element_right k h = record { fits = h; long = element_long t w n k; small = λ i. small i (ℕ_discrete i 0) }
    where
      y : List ℕ
      y = element_drawn t w n k

      kind_small : at y 0 ≤ greatest
      kind_small = let b = kind_bounds (kind_in y) (unfold element_fits in and_left _ (parts_fit (kind_of (kind_in y)) y) h) in omega (arith, b.1)

      small : (i : ℕ) → Dec (i ≡ 0) → at y i ≤ greatest
      small i (yes e) = subst (λ (j : ℕ). at y j ≤ greatest) (sym e) kind_small
      small i (no m) = (behind_small k).small i (omega (arith, m))
