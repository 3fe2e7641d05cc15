-- READ AND WRITE, of the first demand: which numbers can come, when each comes, and that a refused call changes no byte it was lent. r is what is
-- returned and y what is left of the table or the buffer that was lent, as the call's promise has them. Assumes nothing.
use Prim.Native.Nat.{ℕ, ◌≤◌, ◌<◌}
use mathlib.Core.Path.{◌≡◌, refl, sym, ◌∙◌, ap, subst}
use mathlib.Core.Bool.{Bool, true, false, false≢true}
use mathlib.Core.Logic.{◌⊎◌, inl, inr, ⊎_elim}
use mathlib.Core.List.{List, [], ◌∷◌, ◌++◌, map}
use native.Mathlib.Omega.{arith}
use lib.Dec.{eqb, ltb}
use lib.ListN.{length, drop}
use borrow.Author.Tests.{eqb-true, eq-eqb, ne_eqb, lt-ltb, le-ltb}
use Rattle.base_words.specs.Counts.{text_most}
use Rattle.base_words.specs.Each.{each}
use Rattle.base_words.specs.Pick.{if◌then◌or_else◌}
use Rattle.std.specs.declared.result.Result.TheVariants.{Ok, Err}
use Rattle.text_readers.specs.Reading.{Read, Refused, misplaced, excessive}
use Rattle.check_model.specs.Checks.{lowest}
use Rattle.text_read.specs.declared.Reading.{Reading}
use Rattle.text_read.specs.Notation.{ReadInto, model, table_of, rewritten, has_room, checked, judged, read_into}
use Rattle.write_shown.specs.Shown.{shown_table}
use Rattle.engine.specs.declared.Written.{Written}
use Rattle.engine.specs.Engine.{valid, WrittenTo, written, written_to}
use Rattle.proof_steps.proofs.Choices.{by_choice, chosen, passed}
use Rattle.proof_demands.specs.Promises.{Reads, Writes}
use Rattle.proof_demands.specs.Demands.{is_one_of, read_numbers, write_numbers}
use Rattle.proof_demands.proofs.ReaderNumbers.{told, model_told}

-- WHAT A READING LEAVES: a table that was read whole, no check broken and with room for what its endSnds become; or a number other than 0 and the table as it was
pub record Whole (text : List ℕ) (r : ReadInto) : Type 0 where
  pub place : ℕ
  pub ended : (model text).end ≡ Ok place
  pub sound : lowest (model text).value ≡ 0
  pub room : each has_room (model text).value ≡ true
  pub is : r ≡ record { number = 0; beside = 0; table = table_of (map rewritten (model text).value) }

pub record Stays (t : List ℕ) (r : ReadInto) : Type 0 where
  pub refused : r.number ≡ 0 → ⊥
  pub among_them : is_one_of read_numbers r.number ≡ true
  pub table : r.table ≡ t

abbrev pub Either : List ℕ → List ℕ → ReadInto → Type 0
Either text t r = Whole text r ⊎ Stays t r

two_or_three : (n p : ℕ) (t : List ℕ) → told (Refused n p) ≡ true → Stays t (record { number = n; beside = p; table = t })
unfolding told is_one_of if◌then◌or_else◌
two_or_three n p t h = go (eqb n misplaced) (eqb n excessive) refl refl h
  where
    stays : (k : ℕ) → n ≡ k → (k ≡ 0 → ⊥) → is_one_of read_numbers k ≡ true → Stays t (record { number = n; beside = p; table = t })
    stays k e z m = record { refused = λ q. z (sym e ∙ q); among_them = subst (λ (k : ℕ). is_one_of read_numbers k ≡ true) (sym e) m; table = refl }

    go : (a b : Bool) → eqb n misplaced ≡ a → eqb n excessive ≡ b → (if a then true or_else if b then true or_else false) ≡ true → Stays t (record { number = n; beside = p; table = t })
    go true b e f h = stays misplaced (eqb-true n misplaced e) (λ q. omega (arith, q)) refl
    go false true e f h = stays excessive (eqb-true n excessive f) (λ q. omega (arith, q)) refl
    go false false e f h = absurd (false≢true h)

checked_either : (text t : List ℕ) (q : ℕ) → (model text).end ≡ Ok q → Either text t (checked (lowest (model text).value) (model text).value t)
unfolding checked is_one_of if◌then◌or_else◌
checked_either text t q e =
    by_choice (Either text t) (eqb (lowest (model text).value) 0)
    (if each has_room (model text).value then record { number = 0; beside = 0; table = table_of (map rewritten (model text).value) } or_else record { number = 28; beside = 0; table = t })
    (record { number = 4; beside = lowest (model text).value; table = t })
    (λ z.
    by_choice (Either text t) (each has_room (model text).value) (record { number = 0; beside = 0; table = table_of (map rewritten (model text).value) }) (record { number = 28; beside = 0; table = t })
    (λ room. inl (record { place = q; ended = e; sound = eqb-true (lowest (model text).value) 0 z; room = room; is = refl }))
    (λ full. inr (record { refused = λ k. omega (arith, k); among_them = refl; table = refl })))
    (λ z. inr (record { refused = λ k. omega (arith, k); among_them = refl; table = refl }))

judged_either : (text t : List ℕ) (r : Read) → (model text).end ≡ r → told r ≡ true → Either text t (judged r (model text).value t)
unfolding judged
judged_either text t (Ok q) e h = checked_either text t q e
judged_either text t (Err d) e h = inr (two_or_three d.number d.place t h)

pub taken_either : (text t : List ℕ) → Either text t (read_into text t)
unfolding read_into is_one_of if◌then◌or_else◌
taken_either text t =
    by_choice (Either text t) (ltb text_most (length text)) (record { number = 1; beside = 0; table = t }) (judged (model text).end (model text).value t)
    (λ z. inr (record { refused = λ k. omega (arith, k); among_them = refl; table = refl }))
    (λ z. judged_either text t (model text).end refl (model_told text))

-- READ: "1: text above 65,536 bytes", then 2 or 3 with its place, then 4 with the lowest check broken, then 28 where a pool has no room for what its endSnds become, else 0
module _ (text t : List ℕ) where
  pub read_above : text_most < length text → read_into text t ≡ record { number = 1; beside = 0; table = t }
  unfolding read_into
  read_above l = chosen (ltb text_most (length text)) (record { number = 1; beside = 0; table = t }) _ (lt-ltb text_most (length text) l)

  module _ (l : length text ≤ text_most) where
    within : read_into text t ≡ judged (model text).end (model text).value t
    unfolding read_into
    within = passed (ltb text_most (length text)) _ (judged (model text).end (model text).value t) (le-ltb text_most (length text) l)

    pub read_misplaced : (n p : ℕ) → (model text).end ≡ Refused n p → (is_one_of (2 ∷ 3 ∷ []) n ≡ true) × (read_into text t ≡ record { number = n; beside = p; table = t })
    unfolding judged told
    read_misplaced n p e = (subst (λ (r : Read). told r ≡ true) e (model_told text), within ∙ ap (λ (r : Read). judged r (model text).value t) e)

    module _ (q : ℕ) (e : (model text).end ≡ Ok q) where
      to_check : read_into text t ≡ checked (lowest (model text).value) (model text).value t
      unfolding judged
      to_check = within ∙ ap (λ (r : Read). judged r (model text).value t) e

      pub read_broken : (lowest (model text).value ≡ 0 → ⊥) → read_into text t ≡ record { number = 4; beside = lowest (model text).value; table = t }
      unfolding checked
      read_broken n = to_check ∙ passed (eqb (lowest (model text).value) 0) _ (record { number = 4; beside = lowest (model text).value; table = t }) (ne_eqb (lowest (model text).value) 0 n)

      module _ (n : lowest (model text).value ≡ 0) where
        to_room : read_into text t ≡ (if each has_room (model text).value then record { number = 0; beside = 0; table = table_of (map rewritten (model text).value) } or_else record { number = 28; beside = 0; table = t })
        unfolding checked
        to_room =
            to_check
            ∙ chosen (eqb (lowest (model text).value) 0)
            (if each has_room (model text).value then record { number = 0; beside = 0; table = table_of (map rewritten (model text).value) } or_else record { number = 28; beside = 0; table = t }) _
            (eq-eqb (lowest (model text).value) 0 n)

        pub read_full : each has_room (model text).value ≡ false → read_into text t ≡ record { number = 28; beside = 0; table = t }
        read_full full = to_room ∙ passed (each has_room (model text).value) _ (record { number = 28; beside = 0; table = t }) full

        pub read_passed : each has_room (model text).value ≡ true → read_into text t ≡ record { number = 0; beside = 0; table = table_of (map rewritten (model text).value) }
        read_passed room = to_room ∙ chosen (each has_room (model text).value) (record { number = 0; beside = 0; table = table_of (map rewritten (model text).value) }) _ room

-- the numbers; a number other than 0 leaves the table as it was
module _ (text t : List ℕ) (r : Reading) (y : List ℕ) (promise : Reads text t r y) where
  read_is : r.number ≡ (read_into text t).number
  read_is = ap (λ (o : ReadInto). o.number) promise

  read_left : y ≡ (read_into text t).table
  read_left = ap (λ (o : ReadInto). o.table) promise

  pub read_number_is : is_one_of read_numbers r.number ≡ true
  unfolding is_one_of if◌then◌or_else◌
  read_number_is =
      subst (λ (k : ℕ). is_one_of read_numbers k ≡ true) (sym read_is)
      (⊎_elim (λ (w : Whole text (read_into text t)). subst (λ (o : ReadInto). is_one_of read_numbers o.number ≡ true) (sym w.is) refl)
      (λ (s : Stays t (read_into text t)). s.among_them)
      (taken_either text t))

  pub read_refused : (r.number ≡ 0 → ⊥) → y ≡ t
  read_refused n =
      read_left
      ∙ ⊎_elim (λ (w : Whole text (read_into text t)). absurd (n (read_is ∙ ap (λ (o : ReadInto). o.number) w.is))) (λ (s : Stays t (read_into text t)). s.table) (taken_either text t)

  pub read_made : r.number ≡ 0 → (lowest (model text).value ≡ 0) × (y ≡ table_of (map rewritten (model text).value))
  read_made n =
      ⊎_elim (λ (w : Whole text (read_into text t)). (w.sound, read_left ∙ ap (λ (o : ReadInto). o.table) w.is))
      (λ (s : Stays t (read_into text t)). absurd (s.refused (sym read_is ∙ n)))
      (taken_either text t)

-- WHAT A WRITING LEAVES
pub record Kept (out : List ℕ) (w : WrittenTo) : Type 0 where
  pub among_them : is_one_of write_numbers w.number ≡ true
  pub stays : (w.number ≡ 0 → ⊥) → (w.length ≡ 0) × (w.buffer ≡ out)

pub written_kept : (t out : List ℕ) → Kept out (written_to t out)
unfolding written_to written is_one_of if◌then◌or_else◌
written_kept t out =
    by_choice (Kept out) (valid t) (written (shown_table t) out) (record { number = 10; length = 0; buffer = out })
    (λ v.
    by_choice (Kept out) (ltb (length out) (length (shown_table t))) (record { number = 5; length = 0; buffer = out })
    (record { number = 0; length = length (shown_table t); buffer = shown_table t ++ drop (length (shown_table t)) out })
    (λ e. record { among_them = refl; stays = λ n. (refl, refl) })
    (λ e. record { among_them = refl; stays = λ n. absurd (n refl) }))
    (λ v. record { among_them = refl; stays = λ n. (refl, refl) })

pub written_number : (t out : List ℕ) → (written_to t out).number ≡ (if valid t then if ltb (length out) (length (shown_table t)) then 5 or_else 0 or_else 10)
unfolding written_to written if◌then◌or_else◌
written_number t out = go (valid t) (ltb (length out) (length (shown_table t)))
  where
    text : Bool → WrittenTo
    text b = if b then record { number = 5; length = 0; buffer = out } or_else record { number = 0; length = length (shown_table t); buffer = shown_table t ++ drop (length (shown_table t)) out }

    go : (a b : Bool) → (if a then text b or_else record { number = 10; length = 0; buffer = out }).number ≡ (if a then if b then 5 or_else 0 or_else 10)
    go true true = refl
    go true false = refl
    go false b = refl

-- WRITE: 10, then 5, else 0; a number other than 0 leaves the buffer as it was
module _ (t out : List ℕ) (r : Written) (y : List ℕ) (promise : Writes t out r y) where
  write_is : r.number ≡ (written_to t out).number
  write_is = ap (λ (o : WrittenTo). o.number) promise

  pub write_number_is : (r.number ≡ (if valid t then if ltb (length out) (length (shown_table t)) then 5 or_else 0 or_else 10)) × (is_one_of write_numbers r.number ≡ true)
  write_number_is = (write_is ∙ written_number t out, subst (λ (k : ℕ). is_one_of write_numbers k ≡ true) (sym write_is) (written_kept t out).among_them)

  pub write_refused : (r.number ≡ 0 → ⊥) → (r.length ≡ 0) × (y ≡ out)
  write_refused n =
      let s = (written_kept t out).stays (λ e. n (write_is ∙ e)) in
      (ap (λ (o : WrittenTo). o.length) promise ∙ s.0, ap (λ (o : WrittenTo). o.buffer) promise ∙ s.1)
