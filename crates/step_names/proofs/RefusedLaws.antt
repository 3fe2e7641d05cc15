-- A name of which a refusal is known, whatever its values, is not accepted. Assumes nothing.
use mathlib.Core.Path.{◌≡◌, ◌∙◌, refl, sym}
use mathlib.Core.Bool.{Bool, true, false, false≢true}
use mathlib.Core.List.{List, [], ◌∷◌}
use Prim.Native.Nat.{ℕ}
use lib.Dec.{eqb}
use lib.ListN.{get_or}
use borrow.Author.Tests.{eqb-true}
use Rattle.base_words.specs.Each.{each, joined, tab, those}
use Rattle.base_words.specs.Pick.{if◌then◌or_else◌}
use Rattle.meaning.specs.declared.Tuple.{Tuple}
use Rattle.meaning.specs.declared.Name.{Name}
use Rattle.meaning.specs.Messages.{has}
use Rattle.meaning.specs.Queues.{message_count, message_at}
use Rattle.meaning.specs.Refusals.{first_refusal, ◌unless◌}
use Rattle.meaning.specs.Step.{site_of, element_named, move_named, matches, template, refusals, refusals_at}
use Rattle.step_expressions.specs.Suited.{suited}
use Rattle.step_expressions.proofs.SuitLaws.{unsuited}
use Rattle.step_refusals.specs.Chain.{listed, before_fields}
use Rattle.step_refusals.proofs.NumberLaws.{numbered, hold_at}
use Rattle.step_names.specs.declared.Scan.{Scan}
use Rattle.step_names.specs.Names.{offered, named_by, accepted}
use Rattle.step_names.specs.Parts.{scan, with_values, by_message, instance_for, below_for, ready_for, worked_for}
use Rattle.step_names.proofs.NameLaws.{those-joined_nothing, those_named_nothing}

module _ (t s q : List ℕ) where
  accepted_holds : (n : Name) → accepted t s q n ≡ true → (i : ℕ) → (get_or (refusals t s q n) i (1 unless true)).holds ≡ true
  unfolding accepted refusals refusals_at numbered each
  accepted_holds n a i = hold_at (refusals t s q n) refl (eqb-true (first_refusal (refusals t s q n)) 0 a) i

  refused_at : (n : Name) (i : ℕ) → (get_or (refusals t s q n) i (1 unless true)).holds ≡ false → accepted t s q n ≡ false
  refused_at n i o = go (accepted t s q n) refl
    where
      go : (b : Bool) → accepted t s q n ≡ b → b ≡ false
      go true a = absurd (false≢true (sym o ∙ accepted_holds n a i))
      go false a = refl

  module _ (n : Name) where
    above_refused : below_for t s n ≡ false → (g : Tuple) → accepted t s q (with_values n g) ≡ false
    unfolding below_for refusals refusals_at site_of with_values move_named element_named
    above_refused o g = refused_at (with_values n g) 8 o

    accepted_ready : (g : Tuple) → accepted t s q (with_values n g) ≡ true → ready_for t (instance_for t s n) n ≡ true
    unfolding ready_for instance_for before_fields listed first_refusal if◌then◌or_else◌ refusals refusals_at site_of with_values move_named element_named
    accepted_ready g a = rw (accepted_holds (with_values n g) a 1, accepted_holds (with_values n g) a 2)

    unready_refused : ready_for t (instance_for t s n) n ≡ false → (g : Tuple) → accepted t s q (with_values n g) ≡ false
    unready_refused o g = go (accepted t s q (with_values n g)) refl
      where
        go : (b : Bool) → accepted t s q (with_values n g) ≡ b → b ≡ false
        go true a = absurd (false≢true (sym o ∙ accepted_ready g a))
        go false a = refl

    unsuited_refused : (g : Tuple) → suited (element_named t n) n.branch (worked_for t (instance_for t s n) n) g ≡ false → accepted t s q (with_values n g) ≡ false
    unfolding worked_for instance_for matches template refusals refusals_at site_of with_values move_named element_named
    unsuited_refused g o = refused_at (with_values n g) 5 (unsuited (element_named t n) n.branch (instance_for t s n) g (move_named t n) o)

    -- a queue of which no message is accepted
    module _ (m k : ℕ) (r : Scan) (w : r ≡ scan [] k) where
      none_queued : ((g : Tuple) → accepted t s q (with_values n g) ≡ false) → r ≡ scan (those (accepted t s q) (joined (by_message q n m) (message_count q m))) k
      unfolding by_message
      none_queued h =
          rw (those-joined_nothing (accepted t s q) (by_message q n m) (message_count q m)
          (λ i. those_named_nothing (accepted t s q) (with_values n) (offered q m i) h)) w

      pub queue_above : (b : Bool) → b ≡ below_for t s n → b ≡ false → r ≡ scan (those (accepted t s q) (joined (by_message q n m) (message_count q m))) k
      queue_above b e o = none_queued (above_refused (sym e ∙ o))

      pub queue_unready : (h : List ℕ) (b : Bool) → h ≡ instance_for t s n → b ≡ ready_for t h n → b ≡ false
          → r ≡ scan (those (accepted t s q) (joined (by_message q n m) (message_count q m))) k
      queue_unready h b d e o = none_queued (unready_refused (rw d at (sym e ∙ o)))

    -- a message that does not suit
    module _ (m i k : ℕ) (r : Scan) (w : r ≡ scan [] k) where
      message_refused : accepted t s q (with_values n (message_at q m i)) ≡ false → r ≡ scan (those (accepted t s q) (by_message q n m i)) k
      unfolding by_message offered named_by those if◌then◌or_else◌
      message_refused o = rw (none (has (message_at q m i) (tab (message_at q m) i))) w
        where
          none : (b : Bool) → those (accepted t s q) (named_by (with_values n) (if b then [] or_else message_at q m i ∷ [])) ≡ []
          none true = refl
          none false = rw o

      pub message_unsuited : (y el : List ℕ) (v g : Tuple) (b : Bool) → y ≡ q → g ≡ message_at y m i → el ≡ element_named t n
          → v ≡ worked_for t (instance_for t s n) n → b ≡ suited el n.branch v g → b ≡ false → r ≡ scan (those (accepted t s q) (by_message q n m i)) k
      message_unsuited y el v g b d e f a u o =
          message_refused (unsuited_refused (message_at q m i) (rw (← d, ← e, ← f, ← a) (sym u ∙ o)))

pub worked_by : (t s : List ℕ) (n : Name) (h : List ℕ) (w : Tuple) → h ≡ instance_for t s n → w ≡ worked_for t h n → w ≡ worked_for t (instance_for t s n) n
worked_by t s n h w e d = rw e at d
