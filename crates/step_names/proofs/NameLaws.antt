-- One name, and the messages of a queue, each equal one once. Assumes nothing.
use mathlib.Core.Path.{◌≡◌, ◌∙◌, refl, sym, ap, ap₂}
use mathlib.Core.Bool.{Bool, true, false, true≢false}
use mathlib.Core.List.{List, [], ◌∷◌, ◌++◌}
use mathlib.Core.Logic.{⊎_elim}
use Prim.Native.Nat.{ℕ, zero, suc, ◌-◌, ◌≤◌, ◌<◌}
use native.Mathlib.Numerals.{sub-one}
use native.Mathlib.Nat.{eq-or-lt_of_le}
use native.Mathlib.Omega.{arith}
use lib.Dec.{eqb, ltb}
use borrow.Author.Tests.{ltb-true, ltb-false}
use Rattle.base_words.specs.Each.{tab, joined, those}
use Rattle.base_words.specs.Pick.{if◌then◌or_else◌}
use Rattle.base_words.specs.Seek.{seek}
use Rattle.base_words.proofs.JoinLaws.{those-joined}
use Rattle.base_words.proofs.SeekLaws.{sought}
use Rattle.meaning.specs.declared.Tuple.{Tuple}
use Rattle.meaning.specs.declared.Name.{Name}
use Rattle.meaning.specs.Messages.{has}
use Rattle.meaning.specs.Queues.{message_count, message_at}
use Rattle.meaning.specs.Refusals.{first_refusal}
use Rattle.meaning.specs.Step.{refusals}
use Rattle.step_values.proofs.TupleLaws.{same_refl}
use Rattle.step_queues.specs.Changes.{message_is, oldest}
use Rattle.step_queues.proofs.MessageLaws.{seek-has}
use Rattle.step_names.specs.declared.Scan.{Scan}
use Rattle.step_names.specs.Names.{offered, named_by, accepted}
use Rattle.step_names.specs.Parts.{scan, with_values, by_message}

-- ONE NAME, the step being accepted or not
module _ (t s q : List ℕ) (n : Name) (k : ℕ) (b : Bool) (e : b ≡ eqb (first_refusal (refusals t s q n)) 0) where
  pub name_refused : (r : Scan) → b ≡ false → r ≡ scan [] k → r ≡ scan (those (accepted t s q) (n ∷ [])) k
  unfolding those if◌then◌or_else◌ accepted
  name_refused r h d = rw (sym e ∙ h) d

  pub name_first : b ≡ true → k ≡ 0 → record { found = true; left = 0; name = n } ≡ scan (those (accepted t s q) (n ∷ [])) k
  unfolding those if◌then◌or_else◌ accepted scan
  name_first h d = rw (sym e ∙ h, d)

  pub name_next : (r : Scan) → b ≡ true → (k ≡ 0 → ⊥) → r ≡ scan [] (k - 1) → r ≡ scan (those (accepted t s q) (n ∷ [])) k
  unfolding those if◌then◌or_else◌ accepted scan
  name_next r h d w = rw (sym e ∙ h) (w ∙ behind k d)
    where
      behind : (k : ℕ) → (k ≡ 0 → ⊥) → scan [] (k - 1) ≡ scan (n ∷ []) k
      behind zero d = absurd (d refl)
      behind (suc k) d = ap (λ (j : ℕ). scan [] j) (sub-one (suc k))

-- THE FIRST THAT PASSES below n, where k passes: it is k just where none before k passes
module _ (f : ℕ → Bool) (n k : ℕ) (h : k < n) (at_k : f k ≡ true) where
  first_is : seek f n ≡ k → ltb (seek f k) k ≡ false
  first_is e = go (ltb (seek f k) k) refl
    where
      go : (b : Bool) → ltb (seek f k) k ≡ b → b ≡ false
      go true q =
          let l : seek f k < k = ltb-true (seek f k) k q in
          absurd (true≢false (sym ((sought f k).1 l) ∙ (sought f n).2 (seek f k) (omega arith)))
      go false q = refl

  not_behind : seek f n ≤ k
  not_behind = go (ltb k (seek f n)) refl
    where
      go : (b : Bool) → ltb k (seek f n) ≡ b → seek f n ≤ k
      go true q = absurd (true≢false (sym at_k ∙ (sought f n).2 k (ltb-true k (seek f n) q)))
      go false q = ltb-false k (seek f n) q

  first_before : (seek f n ≡ k → ⊥) → ltb (seek f k) k ≡ true
  first_before e = go (ltb (seek f k) k) refl
    where
      before : seek f n < k
      before = ⊎_elim (λ q. absurd (e q)) (λ l. l) (eq-or-lt_of_le not_behind)

      go : (b : Bool) → ltb (seek f k) k ≡ b → b ≡ true
      go true q = refl
      go false q =
          let l : k ≤ seek f k = ltb-false (seek f k) k q in
          absurd (true≢false (sym ((sought f n).1 (omega (arith, before, h))) ∙ (sought f k).2 (seek f n) (omega (arith, before, l))))

-- A MESSAGE OF A QUEUE is offered just where it is the oldest equal to itself
module _ (q : List ℕ) (m k : ℕ) (h : k < message_count q m) where
  equals : ℕ → Bool
  equals = message_is q m (message_at q m k)

  at_itself : equals k ≡ true
  unfolding equals message_is
  at_itself = same_refl (message_at q m k)

  older : has (message_at q m k) (tab (message_at q m) k) ≡ ltb (seek equals k) k
  unfolding equals message_is
  older = sym (seek-has (message_at q m k) (message_at q m) k)

  -- y is q as the code holds it
  module _ (y : List ℕ) (g : Tuple) (o : ℕ) (same : y ≡ q) (e : g ≡ message_at y m k) (d : o ≡ oldest y m g) where
    given_is : g ≡ message_at q m k
    given_is = e ∙ ap (λ (x : List ℕ). message_at x m k) same

    sought_is : o ≡ seek equals (message_count q m)
    unfolding equals oldest
    sought_is = d ∙ ap (λ (x : List ℕ). oldest x m g) same ∙ ap (λ (x : Tuple). oldest q m x) given_is

    offered-oldest : o ≡ k → offered q m k ≡ g ∷ []
    unfolding offered if◌then◌or_else◌
    offered-oldest p = rw (older, first_is equals (message_count q m) k h at_itself (sym sought_is ∙ p)) (ap (λ (x : Tuple). x ∷ []) (sym given_is))

    offered_again : (o ≡ k → ⊥) → offered q m k ≡ []
    unfolding offered if◌then◌or_else◌
    offered_again p = rw (older, first_before equals (message_count q m) k h at_itself (λ j. p (sought_is ∙ j)))

    module _ (f : Name → Bool) (n : Name) (i : ℕ) (r : Scan) where
      pub message_again : (o ≡ k → ⊥) → r ≡ scan [] i → r ≡ scan (those f (by_message q n m k)) i
      unfolding by_message named_by those
      message_again p w = rw (offered_again p) w

      pub message_oldest : (x : Name) → o ≡ k → x ≡ with_values n g → r ≡ scan (those f (x ∷ [])) i → r ≡ scan (those f (by_message q n m k)) i
      unfolding by_message named_by
      message_oldest x p v w = rw (offered-oldest p, ← v) w

-- NOTHING: lists with nothing in them, and names of which none passes
pub joined_nothing : {A : Type 0} (f : ℕ → List A) (n : ℕ) → ((k : ℕ) → f k ≡ []) → joined f n ≡ []
unfolding joined
joined_nothing f zero h = refl
joined_nothing f (suc n) h = ap₂ ◌++◌ (joined_nothing f n h) (h n)

pub those-joined_nothing : {A : Type 0} (f : A → Bool) (g : ℕ → List A) (n : ℕ) → ((k : ℕ) → those f (g k) ≡ []) → those f (joined g n) ≡ []
those-joined_nothing f g n h = those-joined f g n ∙ joined_nothing (λ k. those f (g k)) n h

pub those_named_nothing : (f : Name → Bool) (name : Tuple → Name) (gs : List Tuple) → ((g : Tuple) → f (name g) ≡ false) → those f (named_by name gs) ≡ []
unfolding those named_by if◌then◌or_else◌
those_named_nothing f name [] h = refl
those_named_nothing f name (g ∷ gs) h = rw (h g) (those_named_nothing f name gs h)
