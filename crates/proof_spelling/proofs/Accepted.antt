-- AN ACCEPTED DRAWING GIVES THE TABLE THAT ITS SPELLED TEXT GIVES: each of its pools has an element, as check 2 asks. Assumes nothing.
use Prim.Native.Nat.{ℕ, zero, suc, ◌<◌}
use mathlib.Core.Path.{◌≡◌, refl, sym, ◌∙◌, subst}
use mathlib.Core.Bool.{Bool, true, false, false≢true}
use mathlib.Core.List.{List, [], ◌∷◌, ◌++◌, map}
use native.Mathlib.Decide.{dec_lt}
use native.Mathlib.Omega.{arith}
use lib.Dec.{ltb}
use lib.ListN.{length, length-map}
use borrow.Author.Tests.{lt-ltb}
use Rattle.base_words.specs.Each.{each, joined}
use Rattle.base_words.specs.Pick.{if◌then◌or_else◌}
use Rattle.base_words.proofs.AllLaws.{and_left, and_right}
use Rattle.base_words.proofs.PickLaws.{and_true}
use Rattle.text_readers.specs.Reading.{excessive}
use Rattle.text_read.specs.Notation.{element_alone, read_into}
use Rattle.draw_walk.specs.Walk.{Walk}
use Rattle.draw_faults.specs.Amiss.{is_drawing}
use Rattle.draw_numbers.specs.Who.{has_participants, is_pool}
use Rattle.draw_limits.specs.Excess.{first_beyond}
use Rattle.draw_model.specs.Content.{elements_of, process_of, pool_drawn, pool_if, content}
use Rattle.draw_read.specs.Drawings.{too_long, not_xml, not_run, walked_text, things_of, draw_into}
use Rattle.proof_roundtrip.proofs.EndModels.{Every, Fit, Model}
use Rattle.proof_roundtrip.proofs.BarLaws.{Comes}
use Rattle.proof_drawings.proofs.SettledLaws.{Settled}
use Rattle.proof_drawings.proofs.Fitting.{drawing_few}
use Rattle.proof_drawings.proofs.PlacedLaws.{things_placed, things_settled}
use Rattle.proof_drawings.proofs.ContentModel.{Placed}
use Rattle.proof_drawings.proofs.Answers.{drawn_clear}
use Rattle.proof_drawings.proofs.Transcripts.{accepted}
use Rattle.proof_spelling.specs.Spelling.{Collaboration, Participant, gathered, participant_at, collaboration_in, collaboration_of, element, elements_in, spell}
use Rattle.proof_spelling.proofs.ReadBack.{pairs_long}
use Rattle.proof_spelling.proofs.Contents.{elements_pair}
use Rattle.proof_spelling.proofs.Spelled.{Full, spelled}

-- LISTS
every_parts : {A : Type 0} (P : A → Type 0) (xs ys : List A) → Every P (xs ++ ys) → Every P xs × Every P ys
every_parts P [] ys e = (omega arith, e)
every_parts P (x ∷ xs) ys e = let r = every_parts P xs ys e.1 in ((e.0, r.0), r.1)

every_of : {A : Type 0} (P : A → Type 0) (f : ℕ → List A) (n k : ℕ) → Every P (joined f n) → k < n → Every P (f k)
unfolding joined
every_of P f zero k e l = absurd (omega (arith, l))
every_of P f (suc n) k e l = go (dec_lt k n) (every_of P f n k (every_parts P (joined f n) (f n) e).0)
  where
    go : Dec (k < n) → (k < n → Every P (f k)) → Every P (f k)
    go (yes u) before = before u
    go (no u) before = subst (λ (i : ℕ). Every P (f i)) (let z : n ≡ k = omega (arith, l, u) in z) (every_parts P (joined f n) (f n) e).1

each_both : {A : Type 0} (f : A → Bool) (xs ys : List A) → each f xs ≡ true → each f ys ≡ true → each f (xs ++ ys) ≡ true
unfolding each
each_both f [] ys d e = e
each_both f (x ∷ xs) ys d e = and_true (f x) (each f (xs ++ ys)) (and_left (f x) (each f xs) d) (each_both f xs ys (and_right (f x) (each f xs) d) e)

each-gathered : {A : Type 0} (f : A → Bool) (test : ℕ → Bool) (make : ℕ → A) (n : ℕ) → ((k : ℕ) → k < n → test k ≡ true → f (make k) ≡ true) → each f (gathered test make n) ≡ true
unfolding joined
each-gathered f test make zero h = unfold each in refl
each-gathered f test make (suc n) h = each_both f (gathered test make n) (if test n then make n ∷ [] or_else []) (each-gathered f test make n (λ k l. h k (omega (arith, l)))) (last (test n) (h n (omega arith)))
  where
    last : (b : Bool) → (b ≡ true → f (make n) ≡ true) → each f (if b then make n ∷ [] or_else []) ≡ true
    last true p = unfold if◌then◌or_else◌ each in and_true (f (make n)) true (p refl) refl
    last false p = unfold if◌then◌or_else◌ each in refl

module _ (t w : List ℕ) (n : ℕ) (drawn : is_drawing t w n ≡ true) (beyond : ltb (first_beyond t w n) n ≡ false) (settled : Settled w n) (placed : Placed w) (m : Model (content t w n)) where
  abbrev owned : Bool
  owned = has_participants w n

  abbrev D : Collaboration
  D = collaboration_in t w n

  pool_low : (k : ℕ) → k < n → is_pool owned w k ≡ true → 0 < length (elements_of t w n (process_of owned w k))
  pool_low k l h = go (is_pool owned w k) h (unfold content pool_if in every_of Fit (λ k. if is_pool owned w k then pool_drawn owned t w n k ∷ [] or_else []) n k m.every l)
    where
      go : (b : Bool) → b ≡ true → Every Fit (if b then pool_drawn owned t w n k ∷ [] or_else []) → 0 < length (elements_of t w n (process_of owned w k))
      go true e f = unfold if◌then◌or_else◌ pool_drawn in f.0.low
      go false e f = absurd (false≢true e)

  pools_full : each (λ (p : Participant). ltb 0 (length (elements_in D p.process))) D.participants ≡ true
  unfolding collaboration_in
  pools_full =
      each-gathered (λ (p : Participant). ltb 0 (length (elements_in (collaboration_in t w n) p.process))) (is_pool owned w) (participant_at owned t w n) n
      (λ k l h. lt-ltb 0 (length (elements_in (collaboration_in t w n) (process_of owned w k))) (some k l h))
    where
      some : (k : ℕ) → k < n → is_pool owned w k ≡ true → 0 < length (elements_in (collaboration_in t w n) (process_of owned w k))
      some k l h =
          let a = pairs_long (Comes element_alone) (map (element D) (elements_in D (process_of owned w k))) (elements_of t w n (process_of owned w k)) (elements_pair t w n drawn beyond settled placed (process_of owned w k)) in
          omega (arith, a, pool_low k l h, length-map (elements_in D (process_of owned w k)) (element D))

-- THE THEOREM
module _ (text t : List ℕ) (h : (draw_into text t).number ≡ 0) where
  full : Full text t
  unfolding collaboration_of
  full =
      let c = drawn_clear text t h in
      pools_full text (things_of text) (walked_text text).count c.drawn c.beyond (things_settled text (drawing_few text (things_of text) (walked_text text).count c.drawn)) (things_placed text) (accepted text t h)

  pub accepted-spelled : read_into (spell (collaboration_of text)) t ≡ draw_into text t
  accepted-spelled = spelled text t (λ e. omega (arith, e, h)) (λ e. omega (arith, e, h)) (λ e. omega (arith, e, h)) (λ e. omega (arith, e, h)) full
