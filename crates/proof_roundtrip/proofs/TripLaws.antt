-- TRIPS PUT TOGETHER: what a reader after a reader reads back, with a test for the region. Assumes nothing.
use Prim.Native.Nat.{ℕ, ◌<◌}
use mathlib.Core.Path.{◌≡◌, refl, subst}
use mathlib.Core.Bool.{Bool, true, false, ◌||◌, false≢true}
use mathlib.Core.List.{List, [], ◌∷◌, ◌++◌}
use mathlib.Core.Logic.{◌⊎◌, inl, inr}
use lib.Dec.{eqb}
use lib.ListN.{drop}
use borrow.Author.Tests.{eqb-true}
use Rattle.std.proofs.lemmas.Bool.{or_cases}
use Rattle.base_words.specs.Words.{at}
use Rattle.base_table.specs.Places.{element_words}
use Rattle.text_lexer.specs.Lexer.{is_sign}
use Rattle.text_readers.specs.Reading.{Reader, ◌then◌, sign, assign, nothing}
use Rattle.text_parts.specs.Parts.{store}
use Rattle.proof_roundtrip.specs.Trip.{Trip}
use Rattle.proof_roundtrip.proofs.ReadsLaws.{anything, reads_before, reads_as, reads_then, reads_store, reads_nothing, trip_of, reads_of}
use Rattle.proof_roundtrip.proofs.SignReads.{unequal, reads_sign, reads_colon, reads_assign}

-- no word
abbrev pub nowhere : ℕ → Bool
nowhere i = false

module _ {el : List ℕ} where
  -- the same text, otherwise written; less may follow; further words of el that are 0; a reader that does the same here
  pub trip_text : {f : Reader} {w v : List ℕ} {F : List ℕ → Bool} {r : ℕ → Bool} → w ≡ v → Trip el f w F r → Trip el f v F r
  trip_text {f} {w} {v} {F} {r} e t = subst (λ (u : List ℕ). Trip el f u F r) e t

  pub trip_before : {f : Reader} {w : List ℕ} {F G : List ℕ → Bool} {r : ℕ → Bool} → ((rest : List ℕ) → G rest ≡ true → F rest ≡ true) → Trip el f w F r → Trip el f w G r
  trip_before h t = trip_of (λ i e. inl e) (reads_before h (reads_of t))

  pub trip_wider : {f : Reader} {w : List ℕ} {F : List ℕ → Bool} {r s : ℕ → Bool} → ((i : ℕ) → s i ≡ true → (r i ≡ true) ⊎ (at el i ≡ 0)) → Trip el f w F r → Trip el f w F s
  trip_wider h t = trip_of h (reads_of t)

  pub trip_as : {f g : Reader} {w : List ℕ} {F : List ℕ → Bool} {r : ℕ → Bool}
      → ((text rest x : List ℕ) (from : ℕ) → drop from text ≡ w ++ rest → F rest ≡ true → g text from x ≡ f text from x)
      → Trip el f w F r → Trip el g w F r
  trip_as h t = trip_of (λ i e. inl e) (reads_as h (reads_of t))

  -- one reader after the other
  pub trip_then : {f g : Reader} {w v : List ℕ} {F G : List ℕ → Bool} {r s : ℕ → Bool}
      → Trip el f w F r → Trip el g v G s → ((rest : List ℕ) → G rest ≡ true → F (v ++ rest) ≡ true) → Trip el (f then g) (w ++ v) G (λ i. r i || s i)
  trip_then {f} {g} {w} {v} {F} {G} {r} {s} a b h = trip_of (λ i e. inl (or_cases (r i) (s i) e)) (reads_then (reads_of a) (reads_of b) h)

  -- nothing; a word stored; a sign; `:` and `:=`
  pub trip_nothing : Trip el nothing [] anything nowhere
  trip_nothing = trip_of (λ i e. inl (absurd (false≢true e))) reads_nothing

  pub trip_store : (p v : ℕ) → p < element_words → v ≡ at el p → Trip el (store p v) [] anything (λ i. eqb i p)
  trip_store p v h e = trip_of (λ i q. inl (eqb-true i p q)) (reads_store p v h e)

  pub trip_sign : (s : ℕ) → is_sign s ≡ true → Trip el (sign s) (s ∷ []) anything nowhere
  trip_sign s e = trip_of (λ i e. inl (absurd (false≢true e))) (reads_sign s e)

  pub trip_colon : Trip el (sign 58) (58 ∷ []) unequal nowhere
  trip_colon = trip_of (λ i e. inl (absurd (false≢true e))) reads_colon

  pub trip_assign : Trip el assign (58 ∷ 61 ∷ []) anything nowhere
  trip_assign = trip_of (λ i e. inl (absurd (false≢true e))) reads_assign
