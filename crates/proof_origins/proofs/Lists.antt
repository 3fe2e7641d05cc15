-- PIECES between signs: written by their number, and of a list of things; a choice, and what it is written as. Assumes nothing.
use Prim.Native.Nat.{ℕ, zero, suc, ◌+◌, ◌<◌, ◌≤◌}
use mathlib.Core.Path.{◌≡◌, refl, sym, ◌∙◌, ap, ap₂, subst}
use mathlib.Core.Bool.{Bool, true, false}
use mathlib.Core.List.{List, [], ◌∷◌, ◌++◌, append-nil, append_assoc}
use native.Mathlib.Omega.{arith}
use lib.Dec.{eqb, ltb}
use borrow.Author.Tests.{ne_eqb, lt-ltb, ltb-true, ltb-false}
use Rattle.base_words.specs.Each.{joined}
use Rattle.base_words.specs.Pick.{if◌then◌or_else◌}
use Rattle.base_words.proofs.JoinLaws.{joined_ext}
use Rattle.write_shown.specs.Shown.{lead, separated}
use Rattle.proof_steps.proofs.Choices.{by_test, chosen, passed}
use Rattle.proof_paper.specs.Decoders.{span}
use Rattle.proof_paper.proofs.Spans.{from_here, from_next}
use Rattle.proof_origins.specs.Display.{behind, between_signs}

-- a choice between texts is the text of the choice between things
pub each_way : {A : Type 0} (text : A → List ℕ) (b : Bool) (x y : List ℕ) (u v : A) → (b ≡ true → x ≡ text u) → (b ≡ false → y ≡ text v) → (if b then x or_else y) ≡ text (if b then u or_else v)
unfolding if◌then◌or_else◌
each_way text true x y u v f g = f refl
each_way text false x y u v f g = g refl

joined_front : (F : ℕ → List ℕ) (n : ℕ) → joined F (suc n) ≡ F 0 ++ joined (λ k. F (suc k)) n
unfolding joined
joined_front F zero = sym (append-nil (F 0))
joined_front F (suc n) = ap (λ l. l ++ F (suc n)) (joined_front F n) ∙ append_assoc (F 0) (joined (λ k. F (suc k)) n) (F (suc n))

module _ {A : Type 0} (s : ℕ) (g : ℕ → List ℕ) (h : ℕ → A) (f : A → List ℕ) where
  behind_is : (k n : ℕ) → ((j : ℕ) → j < n → g (k + j) ≡ f (h (k + j))) → joined (λ i. s ∷ g (k + i)) n ≡ behind s f (span h k n)
  unfolding joined behind span
  behind_is k zero e = refl
  behind_is k (suc n) e =
      let z : g (k + 0) ≡ f (h k) = e 0 (omega arith) ∙ ap (λ i. f (h i)) (from_here k) in
      let r : joined (λ i. s ∷ g (suc k + i)) n ≡ behind s f (span h (suc k) n) = behind_is (suc k) n (λ j l. subst (λ i. g i ≡ f (h i)) (from_next k j) (e (suc j) (omega arith))) in
      joined_front (λ i. s ∷ g (k + i)) n
      ∙ ap₂ (λ u v. s ∷ (u ++ v)) z (ap (λ (F : ℕ → List ℕ). joined F n) (λ i j. s ∷ g (from_next k j i)) ∙ r)

  pub separated_is : (n : ℕ) → ((j : ℕ) → j < n → g j ≡ f (h j)) → separated s g n ≡ between_signs s f (span h 0 n)
  unfolding separated joined lead between_signs span if◌then◌or_else◌
  separated_is zero e = refl
  separated_is (suc n) e =
      let r : joined (λ i. s ∷ g (1 + i)) n ≡ behind s f (span h 1 n) = behind_is 1 n (λ j l. e (1 + j) (omega arith)) in
      joined_front (λ k. lead s k ++ g k) n
      ∙ ap₂ ◌++◌ (e 0 (omega arith)) (ap (λ (F : ℕ → List ℕ). joined F n) (λ i j. next j i) ∙ r)
    where
      next : (j : ℕ) → lead s (suc j) ++ g (suc j) ≡ s ∷ g (1 + j)
      next j = let z : suc j ≡ 1 + j = omega arith in ap₂ ◌++◌ (passed (eqb (suc j) 0) [] (s ∷ []) (ne_eqb (suc j) 0 (λ q. omega arith))) (ap g z)

-- only the first n
pub joined_least : (F : ℕ → List ℕ) (n m : ℕ) → n ≤ m → joined (λ p. if ltb p n then F p or_else []) m ≡ joined F n
unfolding joined
joined_least F zero zero l = refl
joined_least F (suc n) zero l = absurd (omega arith)
joined_least F n (suc m) l =
    by_test (ltb m n)
    (λ y.
    let r = ltb-true m n y in
    let z : suc m ≡ n = omega arith in
    joined_ext (λ p. if ltb p n then F p or_else []) F (suc m) (λ k w. chosen (ltb k n) (F k) [] (lt-ltb k n (omega arith))) ∙ ap (joined F) z)
    (λ y.
    let r = ltb-false m n y in
    ap (λ w. joined (λ p. if ltb p n then F p or_else []) m ++ w) (passed (ltb m n) (F m) [] y) ∙ append-nil _ ∙ joined_least F n m (omega arith))
