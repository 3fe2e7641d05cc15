-- Two runs of bytes compared, as `==` does it and place by place, and their lengths. Assumes nothing.
use Rattle.std.proofs.Common.{◌≡◌, ℕ, Bool, true, List, [], ◌∷◌, false, ◌&&◌, eqb, length, refl, ap, ◌∙◌, suc, arith}
use Rattle.std.specs.Str.{bytes_eq}
use Rattle.base_words.specs.All.{all}
use Rattle.base_words.specs.Words.{at}
use Rattle.base_words.proofs.AllLaws.{all_front}
use Rattle.base_words.proofs.PickLaws.{and_false_right}
use Rattle.base_bytes.specs.Bytes.{same_bytes}

pub same-pointwise : (a b : List ℕ) → bytes_eq a b ≡ same_bytes a b
unfolding same_bytes
same-pointwise [] [] = refl
same-pointwise [] (y ∷ b) = refl
same-pointwise (x ∷ a) [] = refl
same-pointwise (x ∷ a) (y ∷ b) = ap (λ r. eqb x y && r) (same-pointwise a b)

pub same_lengths : (a b : List ℕ) → (length a ≡ length b → ⊥) → same_bytes a b ≡ false
unfolding same_bytes
same_lengths [] [] n = absurd (n refl)
same_lengths [] (y ∷ b) n = refl
same_lengths (x ∷ a) [] n = refl
same_lengths (x ∷ a) (y ∷ b) n = and_false_right (eqb x y) (same_bytes a b) (same_lengths a b (λ e. n (ap suc e)))

pub same_by_places : (a b : List ℕ) → length a ≡ length b → all (λ i. eqb (at a i) (at b i)) (length a) ≡ same_bytes a b
unfolding same_bytes
same_by_places [] [] e = unfold all in refl
same_by_places [] (y ∷ b) e = absurd (omega arith)
same_by_places (x ∷ a) [] e = absurd (omega arith)
same_by_places (x ∷ a) (y ∷ b) e = all_front (λ i. eqb (at (x ∷ a) i) (at (y ∷ b) i)) (length a) ∙ ap (λ r. eqb x y && r) (same_by_places a b (omega arith))
