-- What stands from a place on, as a slice has it, and what stands in a part that was put, and below and above it. Assumes nothing.
use Rattle.std.proofs.Common.{ℕ, ◌+◌, ◌-◌, ◌≤◌, ◌≡◌, List, ◌++◌, length, take, drop, sym, ◌∙◌, ap, arith}
use Rattle.std.proofs.lemmas.Slice.{between_to_end}
use lib.ListN.{length-drop, take-append-drop}
use lib.Seq.{length-take-le, drop_at, take_at, drop-append-le, take-append-le, drop-drop}
use borrow.Rule.Slice.PartMut.{drop_put}
use Rattle.base_words.specs.Words.{part, patch}

pub tail_in : (s : List ℕ) (a : ℕ) → take (length s - a) (drop a s) ≡ drop a s
tail_in s a = between_to_end s a (length s) (omega arith)

module _ (t : List ℕ) (a e : ℕ) (p : List ℕ) (l : a ≤ e) (h : e ≤ length t) (n : length p ≡ e - a) where
  head_long : length (take a t) ≡ a
  head_long = length-take-le a t (omega arith)

  -- the part itself
  pub part-patch_same : part (patch t a e p) a e ≡ p
  part-patch_same =
      ap (take (e - a)) (drop_at (take a t) (p ++ drop (e - a) (drop a t)) a head_long)
      ∙ take_at p (drop (e - a) (drop a t)) (e - a) n

  -- a part below
  below : (x : List ℕ) (b f : ℕ) → b ≤ f → f ≤ a → part (take a t ++ x) b f ≡ take (f - b) (drop b (take a t))
  below x b f g k =
      ap (take (f - b)) (drop-append-le b (take a t) x (omega (arith, head_long)))
      ∙ take-append-le (f - b) (drop b (take a t)) x (omega (arith, length-drop b (take a t), head_long))

  pub part-patch_below : (b f : ℕ) → b ≤ f → f ≤ a → part (patch t a e p) b f ≡ part t b f
  part-patch_below b f g k =
      below (p ++ drop (e - a) (drop a t)) b f g k
      ∙ sym (ap (λ x. part x b f) (sym (take-append-drop a t)) ∙ below (drop a t) b f g k)

  -- a part above
  pub part-patch_above : (b f : ℕ) → e ≤ b → part (patch t a e p) b f ≡ part t b f
  part-patch_above b f g =
      let to : e + (b - e) ≡ b = omega arith in
      let move : (x : List ℕ) → drop b x ≡ drop (b - e) (drop e x) = λ x. sym (drop-drop (b - e) e x ∙ ap (λ k. drop k x) to) in
      ap (take (f - b)) (move (patch t a e p) ∙ ap (drop (b - e)) (drop_put a e t p l h n) ∙ sym (move t))
