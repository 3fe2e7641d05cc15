-- Laws of a list written in a loop. Assumes nothing.
use mathlib.Core.Path.{◌≡◌, sym, ap, ◌∙◌}
use mathlib.Core.List.{List, ◌++◌}
use Prim.Native.Nat.{ℕ, suc, ◌+◌, ◌*◌, ◌≤◌}
use native.Mathlib.Nat.{suc-mul, mul-le-mul_right}
use native.Mathlib.Numerals.{add-one}
use native.Mathlib.Omega.{arith}
use Rattle.base_words.specs.Words.{greatest}
use Rattle.write_buffer.specs.Buffers.{Put}
use Rattle.write_buffer.proofs.OverLaws.{after, put_as, put_within, pieces_none, pieces_more, pieces_done}
use Rattle.write_shown.specs.Shown.{lead, separated}

-- one more piece of at most k bytes
longer : (j k : ℕ) → j * k + k ≤ (j + 1) * k
longer j k = omega (arith, suc-mul j k, ap (λ n. n * k) (add-one j))

-- Before the first piece, behind one more, w, and at the end.
module _ (s : ℕ) (f : ℕ → List ℕ) where
  pub list_none : (k from : ℕ) (out : List ℕ) → Put (separated s f 0) (0 * k) from out from out
  unfolding separated
  list_none k from out = put_within (pieces_none (λ i. lead s i ++ f i) from out) (omega arith)

  pub list_more : {out o o' now : List ℕ} {most from k k' r : ℕ} (j : ℕ) (w : List ℕ) → w ≡ f j → Put (separated s f j) (j * (1 + most)) from out k o → Put (lead s j) 1 k o k' o' → Put w most k' o' r now → Put (separated s f (j + 1)) ((j + 1) * (1 + most)) from out r now
  unfolding separated
  list_more {most = most} j w q h l p = put_within (pieces_more (λ i. lead s i ++ f i) j h (after l (put_as (f j) q p))) (longer j (1 + most))

  pub list_done : {out now : List ℕ} {from r : ℕ} (k n j : ℕ) → n ≤ j → j ≤ n → j ≤ greatest → Put (separated s f j) (j * k) from out r now → Put (separated s f n) (greatest * k) from out r now
  unfolding separated
  list_done k n j h l g w = put_within (pieces_done (λ i. lead s i ++ f i) n j h l w) (mul-le-mul_right k g)
