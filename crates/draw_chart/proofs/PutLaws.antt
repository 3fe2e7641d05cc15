-- Writers that say nothing of their greatest length: one behind another, and the pieces of a loop. Assumes nothing.
use mathlib.Core.Path.{◌≡◌}
use mathlib.Core.List.{List, [], ◌++◌}
use Prim.Native.Nat.{ℕ, ◌+◌, ◌≤◌}
use native.Mathlib.Omega.{arith}
use Rattle.base_words.specs.Each.{joined}
use Rattle.write_buffer.specs.Buffers.{Put}
use Rattle.write_buffer.proofs.OverLaws.{after, put_short, put_exact, put_nothing, pieces_none, pieces_more, pieces_done}
use Rattle.draw_map.specs.Map.{Puts}

pub puts : {w out now : List ℕ} {m from r : ℕ} → Put w m from out r now → Puts w from out r now
puts h = put_short h (omega arith)

pub then : {a b out o now : List ℕ} {from k r : ℕ} → Puts a from out k o → Puts b k o r now → Puts (a ++ b) from out r now
then h i = puts (after h i)

pub puts_as : {w out now : List ℕ} {from r : ℕ} (v : List ℕ) → w ≡ v → Puts w from out r now → Puts v from out r now
puts_as v e h = put_exact v e (omega arith) h

pub puts_none : (from : ℕ) (out : List ℕ) → Puts [] from out from out
puts_none from out = puts (put_nothing from out)

module _ (f : ℕ → List ℕ) where
  pub all_none : (from : ℕ) (out : List ℕ) → Puts (joined f 0) from out from out
  all_none from out = puts (pieces_none f from out)

  pub all_more : {out o now : List ℕ} {from k r : ℕ} (j : ℕ) → Puts (joined f j) from out k o → Puts (f j) k o r now → Puts (joined f (j + 1)) from out r now
  all_more j h i = puts (pieces_more f j h i)

  pub all_done : {out now : List ℕ} {from r : ℕ} (n j : ℕ) → n ≤ j → j ≤ n → Puts (joined f j) from out r now → Puts (joined f n) from out r now
  all_done n j h l w = puts (pieces_done f n j h l w)
