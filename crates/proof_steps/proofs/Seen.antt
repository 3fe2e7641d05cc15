-- What a step sees: the words of its instance, own, and behind them those that all instances of the state s share. Assumes nothing.
use Prim.Native.Nat.{ℕ, ◌+◌, ◌<◌}
use mathlib.Core.Path.{◌≡◌, sym, ◌∙◌, ap}
use mathlib.Core.List.{List, ◌++◌}
use native.Mathlib.Omega.{arith}
use lib.ListN.{length, length-append, get_or-append}
use lib.Seq.{get_or-append-add}
use Rattle.base_words.specs.Words.{at}
use Rattle.base_words.proofs.ListLaws.{length-tab, get_d_tab}
use Rattle.base_state.specs.Places.{instance_words, shared_words, shared_place, copy_words}
use Rattle.meaning.specs.Step.{shared_of}

module _ (s own : List ℕ) (long : length own ≡ instance_words) where
  pub seen_long : length (own ++ shared_of s) ≡ copy_words
  unfolding shared_of
  seen_long = length-append own (shared_of s) ∙ omega (arith, long, length-tab (λ k. at s (shared_place + k)) shared_words)

  pub seen_own : (k : ℕ) → k < instance_words → at (own ++ shared_of s) k ≡ at own k
  seen_own k l = get_or-append own (shared_of s) 0 k (omega (arith, long))

  pub seen_shared : (k : ℕ) → k < shared_words → at (own ++ shared_of s) (instance_words + k) ≡ at s (shared_place + k)
  unfolding shared_of
  seen_shared k l =
      ap (λ (n : ℕ). at (own ++ shared_of s) (n + k)) (sym long)
      ∙ get_or-append-add own (shared_of s) k 0
      ∙ get_d_tab (λ k. at s (shared_place + k)) shared_words k 0 l
