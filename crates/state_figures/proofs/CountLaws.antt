-- A count over the instances of a pool, as the code makes it. Assumes nothing.
use Prim.Native.Nat.{ℕ, zero, suc, ◌+◌, ◌-◌, ◌≤◌}
use mathlib.Core.Path.{◌≡◌, refl, ◌∙◌, ap}
use mathlib.Core.Bool.{Bool, true, false, not}
use mathlib.Core.List.{List, [], ◌∷◌}
use native.Mathlib.Nat.{le_antisymm}
use native.Mathlib.Omega.{arith}
use Rattle.base_words.specs.Sum.{sum, one_if}
use Rattle.base_state.specs.Instances.{made_count, instance_at}
use Rattle.state_figures.specs.Figures.{is_finished, unfinished, finished, record_of}

pub one_most : (b : Bool) → one_if b ≤ 1
one_most true = omega arith
one_most false = omega arith

-- what passes a test and what does not are all
both : (f : ℕ → Bool) (n : ℕ) → sum (λ i. one_if (not (f i))) n + sum (λ i. one_if (f i)) n ≡ n
unfolding sum
both f zero = refl
both f (suc n) = omega (arith, both f n, one (f n))
  where
    one : (b : Bool) → one_if (not b) + one_if b ≡ 1
    one true = refl
    one false = refl

-- MADE are the unfinished and the finished ones
pub made_all : (s : List ℕ) (p : ℕ) → unfinished s p + finished s p ≡ made_count s p
unfolding unfinished finished
made_all s p = both (λ i. is_finished (instance_at s p i)) (made_count s p)

-- a record, by the number of the finished ones
pub record_by : (s : List ℕ) (p made left done : ℕ) → made ≡ made_count s p → done ≡ finished s p → left ≡ made - done → ◌≡◌ {A = List ℕ} (made ∷ left ∷ done ∷ []) (record_of s p)
unfolding record_of
record_by s p made left done e f l =
    let u : left ≡ unfinished s p = omega (arith, made_all s p) in
    rw (e, u, f)

-- the loop's end
pub finished_done : (s : List ℕ) (p made i count : ℕ) → made ≡ made_count s p → made ≤ i → i ≤ made → count ≡ sum (λ k. one_if (is_finished (instance_at s p k))) i → count ≡ finished s p
unfolding finished
finished_done s p made i count e h k c = c ∙ ap (sum (λ k. one_if (is_finished (instance_at s p k)))) (le_antisymm k h ∙ e)
