-- The calls that are lent records, by their tests. Assumes nothing.
use Prim.Native.Nat.{ℕ}
use mathlib.Core.Path.{◌≡◌, refl, sym, ◌∙◌}
use mathlib.Core.Bool.{Bool, true, false, not}
use mathlib.Core.List.{List}
use native.Mathlib.Omega.{arith}
use lib.ListN.{length}
use borrow.Author.Tests.{eq-eqb, ne_eqb}
use Rattle.base_words.specs.Pick.{if◌then◌or_else◌}
use Rattle.base_words.proofs.PickLaws.{flag_yes, flag_no}
use Rattle.base_table.specs.Table.{pool_count}
use Rattle.state_figures.specs.Figures.{counted, agree, updated, followed, desk_number, records_left, Figured, figured}

module _ (k : ℕ) (rs : List (List ℕ)) (t s : List ℕ) where
  -- THE NUMBER, by whether they agree
  abbrev Number : ℕ → Type 0
  Number r = (r ≡ desk_number k rs t s) × (r ≡ 0 → rs ≡ counted t s)

  pub number_first : (k ≡ 0 → ⊥) → Number k
  unfolding desk_number if◌then◌or_else◌
  number_first d = (rw (ne_eqb k 0 d), λ e. absurd (d e))

  module _ (b : Bool) (w : (b ≡ agree rs t s) × (b ≡ true → rs ≡ counted t s)) (e : k ≡ 0) where
    pub number_wrong : not b ≡ true → Number 26
    unfolding desk_number if◌then◌or_else◌
    number_wrong o = (rw (eq-eqb k 0 e, flag_no b (agree rs t s) w.0 o), λ z. absurd (omega arith))

    pub number_right : not b ≡ false → Number 0
    unfolding desk_number if◌then◌or_else◌
    number_right o = (rw (eq-eqb k 0 e, flag_yes b (agree rs t s) w.0 o), λ z. w.1 (flag_yes b b refl o))

  -- THE RECORDS LEFT
  pub left_counted : (y : List (List ℕ)) → k ≡ 0 → y ≡ counted t s → y ≡ records_left k rs t s
  unfolding records_left if◌then◌or_else◌
  left_counted y e h = rw (eq-eqb k 0 e) h

  pub left_same : (k ≡ 0 → ⊥) → rs ≡ records_left k rs t s
  unfolding records_left if◌then◌or_else◌
  left_same d = rw (ne_eqb k 0 d)

  -- FIGURES
  pub figured_first : (k ≡ 0 → ⊥) → ◌≡◌ {A = Figured} (record { number = k; records = rs }) (figured k rs t s)
  unfolding figured if◌then◌or_else◌
  figured_first d = rw (ne_eqb k 0 d)

  module _ (n : ℕ) (c : n ≡ pool_count t) (e : k ≡ 0) where
    pub figured_wrong : (length rs ≡ n → ⊥) → ◌≡◌ {A = Figured} (record { number = 26; records = rs }) (figured k rs t s)
    unfolding figured if◌then◌or_else◌
    figured_wrong d = rw (eq-eqb k 0 e, ne_eqb (length rs) (pool_count t) (λ q. d (q ∙ sym c)))

    pub figured_right : (y : List (List ℕ)) → length rs ≡ n → y ≡ counted t s → ◌≡◌ {A = Figured} (record { number = 0; records = y }) (figured k rs t s)
    unfolding figured if◌then◌or_else◌
    figured_right y l h = rw (eq-eqb k 0 e, eq-eqb (length rs) (pool_count t) (l ∙ c), h)

-- AFTER A STEP
module _ (number : ℕ) (rs : List (List ℕ)) (s : List ℕ) (p i : ℕ) where
  pub followed_step : (y : List (List ℕ)) (o : ℕ) → number ≡ 0 → o ≡ p → y ≡ updated rs s o i → y ≡ followed number rs s p i
  unfolding followed if◌then◌or_else◌
  followed_step y o e d h = rw (eq-eqb number 0 e, ← d) h

  pub followed_none : (number ≡ 0 → ⊥) → rs ≡ followed number rs s p i
  unfolding followed if◌then◌or_else◌
  followed_none d = rw (ne_eqb number 0 d)
