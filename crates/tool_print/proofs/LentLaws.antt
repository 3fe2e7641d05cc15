-- A call on the first of the records, and what stands behind them. Assumes nothing.
use Prim.Native.Nat.{ℕ, ◌≤◌}
use mathlib.Core.Path.{◌≡◌, ◌∙◌, ap, sym}
use mathlib.Core.List.{List, ◌++◌}
use lib.ListN.{length, take, drop}
use lib.Seq.{length-take-le}
use Rattle.base_table.specs.Table.{pool_count}
use Rattle.meaning.specs.declared.Answer.{Answer}
use Rattle.meaning.specs.declared.Name.{Name}
use Rattle.state_figures.specs.Figures.{Figured}
use Rattle.write_buffer.specs.Buffers.{lesser}
use Rattle.engine.specs.Engine.{Stepped, RanTo}
use Rattle.engine.specs.Desk.{AtDesk, stepped_at, ran_at, figured_to}
use Rattle.tool_print.specs.Lent.{lent_of, on_first, taken_on, ran_on, counted_on, unset, ran_fresh}

pub lent_is : (t : List ℕ) (records n w r : ℕ) → n ≡ pool_count t → w ≡ n → (r ≡ lesser w records) × (r ≤ w) × (r ≤ records) → (r ≡ lent_of t records) × (r ≤ records)
unfolding lent_of
lent_is t records n w r p e d = (d.0 ∙ ap (λ (j : ℕ). lesser j records) (e ∙ p), d.2)

module _ (t : List ℕ) (rs : List (List ℕ)) (k : ℕ) (e : (k ≡ lent_of t (length rs)) × (k ≤ length rs)) where
  pub first_long : k ≡ length (take k rs)
  first_long = sym (length-take-le k rs e.1)

  module _ (zs : List (List ℕ)) where
    on_first_lem : {A : Type 0} (x : A) (G : List (List ℕ) → AtDesk A) → ◌≡◌ {A = AtDesk A} (record { done = x; records = zs }) (G (take k rs))
        → ◌≡◌ {A = AtDesk A} (record { done = x; records = zs ++ drop k rs }) (on_first (lent_of t (length rs)) rs G)
    unfolding on_first
    on_first_lem {A} x G d =
        let w : ◌≡◌ {A = AtDesk A} (record { done = x; records = zs }) (G (take (lent_of t (length rs)) rs)) = d ∙ (λ i. G (take (e.0 i) rs)) in
        λ i. record { done = (w i).done; records = (w i).records ++ drop (e.0 i) rs }

    pub step_done : (z : List ℕ) (n : Name) (a : Answer) (y : List ℕ) → ◌≡◌ {A = AtDesk Stepped} (record { done = record { answer = a; state = y }; records = zs }) (stepped_at t z (take k rs) n)
        → ◌≡◌ {A = AtDesk Stepped} (record { done = record { answer = a; state = y }; records = zs ++ drop k rs }) (taken_on t z rs n)
    unfolding taken_on
    step_done z n a y d = on_first_lem (record { answer = a; state = y }) (λ ws. stepped_at t z ws n) d

    pub run_done : (z : List ℕ) (limit number steps left : ℕ) (y : List ℕ) → ◌≡◌ {A = AtDesk RanTo} (record { done = record { number = number; steps = steps; left = left; state = y }; records = zs }) (ran_at t z (take k rs) limit)
        → ◌≡◌ {A = AtDesk RanTo} (record { done = record { number = number; steps = steps; left = left; state = y }; records = zs ++ drop k rs }) (ran_on t z rs limit)
    unfolding ran_on
    run_done z limit number steps left y d = on_first_lem (record { number = number; steps = steps; left = left; state = y }) (λ ws. ran_at t z ws limit) d

    pub count_done : (z : List ℕ) (number : ℕ) → ◌≡◌ {A = Figured} (record { number = number; records = zs }) (figured_to t z (take k rs))
        → ◌≡◌ {A = AtDesk ℕ} (record { done = number; records = zs ++ drop k rs }) (counted_on t z rs)
    unfolding counted_on
    count_done z number d =
        on_first_lem number (λ ws. record { done = (figured_to t z ws).number; records = (figured_to t z ws).records })
        (ap (λ (a : Figured). record { done = a.number; records = a.records }) d)

-- records that were set by counting, and a run with them
pub fresh_done : (t z : List ℕ) (limit : ℕ) (number : ℕ) (rs : List (List ℕ)) → ◌≡◌ {A = AtDesk ℕ} (record { done = number; records = rs }) (counted_on t z unset)
    → (y : List ℕ) → y ≡ (ran_on t z rs limit).done.state → y ≡ ran_fresh t z limit
unfolding ran_fresh
fresh_done t z limit number rs d y e = e ∙ ap (λ (a : AtDesk ℕ). (ran_on t z a.records limit).done.state) d
