-- What the programs lend of the records that they keep: the first of them, as many as the table has pools, as far as they have so many. What stands behind stays. t is a table, z a state.
use Rattle.std.specs.Prelude.{ℕ, List, ◌++◌, length, take, drop, replicate}
use Rattle.base_table.specs.Table.{pool_count}
use Rattle.meaning.specs.declared.Name.{Name}
use Rattle.state_figures.specs.Figures.{Figured}
use Rattle.write_buffer.specs.Buffers.{lesser}
use Rattle.engine.specs.Engine.{Stepped, RanTo}
use Rattle.engine.specs.Desk.{AtDesk, stepped_at, ran_at, figured_to}

unfoldable pub lent_of : List ℕ → ℕ → ℕ
lent_of t records = lesser (pool_count t) records

-- a call on the first k of the records
unfoldable pub on_first : {A : Type 0} → ℕ → List (List ℕ) → (List (List ℕ) → AtDesk A) → AtDesk A
on_first k rs call = record { done = (call (take k rs)).done; records = (call (take k rs)).records ++ drop k rs }

unfoldable pub taken_on : List ℕ → List ℕ → List (List ℕ) → Name → AtDesk Stepped
taken_on t z rs n = on_first (lent_of t (length rs)) rs (λ ws. stepped_at t z ws n)

unfoldable pub ran_on : List ℕ → List ℕ → List (List ℕ) → ℕ → AtDesk RanTo
ran_on t z rs limit = on_first (lent_of t (length rs)) rs (λ ws. ran_at t z ws limit)

unfoldable pub counted_on : List ℕ → List ℕ → List (List ℕ) → AtDesk ℕ
counted_on t z rs = on_first (lent_of t (length rs)) rs (λ ws. record { done = (figured_to t z ws).number; records = (figured_to t z ws).records })

-- records that hold nothing yet, for as many pools as a table can have
abbrev pub unset : List (List ℕ)
unset = replicate 4 (replicate 3 0)

-- a run with records of its own, which are counted first: the state that it leaves
unfoldable pub ran_fresh : List ℕ → List ℕ → ℕ → List ℕ
ran_fresh t z limit = (ran_on t z (counted_on t z unset).records limit).done.state
