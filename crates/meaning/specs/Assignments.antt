-- "Assignments go in order, each seeing those before it." (RULES: assignments)
use Rattle.std.specs.Prelude.{ℕ, Bool, true, false, List, leb, drop, None, Some}
use Rattle.base_words.specs.Blocks.{Element, Instance}
use Rattle.base_words.specs.Iter.{iter}
use Rattle.base_words.specs.Pick.{if◌then◌or_else◌}
use Rattle.base_words.specs.Words.{at}
use Rattle.base_words.specs.Counts.{assignments}
use Rattle.meaning.specs.Values.{Value}
use Rattle.base_table.specs.Places.{assigned_in}
use Rattle.base_table.specs.Table.{assignment_count, assignment_at}
use Rattle.base_state.specs.Instances.{with_field}
use Rattle.meaning.specs.Expressions.{expression_of}

-- the instance after assignments, and whether all of them were defined; the first that is not leaves it as it is
pub record Assigned : Type 0 where
  pub defined : Bool
  pub instance : Instance

unfoldable pub assigned_value : Instance → ℕ → Value → Assigned
assigned_value h d (Some v) = record { defined = true; instance = with_field h d v }
assigned_value h d None = record { defined = false; instance = h }

unfoldable pub assign_one : Element → ℕ → Assigned → Assigned
assign_one el j a =
    if leb (assignment_count el) j then a
    or_else if a.defined then assigned_value a.instance (at (assignment_at el j) 0) (expression_of (drop assigned_in (assignment_at el j)) a.instance)
    or_else a

unfoldable pub assigned : Element → Instance → Assigned
assigned el h = iter (assign_one el) (record { defined = true; instance = h }) assignments
