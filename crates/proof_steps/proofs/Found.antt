-- What it means that a name is found (refusal 11 does not apply), and what a table within the limits then says of the step's message. Assumes nothing.
use Prim.Native.Nat.{ℕ, ◌+◌, ◌≤◌, ◌<◌}
use mathlib.Core.Path.{◌≡◌, refl}
use mathlib.Core.Bool.{Bool, true, false, not, ◌&&◌, ◌||◌, false≢true}
use mathlib.Core.List.{List}
use lib.Dec.{eqb, ltb}
use borrow.Author.Tests.{eqb-false, ltb-true, not-true}
use Rattle.base_words.specs.Words.{at}
use Rattle.base_words.specs.Counts.{names, values}
use Rattle.base_kinds.specs.declared.Kind.{Kind}
use Rattle.base_kinds.specs.Kinds.{kind_of, used}
use Rattle.base_table.specs.Places.{exits_place}
use Rattle.base_table.specs.Table.{pool_count, element_count, kind_in, message_length}
use Rattle.base_state.specs.Instances.{made_count}
use Rattle.check_limits.specs.Limits.{element_fits, table_fits}
use Rattle.meaning.specs.declared.Name.{Name}
use Rattle.meaning.specs.Requirements.{branch_count, instance_named}
use Rattle.meaning.specs.Step.{site_of, pool_named, element_named, move_named, exists, receives, sends, message_named}
use Rattle.proof_steps.proofs.Elements.{element_fits_lem, message_name_lem, message_length_lem}
use Rattle.proof_steps.proofs.Messages.{branch_message}

pub record Found (t s : List ℕ) (n : Name) : Type 0 where
  pub pool : pool_named t n < pool_count t
  pub element : n.element < element_count t (pool_named t n)
  pub move : (move_named t n).kind ≡ 0 → ⊥
  pub branch : n.branch < branch_count (element_named t n) (move_named t n)
  pub instance : instance_named (move_named t n) n.instance (made_count s (pool_named t n)) ≡ true

-- five conditions of a chain
five : (a b c d e : Bool) → a && b && c && d && e ≡ true → (a ≡ true) × (b ≡ true) × (c ≡ true) × (d ≡ true) × (e ≡ true)
five true true true true true h = (refl, refl, refl, refl, refl)
five true true true true false h = (refl, refl, refl, refl, h)
five true true true false e h = (refl, refl, refl, h, absurd (false≢true h))
five true true false d e h = (refl, refl, h, absurd (false≢true h), absurd (false≢true h))
five true false c d e h = (refl, h, absurd (false≢true h), absurd (false≢true h), absurd (false≢true h))
five false b c d e h = (h, absurd (false≢true h), absurd (false≢true h), absurd (false≢true h), absurd (false≢true h))

module _ (t s : List ℕ) (n : Name) where
  pub found : exists t s n ≡ true → Found t s n
  unfolding exists
  found h =
      let f =
      five (ltb (pool_named t n) (pool_count t)) (ltb n.element (element_count t (pool_named t n))) (not (eqb (move_named t n).kind 0))
      (ltb n.branch (branch_count (element_named t n) (move_named t n))) (instance_named (move_named t n) n.instance (made_count s (pool_named t n))) h in
      record {
        pool = ltb-true (pool_named t n) (pool_count t) f.0;
        element = ltb-true n.element (element_count t (pool_named t n)) f.1;
        move = eqb-false (move_named t n).kind 0 (not-true _ f.2);
        branch = ltb-true n.branch (branch_count (element_named t n) (move_named t n)) f.3;
        instance = f.4;
      }

  module _ (fits : table_fits t ≡ true) (f : Found t s n) where
    pub element_named_lem : element_fits (element_named t n) ≡ true
    unfolding element_named
    element_named_lem = element_fits_lem t fits (pool_named t n) f.pool n.element f.element

    -- a step that receives or sends
    module _ (talks : receives (site_of t s n) || sends (site_of t s n) ≡ true) where
      abbrev row : Kind
      row = kind_of (kind_in (element_named t n))

      pub message_there : n.branch < used (row.receives + row.sends) (at (element_named t n) exits_place)
      unfolding site_of move_named
      message_there = branch_message (element_named t n) n.phase f.move talks n.branch f.branch

      pub name_few : message_named (site_of t s n) < names
      unfolding site_of
      name_few = message_name_lem (element_named t n) element_named_lem n.branch message_there

      pub length_few : message_length (element_named t n) n.branch ≤ values
      length_few = message_length_lem (element_named t n) element_named_lem n.branch message_there
