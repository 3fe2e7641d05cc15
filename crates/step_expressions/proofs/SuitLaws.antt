-- Values that do not suit a template worked out without them do not match it. Assumes nothing.
use Prim.Native.Nat.{ℕ, zero, suc}
use mathlib.Core.Path.{◌≡◌, ◌∙◌, refl, sym}
use mathlib.Core.Bool.{Bool, true, false, ◌&&◌, ◌||◌, false≢true}
use mathlib.Core.List.{List}
use lib.Dec.{eqb}
use borrow.Author.Tests.{eq-eqb, eqb-true}
use Rattle.base_words.specs.All.{all}
use Rattle.base_words.specs.Pick.{if◌then◌or_else◌}
use Rattle.base_words.specs.Words.{at}
use Rattle.base_words.proofs.AllLaws.{and_left, and_right, all_at, all_of}
use Rattle.base_kinds.specs.declared.moves.Move.{Move}
use Rattle.base_kinds.specs.Moves.{on}
use Rattle.base_table.specs.Table.{message_length}
use Rattle.meaning.specs.declared.Tuple.{Tuple}
use Rattle.meaning.specs.Tuples.{empty, same_tuple}
use Rattle.meaning.specs.Templates.{binds, item_value, gathered, evaluated}
use Rattle.meaning.specs.Changes.{expected}
use Rattle.step_expressions.specs.Suited.{item_suits, suited}

or_true : (a b : Bool) → a ≡ true → a || b ≡ true
or_true true b e = refl
or_true false b e = absurd (false≢true e)

pub or_first : (a b : Bool) → a ≡ true → true ≡ a || b
or_first a b e = sym (or_true a b e)

pub or_second : (a b w : Bool) → a ≡ false → w ≡ b → w ≡ a || b
or_second a b w e d = rw (e, d)

or_other : (a b : Bool) → b ≡ true → a || b ≡ true
or_other true b e = refl
or_other false b e = e

and_both : (a b : Bool) → a ≡ true → b ≡ true → a && b ≡ true
and_both true b e d = d
and_both false b e d = e

module _ (el : List ℕ) (b : ℕ) (h : List ℕ) (g : Tuple) where
  -- an item that does not bind comes to the same whatever is given
  free : (v : Tuple) (j : ℕ) → binds el b j ≡ false → at (evaluated el b h v).tuple.values j ≡ at (evaluated el b h g).tuple.values j
  unfolding evaluated gathered item_value if◌then◌or_else◌
  free v zero o = rw o
  free v (suc zero) o = rw o
  free v (suc (suc zero)) o = rw o
  free v (suc (suc (suc zero))) o = rw o
  free v (suc (suc (suc (suc j)))) o = refl

  item_suits_lem : (j : ℕ) → at (evaluated el b h g).tuple.values j ≡ at g.values j → item_suits el b (evaluated el b h empty).tuple g j ≡ true
  unfolding item_suits
  item_suits_lem j e = go (binds el b j) refl
    where
      go : (o : Bool) → binds el b j ≡ o → eqb (at (evaluated el b h empty).tuple.values j) (at g.values j) || binds el b j ≡ true
      go true o = or_other (eqb (at (evaluated el b h empty).tuple.values j) (at g.values j)) (binds el b j) o
      go false o = or_true (eqb (at (evaluated el b h empty).tuple.values j) (at g.values j)) (binds el b j) (eq-eqb _ _ (free empty j o ∙ e))

  matched_suits : same_tuple (evaluated el b h g).tuple g ≡ true → suited el b (evaluated el b h empty).tuple g ≡ true
  unfolding same_tuple suited evaluated gathered
  matched_suits s =
      let long : eqb (message_length el b) g.length ≡ true = and_left (eqb (message_length el b) g.length) _ s in
      let same = all_at (λ j. eqb (at (evaluated el b h g).tuple.values j) (at g.values j)) (message_length el b) (and_right (eqb (message_length el b) g.length) _ s) in
      and_both _ _ long (all_of (item_suits el b (evaluated el b h empty).tuple g) (message_length el b) (λ j l. item_suits_lem j (eqb-true _ _ (same j l))))

  unsuited_evaluated : suited el b (evaluated el b h empty).tuple g ≡ false → same_tuple (evaluated el b h g).tuple g ≡ false
  unsuited_evaluated o = go (same_tuple (evaluated el b h g).tuple g) refl
    where
      go : (s : Bool) → same_tuple (evaluated el b h g).tuple g ≡ s → s ≡ false
      go true s = absurd (false≢true (sym o ∙ matched_suits s))
      go false s = refl

  -- the same of what a move expects
  pub unsuited : (m : Move) → suited el b (expected el h m b empty).tuple g ≡ false → same_tuple (expected el h m b g).tuple g ≡ false
  unfolding expected if◌then◌or_else◌ suited same_tuple all
  unsuited m = go (eqb m.receives on)
    where
      go : (r : Bool) → suited el b (if r then evaluated el b h empty or_else record { defined = true; tuple = empty }).tuple g ≡ false
          → same_tuple (if r then evaluated el b h g or_else record { defined = true; tuple = empty }).tuple g ≡ false
      go true o = unsuited_evaluated o
      go false o = o
