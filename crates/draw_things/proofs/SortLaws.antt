-- The sort of an element, by what the calls gave. Assumes nothing.
use mathlib.Core.Path.{◌≡◌}
use mathlib.Core.Bool.{Bool, true, false}
use mathlib.Core.List.{List}
use Prim.Native.Nat.{ℕ}
use borrow.Author.Tests.{eq-eqb, ne_eqb}
use Rattle.base_words.specs.Pick.{if◌then◌or_else◌}
use Rattle.xml_markup.specs.Spans.{name_at, bytes_of, local_of}
use Rattle.draw_things.specs.Things.{nothing, process, stranger}
use Rattle.draw_things.specs.Names.{row_named, row_of, draws_another, family, named_in, named_at, drawn_as}

module _ (parent : ℕ) (t : List ℕ) (p i : ℕ) (ei : i ≡ row_named (local_of (bytes_of t (name_at t p)))) (s : ℕ) (es : s ≡ (row_of i).sort) where
  pub named_nothing : s ≡ nothing → nothing ≡ named_at parent t p
  unfolding named_at named_in if◌then◌or_else◌
  named_nothing h = rw (← ei, ← es, eq-eqb s nothing h)

  module _ (h : s ≡ nothing → ⊥) (q : ℕ) (eq : q ≡ (row_of i).parent) (f : ℕ) (ef : f ≡ family parent) where
    pub named_elsewhere : (q ≡ f → ⊥) → stranger ≡ named_at parent t p
    unfolding named_at named_in if◌then◌or_else◌
    named_elsewhere k = rw (← ei, ← es, ← eq, ← ef, ne_eqb s nothing h, ne_eqb q f k)

    pub named_here : q ≡ f → s ≡ named_at parent t p
    unfolding named_at named_in if◌then◌or_else◌
    named_here k = rw (← ei, ← es, ← eq, ← ef, ne_eqb s nothing h, eq-eqb q f k)

module _ (s parent : ℕ) (t : List ℕ) (p : ℕ) where
  pub drawn_elsewhere : (parent ≡ process → ⊥) → s ≡ drawn_as s parent t p
  unfolding drawn_as if◌then◌or_else◌
  drawn_elsewhere o = rw (ne_eqb parent process o)

  module _ (o : parent ≡ process) (b : Bool) (eb : b ≡ draws_another t p) where
    pub drawn_another : b ≡ true → stranger ≡ drawn_as s parent t p
    unfolding drawn_as if◌then◌or_else◌
    drawn_another e = rw (eq-eqb parent process o, ← eb, e)

    pub drawn_plain : b ≡ false → s ≡ drawn_as s parent t p
    unfolding drawn_as if◌then◌or_else◌
    drawn_plain e = rw (eq-eqb parent process o, ← eb, e)
