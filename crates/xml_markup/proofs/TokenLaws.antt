-- The search of a tag for an attribute, byte by byte, as its loop goes. Assumes nothing.
use Rattle.std.specs.Prelude.{Some, None}
use mathlib.Core.Path.{◌≡◌, ◌∙◌, refl, sym}
use mathlib.Core.Bool.{Bool, true, false}
use mathlib.Core.List.{List}
use Prim.Native.Nat.{ℕ, ◌+◌, ◌<◌, ◌≤◌}
use native.Mathlib.Numerals.{add-one}
use lib.ListN.{length, drop, drop_of_length-le}
use lib.Seq.{drop-cons}
use Rattle.base_words.specs.Pick.{if◌then◌or_else◌}
use Rattle.base_words.specs.Words.{at, part}
use Rattle.base_bytes.specs.Bytes.{same_bytes}
use Rattle.xml_markup.specs.declared.Cursor.{Cursor}
use Rattle.xml_markup.specs.declared.Scan.{Scan}
use Rattle.xml_markup.specs.declared.Scan.TheVariants.{On, Past, Fault}
use Rattle.xml_markup.specs.declared.Whole.{Whole}
use Rattle.xml_markup.specs.declared.Whole.TheVariants.{Nothing, Attribute, Target, Reference}
use Rattle.xml_markup.specs.Tokens.{whole, moved, if_on, if_attribute, is_named, found_from}

-- an answer taken apart: the arm of `let Scan::On(c) = .. else`, and its else
pub is_on : {A : Type 0} (r : Scan) (f : Cursor → A) (a : A) (c : Cursor) → r ≡ On c → if_on r f a ≡ f c
unfolding if_on
is_on r f a c e = rw e

pub not_on : {A : Type 0} (r : Scan) (f : Cursor → A) (a : A) → ((v : Cursor) → r ≡ On v → ⊥) → if_on r f a ≡ a
unfolding if_on
not_on (On c) f a e = absurd (e c refl)
not_on (Past sort q) f a e = refl
not_on (Fault q) f a e = refl

pub is_attribute : {A : Type 0} (w : Whole) (a b : A) → w ≡ Attribute → if_attribute w a b ≡ a
unfolding if_attribute
is_attribute w a b e = rw e

pub not_attribute : {A : Type 0} (w : Whole) (a b : A) → (w ≡ Attribute → ⊥) → if_attribute w a b ≡ b
unfolding if_attribute
not_attribute Nothing a b e = refl
not_attribute Attribute a b e = absurd (e refl)
not_attribute Target a b e = refl
not_attribute Reference a b e = refl

-- the byte at i, where the loop stands at c
module _ (t name : List ℕ) (c : Cursor) (i : ℕ) (h : i < length t) where
  pub found_here : is_named t name c i ≡ true → found_from t name c (drop i t) i ≡ Some i
  unfolding found_from if◌then◌or_else◌
  found_here e = rw (drop-cons t i 0 h, e)

  module _ (e : is_named t name c i ≡ false) (b : ℕ) (eb : b ≡ at t i) (r : Scan) (er : r ≡ moved c b i (i + 1)) where
    pub found_on : (next : Cursor) → r ≡ On next → found_from t name c (drop i t) i ≡ found_from t name next (drop (i + 1) t) (i + 1)
    unfolding found_from if_on if◌then◌or_else◌
    found_on next m = rw (drop-cons t i 0 h, e, ← eb, ← er, m, add-one i)

    pub found_stops : ((v : Cursor) → r ≡ On v → ⊥) → found_from t name c (drop i t) i ≡ None
    unfolding found_from if◌then◌or_else◌
    found_stops m = rw (drop-cons t i 0 h, e, ← eb, ← er) (not_on _ _ _ m)

pub found_end : (t name : List ℕ) (c : Cursor) (i : ℕ) → length t ≤ i → found_from t name c (drop i t) i ≡ None
unfolding found_from
found_end t name c i h = rw (drop_of_length-le t h)

-- an attribute's name compared, by what the calls gave
module _ (t name : List ℕ) (c : Cursor) (i b : ℕ) (w : Whole) (eb : b ≡ at t i) (ew : w ≡ whole c.state b) where
  pub named_not : (w ≡ Attribute → ⊥) → false ≡ is_named t name c i
  unfolding is_named
  named_not o = rw (← eb, ← ew) (sym (not_attribute _ _ _ o))

  pub named_is : w ≡ Attribute → (p : List ℕ) → p ≡ part t c.mark i → (r : Bool) → r ≡ same_bytes p name → r ≡ is_named t name c i
  unfolding is_named
  named_is e p ep r er = rw (← eb, ← ew, ← ep) (er ∙ sym (is_attribute _ _ _ e))
