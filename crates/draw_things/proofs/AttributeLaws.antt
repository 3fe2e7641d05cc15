-- The attributes of a tag, byte by byte, as the loop goes. Assumes nothing.
use Rattle.std.specs.Prelude.{Option, Some, None}
use mathlib.Core.Path.{◌≡◌, ◌∙◌, refl, sym}
use mathlib.Core.Bool.{Bool, true, false}
use mathlib.Core.List.{List}
use Prim.Native.Nat.{ℕ, ◌+◌, ◌<◌, ◌≤◌}
use native.Mathlib.Numerals.{add-one}
use lib.ListN.{length, drop, drop_of_length-le}
use lib.Seq.{drop-cons}
use Rattle.base_words.specs.Pick.{if◌then◌or_else◌}
use Rattle.base_words.specs.Words.{at, part}
use Rattle.xml_markup.specs.declared.Cursor.{Cursor}
use Rattle.xml_markup.specs.declared.Scan.{Scan}
use Rattle.xml_markup.specs.declared.Scan.TheVariants.{On}
use Rattle.xml_markup.specs.declared.Whole.{Whole}
use Rattle.xml_markup.specs.declared.Whole.TheVariants.{Nothing, Attribute}
use Rattle.xml_markup.specs.Tokens.{whole, moved, if_on, if_attribute}
use Rattle.xml_markup.specs.Leaps.{Leads}
use Rattle.xml_markup.proofs.LeapLaws.{leads_to}
use Rattle.xml_markup.proofs.TokenLaws.{is_attribute, not_attribute, not_on}
use Rattle.draw_things.specs.Names.{differs, value_bytes, value_behind, differs_at, differs_from}

pub value_is : (t : List ℕ) (a : Option (ℕ × ℕ)) (from to : ℕ) → a ≡ Some (from, to) → (v : List ℕ) → v ≡ part t from to → v ≡ value_bytes t a
unfolding value_bytes
value_is t a from to e v ev = rw e ev

pub value_absent : (t : List ℕ) (a : Option (ℕ × ℕ)) → a ≡ None → (v : List ℕ) → v ≡ part t 0 0 → v ≡ value_bytes t a
unfolding value_bytes
value_absent t a e v ev = rw e ev

-- an attribute by what the calls gave
module _ (t : List ℕ) (c : Cursor) (i b : ℕ) (w : Whole) (eb : b ≡ at t i) (ew : w ≡ whole c.state b) where
  pub differs_not : (w ≡ Attribute → ⊥) → false ≡ differs_at t c i
  unfolding differs_at
  differs_not o = rw (← eb, ← ew) (sym (not_attribute _ _ _ o))

  pub differs_is : w ≡ Attribute → (name : List ℕ) → name ≡ part t c.mark i → (value : List ℕ) → value ≡ value_behind t i → (r : Bool) → r ≡ differs name value → r ≡ differs_at t c i
  unfolding differs_at
  differs_is e name en value ev r er = rw (← eb, ← ew, ← en, ← ev) (er ∙ sym (is_attribute _ _ _ e))

-- the byte at i, where the loop stands at c
module _ (t : List ℕ) (c : Cursor) (i : ℕ) (h : i < length t) where
  pub another_here : differs_at t c i ≡ true → differs_from t c (drop i t) i ≡ true
  unfolding differs_from if◌then◌or_else◌
  another_here e = rw (drop-cons t i 0 h, e)

  module _ (e : differs_at t c i ≡ false) (b : ℕ) (eb : b ≡ at t i) (r : Scan) (er : r ≡ moved c b i (i + 1)) where
    pub another_on : (next : Cursor) → r ≡ On next → differs_from t c (drop i t) i ≡ differs_from t next (drop (i + 1) t) (i + 1)
    unfolding differs_from if_on if◌then◌or_else◌
    another_on next m = rw (drop-cons t i 0 h, e, ← eb, ← er, m, add-one i)

    pub another_stops : ((v : Cursor) → r ≡ On v → ⊥) → differs_from t c (drop i t) i ≡ false
    unfolding differs_from if◌then◌or_else◌
    another_stops m = rw (drop-cons t i 0 h, e, ← eb, ← er) (not_on _ _ _ m)

-- bytes that are passed together
no_name : (t : List ℕ) (c : Cursor) (i : ℕ) → whole c.state (at t i) ≡ Nothing → differs_at t c i ≡ false
unfolding differs_at if_attribute
no_name t c i w = rw w refl

pub another_leap : (t : List ℕ) {c d : Cursor} {i j : ℕ} → Leads t c i d j → differs_from t c (drop i t) i ≡ differs_from t d (drop j t) j
another_leap t {c = c} {i = i} l =
    leads_to t (λ (f : Cursor) (k : ℕ). differs_from t c (drop i t) i ≡ differs_from t f (drop k t) k)
    (λ f next k h w o g p. p ∙ another_on t f k h (no_name t f k w) (at t k) refl (moved f (at t k) k (k + 1)) refl next g)
    l refl

pub another_end : (t : List ℕ) (c : Cursor) (i : ℕ) → length t ≤ i → differs_from t c (drop i t) i ≡ false
unfolding differs_from
another_end t c i h = rw (drop_of_length-le t h)
