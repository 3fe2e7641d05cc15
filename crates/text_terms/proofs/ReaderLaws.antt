-- A word stored before a reader, and a choice between readers, in the direction of a contract. Assumes nothing.
use Prim.Native.Nat.{ℕ}
use mathlib.Core.Path.{◌≡◌, ◌∙◌, ap, ap₂}
use mathlib.Core.Bool.{Bool, true, false, ◌&&◌}
use mathlib.Core.List.{List}
use lib.ListN.{set}
use Rattle.base_words.specs.Pick.{if◌then◌or_else◌}
use Rattle.base_words.specs.Text.{bytes}
use Rattle.base_words.specs.Words.{part}
use Rattle.base_bytes.specs.Bytes.{same_bytes}
use Rattle.text_readers.specs.Reading.{Parsed, Reader, passed_to, if_at, onward, ◌then◌, place_of, behind, letters}
use Rattle.text_terms.specs.Terms.{store}

pub store_goes : (place v : ℕ) (g : Reader) (text : List ℕ) (at : ℕ) (x y : List ℕ) (w : Parsed) → y ≡ set x place v → w ≡ g text at y → w ≡ (store place v then g) text at x
unfolding ◌then◌ onward if_at
store_goes place v g text at x y w e k = rw (← e) k

module _ (b : Bool) (f g : Reader) (text : List ℕ) (at : ℕ) (x : List ℕ) (w : Parsed) where
  pub reads_yes : b ≡ true → w ≡ f text at x → w ≡ (if b then f or_else g) text at x
  unfolding if◌then◌or_else◌
  reads_yes e k = rw e k

  pub reads_no : b ≡ false → w ≡ g text at x → w ≡ (if b then f or_else g) text at x
  unfolding if◌then◌or_else◌
  reads_no e k = rw e k

-- a word from p to q that is the token at a place, and a form that it says
module _ (text : List ℕ) (at p q : ℕ) (e : p ≡ place_of text at) (h : q ≡ behind text at) where
  pub spelled_is : (w : List ℕ) (r : Bool) → r ≡ same_bytes (part text p q) w → r ≡ same_bytes (letters text at) w
  spelled_is w r k = k ∙ ap₂ (λ a b. same_bytes (part text a b) w) e h

  pub default_is : (d r : Bool) → r ≡ (d && same_bytes (part text p q) (bytes "default")) → r ≡ (d && same_bytes (letters text at) (bytes "default"))
  default_is d r k = k ∙ ap₂ (λ a b. d && same_bytes (part text a b) (bytes "default")) e h

  pub form_is : (x : List ℕ) (w : Parsed) → w ≡ passed_to q x → w ≡ passed_to (behind text at) x
  form_is x w k = k ∙ ap (λ z. passed_to z x) h

pub same_by : (l m w : List ℕ) (r : Bool) → l ≡ m → r ≡ same_bytes l w → r ≡ same_bytes m w
same_by l m w r e k = k ∙ ap (λ (z : List ℕ). same_bytes z w) e
