-- What loops and calls say, put together as the definitions have it: b and r are what a call says, n, h, g, u and v what it gives. Assumes nothing.
use mathlib.Core.Path.{◌≡◌, ◌∙◌, refl, sym, ap, ap₂}
use mathlib.Core.Bool.{Bool, true, false}
use mathlib.Core.List.{List}
use Prim.Native.Nat.{ℕ, ◌+◌, ◌≤◌, ◌<◌}
use lib.Dec.{ltb}
use lib.ListN.{replicate}
use borrow.Author.Tests.{eq-eqb, ne_eqb, lt-ltb, le-ltb}
use Rattle.base_words.specs.All.{all}
use Rattle.base_words.specs.Iter.{iter}
use Rattle.base_words.specs.Words.{at}
use Rattle.base_words.specs.Counts.{values}
use Rattle.base_words.proofs.AllLaws.{all_of, lt_leb_by, le_leb_by}
use Rattle.base_words.proofs.IterLaws.{iter_none, iter_more, iter_done}
use Rattle.base_words.proofs.PickLaws.{pick_yes, pick_no, and_yes, and_no}
use Rattle.base_table.specs.Table.{element_count, element_at}
use Rattle.base_state.specs.Instances.{instances_of, queues_of}
use Rattle.base_state.specs.Places.{defined_place, slot_place}
use Rattle.meaning.specs.Tuples.{value_of}
use Rattle.meaning.specs.Queues.{value_at}
use Rattle.state_fits.specs.Fits.{places_of, all_marked, usable, slot_fits, state_fits}
use Rattle.state_check.specs.Places.{shown_by}
use Rattle.state_fits.proofs.PartLaws.{Firsts}

-- THE PLACES of a pool: w₀ before the loop, w in it, u after a turn
module _ (t : List ℕ) (p : ℕ) (w₀ : List ℕ) where
  abbrev pub Marks : ℕ → List ℕ
  Marks n = iter (λ e w. all_marked w (places_of (element_at t p e))) w₀ n

  pub marks_none : w₀ ≡ Marks 0
  marks_none = iter_none (λ e w. all_marked w (places_of (element_at t p e))) w₀

  pub marks_more : (n : ℕ) (el w u : List ℕ) → w ≡ Marks n → el ≡ element_at t p n → u ≡ all_marked w (places_of el) → u ≡ Marks (n + 1)
  marks_more n el w u inv e h = iter_more (λ e w. all_marked w (places_of (element_at t p e))) w₀ n w u inv (h ∙ ap (λ x. all_marked w (places_of x)) e)

  pub marks_done : (n i : ℕ) (w : List ℕ) → n ≤ i → i ≤ n → w ≡ Marks i → w ≡ Marks n
  marks_done n i w = iter_done (λ e w. all_marked w (places_of (element_at t p e))) w₀ n i w

pub made_ones : (t s : List ℕ) (p n : ℕ) (u : List ℕ) (b : Bool) → u ≡ Marks t p (replicate (defined_place 0) 0) (element_count t p) → b ≡ Firsts u s p n → b ≡ Firsts (usable t p) s p n
unfolding usable
made_ones t s p n u b e h = h ∙ ap (λ v. Firsts v s p n) e

-- A MESSAGE of n values
module _ (q : List ℕ) (m k n : ℕ) where
  pub shown_first : all (shown_by q m k n) n ≡ true
  unfolding shown_by
  shown_first = all_of (shown_by q m k n) n (λ j l. eq-eqb (value_at q m k j) _ (pick_yes (ltb j n) (value_at q m k j) (value_at q m k j) 0 (lt-ltb j n l) refl))

  pub shown_more : (j r : ℕ) → n ≤ j → r ≡ value_at q m k j → r ≡ 0 → shown_by q m k n j ≡ true
  unfolding shown_by
  shown_more j r l e h = eq-eqb (value_at q m k j) _ (sym e ∙ pick_no (ltb j n) r (value_at q m k j) 0 (le-ltb j n l) h)

  pub shown_fails : (j r : ℕ) → n ≤ j → r ≡ value_at q m k j → (r ≡ 0 → ⊥) → shown_by q m k n j ≡ false
  unfolding shown_by
  shown_fails j r l e h = ne_eqb (value_at q m k j) _ (λ o. h (e ∙ o ∙ sym (pick_no (ltb j n) 0 (value_at q m k j) 0 (le-ltb j n l) refl)))

  pub message_no : n ≡ at q (slot_place m k) → values < n → false ≡ slot_fits q m k
  unfolding slot_fits
  message_no e h = and_no _ _ (lt_leb_by n _ values e h)

  pub message_yes : n ≡ at q (slot_place m k) → n ≤ values → (b : Bool) → b ≡ all (shown_by q m k n) values → b ≡ slot_fits q m k
  unfolding slot_fits shown_by value_of all
  message_yes e h b f = and_yes _ _ b (le_leb_by n _ values e h) (rw e at f)

-- A STATE in its two parts
pub state_by : (t z s q : List ℕ) (b : Bool) → s ≡ instances_of z → q ≡ queues_of z → b ≡ state_fits t s q → b ≡ state_fits t (instances_of z) (queues_of z)
state_by t z s q b e f h = h ∙ ap₂ (state_fits t) e f
