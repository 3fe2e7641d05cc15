-- WHAT LAW A SAYS, CASE BY CASE; and in two texts that begin alike a reader moves alike, as long as it is no further than where they begin to differ. Assumes nothing.
use mathlib.Core.Logic.{◌⊎◌, inl, inr}
use mathlib.Core.Path.{◌≡◌, ◌∙◌, refl, sym, ap}
use mathlib.Core.Bool.{Bool, true, false, false≢true}
use mathlib.Core.List.{List}
use Prim.Native.Nat.{ℕ, ◌<◌, ◌≤◌}
use native.Mathlib.Omega.{arith}
use lib.ListN.{length, take}
use Rattle.base_bytes.proofs.PieceLaws.{by_order}
use Rattle.xml_markup.specs.declared.Span.{Span}
use Rattle.xml_markup.specs.Spans.{name_at}
use Rattle.log_text.specs.declared.Cursor.{Cursor}
use Rattle.log_text.specs.declared.Move.{Move}
use Rattle.log_text.specs.declared.Move.TheVariants.{On, Done, Fault}
use Rattle.log_text.specs.Cursors.{tag_by}
use Rattle.log_text.specs.Logs.{advance}
use Rattle.proof_local.proofs.Names.{Whole, named, cut_name}
use Rattle.proof_local.proofs.Advances.{Early, Cut, same, broken}
use Rattle.proof_local.proofs.OneMove.{advance_cut}

-- the reader is within the first n bytes, there are fewer events than these, and the name of the tag that it is in is whole there
pub record Stands (t : List ℕ) (n : ℕ) (c : Cursor) : Type 0 where
  pub inside : n ≤ length t
  pub before : c.at ≤ n
  pub few : c.events < n
  pub tag : tag_by c.level c < n
  pub name : Whole t n (tag_by c.level c)

pub law : (t : List ℕ) (n : ℕ) (c : Cursor) → Stands t n c → Cut n (advance t c) (advance (take n t) c)
law t n c s = advance_cut t n s.inside c s.few s.before s.tag s.name

abbrev pub is_fault : Move → Bool
is_fault (On d) = false
is_fault (Done d) = false
is_fault (Fault q) = true

-- a move that is early is the beginning's; the beginning's move is the text's, or a fault at its end
module _ (n : ℕ) where
  pub early_same : (x y : Move) → is_fault x ≡ false → Early n x → Cut n x y → y ≡ x
  early_same x y f e (same k l) = k
  early_same (On d) y f e (broken k l) = absurd (omega (arith, e, l))
  early_same (Done d) y f e (broken k l) = absurd (omega (arith, e, l))
  early_same (Fault q) y f e (broken k l) = absurd (false≢true (sym f))

  pub well_same : (x y : Move) → is_fault y ≡ false → Cut n x y → y ≡ x
  well_same x y f (same k l) = k
  well_same x y f (broken k l) = absurd (false≢true (sym f ∙ ap is_fault k))

  pub one_of : (x y : Move) → Cut n x y → (y ≡ x) ⊎ (y ≡ Fault n)
  one_of x y (same k l) = inl k
  one_of x y (broken k l) = inr k

module _ (t : List ℕ) (n : ℕ) (c d : Cursor) (s : Stands t n c) where
  pub on_in : advance t c ≡ On d → d.at ≤ n → advance (take n t) c ≡ On d
  on_in e h = early_same n (advance t c) (advance (take n t) c) (rw e refl) (rw e h) (law t n c s) ∙ e

  pub done_in : advance t c ≡ Done d → d.at ≤ n → advance (take n t) c ≡ Done d
  done_in e h = early_same n (advance t c) (advance (take n t) c) (rw e refl) (rw e h) (law t n c s) ∙ e

  pub on_of : advance (take n t) c ≡ On d → advance t c ≡ On d
  on_of e = sym (well_same n (advance t c) (advance (take n t) c) (rw e refl) (law t n c s)) ∙ e

  pub done_of : advance (take n t) c ≡ Done d → advance t c ≡ Done d
  done_of e = sym (well_same n (advance t c) (advance (take n t) c) (rw e refl) (law t n c s)) ∙ e

pub either : (t : List ℕ) (n : ℕ) (c : Cursor) → Stands t n c → (advance (take n t) c ≡ advance t c) ⊎ (advance (take n t) c ≡ Fault n)
either t n c s = one_of n (advance t c) (advance (take n t) c) (law t n c s)

-- TWO TEXTS that begin alike
module _ (t u : List ℕ) (n : ℕ) (within : n ≤ length u) (alike : take n u ≡ take n t) (c : Cursor) (s : Stands t n c) where
  pub name_whole : (p : ℕ) → p < n → Whole t n p → Whole u n p
  name_whole p h w =
      by_order n (name_at u p).to
      (λ k. absurd (omega (arith, w, cut_name u n within p h k, ap (λ (l : List ℕ). (name_at l p).to) alike ∙ ap (λ (r : Span). r.to) (named t n s.inside p h w))))
      (λ k. k)

  pub stands : Stands u n c
  stands = record { inside = within; before = s.before; few = s.few; tag = s.tag; name = name_whole (tag_by c.level c) s.tag s.name }

  module _ (d : Cursor) (h : d.at ≤ n) where
    pub same_on : advance t c ≡ On d → advance u c ≡ On d
    same_on e = on_of u n c d stands (ap (λ (l : List ℕ). advance l c) alike ∙ on_in t n c d s e h)

    pub same_done : advance t c ≡ Done d → advance u c ≡ Done d
    same_done e = done_of u n c d stands (ap (λ (l : List ℕ). advance l c) alike ∙ done_in t n c d s e h)
