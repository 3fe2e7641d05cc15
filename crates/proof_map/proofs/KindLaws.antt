-- The kind of an element that is drawn is that of its node: what is stored behind it leaves it. Assumes nothing.
use Prim.Native.Nat.{ℕ, zero, suc, ◌+◌, ◌<◌}
use mathlib.Core.Path.{◌≡◌, refl, sym, ◌∙◌}
use mathlib.Core.Bool.{Bool, true, false}
use mathlib.Core.List.{List, [], ◌∷◌}
use native.Mathlib.Omega.{arith}
use lib.ListN.{set, replicate}
use Rattle.base_words.specs.Pick.{if◌then◌or_else◌}
use Rattle.base_words.specs.Words.{at}
use Rattle.base_words.proofs.IterLaws.{iter_keeps}
use Rattle.base_table.specs.Places.{kind_place, element_words}
use Rattle.base_table.specs.Table.{kind_in}
use Rattle.draw_things.specs.Things.{kind}
use Rattle.draw_model.specs.Drawn.{with_edge, with_message, with_form, with_task, with_first, head_of, with_term, with_condition, said_or_true, guarded_by, with_guard, with_branch, exit_by, entering_by, leaving_by, by_flow, element_drawn}

either : {A : Type 0} (P : A → Type 0) (b : Bool) (x y : A) → P x → P y → P (if b then x or_else y)
unfolding if◌then◌or_else◌
either P true x y p q = p
either P false x y p q = q

module _ (t w : List ℕ) (n c : ℕ) where
  record Of (x : List ℕ) : Type 0 where
    pub is : at x kind_place ≡ c

  behind : (x : List ℕ) (i v : ℕ) → 0 < i → at (set x i v) 0 ≡ at x 0
  behind [] i v l = refl
  behind (x ∷ xs) zero v l = absurd (omega (arith, l))
  behind (x ∷ xs) (suc i) v l = refl

  put : (x : List ℕ) (i v : ℕ) → 0 < i → Of x → Of (set x i v)
  put x i v l o = record { is = behind x i v l ∙ o.is }

  edge : (list e : ℕ) (x : List ℕ) → 0 < list → Of x → Of (with_edge list e x)
  unfolding with_edge
  edge list e x l o = put _ _ _ l (put _ _ _ (omega (arith, l)) o)

  form : (b v : ℕ) (x : List ℕ) → Of x → Of (with_form b v x)
  unfolding with_form
  form b v x o = put _ _ _ (omega arith) o

  message : (k : ℕ) (x : List ℕ) → Of x → Of (with_message w n k x)
  unfolding with_message
  message k x o = either Of _ _ _ (put _ _ _ (omega arith) o) (either Of _ _ _ (put _ _ _ (omega arith) o) o)

  first : (k : ℕ) (x : List ℕ) → Of x → Of (with_first w n k x)
  unfolding with_first with_task
  first k x o = either Of _ _ _ (form _ _ _ (put _ _ _ (omega arith) (put _ _ _ (omega arith) o))) (either Of _ _ _ (edge _ _ _ (omega arith) o) o)

  said : (j b : ℕ) (x : List ℕ) → Of x → Of (guarded_by t w n j b x)
  unfolding guarded_by said_or_true with_condition with_term
  said j b x o =
      either Of _ _ _
      (either Of _ _ _ (form b _ x o) (put _ _ _ (omega arith) (put _ _ _ (omega arith) (put _ _ _ (omega arith) (put _ _ _ (omega arith) (form b _ x o))))))
      (form b _ x o)

  guard : (k j b : ℕ) (x : List ℕ) → Of x → Of (with_guard t w n k j b x)
  unfolding with_guard
  guard k j b x o = either Of _ _ _ (form b _ x o) (said j b x o)

  exit : (k j : ℕ) (x : List ℕ) → Of x → Of (exit_by t w n k j x)
  unfolding exit_by with_branch
  exit k j x o =
      either Of _ _ _ (edge _ _ _ (omega arith) (put _ _ _ (omega arith) o))
      (either Of _ _ _ (edge _ _ _ (omega arith) (guard k j _ x o)) (edge _ _ _ (omega arith) o))

  flow : (k j : ℕ) (x : List ℕ) → Of x → Of (by_flow t w n k j x)
  unfolding by_flow leaving_by entering_by
  flow k j x o = either Of _ _ _ (either Of _ _ _ (exit k j _ entered) entered) o
    where
      entered : Of (entering_by w k j x)
      entered = either Of _ _ _ (edge _ _ _ (omega arith) o) o

pub kind_drawn : (t w : List ℕ) (n k : ℕ) → kind_in (element_drawn t w n k) ≡ kind w k
unfolding element_drawn head_of
kind_drawn t w n k =
    (iter_keeps (by_flow t w n k) (head_of w n k) (Of t w n (kind w k)) n (λ j x h o. flow t w n (kind w k) k j x o)
    (message t w n (kind w k) k _ (first t w n (kind w k) k _ (record { is = refl })))
    ).is
