-- What stands in a list, and lists in which nothing stands twice: of lists one behind the other, of what passes a test, of the k-th of a listing. Assumes nothing.
use Prim.Native.Nat.{ℕ, zero, suc, ◌<◌}
use mathlib.Core.Path.{◌≡◌, refl, sym, ◌∙◌, ap, subst}
use mathlib.Core.Bool.{Bool, true, false, false≢true}
use mathlib.Core.List.{List, [], ◌∷◌, ◌++◌}
use mathlib.Core.Logic.{◌⊎◌, inl, inr, ⊎_elim}
use native.Mathlib.Nat.{not-suc-le-zero, le_of_suc-le-suc, eq-or-lt_of_le}
use native.Mathlib.Omega.{arith}
use Rattle.base_words.specs.Each.{joined, those}
use Rattle.base_words.specs.Pick.{if◌then◌or_else◌}
use Rattle.meaning.specs.declared.Name.{Name}
use Rattle.step_list.specs.declared.Listed.{Listed}
use Rattle.step_list.specs.Listing.{chosen}

unfoldable pub member : {A : Type 0} → A → List A → Type 0
member x [] = ⊥
member x (y ∷ ys) = (x ≡ y) ⊎ member x ys

-- nothing stands twice
unfoldable pub once : {A : Type 0} → List A → Type 0
once [] = Unit {0}
once (x ∷ xs) = (member x xs → ⊥) × once xs

module _ {A : Type 0} where
  -- TWO LISTS
  member_left : (x : A) (xs ys : List A) → member x xs → member x (xs ++ ys)
  unfolding member
  member_left x [] ys h = absurd h
  member_left x (y ∷ xs) ys h = ⊎_elim (λ e. inl e) (λ r. inr (member_left x xs ys r)) h

  member_right : (x : A) (xs ys : List A) → member x ys → member x (xs ++ ys)
  unfolding member
  member_right x [] ys h = h
  member_right x (y ∷ xs) ys h = inr (member_right x xs ys h)

  member_either : (x : A) (xs ys : List A) → member x (xs ++ ys) → member x xs ⊎ member x ys
  unfolding member
  member_either x [] ys h = inr h
  member_either x (y ∷ xs) ys h = ⊎_elim (λ e. inl (inl e)) (λ r. ⊎_elim (λ a. inl (inr a)) (λ b. inr b) (member_either x xs ys r)) h

  once_both : (xs ys : List A) → once xs → once ys → ((x : A) → member x xs → member x ys → ⊥) → once (xs ++ ys)
  unfolding once member
  once_both [] ys a b d = b
  once_both (x ∷ xs) ys a b d = (
    (λ h. ⊎_elim (λ r. a.0 r) (λ r. d x (inl refl) r) (member_either x xs ys h)),
    once_both xs ys a.1 b (λ y r. d y (inr r)),
  )

  -- LISTS ONE BEHIND THE OTHER
  module _ (f : ℕ → List A) where
    pub member_joined : (x : A) (n k : ℕ) → k < n → member x (f k) → member x (joined f n)
    unfolding joined
    member_joined x zero k l h = absurd (not-suc-le-zero l)
    member_joined x (suc n) k l h =
        ⊎_elim (λ e. member_right x (joined f n) (f n) (subst (λ j. member x (f j)) e h))
        (λ r. member_left x (joined f n) (f n) (member_joined x n k r h))
        (eq-or-lt_of_le (le_of_suc-le-suc l))

    pub joined_member : (x : A) (n : ℕ) → member x (joined f n) → (k : ℕ) × (k < n) × member x (f k)
    unfolding joined member
    joined_member x zero h = absurd h
    joined_member x (suc n) h =
        ⊎_elim (λ r. let z = joined_member x n r in (z.0, omega (arith, z.1), z.2)) (λ r. (n, omega arith, r)) (member_either x (joined f n) (f n) h)

    -- what stands in the k-th tells k
    pub once_joined : (key : A → ℕ) (n : ℕ) → ((k : ℕ) → k < n → (x : A) → member x (f k) → key x ≡ k) → ((k : ℕ) → k < n → once (f k)) → once (joined f n)
    unfolding joined once
    once_joined key zero tells each = tt
    once_joined key (suc n) tells each =
        once_both (joined f n) (f n) (once_joined key n (λ k l. tells k (omega arith)) (λ k l. each k (omega arith))) (each n (omega arith))
        (λ x a b. let z = joined_member x n a in
        let e : key x ≡ z.0 = tells z.0 (omega (arith, z.1)) x z.2 in
        let g : key x ≡ n = tells n (omega arith) x b in
        absurd (omega (arith, e, g, z.1)))

  -- WHAT PASSES A TEST
  module _ (f : A → Bool) where
    pub member_those : (x : A) (xs : List A) → f x ≡ true → member x xs → member x (those f xs)
    unfolding those member if◌then◌or_else◌
    member_those x [] e h = absurd h
    member_those x (y ∷ ys) e h = go (f y) refl (λ r. member_those x ys e r) h
      where
        go : (b : Bool) → f y ≡ b → (member x ys → member x (those f ys)) → (x ≡ y) ⊎ member x ys → member x (if b then y ∷ those f ys or_else those f ys)
        go true o ih h = ⊎_elim (λ p. inl p) (λ r. inr (ih r)) h
        go false o ih h = ⊎_elim (λ p. absurd (false≢true (sym o ∙ sym (ap f p) ∙ e))) (λ r. ih r) h

    pub those_member : (x : A) (xs : List A) → member x (those f xs) → (f x ≡ true) × member x xs
    unfolding those member if◌then◌or_else◌
    those_member x [] h = absurd h
    those_member x (y ∷ ys) h = go (f y) refl (λ r. those_member x ys r) h
      where
        go : (b : Bool) → f y ≡ b → (member x (those f ys) → (f x ≡ true) × member x ys) → member x (if b then y ∷ those f ys or_else those f ys) → (f x ≡ true) × ((x ≡ y) ⊎ member x ys)
        go true o ih h = ⊎_elim (λ p. (ap f p ∙ o, inl p)) (λ r. ((ih r).0, inr (ih r).1)) h
        go false o ih h = ((ih h).0, inr (ih h).1)

    pub once_those : (xs : List A) → once xs → once (those f xs)
    unfolding those once if◌then◌or_else◌
    once_those [] h = h
    once_those (y ∷ ys) h = go (f y) (once_those ys h.1)
      where
        go : (b : Bool) → once (those f ys) → once (if b then y ∷ those f ys or_else those f ys)
        go true ih = ((λ r. h.0 (those_member y ys r).1), ih)
        go false ih = ih

-- THE K-TH OF A LISTING
pub member_chosen : (n : Name) (ns : List Name) → member n ns → (k : ℕ) × (chosen ns k ≡ record { number = 0; name = n })
unfolding member chosen
member_chosen n [] h = absurd h
member_chosen n (m ∷ ns) h =
    ⊎_elim (λ e. (0, ap (λ (y : Name). record { number = 0; name = y }) (sym e))) (λ r. let z = member_chosen n ns r in (suc z.0, z.1)) h

pub chosen_member : (ns : List Name) (k : ℕ) → (chosen ns k).number ≡ 0 → member (chosen ns k).name ns
unfolding member chosen
chosen_member [] k e = absurd (omega arith)
chosen_member (n ∷ ns) zero e = inl refl
chosen_member (n ∷ ns) (suc k) e = inr (chosen_member ns k e)

pub chosen_once : (ns : List Name) → once ns → (j k : ℕ) → (chosen ns j).number ≡ 0 → chosen ns j ≡ chosen ns k → j ≡ k
unfolding once chosen
chosen_once [] o j k e same = absurd (omega arith)
chosen_once (n ∷ ns) o zero zero e same = refl
chosen_once (n ∷ ns) o zero (suc k) e same =
    absurd (o.0 (subst (λ y. member y ns) (ap (λ (y : Listed). y.name) (sym same)) (chosen_member ns k (ap (λ (y : Listed). y.number) (sym same)))))
chosen_once (n ∷ ns) o (suc j) zero e same =
    absurd (o.0 (subst (λ y. member y ns) (ap (λ (y : Listed). y.name) same) (chosen_member ns j e)))
chosen_once (n ∷ ns) o (suc j) (suc k) e same = ap suc (chosen_once ns o.1 j k e same)
