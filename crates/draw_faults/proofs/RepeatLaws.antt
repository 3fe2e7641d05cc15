-- Ids put in order, and what follows of those that are new there. Assumes nothing.
use Rattle.std.proofs.lemmas.Option.{none-some, same_Some, some_pair_parts}
use Rattle.std.specs.Prelude.{Option, Some, None}
use Prim.Native.Nat.{ℕ, ◌+◌, ◌≤◌, ◌<◌}
use mathlib.Core.Path.{◌≡◌, refl, sym, ◌∙◌, ap, ap₂, subst}
use mathlib.Core.Bool.{Bool, true, false, ◌&&◌, false≢true}
use mathlib.Core.List.{List, [], ◌∷◌}
use mathlib.Core.Logic.{⊎_elim}
use native.Mathlib.Nat.{eq-or-lt_of_le}
use native.Mathlib.Omega.{arith}
use lib.Dec.{eqb}
use lib.ListN.{length}
use borrow.Author.Tests.{eqb-true, le-ltb}
use Rattle.base_words.specs.Seek.{seek}
use Rattle.base_words.specs.Text.{bytes}
use Rattle.base_words.specs.Words.{part}
use Rattle.base_words.proofs.AllLaws.{and_left, and_right}
use Rattle.base_words.proofs.SeekLaws.{sought}
use Rattle.base_bytes.proofs.PieceLaws.{by_order}
use Rattle.base_bytes.specs.Bytes.{same_bytes}
use Rattle.xml_markup.specs.Ahead.{key_of, key_at, Rising, Kept, More, With}
use Rattle.xml_markup.specs.Spans.{attribute}
use Rattle.draw_things.specs.Things.{place}
use Rattle.draw_links.specs.Links.{if_is, has_id}
use Rattle.draw_faults.specs.Amiss.{is_read, is_taken, is_repeated}
use Rattle.draw_faults.specs.Once.{IdIs, Shelved}

same_true : (a b : List ℕ) → same_bytes a b ≡ true → a ≡ b
unfolding same_bytes
same_true [] [] e = refl
same_true [] (y ∷ b) e = absurd (false≢true e)
same_true (x ∷ a) [] e = absurd (false≢true e)
same_true (x ∷ a) (y ∷ b) e = ap₂ ◌∷◌ (eqb-true x y (and_left (eqb x y) (same_bytes a b) e)) (same_true a b (and_right (eqb x y) (same_bytes a b) e))

pub not_taken : {P : Type 0} (q : ℕ) → None ≡ Some q → P
not_taken q e = absurd (none-some q e)

module _ (t w : List ℕ) where
  id_unread : {P : Type 0} (k : ℕ) (u : List ℕ) → is_read w k ≡ false → IdIs t w k u → P
  id_unread k u n (from, to, r, q, e) = absurd (false≢true (sym n ∙ r))

  id_absent : {P : Type 0} (k : ℕ) (u : List ℕ) → attribute t (place w k) (bytes "id") ≡ None → IdIs t w k u → P
  id_absent k u n (from, to, r, q, e) = absurd (none-some _ (sym n ∙ q))

  id_there : (k from to : ℕ) (u : List ℕ) → attribute t (place w k) (bytes "id") ≡ Some (from, to) → IdIs t w k u → part t from to ≡ u
  id_there k from to u a (from', to', r, q, e) = let h = some_pair_parts _ _ _ _ (sym a ∙ q) in ap₂ (part t) h.0 h.1 ∙ e

  id_of : (v : List ℕ) (y : ℕ) → is_read w y && has_id t v w y ≡ true → IdIs t w y v
  unfolding has_id
  id_of v y h = go (attribute t (place w y) (bytes "id")) refl (and_right (is_read w y) _ h)
    where
      r : is_read w y ≡ true
      r = and_left (is_read w y) _ h

      go : (a : Option (ℕ × ℕ)) → attribute t (place w y) (bytes "id") ≡ a → if_is a (λ from to. same_bytes (part t from to) v) false ≡ true → IdIs t w y v
      go (Some (from, to)) q e = (from, to, r, q, same_true (part t from to) v (unfold if_is in e))
      go None q e = absurd (false≢true (unfold if_is in e))

  -- a thing whose id none before it has is not repeated
  not_repeated : (k : ℕ) → ((y : ℕ) → y < k → (u : List ℕ) → IdIs t w k u → IdIs t w y u → ⊥) → is_repeated t w k ≡ false
  unfolding is_repeated
  not_repeated k none = go (is_read w k) refl (attribute t (place w k) (bytes "id")) refl
    where
      nowhere : (v : List ℕ) → IdIs t w k v → k ≤ seek (λ j. is_read w j && has_id t v w j) k
      nowhere v i =
          by_order k (seek (λ j. is_read w j && has_id t v w j) k)
          (λ h. h)
          (λ l. absurd (none (seek (λ j. is_read w j && has_id t v w j) k) l v i (id_of v (seek (λ j. is_read w j && has_id t v w j) k) ((sought (λ j. is_read w j && has_id t v w j) k).1 l))))

      go : (b : Bool) → is_read w k ≡ b → (a : Option (ℕ × ℕ)) → attribute t (place w k) (bytes "id") ≡ a → b && if_is a (λ from to. is_taken t (part t from to) w k) false ≡ false
      go false r a q = refl
      go true r None q = unfold if_is in refl
      go true r (Some (from, to)) q = unfold if_is is_taken in le-ltb _ k (nowhere (part t from to) (from, to, r, q, refl))

-- ONE ID MORE
module _ (t w v : List ℕ) (k m q : ℕ) (up : Rising (key_at t) v m) where
  stays_so : m ≤ length v → Some m ≡ Some q → ((u : List ℕ) → IdIs t w k u → ⊥) → More (key_at t) v m v q × ((u : List ℕ) → IdIs t w k u → With (key_at t) (key_of u) v m v q)
  stays_so h e n = rw (sym (same_Some _ _ e)) (record { rising = up; fits = h; kept = λ x y. y }, λ u i. absurd (n u i))

  pub shelf_unread : is_read w k ≡ false → m ≤ length v → Some m ≡ Some q → More (key_at t) v m v q × ((u : List ℕ) → IdIs t w k u → With (key_at t) (key_of u) v m v q)
  shelf_unread n h e = stays_so h e (λ u i. id_unread t w k u n i)

  pub shelf_absent : (a : Option (ℕ × ℕ)) → a ≡ attribute t (place w k) (bytes "id") → a ≡ None → m ≤ length v → Some m ≡ Some q → More (key_at t) v m v q × ((u : List ℕ) → IdIs t w k u → With (key_at t) (key_of u) v m v q)
  shelf_absent a ea n h e = stays_so h e (λ u i. id_absent t w k u (sym ea ∙ n) i)

  pub shelf_more : (a : Option (ℕ × ℕ)) (from to : ℕ) (x : List ℕ) → a ≡ attribute t (place w k) (bytes "id") → a ≡ Some (from, to)
      → More (key_at t) v m x (m + 1) × With (key_at t) (key_of (part t from to)) v m x (m + 1) → Some (m + 1) ≡ Some q
      → More (key_at t) v m x q × ((u : List ℕ) → IdIs t w k u → With (key_at t) (key_of u) v m x q)
  shelf_more a from to x ea is (more, one) e =
      rw (sym (same_Some _ _ e)) (more, λ u i. subst (λ (z : List ℕ). With (key_at t) (key_of z) v m x (m + 1)) (id_there t w k from to u (sym ea ∙ is) i) one)

-- what is not kept
module _ (t w v : List ℕ) (y m : ℕ) where
  pub kept_unread : is_read w y ≡ false → (u : List ℕ) → IdIs t w y u → Kept (key_at t) v m (key_of u) → ⊥
  kept_unread n u i k = id_unread t w y u n i

  pub kept_absent : (a : Option (ℕ × ℕ)) → a ≡ attribute t (place w y) (bytes "id") → a ≡ None → (u : List ℕ) → IdIs t w y u → Kept (key_at t) v m (key_of u) → ⊥
  kept_absent a ea n u i k = id_absent t w y u (sym ea ∙ n) i

  pub kept_not : (a : Option (ℕ × ℕ)) (from to : ℕ) (s : List ℕ) → a ≡ attribute t (place w y) (bytes "id") → a ≡ Some (from, to) → s ≡ part t from to
      → (Kept (key_at t) v m (key_of s) → ⊥) → (u : List ℕ) → IdIs t w y u → Kept (key_at t) v m (key_of u) → ⊥
  kept_not a from to s ea is es n u i k = n (subst (λ (z : List ℕ). Kept (key_at t) v m (key_of z)) (sym (es ∙ id_there t w y from to u (sym ea ∙ is) i)) k)

-- MANY IDS
module _ (t w : List ℕ) (b : ℕ) where
  pub shelved_none : (v : List ℕ) → Shelved t w b b v 0
  shelved_none v = record { rising = λ x y h l. absurd (omega (arith, l)); kept = λ x h l u i. absurd (omega (arith, h, l)); apart = λ x y h l r u i j. absurd (omega (arith, h, l, r)) }

  pub shelved_more : (k : ℕ) (v : List ℕ) (m : ℕ) (x : List ℕ) (q : ℕ) → Shelved t w b k v m
      → More (key_at t) v m x q × ((u : List ℕ) → IdIs t w k u → With (key_at t) (key_of u) v m x q) → Shelved t w b (k + 1) x q
  shelved_more k v m x q s (more, one) =
      record {
        rising = more.rising;
        kept = λ y h l u i. ⊎_elim (λ e. (one u (subst (λ (z : ℕ). IdIs t w z u) e i)).is) (λ r. more.kept (key_of u) (s.kept y h r u i)) (eq-or-lt_of_le (let z : y ≤ k = omega (arith, l) in z));
        apart = λ y z h l r u i j. ⊎_elim (λ e. (one u (subst (λ (o : ℕ). IdIs t w o u) e i)).was (s.kept z h (omega (arith, l, e)) u j)) (λ p. s.apart y z h l p u i j) (eq-or-lt_of_le (let o : y ≤ k = omega (arith, r) in o));
      }

  pub shelved_new : (e k : ℕ) (v : List ℕ) (m : ℕ) → e ≤ k → Shelved t w b k v m → ((y : ℕ) → y < b → (u : List ℕ) → IdIs t w y u → Kept (key_at t) v m (key_of u) → ⊥)
      → (x : ℕ) → b ≤ x → x < e → is_repeated t w x ≡ false
  shelved_new e k v m done s none x h l =
      not_repeated t w x
      (λ y r u i j. by_order b y (λ p. s.apart x y p r (omega (arith, done, l)) u i j) (λ p. none y p u j (s.kept x h (omega (arith, done, l)) u i)))

-- THE FIRST that is so, where none is up to b
module _ (f : ℕ → Bool) (b : ℕ) (none : (k : ℕ) → k < b → f k ≡ false) where
  pub none_below : seek f b ≡ b
  none_below =
      let s = sought f b in
      by_order b (seek f b) (λ h. omega (arith, h, s.0)) (λ l. absurd (false≢true (sym (none (seek f b) l) ∙ s.1 l)))

  pub none_further : (e : ℕ) → ((k : ℕ) → b ≤ k → k < e → f k ≡ false) → (k : ℕ) → k < e → f k ≡ false
  none_further e more k l = by_order b k (λ h. more k h l) (λ h. none k h)

  pub none_here : f b ≡ false → (k : ℕ) → k < b + 1 → f k ≡ false
  none_here e k l = ⊎_elim (λ q. ap f q ∙ e) (λ h. none k h) (eq-or-lt_of_le (let z : k ≤ b = omega (arith, l) in z))

-- none of those before is kept, one by one
pub none_kept_on : (t w v : List ℕ) (m y : ℕ) → ((x : ℕ) → x < y → (u : List ℕ) → IdIs t w x u → Kept (key_at t) v m (key_of u) → ⊥) → ((u : List ℕ) → IdIs t w y u → Kept (key_at t) v m (key_of u) → ⊥)
    → (x : ℕ) → x < y + 1 → (u : List ℕ) → IdIs t w x u → Kept (key_at t) v m (key_of u) → ⊥
none_kept_on t w v m y before here x h u i k =
    ⊎_elim (λ e. here u (subst (λ (z : ℕ). IdIs t w z u) e i) k) (λ l. before x l u i k) (eq-or-lt_of_le (let z : x ≤ y = omega (arith, h) in z))
