-- Rows of a list. Assumes nothing.
use mathlib.Core.Path.{◌≡◌, refl, ◌∙◌, ap}
use mathlib.Core.Bool.{Bool, true}
use mathlib.Core.List.{List, [], ◌∷◌, map}
use mathlib.Core.Logic.{⊎_elim}
use Prim.Native.Nat.{ℕ, zero, suc, ◌<◌}
use native.Mathlib.Nat.{not-suc-le-zero, le_of_suc-le-suc, eq-or-lt_of_le}
use native.Mathlib.Omega.{arith}
use lib.ListN.{length, get_or, length-map, length-append, get_or-map, get_or-append}
use lib.Seq.{get_or_at}
use Rattle.std.proofs.lemmas.List.{get_or_default}
use Rattle.base_words.specs.Each.{each, tab}
use Rattle.base_words.proofs.AllLaws.{and_left, and_right}

-- A row of a list that is kept in another form: `to` gives it, `back` reads it.
pub kept : {A B : Type 0} (to : A → B) (back : B → A) → ((x : A) → back (to x) ≡ x) → (l : List A) (i : ℕ) (d : B) (e : A) → i < length l → back (get_or (map to l) i d) ≡ get_or l i e
kept to back same l i d e h =
    ap back (get_or_default (map to l) i d (to e) (rw length-map h)) ∙ ap back (get_or-map to l i e) ∙ same (get_or l i e)

-- a test that passes at every row, and outside
pub each_at : {A : Type 0} (f : A → Bool) (l : List A) (d : A) → each f l ≡ true → f d ≡ true → (i : ℕ) → f (get_or l i d) ≡ true
unfolding each
each_at f [] d p q i = q
each_at f (x ∷ xs) d p q zero = and_left (f x) (each f xs) p
each_at f (x ∷ xs) d p q (suc i) = each_at f xs d (and_right (f x) (each f xs) p) q i

-- a list of a function's values
pub length-tab : {A : Type 0} (f : ℕ → A) (n : ℕ) → length (tab f n) ≡ n
unfolding tab
length-tab f zero = refl
length-tab f (suc n) = simp length-append (omega (arith, length-tab f n))

pub get_d_tab : {A : Type 0} (f : ℕ → A) (n i : ℕ) (d : A) → i < n → get_or (tab f n) i d ≡ f i
unfolding tab
get_d_tab f zero i d h = absurd (not-suc-le-zero h)
get_d_tab f (suc n) i d h =
    ⊎_elim (λ q. rw q (get_or_at (tab f n) (f n) [] d n (length-tab f n)))
    (λ lt. get_or-append (tab f n) (f n ∷ []) d i (rw length-tab lt) ∙ get_d_tab f n i d lt)
    (eq-or-lt_of_le (le_of_suc-le-suc h))
