-- Counts that differ at one place, and lists that do. Assumes nothing.
use Prim.Native.Nat.{ℕ, zero, suc, ◌+◌, ◌≤◌, ◌<◌}
use mathlib.Core.Path.{◌≡◌, refl, sym, ◌∙◌, ap, subst}
use mathlib.Core.Bool.{Bool, true, false, not}
use mathlib.Core.List.{List, []}
use mathlib.Core.Logic.{⊎_elim}
use native.Mathlib.Nat.{not-suc-le-zero, le_of_suc-le-suc, eq-or-lt_of_le}
use native.Mathlib.Omega.{arith}
use lib.ListN.{length, get_or, set, length-set}
use lib.Seq.{ext_get_or, get_or-set_same, get_or-set_other}
use Rattle.base_words.specs.Each.{tab}
use Rattle.base_words.specs.Sum.{sum}
use Rattle.base_words.proofs.ListLaws.{length-tab, get_d_tab}
use Rattle.base_words.proofs.SumLaws.{sum_ext}
use Rattle.step_queues.proofs.SlotLaws.{by_order}

-- a sum is no less than each of its terms
pub sum_at : (f : ℕ → ℕ) (i n : ℕ) → i < n → f i ≤ sum f n
unfolding sum
sum_at f i zero l = absurd (not-suc-le-zero l)
sum_at f i (suc n) l =
    ⊎_elim (λ e. let b : f n ≡ f i = ap f (sym e) in omega arith) (λ h. omega (arith, sum_at f i n h)) (eq-or-lt_of_le (le_of_suc-le-suc l))

-- two sums that differ at i alone
pub sum_but_one : (f g : ℕ → ℕ) (i n : ℕ) → i < n → ((k : ℕ) → k < n → (k ≡ i → ⊥) → f k ≡ g k) → sum f n + g i ≡ sum g n + f i
unfolding sum
sum_but_one f g i zero l same = absurd (not-suc-le-zero l)
sum_but_one f g i (suc n) l same =
    ⊎_elim
    (λ e.
    let a : sum f n ≡ sum g n = sum_ext f g n (λ k h. same k (omega arith) (λ d. omega arith)) in
    let b : f n ≡ f i = ap f (sym e) in
    let c : g n ≡ g i = ap g (sym e) in
    omega arith)
    (λ h. omega (arith, sum_but_one f g i n h (λ k o d. same k (omega arith) d), same n (omega arith) (λ e. omega arith)))
    (eq-or-lt_of_le (le_of_suc-le-suc l))

-- a list of values of which one is stored anew
pub tab_but_one : {A : Type 0} (f g : ℕ → A) (n i : ℕ) (x : A) → i < n → x ≡ g i → ((k : ℕ) → k < n → (k ≡ i → ⊥) → f k ≡ g k) → set (tab f n) i x ≡ tab g n
tab_but_one f g n i x l e same =
    ext_get_or x (set (tab f n) i x) (tab g n) (long ∙ sym (length-tab g n))
    (λ k h. let r : k < n = subst (λ m. k < m) long h in by_order k i (λ o. elsewhere k r (λ d. omega arith)) (λ d. subst (λ j. get_or (set (tab f n) i x) j x ≡ get_or (tab g n) j x) d here) (λ o. elsewhere k r (λ d. omega arith)))
  where
    long : length (set (tab f n) i x) ≡ n
    long = length-set (tab f n) i x ∙ length-tab f n

    here : get_or (set (tab f n) i x) i x ≡ get_or (tab g n) i x
    here = get_or-set_same (tab f n) i x x (subst (λ m. i < m) (sym (length-tab f n)) l) ∙ e ∙ sym (get_d_tab g n i x l)

    elsewhere : (k : ℕ) → k < n → (k ≡ i → ⊥) → get_or (set (tab f n) i x) k x ≡ get_or (tab g n) k x
    elsewhere k r d = get_or-set_other (tab f n) i k x x d ∙ get_d_tab f n k x r ∙ same k r d ∙ sym (get_d_tab g n k x r)
