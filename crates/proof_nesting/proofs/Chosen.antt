-- A FLOW BY CHOICE: at every andJoin an entry is chosen, and a nesting has a flow that takes no other entry of an andJoin. Assumes nothing.
use Prim.Native.Nat.{ℕ, ◌≤◌, ◌<◌}
use mathlib.Core.Path.{◌≡◌, refl, sym, ◌∙◌, ap, subst}
use mathlib.Core.Bool.{true, false, ◌||◌, false≢true}
use mathlib.Core.List.{List, [], ◌∷◌, ◌++◌}
use mathlib.Core.Logic.{◌⊎◌, ⊎_elim}
use native.Mathlib.Omega.{arith}
use lib.Dec.{eqb}
use borrow.Author.Tests.{eqb-true}
use Rattle.base_words.specs.Each.{total}
use Rattle.base_words.specs.Sum.{hit, one_if}
use Rattle.base_words.proofs.EachLaws.{total-tab, total_one}
use Rattle.base_words.proofs.SumLaws.{sum-zero}
use Rattle.base_kinds.specs.Kinds.{inter_rcv, inter_snd, task, task_rcv, task_snd, and_join, xor_join, xor_split, event_based}
use Rattle.base_table.specs.Table.{kind_in, entry_count, exit_count, entry_at, exit_at}
use Rattle.check_nesting.specs.Nesting.{passes, starts, exits_of, entries_of, occ, Rearranged, Runs, none, stays, passing, block}
use Rattle.proof_steps.proofs.Choices.{by_test}
use Rattle.proof_nesting.proofs.Flows.{Sound, Flow, onward, beside, still, event}
use Rattle.proof_nesting.proofs.Events.{through_one, split_all, join_all, hit_same, hit_other, sum_at}
use Rattle.proof_nesting.proofs.Lines.{Plain, plain, Split, Join, Closed, closed, whole, choice, split_parts, join_parts, stands, from}

module _ (P : ℕ → List ℕ) (c : ℕ) (sound : Sound P c) (pick : ℕ → ℕ) (right : (j : ℕ) → j < c → kind_in (P j) ≡ and_join → pick j < entry_count (P j)) where
  -- takes no other entry of an andJoin
  abbrev pub Avoids : (ℕ → ℕ) → Type 0
  Avoids ins = (j : ℕ) → j < c → kind_in (P j) ≡ and_join → (i : ℕ) → i < entry_count (P j) → (i ≡ pick j → ⊥) → ins (entry_at (P j) i) ≡ 0

  abbrev pub Chosen : List ℕ → List ℕ → Type 0
  Chosen xs ys = (F : Flow P c xs ys) × Avoids F.ins

  then_on : {xs ys zs : List ℕ} → Chosen xs ys → Chosen ys zs → Chosen xs zs
  unfolding onward
  then_on p q = (onward P c p.0 q.0, λ j l is i r n. omega (arith, p.1 j l is i r n, q.1 j l is i r n))

  next_to : {ws xs ys zs : List ℕ} → Chosen ws xs → Chosen ys zs → Chosen (ws ++ ys) (xs ++ zs)
  unfolding beside
  next_to p q = (beside P c p.0 q.0, λ j l is i r n. omega (arith, p.1 j l is i r n, q.1 j l is i r n))

  nothing : (xs : List ℕ) → Chosen xs xs
  unfolding still
  nothing xs = (still P c xs, λ j l is i r n. refl)

  renamed : {ys : List ℕ} (x x' : ℕ) → x ≡ x' → Chosen (x ∷ []) ys → Chosen (x' ∷ []) ys
  unfolding from
  renamed x x' e p = (from P c sound x x' e p.0, p.1)

  -- edges of an element that is no andJoin
  apart : (k : ℕ) → k < c → (kind_in (P k) ≡ and_join → ⊥) → (es : List ℕ) → ((f : ℕ) → ((i : ℕ) → i < entry_count (P k) → entry_at (P k) i ≡ f → ⊥) → occ es f ≡ 0) → Avoids (occ es)
  apart k l n es within j jl is i r o = within (entry_at (P j) i) (λ h s e. n (ap (λ y. kind_in (P y)) (sound.one_enters k j h i l jl s r e) ∙ is))

  one_within : (k i : ℕ) → i < entry_count (P k) → (f : ℕ) → ((j : ℕ) → j < entry_count (P k) → entry_at (P k) j ≡ f → ⊥) → occ (entry_at (P k) i ∷ []) f ≡ 0
  one_within k i l f d = total_one (hit f) (entry_at (P k) i) ∙ hit_other f (entry_at (P k) i) (λ e. d i l (sym e))

  passing_one : (k i j : ℕ) → k < c → starts (P k) ≡ false → (kind_in (P k) ≡ and_join → ⊥) → (kind_in (P k) ≡ xor_join → ⊥) → ((kind_in (P k) ≡ xor_split) ⊎ (kind_in (P k) ≡ event_based) → ⊥)
      → i < entry_count (P k) → j < exit_count (P k) → Chosen (entry_at (P k) i ∷ []) (exit_at (P k) j ∷ [])
  unfolding through_one event
  passing_one k i j l inner a x s li lj = (through_one P c sound k l inner i j li lj x s, apart k l a (entry_at (P k) i ∷ []) (one_within k i li))

  -- an andJoin by the entry that is chosen
  joining : (m : ℕ) → (l : m < c) → (is : kind_in (P m) ≡ and_join) → starts (P m) ≡ false → 0 < exit_count (P m) → Chosen (entry_at (P m) (pick m) ∷ []) (exit_at (P m) 0 ∷ [])
  unfolding through_one event
  joining m l is inner out = (
    through_one P c sound m l inner (pick m) 0 (right m l is) out (λ z. omega (arith, is, z)) (λ z. ⊎_elim (λ y. omega (arith, is, y)) (λ y. omega (arith, is, y)) z),
    λ j jl js i r n.
        total_one (hit (entry_at (P j) i)) (entry_at (P m) (pick m))
        ∙ hit_other (entry_at (P j) i) (entry_at (P m) (pick m))
        (λ e. own j jl i r n e (sound.one_enters j m i (pick m) jl l r (right m l is) e)),
  )
    where
      own : (j : ℕ) → j < c → (i : ℕ) → i < entry_count (P j) → (i ≡ pick j → ⊥) → entry_at (P j) i ≡ entry_at (P m) (pick m) → j ≡ m → ⊥
      own j jl i r n e q = sound.entries_apart m i (pick m) l (subst (λ y. i < entry_count (P y)) q r) (right m l is) (λ z. n (z ∙ ap pick (sym q))) (ap (λ y. entry_at (P y) i) (sym q) ∙ e)

  split_chosen : (k : ℕ) → (l : k < c) → (kind_in (P k) ≡ xor_split) ⊎ (kind_in (P k) ≡ event_based) → Split (P k) → Chosen (entry_at (P k) 0 ∷ []) (exits_of (P k))
  unfolding split_all event
  split_chosen k l a s = (
    split_all P c sound k l s.inner 0 (omega (arith, s.entries)) a s.joins,
    apart k l (λ z. ⊎_elim (λ v. omega (arith, z, v)) (λ v. omega (arith, z, v)) a) (entry_at (P k) 0 ∷ []) (one_within k 0 (omega (arith, s.entries))),
  )

  merge_chosen : (m : ℕ) → (l : m < c) → (es : List ℕ) → Rearranged es (entries_of (P m)) → kind_in (P m) ≡ xor_join → Join (P m) → Chosen es (exit_at (P m) 0 ∷ [])
  unfolding join_all event
  merge_chosen m l es same b j = (
    join_all P c sound m l j.inner es 0 (omega (arith, j.exits)) b same,
    apart m l (λ z. omega (arith, z, b)) es
        (λ f d. same f ∙ total-tab (hit f) (entry_at (P m)) (entry_count (P m)) ∙ sum-zero (λ i. hit f (entry_at (P m) i)) (entry_count (P m)) (λ i r. hit_other f (entry_at (P m) i) (λ e. d i r (sym e)))),
  )

  -- SEVERAL, AND ONE OF THEM
  abbrev pub Several : List ℕ → List ℕ → Type 0
  Several [] [] = Unit
  Several [] (y ∷ ys) = ⊥
  Several (x ∷ xs) [] = ⊥
  Several (x ∷ xs) (y ∷ ys) = Chosen (x ∷ []) (y ∷ []) × Several xs ys

  all_of : (xs ys : List ℕ) → Several xs ys → Chosen xs ys
  all_of [] [] u = nothing []
  all_of [] (y ∷ ys) u = absurd u
  all_of (x ∷ xs) [] u = absurd u
  all_of (x ∷ xs) (y ∷ ys) u = next_to u.0 (all_of xs ys u.1)

  one_to : (xs ys : List ℕ) → Several xs ys → (y : ℕ) → 1 ≤ occ ys y → (x : ℕ) × (1 ≤ occ xs x) × Chosen (x ∷ []) (y ∷ [])
  unfolding total
  one_to [] [] u y h = absurd (omega arith)
  one_to [] (y₁ ∷ ys) u y h = absurd u
  one_to (x₁ ∷ xs) [] u y h = absurd u
  one_to (x₁ ∷ xs) (y₁ ∷ ys) u y h =
      by_test (eqb y y₁)
      (λ e. (x₁, (let z = hit_same x₁ x₁ refl in omega arith), subst (λ v. Chosen (x₁ ∷ []) (v ∷ [])) (sym (eqb-true y y₁ e)) u.0))
      (λ e. let r = one_to xs ys u.1 y (let z : hit y y₁ ≡ 0 = ap one_if e in omega arith) in (r.0, (let w = r.1 in omega arith), r.2))

  -- A BLOCK
  module _ (k m : ℕ) (kc : k < c) (mc : m < c) (es : List ℕ) (same : Rearranged es (entries_of (P m))) (u : Several (exits_of (P k)) es) where
    through : Closed (P k) (P m) → Chosen (entry_at (P k) 0 ∷ []) (exit_at (P m) 0 ∷ [])
    through (whole a b) =
        let s : Split (P k) = split_parts (P k) (P m) (whole a b) in
        let j : Join (P m) = join_parts (P k) (P m) (whole a b) in
        let y : ℕ = entry_at (P m) (pick m) in
        let h : 1 ≤ occ es y = omega (arith, same y, total-tab (hit y) (entry_at (P m)) (entry_count (P m)), sum_at (λ i. hit y (entry_at (P m) i)) (entry_count (P m)) (pick m) (right m mc b), hit_same y y refl) in
        let r = one_to (exits_of (P k)) es u y h in
        let x = stands (exit_at (P k)) (exit_count (P k)) r.0 r.1 in
        then_on
        (passing_one k 0 x.0 kc s.inner (λ z. omega (arith, a, z)) s.joins (λ z. ⊎_elim (λ v. omega (arith, a, v)) (λ v. omega (arith, a, v)) z) (omega (arith, s.entries)) x.1)
        (then_on (renamed r.0 (exit_at (P k) x.0) x.2 r.2) (joining m mc b j.inner (omega (arith, j.exits))))
    through (choice a b) =
        then_on (split_chosen k kc a (split_parts (P k) (P m) (choice a b)))
        (then_on (all_of (exits_of (P k)) es u) (merge_chosen m mc es same b (join_parts (P k) (P m) (choice a b))))

  -- an element that is passed is no andJoin
  plain_kind : (el : List ℕ) → passes el ≡ true → kind_in el ≡ and_join → ⊥
  unfolding passes
  plain_kind el h e = false≢true (sym (ap (λ k. eqb k inter_rcv || (eqb k inter_snd || (eqb k task || (eqb k task_rcv || eqb k task_snd)))) e) ∙ h)

  -- THE WHOLE NESTING
  pub chosen : {xs ys ks : List ℕ} → Runs P c xs ys ks → Several xs ys
  chosen none = record {}
  chosen (stays {a = a} r) = (nothing (a ∷ []), chosen r)
  chosen (passing {a = a} k l p e r) =
      let s = chosen r in
      let q : Plain (P k) = plain (P k) p in
      (then_on (renamed (entry_at (P k) 0) a e (passing_one k 0 0 l q.inner (plain_kind (P k) p) q.joins q.splits (omega (arith, q.entries)) (omega (arith, q.exits)))) s.0, s.1)
  chosen (block {a = a} {es = es} k m kc mc cl e inner same r) =
      let s = chosen r in
      (then_on (renamed (entry_at (P k) 0) a e (through k m kc mc es same (chosen inner) (closed (P k) (P m) cl))) s.0, s.1)
