-- AN ACCEPTED STEP alters only the record of its own pool, and there only by 'made and unfinished one more' or 'unfinished one less, finished one more'; so the code, which looks at its own instance
-- alone, leaves what a count over the state gives. Assumes nothing.
use Prim.Native.Nat.{ℕ, ◌+◌, ◌-◌, ◌≤◌, ◌<◌}
use mathlib.Core.Path.{◌≡◌, refl, sym, ◌∙◌, ap, subst}
use mathlib.Core.Bool.{Bool, true, false, not, false≢true}
use mathlib.Core.List.{List, [], ◌∷◌}
use mathlib.Core.Logic.{inl, inr}
use native.Mathlib.Nat.{add-zero}
use native.Mathlib.Omega.{arith}
use lib.Dec.{eqb}
use lib.ListN.{length, get_or}
use lib.Seq.{get_or-drop}
use borrow.Author.Tests.{eqb-true, eqb-false, eq-eqb}
use Rattle.base_words.specs.Each.{tab}
use Rattle.base_words.specs.Pick.{if◌then◌or_else◌}
use Rattle.base_words.specs.Sum.{sum, one_if}
use Rattle.base_words.specs.Words.{at}
use Rattle.base_words.specs.Counts.{pools, instances}
use Rattle.base_words.proofs.ListLaws.{get_d_tab}
use Rattle.base_words.proofs.SumLaws.{sum_ext, sum_more}
use Rattle.base_kinds.specs.Kinds.{start_rcv}
use Rattle.base_kinds.specs.Moves.{making}
use Rattle.base_table.specs.Table.{pool_count, kind_in}
use Rattle.base_state.specs.Places.{defined_place, instance_words, instance_place, shared_place, instances_words}
use Rattle.base_state.specs.Instances.{made_count, instance_at}
use Rattle.check_limits.specs.Limits.{zeros, table_fits}
use Rattle.check_limits.proofs.SameLaws.{zeros_same}
use Rattle.meaning.specs.declared.Name.{Name}
use Rattle.meaning.specs.Changes.{more}
use Rattle.meaning.specs.Refusals.{first_refusal}
use Rattle.meaning.specs.Step.{Site, site_of, pool_named, element_named, move_named, instance_after, made_after, instances_after, refusals}
use Rattle.state_fits.specs.Fits.{state_fits}
use Rattle.state_figures.specs.Figures.{is_finished, unfinished, finished, record_of, counted, record_at, record_after, updated}
use Rattle.state_figures.proofs.CountLaws.{made_all}
use Rattle.step_queues.proofs.SlotLaws.{by_order}
use Rattle.proof_steps.proofs.Choices.{by_test, by_choice, chosen, passed}
use Rattle.proof_steps.proofs.Elements.{limit_few, pools_few}
use Rattle.proof_steps.proofs.Found.{Found}
use Rattle.proof_steps.proofs.InstanceBefore.{pool_few}
use Rattle.proof_steps.proofs.MadeAfter.{StartsOnce, Makes, makes_none, makes_one_lem, more_one}
use Rattle.proof_steps.proofs.OnlyOwn.{only_own, own_words, own_made}
use Rattle.proof_steps.proofs.PoolFits.{pool_parts, made_few}
use Rattle.proof_steps.proofs.Traffic.{state_instances, here, site}
use Rattle.proof_figures.specs.Changes.{one_made, one_finished, leaves_nothing, changed}
use Rattle.proof_figures.proofs.CountLaws.{sum_at, sum_but_one, tab_but_one}
use Rattle.proof_figures.proofs.Leaves.{unfinished_before, made_unfinished, makes_by}

record_is : (s : List ℕ) (p a b c : ℕ) → made_count s p ≡ a → unfinished s p ≡ b → finished s p ≡ c → record_of s p ≡ a ∷ b ∷ c ∷ []
unfolding record_of
record_is s p a b c d e f = rw (d, e, f)

module _ (t s q : List ℕ) (n : Name) (fits : table_fits t ≡ true) (once : StartsOnce t) (long : length s ≡ instances_words) (state : state_fits t s q ≡ true) (accepted : first_refusal (refusals t s q n) ≡ 0) where
  abbrev x : Site
  x = site_of t s n

  abbrev p : ℕ
  p = pool_named t n

  abbrev i : ℕ
  i = n.instance

  abbrev r : List ℕ
  r = instances_after t s n

  abbrev makes_one : Bool
  makes_one = eqb (move_named t n).also making

  f : Found t s n
  f = here t s q n fits accepted

  few : p < pools
  few = pool_few t s q n fits state accepted

  made_before : (o : ℕ) → o < pools → made_count s o ≤ instances
  made_before o l = made_few t fits o (made_count s o) (pool_parts t s o (state_instances t s q state o l)).made

  makes : Makes t p i (made_count s p) (made_after x)
  makes =
      by_test makes_one (λ e. makes_one_lem t s n f e once (limit_few t fits p f.pool) (site t s q n fits accepted).limited)
      (λ e. makes_none t s n f e (pool_parts t s p (state_instances t s q state p few)).made)

  made_is : made_count r p ≡ made_after x
  made_is = own_made t s n (omega (arith, few))

  named : i < instances
  named = omega (arith, made_few t fits p (made_after x) makes.fits, makes.named)

  -- HOW MANY ARE MADE
  made_kept : makes_one ≡ false → made_count r p ≡ made_count s p
  unfolding made_after site_of
  made_kept o = made_is ∙ passed makes_one (more (made_count s p)) (made_count s p) o

  made_more : makes_one ≡ true → made_count r p ≡ made_count s p + 1
  unfolding made_after site_of
  made_more o =
      made_is ∙ chosen makes_one (more (made_count s p)) (made_count s p) o ∙ more_one (made_count s p) (omega (arith, made_before p few))

  -- a made one that is new is the one named
  next_named : makes_one ≡ true → i ≡ made_count s p
  next_named o =
      let a : made_count s p < made_after x = omega (arith, made_is, made_more o) in
      by_test (eqb (made_count s p) i) (λ e. sym (eqb-true (made_count s p) i e)) (λ e. absurd (omega (arith, makes.others (made_count s p) a (eqb-false (made_count s p) i e))))

  -- ANOTHER INSTANCE is as it was
  word_kept : (o j : ℕ) → o < pools → j < instances → (o ≡ p → j ≡ i → ⊥) → (k : ℕ) → k < defined_place 0 → at r (instance_place o j + k) ≡ at s (instance_place o j + k)
  word_kept o j l h d k b =
      by_order o p (λ a. only_own t s n (instance_place o j + k) (omega arith) (inl (omega (arith, few))) (λ e. omega (arith, few)))
      (λ e.
      by_order j i (λ a. only_own t s n (instance_place o j + k) (omega arith) (inl (omega (arith, e))) (λ z. omega (arith, few)))
      (λ z. absurd (d (sym e) (sym z)))
      (λ a. only_own t s n (instance_place o j + k) (omega arith) (inr (omega (arith, e))) (λ z. omega (arith, few))))
      (λ a. only_own t s n (instance_place o j + k) (omega arith) (inr (omega (arith, named))) (λ e. omega (arith, few)))

  same_finished : (o j : ℕ) → o < pools → j < instances → (o ≡ p → j ≡ i → ⊥) → is_finished (instance_at r o j) ≡ is_finished (instance_at s o j)
  unfolding is_finished
  same_finished o j l h d =
      zeros_same (instance_at s o j) (instance_at r o j) (defined_place 0)
      (λ k b. get_or-drop (instance_place o j) r k 0 ∙ word_kept o j l h d k b ∙ sym (get_or-drop (instance_place o j) s k 0))

  -- and its own is the one that the step leaves
  own_finished : is_finished (instance_at r p i) ≡ is_finished (instance_after x)
  unfolding is_finished
  own_finished =
      zeros_same (instance_after x) (instance_at r p i) (defined_place 0)
      (λ k b. get_or-drop (instance_place p i) r k 0 ∙ own_words t s n (omega (arith, few)) (omega (arith, few, named)) (omega (arith, long)) k (omega arith))

  -- ANOTHER POOL'S RECORD
  module _ (o : ℕ) (l : o < pools) (d : o ≡ p → ⊥) where
    other_made : made_count r o ≡ made_count s o
    other_made = only_own t s n o (omega arith) (inl (omega arith)) d

    other_done : finished r o ≡ finished s o
    unfolding finished
    other_done =
        ap (sum (λ j. one_if (is_finished (instance_at r o j)))) other_made
        ∙ sum_ext (λ j. one_if (is_finished (instance_at r o j))) (λ j. one_if (is_finished (instance_at s o j))) (made_count s o)
        (λ j h. ap one_if (same_finished o j l (omega (arith, made_before o l)) (λ e z. d e)))

    pub other_records : record_of r o ≡ record_of s o
    other_records =
        record_is r o (made_count s o) (unfinished s o) (finished s o) other_made (omega (arith, made_all r o, made_all s o, other_made, other_done)) other_done
        ∙ sym (record_is s o (made_count s o) (unfinished s o) (finished s o) refl refl refl)

  -- ITS OWN: one finished more just where the step leaves nothing
  abbrev is : ℕ → ℕ
  is j = one_if (is_finished (instance_at r p j))

  abbrev was : ℕ → ℕ
  was j = one_if (is_finished (instance_at s p j))

  others_same : (j : ℕ) → j < instances → (j ≡ i → ⊥) → is j ≡ was j
  others_same j h d = ap one_if (same_finished p j few h (λ e. d))

  own_kept : makes_one ≡ false → finished r p ≡ finished s p + is i
  unfolding finished
  own_kept o =
      let b : i < made_count s p = omega (arith, made_is, made_kept o, makes.named) in
      let c : was i ≡ 0 = ap one_if (unfinished_before t s q n fits accepted o) in
      let e = sum_but_one is was i (made_count s p) b (λ k h d. others_same k (omega (arith, made_before p few)) d) in
      ap (sum is) (made_kept o) ∙ omega (arith, c, e)

  own_more : makes_one ≡ true → finished r p ≡ finished s p + is i
  unfolding finished
  own_more o =
      let a = next_named o in
      let e = sum_ext is was (made_count s p) (λ k h. others_same k (omega (arith, made_before p few)) (λ z. omega (arith, a))) in
      ap (sum is) (made_more o) ∙ sym (sum_more is (made_count s p) (sum is (made_count s p)) (is (made_count s p)) refl refl) ∙ omega (arith, e, ap is a)

  own_done : finished r p ≡ finished s p + is i
  own_done = by_test makes_one own_more own_kept

  -- one that is made is not finished
  made_going : makes_one ≡ true → is_finished (instance_at r p i) ≡ false
  made_going o = own_finished ∙ made_unfinished t s q n fits accepted (eqb-true (move_named t n).also making o) state

  own_left : unfinished r p + finished s p + is i ≡ made_count r p
  own_left = omega (arith, made_all r p, own_done)

  record_before : record_of s p ≡ made_count s p ∷ unfinished s p ∷ finished s p ∷ []
  record_before = record_is s p (made_count s p) (unfinished s p) (finished s p) refl refl refl

  -- THE RECORD OF ITS POOL
  pub own_record : record_of r p ≡ changed t s n (record_of s p)
  unfolding changed leaves_nothing
  own_record =
      by_choice (λ (w : List ℕ). record_of r p ≡ w) (eqb (kind_in (element_named t n)) start_rcv) (one_made (record_of s p)) _
      (λ e.
      let o : makes_one ≡ true = makes_by t s q n fits accepted ∙ e in
      let z : is i ≡ 0 = ap one_if (made_going o) in
      rw record_before (record_is r p _ _ _ (made_more o) (omega (arith, own_left, made_more o, made_all s p, z)) (omega (arith, own_done, z))))
      (λ e.
      let o : makes_one ≡ false = makes_by t s q n fits accepted ∙ e in
      by_choice (λ (w : List ℕ). record_of r p ≡ w) (is_finished (instance_at r p i)) (one_finished (record_of s p)) (record_of s p)
      (λ d.
      let z : is i ≡ 1 = ap one_if d in
      rw record_before (record_is r p _ _ _ (made_kept o) (omega (arith, own_left, made_kept o, made_all s p, z)) (omega (arith, own_done, z))))
      (λ d.
      let z : is i ≡ 0 = ap one_if d in
      rw record_before (record_is r p _ _ _ (made_kept o) (omega (arith, own_left, made_kept o, made_all s p, z)) (omega (arith, own_done, z)))))

  -- a step that makes none had an unfinished one
  pub one_unfinished : eqb (kind_in (element_named t n)) start_rcv ≡ false → 0 < unfinished s p
  unfolding unfinished
  one_unfinished e =
      let o : makes_one ≡ false = makes_by t s q n fits accepted ∙ e in
      let c : one_if (not (is_finished (instance_at s p i))) ≡ 1 = ap (λ b. one_if (not b)) (unfinished_before t s q n fits accepted o) in
      omega (arith, c, sum_at (λ j. one_if (not (is_finished (instance_at s p j)))) i (made_count s p) (omega (arith, made_is, made_kept o, makes.named)))

  -- WHAT THE CODE MAKES OF IT
  after_is : record_after (record_of s p) (made_count r p) (is_finished (instance_at r p i)) ≡ record_of r p
  unfolding record_after
  after_is =
      by_choice (λ (w : List ℕ). w ≡ record_of r p) (is_finished (instance_at r p i)) _ _
      (λ d.
      let z : is i ≡ 1 = ap one_if d in
      let o : makes_one ≡ false = by_test makes_one (λ e. absurd (false≢true (sym (made_going e) ∙ d))) (λ e. e) in
      rw record_before (sym (record_is r p _ _ _ refl (omega (arith, own_left, made_kept o, made_all s p, z)) (omega (arith, own_left, own_done, made_kept o, made_all s p, z)))))
      (λ d.
      let z : is i ≡ 0 = ap one_if d in
      rw record_before (sym (record_is r p _ _ _ refl (omega (arith, own_left, z)) (omega (arith, own_done, z)))))

  pub updated_is : updated (counted t s) r p i ≡ counted t r
  unfolding updated counted
  updated_is =
      tab_but_one (record_of s) (record_of r) (pool_count t) p _ f.pool
      (ap (λ (w : List ℕ). record_after w (made_count r p) (is_finished (instance_at r p i))) (get_d_tab (record_of s) (pool_count t) p [] f.pool) ∙ after_is)
      (λ o l d. sym (other_records o (omega (arith, pools_few t fits)) d))
