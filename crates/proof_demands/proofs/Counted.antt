-- Records that are what a count gives agree, and of records of three words each only those do. Assumes nothing.
use Prim.Native.Nat.{ℕ, ◌<◌}
use mathlib.Core.Path.{◌≡◌, refl, sym, ◌∙◌, subst}
use mathlib.Core.Bool.{true, ◌&&◌}
use mathlib.Core.List.{List, []}
use borrow.Author.Tests.{eqb-true, eq-eqb}
use lib.Dec.{eqb}
use lib.ListN.{length}
use lib.Seq.{ext_get_or}
use Rattle.base_words.specs.All.{all}
use Rattle.base_words.specs.Each.{tab}
use Rattle.base_words.specs.Words.{at}
use Rattle.base_words.proofs.AllLaws.{all_at, all_of, and_left, and_right}
use Rattle.base_words.proofs.ListLaws.{length-tab, get_d_tab}
use Rattle.base_words.proofs.PickLaws.{and_true}
use Rattle.base_table.specs.Table.{pool_count}
use Rattle.state_figures.specs.Figures.{record_of, counted, record_at, same_record, agree}
use Rattle.state_figures.proofs.RecordLaws.{same_is, record_long}
use Rattle.proof_demands.specs.Demands.{RecordsOfThree}

same_self : (w : List ℕ) → same_record w w ≡ true
unfolding same_record
same_self w = rw (eq-eqb (at w 0) (at w 0) refl, eq-eqb (at w 1) (at w 1) refl, eq-eqb (at w 2) (at w 2) refl)

module _ (t s : List ℕ) where
  pub record_counted : (p : ℕ) → p < pool_count t → record_at (counted t s) p ≡ record_of s p
  unfolding counted
  record_counted p l = get_d_tab (record_of s) (pool_count t) p [] l

  pub counted_agrees : agree (counted t s) t s ≡ true
  unfolding agree counted
  counted_agrees =
      and_true (eqb (length (counted t s)) (pool_count t)) (all (λ p. same_record (record_at (counted t s) p) (record_of s p)) (pool_count t))
      (eq-eqb (length (counted t s)) (pool_count t) (length-tab (record_of s) (pool_count t)))
      (all_of (λ p. same_record (record_at (counted t s) p) (record_of s p)) (pool_count t) (λ p l. rw (record_counted p l) (same_self (record_of s p))))

  pub agree-counted : (rs : List (List ℕ)) → RecordsOfThree rs → agree rs t s ≡ true → rs ≡ counted t s
  unfolding agree counted
  agree-counted rs three e =
      let n : length rs ≡ pool_count t = eqb-true (length rs) (pool_count t) (and_left (eqb (length rs) (pool_count t)) (all (λ p. same_record (record_at rs p) (record_of s p)) (pool_count t)) e) in
      ext_get_or [] rs (tab (record_of s) (pool_count t)) (n ∙ sym (length-tab (record_of s) (pool_count t)))
      (λ p l.
      let h : p < pool_count t = subst (λ m. p < m) n l in
      same_is (record_at rs p) (record_of s p) (three p l) (record_long s p)
      (all_at (λ p. same_record (record_at rs p) (record_of s p)) (pool_count t) (and_right (eqb (length rs) (pool_count t)) (all (λ p. same_record (record_at rs p) (record_of s p)) (pool_count t)) e) p h)
      ∙ sym (get_d_tab (record_of s) (pool_count t) p [] h))
