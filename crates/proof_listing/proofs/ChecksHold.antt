-- Where no check of a model is broken every check holds, of the model and of each of its pools. Assumes nothing.
use Prim.Native.Nat.{ℕ, ◌<◌}
use mathlib.Core.Path.{◌≡◌, refl}
use mathlib.Core.Bool.{Bool, true, false, not}
use mathlib.Core.List.{List}
use native.Mathlib.Omega.{arith}
use Rattle.base_words.specs.All.{all}
use Rattle.base_words.specs.Each.{each}
use Rattle.base_words.specs.Pick.{if◌then◌or_else◌}
use Rattle.base_words.specs.Counts.{names}
use Rattle.base_words.proofs.AllLaws.{and_right}
use Rattle.base_table.specs.Table.{pool_count}
use Rattle.check_model.specs.Checks.{Pool, check1, check2, check3, check4, check5, check6, check7, check8, not_sent_there, numbers_differ, one_start, start_receives, edges_meet, tasks_differ, names_apart, one_default, binds_differ, lowest}
use Rattle.check_lowest.specs.Model.{pool_at, model_of}
use Rattle.proof_listing.proofs.Counting.{each-tab}

-- every check of a model
pub record Checked (ps : List Pool) : Type 0 where
  pub first : check1 ps ≡ true
  pub second : each check2 ps ≡ true
  pub third : each check3 ps ≡ true
  pub fourth : each check4 ps ≡ true
  pub fifth : each check5 ps ≡ true
  pub sixth : check6 ps ≡ true
  pub seventh : each check7 ps ≡ true
  pub eighth : each check8 ps ≡ true

-- one link of the chain: the check holds, and the chain goes on
link : (b : Bool) (k n : ℕ) → (k ≡ 0 → ⊥) → (if not b then k or_else n) ≡ 0 → (b ≡ true) × (n ≡ 0)
unfolding if◌then◌or_else◌
link true k n z e = (refl, e)
link false k n z e = absurd (z e)

-- CHECKS HOLD
pub checks_hold : (ps : List Pool) → lowest ps ≡ 0 → Checked ps
unfolding lowest
checks_hold ps e =
    let a = link (check1 ps) numbers_differ _ (λ z. omega arith) e in
    let b = link (each check2 ps) one_start _ (λ z. omega arith) a.1 in
    let c = link (each check3 ps) start_receives _ (λ z. omega arith) b.1 in
    let d = link (each check4 ps) edges_meet _ (λ z. omega arith) c.1 in
    let f = link (each check5 ps) tasks_differ _ (λ z. omega arith) d.1 in
    let g = link (check6 ps) names_apart _ (λ z. omega arith) f.1 in
    let h = link (each check7 ps) one_default _ (λ z. omega arith) g.1 in
    let i = link (each check8 ps) binds_differ 0 (λ z. omega arith) h.1 in
    record {
      first = a.0;
      second = b.0;
      third = c.0;
      fourth = d.0;
      fifth = f.0;
      sixth = g.0;
      seventh = h.0;
      eighth = i.0;
    }

-- every check of one pool
pub record PoolChecked (p : Pool) : Type 0 where
  pub second : check2 p ≡ true
  pub third : check3 p ≡ true
  pub fourth : check4 p ≡ true
  pub fifth : check5 p ≡ true
  pub sixth : not_sent_there p ≡ true
  pub seventh : check7 p ≡ true
  pub eighth : check8 p ≡ true

-- A TABLE that breaks no check
module _ (t : List ℕ) (sound : lowest (model_of t) ≡ 0) where
  pub pool_checked : (p : ℕ) → p < pool_count t → PoolChecked (pool_at t p)
  unfolding model_of check6
  pool_checked p l =
      let c : Checked (model_of t) = checks_hold (model_of t) sound in
      record {
        second = each-tab check2 (pool_at t) (pool_count t) c.second p l;
        third = each-tab check3 (pool_at t) (pool_count t) c.third p l;
        fourth = each-tab check4 (pool_at t) (pool_count t) c.fourth p l;
        fifth = each-tab check5 (pool_at t) (pool_count t) c.fifth p l;
        sixth =
            each-tab not_sent_there (pool_at t) (pool_count t) (and_right (all (λ m. _) names) (each not_sent_there (model_of t)) c.sixth) p l;
        seventh = each-tab check7 (pool_at t) (pool_count t) c.seventh p l;
        eighth = each-tab check8 (pool_at t) (pool_count t) c.eighth p l;
      }
