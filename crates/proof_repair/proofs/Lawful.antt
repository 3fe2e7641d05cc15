-- WHAT THE JUDGE SAYS OF A REPAIRED LOG: never that it is no log; and where the whole log was lawful, what is kept of a beginning of it is. m is a table, v a version, a a log. Assumes nothing.
use Rattle.xml_skip.specs.Skipping.{Reached, fault_at}
use Rattle.std.specs.Prelude.{Ok, Err}
use Prim.Native.Nat.{ℕ, ◌+◌, ◌≤◌}
use mathlib.Core.Path.{◌≡◌, ◌∙◌, refl, sym, ap}
use mathlib.Core.Bool.{Bool, true, false, false≢true}
use mathlib.Core.List.{List, [], ◌∷◌}
use native.Mathlib.Omega.{arith}
use lib.Dec.{eqb}
use borrow.Author.Tests.{eqb-false}
use lib.ListN.{length, take}
use Rattle.base_words.specs.Pick.{if◌then◌or_else◌}
use Rattle.state_fits.specs.Fresh.{fresh}
use Rattle.log_text.specs.Logs.{scan, lines_of}
use Rattle.log_judge.specs.declared.Judged.{Judged}
use Rattle.log_judge.specs.Judge.{Taking, line_taken, judgment, lawful, judged_by, judged_end, judged_from}
use Rattle.log_repair.specs.Repair.{repaired_to}
use Rattle.engine.specs.Engine.{asked_number, stepped, posted_to}
use Rattle.engine.specs.Calls.{judged_to}
use Rattle.engine.proofs.CallLaws.{by_asked}
use Rattle.proof_local.proofs.Around.{is_past}
use Rattle.proof_logs.proofs.LogLaws.{beginning_lawful}
use Rattle.proof_repair.proofs.Given.{output}
use Rattle.proof_repair.proofs.Repairs.{IsLog, Right, repaired_right}
use Rattle.proof_repair.proofs.Beginnings.{first_lines}

not_past : (q p : ℕ) → fault_at q ≡ Ok p → ⊥
not_past q p e = false≢true (ap is_past e)

-- 23 comes of the text alone
lines_never : (take : List ℕ → List ℕ → Taking) (ws : List (List ℕ)) (k : ℕ) (z : List ℕ) → (judged_by take ws k z).number ≡ 23 → ⊥
unfolding judged_by if◌then◌or_else◌
lines_never take [] k z e = omega (arith, e)
lines_never take (w ∷ ws) k z e = go (eqb (take w z).number 0) (take w z).right e (lines_never take ws (k + 1) (take w z).state)
  where
    go : (a b : Bool) → (if a then if b then judged_by take ws (k + 1) (take w z).state or_else judgment 24 k 0 or_else judgment 24 k (take w z).number).number ≡ 23 → ((judged_by take ws (k + 1) (take w z).state).number ≡ 23 → ⊥) → ⊥
    go true true q r = r q
    go true false q r = omega (arith, q)
    go false b q r = omega (arith, q)

module _ (m : List ℕ) (v : ℕ) where
  log_never : (u : List ℕ) → IsLog u → (judged_to m v u).number ≡ 23 → ⊥
  unfolding judged_to judged_from judged_end if◌then◌or_else◌
  log_never u l e = go (eqb (asked_number m v) 0) (scan u).end l.1 e
    where
      go : (b : Bool) (s : Reached) → s ≡ Ok l.0 → (if b then judged_end s (judged_by (line_taken (stepped m) (posted_to m)) (lines_of u) 0 (fresh m v)) or_else judgment (asked_number m v) 0 0).number ≡ 23 → ⊥
      go true (Ok q) f k = lines_never (line_taken (stepped m) (posted_to m)) (lines_of u) 0 (fresh m v) k
      go true (Err q) f k = not_past q.place l.0 f
      go false s f k = by_asked (λ n. n ≡ 23 → ⊥) m v (λ h. omega (arith, h)) (λ h. omega (arith, h)) (λ h. omega (arith, h)) k

  -- "`judge` never gives 23 to it", under either version
  pub never_23 : (t out : List ℕ) → (repaired_to t out).number ≡ 0 → (judged_to m v (output (repaired_to t out))).number ≡ 23 → ⊥
  never_23 t out z = log_never (output (repaired_to t out)) (repaired_right t out z).is_log

  module _ (a : List ℕ) (e : judged_to m v a ≡ lawful) where
    pub a_log : IsLog a
    unfolding judged_to judged_from judged_end if◌then◌or_else◌
    a_log = go (eqb (asked_number m v) 0) refl (scan a).end refl (ap (λ (j : Judged). j.number) e)
      where
        go : (b : Bool) → eqb (asked_number m v) 0 ≡ b → (s : Reached) → (scan a).end ≡ s
            → (if b then judged_end s (judged_by (line_taken (stepped m) (posted_to m)) (lines_of a) 0 (fresh m v)) or_else judgment (asked_number m v) 0 0).number ≡ 0 → IsLog a
        go true r (Ok q) f k = (q, f)
        go true r (Err q) f k = absurd (omega (arith, k))
        go false r s f k = absurd (eqb-false (asked_number m v) 0 r k)

    -- "if the whole log was lawful, so is what is kept", under the same version
    pub kept_lawful : (n : ℕ) → n ≤ length a → (out : List ℕ) → (repaired_to (take n a) out).number ≡ 0 → judged_to m v (output (repaired_to (take n a) out)) ≡ lawful
    kept_lawful n h out z =
        let k : Right (take n a) out (repaired_to (take n a) out) = repaired_right (take n a) out z in
        beginning_lawful m v a e (repaired_to (take n a) out).kept (output (repaired_to (take n a) out)) (k.is_log.0, k.is_log.1, first_lines a a_log n h out z)
