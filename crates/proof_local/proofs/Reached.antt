-- A READER COMES TO A PLACE ALIKE in two texts that have the same bytes up to it. Assumes nothing.
use mathlib.Core.Path.{◌≡◌, ◌∙◌, refl, ap, subst}
use mathlib.Core.List.{List}
use Prim.Native.Nat.{ℕ, zero, suc, ◌<◌, ◌≤◌}
use native.Mathlib.Omega.{arith}
use lib.ListN.{length, take}
use Rattle.log_text.specs.declared.Cursor.{Cursor}
use Rattle.log_text.specs.declared.Move.TheVariants.{On}
use Rattle.log_text.specs.Logs.{advance, scan_from}
use Rattle.log_text.proofs.Laws.{Beyond, advance_beyond, scan_on}
use Rattle.proof_local.proofs.SameMoves.{same_on}
use Rattle.proof_local.proofs.Keeping.{Kept, kept_on, kept_stands}

-- from c to d in k moves
abbrev pub Reaches : List ℕ → Cursor → ℕ → Cursor → Type 0
Reaches t d zero c = c ≡ d
Reaches t d (suc k) c = (e : Cursor) × ((advance t c ≡ On e) × Reaches t d k e)

ahead : (t : List ℕ) (c e : Cursor) → advance t c ≡ On e → c.at < e.at
ahead t c e m = subst (Beyond c.at) m (advance_beyond t c)

pub not_back : (t : List ℕ) (d : Cursor) (k : ℕ) (c : Cursor) → Reaches t d k c → c.at ≤ d.at
not_back t d zero c r = let z : c.at ≡ d.at = ap (λ (x : Cursor). x.at) r in omega (arith, z)
not_back t d (suc k) c r = omega (arith, ahead t c r.0 r.1.0, not_back t d k r.0 r.1.1)

-- THE LAW
module _ (t u : List ℕ) (n : ℕ) (inside : n ≤ length t) (within : n ≤ length u) (alike : take n u ≡ take n t) (d : Cursor) (before : d.at ≤ n) where
  pub reaches_alike : (k : ℕ) (c : Cursor) → Kept t c → Reaches t d k c → Reaches u d k c
  reaches_alike zero c w r = r
  reaches_alike (suc k) c w r = (
    r.0,
    (
      same_on t u n within alike c (kept_stands t c w n inside (omega (arith, before, not_back t d (suc k) c r))) r.0 (omega (arith, before, not_back t d k r.0 r.1.1)) r.1.0,
      reaches_alike k r.0 (kept_on t c w r.0 r.1.0) r.1.1,
    ),
  )

pub kept_reached : (t : List ℕ) (d : Cursor) (k : ℕ) (c : Cursor) → Kept t c → Reaches t d k c → Kept t d
kept_reached t d zero c w r = subst (Kept t) r w
kept_reached t d (suc k) c w r = kept_reached t d k r.0 (kept_on t c w r.0 r.1.0) r.1.1

-- what is read from there is what is read from here
pub scan_reached : (t : List ℕ) (d : Cursor) (k : ℕ) (c : Cursor) → Reaches t d k c → scan_from t c ≡ scan_from t d
scan_reached t d zero c r = ap (scan_from t) r
scan_reached t d (suc k) c r = scan_on t c (advance t c) refl r.0 r.1.0 ∙ scan_reached t d k r.0 r.1.1
