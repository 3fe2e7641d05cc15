-- THE LINES ON THE WAY TO A PLACE are the same in two texts that have the same bytes up to it. Assumes nothing.
use mathlib.Core.Path.{◌≡◌, ◌∙◌, refl, sym, ap}
use mathlib.Core.Bool.{Bool, true, false}
use mathlib.Core.List.{List, [], ◌∷◌, ◌++◌}
use Prim.Native.Nat.{ℕ, zero, suc, ◌≤◌}
use native.Mathlib.Omega.{arith}
use lib.ListN.{length, take}
use Rattle.base_words.specs.Pick.{if◌then◌or_else◌}
use Rattle.base_words.specs.Words.{part}
use Rattle.log_text.specs.declared.Cursor.{Cursor}
use Rattle.log_text.specs.declared.Move.TheVariants.{On}
use Rattle.log_text.specs.Logs.{advance, by_move, closes_event, line_of, lines_from}
use Rattle.log_text.proofs.Laws.{with_line, lines_is}
use Rattle.proof_local.proofs.Beginnings.{piece}
use Rattle.proof_local.proofs.SameMoves.{same_on}
use Rattle.proof_local.proofs.Keeping.{Kept, kept_on, kept_stands}
use Rattle.proof_local.proofs.Reached.{Reaches, not_back}

-- on the way from c to d these lines are told, in t and in u
pub record Told (t u : List ℕ) (c d : Cursor) : Type 0 where
  pub lines : List (List ℕ)
  pub in_t : lines_from t c ≡ lines ++ lines_from t d
  pub in_u : lines_from u c ≡ lines ++ lines_from u d

lines_on : (t : List ℕ) (c d : Cursor) → advance t c ≡ On d → lines_from t c ≡ with_line t c d (lines_from t d)
unfolding by_move
lines_on t c d m = lines_is t c ∙ rw m refl

module _ (t u : List ℕ) (n : ℕ) (inside : n ≤ length t) (within : n ≤ length u) (alike : take n u ≡ take n t) where
  part_alike : (a b : ℕ) → b ≤ n → part u a b ≡ part t a b
  part_alike a b h = sym (piece u n within a b h) ∙ ap (λ (l : List ℕ). part l a b) alike ∙ piece t n inside a b h

  one_more_lem : (c e d : Cursor) → e.to ≤ n → advance t c ≡ On e → advance u c ≡ On e → Told t u e d → Told t u c d
  one_more_lem c e d h mt mu k = go (closes_event c.level e.level) refl
    where
      as_line : (v : List ℕ) → advance v c ≡ On e → (b : Bool) → closes_event c.level e.level ≡ b → lines_from v c ≡ (if b then line_of v e ∷ lines_from v e or_else lines_from v e)
      as_line v m b z = lines_on v c e m ∙ (unfold with_line in ap (λ (x : Bool). if x then line_of v e ∷ lines_from v e or_else lines_from v e) z)

      same_line : line_of u e ≡ line_of t e
      same_line = unfold line_of in part_alike e.from e.to h

      go : (b : Bool) → closes_event c.level e.level ≡ b → Told t u c d
      go true z =
          record {
            lines = line_of t e ∷ k.lines;
            in_t = as_line t mt true z ∙ (unfold if◌then◌or_else◌ in ap (λ (l : List (List ℕ)). line_of t e ∷ l) k.in_t);
            in_u = as_line u mu true z ∙ (unfold if◌then◌or_else◌ in ap (λ (x : List ℕ). x ∷ lines_from u e) same_line ∙ ap (λ (l : List (List ℕ)). line_of t e ∷ l) k.in_u);
          }
      go false z = record { lines = k.lines; in_t = as_line t mt false z ∙ (unfold if◌then◌or_else◌ in k.in_t); in_u = as_line u mu false z ∙ (unfold if◌then◌or_else◌ in k.in_u) }

  module _ (d : Cursor) (before : d.at ≤ n) where
    -- THE LAW
    pub told_alike : (k : ℕ) (c : Cursor) → Kept t c → Reaches t d k c → Told t u c d
    told_alike zero c w r = record { lines = []; in_t = ap (lines_from t) r; in_u = ap (lines_from u) r }
    told_alike (suc k) c w r =
        let e : Cursor = r.0 in
        let v : Kept t e = kept_on t c w e r.1.0 in
        let far : e.at ≤ n = omega (arith, before, not_back t d k e r.1.1) in
        one_more_lem c e d (omega (arith, far, v.line)) r.1.0
        (same_on t u n within alike c (kept_stands t c w n inside (omega (arith, before, not_back t d (suc k) c r))) e far r.1.0)
        (told_alike k e v r.1.1)
