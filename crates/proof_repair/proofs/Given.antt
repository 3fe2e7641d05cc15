-- WHAT A REPAIR GIVES, where it gives something: there was room, the log stands first in the buffer, and the later bytes stayed. Assumes nothing.
use Prim.Native.Nat.{ℕ, ◌≤◌, ◌<◌}
use mathlib.Core.Logic.{◌⊎◌, inl, inr}
use mathlib.Core.Path.{◌≡◌, ◌∙◌, refl, sym, ap, subst}
use mathlib.Core.Bool.{Bool, true, false}
use mathlib.Core.List.{List, ◌++◌}
use native.Mathlib.Omega.{arith}
use lib.Dec.{ltb}
use lib.ListN.{length, take, drop}
use lib.Seq.{take-append_seam, drop-append_seam}
use borrow.Author.Tests.{ltb-false, lt-ltb, le-ltb}
use Rattle.base_words.specs.Pick.{if◌then◌or_else◌}
use Rattle.log_text.specs.Logs.{log_most}
use Rattle.log_repair.specs.Repair.{Repair, refused, repair_given}

-- the log that stands in the buffer
abbrev pub output : Repair → List ℕ
output r = take r.length r.buffer

abbrev whole : List ℕ → ℕ → ℕ → List ℕ → Repair
whole w events dropped out = record { number = 0; length = length w; kept = events; dropped = dropped; buffer = w ++ drop (length w) out }

-- w was given
pub record Gave (w : List ℕ) (events dropped : ℕ) (out : List ℕ) (r : Repair) : Type 0 where
  pub short : length w ≤ log_most
  pub room : length w ≤ length out
  pub is : r ≡ whole w events dropped out
  pub log : output r ≡ w

module _ (w : List ℕ) (events dropped : ℕ) (out : List ℕ) where
  pub gave : length w ≤ log_most → length w ≤ length out → Gave w events dropped out (repair_given w events dropped out)
  unfolding repair_given if◌then◌or_else◌
  gave h k =
      let e : repair_given w events dropped out ≡ whole w events dropped out = rw (le-ltb log_most (length w) h, le-ltb (length out) (length w) k) refl in
      record { short = h; room = k; is = e; log = ap output e ∙ take-append_seam w (drop (length w) out) }

  -- accepted, or no room
  by_room : (a b : Bool) → ltb log_most (length w) ≡ a → ltb (length out) (length w) ≡ b → Gave w events dropped out (repair_given w events dropped out) ⊎ (repair_given w events dropped out ≡ refused 5 out)
  unfolding repair_given if◌then◌or_else◌
  by_room true b e f = inr (rw e refl)
  by_room false true e f = inr (rw (e, f) refl)
  by_room false false e f = inl (gave (ltb-false log_most (length w) e) (ltb-false (length out) (length w) f))

  pub gave_or : Gave w events dropped out (repair_given w events dropped out) ⊎ (repair_given w events dropped out ≡ refused 5 out)
  gave_or = by_room (ltb log_most (length w)) (ltb (length out) (length w)) refl refl

  refused_five : (refused 5 out).number ≡ 0 → ⊥
  unfolding refused
  refused_five e = omega (arith, e)

  pub accepted_gave : (repair_given w events dropped out).number ≡ 0 → Gave w events dropped out (repair_given w events dropped out)
  accepted_gave z = go gave_or
    where
      go : Gave w events dropped out (repair_given w events dropped out) ⊎ (repair_given w events dropped out ≡ refused 5 out) → Gave w events dropped out (repair_given w events dropped out)
      go (inl k) = k
      go (inr e) = absurd (refused_five (ap (λ (r : Repair). r.number) (sym e) ∙ z))
