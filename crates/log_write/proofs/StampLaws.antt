-- The date of an event, in its three cases. Assumes nothing.
use Prim.Native.Nat.{ℕ, ◌<◌, ◌≤◌}
use mathlib.Core.Path.{◌≡◌, refl, sym}
use mathlib.Core.List.{List, [], ◌++◌}
use native.Mathlib.Omega.{arith}
use borrow.Author.Tests.{eq-eqb, ne_eqb, lt-ltb, le-ltb}
use Rattle.base_words.specs.Pick.{if◌then◌or_else◌}
use Rattle.base_words.specs.Text.{bytes}
use Rattle.write_buffer.specs.Buffers.{Put}
use Rattle.write_buffer.proofs.OverLaws.{put_nothing, put_as, put_within}
use Rattle.log_write.specs.Times.{moments_end, moment_text, date_opening, stamp_text, stamp_most}

module _ (m : ℕ) where
  none : m ≡ 0 → stamp_text m ≡ []
  unfolding stamp_text if◌then◌or_else◌
  none e = rw (eq-eqb m 0 e) refl

  late : (m ≡ 0 → ⊥) → moments_end ≤ m → stamp_text m ≡ []
  unfolding stamp_text if◌then◌or_else◌
  late n h = rw (ne_eqb m 0 n, le-ltb m moments_end h) refl

  dated : (m ≡ 0 → ⊥) → m < moments_end → stamp_text m ≡ date_opening ++ moment_text m ++ bytes "\"/>"
  unfolding stamp_text if◌then◌or_else◌
  dated n h = rw (ne_eqb m 0 n, lt-ltb m moments_end h) refl

  module _ {out : List ℕ} {from : ℕ} where
    nothing : stamp_text m ≡ [] → Put (stamp_text m) stamp_most from out from out
    nothing e = put_as (stamp_text m) (sym e) (put_within (put_nothing from out) (omega arith))

    pub stamp_none : m ≡ 0 → Put (stamp_text m) stamp_most from out from out
    stamp_none e = nothing (none e)

    pub stamp_late : (m ≡ 0 → ⊥) → moments_end ≤ m → Put (stamp_text m) stamp_most from out from out
    stamp_late n h = nothing (late n h)

    pub stamp_dated : {r : ℕ} {now : List ℕ} → (m ≡ 0 → ⊥) → m < moments_end → Put (date_opening ++ moment_text m ++ bytes "\"/>") stamp_most from out r now → Put (stamp_text m) stamp_most from out r now
    stamp_dated n h p = put_as (stamp_text m) (sym (dated n h)) p
