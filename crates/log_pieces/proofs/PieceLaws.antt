-- A piece that was measured has room in the lent buffer, or not. w is its text, out the buffer. Assumes nothing.
use Prim.Native.Nat.{ℕ, ◌≤◌, ◌<◌}
use mathlib.Core.Path.{◌≡◌, ◌∙◌, sym, ap, refl}
use mathlib.Core.List.{List, [], ◌∷◌, ◌++◌, append_assoc}
use native.Mathlib.Omega.{arith}
use lib.Dec.{ltb}
use lib.ListN.{length, drop}
use borrow.Author.Tests.{lt-ltb, le-ltb}
use Rattle.base_words.specs.Pick.{if◌then◌or_else◌}
use Rattle.base_words.specs.Text.{bytes}
use Rattle.meaning.specs.declared.Tuple.{Tuple}
use Rattle.write_buffer.specs.Buffers.{last_place, Put}
use Rattle.write_buffer.proofs.OverLaws.{put_length, put_over, over_all, put_as}
use Rattle.write_decimals.specs.Decimals.{shown}
use Rattle.write_lines.specs.Lines.{values_line}
use Rattle.log_pieces.specs.declared.Piece.{Piece}
use Rattle.log_pieces.specs.Pieces.{Pieced, post_line, piece_in}

module _ {w none other : List ℕ} {most n : ℕ} (few : most ≤ last_place) (measured : Put w most 0 none n other) where
  long : n ≡ length w
  long = put_length measured few

  pub piece_short : (out : List ℕ) (p : Piece) → p ≡ record { number = 5; length = 0 } → length out < n → ◌≡◌ {A = Pieced} (record { number = p.number; length = p.length; buffer = out }) (piece_in w out)
  unfolding piece_in if◌then◌or_else◌
  piece_short out p e h = rw (e, lt-ltb (length out) (length w) (omega (arith, h, long))) refl

  pub piece_written : {out y : List ℕ} {r : ℕ} → length out ≤ last_place → n ≤ length out → Put w most 0 out r y → ◌≡◌ {A = Pieced} (record { number = 0; length = r; buffer = y }) (piece_in w out)
  unfolding piece_in if◌then◌or_else◌
  piece_written {out} {y} {r} within h put =
      let room : length w ≤ length out = omega (arith, h, long) in
      let a : r ≡ length w = put_length put few in
      let b : y ≡ w ++ drop (length w) out = (put_over put within).1 ∙ over_all w out room in
      rw (le-ltb (length out) (length w) room) (λ i. record { number = 0; length = a i; buffer = b i })

-- the line of a post, piece by piece
pub post_line_lem : {out now : List ℕ} {most from r : ℕ} (name : ℕ) (g : Tuple) → Put (bytes "post " ++ shown name ++ (58 ∷ []) ++ values_line g) most from out r now → Put (post_line name g) most from out r now
unfolding post_line
post_line_lem name g h = put_as (bytes "post " ++ (shown name ++ (bytes ":" ++ values_line g))) (ap (λ (l : List ℕ). bytes "post " ++ l) (append_assoc (shown name) (bytes ":") (values_line g))) h
